-- What rows print for one lane: the values of one controller that is updated with the lane's cells. Assumes nothing.
use Rattle.std.specs.Prelude.{◌≡◌, refl, None, List, [], ◌∷◌, ◌++◌, ℕ, zero, suc, ◌+◌, ◌-◌, ◌*◌, ◌≤◌, ◌<◌, Float, length, get_or, take, drop}
use Rattle.std.proofs.Common.{ap, subst, ◌∙◌, append_assoc, suc-mul, zero-mul, zero-add, arith, lt-ltb}
use Rattle.std.specs.Float.{nan}
use Rattle.std.proofs.Math.Seq.{drop-append-add}
use Rattle.lanes.specs.Runs.{answers, left, answers_length}
use Rattle.lanes.specs.Lanes.{For, for, of_lane}
use Rattle.refusal.specs.Answers.{Answer, given}
use Rattle.npy.specs.declared.reader.Kind.{Kind}
use Rattle.npy.specs.Header.{cell_width}
use Rattle.npy.specs.Cell.{cells_of}
use Rattle.npy.specs.Lines.{word_of}
use Rattle.npy.specs.LinesLaws.{line_column}
use Rattle.bank.specs.declared.lane.Op.{Op}
use Rattle.bank.specs.declared.lane.Reply.{Reply}
use Rattle.bank.specs.declared.Bank.{Bank}
use Rattle.bank.specs.Lane.{plain}
use Rattle.bank.specs.Bank.{call_bank}
use Rattle.bank.specs.Single.{Single, call_single, single_run, single_after}
use Rattle.bank.specs.BankRuns.{bank_machine, run, after}
use Rattle.bank.proofs.RunLaws.{lies_run, lies_after}
use Rattle.bank.specs.RunLaws.{Lies}
use Rattle.rows.specs.Rows.{next_lane, update_calls, values_of}
use Rattle.rows.specs.RowsLaws.{values_length}
use Rattle.trace.specs.declared.course.Course.{Course}
use Rattle.trace.specs.LanesInTurn.{in_turn, read_each, lane_of, lane_of_each}
use Rattle.trace.specs.Trace.{row_width, calls_of_row, row_line, after_row, row_lines}
use Rattle.trace.specs.Taken.{update_of, calls_more, row_length, row_count}

-- ---- the calls of a file

-- a row's calls are its lanes' updates in turn
pub updates_turn : (kind : Kind) (k n lane : ℕ) (s : List ℕ) → lane + n ≡ k
    → update_calls k lane (cells_of kind (n * 3) s) ≡ in_turn lane (read_each (update_of kind) (3 * cell_width kind) n s)
unfolding in_turn read_each update_calls cells_of next_lane
updates_turn kind k zero lane s e = refl
updates_turn kind k (suc zero) lane s e = calls_more kind k lane 0 s
updates_turn kind k (suc (suc n)) lane s e =
    let next : suc lane < k = omega arith in
    calls_more kind k lane (suc n) s
    ∙ ap (λ (l : List (For Op)). for lane (update_of kind s) ∷ l)
    (rw (lt-ltb (suc lane) k next) (updates_turn kind k (suc n) (suc lane) (drop (3 * cell_width kind) s) (omega arith)))

-- ---- the answers of a run

unfoldable pub things : {A : Type 0} → List (For A) → List A
things [] = []
things (x ∷ xs) = x.thing ∷ things xs

-- a run that calls lane after lane answers lane after lane
pub run-turn : (ops : List Op) (b : Bank) (lane : ℕ) → run b (in_turn lane ops) ≡ in_turn lane (things (run b (in_turn lane ops)))
unfolding answers in_turn things
run-turn [] b lane = refl
run-turn (op ∷ ops) b lane =
    ap (λ (l : List (For (Answer Reply))). for lane (call_bank b lane op).answer ∷ l) (run-turn ops (call_bank b lane op).state (suc lane))

pub value_of_answer : (xs : List (For (Answer Reply))) (i : ℕ) (d : Answer Reply) → i < length xs → get_or (values_of xs) i nan ≡ (given (get_or (things xs) i d)).y
unfolding values_of things
value_of_answer [] i d h = absurd (omega arith)
value_of_answer (x ∷ xs) zero d h = refl
value_of_answer (x ∷ xs) (suc i) d h = value_of_answer xs i d (omega arith)

pub things_length : {A : Type 0} (xs : List (For A)) → length (things xs) ≡ length xs
unfolding things
things_length [] = refl
things_length (x ∷ xs) = ap suc (things_length xs)

-- the one answer of a lane stands in its place
pub answered_at : (b : Bank) (calls : List (For Op)) (ops : List Op) → calls ≡ in_turn 0 ops → (L : ℕ) (d : Answer Reply) → L < length (run b calls)
    → of_lane L (run b calls) ≡ get_or (things (run b calls)) L d ∷ []
answered_at b calls ops e L d h =
    let turn : run b calls ≡ in_turn 0 (things (run b calls)) = rw e (run-turn ops b 0) in
    let len = things_length (run b calls) in
    ap (of_lane L) turn ∙ lane_of L (things (run b calls)) d (omega arith)

-- ---- one controller

-- the values that it answers
unfoldable pub single_values : Single → List Op → List Float
single_values c [] = []
single_values c (op ∷ ops) = (given (call_single c op).answer).y ∷ single_values (call_single c op).single ops

-- they depend on the calls so far
pub single_values-same : (r : ℕ) (c : Single) (ops other : List Op) (d : Op) → r < length ops → r < length other
    → ((q : ℕ) → q ≤ r → get_or ops q d ≡ get_or other q d) → get_or (single_values c ops) r nan ≡ get_or (single_values c other) r nan
unfolding single_values
single_values-same r c [] other d h g e = absurd (omega arith)
single_values-same r c (op ∷ ops) [] d h g e = absurd (omega arith)
single_values-same zero c (op ∷ ops) (o ∷ other) d h g e = let s : op ≡ o = e 0 (omega arith) in rw s
single_values-same (suc r) c (op ∷ ops) (o ∷ other) d h g e =
    let s : op ≡ o = e 0 (omega arith) in
    rw s (single_values-same r (call_single c o).single ops other d (omega arith) (omega arith) (λ (q : ℕ) (l : q ≤ r). e (suc q) (omega arith)))

-- ---- a row

-- the update of lane L in a row
unfoldable pub lane_update : Kind → ℕ → List ℕ → Op
lane_update kind L s = update_of kind (drop (L * (3 * cell_width kind)) s)

pub row-turn : (c : Course) (s : List ℕ) → calls_of_row c s ≡ in_turn 0 (read_each (update_of c.kind) (3 * cell_width c.kind) c.lanes s)
unfolding calls_of_row
row-turn c s = updates_turn c.kind c.lanes c.lanes 0 s (zero-add c.lanes)

pub row_of_lane : (c : Course) (s : List ℕ) (L : ℕ) → L < c.lanes → of_lane L (calls_of_row c s) ≡ lane_update c.kind L s ∷ []
unfolding lane_update
row_of_lane c s L h = ap (of_lane L) (row-turn c s) ∙ lane_of_each (update_of c.kind) (3 * cell_width c.kind) c.lanes s L h

-- what is printed for it is its controller's answer
pub row-value : (c : Course) (s : List ℕ) (L : ℕ) (σ : Single) → L ≤ 7 → L < c.lanes → Lies L c.bank σ
    → get_or (values_of (run c.bank (calls_of_row c s))) L nan ≡ (given (call_single σ (lane_update c.kind L s)).answer).y
unfolding answers
row-value c s L σ h l lies =
    let b = c.bank in
    let op = lane_update c.kind L s in
    let d : Answer Reply = plain None in
    let len : length (run b (calls_of_row c s)) ≡ c.lanes = answers_length bank_machine (calls_of_row c s) b ∙ row_count c s in
    let told : of_lane L (run b (calls_of_row c s)) ≡ get_or (things (run b (calls_of_row c s))) L d ∷ [] = answered_at b (calls_of_row c s) _ (row-turn c s) L d (omega arith) in
    let heard : of_lane L (run b (calls_of_row c s)) ≡ (call_single σ op).answer ∷ [] = lies_run L h (calls_of_row c s) b σ lies ∙ ap (single_run σ) (row_of_lane c s L l) in
    let same : get_or (things (run b (calls_of_row c s))) L d ≡ (call_single σ op).answer = cc in
    value_of_answer (run b (calls_of_row c s)) L d (omega arith) ∙ ap (λ (a : Answer Reply). (given a).y) same

-- and after it its controller is updated
pub row_lies : (c : Course) (s : List ℕ) (L : ℕ) (σ : Single) → L ≤ 7 → L < c.lanes → Lies L c.bank σ
    → Lies L (after c.bank (calls_of_row c s)) (call_single σ (lane_update c.kind L s)).single
unfolding left
row_lies c s L σ h l lies =
    subst (λ (ops : List Op). Lies L (after c.bank (calls_of_row c s)) (single_after σ ops)) (row_of_lane c s L l) (lies_after L h (calls_of_row c s) c.bank σ lies)

-- ---- the text

-- the updates of lane L in n rows of k lanes
unfoldable pub lane_updates : Kind → ℕ → ℕ → ℕ → List ℕ → List Op
lane_updates kind k L n s = read_each (lane_update kind L) (k * 3 * cell_width kind) n s

-- the digits of lane L in row r are those of its controller's r-th value
pub rows_word : (r n : ℕ) (c : Course) (s : List ℕ) (L : ℕ) (σ : Single) (rest : List ℕ) → r < n → L ≤ 7 → L < c.lanes → Lies L c.bank σ
    → take 8 (drop (r * (9 * c.lanes) + 9 * L) (row_lines n c s ++ rest)) ≡ word_of (get_or (single_values σ (lane_updates c.kind c.lanes L n s)) r nan)
unfolding row_lines row_line after_row row_width lane_updates read_each single_values
rows_word r zero c s L σ rest h a l lies = absurd (omega arith)
rows_word zero (suc n) c s L σ rest h a l lies =
    let len : length (values_of (run c.bank (calls_of_row c s))) ≡ c.lanes = values_length c.bank (calls_of_row c s) ∙ row_count c s in
    rw (zero-mul (9 * c.lanes), zero-add (9 * L), append_assoc)
    (line_column (values_of (run c.bank (calls_of_row c s))) L _ (omega arith) ∙ ap word_of (row-value c s L σ a l lies))
rows_word (suc r) (suc n) c s L σ rest h a l lies =
    let e : suc r * (9 * c.lanes) + 9 * L ≡ length (row_line c s) + (r * (9 * c.lanes) + 9 * L) = omega (arith, suc-mul r (9 * c.lanes), row_length c s) in
    rw (e, append_assoc, drop-append-add)
    (rows_word r n (after_row c (c.left - 1) s) (drop (row_width c) s) L (call_single σ (lane_update c.kind L s)).single rest (omega arith) a l (row_lies c s L σ a l lies))
