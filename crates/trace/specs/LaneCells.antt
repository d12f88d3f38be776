-- The cells of a file by their row and column: the updates of each lane, and its controller, new from its settings. Assumes nothing.
use Rattle.std.specs.Prelude.{◌≡◌, List, [], ◌∷◌, ℕ, ◌+◌, ◌*◌, ◌≤◌, ◌<◌, Float, length, get_or, drop}
use Rattle.std.proofs.Common.{ap, subst, ◌∙◌, zero-mul, add_assoc, mul_assoc, add-mul, arith, drop-drop}
use Rattle.lanes.specs.Runs.{left}
use Rattle.lanes.specs.Lanes.{of_lane}
use Rattle.refusal.specs.Answers.{given}
use Rattle.rate_pid.specs.RatePid.{new_rate_pid}
use Rattle.npy.specs.declared.reader.Kind.{Kind}
use Rattle.npy.specs.declared.reader.Kind.TheVariants.{F4}
use Rattle.npy.specs.Header.{cell_width, call_header}
use Rattle.npy.specs.Cell.{cell_of}
use Rattle.bank.specs.declared.lane.Op.{Op}
use Rattle.bank.specs.declared.lane.Op.TheVariants.{Update}
use Rattle.bank.specs.Bank.{fresh_bank}
use Rattle.bank.specs.Single.{Single, none, one, opened_single, call_single, single_after}
use Rattle.bank.specs.BankRuns.{after}
use Rattle.bank.proofs.RunLaws.{lies_after, fresh_lies}
use Rattle.bank.specs.RunLaws.{Lies}
use Rattle.trace.specs.LanesInTurn.{in_turn, read_each, each-length, each_at, lane_of_each}
use Rattle.trace.specs.Trace.{open_of, opened_bank, call_start}
use Rattle.trace.specs.Taken.{update_of}
use Rattle.trace.specs.LaneText.{lane_update, lane_updates}

-- the cell in a row and a column of an array with so many columns
unfoldable pub cell_at : Kind → ℕ → List ℕ → ℕ → ℕ → Float
cell_at kind cols s row col = cell_of kind (drop ((row * cols + col) * cell_width kind) s)

place_sum : (r k L c j w : ℕ) → r * (k * w) + L * (c * w) + j * w ≡ (r * k + (L * c + j)) * w
place_sum r k L c j w = simp (add-mul, mul_assoc, add_assoc)

cell_place : (kind : Kind) (k L c r j : ℕ) (s : List ℕ)
    → cell_of kind (drop (j * cell_width kind) (drop (L * (c * cell_width kind)) (drop (r * (k * cell_width kind)) s))) ≡ cell_at kind k s r (L * c + j)
unfolding cell_at
cell_place kind k L c r j s =
    rw (drop-drop (L * (c * cell_width kind)) (r * (k * cell_width kind)) s, drop-drop (j * cell_width kind) _ s, place_sum r k L c j (cell_width kind))

-- lane L's update in row r
unfoldable pub lane_update_at : Kind → ℕ → List ℕ → ℕ → ℕ → Op
lane_update_at kind k s L r = Update (cell_at kind (k * 3) s r (L * 3 + 0)) (cell_at kind (k * 3) s r (L * 3 + 1)) (cell_at kind (k * 3) s r (L * 3 + 2))

pub updates_length : (kind : Kind) (k L n : ℕ) (s : List ℕ) → length (lane_updates kind k L n s) ≡ n
unfolding lane_updates
updates_length kind k L n s = each-length (lane_update kind L) (k * 3 * cell_width kind) n s

pub updates_at : (kind : Kind) (k L n : ℕ) (s : List ℕ) (r : ℕ) (d : Op) → r < n → get_or (lane_updates kind k L n s) r d ≡ lane_update_at kind k s L r
unfolding lane_updates lane_update update_of lane_update_at
updates_at kind k L n s r d h =
    let w = cell_width kind in
    let e0 : 0 * w ≡ 0 = zero-mul w in
    let e1 : 1 * w ≡ w = omega arith in
    let e2 : 2 * w ≡ w + w = omega arith in
    let c0 = cell_place kind (k * 3) L 3 r 0 s in
    let c1 = cell_place kind (k * 3) L 3 r 1 s in
    let c2 = cell_place kind (k * 3) L 3 r 2 s in
    each_at (lane_update kind L) (k * 3 * w) n s r d h ∙ rw (← c0, ← c1, ← c2, e0, e1, e2)

-- lane L's controller, new from its settings
unfoldable pub controller_at : List ℕ → ℕ → Single
controller_at s L = one (new_rate_pid (cell_at F4 5 s L 0) (cell_at F4 5 s L 1) (cell_at F4 5 s L 2) (cell_at F4 5 s L 3) (cell_at F4 5 s L 4))

setting_at : (s : List ℕ) (L j : ℕ) → cell_of F4 (drop (j * 4) (drop (L * 20) s)) ≡ cell_at F4 5 s L j
unfolding cell_at
setting_at s L j = let e : (L * 5 + j) * 4 ≡ L * 20 + j * 4 = omega arith in rw (drop-drop (j * 4) (L * 20) s, e)

opened_single_lem : (s : List ℕ) (L : ℕ) → single_after none (open_of (drop (L * 20) s) ∷ []) ≡ controller_at s L
unfolding left call_single opened_single open_of controller_at
opened_single_lem s L =
    rw (← setting_at s L 0, ← setting_at s L 1, ← setting_at s L 2, ← setting_at s L 3, ← setting_at s L 4)

pub opened_lies : (k : ℕ) (s : List ℕ) (L : ℕ) → k ≤ 8 → L < k → Lies L (opened_bank k s) (controller_at s L)
unfolding opened_bank
opened_lies k s L h l =
    let calls = in_turn 0 (read_each open_of 20 k s) in
    let own : of_lane L calls ≡ open_of (drop (L * 20) s) ∷ [] = lane_of_each open_of 20 k s L l in
    let low : L ≤ 7 = omega arith in
    subst (λ (σ : Single). Lies L (after fresh_bank calls) σ) (ap (single_after none) own ∙ opened_single_lem s L) (lies_after L low calls fresh_bank none (fresh_lies L low))

-- the data of a file's first array; the lanes and the kind of its second
abbrev pub settings_of : List ℕ → List ℕ
settings_of s = drop (given (call_header s)).at s

abbrev pub lanes_of : List ℕ → ℕ
lanes_of s = (given (call_start s)).course.lanes

abbrev pub cell_kind_of : List ℕ → Kind
cell_kind_of s = (given (call_start s)).course.kind
