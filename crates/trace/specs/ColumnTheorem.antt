-- The column theorem: what is printed for a lane is what one controller gives that has the lane's settings and is updated with the lane's
-- cells. Nothing of another lane comes into it. Assumes nothing.
use Rattle.std.specs.Prelude.{◌≡◌, List, true, ℕ, ◌+◌, ◌*◌, ◌≤◌, ◌<◌, length, get_or, take, drop}
use Rattle.std.proofs.Common.{sym, ap, ◌∙◌, arith}
use Rattle.std.specs.Float.{nan}
use Rattle.refusal.specs.Answers.{given, refusal_of, passes}
use Rattle.npy.specs.declared.reader.Kind.TheVariants.{F4}
use Rattle.npy.specs.Header.{call_header}
use Rattle.npy.specs.Lines.{word_of}
use Rattle.bank.specs.declared.lane.Op.{Op}
use Rattle.bank.specs.RunLaws.{Lies}
use Rattle.trace.specs.Trace.{call_start, replay_of}
use Rattle.trace.specs.Taken.{CanTake}
use Rattle.trace.specs.AcceptedStart.{accepted_start, bytes_after_start}
use Rattle.trace.specs.WholeFile.{accepted-lines}
use Rattle.trace.specs.AcceptedFile.{AcceptedFile}
use Rattle.trace.specs.LaneText.{single_values, single_values-same, lane_updates, rows_word}
use Rattle.trace.specs.LaneCells.{cell_at, lane_update_at, updates_length, updates_at, controller_at, opened_lies, settings_of, lanes_of, cell_kind_of}

-- the digits of lane L in row r of what a file prints
unfoldable pub printed_word : List ℕ → ℕ → ℕ → List ℕ
printed_word s L r = take 8 (drop (r * (9 * lanes_of s) + 9 * L) (replay_of s))

-- they are those of the r-th value of one controller that is made with the lane's settings and updated with the lane's cells
pub column_theorem : (s : List ℕ) (m L r : ℕ) → passes (refusal_of (call_start s)) ≡ true → CanTake m (given (call_start s)).course (bytes_after_start s) → L < lanes_of s → r < m
    → printed_word s L r ≡ word_of (get_or (single_values (controller_at (settings_of s) L) (lane_updates (cell_kind_of s) (lanes_of s) L m (bytes_after_start s))) r nan)
unfolding printed_word
column_theorem s m L r e w l h =
    let g = accepted_start s e in
    let few : lanes_of s ≤ 8 = rw g.lanes g.settings.few in
    let own : L < (given (call_header s)).rows = rw g.lanes at l in
    let lies : Lies L (given (call_start s)).course.bank (controller_at (settings_of s) L) = rw g.bank (opened_lies (given (call_header s)).rows (settings_of s) L g.settings.few own) in
    rw (accepted-lines s m e w) (rows_word r m (given (call_start s)).course (bytes_after_start s) L (controller_at (settings_of s) L) _ h (omega arith) l lies)

-- two files have the same lane L: as many lanes, cells of one kind, equal settings of lane L, and in the first n rows equal cells of it
pub record SameLane (s t : List ℕ) (L n : ℕ) : Type 0 where
  pub lanes : lanes_of s ≡ lanes_of t
  pub kind : cell_kind_of s ≡ cell_kind_of t
  pub settings : (j : ℕ) → j < 5 → cell_at F4 5 (settings_of s) L j ≡ cell_at F4 5 (settings_of t) L j
  pub cells : (r j : ℕ) → r < n → j < 3 → cell_at (cell_kind_of s) (lanes_of s * 3) (bytes_after_start s) r (L * 3 + j) ≡ cell_at (cell_kind_of t) (lanes_of t * 3) (bytes_after_start t) r (L * 3 + j)

same_controller : (s t : List ℕ) (L n : ℕ) → SameLane s t L n → controller_at (settings_of s) L ≡ controller_at (settings_of t) L
unfolding controller_at
same_controller s t L n e =
    rw (e.settings 0 (omega arith), e.settings 1 (omega arith), e.settings 2 (omega arith), e.settings 3 (omega arith), e.settings 4 (omega arith))

same_update : (s t : List ℕ) (L n r : ℕ) → SameLane s t L n → r < n → lane_update_at (cell_kind_of s) (lanes_of s) (bytes_after_start s) L r ≡ lane_update_at (cell_kind_of t) (lanes_of t) (bytes_after_start t) L r
unfolding lane_update_at
same_update s t L n r e h = rw (e.cells r 0 h (omega arith), e.cells r 1 h (omega arith), e.cells r 2 h (omega arith))

-- then they print equal digits for it in each of these rows that can be taken of both, however the files end
pub same-column : (s t : List ℕ) (L n m k r : ℕ) → passes (refusal_of (call_start s)) ≡ true → passes (refusal_of (call_start t)) ≡ true
    → CanTake m (given (call_start s)).course (bytes_after_start s) → CanTake k (given (call_start t)).course (bytes_after_start t) → L < lanes_of s → SameLane s t L n → r < n → r < m → r < k
    → printed_word s L r ≡ printed_word t L r
same-column s t L n m k r es et ws wt l e hn hm hk =
    column_theorem s m L r es ws l hm
    ∙ ap word_of (rw (same_controller s t L n e) (single_values-same r (controller_at (settings_of t) L) ops other d (omega (arith, ol)) (omega (arith, rl)) same))
    ∙ sym (column_theorem t k L r et wt (rw e.lanes at l) hk)
  where
    d : Op
    d = lane_update_at (cell_kind_of s) (lanes_of s) (bytes_after_start s) L r

    ops : List Op
    ops = lane_updates (cell_kind_of s) (lanes_of s) L m (bytes_after_start s)

    other : List Op
    other = lane_updates (cell_kind_of t) (lanes_of t) L k (bytes_after_start t)

    ol : length ops ≡ m
    ol = updates_length (cell_kind_of s) (lanes_of s) L m (bytes_after_start s)

    rl : length other ≡ k
    rl = updates_length (cell_kind_of t) (lanes_of t) L k (bytes_after_start t)

    same : (q : ℕ) → q ≤ r → get_or ops q d ≡ get_or other q d
    same q h =
        updates_at (cell_kind_of s) (lanes_of s) L m (bytes_after_start s) q d (omega arith)
        ∙ same_update s t L n q e (omega arith)
        ∙ sym (updates_at (cell_kind_of t) (lanes_of t) L k (bytes_after_start t) q d (omega arith))

-- document 01: two accepted files with equal shapes, kind, lane L settings and lane L cells give equal L columns
pub equal_columns : (s t : List ℕ) (L : ℕ) → AcceptedFile s → AcceptedFile t → (given (call_start s)).course.left ≡ (given (call_start t)).course.left → L < lanes_of s
    → SameLane s t L (given (call_start s)).course.left → (r : ℕ) → r < (given (call_start s)).course.left → printed_word s L r ≡ printed_word t L r
equal_columns s t L a b same l e r h =
    same-column s t L (given (call_start s)).course.left (given (call_start s)).course.left (given (call_start t)).course.left r a.start_passes b.start_passes a.rows b.rows l e h h (omega arith)
