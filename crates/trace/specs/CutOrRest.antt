-- The rows of a file whose start is accepted: its lanes are open, so nothing refuses a row but a byte that is missing. Document 01's 15 and 16
-- are given exactly then. Assumes nothing.
use Rattle.std.specs.Prelude.{◌≡◌, Some, None, true, take}
use Rattle.std.proofs.Common.{sym, ◌∙◌, suc-mul, arith, length-drop, take_all, le-ltb}
use Rattle.std.proofs.Math.Path.{ap}
use mathlib.Core.List.{List}
use Rattle.std.proofs.Math.Logic.{⊎_elim}
use Prim.Native.Nat.{ℕ, zero, suc, ◌+◌, ◌-◌, ◌*◌, ◌/◌, ◌≤◌, ◌<◌}
use Rattle.std.proofs.Math.Nat.{mul-le-mul_right, div-mul-le_self, lt-div-mul-add}
use Rattle.std.proofs.Math.ListN.{length, drop}
use Rattle.lemmas.specs.Cases.{lt_or_le}
use Rattle.refusal.specs.declared.Refusal.TheVariants as Refusal
use Rattle.refusal.specs.Answers.{given, refusal_of, passes}
use Rattle.npy.specs.Cell.{cells_of}
use Rattle.npy.specs.CellLaws.{cells_length}
use Rattle.rate_pid.specs.declared.RatePid.{RatePid}
use Rattle.bank.specs.declared.Bank.{Bank}
use Rattle.bank.specs.Bank.{Eight}
use Rattle.bank.specs.BankLaws.{update_refusal}
use Rattle.bank.specs.BankRuns.{after}
use Rattle.bank.specs.Single.{one}
use Rattle.bank.proofs.RunLaws.{after_eight}
use Rattle.bank.specs.RunLaws.{Lies}
use Rattle.rows.specs.Rows.{run_refusal}
use Rattle.rows.specs.LaneByLaneLaws.{own_turn}
use Rattle.rows.specs.ReadyLanes.{first_ready, first-kept}
use Rattle.trace.specs.declared.course.Course.{Course}
use Rattle.trace.specs.Trace.{call_start, replay_refusal, row_width, calls_of_row, after_row, after_rows, form_refusal, row_refusal, course_refusal}
use Rattle.trace.specs.Taken.{CanTake, row_count, after-row-width, rows_cut, spent_rest, spent_row, after-left, after-width}
use Rattle.trace.specs.RowRefusalLaws.{form_is, row_there, row-short}
use Rattle.trace.specs.MeasureLaws.{rest_refusal_of_lem, rest_some, rest_none}
use Rattle.trace.specs.AcceptedStart.{bytes_after_start, accepted_start, row_has_bytes, first_head, second_head}
use Rattle.trace.specs.WholeFile.{accepted_refusal}
use Rattle.trace.specs.LaneCells.{controller_at, settings_of, opened_lies}

-- ---- a course whose lanes are open

-- it can have rows, and no update of a lane of its rows is refused
pub record OpenCourse (c : Course) : Type 0 where
  pub form : passes (form_refusal c.kind c.lanes) ≡ true
  pub eight : Eight c.bank
  pub lanes : (i : ℕ) → i < c.lanes → passes (update_refusal c.bank i) ≡ true

module _ (c : Course) (s : List ℕ) (o : OpenCourse c) where
  row_all : take c.lanes (calls_of_row c s) ≡ calls_of_row c s
  row_all = take_all c.lanes (calls_of_row c s) (rw (row_count c s) (omega arith))

  -- so none of a row's updates is refused
  updates_pass : run_refusal c.bank (calls_of_row c s) ≡ None
  unfolding calls_of_row
  updates_pass =
      let cells = cells_of c.kind (c.lanes * 3) s in
      let long = cells_length c.kind (c.lanes * 3) s in
      ap (run_refusal c.bank) (sym row_all)
      ∙ first_ready c.lanes c.lanes 0 cells c.bank o.eight (omega arith) (λ i h. rw (own_turn c.lanes i h) (o.lanes i h))

  -- and a row that is there whole is not
  pub open_row : row_width c ≤ length s → passes (row_refusal c s) ≡ true
  open_row h = ap passes ((row_there c s o.form h).0 ∙ updates_pass)

  pub open_on : (n : ℕ) → OpenCourse (after_row c n s)
  unfolding after_row calls_of_row
  open_on n =
      let cells = cells_of c.kind (c.lanes * 3) s in
      record {
        form = o.form;
        eight = after_eight (calls_of_row c s) c.bank o.eight;
        lanes = λ i h. ap passes (ap (λ (calls : _). update_refusal (after c.bank calls) i) (sym row_all) ∙ first-kept c.lanes c.lanes 0 cells c.bank o.eight i) ∙ o.lanes i h;
      }

pub open_rows : (n : ℕ) (c : Course) (s : List ℕ) → OpenCourse c → OpenCourse (after_rows n c s)
unfolding after_rows
open_rows zero c s o = o
open_rows (suc n) c s o = open_rows n (after_row c (c.left - 1) s) (drop (row_width c) s) (open_on c s o (c.left - 1))

-- rows that are left and there whole can be taken
pub open_can_take : (n : ℕ) (c : Course) (s : List ℕ) → OpenCourse c → n ≤ c.left → n * row_width c ≤ length s → CanTake n c s
unfolding CanTake after_row
open_can_take zero c s o l h = tt
open_can_take (suc n) c s o l h =
    let wide : n * row_width c + row_width c ≤ length s = rw suc-mul at h in
    let on : n * row_width (after_row c (c.left - 1) s) ≤ length (drop (row_width c) s) = rw (after-row-width c (c.left - 1) s, length-drop) (omega arith) in
    (omega arith, open_row c s o (omega arith), open_can_take n (after_row c (c.left - 1) s) (drop (row_width c) s) (open_on c s o (c.left - 1)) (less_left n c s l) on)
  where
    less_left : (n : ℕ) (c : Course) (s : List ℕ) → suc n ≤ c.left → n ≤ (after_row c (c.left - 1) s).left
    less_left n c s l = omega arith

-- ---- a file whose start is accepted

-- a lane in which a controller lies is open
lies_open : (b : Bank) (i : ℕ) (s : RatePid) → i ≤ 7 → Lies i b (one s) → passes (update_refusal b i) ≡ true
unfolding update_refusal
lies_open b i s h l = rw (le-ltb 7 i h, l.here, l.good)

module _ (s : List ℕ) (e : passes (refusal_of (call_start s)) ≡ true) where
  pub start_open : OpenCourse (given (call_start s)).course
  unfolding controller_at
  start_open =
      let g = accepted_start s e in
      let few = g.settings.few in
      let lies : (i : ℕ) → i < (given (first_head s)).rows → Lies i (given (call_start s)).course.bank (controller_at (settings_of s) i) = λ i h. rw g.bank (opened_lies (given (first_head s)).rows (settings_of s) i few h) in
      record {
        form = rw (g.kind, g.lanes) (form_is (given (second_head s)).kind (given (first_head s)).rows g.settings.some few g.trace.1);
        eight = (lies 0 (omega (arith, g.settings.some))).eight;
        lanes = λ i h. lies_open (given (call_start s)).course.bank i _ (omega (arith, g.lanes)) (lies i (omega (arith, g.lanes)));
      }

  -- rows that its bytes have, and no more than its header says, can be taken
  pub file_take : (m : ℕ) → m ≤ (given (call_start s)).course.left → m * row_width (given (call_start s)).course ≤ length (bytes_after_start s) → CanTake m (given (call_start s)).course (bytes_after_start s)
  file_take m = open_can_take m (given (call_start s)).course (bytes_after_start s) start_open

  -- what it is refused with, after these
  refused-after : (m : ℕ) → m ≤ (given (call_start s)).course.left → m * row_width (given (call_start s)).course ≤ length (bytes_after_start s)
      → replay_refusal s ≡ course_refusal (after_rows m (given (call_start s)).course (bytes_after_start s)) (drop (m * row_width (given (call_start s)).course) (bytes_after_start s))
  refused-after m l h = accepted_refusal s e ∙ (rows_cut m (given (call_start s)).course (bytes_after_start s) (file_take m l h)).1

  -- 15 where a row is missing
  pub file_cut : length (bytes_after_start s) < (given (call_start s)).course.left * row_width (given (call_start s)).course → replay_refusal s ≡ Some Refusal.Cut
  file_cut h =
      let c = (given (call_start s)).course in
      let w : ℕ = row_width (given (call_start s)).course in
      let m : ℕ = length (bytes_after_start s) / row_width (given (call_start s)).course in
      let fits : m * w ≤ length (bytes_after_start s) = div-mul-le_self (length (bytes_after_start s)) w in
      let less : m < c.left = less_rows m w c.left (length (bytes_after_start s)) fits h in
      let there : Course = after_rows m c (bytes_after_start s) in
      let rest : List ℕ = drop (m * row_width c) (bytes_after_start s) in
      let more : 0 < (after_rows m c (bytes_after_start s)).left = rw (after-left m c (bytes_after_start s)) (omega arith) in
      let past : length (bytes_after_start s) < m * w + w = lt-div-mul-add (row_has_bytes s (accepted_start s e)) in
      let short : length (drop (m * row_width c) (bytes_after_start s)) < row_width (after_rows m c (bytes_after_start s)) = rw (length-drop (m * row_width c) (bytes_after_start s), after-width m c (bytes_after_start s)) (omega arith) in
      let cut : row_refusal (after_rows m c (bytes_after_start s)) (drop (m * row_width c) (bytes_after_start s)) ≡ Some Refusal.Cut = (row-short there rest (open_rows m c (bytes_after_start s) start_open).form short).0 in
      refused-after m (omega arith) fits ∙ spent_row there rest more (ap passes cut) ∙ cut
    where
      less_rows : (m w left len : ℕ) → m * w ≤ len → len < left * w → m < left
      less_rows m w left len f h = ⊎_elim (λ (g : m < left). g) (λ (g : left ≤ m). let z : left * w ≤ m * w = mul-le-mul_right w g in absurd (omega arith)) (lt_or_le m left)

  -- 16 where bytes follow the last row
  pub file_rest : (given (call_start s)).course.left * row_width (given (call_start s)).course < length (bytes_after_start s) → replay_refusal s ≡ Some Refusal.Rest
  file_rest h =
      let c = (given (call_start s)).course in
      refused-after c.left (omega arith) (omega arith) ∙ spent_rest (after_rows c.left c (bytes_after_start s)) (drop (c.left * row_width c) (bytes_after_start s)) (after-left c.left c (bytes_after_start s) ∙ omega arith)
      ∙ rest_refusal_of_lem (drop (c.left * row_width c) (bytes_after_start s)) ∙ rest_some (rw length-drop (omega arith))

  -- and nothing where neither is so
  pub file_none : length (bytes_after_start s) ≡ (given (call_start s)).course.left * row_width (given (call_start s)).course → replay_refusal s ≡ None
  file_none h =
      let c = (given (call_start s)).course in
      refused-after c.left (omega arith) (omega arith) ∙ spent_rest (after_rows c.left c (bytes_after_start s)) (drop (c.left * row_width c) (bytes_after_start s)) (after-left c.left c (bytes_after_start s) ∙ omega arith)
      ∙ rest_refusal_of_lem (drop (c.left * row_width c) (bytes_after_start s)) ∙ rest_none (rw length-drop (omega arith))
