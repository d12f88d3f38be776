-- Once a lane's measurement is NaN, as a hole of the recorder reads, every row that is printed from there on has NaN for that lane. Assumes
-- nothing.
use Rattle.std.specs.Prelude.{◌≡◌, List, true, get_or, drop}
use Rattle.std.proofs.Math.Path.{refl}
use Rattle.std.proofs.Common.{sym, ap, ◌∙◌, suc-mul, arith, drop-drop}
use Prim.Native.Nat.{ℕ, zero, suc, ◌+◌, ◌*◌, ◌≤◌, ◌<◌}
use Rattle.std.specs.Float.{nan}
use Rattle.refusal.specs.Answers.{given, refusal_of, passes}
use Rattle.rate_pid.specs.declared.RatePid.{RatePid}
use Rattle.rate_pid.specs.RatePid.{step_rate_pid}
use Rattle.npy.specs.declared.reader.Kind.{Kind}
use Rattle.npy.specs.Header.{cell_width}
use Rattle.npy.specs.Cell.{cell_of}
use Rattle.npy.specs.Lines.{word_of}
use Rattle.bank.specs.declared.lane.Op.TheVariants.{Update}
use Rattle.bank.specs.Single.{one, call_single}
use Rattle.trace.specs.LanesInTurn.{read_each}
use Rattle.trace.specs.Trace.{call_start}
use Rattle.trace.specs.Taken.{CanTake, update_of}
use Rattle.trace.specs.AcceptedStart.{bytes_after_start}
use Rattle.trace.specs.LaneText.{single_values, lane_update, lane_updates}
use Rattle.trace.specs.LaneCells.{cell_at, lane_update_at, updates_at, controller_at, lanes_of, cell_kind_of}
use Rattle.trace.specs.ColumnTheorem.{printed_word, column_theorem}
use Rattle.holes.specs.NanInUpdate.{HoldsNan, nan_stays, measurement_nan}

module _ (kind : Kind) (k L : ℕ) where
  -- a controller that holds NaN answers each of the lane's updates with it
  nan_on : (n r : ℕ) (s : RatePid) (bytes : List ℕ) → HoldsNan s → get_or (single_values (one s) (lane_updates kind k L n bytes)) r nan ≡ nan
  unfolding single_values lane_updates read_each lane_update update_of call_single
  nan_on zero r s bytes h = refl
  nan_on (suc n) zero s bytes h = (nan_stays s _ _ _ h).0
  nan_on (suc n) (suc r) s bytes h = nan_on n r _ _ (nan_stays s _ _ _ h).1

  -- the controller after the first row's update
  next_of : RatePid → List ℕ → RatePid
  next_of s bytes =
      let row = drop (L * (3 * cell_width kind)) bytes in
      step_rate_pid s (cell_of kind row) (cell_of kind (drop (cell_width kind) row)) (cell_of kind (drop (cell_width kind + cell_width kind) row))

  -- a row further on is a row of the bytes after the first
  next_row : (q c : ℕ) (bytes : List ℕ) → cell_at kind (k * 3) bytes (suc q) c ≡ cell_at kind (k * 3) (drop (k * 3 * cell_width kind) bytes) q c
  unfolding cell_at
  next_row q c bytes =
      let w = cell_width kind in
      let e : (suc q * (k * 3) + c) * w ≡ k * 3 * w + (q * (k * 3) + c) * w = rw (suc-mul q (k * 3)) (omega arith) in
      rw (e, drop-drop)

  -- the first row's update, where its measurement is NaN
  first_nan : (bytes : List ℕ) → cell_at kind (k * 3) bytes 0 (L * 3 + 1) ≡ nan
      → lane_update kind L bytes ≡ Update (cell_at kind (k * 3) bytes 0 (L * 3 + 0)) nan (cell_at kind (k * 3) bytes 0 (L * 3 + 2))
  unfolding lane_updates read_each lane_update_at
  first_nan bytes e = updates_at kind k L 1 bytes 0 (lane_update kind L bytes) (omega arith) ∙ rw e

  -- the first row's update leaves that controller
  stepped : (s : RatePid) (bytes : List ℕ) → (call_single (one s) (lane_update kind L bytes)).single ≡ one (next_of s bytes)
  unfolding lane_update update_of call_single next_of
  stepped s bytes = refl

  -- from the row q on in which the measurement is NaN, the answers are NaN
  values_nan : (n q r : ℕ) (s : RatePid) (bytes : List ℕ) → q ≤ r → cell_at kind (k * 3) bytes q (L * 3 + 1) ≡ nan
      → get_or (single_values (one s) (lane_updates kind k L n bytes)) r nan ≡ nan
  unfolding single_values lane_updates read_each call_single
  values_nan zero q r s bytes h e = refl
  values_nan (suc n) zero zero s bytes h e = rw (first_nan bytes e) (measurement_nan s _ _).0
  values_nan (suc n) zero (suc r) s bytes h e = rw (first_nan bytes e) (nan_on n r _ _ (measurement_nan s _ _).1)
  values_nan (suc n) (suc q) zero s bytes h e = absurd (omega arith)
  values_nan (suc n) (suc q) (suc r) s bytes h e =
      rw (stepped s bytes) (values_nan n q r (next_of s bytes) (drop (k * 3 * cell_width kind) bytes) (omega arith) (sym (next_row q (L * 3 + 1) bytes) ∙ e))

-- if lane L's measurement in row q is NaN, lane L prints 7fc00000 in each printed row from q on
pub nan_prints : (s : List ℕ) (m L q r : ℕ) → passes (refusal_of (call_start s)) ≡ true → CanTake m (given (call_start s)).course (bytes_after_start s) → L < lanes_of s → q ≤ r → r < m
    → cell_at (cell_kind_of s) (lanes_of s * 3) (bytes_after_start s) q (L * 3 + 1) ≡ nan → printed_word s L r ≡ word_of nan
unfolding controller_at
nan_prints s m L q r a t l o h e =
    column_theorem s m L r a t l h ∙ ap word_of (values_nan (cell_kind_of s) (lanes_of s) L m q r _ (bytes_after_start s) o e)
