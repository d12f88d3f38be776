-- A lane whose sample time is zero prints NaN or an infinity in every row, whatever its tau: kd is divided by dt. Assumes nothing.
use Rattle.std.specs.Prelude.{◌≡◌, List, Bool, true, false, ◌⊎◌, Float, get_or}
use Rattle.std.proofs.Math.Path.{refl}
use Rattle.std.proofs.Common.{ap, ◌∙◌, inl, inr}
use Prim.Native.Nat.{ℕ, zero, suc, ◌<◌}
use Rattle.std.specs.Float.{nan, inf}
use Rattle.std.specs.Float.Ieee.{eq}
use Rattle.std.specs.Float.Ieee.Scale.{finite}
use Rattle.float.specs.F32 as F
use Rattle.float.specs.OperationLaws.{nonfinite_is}
use Rattle.refusal.specs.Answers.{given, refusal_of, passes}
use Rattle.rate_pid.specs.declared.RatePid.{RatePid}
use Rattle.rate_pid.specs.RatePid.{new_rate_pid}
use Rattle.rate_pid.specs.FiltersOffLaws.{dt_zero}
use Rattle.npy.specs.declared.reader.Kind.{Kind}
use Rattle.npy.specs.declared.reader.Kind.TheVariants.{F4}
use Rattle.npy.specs.Lines.{word_of}
use Rattle.bank.specs.Single.{one, call_single}
use Rattle.trace.specs.LanesInTurn.{read_each}
use Rattle.trace.specs.Trace.{call_start}
use Rattle.trace.specs.Taken.{CanTake, update_of}
use Rattle.trace.specs.AcceptedStart.{bytes_after_start}
use Rattle.trace.specs.LaneText.{single_values, lane_update, lane_updates}
use Rattle.trace.specs.LaneCells.{cell_at, controller_at, settings_of, lanes_of, cell_kind_of}
use Rattle.trace.specs.ColumnTheorem.{printed_word, column_theorem}

module _ (kind : Kind) (k L : ℕ) where
  values_nonfinite : (n r : ℕ) (s : RatePid) (bytes : List ℕ) → eq s.dt F.zero ≡ true → finite (get_or (single_values (one s) (lane_updates kind k L n bytes)) r nan) ≡ false
  unfolding single_values lane_updates read_each lane_update update_of call_single
  values_nonfinite zero r s bytes h = refl
  values_nonfinite (suc n) zero s bytes h = (dt_zero s _ _ _ h).0
  values_nonfinite (suc n) (suc r) s bytes h = values_nonfinite n r _ _ (ap (λ (dt : Float). eq dt F.zero) (dt_zero s _ _ _ h).1 ∙ h)

-- a number that is not finite, by its digits
digits_nonfinite : (w : List ℕ) (y : Float) → w ≡ word_of y → finite y ≡ false → (w ≡ word_of nan) ⊎ ((b : Bool) × (w ≡ word_of (inf b)))
digits_nonfinite w y e h = elim (nonfinite_is y h) [ inl n ↦ inl (e ∙ ap word_of n) | inr (b, n) ↦ inr (b, e ∙ ap word_of n) ]

-- the dt of lane L's settings is a zero: what it prints in a row are the digits of NaN or of an infinity
pub dt_zero_prints : (s : List ℕ) (m L r : ℕ) → passes (refusal_of (call_start s)) ≡ true → CanTake m (given (call_start s)).course (bytes_after_start s) → L < lanes_of s → r < m
    → eq (cell_at F4 5 (settings_of s) L 4) F.zero ≡ true → (printed_word s L r ≡ word_of nan) ⊎ ((b : Bool) × (printed_word s L r ≡ word_of (inf b)))
unfolding controller_at new_rate_pid
dt_zero_prints s m L r a t l h e =
    digits_nonfinite (printed_word s L r) _ (column_theorem s m L r a t l h) (values_nonfinite (cell_kind_of s) (lanes_of s) L m r _ (bytes_after_start s) e)
