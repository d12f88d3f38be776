use Rattle.std.proofs.Common.{◌≡◌, ◌*◌, ℕ, List, length, Bool, true, false, Some, None, sym, ap, ◌∙◌}
use Rattle.airframe.specs.Airframe.{sums_of, good_sums, entries, zeros, refusal_of, matrix_of}
use Rattle.airframe.specs.AirframeLaws.{refusal_good, refusal_bad, matrix_good, matrix_bad}
use Rattle.airframe.specs.declared.Motor.{Motor}
use Rattle.airframe.specs.declared.PerRow.{PerRow}
use Rattle.refusal.specs.declared.Refusal.TheVariants as Refusal
use lib.Ieee.{Float}
use Rattle.airframe.proofs.mix.Goals as goal

-- what each arm answers, from what its calls ensure
module _ (ms : List Motor) (s : PerRow) (b : Bool) (out : List Float) where
  accepted : s ≡ sums_of ms → b ≡ good_sums s → b ≡ true → out ≡ entries s ms → (None ≡ refusal_of ms) × (out ≡ matrix_of ms)
  accepted e p h o =
      let g : good_sums (sums_of ms) ≡ true = ap good_sums (sym e) ∙ sym p ∙ h in
      (sym (refusal_good ms g), o ∙ rw e (sym (matrix_good ms g)))

  refused : (n : ℕ) → s ≡ sums_of ms → b ≡ good_sums s → b ≡ false → out ≡ zeros n → n ≡ 4 * length ms → (Some Refusal.RowSum ≡ refusal_of ms) × (out ≡ matrix_of ms)
  refused n e p h o l =
      let g : good_sums (sums_of ms) ≡ false = ap good_sums (sym e) ∙ sym p ∙ h in
      (sym (refusal_bad ms g), o ∙ rw l (sym (matrix_bad ms g)))

pub returns-then-good_sums : goal.returns-then-good_sums
returns-then-good_sums c = accepted _ _ _ _ c.row_sums-s.ensures c.good_sums.ensures c.if-good_sums.true c.divide.ensures

pub returns : goal.returns
unfolding zeros
returns c = refused _ _ _ _ _ c.row_sums-s.ensures c.good_sums.ensures c.if-good_sums.false (c.fill.ensures.after (λ y h. h)) c.requires
