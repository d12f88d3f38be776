use mathlib.Core.Path.{◌≡◌, refl, sym, ◌∙◌}
use mathlib.Core.Bool.{Bool, true, false, cond, false≢true}
use lib.Ieee.{Float, lt, of_bits, neg}
use Rattle.float.specs.F32 as F
use Rattle.float.specs.Float.{clamp_f}
use Rattle.rate_pid.proofs.clamp_to_one.Goals as goal

one-above : lt F.one F.minus_one ≡ false
unfolding lt of_bits neg
one-above = refl

-- clamped to -1 and 1 by two tests, the second of what the first gives
module _ (x low : Float) (e : low ≡ cond (lt x F.minus_one) F.minus_one x) where
  clamp_above : lt F.one low ≡ true → F.one ≡ clamp_f x F.minus_one F.one
  unfolding clamp_f
  clamp_above h = go (lt x F.minus_one) refl
    where
      go : (t : Bool) → lt x F.minus_one ≡ t → F.one ≡ cond (lt x F.minus_one) F.minus_one (cond (lt F.one x) F.one x)
      go true k = let z : lt F.one F.minus_one ≡ true = simp (e, k) at h in absurd (false≢true (sym one-above ∙ z))
      go false k = let z : lt F.one x ≡ true = simp (e, k) at h in simp (k, z)

  clamp_within : lt F.one low ≡ false → low ≡ clamp_f x F.minus_one F.one
  unfolding clamp_f
  clamp_within h = go (lt x F.minus_one) refl
    where
      go : (t : Bool) → lt x F.minus_one ≡ t → low ≡ cond (lt x F.minus_one) F.minus_one (cond (lt F.one x) F.one x)
      go true k = simp (e, k)
      go false k = let z : lt F.one x ≡ false = simp (e, k) at h in simp (e, k, z)

pub returns-then-low : goal.returns-then-low
returns-then-low c = clamp_above _ _ c.at_least_minus_one-low.ensures c.if-low.true

pub returns-else-low : goal.returns-else-low
returns-else-low c = clamp_within _ _ c.at_least_minus_one-low.ensures c.if-low.false
