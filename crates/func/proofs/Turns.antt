-- One turn of each loop of `wrap_by` in the code's own count of steps. Assumes nothing.
use mathlib.Core.Path.{◌≡◌}
use mathlib.Core.Bool.{Bool, true}
use Prim.Native.Nat.{ℕ, suc, ◌+◌, ◌-◌, ◌<◌}
use native.Mathlib.Numerals.{add-one}
use native.Mathlib.Omega.{arith}
use lib.Ieee.{Float, lt}
use Rattle.float.specs.F32.{◌+f◌, ◌-f◌}
use Rattle.refusal.specs.declared.Refusal.TheVariants as Refusal
use Rattle.func.specs.Func.{refused, fall, rise}
use Rattle.func.specs.WrapLaws.{fall_on, fall_out, rise_on, rise_out}

less_one : (s : ℕ) → s < 64 → 64 - s ≡ suc (64 - suc s)
less_one s h = omega arith

module _ (over : Float → Bool) (width n : Float) (s : ℕ) where
  pub fall-turn : s < 64 → over n ≡ true → fall over (64 - s) s n width ≡ fall over (64 - (s + 1)) (s + 1) (n -f width) width
  fall-turn h t = rw (less_one s h, add-one) (fall_on over width n (64 - suc s) s t)

  pub fall-full : s ≡ 64 → over n ≡ true → fall over (64 - s) s n width ≡ refused Refusal.Steps 64
  fall-full e t = rw e (fall_out over width n 64 t)

module _ (over : Float → Bool) (min width n : Float) (s : ℕ) where
  pub rise-turn : s < 64 → lt n min ≡ true → rise over (64 - s) s n min width ≡ rise over (64 - (s + 1)) (s + 1) (n +f width) min width
  rise-turn h t = rw (less_one s h, add-one) (rise_on over min width n (64 - suc s) s t)

  pub rise-full : s ≡ 64 → lt n min ≡ true → rise over (64 - s) s n min width ≡ refused Refusal.Steps 64
  rise-full e t = rw e (rise_out over min width n 64 t)
