-- The tests that the code makes, tied to the cases of the definitions. Assumes nothing.
use mathlib.Core.Path.{◌≡◌, refl, sym, ap, ◌∙◌}
use mathlib.Core.Bool.{Bool, true, false, cond, not, true≢false}
use Prim.Native.Nat.{ℕ, zero, suc, ◌*◌, ◌%◌, ◌<◌}
use native.Mathlib.Omega.{arith}
use borrow.Author.Tests.{ltb-true, lt-ltb}
use lib.Dec.{T}
use lib.Ieee.{Float, nan, inf, fin, binary32, up, down, eq, lt, neg, is_nan, fits, of_bits, to_bits}
use lib.Ieee.Bits.{nan_bits_is, nan_bits_above}
use Rattle.std.specs.Float.{is_sign_negative}
use Rattle.float.specs.F32 as F
use Rattle.float.specs.Float.{negative, abs_f}
use Rattle.float.specs.FloatLaws.{is_nan_lem, eq-zero, zero-fits, sign_of}

pub abs_below : (x : Float) → lt x F.zero ≡ true → neg x ≡ abs_f x
unfolding lt neg abs_f of_bits
abs_below nan h = refl
abs_below (inf true) h = refl
abs_below (inf false) h = cc
abs_below (fin true m e) h = refl
abs_below (fin false m e) h = absurd (omega (arith, ltb-true (m * up e * 1) (0 * down e) h))

pub abs_zero : (x : Float) → fits binary32 x ≡ true → eq x F.zero ≡ true → F.zero ≡ abs_f x
unfolding eq abs_f of_bits
abs_zero nan f h = cc
abs_zero (inf s) f h = cc
abs_zero (fin s zero e) f h = ap (fin false 0) (sym (zero-fits s e f))
abs_zero (fin s (suc m) e) f h = let z : suc m ≡ 0 = eq-zero s (suc m) e h in absurd (omega arith)

pub abs_keeps : (x : Float) → lt x F.zero ≡ false → eq x F.zero ≡ false → x ≡ abs_f x
unfolding abs_f negative
abs_keeps nan l h = refl
abs_keeps (inf true) l h = absurd (true≢false (sym (sign_of (inf true) h) ∙ l))
abs_keeps (inf false) l h = refl
abs_keeps (fin true m e) l h = absurd (true≢false (sym (sign_of (fin true m e) h) ∙ l))
abs_keeps (fin false m e) l h = refl

pub abs_turns : (x : Float) → eq x F.zero ≡ false → cond (lt x F.zero) (neg x) x ≡ abs_f x
abs_turns x h = go (lt x F.zero) refl
  where
    go : (t : Bool) → lt x F.zero ≡ t → cond t (neg x) x ≡ abs_f x
    go true e = abs_below x e
    go false e = abs_keeps x e h

pub own_sign : (x : Float) → is_sign_negative x ≡ negative x
unfolding is_sign_negative negative
own_sign nan = refl
own_sign (inf s) = refl
own_sign (fin s m e) = refl

pub nan_no_sign : (x : Float) → is_nan x ≡ true → negative x ≡ false
unfolding negative
nan_no_sign x h = rw (is_nan_lem x h)

-- ---- patterns

own_pattern : of_bits binary32 0x7fc0_0000 ≡ nan
unfolding of_bits
own_pattern = refl

pub nan_pattern : (n : ℕ) → 0x7f80_0000 < n % 0x8000_0000 → of_bits binary32 0x7fc0_0000 ≡ of_bits binary32 n
nan_pattern n h = own_pattern ∙ sym (is_nan_lem (of_bits binary32 n) (sym (nan_bits_is binary32 n) ∙ nan_bits_above binary32 n ∙ lt-ltb _ _ h))

pub nan_bits : (x : Float) → is_nan x ≡ true → 0x7fc0_0000 ≡ to_bits binary32 x
unfolding to_bits
nan_bits x h = rw (is_nan_lem x h)

pub number_bits : (x : Float) → is_nan x ≡ false → T (not (is_nan x))
number_bits x e = rw e tt
