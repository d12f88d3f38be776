-- Which values the tests of `sqrt` and `by_search` leave, that each answer there is the definition's, and which patterns are none of NaN's. Assumes nothing.
use mathlib.Core.Path.{◌≡◌, refl, sym, ap, ◌∙◌, subst}
use mathlib.Core.Bool.{true, false, not, true≢false}
use Prim.Native.Nat.{ℕ, zero, suc, ◌%◌, ◌^◌, ◌≤◌, ◌<◌}
use native.Mathlib.Omega.{arith}
use borrow.Author.Tests.{le-ltb}
use lib.Dec.{T}
use lib.Ieee.{Float, nan, inf, fin, binary32, binary64, of_bits, to_bits, nan_bits, fits, lt, eq}
use lib.Ieee.Bits.{of_bits-to_bits, nan_bits_above}
use Rattle.float.specs.F32 as F
use Rattle.float.specs.FloatLaws.{eq-zero, zero_equals, above_zero, zero_not_above, no_nan_pattern}
use Rattle.root.specs.Root.{root, root_bits}
use Rattle.root.specs.RootRule.{root_infinity}
use Rattle.root.specs.RootLaws.{root_finite}
use Rattle.root.specs.Values.{infinite}

-- what owning an `f32` tells: the format holds it
pub held : (x : Float) → fits binary32 x ≡ true → T (fits binary32 x)
held x e = subst T (sym e) tt

pub at_infinity : (x : Float) → T (fits binary32 x) → to_bits binary32 x ≡ 0x7f80_0000 → x ≡ root x
at_infinity x fit e =
    let i : x ≡ inf false = sym (of_bits-to_bits binary32 x fit) ∙ ap (of_bits binary32) e ∙ infinite in
    i ∙ sym root_infinity ∙ sym (ap root i)

pub at_number : (x : Float) → lt F.zero x ≡ true → (to_bits binary32 x ≡ 0x7f80_0000 → ⊥) → of_bits binary32 (root_bits (to_bits binary32 x)) ≡ root x
unfolding root lt of_bits
at_number nan h f = absurd (true≢false (sym h))
at_number (inf true) h f = absurd (true≢false (sym h))
at_number (inf false) h f = absurd (f (unfold to_bits in refl))
at_number (fin true m e) h f = absurd (true≢false (sym h))
at_number (fin false zero e) h f = absurd (true≢false (sym h ∙ zero_not_above e))
at_number (fin false (suc m) e) h f = refl

pub at_zero : (x : Float) → eq x F.zero ≡ true → x ≡ root x
unfolding root eq of_bits
at_zero nan h = absurd (true≢false (sym h))
at_zero (inf s) h = absurd (true≢false (sym h))
at_zero (fin s zero e) h = refl
at_zero (fin s (suc m) e) h = let z : suc m ≡ 0 = eq-zero s (suc m) e h in absurd (omega arith)

pub neither : (x : Float) → lt F.zero x ≡ false → eq x F.zero ≡ false → nan ≡ root x
unfolding root lt eq of_bits
neither nan h k = refl
neither (inf true) h k = refl
neither (inf false) h k = absurd (true≢false h)
neither (fin s zero e) h k = absurd (true≢false (sym (zero_equals s e) ∙ k))
neither (fin true (suc m) e) h k = refl
neither (fin false (suc m) e) h k = absurd (true≢false (sym (above_zero m e) ∙ h))

pub no_nan : (b : ℕ) → b < 2 ^ 31 → T (not (nan_bits binary32 (root_bits b)))
no_nan b h = no_nan_pattern (root_bits b) (omega (arith, root_finite b h))

-- `no_nan_pattern` of `float`, at binary64
pub number_wide : (n : ℕ) → n % 2 ^ 63 ≤ 0x7ff0_0000_0000_0000 → T (not (nan_bits binary64 n))
number_wide n h = let e : nan_bits binary64 n ≡ false = nan_bits_above binary64 n ∙ le-ltb _ _ h in rw e tt
