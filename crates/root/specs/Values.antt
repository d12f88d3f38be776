-- The toolchain's IEEE values of patterns, and the patterns of the numbers above zero. Assumes nothing.
use Rattle.std.specs.Prelude.{◌≡◌, Bool, true, false, cond, ℕ, zero, suc, ◌+◌, ◌*◌, ◌/◌, ◌%◌, ◌^◌, ◌≤◌, ◌<◌, ℤ, T, ltb, eqb, Float}
use Rattle.std.proofs.Math.Path.{refl}
use Rattle.std.proofs.Common.{sym, ap, ◌∙◌, subst, true≢false, mul-one, mod-eq_of_lt, arith, le-leb, ltb-false, eqb→eq}
use Rattle.std.proofs.Math.Decide.{dec_lt}
use Rattle.std.proofs.lemmas.Bool.{lt-leb}
use Rattle.std.proofs.Math.Dec.{not_T}
use Rattle.std.specs.Float.{nan, inf, fin, binary32}
use Rattle.std.specs.Float.Ieee.{of_bits, of_fields, odd, to_bits, is_nan, fits, lt}
use Rattle.std.specs.Float.Ieee.Bits.{cond_no, of_bits-to_bits, nan_bits_is, nan_bits_above}
use Rattle.std.specs.Float.Ieee.Exact.{HasValue, odd_sign}
use Rattle.std.specs.Float.Ieee.Scale.{finite}
use Rattle.float.specs.F32 as F
use Rattle.float.specs.FloatLaws.{above_zero, lt_irreflexive}
use Rattle.root.specs.Root.{of_parts, scaled}

-- ---- a pattern below the infinity's stands for `scaled` units of 2 ^ -149
fields_value : (x t : ℕ) → x < 255 → HasValue (of_fields binary32 false x t) false (of_parts x t) (2 ^ 149)
unfolding of_fields of_parts
fields_value zero t h = subst (λ (q : ℕ). HasValue (odd 24 false t 0 149) false q (2 ^ 149)) (mul-one t) (odd_sign 24 false t 0 149)
fields_value (suc x) t h =
    subst (λ (z : Float). HasValue z false ((2 ^ 23 + t) * 2 ^ x) (2 ^ 149))
    (sym (cond_no (eqb (suc x) 255) (cond (eqb t 0) (inf false) nan) (odd 24 false (2 ^ 23 + t) x 149) (not_T (eqb (suc x) 255) (λ e. omega (arith, eqb→eq (suc x) 255 e)))))
    (odd_sign 24 false (2 ^ 23 + t) x 149)

of_bits_is : (b : ℕ) → b < 2 ^ 31 → of_bits binary32 b ≡ of_fields binary32 false (b / 2 ^ 23) (b % 2 ^ 23)
unfolding of_bits
of_bits_is b h =
    ap (λ (s : Bool). of_fields binary32 s (b % 2 ^ 31 / 2 ^ 23) (b % 2 ^ 23)) (lt-leb (2 ^ 31) b h)
    ∙ ap (λ (n : ℕ). of_fields binary32 false (n / 2 ^ 23) (b % 2 ^ 23)) (mod-eq_of_lt h)

pub pattern_value : (b : ℕ) → b < 255 * 2 ^ 23 → HasValue (of_bits binary32 b) false (scaled b) (2 ^ 149)
unfolding scaled
pattern_value b h =
    subst (λ (z : Float). HasValue z false (scaled b) (2 ^ 149)) (sym (of_bits_is b (omega arith)))
    (fields_value (b / 2 ^ 23) (b % 2 ^ 23) (omega arith))

-- ---- a pattern with the sign is that of no number above zero
neg-odd : (q k l : ℕ) → lt F.zero (odd 24 true q k l) ≡ false
unfolding lt odd of_bits
neg-odd zero k l = refl
neg-odd (suc q) k l = refl

neg_cond : (a b : Bool) (q k : ℕ) → lt F.zero (cond a (cond b (inf true) nan) (odd 24 true q k 149)) ≡ false
neg_cond true true q k = unfold lt of_bits in refl
neg_cond true false q k = unfold lt of_bits in refl
neg_cond false b q k = neg-odd q k 149

neg_fields : (x t : ℕ) → lt F.zero (of_fields binary32 true x t) ≡ false
unfolding of_fields
neg_fields zero t = neg-odd t 0 149
neg_fields (suc x) t = neg_cond (eqb (suc x) 255) (eqb t 0) (2 ^ 23 + t) x

neg_bits : (b : ℕ) → 2 ^ 31 ≤ b → lt F.zero (of_bits binary32 b) ≡ false
unfolding of_bits of_fields
neg_bits b h = ap (λ (s : Bool). lt F.zero (of_fields binary32 s (b % 2 ^ 31 / 2 ^ 23) (b % 2 ^ 23))) (le-leb (2 ^ 31) b h) ∙ neg_fields (b % 2 ^ 31 / 2 ^ 23) (b % 2 ^ 23)

module _ (x : Float) (fit : T (fits binary32 x)) (h : lt F.zero x ≡ true) where
  pub no_sign : to_bits binary32 x < 2 ^ 31
  no_sign = elim (dec_lt (to_bits binary32 x) (2 ^ 31)) [
    | yes l ↦ l
    | no f ↦ absurd (true≢false (sym h ∙ ap (lt F.zero) (sym (of_bits-to_bits binary32 x fit)) ∙ neg_bits (to_bits binary32 x) (omega arith)))
  ]

  pub some_bits : 0 < to_bits binary32 x
  some_bits = elim (dec_lt 0 (to_bits binary32 x)) [
    | yes l ↦ l
    | no f ↦
        let z : to_bits binary32 x ≡ 0 = omega arith in
        absurd (true≢false (sym h ∙ ap (lt F.zero) (sym (of_bits-to_bits binary32 x fit) ∙ ap (of_bits binary32) z) ∙ lt_irreflexive F.zero))
  ]

-- ---- a finite value's pattern lies below the infinity's
pub infinite : of_bits binary32 (255 * 2 ^ 23) ≡ inf false
unfolding of_bits
infinite = refl

plain-number : (m : ℕ) (e : ℤ) → is_nan (fin false m e) ≡ false
unfolding is_nan
plain-number m e = refl

pub low_bits : (m : ℕ) (e : ℤ) → T (fits binary32 (fin false (suc m) e)) → to_bits binary32 (fin false (suc m) e) < 2 ^ 31
low_bits m e F = no_sign (fin false (suc m) e) F (above_zero m e)

pub finite_bits : (m : ℕ) (e : ℤ) → T (fits binary32 (fin false (suc m) e)) → to_bits binary32 (fin false (suc m) e) < 255 * 2 ^ 23
finite_bits m e F =
    let x = fin false (suc m) e in
    let b = to_bits binary32 x in
    let back : of_bits binary32 b ≡ x = of_bits-to_bits binary32 x F in
    let number : ltb (255 * 2 ^ 23) (b % 2 ^ 31) ≡ false = sym (nan_bits_above binary32 b) ∙ nan_bits_is binary32 b ∙ ap is_nan back ∙ plain-number (suc m) e in
    let most : b ≤ 255 * 2 ^ 23 = omega (arith, ltb-false (255 * 2 ^ 23) (b % 2 ^ 31) number, low_bits m e F) in
    elim (dec_lt b (255 * 2 ^ 23)) [
      | yes l ↦ l
      | no f ↦
          let at : b ≡ 255 * 2 ^ 23 = omega arith in
          let i : x ≡ inf false = sym back ∙ ap (of_bits binary32) at ∙ infinite in
          absurd (subst (λ (z : Float). T (finite z)) i tt)
    ]
