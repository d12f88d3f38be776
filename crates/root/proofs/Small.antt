-- The parts of a subnormal's pattern, read from the pattern of that whole number as a binary32. Assumes nothing.
use mathlib.Core.Path.{◌≡◌, sym, ap, ◌∙◌, subst}
use mathlib.Core.Bool.{true, false, not, true≢false}
use Prim.Native.Nat.{ℕ, zero, suc, ◌+◌, ◌-◌, ◌*◌, ◌/◌, ◌%◌, ◌^◌, ◌≤◌, ◌<◌}
use native.Mathlib.Nat.{lt_irrefl, le_trans, lt_of_lt_of_le, mul-le-mul_right, mul-one, mul-pos, mul_assoc, mul_right_comm, eq_of_mul-eq-mul_right}
use native.Mathlib.Omega.{arith}
use native.Mathlib.Decide.{dec_le}
use lib.Dec.{T, lit<, le→leb}
use lib.IntN.{pos}
use lib.Pow.{pow-add, pow_pos}
use lib.Ieee.{Float, nan, inf, fin, binary32, to_bits, of_int, is_nan, in_float, fits, up, down}
use lib.Ieee.Back.{round_whole}
use lib.Ieee.Bits.{of_bits-to_bits}
use lib.Ieee.Exact.{HasValue}
use lib.Ieee.Fits.{of_int-fits, down_pos}
use Rattle.root.specs.Root.{of_parts, scaled}
use Rattle.root.specs.Patterns.{scaled_mono, scaled_small}
use Rattle.root.specs.Post.{IsParts, PartsIn}
use Rattle.root.specs.Values.{pattern_value, finite_bits}
use Rattle.root.proofs.Assemble.{split-normal}

-- ---- a whole number as a float
one_value : (x : Float) (a c b d : ℕ) → HasValue x false a c → HasValue x false b d → a * d ≡ b * c
one_value nan a c b d v w = absurd v
one_value (inf s) a c b d v w = absurd v
one_value (fin s m e) a c b d v w =
    eq_of_mul-eq-mul_right (down e) (down_pos e) (a * d) (b * c)
    (mul_right_comm a d (down e) ∙ ap (λ (z : ℕ). z * d) (sym v.1) ∙ mul_right_comm (m * up e) c d ∙ ap (λ (z : ℕ). z * c) w.1 ∙ mul_right_comm b (down e) c)

finite : (x : Float) (b : ℕ) → T (fits binary32 x) → 0 < b → HasValue x false b 1 → to_bits binary32 x < 255 * 2 ^ 23
finite nan b f B v = absurd v
finite (inf s) b f B v = absurd v
finite (fin true m e) b f B v = absurd (true≢false v.0)
finite (fin false zero e) b f B v = absurd (omega (arith, v.1, mul-pos B (down_pos e)))
finite (fin false (suc m) e) b f B v = finite_bits m e f

number : (x : Float) (b : ℕ) → HasValue x false b 1 → T (not (is_nan x))
unfolding is_nan
number nan b v = absurd v
number (inf s) b v = absurd v
number (fin s m e) b v = tt

abbrev pub own_bits : ℕ → ℕ
own_bits b = to_bits binary32 (of_int binary32 (pos b))

module _ (b : ℕ) (B : 0 < b) (h : b < 2 ^ 23) where
  value : HasValue (of_int binary32 (pos b)) false b 1
  value = unfold of_int in round_whole binary32 false b (omega arith)

  pub held : T (in_float binary32 (pos b))
  held = unfold in_float in le→leb b (2 ^ 24) (omega arith)

  pub no_nan : T (not (is_nan (of_int binary32 (pos b))))
  no_nan = number (of_int binary32 (pos b)) b value

  low : own_bits b < 255 * 2 ^ 23
  low = finite (of_int binary32 (pos b)) b (of_int-fits binary32 (pos b)) B value

  own_scaled : scaled (own_bits b) ≡ b * 2 ^ 149
  own_scaled =
      let x = of_int binary32 (pos b) in
      let p = subst (λ (z : Float). HasValue z false (scaled (own_bits b)) (2 ^ 149)) (of_bits-to_bits binary32 x (of_int-fits binary32 (pos b))) (pattern_value (own_bits b) low) in
      sym (one_value x b 1 (scaled (own_bits b)) (2 ^ 149) value p ∙ mul-one (scaled (own_bits b)))

  -- ---- its pattern's parts
  pub high : 24 * 2 ^ 23 ≤ own_bits b
  high = elim (dec_le (24 * 2 ^ 23) (own_bits b)) [
    | yes l ↦ l
    | no f ↦
        let l : scaled (own_bits b) ≤ 2 ^ 46 = unfold scaled of_parts in scaled_mono (own_bits b) (24 * 2 ^ 23) (omega arith) in
        absurd (lt_irrefl (2 ^ 46) (lt_of_lt_of_le (lit< {m = 2 ^ 46} {n = 1 * 2 ^ 149} tt) (le_trans (mul-le-mul_right (2 ^ 149) B) (rw own_scaled at l))))
  ]

  split_small : IsParts b (own_bits b % 2 ^ 23 + 2 ^ 23) (own_bits b / 2 ^ 23 - 24)
  split_small =
      let c = own_bits b in
      let m = c % 2 ^ 23 + 2 ^ 23 in
      let e = c / 2 ^ 23 - 24 in
      let P = split-normal c (omega (arith, high)) (omega (arith, low)) in
      let f : c / 2 ^ 23 + 125 ≡ e + 149 = omega (arith, high) in
      record {
        least = P.least;
        most = P.most;
        exponent = omega (arith, P.exponent);
        value = rw (scaled_small b h) (eq_of_mul-eq-mul_right (2 ^ 149) (pow_pos 149) (m * 2 ^ e) (b * 2 ^ 126)
            (mul_assoc m (2 ^ e) (2 ^ 149) ∙ ap (λ (z : ℕ). m * z) (sym (pow-add 2 e 149) ∙ ap (λ (z : ℕ). 2 ^ z) (sym f)) ∙ P.value ∙ ap (λ (z : ℕ). z * 2 ^ 126) own_scaled ∙ mul_right_comm b (2 ^ 149) (2 ^ 126)));
      }

  pub small_parts : PartsIn b (own_bits b - 24 * 2 ^ 23)
  small_parts =
      let c = own_bits b in
      let t = c - 24 * 2 ^ 23 in
      let digits : t % 2 ^ 23 ≡ c % 2 ^ 23 = omega (arith, high) in
      let field : t / 2 ^ 23 ≡ c / 2 ^ 23 - 24 = omega (arith, high) in
      rw (digits, field) split_small
