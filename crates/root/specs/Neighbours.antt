-- Two binary32 numbers between which none lies, by the toolchain's own comparison; and that the patterns b and b + 1 are those of such two. Assumes nothing.
use Rattle.std.specs.Prelude.{◌≡◌, refl, Bool, ℕ, zero, suc, ◌+◌, ◌*◌, ◌^◌, ◌≤◌, ◌<◌, ℤ, pos, T, Float}
use Rattle.std.proofs.Common.{sym, ap, ◌∙◌, subst, true≢false, lt_irrefl, lt_of_lt_of_le, mul-le-mul_right, le_of_mul-le-mul_right, pow_pos}
use Rattle.std.proofs.Math.Bool.{true, false}
use native.Mathlib.Omega.{arith}
use Rattle.std.proofs.Math.Decide.{dec_lt}
use borrow.Author.Tests.{ltb-true, lt-ltb}
use Rattle.std.specs.Float.Ieee.{nan, of_bits, to_bits, fits, lt, up, down}
use Rattle.std.specs.Float.{inf, fin, binary32}
use Rattle.std.specs.Float.Ieee.Bits.{is_true, of_bits-to_bits, of_bits-fits}
use Rattle.std.specs.Float.Ieee.Exact.{HasValue}
use Rattle.std.specs.Float.Ieee.Fits.{down_pos}
use Rattle.std.specs.Float.Ieee.Order.{transfer}
use Rattle.float.specs.FloatLaws.{zero-fits}
use Rattle.root.specs.Root.{scaled}
use Rattle.root.specs.Patterns.{scaled-strict, smaller}
use Rattle.root.specs.Values.{pattern_value, finite_bits}

-- Two binary32, the one below the other, and no binary32 z between them, whatever z is: NaN, an infinity or a number of either sign.
pub record Neighbours (low high : Float) : Type 0 where
  pub low_fits : T (fits binary32 low)
  pub high_fits : T (fits binary32 high)
  pub low-below-high : lt low high ≡ true
  pub none_between : (z : Float) → T (fits binary32 z) → lt low z ≡ true → lt z high ≡ true → ⊥

-- ---- of two numbers without a sign, as multiples of one unit, the smaller has the smaller multiple
module _ (c : ℕ) (C : 0 < c) where
  pub lt_values : (x y : Float) (a b : ℕ) → HasValue x false a c → HasValue y false b c → lt x y ≡ true → a < b
  unfolding lt
  lt_values nan y a b p q h = absurd p
  lt_values (inf s) y a b p q h = absurd p
  lt_values (fin true m e) y a b p q h = absurd (true≢false p.0)
  lt_values (fin false m e) nan a b p q h = absurd q
  lt_values (fin false m e) (inf t) a b p q h = absurd q
  lt_values (fin false m e) (fin true n d) a b p q h = absurd (true≢false q.0)
  lt_values (fin false m e) (fin false n d) a b p q h =
      elim (dec_lt a b) [
        | yes l ↦ l
        | no f ↦
            let le : b ≤ a = omega arith in
            let back : n * up d * down e ≤ m * up e * down d = transfer (n * up d) (m * up e) (down d) (down e) b a c c C C q.1 p.1 (mul-le-mul_right c le) in
            absurd (lt_irrefl (m * up e * down d) (lt_of_lt_of_le (ltb-true (m * up e * down d) (n * up d * down e) h) back))
      ]

  pub values_lt : (x y : Float) (a b : ℕ) → HasValue x false a c → HasValue y false b c → a < b → lt x y ≡ true
  unfolding lt
  values_lt nan y a b p q h = absurd p
  values_lt (inf s) y a b p q h = absurd p
  values_lt (fin true m e) y a b p q h = absurd (true≢false p.0)
  values_lt (fin false m e) nan a b p q h = absurd q
  values_lt (fin false m e) (inf t) a b p q h = absurd q
  values_lt (fin false m e) (fin true n d) a b p q h = absurd (true≢false q.0)
  values_lt (fin false m e) (fin false n d) a b p q h =
      let x = m * up e * down d in
      let y = n * up d * down e in
      elim (dec_lt x y) [
        | yes l ↦ lt-ltb x y l
        | no f ↦
            let back : b * c ≤ a * c = transfer b a c c (n * up d) (m * up e) (down d) (down e) (down_pos d) (down_pos e) (sym q.1) (sym p.1) (omega arith) in
            absurd (lt_irrefl a (lt_of_lt_of_le h (le_of_mul-le-mul_right back C)))
      ]

-- ---- a number without a sign has a pattern below the infinity's
abbrev pub unsigned_finite : Float → Bool
unsigned_finite nan = false
unsigned_finite (inf s) = false
unsigned_finite (fin true m e) = false
unsigned_finite (fin false m e) = true

pub record HasPattern (z : Float) : Type 0 where
  pub bits : ℕ
  pub finite : bits < 255 * 2 ^ 23
  pub value : HasValue z false (scaled bits) (2 ^ 149)
  pub is : of_bits binary32 bits ≡ z

zero_pattern : of_bits binary32 0 ≡ fin false 0 (pos 0)
unfolding of_bits
zero_pattern = refl

with_bits : (z : Float) (b : ℕ) → b < 255 * 2 ^ 23 → of_bits binary32 b ≡ z → HasPattern z
with_bits z b h e = record { bits = b; finite = h; value = subst (λ (x : Float). HasValue x false (scaled b) (2 ^ 149)) e (pattern_value b h); is = e }

pub pattern_of : (z : Float) → T (unsigned_finite z) → T (fits binary32 z) → HasPattern z
pattern_of nan t fit = absurd t
pattern_of (inf s) t fit = absurd t
pattern_of (fin true m e) t fit = absurd t
pattern_of (fin false zero e) t fit = with_bits (fin false 0 e) 0 (omega arith) (zero_pattern ∙ ap (fin false 0) (sym (zero-fits false e (is_true (fits binary32 (fin false 0 e)) fit))))
pattern_of (fin false (suc m) e) t fit = let x = fin false (suc m) e in with_bits x (to_bits binary32 x) (finite_bits m e fit) (of_bits-to_bits binary32 x fit)

-- what is above a number without a sign and below a number is such a number
above-plain : (m : ℕ) (e : ℤ) (z : Float) (n : ℕ) (d : ℤ) → lt (fin false m e) z ≡ true → lt z (fin false n d) ≡ true → T (unsigned_finite z)
unfolding lt
above-plain m e nan n d h k = true≢false (sym h)
above-plain m e (inf true) n d h k = true≢false (sym h)
above-plain m e (inf false) n d h k = true≢false (sym k)
above-plain m e (fin true q f) n d h k = true≢false (sym h)
above-plain m e (fin false q f) n d h k = tt

pub between-plain : (x z y : Float) → T (unsigned_finite x) → T (unsigned_finite y) → lt x z ≡ true → lt z y ≡ true → T (unsigned_finite z)
between-plain nan z y p q h k = absurd p
between-plain (inf s) z y p q h k = absurd p
between-plain (fin true m e) z y p q h k = absurd p
between-plain (fin false m e) z nan p q h k = absurd q
between-plain (fin false m e) z (inf s) p q h k = absurd q
between-plain (fin false m e) z (fin true n d) p q h k = absurd q
between-plain (fin false m e) z (fin false n d) p q h k = above-plain m e z n d h k

pub value-plain : (x : Float) (a c : ℕ) → HasValue x false a c → T (unsigned_finite x)
value-plain nan a c p = absurd p
value-plain (inf s) a c p = absurd p
value-plain (fin true m e) a c p = true≢false p.0
value-plain (fin false m e) a c p = tt

-- ---- the patterns b and b + 1

pub patterns_lt : (a b : ℕ) → a < b → b < 255 * 2 ^ 23 → lt (of_bits binary32 a) (of_bits binary32 b) ≡ true
patterns_lt a b h l = values_lt (2 ^ 149) (pow_pos 149) (of_bits binary32 a) (of_bits binary32 b) (scaled a) (scaled b) (pattern_value a (omega arith)) (pattern_value b l) (scaled-strict a b h)

pub neighbours : (a b : ℕ) → a < b → b ≤ a + 1 → b < 255 * 2 ^ 23 → Neighbours (of_bits binary32 a) (of_bits binary32 b)
neighbours a b h n l =
    let low = of_bits binary32 a in
    let high = of_bits binary32 b in
    let A : HasValue low false (scaled a) (2 ^ 149) = pattern_value a (omega arith) in
    let B : HasValue high false (scaled b) (2 ^ 149) = pattern_value b l in
    record {
      low_fits = of_bits-fits binary32 a;
      high_fits = of_bits-fits binary32 b;
      low-below-high = patterns_lt a b h l;
      none_between = λ z fit u v.
          let Z = pattern_of z (between-plain low z high (value-plain low (scaled a) (2 ^ 149) A) (value-plain high (scaled b) (2 ^ 149) B) u v) fit in
          let c : a < Z.bits = smaller a Z.bits (lt_values (2 ^ 149) (pow_pos 149) low z (scaled a) (scaled Z.bits) A Z.value u) in
          let d : Z.bits < b = smaller Z.bits b (lt_values (2 ^ 149) (pow_pos 149) z high (scaled Z.bits) (scaled b) Z.value B v) in
          omega arith;
    }

-- and two neighbours have no other patterns
pub next_pattern : (low high : Float) → Neighbours low high → (L : HasPattern low) (H : HasPattern high) → H.bits ≡ suc L.bits
next_pattern low high N L H =
    let a = L.bits in
    let b = H.bits in
    let c : a < b = smaller a b (lt_values (2 ^ 149) (pow_pos 149) low high (scaled a) (scaled b) L.value H.value N.low-below-high) in
    elim (dec_lt (suc a) b) [
      | yes l ↦
          absurd
          (N.none_between (of_bits binary32 (suc a)) (of_bits-fits binary32 (suc a))
          (rw (← L.is) (patterns_lt a (suc a) (omega arith) (omega (arith, H.finite))))
          (rw (← H.is) (patterns_lt (suc a) b l H.finite)))
      | no f ↦ omega arith
    ]
