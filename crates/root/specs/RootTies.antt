-- No binary32 has its root halfway between two neighbours, so the rule with ≤ on both sides admits one answer. Assumes nothing.
use Rattle.std.specs.Prelude.{◌≡◌, refl, ℕ, zero, suc, ◌+◌, ◌-◌, ◌*◌, ◌/◌, ◌%◌, ◌^◌, ◌≤◌, ◌<◌}
use Rattle.std.proofs.Common.{sym, ap, ◌∙◌, subst, inl, inr, zero-le, lt_irrefl, lt_of_lt_of_le, lt_of_le_of_lt, eq-or-lt_of_le, mul_comm, mul_assoc, mul-one, pow-suc, le-mul_of_pos_right, arith, lit<, pow_pos, pow-add}
use Rattle.std.proofs.Math.Nat.{eq_of_mul-eq-mul_right, mul-mul-mul_comm, le_dest}
use Rattle.std.proofs.Math.Decide.{dec_le}
use Rattle.root.specs.Root.{of_parts, scaled, twice_middle, fourfold, root_bits}
use Rattle.root.specs.RootLaws.{root_nearest, nearest_unique}
use Rattle.root.specs.Patterns.{square_mono, twice_middle_is, own_twice_middle, scaled_at, scaled_is, parts_at, parts-zero, odd_square, fourfold_is, fourfold-least}

-- ---- an odd square of 49 digits or more is no number of 24 digits, by any power of two

shift : (a i d j : ℕ) → i + d ≡ j → a * 2 ^ j ≡ a * 2 ^ d * 2 ^ i
shift a i d j e = rw (← e, pow-add 2 i d) (simp (mul_assoc, mul_comm))

fewer : (o q d : ℕ) → 2 ^ 23 ≤ o → q < 2 ^ 24 → (o + o + 1) * (o + o + 1) ≡ q * 2 ^ d → ⊥
fewer o q zero O Q e = omega (arith, rw odd_square at e)
fewer o q (suc d) O Q e = omega (arith, sym (odd_square o) ∙ e ∙ shift q 1 d (suc d) (omega arith))

more : (o q d : ℕ) → 2 ^ 23 ≤ o → q < 2 ^ 24 → (o + o + 1) * (o + o + 1) * 2 ^ d ≡ q → ⊥
more o q d O Q e = omega (arith, odd_square o, le-mul_of_pos_right ((o + o + 1) * (o + o + 1)) (pow_pos d))

no_tie : (o i q j : ℕ) → 2 ^ 23 ≤ o → q < 2 ^ 24 → (o + o + 1) * (o + o + 1) * 2 ^ i ≡ q * 2 ^ j → ⊥
no_tie o i q j O Q h =
    let S = (o + o + 1) * (o + o + 1) in
    elim (dec_le i j) [
      | yes l ↦ let d = le_dest l in fewer o q d.0 O Q (eq_of_mul-eq-mul_right (2 ^ i) (pow_pos i) S (q * 2 ^ d.0) (h ∙ shift q i d.0 j d.1))
      | no f ↦ let d = le_dest {n = j} {m = i} (omega arith) in more o q d.0 O Q (eq_of_mul-eq-mul_right (2 ^ j) (pow_pos j) (S * 2 ^ d.0) q (sym (shift S j d.0 i d.1) ∙ h))
    ]

-- ---- y + p is odd in its last place, for a y that is not among the least
pub record Odd (n : ℕ) : Type 0 where
  pub half : ℕ
  pub place : ℕ
  pub large : 2 ^ 23 ≤ half
  pub is : n ≡ (half + half + 1) * 2 ^ place

inside : (k r : ℕ) → 2 ^ 23 ≤ r → r + 1 < 2 ^ 24 → Odd (twice_middle (k * 2 ^ 23 + (r + 1)))
inside k r h l = record { half = r; place = k; large = h; is = own_twice_middle k r h l }

-- at a power of two the neighbour below lies half as far
at_power : (k : ℕ) → Odd (twice_middle (suc k * 2 ^ 23 + 2 ^ 23))
at_power k =
    let y = suc k * 2 ^ 23 + 2 ^ 23 in
    let down : y - 1 ≡ k * 2 ^ 23 + (2 ^ 24 - 1) = omega arith in
    let a : scaled y ≡ 2 ^ 23 * 2 ^ suc k = scaled_at (suc k) (2 ^ 23) (omega arith) (omega arith) in
    let b : scaled (y - 1) ≡ (2 ^ 24 - 1) * 2 ^ k = ap scaled down ∙ scaled_at k (2 ^ 24 - 1) (omega arith) (omega arith) in
    record { half = 2 ^ 24 - 1; place = k; large = omega arith; is = rw (twice_middle_is y, a, b, pow-suc 2 k) (omega arith) }

pub odd_twice_middle : (y : ℕ) → 2 ^ 23 < y → Odd (twice_middle y)
odd_twice_middle y h =
    let x = y / 2 ^ 23 in
    let t = y % 2 ^ 23 in
    elim (eq-or-lt_of_le {n = 0} {m = t} zero-le) [
      | inl e ↦ let f : y ≡ suc (x - 2) * 2 ^ 23 + 2 ^ 23 = omega arith in rw f (at_power (x - 2))
      | inr l ↦ let f : y ≡ (x - 1) * 2 ^ 23 + (2 ^ 23 + t - 1 + 1) = omega arith in rw f (inside (x - 1) (2 ^ 23 + t - 1) (omega arith) (omega arith))
    ]

-- ---- x is a number of at most 24 digits, by a power of two
record Short (n : ℕ) : Type 0 where
  significand : ℕ
  place : ℕ
  few : significand < 2 ^ 24
  is : n ≡ significand * 2 ^ place

short-parts : (x t : ℕ) → t < 2 ^ 23 → Short (of_parts x t)
short-parts zero t h = record { significand = t; place = 0; few = omega arith; is = parts-zero t ∙ sym (mul-one t) }
short-parts (suc x) t h = record { significand = 2 ^ 23 + t; place = x; few = omega arith; is = parts_at x t }

short : (b : ℕ) → Short (scaled b)
short b = rw scaled_is (short-parts (b / 2 ^ 23) (b % 2 ^ 23) (omega arith))

least-twice_middle_is : twice_middle (2 ^ 23) ≡ 2 ^ 24 - 1
unfolding twice_middle scaled of_parts
least-twice_middle_is = refl

small : (b y : ℕ) → 0 < b → y ≤ 2 ^ 23 → twice_middle y * twice_middle y < fourfold b
small b y B h =
    let m = fourfold-least b B in
    let a : twice_middle y * twice_middle y ≤ (2 ^ 24 - 1) * (2 ^ 24 - 1) = rw least-twice_middle_is at (square_mono y (2 ^ 23) h) in
    lt_of_le_of_lt a (lt_of_lt_of_le (lit< {m = (2 ^ 24 - 1) * (2 ^ 24 - 1)} {n = 4 * 1 * 2 ^ 149} tt) m)

four-shifted : (q j : ℕ) → 4 * (q * 2 ^ j) * 2 ^ 149 ≡ q * 2 ^ (j + 151)
four-shifted q j = ap (λ (z : ℕ). z * 2 ^ 149) (mul_comm 4 (q * 2 ^ j)) ∙ mul_assoc (q * 2 ^ j) 4 (2 ^ 149) ∙ mul_assoc q (2 ^ j) (2 ^ 151) ∙ ap (λ (z : ℕ). q * z) (sym (pow-add 2 j 151))

pub never_halfway : (b y : ℕ) → 0 < b → twice_middle y * twice_middle y ≡ fourfold b → ⊥
never_halfway b y B e =
    elim (dec_le y (2 ^ 23)) [
      | yes l ↦ lt_irrefl (fourfold b) (subst (λ (z : ℕ). z < fourfold b) e (small b y B l))
      | no f ↦ tie (odd_twice_middle y (omega arith)) (short b)
    ]
  where
    tie : Odd (twice_middle y) → Short (scaled b) → ⊥
    tie o s =
        let a = o.half + o.half + 1 in
        let i = o.place in
        let left : twice_middle y * twice_middle y ≡ a * a * 2 ^ (i + i) = rw (o.is, pow-add 2 i i) (mul-mul-mul_comm a (2 ^ i) a (2 ^ i)) in
        let right : fourfold b ≡ s.significand * 2 ^ (s.place + 151) = rw (fourfold_is, s.is) (four-shifted s.significand s.place) in
        no_tie o.half (i + i) s.significand (s.place + 151) o.large s.few (sym left ∙ e ∙ right)

-- document 01's rule, with ≤ on both sides, admits one answer
pub rule_unique : (b y : ℕ) → 0 < b → b < 2 ^ 31 → twice_middle y * twice_middle y ≤ fourfold b → fourfold b ≤ twice_middle (suc y) * twice_middle (suc y) → y ≡ root_bits b
rule_unique b y B h l u =
    elim (eq-or-lt_of_le u) [
      | inl e ↦ absurd (never_halfway b (suc y) B (sym e))
      | inr s ↦ nearest_unique (fourfold b) y (root_bits b) (record { below = l; above = s }) (root_nearest b h)
    ]
