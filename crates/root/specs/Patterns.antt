-- Patterns without a sign and the numbers that they stand for: a larger pattern, a larger number; and twice the middle between two neighbours. Assumes nothing.
use Rattle.std.specs.Prelude.{◌≡◌, refl, ℕ, zero, suc, ◌+◌, ◌-◌, ◌*◌, ◌/◌, ◌%◌, ◌^◌, ◌≤◌, ◌<◌}
use Rattle.std.proofs.Common.{ap, ◌∙◌, subst, inl, inr, lt_irrefl, le_refl, le_trans, le_of_eq, le_of_lt, lt_of_lt_of_le, eq-or-lt_of_le, mul-le-mul, mul-le-mul_left, mul-le-mul_right, mul-lt-mul_of_pos_right, add-mul, mul-add, pow-suc, add_comm, add-one, arith, pow_mono, pow_pos}
use Rattle.std.proofs.Math.Decide.{dec_lt}
use Rattle.std.proofs.Math.Pow.{high, low}
use Rattle.root.specs.Root.{of_parts, scaled, twice_middle, fourfold}

-- ---- the definitions, as equations
pub parts-zero : (t : ℕ) → of_parts 0 t ≡ t
unfolding of_parts
parts-zero t = refl

pub parts_at : (x t : ℕ) → of_parts (suc x) t ≡ (2 ^ 23 + t) * 2 ^ x
unfolding of_parts
parts_at x t = refl

pub scaled_is : (b : ℕ) → scaled b ≡ of_parts (b / 2 ^ 23) (b % 2 ^ 23)
unfolding scaled
scaled_is b = refl

pub twice_middle_is : (y : ℕ) → twice_middle y ≡ scaled y + scaled (y - 1)
unfolding twice_middle
twice_middle_is y = refl

pub fourfold_is : (b : ℕ) → fourfold b ≡ 4 * scaled b * 2 ^ 149
unfolding fourfold
fourfold_is b = refl

one_is : scaled 1 ≡ 1
unfolding scaled of_parts
one_is = refl

-- ---- a larger pattern stands for a larger number
same_field : (x t u : ℕ) → t < u → of_parts x t < of_parts x u
unfolding of_parts
same_field zero t u h = h
same_field (suc x) t u h = mul-lt-mul_of_pos_right {m = 2 ^ 23 + t} {n = 2 ^ 23 + u} (omega arith) (pow_pos x)

next_field : (x t : ℕ) → t < 2 ^ 23 → of_parts x t < of_parts (suc x) 0
unfolding of_parts
next_field zero t h = omega arith
next_field (suc x) t h =
    rw (pow-suc 2 x) (lt_of_lt_of_le (mul-lt-mul_of_pos_right {m = 2 ^ 23 + t} {n = 2 ^ 24} (omega arith) (pow_pos x)) (omega arith))

later_field : (x y : ℕ) → x < y → of_parts (suc x) 0 ≤ of_parts y 0
unfolding of_parts
later_field x zero h = omega arith
later_field x (suc y) h = mul-le-mul_left (2 ^ 23 + 0) (pow_mono {i = x} {j = y} (omega arith))

from_zero : (x t : ℕ) → of_parts x 0 ≤ of_parts x t
from_zero x zero = le_refl (of_parts x 0)
from_zero x (suc t) = le_of_lt (same_field x 0 (suc t) (omega arith))

pub scaled-strict : (a b : ℕ) → a < b → scaled a < scaled b
unfolding scaled
scaled-strict a b h =
    let x = a / 2 ^ 23 in
    let y = b / 2 ^ 23 in
    elim (eq-or-lt_of_le {n = x} {m = y} (omega arith)) [
      | inl e ↦ subst (λ (z : ℕ). of_parts x (a % 2 ^ 23) < of_parts z (b % 2 ^ 23)) e (same_field x (a % 2 ^ 23) (b % 2 ^ 23) (omega arith))
      | inr l ↦ lt_of_lt_of_le (next_field x (a % 2 ^ 23) (omega arith)) (le_trans (later_field x y l) (from_zero y (b % 2 ^ 23)))
    ]

pub scaled_mono : (a b : ℕ) → a ≤ b → scaled a ≤ scaled b
scaled_mono a b h = elim (eq-or-lt_of_le h) [ inl e ↦ le_of_eq (ap scaled e) | inr l ↦ le_of_lt (scaled-strict a b l) ]

-- a smaller number has a smaller pattern
pub smaller : (a b : ℕ) → scaled a < scaled b → a < b
smaller a b h = elim (dec_lt a b) [ yes l ↦ l | no f ↦ absurd (lt_irrefl (scaled a) (lt_of_lt_of_le h (scaled_mono b a (omega arith)))) ]

-- the least number above zero, fourfold
pub fourfold-least : (b : ℕ) → 0 < b → 4 * 1 * 2 ^ 149 ≤ fourfold b
fourfold-least b B = let s : 1 ≤ scaled b = rw one_is at (scaled_mono 1 b B) in rw fourfold_is (mul-le-mul_right (2 ^ 149) (mul-le-mul_left 4 s))

pub twice_middle_mono : (a b : ℕ) → a ≤ b → twice_middle a ≤ twice_middle b
unfolding twice_middle
twice_middle_mono a b h = omega (arith, scaled_mono a b h, scaled_mono (a - 1) (b - 1) (omega arith))

pub square_mono : (a b : ℕ) → a ≤ b → twice_middle a * twice_middle a ≤ twice_middle b * twice_middle b
square_mono a b h = mul-le-mul (twice_middle_mono a b h) (twice_middle_mono a b h)

-- ---- the number and twice the middle at a field and its digits
at_field : (x t : ℕ) → t < 2 ^ 23 → scaled (x * 2 ^ 23 + t) ≡ of_parts x t
unfolding scaled
at_field x t h = rw (high x 23 h, low x 23 h)

usual : (k t : ℕ) → t < 2 ^ 23 → scaled (k * 2 ^ 23 + (2 ^ 23 + t)) ≡ (2 ^ 23 + t) * 2 ^ k
usual k t h =
    let e : k * 2 ^ 23 + (2 ^ 23 + t) ≡ suc k * 2 ^ 23 + t = omega arith in
    ap scaled e ∙ at_field (suc k) t h ∙ parts_at k t

last : (k : ℕ) → scaled (k * 2 ^ 23 + 2 ^ 24) ≡ 2 ^ 24 * 2 ^ k
last k =
    let e : k * 2 ^ 23 + 2 ^ 24 ≡ suc (suc k) * 2 ^ 23 + 0 = omega arith in
    ap scaled e ∙ at_field (suc (suc k)) 0 (omega arith) ∙ parts_at (suc k) 0 ∙ rw (pow-suc 2 k) (omega arith)

pub scaled_at : (k r : ℕ) → 2 ^ 23 ≤ r → r ≤ 2 ^ 24 → scaled (k * 2 ^ 23 + r) ≡ r * 2 ^ k
scaled_at k r h l =
    elim (eq-or-lt_of_le l) [
      | inl e ↦ rw e (last k)
      | inr i ↦ let e : r ≡ 2 ^ 23 + (r - 2 ^ 23) = omega arith in rw e (usual k (r - 2 ^ 23) (omega arith))
    ]

pub odd_square : (r : ℕ) → (r + r + 1) * (r + r + 1) ≡ 4 * (r * r + r) + 1
odd_square r = simp (mul-add, add-mul) (omega arith)

-- y + s, with s the neighbour above y
pub twice_middle-next : (y : ℕ) → twice_middle (suc y) ≡ scaled y + scaled (y + 1)
twice_middle-next y =
    let e : suc y - 1 ≡ y = omega arith in
    twice_middle_is (suc y) ∙ rw (e, add-one) (add_comm (scaled (suc y)) (scaled y))

pub next-twice_middle : (k r : ℕ) → 2 ^ 23 ≤ r → r < 2 ^ 24 → twice_middle (suc (k * 2 ^ 23 + r)) ≡ (r + r + 1) * 2 ^ k
next-twice_middle k r h l =
    let y = k * 2 ^ 23 + r in
    let up : suc y ≡ k * 2 ^ 23 + (r + 1) = omega arith in
    let down : suc y - 1 ≡ y = omega arith in
    let a : scaled (suc y) ≡ (r + 1) * 2 ^ k = ap scaled up ∙ scaled_at k (r + 1) (omega arith) (omega arith) in
    let b : scaled (suc y - 1) ≡ r * 2 ^ k = ap scaled down ∙ scaled_at k r h (omega arith) in
    twice_middle_is (suc y) ∙ rw (a, b) (simp add-mul (omega arith))

-- the same at y = k · 2 ^ 23 + (r + 1)
pub own_twice_middle : (k r : ℕ) → 2 ^ 23 ≤ r → r + 1 < 2 ^ 24 → twice_middle (k * 2 ^ 23 + (r + 1)) ≡ (r + r + 1) * 2 ^ k
own_twice_middle k r h l = let e : k * 2 ^ 23 + (r + 1) ≡ suc (k * 2 ^ 23 + r) = omega arith in ap twice_middle e ∙ next-twice_middle k r h (omega arith)

pub scaled_small : (b : ℕ) → b < 2 ^ 23 → scaled b ≡ b
scaled_small b h =
    let q : b / 2 ^ 23 ≡ 0 = omega arith in
    let r : b % 2 ^ 23 ≡ b = omega arith in
    scaled_is b ∙ rw (q, r) (parts-zero b)
