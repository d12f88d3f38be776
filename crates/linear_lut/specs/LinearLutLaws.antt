-- The search, segment by segment, and the cases of a lookup. Assumes nothing.
use Rattle.std.specs.Prelude.{◌≡◌, true, false, List, ℕ, suc, ◌+◌, ◌-◌, ◌*◌, ◌/◌, ◌%◌, ◌<◌, length, get_or, Float, Ok}
use Rattle.std.proofs.Common.{ap, arith}
use Rattle.std.proofs.Math.Bool.{or-true}
use Rattle.std.proofs.Math.Numerals.{add-one}
use borrow.Author.Tests.{eq-eqb, ne_eqb}
use Rattle.std.specs.Float.{nan}
use Rattle.std.specs.Float.Ieee.{le}
use Rattle.float.specs.F32 as F
use Rattle.refusal.specs.Answers.{refused}
use Rattle.refusal.specs.declared.Refusal.TheVariants as Refusal
use Rattle.linear_lut.specs.LinearLut.{x_at, y_at, segment, holds, within, among, call_get}

module _ (points : List Float) (x : Float) where
  -- the next point's numbers stand two places on
  pub next_x : (i : ℕ) → x_at points (i + 1) ≡ get_or points (2 * i + 2) nan
  next_x i = let e : 2 * (i + 1) ≡ 2 * i + 2 = omega arith in ap (λ (k : ℕ). get_or points k nan) e

  pub next_y : (i : ℕ) → y_at points (i + 1) ≡ get_or points (2 * i + 3) nan
  next_y i = let e : 2 * (i + 1) + 1 ≡ 2 * i + 3 = omega arith in ap (λ (k : ℕ). get_or points k nan) e

  less_one : (n i : ℕ) → i < n → n - i ≡ suc (n - suc i)
  less_one n i h = omega arith

  pub found : (n i : ℕ) → i < n → holds points i x ≡ true → within points (n - i) i x ≡ segment points i x
  unfolding within
  found n i h t = rw (less_one n i h, t, within)

  pub passed : (n i : ℕ) → i < n → holds points i x ≡ false → within points (n - i) i x ≡ within points (n - (i + 1)) (i + 1) x
  unfolding within
  passed n i h t = rw (less_one n i h, t, add-one, within)

  pub none_left : (n i : ℕ) → n - i ≡ 0 → within points (n - i) i x ≡ F.zero
  unfolding within
  none_left n i e = rw (e, within)

  pub odd_refused : length points % 2 ≡ 1 → refused Refusal.Points F.zero ≡ call_get points x
  odd_refused e = simp (eq-eqb _ _ e)

  pub one-refused : length points ≡ 2 → refused Refusal.Points F.zero ≡ call_get points x
  one-refused e = simp (eq-eqb _ _ e, or-true)

  pub none_zero : (length points % 2 ≡ 1 → ⊥) → (length points ≡ 2 → ⊥) → length points ≡ 0 → Ok F.zero ≡ call_get points x
  none_zero f g e = simp (ne_eqb _ _ f, ne_eqb _ _ g, eq-eqb _ _ e)

  pub some_among : (length points % 2 ≡ 1 → ⊥) → (length points ≡ 2 → ⊥) → (length points ≡ 0 → ⊥)
      → Ok (among points (length points / 2) x) ≡ call_get points x
  some_among f g e = simp (ne_eqb _ _ f, ne_eqb _ _ g, ne_eqb _ _ e)

  pub holds_where : (i : ℕ) → le (x_at points i) x ≡ true → le x (get_or points (2 * i + 2) nan) ≡ holds points i x
  holds_where i h = simp (h, next_x i)

  pub holds_not : (i : ℕ) → le (x_at points i) x ≡ false → false ≡ holds points i x
  holds_not i h = simp h

  -- the first segment, the last, or the one that holds x
  pub at_first : (n : ℕ) → le x (x_at points 0) ≡ true → segment points 0 x ≡ among points n x
  at_first n h = simp h

  last_x : (n : ℕ) → x_at points (n - 1) ≡ get_or points (2 * n - 2) nan
  last_x n = let e : 2 * (n - 1) ≡ 2 * n - 2 = omega arith in ap (λ (k : ℕ). get_or points k nan) e

  pub at_last : (n : ℕ) → le x (x_at points 0) ≡ false → le (get_or points (2 * n - 2) nan) x ≡ true → segment points (n - 2) x ≡ among points n x
  at_last n h k = simp (h, last_x n, k)

  pub between : (n : ℕ) → le x (x_at points 0) ≡ false → le (get_or points (2 * n - 2) nan) x ≡ false → within points (n - 1) 0 x ≡ among points n x
  between n h k = simp (h, last_x n, k)
