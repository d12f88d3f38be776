-- What `root_bits` finds is the nearest, and nothing else is. Assumes nothing.
use Rattle.std.specs.Prelude.{◌≡◌, Bool, true, false, not, ℕ, zero, suc, ◌+◌, ◌*◌, ◌^◌, ◌≤◌, ◌<◌, T}
use Rattle.std.proofs.Common.{inl, inr, zero-le, lt_irrefl, le_trans, lt_of_lt_of_le, lt_of_le_of_lt, eq-or-lt_of_le, mul-le-mul_left, mul-le-mul_right, add-one, arith, lit<}
use Rattle.std.proofs.Math.Nat.{two-pow-succ}
use Rattle.std.proofs.Math.Decide.{dec_le, dec_lt}
use Rattle.std.proofs.Math.Dec.{leb→le, nleb→lt}
use Rattle.root.specs.Patterns.{scaled_mono, square_mono}
use Rattle.root.specs.Root.{of_parts, scaled, twice_middle, fourfold, reaches, seek, root_bits}

-- y lies nearest to the root of n / 4: (y + p)² ≤ n < (s + y)²
pub record Nearest (n y : ℕ) : Type 0 where
  pub below : twice_middle y * twice_middle y ≤ n
  pub above : n < twice_middle (suc y) * twice_middle (suc y)

-- the square of y + p
abbrev sq : ℕ → ℕ
sq y = twice_middle y * twice_middle y

pick : (n a b : ℕ) (t : Bool) → (T t → Nearest n a) → (T (not t) → Nearest n b) → Nearest n (elim t [ true ↦ a | false ↦ b ])
pick n a b true p q = p tt
pick n a b false p q = q tt

twice : (lo p : ℕ) → lo + (p + p) ≡ lo + p + p
twice lo p = omega arith

seek_nearest : (n k lo : ℕ) → sq lo ≤ n → n < sq (lo + 2 ^ k) → Nearest n (seek n k lo)
unfolding seek
seek_nearest n zero lo h l = record { below = h; above = rw (← add-one lo) l }
seek_nearest n (suc k) lo h l =
    pick n (seek n k (lo + 2 ^ k)) (seek n k lo) (reaches n (lo + 2 ^ k))
    (λ t. seek_nearest n k (lo + 2 ^ k) (unfold reaches in leb→le (sq (lo + 2 ^ k)) n t) (rw (two-pow-succ k, twice) at l))
    (λ t. seek_nearest n k lo h (unfold reaches in nleb→lt (sq (lo + 2 ^ k)) n t))

top : (b : ℕ) → scaled b ≤ scaled (2 ^ 31) → fourfold b < sq (2 ^ 31)
unfolding fourfold twice_middle scaled of_parts
top b h = lt_of_le_of_lt (mul-le-mul_right (2 ^ 149) (mul-le-mul_left 4 h)) (lit< {m = 4 * scaled (2 ^ 31) * 2 ^ 149} {n = sq (2 ^ 31)} tt)

pub root_nearest : (b : ℕ) → b < 2 ^ 31 → Nearest (fourfold b) (root_bits b)
unfolding root_bits
root_nearest b h =
    seek_nearest (fourfold b) 31 0 (unfold twice_middle scaled of_parts in zero-le) (top b (scaled_mono b (2 ^ 31) (omega arith)))

-- ---- there is one nearest
clash : (n y z : ℕ) → Nearest n y → Nearest n z → y < z → ⊥
clash n y z p q l = omega (arith, p.above, q.below, square_mono (suc y) z l)

pub nearest_unique : (n y z : ℕ) → Nearest n y → Nearest n z → y ≡ z
nearest_unique n y z p q =
    elim (dec_le y z) [
      | yes h ↦ elim (eq-or-lt_of_le h) [ inl e ↦ e | inr l ↦ absurd (clash n y z p q l) ]
      | no f ↦ absurd (clash n z y q p (omega arith))
    ]

-- ---- the root lies far below the infinity's pattern
far : (b : ℕ) → scaled b ≤ scaled (2 ^ 31) → fourfold b < sq (254 * 2 ^ 23)
unfolding fourfold twice_middle scaled of_parts
far b h = lt_of_le_of_lt (mul-le-mul_right (2 ^ 149) (mul-le-mul_left 4 h)) (lit< {m = 4 * scaled (2 ^ 31) * 2 ^ 149} {n = sq (254 * 2 ^ 23)} tt)

pub root_finite : (b : ℕ) → b < 2 ^ 31 → root_bits b < 254 * 2 ^ 23
root_finite b h =
    elim (dec_lt (root_bits b) (254 * 2 ^ 23)) [
      | yes l ↦ l
      | no f ↦ absurd (lt_irrefl (fourfold b) (lt_of_lt_of_le (far b (scaled_mono b (2 ^ 31) (omega arith))) (le_trans (square_mono (254 * 2 ^ 23) (root_bits b) (omega arith)) (root_nearest b h).below)))
    ]
