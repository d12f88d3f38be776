-- A pattern put together from its parts, and when it is the nearest. Assumes nothing.
use mathlib.Core.Path.{◌≡◌, sym, ap, ◌∙◌, subst}
use mathlib.Core.Logic.{inl, inr}
use Prim.Native.Nat.{ℕ, suc, ◌+◌, ◌-◌, ◌*◌, ◌/◌, ◌%◌, ◌^◌, ◌≤◌, ◌<◌}
use native.Mathlib.Nat.{le_trans, le_of_eq, eq-or-lt_of_le, mul-le-mul, mul-le-mul_right, mul-lt-mul_of_pos_right, mul_comm, mul_assoc, mul-pos, mul-mul-mul_comm, pow-suc, add_comm}
use native.Mathlib.Omega.{arith}
use native.Mathlib.Decide.{dec_le, ℕ_discrete}
use lib.Pow.{pow_pos, pow-add, field, mod-mod-pow}
use lib.Count.{count_leading_zeros}
use Rattle.std.proofs.Math.Pow.{pow_mono}
use Rattle.std.proofs.lemmas.Nat.{leading_top}
use Rattle.root.specs.Root.{of_parts, scaled, twice_middle, fourfold, root_bits}
use Rattle.root.specs.RootLaws.{Nearest, root_nearest, nearest_unique}
use Rattle.root.specs.Patterns.{scaled_mono, parts_at, twice_middle_is, scaled_is, scaled_at, odd_square, next-twice_middle, own_twice_middle, fourfold_is, scaled_small}
use Rattle.root.specs.NearLaws.{one_more}
use Rattle.root.specs.Post.{IsParts, PartsIn, IsRounded}

square_le : (x g p m : ℕ) → x ≤ g * p → g * g ≤ m → x * x ≤ m * (p * p)
square_le x g p m h l = le_trans (mul-le-mul h h) (le_trans (le_of_eq (mul-mul-mul_comm g p g p)) (mul-le-mul_right (p * p) l))

square_gt : (x g p m : ℕ) → 0 < p → x ≡ g * p → m < g * g → m * (p * p) < x * x
square_gt x g p m P e l = rw (e, mul-mul-mul_comm g p g p) (mul-lt-mul_of_pos_right l (mul-pos P P))

least-twice_middle : (k : ℕ) → twice_middle (k * 2 ^ 23 + 2 ^ 23) ≤ 2 ^ 24 * 2 ^ k
least-twice_middle k =
    let y = k * 2 ^ 23 + 2 ^ 23 in
    let a : scaled y ≡ 2 ^ 23 * 2 ^ k = scaled_at k (2 ^ 23) (omega arith) (omega arith) in
    let b : scaled (y - 1) ≤ scaled y = scaled_mono (y - 1) y (omega arith) in
    rw (twice_middle_is y) (omega arith)

below_inner : (n k q : ℕ) → 2 ^ 23 ≤ q → q + 1 < 2 ^ 24 → (q + 1) * (q + 1) < n + (q + 1) → twice_middle (k * 2 ^ 23 + (q + 1)) * twice_middle (k * 2 ^ 23 + (q + 1)) ≤ 4 * n * (2 ^ k * 2 ^ k)
below_inner n k q h l u =
    let w : q * q + q + q + 1 < n + (q + 1) = rw one_more at u in
    square_le (twice_middle (k * 2 ^ 23 + (q + 1))) (q + q + 1) (2 ^ k) (4 * n) (le_of_eq (own_twice_middle k q h l)) (rw odd_square (omega arith))

below_of : (n k r : ℕ) → IsRounded n r → 2 ^ 46 ≤ n → twice_middle (k * 2 ^ 23 + r) * twice_middle (k * 2 ^ 23 + r) ≤ 4 * n * (2 ^ k * 2 ^ k)
below_of n k r R N =
    elim (eq-or-lt_of_le R.least) [
      | inl e ↦ rw (← e) (square_le (twice_middle (k * 2 ^ 23 + 2 ^ 23)) (2 ^ 24) (2 ^ k) (4 * n) (least-twice_middle k) (omega arith))
      | inr l ↦ let e : r ≡ r - 1 + 1 = omega arith in rw e (below_inner n k (r - 1) (omega arith) (omega (arith, R.most)) (subst (λ (z : ℕ). z * z < n + z) e R.under))
    ]

pub is_nearest : (n k r : ℕ) → IsRounded n r → 2 ^ 46 ≤ n → Nearest (4 * n * (2 ^ k * 2 ^ k)) (k * 2 ^ 23 + r)
is_nearest n k r R N = record {
  below = below_of n k r R N;
  above = square_gt (twice_middle (suc (k * 2 ^ 23 + r))) (r + r + 1) (2 ^ k) (4 * n) (pow_pos k) (next-twice_middle k r R.least R.most) (rw odd_square (omega arith));
}

-- ---- the root of n, rounded
pub small_square : (a : ℕ) → a ≤ 2 ^ 24 → a * a ≤ 2 ^ 48
small_square a h = mul-le-mul h h

-- the two bounds on n hold r between 2 ^ 23 and 2 ^ 24
pub is_rounded : (n r : ℕ) → 2 ^ 46 ≤ n → n ≤ 2 ^ 48 - 2 ^ 24 → r * r < n + r → n ≤ r * r + r → IsRounded n r
is_rounded n r N M u o = record {
  least = elim (dec_le (2 ^ 23) r) [ yes h ↦ h | no f ↦ let l : r ≤ 2 ^ 23 - 1 = omega arith in omega (arith, mul-le-mul l l) ];
  most = elim (dec_le (2 ^ 24) r) [ yes h ↦ omega (arith, mul-le-mul_right r h) | no f ↦ omega arith ];
  under = u;
  over = o;
}

-- ---- the parts of a pattern
value_at : (x t : ℕ) → (t + 2 ^ 23) * 2 ^ (suc x + 125) ≡ of_parts (suc x) t * 2 ^ 126
value_at x t =
    let e : suc x + 125 ≡ x + 126 = omega arith in
    rw (e, pow-add 2 x 126, add_comm t (2 ^ 23), parts_at x t) (sym (mul_assoc (2 ^ 23 + t) (2 ^ x) (2 ^ 126)))

pub split-normal : (b : ℕ) → 2 ^ 23 ≤ b → b < 2 ^ 31 → IsParts b (b % 2 ^ 23 + 2 ^ 23) (b / 2 ^ 23 + 125)
split-normal b h l =
    let e : b / 2 ^ 23 ≡ suc (b / 2 ^ 23 - 1) = omega arith in
    record {
      least = omega arith;
      most = omega arith;
      exponent = omega arith;
      value = rw scaled_is (subst (λ (z : ℕ). (b % 2 ^ 23 + 2 ^ 23) * 2 ^ (z + 125) ≡ of_parts z (b % 2 ^ 23) * 2 ^ 126) (sym e) (value_at (b / 2 ^ 23 - 1) (b % 2 ^ 23)));
    }

-- a number whose leading digit is at place j, moved up until that is at place 23
moved : (b j p : ℕ) → j + p ≡ 23 → b < 2 ^ 23 → 2 ^ j ≤ b → b < 2 ^ suc j → IsParts b (b * 2 ^ p % 2 ^ 64) (126 - p)
moved b j p e B L M =
    let f : suc j + p ≡ 24 = omega arith in
    let g : p + (126 - p) ≡ 126 = omega arith in
    let least : 2 ^ 23 ≤ b * 2 ^ p = subst (λ (z : ℕ). 2 ^ z ≤ b * 2 ^ p) e (rw pow-add (mul-le-mul_right (2 ^ p) L)) in
    let most : b * 2 ^ p < 2 ^ 24 = subst (λ (z : ℕ). b * 2 ^ p < 2 ^ z) f (rw (pow-add 2 (suc j) p) (mul-lt-mul_of_pos_right M (pow_pos p))) in
    let whole : b * 2 ^ p % 2 ^ 64 ≡ b * 2 ^ p = omega arith in
    rw whole (record {
      least = least;
      most = most;
      exponent = omega arith;
      value = rw (scaled_small b B) (mul_assoc b (2 ^ p) (2 ^ (126 - p)) ∙ ap (λ (z : ℕ). b * z) (sym (pow-add 2 p (126 - p)) ∙ ap (λ (z : ℕ). 2 ^ z) g));
    })

counted : (b c j : ℕ) → b < 2 ^ 23 → c + suc j ≡ 64 → 2 ^ j ≤ b → b < 2 ^ suc j → (40 ≤ c) × IsParts b (b * 2 ^ (c - 40) % 2 ^ 64) (126 - (c - 40))
counted b c j B e L M =
    let top : j < 23 = elim (dec_le 23 j) [ no f ↦ omega arith | yes h ↦ let l : 2 ^ 23 ≤ 2 ^ j = pow_mono {i = 23} {j = j} h in absurd (omega arith) ] in
    (omega arith, moved b j (c - 40) (omega arith) B L M)

pub split_small : (b : ℕ) → 0 < b → b < 2 ^ 23 → (40 ≤ count_leading_zeros 64 b) × IsParts b (b * 2 ^ (count_leading_zeros 64 b - 40) % 2 ^ 64) (126 - (count_leading_zeros 64 b - 40))
split_small b P B = let t = leading_top 64 b P (omega arith) in counted b (count_leading_zeros 64 b) t.0 B t.1 t.2 t.3

-- ---- the whole
-- n and k hold the number: x in squared units is n * 4 ^ k
abbrev pub Holds : ℕ → ℕ → ℕ → Type 0
Holds b n k = n * (2 ^ k * 2 ^ k) ≡ scaled b * 2 ^ 149

regroup : (m c p : ℕ) → m * c * p ≡ m * p * c
regroup m c p = simp (mul_assoc, mul_comm)

widen : (s : ℕ) → s * 2 ^ 126 * 2 ^ 23 ≡ s * 2 ^ 149
widen s = mul_assoc s (2 ^ 126) (2 ^ 23)

pub holds_even : (b m e : ℕ) → IsParts b m e → (e % 2 ≡ 1 → ⊥) → Holds b (m * 2 ^ 23) (e / 2)
holds_even b m e P h =
    let f : e / 2 + e / 2 ≡ e = omega arith in
    let g : 2 ^ (e / 2) * 2 ^ (e / 2) ≡ 2 ^ e = sym (pow-add 2 (e / 2) (e / 2)) ∙ ap (λ (z : ℕ). 2 ^ z) f in
    rw (g, regroup m (2 ^ 23) (2 ^ e), P.value) (widen (scaled b))

pub holds_odd : (b m e : ℕ) → IsParts b m e → e % 2 ≡ 1 → Holds b (m * 2 ^ 23 * 2) (e / 2)
holds_odd b m e P h =
    let k = e / 2 in
    let f : suc (k + k) ≡ e = omega arith in
    let g : 2 * (2 ^ k * 2 ^ k) ≡ 2 ^ e = ap (λ (z : ℕ). 2 * z) (sym (pow-add 2 k k)) ∙ mul_comm 2 (2 ^ (k + k)) ∙ sym (pow-suc 2 (k + k)) ∙ ap (λ (z : ℕ). 2 ^ z) f in
    rw (mul_assoc (m * 2 ^ 23) 2 (2 ^ k * 2 ^ k), g, regroup m (2 ^ 23) (2 ^ e), P.value) (widen (scaled b))

pub found : (b n k r : ℕ) → b < 2 ^ 31 → 2 ^ 46 ≤ n → IsRounded n r → Holds b n k → k * 2 ^ 23 + r ≡ root_bits b
found b n k r B N R H =
    let e : 4 * n * (2 ^ k * 2 ^ k) ≡ fourfold b = mul_assoc 4 n (2 ^ k * 2 ^ k) ∙ ap (λ (z : ℕ). 4 * z) H ∙ sym (mul_assoc 4 (scaled b) (2 ^ 149)) ∙ sym (fourfold_is b) in
    nearest_unique (fourfold b) (k * 2 ^ 23 + r) (root_bits b) (subst (λ (z : ℕ). Nearest z (k * 2 ^ 23 + r)) e (is_nearest n k r R N)) (root_nearest b B)

-- ---- the same where the parts stand in one number t: m without its leading digit, and e from place 23 on
-- the whole number whose root is taken, from the 24 low digits of t: where e's last digit is 1, a place goes to m
abbrev pub radicand : ℕ → ℕ
radicand t = (t % 2 ^ 24 % 2 ^ 23 + 2 ^ 23) * (t % 2 ^ 24 / 2 ^ 23 * 2 ^ 23 + 2 ^ 23)

radicand_odd : (t : ℕ) → t / 2 ^ 23 % 2 ≡ 1 → radicand t ≡ (t % 2 ^ 23 + 2 ^ 23) * 2 ^ 23 * 2
radicand_odd t h = rw (mod-mod-pow t 1 23, field t 1 23, h) (sym (mul_assoc (t % 2 ^ 23 + 2 ^ 23) (2 ^ 23) 2))

radicand_even : (t : ℕ) → (t / 2 ^ 23 % 2 ≡ 1 → ⊥) → radicand t ≡ (t % 2 ^ 23 + 2 ^ 23) * 2 ^ 23
radicand_even t f = let h : t / 2 ^ 23 % 2 ≡ 0 = omega arith in rw (mod-mod-pow t 1 23, field t 1 23, h)

pub radicand_bounds : (t : ℕ) → (2 ^ 46 ≤ radicand t) × (radicand t ≤ 2 ^ 48 - 2 ^ 24)
radicand_bounds t = elim (ℕ_discrete (t / 2 ^ 23 % 2) 1) [ yes o ↦ rw (radicand_odd t o) (omega arith, omega arith) | no f ↦ rw (radicand_even t f) (omega arith, omega arith) ]

radicand-holds : (b t : ℕ) → PartsIn b t → Holds b (radicand t) (t / 2 ^ 23 / 2)
radicand-holds b t P =
    elim (ℕ_discrete (t / 2 ^ 23 % 2) 1) [
      | yes o ↦ rw (radicand_odd t o) (holds_odd b (t % 2 ^ 23 + 2 ^ 23) (t / 2 ^ 23) P o)
      | no f ↦ rw (radicand_even t f) (holds_even b (t % 2 ^ 23 + 2 ^ 23) (t / 2 ^ 23) P f)
    ]

pub answer : (b t r : ℕ) → b < 2 ^ 31 → PartsIn b t → IsRounded (radicand t) r → t / 2 ^ 24 * 2 ^ 23 + r ≡ root_bits b
answer b t r B P R =
    let half : t / 2 ^ 24 ≡ t / 2 ^ 23 / 2 = omega arith in
    rw half (found b (radicand t) (t / 2 ^ 23 / 2) r B (radicand_bounds t).0 R (radicand-holds b t P))

pub normal-parts : (b : ℕ) → 2 ^ 23 ≤ b → b < 2 ^ 31 → PartsIn b (b + 125 * 2 ^ 23)
normal-parts b h l =
    let t = b + 125 * 2 ^ 23 in
    let digits : t % 2 ^ 23 ≡ b % 2 ^ 23 = omega arith in
    let field : t / 2 ^ 23 ≡ b / 2 ^ 23 + 125 = omega arith in
    rw (digits, field) (split-normal b h l)
