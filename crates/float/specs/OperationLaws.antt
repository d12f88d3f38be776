-- Laws of binary32's operations: NaN passes through each; where one changes nothing; where its answer cannot be finite. Assumes nothing.
use Rattle.std.specs.Prelude.{◌≡◌, refl, ◌⊎◌, Bool, true, false, cond, not, ◌&&◌, ℕ, zero, suc, ◌+◌, ◌-◌, ◌*◌, ◌/◌, ◌%◌, ◌<◌, ◌≤◌, ◌^◌, T, ltb, leb, eqb, ℤ, pos, negsuc, Float}
use Rattle.std.proofs.Common.{sym, ap, ◌∙◌, subst, inl, inr, true≢false, arith, lt_of_mul-lt-mul_right, mul-lt-mul_of_pos_right, mul-one, sub-add_cancel, mul-pos, mul_comm, mul_assoc, mul_right_comm, zero-lt-suc, le-ltb, lt-ltb, leb→le, ltb→lt, pow-add, pow_pos}
use Rattle.std.proofs.Math.Dec.{eqb-suc-zero}
use Rattle.std.proofs.Math.Pow.{pow-lt}
use Rattle.std.specs.Float.Ieee as Ieee
use Rattle.std.specs.Float.{nan, inf, fin, Format, binary32}
use Rattle.std.specs.Float.Ieee.{prec, emax, low, up, down, size, round, fits, to_bits, of_bits, unlike, eq, hid, top}
use Rattle.std.specs.Float.Ieee.Bits.{of_bits-to_bits}
use Rattle.std.specs.Float.Ieee.Exact.{HasValue, round_exact}
use Rattle.std.specs.Float.Ieee.Fits.{round-fits, up_pos, down_pos, and_l, and_r}
use Rattle.std.specs.Float.Ieee.Nearest.{div_same}
use Rattle.std.specs.Float.Ieee.Scale.{finite, round_same}
use Rattle.lemmas.specs.Cases.{lt_or_le}
use Rattle.float.specs.F32 as F
use Rattle.float.specs.F32.{◌+f◌, ◌-f◌, ◌*f◌, ◌/f◌}
use Rattle.float.specs.FloatLaws.{eq-zero}

-- ---- NaN passes through each operation

pub add_nan : (x : Float) → x +f nan ≡ nan
unfolding Ieee.add
add_nan nan = refl
add_nan (inf s) = refl
add_nan (fin s m e) = refl

pub nan_add : (x : Float) → nan +f x ≡ nan
unfolding Ieee.add
nan_add x = refl

pub sub_nan : (x : Float) → x -f nan ≡ nan
unfolding Ieee.sub Ieee.neg
sub_nan x = add_nan x

pub nan_sub : (x : Float) → nan -f x ≡ nan
unfolding Ieee.sub Ieee.add
nan_sub x = refl

pub mul_nan : (x : Float) → x *f nan ≡ nan
unfolding Ieee.mul
mul_nan nan = refl
mul_nan (inf s) = refl
mul_nan (fin s m e) = refl

pub nan_mul : (x : Float) → nan *f x ≡ nan
unfolding Ieee.mul
nan_mul x = refl

pub div_nan : (x : Float) → x /f nan ≡ nan
unfolding Ieee.div
div_nan nan = refl
div_nan (inf s) = refl
div_nan (fin s m e) = refl

pub nan_div : (x : Float) → nan /f x ≡ nan
unfolding Ieee.div
nan_div x = refl

-- ---- what the format holds, rounding leaves

-- the same number with the same sign has the same pattern
same_bits : (f : Format) (s : Bool) (m n : ℕ) (e d : ℤ) → m * up e * down d ≡ n * up d * down e → to_bits f (fin s m e) ≡ to_bits f (fin s n d)
unfolding to_bits
same_bits f s m n e d h =
    let q : m * up e * 2 ^ low f / down e ≡ n * up d * 2 ^ low f / down d = div_same (m * up e * 2 ^ low f) (down e) (n * up d * 2 ^ low f) (down d) (down_pos e) (down_pos d)
    (mul_right_comm (m * up e) (2 ^ low f) (down d) ∙ ap (λ (x : ℕ). x * 2 ^ low f) h ∙ mul_right_comm (n * up d) (down e) (2 ^ low f)) in
    ap (λ (x : ℕ). cond s (top f) 0 + (size x - prec f) * hid f + x / 2 ^ (size x - prec f)) q

written_once : (f : Format) (s : Bool) (m n : ℕ) (e d : ℤ) → T (fits f (fin s m e)) → T (fits f (fin s n d)) → m * up e * down d ≡ n * up d * down e → fin s m e ≡ fin s n d
written_once f s m n e d p q h = sym (of_bits-to_bits f (fin s m e) p) ∙ ap (of_bits f) (same_bits f s m n e d h) ∙ of_bits-to_bits f (fin s n d) q

has_value_is : (f : Format) (x : Float) (s : Bool) (m : ℕ) (e : ℤ) → T (fits f x) → T (fits f (fin s m e)) → HasValue x s (m * up e) (down e) → x ≡ fin s m e
has_value_is f nan s m e p q v = absurd v
has_value_is f (inf t) s m e p q v = absurd v
has_value_is f (fin t n d) s m e p q v =
    let same : fin t n d ≡ fin s n d = ap (λ (b : Bool). fin b n d) v.0 in
    same ∙ written_once f s n m d e (subst (λ (x : Float). T (fits f x)) same p) q v.1

-- m * 2 ^ e in units of the format's smallest value
in_units : (f : Format) (m : ℕ) (e : ℤ) → down e ≤ 2 ^ low f → (j : ℕ) × (m * up e * 2 ^ low f ≡ m * 2 ^ j * down e)
in_units f m (pos k) l = (k + low f, rw (pow-add 2 k (low f)) (omega (arith, mul_assoc m (2 ^ k) (2 ^ low f))))
in_units f m (negsuc k) l = (low f - suc k, ap (λ (x : ℕ). x * 2 ^ low f) (mul-one m) ∙ ap (λ (x : ℕ). m * x) power ∙ sym (mul_assoc m (2 ^ (low f - suc k)) (2 ^ suc k)))
  where
    reached : suc k ≤ low f
    reached = elim (lt_or_le (low f) (suc k)) [ inl h ↦ absurd (omega (arith, l, pow-lt h)) | inr h ↦ h ]

    power : 2 ^ low f ≡ 2 ^ (low f - suc k) * 2 ^ suc k
    power = ap (λ (x : ℕ). 2 ^ x) (sym (sub-add_cancel reached)) ∙ pow-add 2 (low f - suc k) (suc k)

-- and there are fewer of them than where the overflow begins
under : (f : Format) (a x d : ℕ) → a * 2 ^ low f ≡ x * d → a < 2 ^ suc (emax f) * d → x < 2 ^ (low f + suc (emax f))
under f a x d e l =
    let top : 2 ^ suc (emax f) * d * 2 ^ low f ≡ 2 ^ (low f + suc (emax f)) * d = mul_right_comm (2 ^ suc (emax f)) d (2 ^ low f) ∙ ap (λ (y : ℕ). y * d) (mul_comm (2 ^ suc (emax f)) (2 ^ low f) ∙ sym (pow-add 2 (low f) (suc (emax f)))) in
    lt_of_mul-lt-mul_right d (subst (λ (y : ℕ). y < 2 ^ (low f + suc (emax f)) * d) e (subst (λ (y : ℕ). a * 2 ^ low f < y) top (mul-lt-mul_of_pos_right l (pow_pos (low f)))))

pub round_own : (f : Format) (s : Bool) (m : ℕ) (e : ℤ) → T (fits f (fin s m e)) → round f s (m * up e) (down e) ≡ fin s m e
unfolding fits
round_own f s zero e p = has_value_is f _ s zero e (round-fits f s (zero * up e) (down e)) p (round_exact f s (zero * up e) (down e) 0 0 (down_pos e) (pow_pos (prec f)) (pow_pos (low f + suc (emax f))) (omega arith))
round_own f s (suc m) e p =
    let A = eqb (suc m % 2) 1 in
    let B = ltb (suc m) (2 ^ prec f) in
    let C = leb (down e) (2 ^ low f) in
    let D = ltb (suc m * up e) (2 ^ suc (emax f) * down e) in
    let small : suc m < 2 ^ prec f = ltb→lt (suc m) (2 ^ prec f) (and_r A B (and_l (A && B) C (and_l (A && B && C) D p))) in
    let deep : down e ≤ 2 ^ low f = leb→le (down e) (2 ^ low f) (and_r (A && B) C (and_l (A && B && C) D p)) in
    let high : suc m * up e < 2 ^ suc (emax f) * down e = ltb→lt (suc m * up e) (2 ^ suc (emax f) * down e) (and_r (A && B && C) D p) in
    let u = in_units f (suc m) e deep in
    has_value_is f _ s (suc m) e (round-fits f s (suc m * up e) (down e)) p
    (round_exact f s (suc m * up e) (down e) (suc m) u.0 (down_pos e) small (under f (suc m * up e) (suc m * 2 ^ u.0) (down e) u.1 high) u.1)

-- the same, of any fraction of that value
pub round-value : (f : Format) (s : Bool) (m : ℕ) (e : ℤ) (a c : ℕ) → T (fits f (fin s m e)) → 0 < c → a * down e ≡ m * up e * c → round f s a c ≡ fin s m e
round-value f s m e a c p h v = round_same f s a c (m * up e) (down e) h (down_pos e) v ∙ round_own f s m e p

-- nothing over something rounds to a zero
round-zero : (f : Format) (s : Bool) (a c : ℕ) → a ≡ 0 → 0 < c → round f s a c ≡ fin s 0 (pos 0)
unfolding fits
round-zero f s a c z h = round-value f s 0 (pos 0) a c tt h (omega arith)

-- ---- products with 1 and +0

pub one-mul : (x : Float) → T (fits binary32 x) → F.one *f x ≡ x
unfolding Ieee.mul of_bits
one-mul nan p = refl
one-mul (inf true) p = refl
one-mul (inf false) p = refl
one-mul (fin true m e) p = round-value binary32 true m e (1 * (m * up e)) (1 * down e) p (omega (arith, down_pos e)) (omega arith)
one-mul (fin false m e) p = round-value binary32 false m e (1 * (m * up e)) (1 * down e) p (omega (arith, down_pos e)) (omega arith)

-- a zero times a finite number is a zero; times an infinity or NaN it is NaN
pub zero_times : (s t : Bool) (m : ℕ) (e : ℤ) → fin s 0 (pos 0) *f fin t m e ≡ fin (unlike s t) 0 (pos 0)
unfolding Ieee.mul
zero_times s t m e = round-zero binary32 (unlike s t) (0 * (m * up e)) (1 * down e) (omega arith) (omega (arith, down_pos e))

-- +0 gives it the number's sign
pub zero-mul : (s : Bool) (m : ℕ) (e : ℤ) → F.zero *f fin s m e ≡ fin s 0 (pos 0)
unfolding of_bits
zero-mul true m e = zero_times false true m e
zero-mul false m e = zero_times false false m e

pub zero_mul_nonfinite : (x : Float) → finite x ≡ false → F.zero *f x ≡ nan
unfolding Ieee.mul of_bits
zero_mul_nonfinite nan h = refl
zero_mul_nonfinite (inf s) h = refl
zero_mul_nonfinite (fin s m e) h = absurd (true≢false h)

pub nonfinite_mul_zero : (x : Float) → finite x ≡ false → x *f F.zero ≡ nan
unfolding Ieee.mul of_bits
nonfinite_mul_zero nan h = refl
nonfinite_mul_zero (inf s) h = refl
nonfinite_mul_zero (fin s m e) h = absurd (true≢false h)

-- ---- sums with a zero

-- where the one part is nothing, the other is rounded, with its sign
sum-right_none : (f : Format) (s : Bool) (a : ℕ) (t : Bool) (b c : ℕ) → 0 < a → b ≡ 0 → Ieee.sum f s a t b c ≡ round f s a c
unfolding Ieee.sum
sum-right_none f true a true b c h z = ap (λ (x : ℕ). round f true x c) (omega arith)
sum-right_none f false a false b c h z = ap (λ (x : ℕ). round f false x c) (omega arith)
sum-right_none f true a false b c h z = rw (le-ltb a b (omega arith), lt-ltb b a (omega arith)) (ap (λ (x : ℕ). round f true x c) (omega arith))
sum-right_none f false a true b c h z = rw (le-ltb a b (omega arith)) (ap (λ (x : ℕ). round f false x c) (omega arith))

sum-left_none : (f : Format) (s : Bool) (a : ℕ) (t : Bool) (b c : ℕ) → a ≡ 0 → 0 < b → Ieee.sum f s a t b c ≡ round f t b c
unfolding Ieee.sum
sum-left_none f true a true b c z h = ap (λ (x : ℕ). round f true x c) (omega arith)
sum-left_none f false a false b c z h = ap (λ (x : ℕ). round f false x c) (omega arith)
sum-left_none f true a false b c z h = rw (lt-ltb a b (omega arith)) (ap (λ (x : ℕ). round f false x c) (omega arith))
sum-left_none f false a true b c z h = rw (lt-ltb a b (omega arith)) (ap (λ (x : ℕ). round f true x c) (omega arith))

-- a zero added to a finite number that is none
pub add-zero : (s t : Bool) (m : ℕ) (e : ℤ) → T (fits binary32 (fin s (suc m) e)) → fin s (suc m) e +f fin t 0 (pos 0) ≡ fin s (suc m) e
unfolding Ieee.add
add-zero s t m e p =
    sum-right_none binary32 s (suc m * up e * 1) t (0 * down e) (down e * 1) (omega (arith, mul-pos (zero-lt-suc m) (up_pos e))) (omega arith)
    ∙ round-value binary32 s (suc m) e (suc m * up e * 1) (down e * 1) p (omega (arith, down_pos e)) (omega arith)

pub zero-add : (s t : Bool) (m : ℕ) (e : ℤ) → T (fits binary32 (fin s (suc m) e)) → fin t 0 (pos 0) +f fin s (suc m) e ≡ fin s (suc m) e
unfolding Ieee.add
zero-add s t m e p =
    sum-left_none binary32 t (0 * down e) s (suc m * up e * 1) (1 * down e) (omega arith) (omega (arith, mul-pos (zero-lt-suc m) (up_pos e)))
    ∙ round-value binary32 s (suc m) e (suc m * up e * 1) (1 * down e) p (omega (arith, down_pos e)) (omega arith)

-- of two zeros the sum is negative where both are
pub zeros_add : (s t : Bool) → fin s 0 (pos 0) +f fin t 0 (pos 0) ≡ fin (s && t) 0 (pos 0)
unfolding Ieee.add
zeros_add true true = refl
zeros_add true false = refl
zeros_add false true = refl
zeros_add false false = refl

-- a finite number and its opposite
sum_opposite : (f : Format) (s : Bool) (a c : ℕ) → 0 < c → Ieee.sum f (not s) a s a c ≡ fin false 0 (pos 0)
unfolding Ieee.sum
sum_opposite f true a c h = rw (le-ltb a a (omega arith)) (round-zero f false (a - a) c (omega arith) h)
sum_opposite f false a c h = rw (le-ltb a a (omega arith)) (round-zero f false (a - a) c (omega arith) h)

pub opposite_add : (x : Float) → finite x ≡ true → Ieee.neg x +f x ≡ F.zero
unfolding Ieee.add Ieee.neg of_bits
opposite_add nan h = absurd (true≢false (sym h))
opposite_add (inf s) h = absurd (true≢false (sym h))
opposite_add (fin s m e) h = sum_opposite binary32 s (m * up e * down e) (down e * down e) (mul-pos (down_pos e) (down_pos e))

-- ---- a number divided by itself

pub self_div : (s : Bool) (m : ℕ) (e : ℤ) → fin s (suc m) e /f fin s (suc m) e ≡ F.one
unfolding Ieee.div of_bits fits
self_div s m e = rw (eqb-suc-zero m, alike s) (round-value binary32 false 1 (pos 0) (suc m * up e * down e) (suc m * up e * down e) tt (mul-pos (mul-pos (zero-lt-suc m) (up_pos e)) (down_pos e)) (omega arith))
  where
    alike : (t : Bool) → unlike t t ≡ false
    alike true = refl
    alike false = refl

-- ---- what is not finite

pub nonfinite_is : (x : Float) → finite x ≡ false → (x ≡ nan) ⊎ ((s : Bool) × (x ≡ inf s))
nonfinite_is nan h = inl refl
nonfinite_is (inf s) h = inr (s, refl)
nonfinite_is (fin s m e) h = absurd (true≢false h)

-- an infinity or NaN times anything, and plus anything
pub nonfinite_mul : (x y : Float) → finite x ≡ false → finite (x *f y) ≡ false
unfolding Ieee.mul
nonfinite_mul nan y h = refl
nonfinite_mul (inf s) nan h = refl
nonfinite_mul (inf s) (inf t) h = refl
nonfinite_mul (inf s) (fin t zero d) h = refl
nonfinite_mul (inf s) (fin t (suc n) d) h = rw (eqb-suc-zero n) refl
nonfinite_mul (fin s m e) y h = absurd (true≢false h)

pub nonfinite_add : (x y : Float) → finite x ≡ false → finite (x +f y) ≡ false
unfolding Ieee.add
nonfinite_add nan y h = refl
nonfinite_add (inf s) nan h = refl
nonfinite_add (inf true) (inf true) h = refl
nonfinite_add (inf true) (inf false) h = refl
nonfinite_add (inf false) (inf true) h = refl
nonfinite_add (inf false) (inf false) h = refl
nonfinite_add (inf s) (fin t n d) h = refl
nonfinite_add (fin s m e) y h = absurd (true≢false h)

pub add_nonfinite : (x y : Float) → finite y ≡ false → finite (x +f y) ≡ false
unfolding Ieee.add
add_nonfinite nan y h = refl
add_nonfinite (inf s) y h = nonfinite_add (inf s) y refl
add_nonfinite (fin s m e) nan h = refl
add_nonfinite (fin s m e) (inf t) h = refl
add_nonfinite (fin s m e) (fin t n d) h = absurd (true≢false h)

-- anything divided by a zero
pub div-zero : (x z : Float) → eq z F.zero ≡ true → finite (x /f z) ≡ false
unfolding Ieee.div eq of_bits
div-zero x nan h = absurd (true≢false (sym h))
div-zero x (inf t) h = absurd (true≢false (sym h))
div-zero nan (fin t n d) h = refl
div-zero (inf s) (fin t n d) h = refl
div-zero (fin s zero e) (fin t n d) h = rw (eq-zero t n d h) refl
div-zero (fin s (suc m) e) (fin t n d) h = rw (eq-zero t n d h, eqb-suc-zero m) refl
