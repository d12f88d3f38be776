-- Laws of the definitions and of binary32's tests that other crates cite. Assumes nothing.
use Rattle.std.specs.Prelude.{◌≡◌, refl, Bool, true, false, cond, not, ◌&&◌, ◌||◌, ◌⊎◌, ℕ, zero, suc, ◌+◌, ◌*◌, ◌<◌, ◌≤◌, ◌^◌, ◌%◌, T, ltb, eqb, ℤ, pos, negsuc, Float}
use Rattle.std.proofs.Common.{sym, ap, ◌∙◌, subst, true≢false, inl, inr, arith, mul-pos, zero-lt-suc, ltb-false, lt-ltb, le-ltb, eqb-true, eq-eqb, eqb→eq, pow_pos}
use Rattle.std.proofs.Math.Bool.{and-true}
use Rattle.std.specs.Float.{nan, inf, fin, binary32}
use Rattle.std.specs.Float.Ieee.{up, down, below, level, ne, eq, lt, le, div, is_nan, fits, of_bits, nan_bits}
use Rattle.std.specs.Float.Ieee.Fits.{up_pos}
use Rattle.std.specs.Float.Ieee.Bits.{nan_bits_above}
use Rattle.std.specs.Float.Ieee.Compare.{differs_from_itself}
use Rattle.lemmas.specs.Cases.{and_left}
use Rattle.float.specs.F32 as F
use Rattle.float.specs.F32.{◌/f◌}
use Rattle.float.specs.Float.{negative, clamp_f}

-- ---- NaN and the tests

pub nan_of : (x : Float) → ne x x ≡ true → x ≡ nan
nan_of x h = differs_from_itself x (subst T (sym h) tt)

pub nan_is : nan ≡ F.zero /f F.zero
unfolding div of_bits
nan_is = refl

pub is_nan_lem : (x : Float) → is_nan x ≡ true → x ≡ nan
unfolding is_nan
is_nan_lem nan h = refl
is_nan_lem (inf s) h = cc
is_nan_lem (fin s m e) h = cc

pub not_nan : (x : Float) → ne x x ≡ false → is_nan x ≡ false
unfolding ne eq is_nan
not_nan nan h = cc
not_nan (inf s) h = refl
not_nan (fin s m e) h = refl

-- what differs from itself is NaN, and nothing else is
pub ne_self : (x : Float) → ne x x ≡ is_nan x
unfolding is_nan
ne_self x = go (ne x x) refl
  where
    go : (b : Bool) → ne x x ≡ b → ne x x ≡ is_nan x
    go true h = h ∙ sym (ap is_nan (nan_of x h))
    go false h = h ∙ sym (not_nan x h)

pub eq_self : (x : Float) → is_nan x ≡ false → eq x x ≡ true
unfolding ne
eq_self x h = go (eq x x) (ne_self x ∙ h)
  where
    go : (b : Bool) → not b ≡ false → b ≡ true
    go true k = refl
    go false k = absurd (true≢false k)

-- what is below or above something is no NaN
pub lt_left : (a b : Float) → lt a b ≡ true → is_nan a ≡ false
unfolding lt is_nan
lt_left nan b h = cc
lt_left (inf s) b h = refl
lt_left (fin s m e) b h = refl

pub lt_right : (a b : Float) → lt a b ≡ true → is_nan b ≡ false
unfolding lt is_nan
lt_right nan nan h = cc
lt_right (inf s) nan h = cc
lt_right (fin s m e) nan h = cc
lt_right a (inf t) h = refl
lt_right a (fin t n d) h = refl

-- NaN is below nothing, and nothing is below NaN
not_both : (p n : Bool) → (p ≡ true → n ≡ false) → n ≡ true → p ≡ false
not_both true n f h = sym h ∙ f refl
not_both false n f h = refl

pub nan_lt : (a b : Float) → is_nan a ≡ true → lt a b ≡ false
nan_lt a b h = not_both (lt a b) (is_nan a) (lt_left a b) h

pub lt_nan : (a b : Float) → is_nan b ≡ true → lt a b ≡ false
lt_nan a b h = not_both (lt a b) (is_nan b) (lt_right a b) h

-- ---- patterns

pub no_nan_pattern : (n : ℕ) → n % 0x8000_0000 ≤ 0x7f80_0000 → T (not (nan_bits binary32 n))
no_nan_pattern n h = let e : nan_bits binary32 n ≡ false = nan_bits_above binary32 n ∙ le-ltb _ _ h in rw e tt

-- ---- zeros and signs

-- a size m * up e is 0 only where m is
size-zero : (m : ℕ) (e : ℤ) → m * up e ≡ 0 → m ≡ 0
size-zero zero e h = refl
size-zero (suc m) e h = let z : 0 < suc m * up e = mul-pos (zero-lt-suc m) (up_pos e) in absurd (omega arith)

-- what equals zero is a zero
pub eq-zero : (s : Bool) (m : ℕ) (e : ℤ) → eq (fin s m e) F.zero ≡ true → m ≡ 0
unfolding eq of_bits
eq-zero s m e h =
    let t : eqb (m * up e * 1) (0 * down e) ≡ true = and_left (eqb (m * up e * 1) (0 * down e)) _ h in
    size-zero m e (omega (arith, eqb-true (m * up e * 1) (0 * down e) t))

unit_exponent : (e : ℤ) → T (eqb (up e * down e) 1) → e ≡ pos 0
unit_exponent (pos zero) h = refl
unit_exponent (pos (suc k)) h = absurd (omega (arith, eqb→eq (2 ^ suc k * 1) 1 h, pow_pos k))
unit_exponent (negsuc k) h = absurd (omega (arith, eqb→eq (1 * 2 ^ suc k) 1 h, pow_pos k))

-- what `fits` gives: a zero that the format holds is written in one way
pub zero-fits : (s : Bool) (e : ℤ) → fits binary32 (fin s 0 e) ≡ true → e ≡ pos 0
unfolding fits
zero-fits s e f = unit_exponent e (subst T (sym f) tt)

pub zero_is : (x : Float) → fits binary32 x ≡ true → eq x F.zero ≡ true → (s : Bool) × (x ≡ fin s 0 (pos 0))
unfolding eq of_bits
zero_is nan f h = absurd (true≢false (sym h))
zero_is (inf s) f h = absurd (true≢false (sym h))
zero_is (fin s m e) f h =
    let z : fin s m e ≡ fin s 0 e = ap (λ (n : ℕ). fin s n e) (eq-zero s m e h) in
    (s, z ∙ ap (fin s 0) (zero-fits s e (sym (ap (fits binary32) z) ∙ f)))

-- two zeros are level, whatever their signs
zeros_level : (s t : Bool) (a b : ℕ) → a ≡ 0 → b ≡ 0 → level s a t b ≡ true
zeros_level true true a b p q = simp (p, q)
zeros_level true false a b p q = simp (p, q)
zeros_level false true a b p q = simp (p, q)
zeros_level false false a b p q = simp (p, q)

pub zero_equals : (s : Bool) (e : ℤ) → eq (fin s 0 e) F.zero ≡ true
unfolding eq of_bits
zero_equals s e = zeros_level s false (0 * up e * 1) (0 * down e) (omega arith) (omega arith)

pub zeros_equal : (s t : Bool) → eq (fin s 0 (pos 0)) (fin t 0 (pos 0)) ≡ true
unfolding eq
zeros_equal s t = zeros_level s t 0 0 refl refl

-- a number without a sign that is no zero is above zero
pub above_zero : (m : ℕ) (e : ℤ) → lt F.zero (fin false (suc m) e) ≡ true
unfolding lt of_bits
above_zero m e = lt-ltb (0 * down e) (suc m * up e * 1) (omega (arith, mul-pos (zero-lt-suc m) (up_pos e)))

-- and no zero is
pub zero_not_above : (e : ℤ) → lt F.zero (fin false 0 e) ≡ false
unfolding lt of_bits
zero_not_above e = le-ltb (0 * down e) (0 * up e * 1) (omega arith)

-- beside the zeros, a negative sign is what is below zero
pub sign_of : (x : Float) → eq x F.zero ≡ false → lt x F.zero ≡ negative x
unfolding lt eq of_bits negative
sign_of nan h = refl
sign_of (inf s) h = refl
sign_of (fin false m e) h = le-ltb (m * up e * 1) (0 * down e) (omega arith)
sign_of (fin true m e) h = go (ltb 0 (m * up e * 1 + 0 * down e)) refl
  where
    go : (b : Bool) → ltb 0 (m * up e * 1 + 0 * down e) ≡ b → b ≡ true
    go true k = refl
    go false k =
        let z : m * up e * 1 ≡ 0 = omega (arith, ltb-false 0 (m * up e * 1 + 0 * down e) k) in
        sym h ∙ zeros_level true false (m * up e * 1) (0 * down e) z (omega arith)

-- of a zero, the sign of 1 / x is the sign of x
pub sign_of_zero : (x : Float) → eq x F.zero ≡ true → lt (div binary32 F.one x) F.zero ≡ negative x
unfolding eq lt of_bits negative div
sign_of_zero nan h = cc
sign_of_zero (inf s) h = cc
sign_of_zero (fin true zero e) h = refl
sign_of_zero (fin false zero e) h = refl
sign_of_zero (fin s (suc m) e) h = let z : suc m ≡ 0 = eq-zero s (suc m) e h in absurd (omega arith)

-- ---- order: where neither is a NaN, not below is at or above

or_left : (p q : Bool) → p ≡ true → p || q ≡ true
or_left p q h = simp h

or_and : (p q : Bool) → p || q ≡ true → p || (q && true) ≡ true
or_and p q h = rw (and-true q) h

le_or : (a b : ℕ) (p : Bool) → ltb a b ≡ p → a ≤ b → ltb a b || eqb a b ≡ true
le_or a b true e h = simp e
le_or a b false e h = simp (e, eq-eqb a b (omega (arith, ltb-false a b e)))

le_or_sym : (a b : ℕ) (p : Bool) → ltb a b ≡ p → a ≤ b → ltb a b || eqb b a ≡ true
le_or_sym a b true e h = simp e
le_or_sym a b false e h = simp (e, eq-eqb b a (omega (arith, ltb-false a b e)))

sizes_total : (s : Bool) (a : ℕ) (t : Bool) (b : ℕ) → below s a t b ≡ false → below t b s a || level t b s a ≡ true
sizes_total false a false b h = or_and (ltb b a) (eqb b a) (le_or b a (ltb b a) refl (ltb-false a b h))
sizes_total true a true b h = or_and (ltb a b) (eqb b a) (le_or_sym a b (ltb a b) refl (ltb-false b a h))
sizes_total true a false b h = zeros_level false true b a (omega (arith, ltb-false 0 (a + b) h)) (omega (arith, ltb-false 0 (a + b) h))
sizes_total false a true b h = go (ltb 0 (b + a)) refl
  where
    go : (p : Bool) → ltb 0 (b + a) ≡ p → ltb 0 (b + a) || level true b false a ≡ true
    go true e = or_left (ltb 0 (b + a)) (level true b false a) e
    go false e = simp (e, zeros_level true false b a (omega (arith, ltb-false 0 (b + a) e)) (omega (arith, ltb-false 0 (b + a) e)))

pub at_least : (x y : Float) → is_nan x ≡ false → is_nan y ≡ false → lt x y ≡ false → le y x ≡ true
unfolding lt le eq is_nan
at_least nan y p q h = cc
at_least (inf s) nan p q h = cc
at_least (fin s m e) nan p q h = cc
at_least (inf true) (inf true) p q h = refl
at_least (inf true) (inf false) p q h = cc
at_least (inf false) (inf true) p q h = refl
at_least (inf false) (inf false) p q h = refl
at_least (inf true) (fin t n d) p q h = cc
at_least (inf false) (fin t n d) p q h = refl
at_least (fin s m e) (inf true) p q h = refl
at_least (fin s m e) (inf false) p q h = cc
at_least (fin s m e) (fin t n d) p q h = sizes_total s (m * up e * down d) t (n * up d * down e) h

pub le_numbers : (x y : Float) → le x y ≡ true → (is_nan x ≡ false) × (is_nan y ≡ false)
unfolding le lt eq is_nan
le_numbers nan y h = absurd (true≢false (sym h))
le_numbers (inf s) nan h = absurd (true≢false (sym h))
le_numbers (fin s m e) nan h = absurd (true≢false (sym h))
le_numbers (inf s) (inf t) h = (refl, refl)
le_numbers (inf s) (fin t n d) h = (refl, refl)
le_numbers (fin s m e) (inf t) h = (refl, refl)
le_numbers (fin s m e) (fin t n d) h = (refl, refl)

pub lt_irreflexive : (x : Float) → lt x x ≡ false
unfolding lt
lt_irreflexive nan = refl
lt_irreflexive (inf true) = refl
lt_irreflexive (inf false) = refl
lt_irreflexive (fin true m e) = le-ltb (m * up e * down e) (m * up e * down e) (omega arith)
lt_irreflexive (fin false m e) = le-ltb (m * up e * down e) (m * up e * down e) (omega arith)

-- ---- clamp

-- NaN passes
pub clamp_nan : (low high : Float) → clamp_f nan low high ≡ nan
unfolding clamp_f is_nan
clamp_nan low high = simp (nan_lt nan low refl, lt_nan high nan refl)

-- y is NaN, or from low to high
abbrev pub Within : Float → Float → Float → Type 0
Within low high y = (is_nan y ≡ true) ⊎ ((le low y ≡ true) × (le y high ≡ true))

-- between bounds in their order a clamp answers NaN or a number from the one to the other
pub clamp_within : (x low high : Float) → le low high ≡ true → Within low high (clamp_f x low high)
unfolding clamp_f
clamp_within x low high o = go (is_nan x) refl (lt x low) refl (lt high x) refl
  where
    numbers : (is_nan low ≡ false) × (is_nan high ≡ false)
    numbers = le_numbers low high o

    same : (y : Float) → is_nan y ≡ false → le y y ≡ true
    same y n = at_least y y n n (lt_irreflexive y)

    go : (n : Bool) → is_nan x ≡ n → (p : Bool) → lt x low ≡ p → (q : Bool) → lt high x ≡ q → Within low high (cond p low (cond q high x))
    go n e true h q k = inr (same low numbers.0, o)
    go n e false h true k = inr (o, same high numbers.1)
    go true e false h false k = inl e
    go false e false h false k = inr (at_least x low e numbers.0 h, at_least high x numbers.1 e k)
