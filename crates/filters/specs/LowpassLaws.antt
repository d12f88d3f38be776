-- Laws of a low pass that is switched off: what it answers and what it leaves. Where tau and dt switch one off is proved beside
-- (proofs/SwitchedOff). An input x `fits` where binary32 holds it, as it holds every f32. Assumes nothing.
use Rattle.std.specs.Prelude.{◌≡◌, refl, Bool, true, false, ◌&&◌, zero, suc, T, pos, Float}
use Rattle.std.proofs.Common.{sym, ap, ◌∙◌, true≢false}
use Rattle.std.specs.Float.Ieee as Ieee
use Rattle.std.specs.Float.{nan, inf, fin, binary32}
use Rattle.std.specs.Float.Ieee.{fits, eq, is_nan, of_bits}
use Rattle.std.specs.Float.Ieee.Bits.{is_true}
use Rattle.std.specs.Float.Ieee.Scale.{finite}
use Rattle.float.specs.F32 as F
use Rattle.float.specs.F32.{◌+f◌, ◌-f◌, ◌*f◌, ◌/f◌}
use Rattle.float.specs.Float.{negative}
use Rattle.float.specs.FloatLaws.{eq_self, zero_is, zero_equals, zeros_equal, zero-fits}
use Rattle.float.specs.OperationLaws.{add_nan, nan_add, mul_nan, one-mul, zero-mul, zero_mul_nonfinite, add-zero, zeros_add}
use Rattle.filters.specs.declared.lowpass.Lowpass.{Lowpass}
use Rattle.filters.specs.Lowpass.{lowpass_of, new_lowpass, step_lowpass}

-- ---- filters that are off

-- alpha0 = 1 and alpha1 = +0
abbrev pub Off : Lowpass → Type 0
Off s = (s.alpha0 ≡ F.one) × (s.alpha1 ≡ F.zero)

-- ---- what a filter that is off answers to x, where its last answer was y

-- NaN for good after an infinity or NaN. Else x; but a zero is -0 only where both x and y have a minus sign.
unfoldable pub passed : Float → Float → Float
passed x nan = nan
passed x (inf t) = nan
passed nan (fin t n d) = nan
passed (inf s) (fin t n d) = inf s
passed (fin s zero e) (fin t n d) = fin (s && t) zero (pos 0)
passed (fin s (suc m) e) (fin t n d) = fin s (suc m) e

weighed : (x y : Float) → T (fits binary32 x) → F.one *f x +f F.zero *f y ≡ passed x y
unfolding passed Ieee.add
weighed x nan p = rw (zero_mul_nonfinite nan refl) (add_nan (F.one *f x))
weighed x (inf t) p = rw (zero_mul_nonfinite (inf t) refl) (add_nan (F.one *f x))
weighed nan (fin t n d) p = rw (one-mul nan p) (nan_add (F.zero *f fin t n d))
weighed (inf s) (fin t n d) p = rw (one-mul (inf s) p, zero-mul t n d) refl
weighed (fin s zero e) (fin t n d) p = rw (one-mul (fin s zero e) p, zero-mul t n d, zero-fits s e (is_true _ p)) (zeros_add s t)
weighed (fin s (suc m) e) (fin t n d) p = rw (one-mul (fin s (suc m) e) p, zero-mul t n d) (add-zero s t m e p)

-- NaN in, NaN out, of every filter
pub nan_in : (s : Lowpass) → (step_lowpass s nan).y ≡ nan
unfolding step_lowpass
nan_in s = rw (mul_nan s.alpha0, nan_add (s.alpha1 *f s.y)) refl

module _ (s : Lowpass) (off : Off s) where
  pub off_answers : (x : Float) → T (fits binary32 x) → (step_lowpass s x).y ≡ passed x s.y
  unfolding step_lowpass
  off_answers x p = rw (off.0, off.1) (weighed x s.y p)

  -- it stays off, and its answer is what it goes on from
  pub off_leaves : (x : Float) → Off (step_lowpass s x).state × ((step_lowpass s x).state.y ≡ (step_lowpass s x).y)
  unfolding step_lowpass
  off_leaves x = (off, refl)

-- ---- what that means

-- after a finite answer it is x itself, NaN and infinities too, unless x is a zero
pub passed-same : (x y : Float) → finite y ≡ true → eq x F.zero ≡ false → passed x y ≡ x
unfolding passed eq of_bits
passed-same x nan h n = absurd (true≢false (sym h))
passed-same x (inf t) h n = absurd (true≢false (sym h))
passed-same nan (fin t m d) h n = refl
passed-same (inf s) (fin t m d) h n = refl
passed-same (fin s zero e) (fin t m d) h n = absurd (true≢false (sym (zero_equals s e) ∙ n))
passed-same (fin s (suc k) e) (fin t m d) h n = refl

-- and of a zero it is a zero, with a minus sign only where both x and y have one
pub passed-zero : (s : Bool) (y : Float) → finite y ≡ true → passed (fin s 0 (pos 0)) y ≡ fin (s && negative y) 0 (pos 0)
unfolding passed negative
passed-zero s nan h = absurd (true≢false (sym h))
passed-zero s (inf t) h = absurd (true≢false (sym h))
passed-zero s (fin t m d) h = refl

-- so by value it is every x that is no NaN
pub passed_equal : (x y : Float) → T (fits binary32 x) → finite y ≡ true → is_nan x ≡ false → eq (passed x y) x ≡ true
passed_equal x y f h n = go (eq x F.zero) refl
  where
    go : (b : Bool) → eq x F.zero ≡ b → eq (passed x y) x ≡ true
    go true e = let z = zero_is x (is_true _ f) e in rw (z.1, passed-zero z.0 y h) (zeros_equal (z.0 && negative y) z.0)
    go false e = rw (passed-same x y h e) (eq_self x n)

-- after an infinity or NaN it is NaN
pub passed_lost : (x y : Float) → finite y ≡ false → passed x y ≡ nan
unfolding passed
passed_lost x nan h = refl
passed_lost x (inf t) h = refl
passed_lost x (fin t m d) h = absurd (true≢false h)

-- what is finite stays finite, and what is not does not become so
pub passed_finite : (x y : Float) → finite y ≡ true → finite (passed x y) ≡ finite x
unfolding passed
passed_finite x nan h = absurd (true≢false (sym h))
passed_finite x (inf t) h = absurd (true≢false (sym h))
passed_finite nan (fin t m d) h = refl
passed_finite (inf s) (fin t m d) h = refl
passed_finite (fin s zero e) (fin t m d) h = refl
passed_finite (fin s (suc k) e) (fin t m d) h = refl

-- ---- a filter's life while it is off

-- it is off, and its last answer is finite, as a new filter's is: numbers pass
abbrev pub Passing : Lowpass → Type 0
Passing s = Off s × (finite s.y ≡ true)

-- it is off, and its last answer is an infinity or NaN: NaN for good
abbrev pub Lost : Lowpass → Type 0
Lost s = Off s × (finite s.y ≡ false)

pub new_passing : (tau dt : Float) → Off (lowpass_of tau dt F.zero) → Passing (new_lowpass tau dt)
unfolding new_lowpass lowpass_of of_bits
new_passing tau dt off = (off, refl)

-- an update leaves all but the last answer, so that the setters find tau and dt as they were
pub step_keeps : (s : Lowpass) (x : Float) → (step_lowpass s x).state ≡ record { tau = s.tau; dt = s.dt; y = (step_lowpass s x).y; alpha0 = s.alpha0; alpha1 = s.alpha1 }
unfolding step_lowpass
step_keeps s x = refl

-- numbers pass, and it goes on so as long as they are finite
pub passes : (s : Lowpass) (x : Float) → Passing s → T (fits binary32 x) → is_nan x ≡ false → eq (step_lowpass s x).y x ≡ true
passes s x (off, h) p n = rw (off_answers s off x p) (passed_equal x s.y p h n)

pub answer_finite : (s : Lowpass) (x : Float) → Passing s → T (fits binary32 x) → finite (step_lowpass s x).y ≡ finite x
answer_finite s x (off, h) p = ap finite (off_answers s off x p) ∙ passed_finite x s.y h

pub goes_on : (s : Lowpass) (x : Float) → Passing s → T (fits binary32 x) → finite x ≡ true → Passing (step_lowpass s x).state
unfolding step_lowpass
goes_on s x (off, h) p k = (off, answer_finite s x (off, h) p ∙ k)

-- an infinity passes once, as NaN does, and is kept
pub becomes_lost : (s : Lowpass) (x : Float) → Passing s → T (fits binary32 x) → finite x ≡ false → Lost (step_lowpass s x).state
unfolding step_lowpass
becomes_lost s x (off, h) p k = (off, answer_finite s x (off, h) p ∙ k)

-- once an infinity or NaN has been fed, every later answer is NaN
pub stays_lost : (s : Lowpass) (x : Float) → Lost s → ((step_lowpass s x).y ≡ nan) × Lost (step_lowpass s x).state
unfolding step_lowpass
stays_lost s x (off, h) =
    let n : s.alpha0 *f x +f s.alpha1 *f s.y ≡ nan = rw (off.1, zero_mul_nonfinite s.y h) (add_nan (s.alpha0 *f x)) in
    (n, (off, ap finite n))
