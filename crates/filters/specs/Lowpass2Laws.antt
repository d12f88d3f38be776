-- Laws of a second-order low pass that is switched off, as those of one low pass (LowpassLaws). Assumes nothing.
use Rattle.std.specs.Prelude.{◌≡◌, refl, Bool, true, false, ◌&&◌, ◌⊎◌, T, Float}
use Rattle.std.proofs.Math.Path.{ap}
use Rattle.std.proofs.Common.{◌∙◌}
use Rattle.std.proofs.Math.Logic.{inl, inr}
use Rattle.std.specs.Float.{nan}
use Rattle.std.specs.Float.Ieee.{binary32, fits, eq, is_nan}
use Rattle.std.specs.Float.Ieee.Bits.{is_true}
use Rattle.std.specs.Float.Ieee.Fits.{add-fits}
use Rattle.std.specs.Float.Ieee.Scale.{finite}
use Rattle.float.specs.F32 as F
use Rattle.float.specs.F32.{◌+f◌, ◌*f◌}
use Rattle.float.specs.Float.{negative}
use Rattle.float.specs.FloatLaws.{eq_self, zero_is, zeros_equal}
use Rattle.filters.specs.declared.lowpass2.NthOrderLowpass.{NthOrderLowpass}
use Rattle.filters.specs.Lowpass.{lowpass_of, set_dt_lowpass, set_tau_lowpass, step_lowpass}
use Rattle.filters.specs.Lowpass2.{new_lowpass2, set_dt_lowpass2, configure_lowpass2, step_lowpass2}
use Rattle.filters.specs.LowpassLaws.{Off, Passing, new_passing, passed, off_answers, off_leaves, nan_in, passed-same, passed-zero, answer_finite, goes_on, becomes_lost, stays_lost}

-- both stages are off
abbrev pub Off2 : NthOrderLowpass → Type 0
Off2 s = Off s.first × Off s.second

-- both are off, and the last answers of both are finite, as a new filter's are: numbers pass
abbrev pub Passing2 : NthOrderLowpass → Type 0
Passing2 s = Passing s.first × Passing s.second

-- both are off, and a last answer is an infinity or NaN: NaN for good
abbrev pub Lost2 : NthOrderLowpass → Type 0
Lost2 s = Off2 s × ((finite s.first.y ≡ false) ⊎ (finite s.second.y ≡ false))

pub new_passing2 : (tau dt : Float) → Off (lowpass_of tau dt F.zero) → Passing2 (new_lowpass2 tau dt)
unfolding new_lowpass2
new_passing2 tau dt off = (new_passing tau dt off, new_passing tau dt off)

-- the setters keep both last answers, so switching off heals neither
pub set_dt_keeps2 : (s : NthOrderLowpass) (dt : Float) → ((set_dt_lowpass2 s dt).first.y ≡ s.first.y) × ((set_dt_lowpass2 s dt).second.y ≡ s.second.y)
unfolding set_dt_lowpass2 set_dt_lowpass lowpass_of
set_dt_keeps2 s dt = (refl, refl)

pub configure_keeps2 : (s : NthOrderLowpass) (tau : Float) → ((configure_lowpass2 s tau).first.y ≡ s.first.y) × ((configure_lowpass2 s tau).second.y ≡ s.second.y)
unfolding configure_lowpass2 set_tau_lowpass lowpass_of
configure_keeps2 s tau = (refl, refl)

-- what the second stage makes of what the first one passed
passed-twice : (x y z : Float) → T (fits binary32 x) → finite y ≡ true → finite z ≡ true → is_nan x ≡ false → eq (passed (passed x y) z) x ≡ true
passed-twice x y z f h k n = go (eq x F.zero) refl
  where
    go : (b : Bool) → eq x F.zero ≡ b → eq (passed (passed x y) z) x ≡ true
    go true e =
        let t = zero_is x (is_true _ f) e in
        rw (t.1, passed-zero t.0 y h, passed-zero (t.0 && negative y) z k) (zeros_equal (t.0 && negative y && negative z) t.0)
    go false e = rw (passed-same x y h e, passed-same x z k e) (eq_self x n)

module _ (s : NthOrderLowpass) (x : Float) where
  first_fits : T (fits binary32 (step_lowpass s.first x).y)
  unfolding step_lowpass
  first_fits = add-fits binary32 (s.first.alpha0 *f x) (s.first.alpha1 *f s.first.y)

  pub off2_answers : Off2 s → T (fits binary32 x) → (step_lowpass2 s x).y ≡ passed (passed x s.first.y) s.second.y
  unfolding step_lowpass2
  off2_answers off p =
      off_answers s.second off.1 (step_lowpass s.first x).y first_fits
      ∙ ap (λ (y : Float). passed y s.second.y) (off_answers s.first off.0 x p)

  pub passes2 : Passing2 s → T (fits binary32 x) → is_nan x ≡ false → eq (step_lowpass2 s x).y x ≡ true
  passes2 ((off, h), (off', k)) p n = rw (off2_answers (off, off') p) (passed-twice x s.first.y s.second.y p h k n)

  pub goes_on2 : Passing2 s → T (fits binary32 x) → finite x ≡ true → Passing2 (step_lowpass2 s x).state
  unfolding step_lowpass2
  goes_on2 (one, two) p k = (goes_on s.first x one p k, goes_on s.second (step_lowpass s.first x).y two first_fits (answer_finite s.first x one p ∙ k))

  pub becomes_lost2 : Passing2 s → T (fits binary32 x) → finite x ≡ false → Lost2 (step_lowpass2 s x).state
  unfolding step_lowpass2
  becomes_lost2 (one, two) p k =
      let lost = becomes_lost s.first x one p k in
      ((lost.0, (off_leaves s.second two.0 (step_lowpass s.first x).y).0), inl lost.1)

  pub stays_lost2 : Lost2 s → ((step_lowpass2 s x).y ≡ nan) × Lost2 (step_lowpass2 s x).state
  unfolding step_lowpass2
  stays_lost2 ((off, off'), inl h) =
      let y = (step_lowpass s.first x).y in
      let lost = stays_lost s.first x (off, h) in
      (ap (λ (z : Float). (step_lowpass s.second z).y) lost.0 ∙ nan_in s.second, ((lost.1.0, (off_leaves s.second off' y).0), inl lost.1.1))
  stays_lost2 ((off, off'), inr h) =
      let y = (step_lowpass s.first x).y in
      let lost = stays_lost s.second y (off', h) in
      (lost.0, (((off_leaves s.first off x).0, lost.1.0), inr lost.1.1))
