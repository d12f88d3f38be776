-- What happens to a controller when an update brings NaN. In the measurement, or in the prediction while the integral moves, NaN stays
-- for good; in the reference, without a limiter, it is gone after the next update. Assumes nothing.
use Rattle.std.specs.Prelude.{◌≡◌, refl, None, Bool, ◌⊎◌, Float}
use Rattle.std.proofs.Common.{ap, ◌∙◌}
use Rattle.std.proofs.Math.Bool.{true, false}
use Rattle.std.proofs.Math.Logic.{inl, inr}
use Rattle.std.specs.Float.Ieee as Ieee
use Rattle.std.specs.Float.Ieee.{nan}
use Rattle.float.specs.F32.{◌-f◌}
use Rattle.float.specs.FloatLaws.{clamp_nan}
use Rattle.float.specs.OperationLaws.{add_nan, nan_add, sub_nan, nan_sub, mul_nan, nan_mul, nan_div}
use Rattle.filters.specs.Lowpass.{step_lowpass}
use Rattle.filters.specs.Lowpass2.{step_lowpass2}
use Rattle.rate_pid.specs.declared.RatePid.{RatePid}
use Rattle.rate_pid.specs.declared.PidTerms.{PidTerms}
use Rattle.rate_pid.specs.Slew.{step_slew}
use Rattle.rate_pid.specs.RatePidLaws.{not_calm}
use Rattle.rate_pid.specs.RatePid.{slewed_of, filtered_of, d_gain_of, ref_derivative_of, meas_derivative_of, calm_of, damped_of, damping_of, grown_of, integrated, integrated_of, terms_of, step_rate_pid, total_of}

-- ---- what stays

-- the low pass of the measurement has NaN, or the integral
abbrev pub HoldsNan : RatePid → Type 0
HoldsNan s = (s.d_lowpass.second.y ≡ nan) ⊎ (s.integral ≡ nan)

-- the update that left this state answered NaN, and the state holds NaN
abbrev pub NanForGood : RatePid → Type 0
NanForGood next = (total_of next.terms ≡ nan) × HoldsNan next

module _ (s : RatePid) (r m p : Float) where
  filtered_lost : filtered_of s m ≡ nan → NanForGood (step_rate_pid s r m p)
  unfolding step_rate_pid terms_of total_of meas_derivative_of filtered_of step_lowpass2 step_lowpass
  filtered_lost h = (rw (h, sub_nan, mul_nan, add_nan), inl h)

  integral_lost : (integrated_of s r m p).integral ≡ nan → NanForGood (step_rate_pid s r m p)
  unfolding step_rate_pid terms_of total_of
  integral_lost h = (rw (h, add_nan, nan_add, nan_add), inr h)

  filter-keeps : s.d_lowpass.second.y ≡ nan → filtered_of s m ≡ nan
  unfolding filtered_of step_lowpass2 step_lowpass
  filter-keeps h = rw (h, mul_nan, add_nan)

  integral_keeps : s.integral ≡ nan → (integrated_of s r m p).integral ≡ nan
  unfolding integrated_of integrated grown_of
  integral_keeps h = go (calm_of s r m)
    where
      go : (t : Bool) → (integrated s t (meas_derivative_of s m) (p -f m)).integral ≡ nan
      go true = rw (h, nan_add, clamp_nan)
      go false = h

  -- a controller that holds NaN answers NaN, whatever comes, and still holds it
  pub nan_stays : HoldsNan s → NanForGood (step_rate_pid s r m p)
  nan_stays (inl h) = filtered_lost (filter-keeps h)
  nan_stays (inr h) = integral_lost (integral_keeps h)

-- a NaN measured
fed_nan : (s : RatePid) → filtered_of s nan ≡ nan
unfolding filtered_of step_lowpass2 step_lowpass
fed_nan s = rw (mul_nan, nan_add, mul_nan, nan_add)

pub measurement_nan : (s : RatePid) (r p : Float) → NanForGood (step_rate_pid s r nan p)
measurement_nan s r p = filtered_lost s r nan p (fed_nan s)

-- a NaN predicted, while the integral moves
grown_nan : (s : RatePid) (r m : Float) → calm_of s r m ≡ true → (integrated_of s r m nan).integral ≡ nan
unfolding integrated_of integrated grown_of
grown_nan s r m h = rw (h, nan_sub, mul_nan, nan_mul, nan_div, add_nan, clamp_nan)

pub prediction_nan : (s : RatePid) (r m : Float) → calm_of s r m ≡ true → NanForGood (step_rate_pid s r m nan)
prediction_nan s r m h = integral_lost s r m nan (grown_nan s r m h)

-- while it stands still, the prediction does not matter
pub prediction_unused : (s : RatePid) (r m p q : Float) → calm_of s r m ≡ false → step_rate_pid s r m p ≡ step_rate_pid s r m q
unfolding step_rate_pid terms_of integrated_of integrated
prediction_unused s r m p q h = rw h

-- ---- what is forgotten: a NaN reference, without a limiter

-- its own update answers NaN
pub reference_nan : (s : RatePid) (m p : Float) → total_of (step_rate_pid s nan m p).terms ≡ nan
unfolding step_rate_pid terms_of total_of
reference_nan s m p = rw (nan_sub, mul_nan, nan_add, nan_add, nan_add)

-- and so does the next, whose derivative looks back at it
pub next_nan : (s : RatePid) (m p r' m' p' : Float) → s.d_slew ≡ None → total_of (step_rate_pid (step_rate_pid s nan m p) r' m' p').terms ≡ nan
unfolding step_rate_pid terms_of total_of ref_derivative_of slewed_of step_slew
next_nan s m p r' m' p' off = rw (off, sub_nan, mul_nan, add_nan, nan_add)

slewed_nan : (s : RatePid) → s.d_slew ≡ None → Ieee.is_nan (slewed_of s nan) ≡ true
unfolding slewed_of step_slew Ieee.is_nan
slewed_nan s off = rw off

nan_not_calm : (s : RatePid) (m : Float) → s.d_slew ≡ None → calm_of s nan m ≡ false
nan_not_calm s m off = not_calm s nan m (inr (inr (inl (slewed_nan s off))))

-- the same controller with another remembered reference and other terms
with_ref_and_terms : RatePid → Float → PidTerms → RatePid
with_ref_and_terms s r t = record {
  kp = s.kp;
  ki = s.ki;
  kd = s.kd;
  integral = s.integral;
  prev_meas = s.prev_meas;
  prev_ref = r;
  terms = t;
  dt = s.dt;
  integral_en = s.integral_en;
  lowpass = s.lowpass;
  d_lowpass = s.d_lowpass;
  d_slew = s.d_slew;
}

-- where the integral stands still, the reference goes into the remembered reference and the terms alone
reference_apart : (s : RatePid) (r q m p : Float) → s.d_slew ≡ None → calm_of s r m ≡ false → calm_of s q m ≡ false
    → step_rate_pid s r m p ≡ with_ref_and_terms (step_rate_pid s q m p) r (terms_of s r m p)
unfolding step_rate_pid integrated_of integrated slewed_of step_slew with_ref_and_terms
reference_apart s r q m p off h g = rw (h, g, off)

-- an update does not look at the stored terms
terms_unused : (s : RatePid) (t : PidTerms) (r m p : Float) → step_rate_pid (with_ref_and_terms s s.prev_ref t) r m p ≡ step_rate_pid s r m p
unfolding with_ref_and_terms step_rate_pid terms_of slewed_of filtered_of d_gain_of ref_derivative_of meas_derivative_of calm_of damped_of damping_of grown_of integrated integrated_of
terms_unused s t r m p = refl

-- the remembered reference goes into the next update's terms alone
reference_once : (s : RatePid) (q : Float) (t : PidTerms) (r m p : Float)
    → step_rate_pid (with_ref_and_terms s q t) r m p ≡ with_ref_and_terms (step_rate_pid s r m p) (step_rate_pid s r m p).prev_ref (terms_of (with_ref_and_terms s q t) r m p)
unfolding with_ref_and_terms step_rate_pid slewed_of filtered_of d_gain_of meas_derivative_of calm_of damped_of damping_of grown_of integrated integrated_of
reference_once s q t r m p = refl

-- after that the controller is as if the reference had been any other at which the integral stands still
pub reference_forgotten : (s : RatePid) (r m p r' m' p' r'' m'' p'' : Float) → s.d_slew ≡ None → calm_of s r m ≡ false
    → step_rate_pid (step_rate_pid (step_rate_pid s nan m p) r' m' p') r'' m'' p'' ≡ step_rate_pid (step_rate_pid (step_rate_pid s r m p) r' m' p') r'' m'' p''
reference_forgotten s r m p r' m' p' r'' m'' p'' off h =
    ap (λ (t : RatePid). step_rate_pid (step_rate_pid t r' m' p') r'' m'' p'') (reference_apart s nan r m p off (nan_not_calm s m off) h)
    ∙ ap (λ (t : RatePid). step_rate_pid t r'' m'' p'') (reference_once (step_rate_pid s r m p) nan _ r' m' p')
    ∙ terms_unused (step_rate_pid (step_rate_pid s r m p) r' m' p') _ r'' m'' p''
