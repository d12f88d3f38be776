-- rate_pid.rs: what the controller does, and its calls, which refuse a bad stored slew limit (3).
use Rattle.std.specs.Prelude.{Bool, true, false, cond, ◌&&◌, Option, Some, None, Float}
use Rattle.std.specs.Float.{binary32}
use Rattle.std.specs.Float.Ieee.{lt, of_bits}
use Rattle.float.specs.F32 as F
use Rattle.float.specs.F32.{◌+f◌, ◌-f◌, ◌*f◌, ◌/f◌}
use Rattle.float.specs.Float.{abs_f, clamp_f}
use Rattle.refusal.specs.declared.Refusal.{Refusal}
use Rattle.refusal.specs.Answers.{Answer, answer_of}
use Rattle.step.specs.declared.Stepped.{Stepped}
use Rattle.filters.specs.declared.lowpass.Lowpass.{Lowpass}
use Rattle.filters.specs.declared.slew_rate.SlewRate.{SlewRate}
use Rattle.filters.specs.Lowpass.{new_lowpass, step_lowpass}
use Rattle.filters.specs.Lowpass2.{new_lowpass2, set_dt_lowpass2, step_lowpass2}
use Rattle.filters.specs.SlewRate.{bad_limit, slew_of}
use Rattle.rate_pid.specs.declared.PidTerms.{PidTerms}
use Rattle.rate_pid.specs.declared.RatePid.{RatePid}
use Rattle.rate_pid.specs.declared.Integrated.{Integrated}
use Rattle.rate_pid.specs.declared.Updated.{Updated}
use Rattle.rate_pid.specs.Slew.{is_off, bad_slew, set_dt_slew, step_slew}

abbrev pub ten : Float
ten = of_bits binary32 0x4120_0000

unfoldable pub zero_terms : PidTerms
zero_terms = record { p_out = F.zero; i_out = F.zero; dr_out = F.zero; dm_out = F.zero }

unfoldable pub zero_lowpass : Lowpass
zero_lowpass = record { tau = F.zero; dt = F.zero; y = F.zero; alpha0 = F.zero; alpha1 = F.zero }

-- all zero, its switches off; the Rust's max_integral is always 1, and is no field here
unfoldable pub zero_rate_pid : RatePid
zero_rate_pid = record {
  kp = F.zero;
  ki = F.zero;
  kd = F.zero;
  integral = F.zero;
  prev_meas = F.zero;
  prev_ref = F.zero;
  terms = zero_terms;
  dt = F.zero;
  integral_en = false;
  lowpass = zero_lowpass;
  d_lowpass = record { first = zero_lowpass; second = zero_lowpass };
  d_slew = None;
}

-- ---- the parts of an update, whatever the limit: s is the state before it, r the reference, m the measurement, p the prediction

-- the reference as the limiter lets it through
unfoldable pub slewed_of : RatePid → Float → Float
slewed_of s r = (step_slew s.d_slew r).y

unfoldable pub filtered_of : RatePid → Float → Float
filtered_of s m = (step_lowpass2 s.d_lowpass m).y

-- d_gain = kd/dt
unfoldable pub d_gain_of : RatePid → Float
d_gain_of s = s.kd /f s.dt

-- the derivative of the slewed reference
unfoldable pub ref_derivative_of : RatePid → Float → Float
ref_derivative_of s r = d_gain_of s *f (slewed_of s r -f s.prev_ref)

-- the derivative of the filtered measurement, turned round as that of reference minus measurement is
unfoldable pub meas_derivative_of : RatePid → Float → Float
meas_derivative_of s m = d_gain_of s *f (s.prev_meas -f filtered_of s m)

-- the integral is on, and |filtered measurement| < 1 and |slewed reference| < 1
unfoldable pub calm : Bool → Float → Float → Bool
calm on filtered slewed = on && (lt (abs_f filtered) F.one && lt (abs_f slewed) F.one)

unfoldable pub calm_of : RatePid → Float → Float → Bool
calm_of s r m = calm s.integral_en (filtered_of s m) (slewed_of s r)

-- the damping filter, fed the size of the measurement's derivative
unfoldable pub damped_of : RatePid → Float → Stepped Lowpass
damped_of s derivative = step_lowpass s.lowpass (abs_f derivative)

-- what the integral's growth is divided by
unfoldable pub damping_of : RatePid → Float → Float
damping_of s derivative = F.one +f (damped_of s derivative).y

-- clamp(integral + ki·error·dt/damping, −1, 1)
unfoldable pub grown_of : RatePid → Float → Float → Float
grown_of s derivative error = clamp_f (s.integral +f s.ki *f error *f s.dt /f damping_of s derivative) F.minus_one F.one

-- the integral grows and the damping filter is fed, or both stay
unfoldable pub integrated : RatePid → Bool → Float → Float → Integrated
integrated s moves derivative error =
    cond moves
    (record { integral = grown_of s derivative error; lowpass = (damped_of s derivative).state })
    (record { integral = s.integral; lowpass = s.lowpass })

unfoldable pub integrated_of : RatePid → Float → Float → Float → Integrated
integrated_of s r m p = integrated s (calm_of s r m) (meas_derivative_of s m) (p -f m)

-- P goes by the raw reference
unfoldable pub terms_of : RatePid → Float → Float → Float → PidTerms
terms_of s r m p = record {
  p_out = s.kp *f (r -f m);
  i_out = (integrated_of s r m p).integral;
  dr_out = ref_derivative_of s r;
  dm_out = meas_derivative_of s m;
}

-- ---- an update, whatever the limit: the state after it, of whose terms the output is the sum

unfoldable pub step_rate_pid : RatePid → Float → Float → Float → RatePid
step_rate_pid s r m p = record {
  kp = s.kp;
  ki = s.ki;
  kd = s.kd;
  integral = (integrated_of s r m p).integral;
  prev_meas = filtered_of s m;
  prev_ref = slewed_of s r;
  terms = terms_of s r m p;
  dt = s.dt;
  integral_en = s.integral_en;
  lowpass = (integrated_of s r m p).lowpass;
  d_lowpass = (step_lowpass2 s.d_lowpass m).state;
  d_slew = (step_slew s.d_slew r).state;
}

unfoldable pub total_of : PidTerms → Float
total_of t = t.p_out +f t.i_out +f t.dr_out +f t.dm_out

-- the value of an update, and the state after it
unfoldable pub summed : RatePid → Stepped RatePid
summed next = record { y = total_of next.terms; state = next }

-- ---- what the other calls do, whatever the limit

unfoldable pub new_rate_pid : Float → Float → Float → Float → Float → RatePid
new_rate_pid kp ki kd tau dt = record {
  kp = kp;
  ki = ki;
  kd = kd *f kp;
  integral = F.zero;
  prev_meas = F.zero;
  prev_ref = F.zero;
  terms = zero_terms;
  dt = dt;
  integral_en = true;
  lowpass = new_lowpass (tau *f ten) dt;
  d_lowpass = new_lowpass2 tau dt;
  d_slew = None;
}

-- the limiter alone is another
unfoldable pub with_slew : RatePid → Option SlewRate → RatePid
with_slew s d = record {
  kp = s.kp;
  ki = s.ki;
  kd = s.kd;
  integral = s.integral;
  prev_meas = s.prev_meas;
  prev_ref = s.prev_ref;
  terms = s.terms;
  dt = s.dt;
  integral_en = s.integral_en;
  lowpass = s.lowpass;
  d_lowpass = s.d_lowpass;
  d_slew = d;
}

-- there is no limiter
unfoldable pub unlimited_rate_pid : RatePid → Bool
unlimited_rate_pid s = is_off s.d_slew

-- an update of the state with its limiter taken off
unfoldable pub advanced : RatePid → Float → Float → Float → Stepped RatePid
advanced s r m p = summed (step_rate_pid (with_slew s None) r m p)

-- a limiter that starts at +0, with the controller's sample time
unfoldable pub slew_rate_pid : RatePid → Float → RatePid
slew_rate_pid s limit = with_slew s (Some (slew_of limit F.zero s.dt))

-- dt, and that of the measurement's filter and of the limiter; the damping filter keeps its own
unfoldable pub set_ts_rate_pid : RatePid → Float → RatePid
set_ts_rate_pid s ts = record {
  kp = s.kp;
  ki = s.ki;
  kd = s.kd;
  integral = s.integral;
  prev_meas = s.prev_meas;
  prev_ref = s.prev_ref;
  terms = s.terms;
  dt = ts;
  integral_en = s.integral_en;
  lowpass = s.lowpass;
  d_lowpass = set_dt_lowpass2 s.d_lowpass ts;
  d_slew = set_dt_slew s.d_slew ts;
}

-- the three gains; kd is stored as kd·kp
unfoldable pub set_gains_rate_pid : RatePid → Float → Float → Float → RatePid
set_gains_rate_pid s kp ki kd = record {
  kp = kp;
  ki = ki;
  kd = kd *f kp;
  integral = s.integral;
  prev_meas = s.prev_meas;
  prev_ref = s.prev_ref;
  terms = s.terms;
  dt = s.dt;
  integral_en = s.integral_en;
  lowpass = s.lowpass;
  d_lowpass = s.d_lowpass;
  d_slew = s.d_slew;
}

-- the integral's switch alone
unfoldable pub enable_integral_rate_pid : RatePid → Bool → RatePid
enable_integral_rate_pid s on = record {
  kp = s.kp;
  ki = s.ki;
  kd = s.kd;
  integral = s.integral;
  prev_meas = s.prev_meas;
  prev_ref = s.prev_ref;
  terms = s.terms;
  dt = s.dt;
  integral_en = on;
  lowpass = s.lowpass;
  d_lowpass = s.d_lowpass;
  d_slew = s.d_slew;
}

-- the integral alone
unfoldable pub reset_integral_rate_pid : RatePid → RatePid
reset_integral_rate_pid s = record {
  kp = s.kp;
  ki = s.ki;
  kd = s.kd;
  integral = F.zero;
  prev_meas = s.prev_meas;
  prev_ref = s.prev_ref;
  terms = s.terms;
  dt = s.dt;
  integral_en = s.integral_en;
  lowpass = s.lowpass;
  d_lowpass = s.d_lowpass;
  d_slew = s.d_slew;
}

-- ---- its calls: refused, each leaves the state, and its numbers are +0

unfoldable pub bad_rate_pid : RatePid → Bool
bad_rate_pid s = bad_slew s.d_slew

abbrev pub changed_rate_pid : Option Refusal → RatePid → Answer RatePid
changed_rate_pid why s = answer_of why s

abbrev pub updated_rate_pid : Option Refusal → Float → RatePid → Updated
updated_rate_pid why y s = record { answer = answer_of why y; pid = s }

abbrev pub terms_rate_pid : Option Refusal → PidTerms → Answer PidTerms
terms_rate_pid why t = answer_of why t

-- the stored limit is tested before anything that the call itself refuses
unfoldable pub guarded : RatePid → Answer RatePid → Answer RatePid
guarded s next = cond (bad_rate_pid s) (changed_rate_pid (Some Refusal.Slew) s) next

unfoldable pub call_slew_rate_pid : RatePid → Float → Answer RatePid
call_slew_rate_pid s limit = guarded s (cond (bad_limit limit) (changed_rate_pid (Some Refusal.Slew) s) (changed_rate_pid None (slew_rate_pid s limit)))

unfoldable pub call_set_ts_rate_pid : RatePid → Float → Answer RatePid
call_set_ts_rate_pid s ts = guarded s (changed_rate_pid None (set_ts_rate_pid s ts))

unfoldable pub call_set_gains_rate_pid : RatePid → Float → Float → Float → Answer RatePid
call_set_gains_rate_pid s kp ki kd = guarded s (changed_rate_pid None (set_gains_rate_pid s kp ki kd))

unfoldable pub call_enable_integral_rate_pid : RatePid → Bool → Answer RatePid
call_enable_integral_rate_pid s on = guarded s (changed_rate_pid None (enable_integral_rate_pid s on))

unfoldable pub call_reset_integral_rate_pid : RatePid → Answer RatePid
call_reset_integral_rate_pid s = guarded s (changed_rate_pid None (reset_integral_rate_pid s))

unfoldable pub call_enable_reset_integral_rate_pid : RatePid → Bool → Answer RatePid
call_enable_reset_integral_rate_pid s on = guarded s (changed_rate_pid None (reset_integral_rate_pid (enable_integral_rate_pid s on)))

unfoldable pub call_update_rate_pid : RatePid → Float → Float → Float → Updated
call_update_rate_pid s r m p =
    let next = step_rate_pid s r m p in
    cond (bad_rate_pid s) (updated_rate_pid (Some Refusal.Slew) F.zero s) (updated_rate_pid None (total_of next.terms) next)

unfoldable pub call_get_terms_rate_pid : RatePid → Answer PidTerms
call_get_terms_rate_pid s = cond (bad_rate_pid s) (terms_rate_pid (Some Refusal.Slew) zero_terms) (terms_rate_pid None s.terms)
