-- Laws of a rate controller with its filters switched off. Where the measurement's filter is off, the measurement passes it. Where the
-- sample time is zero no answer is finite, whatever the filters are, since kd is still divided by it. Assumes nothing.
use Rattle.std.specs.Prelude.{◌≡◌, refl, true, false, T, pos, Float}
use Rattle.std.proofs.Common.{ap, ◌∙◌}
use Rattle.std.specs.Float.{nan, binary32}
use Rattle.std.specs.Float.Ieee.{unlike, fits, eq, is_nan, of_bits}
use Rattle.std.specs.Float.Ieee.Bits.{is_true}
use Rattle.std.specs.Float.Ieee.Fits.{mul-fits}
use Rattle.std.specs.Float.Ieee.Scale.{finite}
use Rattle.float.specs.F32 as F
use Rattle.float.specs.F32.{◌+f◌, ◌-f◌, ◌*f◌, ◌/f◌}
use Rattle.float.specs.Float.{abs_f}
use Rattle.float.specs.FloatLaws.{zero_is, zero_equals}
use Rattle.float.specs.OperationLaws.{zero_times, div-zero, nonfinite_mul, add_nonfinite}
use Rattle.refusal.specs.Answers.{given}
use Rattle.filters.specs.Lowpass2.{set_dt_lowpass2}
use Rattle.filters.specs.LowpassLaws.{Passing, new_passing, passed, off_answers}
use Rattle.filters.specs.Lowpass2Laws.{Off2, Passing2, Lost2, new_passing2, passes2, goes_on2, becomes_lost2, stays_lost2}
use Rattle.filters.proofs.SwitchedOff.{sum-zero_off, tau_zero_off, set_dt_off2}
use Rattle.rate_pid.specs.declared.RatePid.{RatePid}
use Rattle.rate_pid.specs.RatePid.{ten, filtered_of, d_gain_of, meas_derivative_of, damped_of, damping_of, terms_of, step_rate_pid, total_of, new_rate_pid, set_ts_rate_pid, bad_rate_pid, guarded, call_set_ts_rate_pid, call_update_rate_pid}
use Rattle.rate_pid.specs.RatePidLaws.{update_accepted}

-- ---- a sample time of zero

-- no update gives a finite number, from whatever state, and the sample time stays
pub dt_zero : (s : RatePid) (r m p : Float) → eq s.dt F.zero ≡ true
    → (finite (total_of (step_rate_pid s r m p).terms) ≡ false) × ((step_rate_pid s r m p).dt ≡ s.dt)
unfolding step_rate_pid terms_of total_of meas_derivative_of d_gain_of
dt_zero s r m p h = (add_nonfinite _ _ (nonfinite_mul (s.kd /f s.dt) (s.prev_meas -f filtered_of s m) (div-zero s.kd s.dt h)), refl)

-- so of the call, on every state that is not refused
pub dt_zero_call : (s : RatePid) (r m p : Float) → bad_rate_pid s ≡ false → eq s.dt F.zero ≡ true → finite (given (call_update_rate_pid s r m p).answer) ≡ false
dt_zero_call s r m p good h = rw (update_accepted s good r m p) (dt_zero s r m p h).0

-- ---- which filters are off

-- where tau + dt is zero, the measurement's
pub new_measurement_off : (kp ki kd tau dt : Float) → eq (tau +f dt) F.zero ≡ true → Passing2 (new_rate_pid kp ki kd tau dt).d_lowpass
unfolding new_rate_pid
new_measurement_off kp ki kd tau dt h = new_passing2 tau dt (sum-zero_off tau dt F.zero h)

pub set_ts_measurement_off : (s : RatePid) (ts : Float) → bad_rate_pid s ≡ false → eq (s.d_lowpass.first.tau +f ts) F.zero ≡ true → eq (s.d_lowpass.second.tau +f ts) F.zero ≡ true
    → Off2 (given (call_set_ts_rate_pid s ts)).d_lowpass
unfolding call_set_ts_rate_pid guarded set_ts_rate_pid
set_ts_measurement_off s ts good h k = rw good (set_dt_off2 s.d_lowpass ts h k)

-- `set_ts` sets the measurement's alone
pub set_ts_filters : (s : RatePid) (ts : Float) → bad_rate_pid s ≡ false
    → ((given (call_set_ts_rate_pid s ts)).d_lowpass ≡ set_dt_lowpass2 s.d_lowpass ts) × ((given (call_set_ts_rate_pid s ts)).lowpass ≡ s.lowpass)
unfolding call_set_ts_rate_pid guarded set_ts_rate_pid
set_ts_filters s ts good = rw good (refl, refl)

-- where 10·tau + dt is zero, the damping filter
pub new_damping_off : (kp ki kd tau dt : Float) → eq (tau *f ten +f dt) F.zero ≡ true → Passing (new_rate_pid kp ki kd tau dt).lowpass
unfolding new_rate_pid
new_damping_off kp ki kd tau dt h = new_passing (tau *f ten) dt (sum-zero_off (tau *f ten) dt F.zero h)

-- where tau is zero and dt finite, both
ten_times : (tau : Float) → T (fits binary32 tau) → eq tau F.zero ≡ true → eq (tau *f ten) F.zero ≡ true
unfolding of_bits
ten_times tau f h =
    let z = zero_is tau (is_true _ f) h in
    ap (λ (x : Float). eq x F.zero) (ap (λ (t : Float). t *f ten) z.1 ∙ zero_times z.0 false 5 (pos 1)) ∙ zero_equals (unlike z.0 false) (pos 0)

pub new_both_off : (kp ki kd tau dt : Float) → T (fits binary32 tau) → T (fits binary32 dt) → eq tau F.zero ≡ true → finite dt ≡ true
    → Passing2 (new_rate_pid kp ki kd tau dt).d_lowpass × Passing (new_rate_pid kp ki kd tau dt).lowpass
unfolding new_rate_pid
new_both_off kp ki kd tau dt f g h k = (
  new_passing2 tau dt (tau_zero_off tau dt F.zero f g h k),
  new_passing (tau *f ten) dt (tau_zero_off (tau *f ten) dt F.zero (mul-fits binary32 tau ten) g (ten_times tau f h) k),
)

-- ---- the measurement's filter is off

module _ (s : RatePid) (m : Float) (off : Passing2 s.d_lowpass) (p : T (fits binary32 m)) where
  pub measurement_passes : is_nan m ≡ false → eq (filtered_of s m) m ≡ true
  unfolding filtered_of
  measurement_passes n = passes2 s.d_lowpass m off p n

  pub measurement_goes_on : (r q : Float) → finite m ≡ true → Passing2 (step_rate_pid s r m q).d_lowpass
  unfolding step_rate_pid
  measurement_goes_on r q k = goes_on2 s.d_lowpass m off p k

  pub measurement_becomes_lost : (r q : Float) → finite m ≡ false → Lost2 (step_rate_pid s r m q).d_lowpass
  unfolding step_rate_pid
  measurement_becomes_lost r q k = becomes_lost2 s.d_lowpass m off p k

-- once an infinity or NaN was measured, the filtered measurement is NaN for good
pub measurement_stays_lost : (s : RatePid) (r m p : Float) → Lost2 s.d_lowpass → (filtered_of s m ≡ nan) × Lost2 (step_rate_pid s r m p).d_lowpass
unfolding filtered_of step_rate_pid
measurement_stays_lost s r m p lost = stays_lost2 s.d_lowpass m lost

-- ---- the damping filter is off

-- what the integral's growth is divided by: 1 and what the filter passes of the derivative's size
pub damping_passes : (s : RatePid) (d : Float) → Passing s.lowpass → T (fits binary32 (abs_f d)) → damping_of s d ≡ F.one +f passed (abs_f d) s.lowpass.y
unfolding damping_of damped_of
damping_passes s d (off, h) p = ap (λ (y : Float). F.one +f y) (off_answers s.lowpass off (abs_f d) p)
