-- Laws of the derivative's low pass: which one a controller makes, and what it does where tau + ts is zero. Since tau is above 0 (refusal 2),
-- the sample time is below 0 there. Assumes nothing.
use Rattle.std.specs.Prelude.{◌≡◌, refl, true, false, T, Float, Some, None}
use Rattle.std.specs.Float.{binary32}
use Rattle.std.specs.Float.Ieee.{fits, eq, lt, is_nan}
use Rattle.float.specs.F32 as F
use Rattle.float.specs.F32.{◌+f◌}
use Rattle.filters.specs.declared.lowpass.Lowpass.{Lowpass}
use Rattle.filters.specs.Lowpass.{new_lowpass, step_lowpass}
use Rattle.filters.specs.LowpassLaws.{Passing, new_passing, passes}
use Rattle.filters.proofs.SwitchedOff.{sum-zero_off}
use Rattle.refusal.specs.Answers.{given}
use Rattle.angle_pid.specs.declared.pid.Pid.{Pid}
use Rattle.angle_pid.specs.declared.pid.PidConfig.{PidConfig}
use Rattle.angle_pid.specs.LpFilter.{tau_refusal, new_lp_filter, step_lp_filter}
use Rattle.angle_pid.specs.Pid.{pid_refusal, config_refusal, with_parts, with_config_pid, unless_refused, call_with_config_pid, call_set_lp_filter_pid}

-- the two calls that make a filter, where they are accepted, make it with the controller's own sample time
pub config_makes : (c : PidConfig) (ts : Float) → config_refusal c ≡ None → (given (call_with_config_pid c ts)).lp_filter ≡ new_lp_filter c.lp_filter ts
unfolding call_with_config_pid unless_refused with_config_pid with_parts
config_makes c ts good = simp good

pub setter_makes : (s : Pid) (tau : Float) → pid_refusal s ≡ None → lt F.zero tau ≡ true → (given (call_set_lp_filter_pid s tau)).lp_filter ≡ new_lp_filter (Some tau) s.ts
unfolding call_set_lp_filter_pid unless_refused tau_refusal with_parts
setter_makes s tau good h = simp (good, h)

-- where tau + ts is zero, it is off
pub new_lp_off : (tau ts : Float) → eq (tau +f ts) F.zero ≡ true → (new_lp_filter (Some tau) ts ≡ Some (new_lowpass tau ts)) × Passing (new_lowpass tau ts)
unfolding new_lp_filter
new_lp_off tau ts h = (refl, new_passing tau ts (sum-zero_off tau ts F.zero h))

-- and then hands the derivative on
pub lp_passes : (f : Lowpass) (x : Float) → Passing f → T (fits binary32 x) → is_nan x ≡ false → eq (step_lp_filter (Some f) x).y x ≡ true
unfolding step_lp_filter
lp_passes f x p t n = passes f x p t n

-- what it leaves is what that low pass leaves
pub lp_leaves : (f : Lowpass) (x : Float) → (step_lp_filter (Some f) x).state ≡ Some (step_lowpass f x).state
unfolding step_lp_filter
lp_leaves f x = refl
