-- What the controller's calls answer and leave: refused ones, the steps of an update, the integral, and NaN. Assumes nothing.
use Rattle.std.specs.Prelude.{◌≡◌, Bool, ◌&&◌, ℕ, ◌≤◌, ◌<◌, Float, Option, Some, None, Ok, Err}
use Rattle.std.proofs.Math.Path.{refl}
use Rattle.std.proofs.Common.{sym, ap, ◌∙◌}
use Rattle.std.proofs.Math.Bool.{true, false}
use Rattle.std.specs.Float.{nan}
use Rattle.std.specs.Float.Ieee.{lt}
use Rattle.float.specs.F32 as F
use Rattle.float.specs.F32.{◌+f◌, ◌-f◌, ◌*f◌}
use Rattle.float.specs.FloatLaws.{clamp_nan}
use Rattle.refusal.specs.Answers.{Answer, given, refusal_of, passes}
use Rattle.refusal.specs.AnswerLaws.{answer_refusal, refused_not_none}
use Rattle.refusal.specs.declared.Refusal.{Refusal}
use Rattle.func.specs.declared.Wrapped.{Wrapped}
use Rattle.func.specs.WrapLaws.{RisesBy, wrap_by_within, wrap_by_beyond}
use Rattle.filters.specs.Lowpass.{lowpass_of, new_lowpass, step_lowpass}
use Rattle.angle_pid.specs.declared.range.Range.{Range}
use Rattle.filters.specs.declared.lowpass.Lowpass.{Lowpass}
use Rattle.angle_pid.specs.declared.pid.Pid.{Pid}
use Rattle.angle_pid.specs.declared.pid.PidConfig.{PidConfig}
use Rattle.angle_pid.specs.Range.{range_refusal, wrap_error, admits, limited}
use Rattle.angle_pid.specs.LpFilter.{new_lp_filter, stored_tau, step_lp_filter}
use Rattle.angle_pid.specs.Pid.{parts_refusal, pid_refusal, config_refusal, zero_pid, with_parts, with_config_pid, moved_integral, proportional, derivative, grown, next_integral, step_pid, unless_refused, call_with_config_pid, call_set_wrapping_pid, call_set_output_limit_pid, call_set_anti_windup_pid, call_set_lp_filter_pid, call_set_gains_pid, call_reset_integral_pid, call_reset_integral_to_pid, call_enable_integral_pid, call_enable_reset_integral_pid, updated_pid, after_wrap, update_with, range, call_update_ts_pid}
use Rattle.angle_pid.specs.PidLaws.{LeavesPid, wrapped_error, SameParts}

-- ---- a refused call leaves the state, and a refused constructor gives the all-zero one

unless_refused-leaves : (why : Option Refusal) (s next : Pid) → LeavesPid s (unless_refused why s next)
unfolding unless_refused
unless_refused-leaves None s next h = absurd (h refl)
unless_refused-leaves (Some why) s next h = refl

pub config_leaves : (c : PidConfig) (ts : Float) → LeavesPid zero_pid (call_with_config_pid c ts)
unfolding call_with_config_pid
config_leaves c ts = unless_refused-leaves _ _ _

pub setters_leave : (s : Pid) (a b c : Float) (on : Bool)
    → LeavesPid s (call_set_wrapping_pid s a b) × LeavesPid s (call_set_output_limit_pid s a b) × LeavesPid s (call_set_anti_windup_pid s a b) × LeavesPid s (call_set_lp_filter_pid s a)
    × LeavesPid s (call_set_gains_pid s a b c) × LeavesPid s (call_reset_integral_pid s) × LeavesPid s (call_reset_integral_to_pid s a) × LeavesPid s (call_enable_integral_pid s on) × LeavesPid s (call_enable_reset_integral_pid s on)
unfolding call_set_wrapping_pid call_set_output_limit_pid call_set_anti_windup_pid call_set_lp_filter_pid call_set_gains_pid call_reset_integral_pid call_reset_integral_to_pid call_enable_integral_pid call_enable_reset_integral_pid
setters_leave s a b c on =
    (unless_refused-leaves _ _ _, unless_refused-leaves _ _ _, unless_refused-leaves _ _ _, unless_refused-leaves _ _ _, unless_refused-leaves _ _ _, unless_refused-leaves _ _ _, unless_refused-leaves _ _ _, unless_refused-leaves _ _ _, unless_refused-leaves _ _ _)

-- ---- an update, case by case
pub after-refused : (s : Pid) (w : Answer Wrapped) (ts : Float) → passes (refusal_of w) ≡ false → after_wrap s w ts ≡ updated_pid (refusal_of w) F.zero (given w).steps s
unfolding after_wrap
after-refused s (Ok w) ts h = cc
after-refused s (Err r) ts h = refl

pub after-settled : (s : Pid) (w : Answer Wrapped) (ts : Float) → passes (refusal_of w) ≡ true
    → after_wrap s w ts ≡ updated_pid None (step_pid s (given w).value ts).y (given w).steps (step_pid s (given w).value ts).state
unfolding after_wrap
after-settled s (Ok w) ts h = refl
after-settled s (Err r) ts h = cc

refused_leaves : (s : Pid) (ts : Float) (why : Option Refusal) (w : Answer Wrapped) → (refusal_of (update_with why s w ts) ≡ None → ⊥)
    → ((given (update_with why s w ts)).y ≡ F.zero) × ((given (update_with why s w ts)).pid ≡ s)
unfolding after_wrap
refused_leaves s ts (Some why) w h = (refl, refl)
refused_leaves s ts None (Ok w) h = absurd (h refl)
refused_leaves s ts None (Err r) h = (refl, refl)

module _ (s : Pid) (error ts : Float) where
  pub update_bad : passes (pid_refusal s) ≡ false → call_update_ts_pid s error ts ≡ updated_pid (pid_refusal s) F.zero 0 s
  unfolding call_update_ts_pid
  update_bad = go (pid_refusal s)
    where
      go : (why : Option Refusal) → passes why ≡ false → update_with why s (wrap_error s.wrapping error) ts ≡ updated_pid why F.zero 0 s
      go None h = cc
      go (Some why) h = refl

  pub update_good : passes (pid_refusal s) ≡ true → call_update_ts_pid s error ts ≡ after_wrap s (wrap_error s.wrapping error) ts
  unfolding call_update_ts_pid
  update_good = go (pid_refusal s)
    where
      go : (why : Option Refusal) → passes why ≡ true → update_with why s (wrap_error s.wrapping error) ts ≡ after_wrap s (wrap_error s.wrapping error) ts
      go None h = refl
      go (Some why) h = cc

  -- refused, y is +0 and the state is left
  pub update_leaves : (refusal_of (call_update_ts_pid s error ts) ≡ None → ⊥) → ((given (call_update_ts_pid s error ts)).y ≡ F.zero) × ((given (call_update_ts_pid s error ts)).pid ≡ s)
  unfolding call_update_ts_pid
  update_leaves h = refused_leaves s ts (pid_refusal s) (wrap_error s.wrapping error) h

-- ---- the steps are those of the rule, and the step is on the error that the rule leads to

-- where no part is refused, a wrapping range that is on has min < max
range_good : (s : Pid) (min max : Float) → pid_refusal s ≡ None → s.wrapping ≡ Some (range min max) → lt min max ≡ true
unfolding pid_refusal parts_refusal range_refusal
range_good s min max good on = go (lt min max) refl
  where
    go : (b : Bool) → lt min max ≡ b → b ≡ true
    go true e = refl
    go false e = let bad : pid_refusal s ≡ Some Refusal.Range = simp (on, e) in cc

module _ (s : Pid) (error ts : Float) (good : pid_refusal s ≡ None) where
  pub update_unwrapped : s.wrapping ≡ None → call_update_ts_pid s error ts ≡ updated_pid None (step_pid s error ts).y 0 (step_pid s error ts).state
  unfolding call_update_ts_pid after_wrap wrap_error
  update_unwrapped off = simp (good, off)

  module _ (min max : Float) (on : s.wrapping ≡ Some (range min max)) where
    pub update_within : (y : Float) (k : ℕ) → RisesBy (lt max) min (max -f min) error k y → k ≤ 64
        → call_update_ts_pid s error ts ≡ updated_pid None (step_pid s y ts).y k (step_pid s y ts).state
    unfolding call_update_ts_pid after_wrap wrap_error
    update_within y k r h = simp (good, on, wrap_by_within lt error min max (range_good s min max good on) y k r h)

    pub update_beyond : ((k : ℕ) (y : Float) → RisesBy (lt max) min (max -f min) error k y → 64 < k) → call_update_ts_pid s error ts ≡ updated_pid (Some Refusal.Steps) F.zero 64 s
    unfolding call_update_ts_pid after_wrap wrap_error
    update_beyond f = simp (good, on, wrap_by_beyond lt error min max (range_good s min max good on) f)

-- ---- an accepted update is one step on the wrapped error

pub wrapped_off : (s : Pid) (error : Float) → s.wrapping ≡ None → wrapped_error s error ≡ error
unfolding wrap_error
wrapped_off s error off = ap (λ (r : Option Range). (given (wrap_error r error)).value) off

pub wrapped_within : (s : Pid) (error min max y : Float) (k : ℕ) → s.wrapping ≡ Some (range min max) → lt min max ≡ true → RisesBy (lt max) min (max -f min) error k y → k ≤ 64 → wrapped_error s error ≡ y
unfolding wrap_error
wrapped_within s error min max y k on o r h = ap (λ (r : Option Range). (given (wrap_error r error)).value) on ∙ ap (λ (w : Answer Wrapped). (given w).value) (wrap_by_within lt error min max o y k r h)

module _ (s : Pid) (error ts : Float) where
  pub update_accepted : refusal_of (call_update_ts_pid s error ts) ≡ None
      → call_update_ts_pid s error ts ≡ updated_pid None (step_pid s (wrapped_error s error) ts).y (given (wrap_error s.wrapping error)).steps (step_pid s (wrapped_error s error) ts).state
  update_accepted h = go (passes (pid_refusal s)) refl (passes (refusal_of (wrap_error s.wrapping error))) refl
    where
      w : Answer Wrapped
      w = wrap_error s.wrapping error

      go : (b : Bool) → passes (pid_refusal s) ≡ b → (d : Bool) → passes (refusal_of w) ≡ d
          → call_update_ts_pid s error ts ≡ updated_pid None (step_pid s (given w).value ts).y (given w).steps (step_pid s (given w).value ts).state
      go false e d k = absurd (refused_not_none (pid_refusal s) e (sym (answer_refusal _ _) ∙ rw (update_bad s error ts e) at h))
      go true e false k = absurd (refused_not_none (refusal_of w) k (sym (answer_refusal _ _) ∙ rw (update_good s error ts e, after-refused s w ts k) at h))
      go true e true k = update_good s error ts e ∙ after-settled s w ts k

-- ---- the integral, after one step
module _ (s : Pid) (error ts : Float) where
  abbrev pub pd : Float
  pd = proportional s error +f (derivative s error ts).y

  pub step_grows : s.integral_en ≡ true → admits s.anti_windup pd ≡ true → (step_pid s error ts).state.integral ≡ moved_integral s error +f s.ki *f error *f ts
  unfolding step_pid next_integral grown
  step_grows on inside = simp (on, inside)

  pub step_off : s.integral_en ≡ false → (step_pid s error ts).state.integral ≡ moved_integral s error
  unfolding step_pid next_integral grown
  step_off off = simp off

  pub step_stands : (min max : Float) → s.anti_windup ≡ Some (range min max) → lt min pd && lt pd max ≡ false → (step_pid s error ts).state.integral ≡ moved_integral s error
  unfolding step_pid next_integral grown admits
  step_stands min max range outside = go s.integral_en refl
    where
      go : (b : Bool) → s.integral_en ≡ b → (step_pid s error ts).state.integral ≡ moved_integral s error
      go true e = simp (e, range, outside)
      go false e = step_off e

-- ---- NaN passes the output limit
limit_nan : (r : Option Range) → limited r nan ≡ nan
unfolding limited
limit_nan None = refl
limit_nan (Some r) = clamp_nan r.min r.max

pub step_nan : (s : Pid) (error ts : Float) → proportional s error +f next_integral s error ts +f (derivative s error ts).y ≡ nan → (step_pid s error ts).y ≡ nan
unfolding step_pid
step_nan s error ts h = rw h (limit_nan s.output_limit)

-- ---- the integral and the answer of an accepted call of `update_ts`, on every state, built by hand too; e is the wrapped error
module _ (s : Pid) (error ts : Float) (accepted : refusal_of (call_update_ts_pid s error ts) ≡ None) where
  abbrev e : Float
  e = wrapped_error s error

  -- where it is on and P+D lies in the anti-windup range, it is moved and grows
  pub integral_grows : s.integral_en ≡ true → admits s.anti_windup (pd s e ts) ≡ true
      → (given (call_update_ts_pid s error ts)).pid.integral ≡ moved_integral s e +f s.ki *f e *f ts
  integral_grows on inside = rw (update_accepted s error ts accepted) (step_grows s e ts on inside)

  -- where it is off, or not min < P+D < max strictly, it is moved only
  pub integral_off : s.integral_en ≡ false → (given (call_update_ts_pid s error ts)).pid.integral ≡ moved_integral s e
  integral_off off = rw (update_accepted s error ts accepted) (step_off s e ts off)

  pub integral_stands : (min max : Float) → s.anti_windup ≡ Some (range min max) → lt min (pd s e ts) && lt (pd s e ts) max ≡ false
      → (given (call_update_ts_pid s error ts)).pid.integral ≡ moved_integral s e
  integral_stands min max range outside = rw (update_accepted s error ts accepted) (step_stands s e ts min max range outside)

  -- where P + I + D is NaN, so is the answer
  pub nan_passes : proportional s e +f next_integral s e ts +f (derivative s e ts).y ≡ nan → (given (call_update_ts_pid s error ts)).y ≡ nan
  nan_passes h = rw (update_accepted s error ts accepted) (step_nan s e ts h)

-- ---- a controller made from a good configuration has good parts, and an update keeps them: only 6 can refuse an update from then on
new_tau : (t : Option Float) (ts : Float) → stored_tau (new_lp_filter t ts) ≡ t
unfolding stored_tau new_lp_filter new_lowpass lowpass_of
new_tau None ts = refl
new_tau (Some tau) ts = refl

pub config_parts : (c : PidConfig) (ts : Float) → pid_refusal (with_config_pid c ts) ≡ config_refusal c
unfolding pid_refusal config_refusal with_config_pid with_parts
config_parts c ts = simp new_tau

step_tau : (f : Option Lowpass) (x : Float) → stored_tau (step_lp_filter f x).state ≡ stored_tau f
unfolding stored_tau step_lp_filter step_lowpass
step_tau None x = refl
step_tau (Some f) x = refl

same_itself : (s : Pid) → SameParts s s
same_itself s =
    record {
      same_kp = refl;
      same_ki = refl;
      same_kd = refl;
      same_ts = refl;
      same_switch = refl;
      same_wrapping = refl;
      same_limit = refl;
      same_windup = refl;
      same_tau = refl;
    }

step_same : (s : Pid) (error ts : Float) → SameParts s (step_pid s error ts).state
unfolding step_pid derivative
step_same s error ts =
    record {
      same_kp = refl;
      same_ki = refl;
      same_kd = refl;
      same_ts = refl;
      same_switch = refl;
      same_wrapping = refl;
      same_limit = refl;
      same_windup = refl;
      same_tau = step_tau s.lp_filter _;
    }

-- after any call of `update_ts`, accepted or refused, the parts are those before, and so is what refuses them
pub update_parts : (s : Pid) (error ts : Float) → SameParts s (given (call_update_ts_pid s error ts)).pid
unfolding call_update_ts_pid after_wrap
update_parts s error ts = go (pid_refusal s) (wrap_error s.wrapping error)
  where
    go : (why : Option Refusal) (w : Answer Wrapped) → SameParts s (given (update_with why s w ts)).pid
    go (Some why) w = same_itself s
    go None (Ok w) = step_same s w.value ts
    go None (Err r) = same_itself s

same_refusal : (s next : Pid) → SameParts s next → pid_refusal next ≡ pid_refusal s
unfolding pid_refusal
same_refusal s next p = rw (p.same_wrapping, p.same_limit, p.same_windup, p.same_tau)

pub step_parts : (s : Pid) (error ts : Float) → pid_refusal (step_pid s error ts).state ≡ pid_refusal s
step_parts s error ts = same_refusal s (step_pid s error ts).state (step_same s error ts)

pub update_refusal_lem : (s : Pid) (error ts : Float) → pid_refusal (given (call_update_ts_pid s error ts)).pid ≡ pid_refusal s
update_refusal_lem s error ts = same_refusal s (given (call_update_ts_pid s error ts)).pid (update_parts s error ts)
