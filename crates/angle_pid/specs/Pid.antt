-- What `Pid`'s calls answer. An update wraps the error, then come P, D with its low pass, the integral with its anti-windup, and the
-- output limit.
use Rattle.std.specs.Prelude.{Bool, true, false, cond, ◌&&◌, ℕ, Float, Option, Some, None, Ok, Err}
use Rattle.std.specs.Option.{option_or}
use Rattle.float.specs.F32 as F
use Rattle.float.specs.F32.{◌+f◌, ◌-f◌, ◌*f◌, ◌/f◌}
use Rattle.refusal.specs.Answers.{Answer, answer_of, first_refusal}
use Rattle.refusal.specs.declared.Refusal.{Refusal}
use Rattle.step.specs.declared.Stepped.{Stepped}
use Rattle.func.specs.declared.Wrapped.{Wrapped}
use Rattle.angle_pid.specs.declared.range.Range.{Range}
use Rattle.filters.specs.declared.lowpass.Lowpass.{Lowpass}
use Rattle.angle_pid.specs.declared.pid.Pid.{Pid}
use Rattle.angle_pid.specs.declared.pid.PidConfig.{PidConfig}
use Rattle.angle_pid.specs.declared.pid.PidUpdated.{PidUpdated}
use Rattle.angle_pid.specs.Range.{range_refusal, wrap_error, shifted, admits, limited}
use Rattle.angle_pid.specs.LpFilter.{tau_refusal, new_lp_filter, stored_tau, step_lp_filter}

-- ---- what is refused

-- wrapping, output limit, anti-windup, tau, in that order
unfoldable pub parts_refusal : Option Range → Option Range → Option Range → Option Float → Option Refusal
parts_refusal wrapping output_limit anti_windup tau =
    option_or (option_or (option_or (range_refusal wrapping) (range_refusal output_limit)) (range_refusal anti_windup)) (tau_refusal tau)

-- the first refusal of a controller's stored parts, and of a configuration's
unfoldable pub pid_refusal : Pid → Option Refusal
pid_refusal s = parts_refusal s.wrapping s.output_limit s.anti_windup (stored_tau s.lp_filter)

unfoldable pub config_refusal : PidConfig → Option Refusal
config_refusal c = parts_refusal c.wrapping c.output_limit c.anti_windup c.lp_filter

-- ---- states

-- all zero, with the switches off
unfoldable pub zero_pid : Pid
zero_pid =
    record {
      kp = F.zero;
      ki = F.zero;
      kd = F.zero;
      ts = F.zero;
      integral = F.zero;
      integral_en = false;
      prev_error = F.zero;
      wrapping = None;
      output_limit = None;
      anti_windup = None;
      lp_filter = None;
    }

-- in the ideal form a gain is multiplied by kp
unfoldable pub ideal_gain : Bool → Float → Float → Float
ideal_gain ideal k kp = cond ideal (k *f kp) k

unfoldable pub new_pid : Float → Float → Float → Bool → Float → Pid
new_pid kp ki kd ideal ts =
    record {
      kp = kp;
      ki = ideal_gain ideal ki kp;
      kd = ideal_gain ideal kd kp;
      ts = ts;
      integral = F.zero;
      integral_en = true;
      prev_error = F.zero;
      wrapping = None;
      output_limit = None;
      anti_windup = None;
      lp_filter = None;
    }

unfoldable pub set_gains_pid : Pid → Float → Float → Float → Pid
set_gains_pid s kp ki kd =
    record {
      kp = kp;
      ki = ki;
      kd = kd;
      ts = s.ts;
      integral = s.integral;
      integral_en = s.integral_en;
      prev_error = s.prev_error;
      wrapping = s.wrapping;
      output_limit = s.output_limit;
      anti_windup = s.anti_windup;
      lp_filter = s.lp_filter;
    }

unfoldable pub with_integral : Pid → Bool → Float → Pid
with_integral s on integral =
    record {
      kp = s.kp;
      ki = s.ki;
      kd = s.kd;
      ts = s.ts;
      integral = integral;
      integral_en = on;
      prev_error = s.prev_error;
      wrapping = s.wrapping;
      output_limit = s.output_limit;
      anti_windup = s.anti_windup;
      lp_filter = s.lp_filter;
    }

unfoldable pub with_parts : Pid → Option Range → Option Range → Option Range → Option Lowpass → Pid
with_parts s wrapping output_limit anti_windup filter =
    record {
      kp = s.kp;
      ki = s.ki;
      kd = s.kd;
      ts = s.ts;
      integral = s.integral;
      integral_en = s.integral_en;
      prev_error = s.prev_error;
      wrapping = wrapping;
      output_limit = output_limit;
      anti_windup = anti_windup;
      lp_filter = filter;
    }

unfoldable pub with_config_pid : PidConfig → Float → Pid
with_config_pid c ts = with_parts (new_pid c.kp c.ki c.kd c.ideal ts) c.wrapping c.output_limit c.anti_windup (new_lp_filter c.lp_filter ts)

-- ---- one step, on an error that is wrapped already

-- Wrapping moves prev_error and integral when error − prev_error leaves the range.
unfoldable pub moved_error : Pid → Float → Float
moved_error s error = shifted s.wrapping (error -f s.prev_error) s.prev_error

unfoldable pub moved_integral : Pid → Float → Float
moved_integral s error = shifted s.wrapping (error -f s.prev_error) s.integral

-- P
unfoldable pub proportional : Pid → Float → Float
proportional s error = s.kp *f error

-- D, with its low pass
unfoldable pub derivative : Pid → Float → Float → Stepped (Option Lowpass)
derivative s error ts = step_lp_filter s.lp_filter (s.kd *f (error -f moved_error s error) /f ts)

-- The integral grows only if it is on and min < P+D < max strictly.
unfoldable pub grown : Bool → Option Range → Float → Float → Float → Float
grown on anti_windup integral input pd = cond (on && admits anti_windup pd) (integral +f input) integral

unfoldable pub next_integral : Pid → Float → Float → Float
next_integral s error ts =
    grown s.integral_en s.anti_windup (moved_integral s error) (s.ki *f error *f ts) (proportional s error +f (derivative s error ts).y)

-- The output limit of P + I + D; the error, the integral and the low pass are remembered.
unfoldable pub step_pid : Pid → Float → Float → Stepped Pid
step_pid s error ts =
    record {
      y = limited s.output_limit (proportional s error +f next_integral s error ts +f (derivative s error ts).y);
      state =
          record {
            kp = s.kp;
            ki = s.ki;
            kd = s.kd;
            ts = s.ts;
            integral = next_integral s error ts;
            integral_en = s.integral_en;
            prev_error = error;
            wrapping = s.wrapping;
            output_limit = s.output_limit;
            anti_windup = s.anti_windup;
            lp_filter = (derivative s error ts).state;
          };
    }

-- ---- the calls: refused, a constructor gives the all-zero state, and any other leaves the state

abbrev pub changed_pid : Option Refusal → Pid → Answer Pid
changed_pid why s = answer_of why s

abbrev pub updated_pid : Option Refusal → Float → ℕ → Pid → Answer PidUpdated
updated_pid why y steps s = answer_of why (record { y = y; steps = steps; pid = s })

-- next, unless it is refused, and then s as it was
unfoldable pub unless_refused : Option Refusal → Pid → Pid → Answer Pid
unless_refused None s next = changed_pid None next
unless_refused (Some why) s next = changed_pid (Some why) s

unfoldable pub call_with_config_pid : PidConfig → Float → Answer Pid
call_with_config_pid c ts = unless_refused (config_refusal c) zero_pid (with_config_pid c ts)

abbrev pub range : Float → Float → Range
range min max = record { min = min; max = max }

unfoldable pub call_set_wrapping_pid : Pid → Float → Float → Answer Pid
call_set_wrapping_pid s min max =
    unless_refused (first_refusal (pid_refusal s) (range_refusal (Some (range min max)))) s
    (with_parts s (Some (range min max)) s.output_limit s.anti_windup s.lp_filter)

unfoldable pub call_set_output_limit_pid : Pid → Float → Float → Answer Pid
call_set_output_limit_pid s min max =
    unless_refused (first_refusal (pid_refusal s) (range_refusal (Some (range min max)))) s
    (with_parts s s.wrapping (Some (range min max)) s.anti_windup s.lp_filter)

unfoldable pub call_set_anti_windup_pid : Pid → Float → Float → Answer Pid
call_set_anti_windup_pid s min max =
    unless_refused (first_refusal (pid_refusal s) (range_refusal (Some (range min max)))) s
    (with_parts s s.wrapping s.output_limit (Some (range min max)) s.lp_filter)

unfoldable pub call_set_lp_filter_pid : Pid → Float → Answer Pid
call_set_lp_filter_pid s tau =
    unless_refused (first_refusal (pid_refusal s) (tau_refusal (Some tau))) s
    (with_parts s s.wrapping s.output_limit s.anti_windup (new_lp_filter (Some tau) s.ts))

-- `set_gains` ignores `ideal`.
unfoldable pub call_set_gains_pid : Pid → Float → Float → Float → Answer Pid
call_set_gains_pid s kp ki kd = unless_refused (pid_refusal s) s (set_gains_pid s kp ki kd)

unfoldable pub call_reset_integral_to_pid : Pid → Float → Answer Pid
call_reset_integral_to_pid s integral = unless_refused (pid_refusal s) s (with_integral s s.integral_en integral)

unfoldable pub call_reset_integral_pid : Pid → Answer Pid
call_reset_integral_pid s = call_reset_integral_to_pid s F.zero

unfoldable pub call_enable_integral_pid : Pid → Bool → Answer Pid
call_enable_integral_pid s on = unless_refused (pid_refusal s) s (with_integral s on s.integral)

unfoldable pub call_enable_reset_integral_pid : Pid → Bool → Answer Pid
call_enable_reset_integral_pid s on = unless_refused (pid_refusal s) s (with_integral s on F.zero)

-- the step after the wrapping, with the wrapping's count; refused, it answers with that count too
unfoldable pub after_wrap : Pid → Answer Wrapped → Float → Answer PidUpdated
after_wrap s (Ok w) ts = updated_pid None (step_pid s w.value ts).y w.steps (step_pid s w.value ts).state
after_wrap s (Err r) ts = updated_pid (Some r.refusal) F.zero r.answer.steps s

-- the update, where these are the refusal of the controller's parts and the wrapped error
abbrev pub update_with : Option Refusal → Pid → Answer Wrapped → Float → Answer PidUpdated
update_with None s w ts = after_wrap s w ts
update_with (Some why) s w ts = updated_pid (Some why) F.zero 0 s

unfoldable pub call_update_ts_pid : Pid → Float → Float → Answer PidUpdated
call_update_ts_pid s error ts = update_with (pid_refusal s) s (wrap_error s.wrapping error) ts

unfoldable pub call_update_pid : Pid → Float → Answer PidUpdated
call_update_pid s error = call_update_ts_pid s error s.ts
