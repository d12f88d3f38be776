-- What the laws of the controller speak of; the laws stand in proofs/PidLaws.antt.
use Rattle.std.specs.Prelude.{◌≡◌, Float, None}
use Rattle.refusal.specs.Answers.{Answer, given, refusal_of}
use Rattle.angle_pid.specs.declared.pid.Pid.{Pid}
use Rattle.angle_pid.specs.Range.{wrap_error}
use Rattle.angle_pid.specs.LpFilter.{stored_tau}

abbrev pub LeavesPid : Pid → Answer Pid → Type 0
LeavesPid s r = (refusal_of r ≡ None → ⊥) → given r ≡ s

-- the error as it is wrapped: itself, where no wrapping is on, and else what the rule leads to
abbrev pub wrapped_error : Pid → Float → Float
wrapped_error s error = (given (wrap_error s.wrapping error)).value

-- what an update leaves of a state: the gains, ts, the switch, the ranges and the low pass's time constant
pub record SameParts (s next : Pid) : Type 0 where
  pub same_kp : next.kp ≡ s.kp
  pub same_ki : next.ki ≡ s.ki
  pub same_kd : next.kd ≡ s.kd
  pub same_ts : next.ts ≡ s.ts
  pub same_switch : next.integral_en ≡ s.integral_en
  pub same_wrapping : next.wrapping ≡ s.wrapping
  pub same_limit : next.output_limit ≡ s.output_limit
  pub same_windup : next.anti_windup ≡ s.anti_windup
  pub same_tau : stored_tau next.lp_filter ≡ stored_tau s.lp_filter
