-- One controller by itself, document 01's: none, or a rate controller that is stepped and set by its own definitions. It
-- knows nothing of lanes and stores nothing while there is none.
use Rattle.std.specs.Prelude.{cond, List, Option, Some, None, Float}
use Rattle.float.specs.F32 as F
use Rattle.refusal.specs.declared.Refusal.{Refusal}
use Rattle.refusal.specs.Answers.{Answer}
use Rattle.lanes.specs.Runs.{Machine, answers, left}
use Rattle.filters.specs.SlewRate.{bad_limit}
use Rattle.rate_pid.specs.declared.RatePid.{RatePid}
use Rattle.rate_pid.specs.RatePid.{zero_terms, step_rate_pid, total_of, new_rate_pid, slew_rate_pid, set_ts_rate_pid, set_gains_rate_pid, enable_integral_rate_pid, reset_integral_rate_pid}
use Rattle.bank.specs.declared.lane.Op.{Op}
use Rattle.bank.specs.declared.lane.Op.TheVariants.{Open, Close, Update, SetTs, SetGains, EnableIntegral, ResetIntegral, ReadTerms}
use Rattle.bank.specs.declared.lane.Reply.{Reply}
use Rattle.bank.specs.Lane.{answered, plain}

pub data Single : Type 0 where
  none : Single
  one : RatePid → Single

-- what it answers, and what there is afterwards
pub record Next : Type 0 where
  pub answer : Answer Reply
  pub single : Single

abbrev pub says : Option Refusal → Single → Next
says why c = record { answer = plain why; single = c }

unfoldable pub opened_single : RatePid → Option Float → Next
opened_single s None = says None (one s)
opened_single s (Some limit) = cond (bad_limit limit) (says (Some Refusal.Slew) none) (says None (one (slew_rate_pid s limit)))

unfoldable pub call_single : Single → Op → Next
call_single none (Open kp ki kd tau dt slew) = opened_single (new_rate_pid kp ki kd tau dt) slew
call_single none Close = says (Some Refusal.Closed) none
call_single none (Update r m p) = says (Some Refusal.Closed) none
call_single none (SetTs ts) = says (Some Refusal.Closed) none
call_single none (SetGains kp ki kd) = says (Some Refusal.Closed) none
call_single none (EnableIntegral on) = says (Some Refusal.Closed) none
call_single none ResetIntegral = says (Some Refusal.Closed) none
call_single none ReadTerms = says (Some Refusal.Closed) none
call_single (one s) (Open kp ki kd tau dt slew) = says (Some Refusal.Open) (one s)
call_single (one s) Close = says None none
call_single (one s) (Update r m p) =
    let next = step_rate_pid s r m p in
    record { answer = answered None (total_of next.terms) zero_terms; single = one next }
call_single (one s) (SetTs ts) = says None (one (set_ts_rate_pid s ts))
call_single (one s) (SetGains kp ki kd) = says None (one (set_gains_rate_pid s kp ki kd))
call_single (one s) (EnableIntegral on) = says None (one (enable_integral_rate_pid s on))
call_single (one s) ResetIntegral = says None (one (reset_integral_rate_pid s))
call_single (one s) ReadTerms = record { answer = answered None F.zero s.terms; single = one s }

abbrev pub single_machine : Machine Single Op (Answer Reply)
single_machine = record { answer = λ c op. (call_single c op).answer; next = λ c op. (call_single c op).single }

-- its answers to a list of calls
abbrev pub single_run : Single → List Op → List (Answer Reply)
single_run c ops = answers single_machine c ops

-- and what there is after them
abbrev pub single_after : Single → List Op → Single
single_after c ops = left single_machine c ops
