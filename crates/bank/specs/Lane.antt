-- One lane: what each call answers and leaves, in document 01's order: 9 or 10, then 3 for the stored limit, then 3 for the
-- given one. A refused call leaves the lane, and its numbers are +0.
use Rattle.std.specs.Prelude.{true, false, cond, Option, Some, None, Float}
use Rattle.float.specs.F32 as F
use Rattle.refusal.specs.declared.Refusal.{Refusal}
use Rattle.refusal.specs.Answers.{Answer, answer_of, given, refusal_of}
use Rattle.filters.specs.SlewRate.{bad_limit}
use Rattle.rate_pid.specs.declared.PidTerms.{PidTerms}
use Rattle.rate_pid.specs.declared.RatePid.{RatePid}
use Rattle.rate_pid.specs.declared.Updated.{Updated}
use Rattle.rate_pid.specs.RatePid.{zero_terms, zero_rate_pid, new_rate_pid, bad_rate_pid, changed_rate_pid, call_slew_rate_pid, call_update_rate_pid, call_set_ts_rate_pid, call_set_gains_rate_pid, call_enable_integral_rate_pid, call_reset_integral_rate_pid, call_get_terms_rate_pid}
use Rattle.bank.specs.declared.lane.Lane.{Lane}
use Rattle.bank.specs.declared.lane.Op.{Op}
use Rattle.bank.specs.declared.lane.Op.TheVariants.{Open, Close, Update, SetTs, SetGains, EnableIntegral, ResetIntegral, ReadTerms}
use Rattle.bank.specs.declared.lane.Reply.{Reply}
use Rattle.bank.specs.declared.lane.Called.{Called}

-- ---- lanes and answers

unfoldable pub closed_lane : Lane
closed_lane = record { «open» = false; pid = zero_rate_pid }

abbrev pub open_lane : RatePid → Lane
open_lane s = record { «open» = true; pid = s }

abbrev pub answered : Option Refusal → Float → PidTerms → Answer Reply
answered why y t = answer_of why (record { y = y; terms = t })

-- an answer without numbers
abbrev pub plain : Option Refusal → Answer Reply
plain why = answered why F.zero zero_terms

-- an answer, and the lane or the bank after the call
abbrev pub called : {S : Type 0} → Answer Reply → S → Called S
called a s = record { answer = a; state = s }

abbrev pub stepped : Answer Reply → Lane → Called Lane
stepped a l = called a l

-- a lane left as it is, and an answer without numbers
abbrev pub plain_step : Option Refusal → Lane → Called Lane
plain_step why l = stepped (plain why) l

-- ---- a controller's own call, made on an open lane: a setter, a new controller, an update, a read of the terms

abbrev pub after_setter : Answer RatePid → Called Lane
after_setter next = stepped (plain (refusal_of next)) (open_lane (given next))

abbrev pub open_with : RatePid → Called Lane
open_with s = after_setter (changed_rate_pid None s)

abbrev pub after_update : Updated → Called Lane
after_update next = stepped (answered (refusal_of next.answer) (given next.answer) zero_terms) (open_lane next.pid)

abbrev pub after_read : Lane → Answer PidTerms → Called Lane
after_read l t = stepped (answered (refusal_of t) F.zero (given t)) l

-- ---- the step

-- 9, before the controller's own 3
unfoldable pub when_open : Lane → Called Lane → Called Lane
when_open l next = cond l.«open» next (plain_step (Some Refusal.Closed) l)

-- 3 for the stored limit
unfoldable pub when_good : Lane → Called Lane → Called Lane
when_good l next = cond (bad_rate_pid l.pid) (plain_step (Some Refusal.Slew) l) next

-- a new controller, with a limiter if wanted: 3 for the given limit
unfoldable pub opened : Lane → RatePid → Option Float → Called Lane
opened l s None = open_with s
opened l s (Some limit) = cond (bad_limit limit) (plain_step (Some Refusal.Slew) l) (after_setter (call_slew_rate_pid s limit))

unfoldable pub call_lane : Lane → Op → Called Lane
call_lane l (Open kp ki kd tau dt slew) = cond l.«open» (plain_step (Some Refusal.Open) l) (when_good l (opened l (new_rate_pid kp ki kd tau dt) slew))
call_lane l Close = when_open l (when_good l (plain_step None closed_lane))
call_lane l (Update r m p) = when_open l (after_update (call_update_rate_pid l.pid r m p))
call_lane l (SetTs ts) = when_open l (after_setter (call_set_ts_rate_pid l.pid ts))
call_lane l (SetGains kp ki kd) = when_open l (after_setter (call_set_gains_rate_pid l.pid kp ki kd))
call_lane l (EnableIntegral on) = when_open l (after_setter (call_enable_integral_rate_pid l.pid on))
call_lane l ResetIntegral = when_open l (after_setter (call_reset_integral_rate_pid l.pid))
call_lane l ReadTerms = when_open l (after_read l (call_get_terms_rate_pid l.pid))
