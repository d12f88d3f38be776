-- A lane that was closed at some time and has had calls since is the single controller: it answers the same, and what it
-- stores is that controller's state, or all zero where there is none. Assumes nothing.
use Rattle.std.specs.Prelude.{◌≡◌, refl, Bool, true, false, Option, Some, None, Float}
use Rattle.std.proofs.Common.{◌∙◌}
use Rattle.filters.specs.SlewRate.{bad_limit}
use Rattle.rate_pid.specs.declared.RatePid.{RatePid}
use Rattle.rate_pid.specs.RatePid.{new_rate_pid, bad_rate_pid, call_set_ts_rate_pid, call_set_gains_rate_pid, call_enable_integral_rate_pid, call_reset_integral_rate_pid}
use Rattle.rate_pid.specs.RatePidLaws.{guard_passed, update_accepted, get_terms_accepted, slew_accepted, zero_not_bad, new_not_bad, bad_after_step, bad_after_slew, bad_after_set_ts, bad_after_set_gains, bad_after_enable, bad_after_reset}
use Rattle.bank.specs.declared.lane.Lane.{Lane}
use Rattle.bank.specs.declared.lane.Op.{Op}
use Rattle.bank.specs.declared.lane.Op.TheVariants.{Open, Close, Update, SetTs, SetGains, EnableIntegral, ResetIntegral, ReadTerms}
use Rattle.bank.specs.declared.lane.Called.{Called}
use Rattle.bank.specs.Lane.{closed_lane, open_lane, stepped, when_open, when_good, opened, call_lane}
use Rattle.bank.specs.Single.{Single, none, one, Next, opened_single, call_single}

-- the lane in which it lies
abbrev pub lane_of : Single → Lane
lane_of none = closed_lane
lane_of (one s) = open_lane s

-- its stored limit is not bad; of none, nothing is asked
abbrev pub Good : Single → Type 0
Good none = Unit
Good (one s) = bad_rate_pid s ≡ false

-- the lane's step is the controller's, which stays good
pub record SameStep (next : Called Lane) (n : Next) : Type 0 where
  pub same : next ≡ stepped n.answer (lane_of n.single)
  pub good : Good n.single

opened-same : (s : RatePid) (slew : Option Float) → bad_rate_pid s ≡ false → SameStep (opened closed_lane s slew) (opened_single s slew)
unfolding opened opened_single
opened-same s None g = record { same = refl; good = g }
opened-same s (Some limit) g = go (bad_limit limit) refl
  where
    go : (t : Bool) → bad_limit limit ≡ t → SameStep (opened closed_lane s (Some limit)) (opened_single s (Some limit))
    go true e = record { same = simp e; good = simp e tt }
    go false e = record { same = simp (e, slew_accepted s g limit e); good = simp e (bad_after_slew s limit ∙ e) }

pub step_same : (c : Single) (op : Op) → Good c → SameStep (call_lane (lane_of c) op) (call_single c op)
unfolding call_lane call_single when_open when_good closed_lane call_set_ts_rate_pid call_set_gains_rate_pid call_enable_integral_rate_pid call_reset_integral_rate_pid
step_same none (Open kp ki kd tau dt slew) g =
    let made = opened-same (new_rate_pid kp ki kd tau dt) slew (new_not_bad kp ki kd tau dt) in
    record { same = simp zero_not_bad made.same; good = made.good }
step_same none Close g = record { same = refl; good = tt }
step_same none (Update r m p) g = record { same = refl; good = tt }
step_same none (SetTs ts) g = record { same = refl; good = tt }
step_same none (SetGains kp ki kd) g = record { same = refl; good = tt }
step_same none (EnableIntegral on) g = record { same = refl; good = tt }
step_same none ResetIntegral g = record { same = refl; good = tt }
step_same none ReadTerms g = record { same = refl; good = tt }
step_same (one s) (Open kp ki kd tau dt slew) g = record { same = refl; good = g }
step_same (one s) Close g = record { same = simp g; good = tt }
step_same (one s) (Update r m p) g = record { same = simp (update_accepted s g r m p); good = bad_after_step s r m p ∙ g }
step_same (one s) (SetTs ts) g = record { same = simp (guard_passed s g); good = bad_after_set_ts s ts ∙ g }
step_same (one s) (SetGains kp ki kd) g = record { same = simp (guard_passed s g); good = bad_after_set_gains s kp ki kd ∙ g }
step_same (one s) (EnableIntegral on) g = record { same = simp (guard_passed s g); good = bad_after_enable s on ∙ g }
step_same (one s) ResetIntegral g = record { same = simp (guard_passed s g); good = bad_after_reset s ∙ g }
step_same (one s) ReadTerms g = record { same = simp (get_terms_accepted s g); good = g }
