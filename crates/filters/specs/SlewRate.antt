-- `SlewRate`: what the limiter does, and its calls, which refuse a bad limit (3).
use Rattle.std.specs.Prelude.{Bool, cond, ◌||◌, Option, Some, None, Float}
use Rattle.std.specs.Float.Ieee.{is_nan, neg}
use Rattle.float.specs.F32 as F
use Rattle.float.specs.F32.{◌+f◌, ◌-f◌, ◌*f◌}
use Rattle.float.specs.Float.{negative, max_f, min_f}
use Rattle.refusal.specs.declared.Refusal.{Refusal}
use Rattle.refusal.specs.Answers.{Answer, answer_of}
use Rattle.step.specs.declared.Stepped.{Stepped}
use Rattle.filters.specs.declared.slew_rate.SlewRate.{SlewRate}

-- the limit has a negative sign, −0's too, or is NaN
unfoldable pub bad_limit : Float → Bool
bad_limit limit = is_nan limit || negative limit

-- ---- what the limiter does, whatever its limit

abbrev pub slew_of : Float → Float → Float → SlewRate
slew_of limit signal dt = record { rate_limit = limit; signal = signal; dt = dt }

-- change = min(max(input − signal, (−limit)·dt), limit·dt)
unfoldable pub slew_change : SlewRate → Float → Float
slew_change s input = min_f (max_f (input -f s.signal) (neg s.rate_limit *f s.dt)) (s.rate_limit *f s.dt)

-- the signal that it moves to is also what it gives
unfoldable pub step_slew_rate : SlewRate → Float → SlewRate
step_slew_rate s input = slew_of s.rate_limit (s.signal +f slew_change s input) s.dt

unfoldable pub set_dt_slew_rate : SlewRate → Float → SlewRate
set_dt_slew_rate s dt = slew_of s.rate_limit s.signal dt

-- ---- its calls: refused, a constructor gives the all-zero state, and any other leaves the state

abbrev pub changed_slew_rate : Option Refusal → SlewRate → Answer SlewRate
changed_slew_rate why s = answer_of why s

abbrev pub updated_slew_rate : Option Refusal → Float → SlewRate → Answer (Stepped SlewRate)
updated_slew_rate why y s = answer_of why (record { y = y; state = s })

unfoldable pub call_new_slew_rate : Float → Float → Answer SlewRate
call_new_slew_rate limit dt = cond (bad_limit limit) (changed_slew_rate (Some Refusal.Slew) (slew_of F.zero F.zero F.zero)) (changed_slew_rate None (slew_of limit F.zero dt))

unfoldable pub call_set_dt_slew_rate : SlewRate → Float → Answer SlewRate
call_set_dt_slew_rate s dt = cond (bad_limit s.rate_limit) (changed_slew_rate (Some Refusal.Slew) s) (changed_slew_rate None (set_dt_slew_rate s dt))

unfoldable pub call_update_slew_rate : SlewRate → Float → Answer (Stepped SlewRate)
call_update_slew_rate s input = cond (bad_limit s.rate_limit) (updated_slew_rate (Some Refusal.Slew) F.zero s) (updated_slew_rate None (step_slew_rate s input).signal (step_slew_rate s input))
