-- A slew rate limiter of the reference, or none.
use Rattle.std.specs.Prelude.{Bool, true, false, Option, Some, None, Float}
use Rattle.step.specs.declared.Stepped.{Stepped}
use Rattle.filters.specs.declared.slew_rate.SlewRate.{SlewRate}
use Rattle.filters.specs.SlewRate.{bad_limit, step_slew_rate, set_dt_slew_rate}

unfoldable pub is_off : Option SlewRate → Bool
is_off None = true
is_off (Some s) = false

unfoldable pub bad_slew : Option SlewRate → Bool
bad_slew None = false
bad_slew (Some s) = bad_limit s.rate_limit

unfoldable pub set_dt_slew : Option SlewRate → Float → Option SlewRate
set_dt_slew None dt = None
set_dt_slew (Some s) dt = Some (set_dt_slew_rate s dt)

-- without a limiter the reference passes as it is
unfoldable pub step_slew : Option SlewRate → Float → Stepped (Option SlewRate)
step_slew None reference = record { y = reference; state = None }
step_slew (Some s) reference = record { y = (step_slew_rate s reference).signal; state = Some (step_slew_rate s reference) }
