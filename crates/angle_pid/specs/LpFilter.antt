-- The low pass on the derivative, if it is on.
use Rattle.std.specs.Prelude.{cond, Float, Option, Some, None}
use Rattle.std.specs.Option.{option_map}
use Rattle.std.specs.Float.Ieee.{lt}
use Rattle.float.specs.F32 as F
use Rattle.refusal.specs.declared.Refusal.{Refusal}
use Rattle.step.specs.declared.Stepped.{Stepped}
use Rattle.filters.specs.declared.lowpass.Lowpass.{Lowpass}
use Rattle.filters.specs.Lowpass.{new_lowpass, step_lowpass}

-- 2 where a low pass is asked for and tau > 0 does not hold
unfoldable pub tau_refusal : Option Float → Option Refusal
tau_refusal None = None
tau_refusal (Some tau) = cond (lt F.zero tau) None (Some Refusal.Tau)

unfoldable pub new_lp_filter : Option Float → Float → Option Lowpass
new_lp_filter tau ts = option_map (λ t. new_lowpass t ts) tau

-- the time constant that a filter holds
unfoldable pub stored_tau : Option Lowpass → Option Float
stored_tau filter = option_map (λ f. f.tau) filter

unfoldable pub step_lp_filter : Option Lowpass → Float → Stepped (Option Lowpass)
step_lp_filter None x = record { y = x; state = None }
step_lp_filter (Some f) x = record { y = (step_lowpass f x).y; state = Some (step_lowpass f x).state }
