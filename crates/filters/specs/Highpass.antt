-- `Highpass`: alpha = tau/(tau+dt), y = alpha·y + alpha·(x − x_prev).
use Rattle.std.specs.Prelude.{Float}
use Rattle.float.specs.F32 as F
use Rattle.float.specs.F32.{◌+f◌, ◌-f◌, ◌*f◌, ◌/f◌}
use Rattle.filters.specs.declared.highpass.Highpass.{Highpass}
use Rattle.step.specs.declared.Stepped.{Stepped}

-- the filter for tau and dt that last gave y, of x_prev
unfoldable pub highpass_of : Float → Float → Float → Float → Highpass
highpass_of tau dt y x_prev = record { tau = tau; dt = dt; y = y; x_prev = x_prev; alpha = tau /f (tau +f dt) }

unfoldable pub new_highpass : Float → Float → Highpass
new_highpass tau dt = highpass_of tau dt F.zero F.zero

unfoldable pub set_dt_highpass : Highpass → Float → Highpass
set_dt_highpass s dt = highpass_of s.tau dt s.y s.x_prev

unfoldable pub set_tau_highpass : Highpass → Float → Highpass
set_tau_highpass s tau = highpass_of tau s.dt s.y s.x_prev

unfoldable pub step_highpass : Highpass → Float → Stepped Highpass
step_highpass s x =
    let y = s.alpha *f s.y +f s.alpha *f (x -f s.x_prev) in
    record { y = y; state = record { tau = s.tau; dt = s.dt; y = y; x_prev = x; alpha = s.alpha } }
