-- `Lowpass`: alpha0 = dt/(tau+dt), alpha1 = 1−alpha0, y = alpha0·x + alpha1·y; where tau+dt is zero, of either sign, alpha0 = 1 and alpha1 = 0.
use Rattle.std.specs.Prelude.{cond, Float}
use Rattle.std.specs.Float.Ieee.{eq}
use Rattle.float.specs.F32 as F
use Rattle.float.specs.F32.{◌+f◌, ◌-f◌, ◌*f◌, ◌/f◌}
use Rattle.filters.specs.declared.lowpass.Lowpass.{Lowpass}
use Rattle.step.specs.declared.Stepped.{Stepped}

-- dt/(tau+dt), and 1 where tau+dt is zero (request W4; −0 is equal to zero too)
unfoldable pub alpha0_of : Float → Float → Float
alpha0_of tau dt = cond (eq (tau +f dt) F.zero) F.one (dt /f (tau +f dt))

-- the filter for tau and dt that last gave y; its coefficients are made here and nowhere else. Where alpha0 is 1, alpha1 is +0.
unfoldable pub lowpass_of : Float → Float → Float → Lowpass
lowpass_of tau dt y =
    let alpha0 = alpha0_of tau dt in
    record { tau = tau; dt = dt; y = y; alpha0 = alpha0; alpha1 = F.one -f alpha0 }

unfoldable pub new_lowpass : Float → Float → Lowpass
new_lowpass tau dt = lowpass_of tau dt F.zero

unfoldable pub set_dt_lowpass : Lowpass → Float → Lowpass
set_dt_lowpass s dt = lowpass_of s.tau dt s.y

unfoldable pub set_tau_lowpass : Lowpass → Float → Lowpass
set_tau_lowpass s tau = lowpass_of tau s.dt s.y

unfoldable pub step_lowpass : Lowpass → Float → Stepped Lowpass
step_lowpass s x =
    let y = s.alpha0 *f x +f s.alpha1 *f s.y in
    record { y = y; state = record { tau = s.tau; dt = s.dt; y = y; alpha0 = s.alpha0; alpha1 = s.alpha1 } }
