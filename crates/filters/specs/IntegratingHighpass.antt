-- `IntegratingHighpass`: y = (x·dt + y_prev)·alpha. The setters change alpha only; the stored dt and tau stay old.
use Rattle.std.specs.Prelude.{Float}
use Rattle.float.specs.F32 as F
use Rattle.float.specs.F32.{◌+f◌, ◌*f◌}
use Rattle.filters.specs.declared.integrating_highpass.IntegratingHighpass.{IntegratingHighpass}
use Rattle.step.specs.declared.Stepped.{Stepped}
use Rattle.filters.specs.Integrating.{integrating_alpha}

unfoldable pub new_integrating_highpass : Float → Float → IntegratingHighpass
new_integrating_highpass tau dt = record { tau = tau; dt = dt; alpha = integrating_alpha tau dt; y_prev = F.zero }

unfoldable pub set_dt_integrating_highpass : IntegratingHighpass → Float → IntegratingHighpass
set_dt_integrating_highpass s dt = record { tau = s.tau; dt = s.dt; alpha = integrating_alpha s.tau dt; y_prev = s.y_prev }

unfoldable pub set_tau_integrating_highpass : IntegratingHighpass → Float → IntegratingHighpass
set_tau_integrating_highpass s tau = record { tau = s.tau; dt = s.dt; alpha = integrating_alpha tau s.dt; y_prev = s.y_prev }

unfoldable pub step_integrating_highpass : IntegratingHighpass → Float → Stepped IntegratingHighpass
step_integrating_highpass s x =
    let y = (x *f s.dt +f s.y_prev) *f s.alpha in
    record { y = y; state = record { tau = s.tau; dt = s.dt; alpha = s.alpha; y_prev = y } }
