-- `IntegratingComplementary`: y = low·alpha + (high·dt + y_prev)·(1 − alpha). The setters change alpha only; the stored dt and tau stay old.
use Rattle.std.specs.Prelude.{Float}
use Rattle.float.specs.F32 as F
use Rattle.float.specs.F32.{◌+f◌, ◌-f◌, ◌*f◌}
use Rattle.filters.specs.declared.integrating_complementary.IntegratingComplementary.{IntegratingComplementary}
use Rattle.step.specs.declared.Stepped.{Stepped}
use Rattle.filters.specs.Integrating.{integrating_alpha}

unfoldable pub new_integrating_complementary : Float → Float → IntegratingComplementary
new_integrating_complementary tau dt = record { tau = tau; dt = dt; alpha = integrating_alpha tau dt; y_prev = F.zero }

unfoldable pub set_dt_integrating_complementary : IntegratingComplementary → Float → IntegratingComplementary
set_dt_integrating_complementary s dt = record { tau = s.tau; dt = s.dt; alpha = integrating_alpha s.tau dt; y_prev = s.y_prev }

unfoldable pub set_tau_integrating_complementary : IntegratingComplementary → Float → IntegratingComplementary
set_tau_integrating_complementary s tau = record { tau = s.tau; dt = s.dt; alpha = integrating_alpha tau s.dt; y_prev = s.y_prev }

unfoldable pub step_integrating_complementary : IntegratingComplementary → Float → Float → Stepped IntegratingComplementary
step_integrating_complementary s low high =
    let y = low *f s.alpha +f (high *f s.dt +f s.y_prev) *f (F.one -f s.alpha) in
    record { y = y; state = record { tau = s.tau; dt = s.dt; alpha = s.alpha; y_prev = y } }
