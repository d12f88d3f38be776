-- `Complementary`: a low pass of the one signal plus a high pass of the other.
use Rattle.std.specs.Prelude.{Float}
use Rattle.float.specs.F32.{◌+f◌}
use Rattle.filters.specs.declared.complementary.Complementary.{Complementary}
use Rattle.step.specs.declared.Stepped.{Stepped}
use Rattle.filters.specs.Lowpass.{new_lowpass, set_dt_lowpass, set_tau_lowpass, step_lowpass}
use Rattle.filters.specs.Highpass.{new_highpass, set_dt_highpass, set_tau_highpass, step_highpass}

unfoldable pub new_complementary : Float → Float → Complementary
new_complementary tau dt = record { lp_filter = new_lowpass tau dt; hp_filter = new_highpass tau dt }

unfoldable pub set_dt_complementary : Complementary → Float → Complementary
set_dt_complementary s dt = record { lp_filter = set_dt_lowpass s.lp_filter dt; hp_filter = set_dt_highpass s.hp_filter dt }

unfoldable pub set_tau_complementary : Complementary → Float → Complementary
set_tau_complementary s tau = record { lp_filter = set_tau_lowpass s.lp_filter tau; hp_filter = set_tau_highpass s.hp_filter tau }

unfoldable pub step_complementary : Complementary → Float → Float → Stepped Complementary
step_complementary s low high =
    let lf = step_lowpass s.lp_filter low in
    let hf = step_highpass s.hp_filter high in
    record { y = lf.y +f hf.y; state = record { lp_filter = lf.state; hp_filter = hf.state } }
