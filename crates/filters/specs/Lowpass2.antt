-- `NthOrderLowpass` at order 2: two low passes, one after the other.
use Rattle.std.specs.Prelude.{Float}
use Rattle.filters.specs.declared.lowpass2.NthOrderLowpass.{NthOrderLowpass}
use Rattle.step.specs.declared.Stepped.{Stepped}
use Rattle.filters.specs.Lowpass.{new_lowpass, set_dt_lowpass, set_tau_lowpass, step_lowpass}

unfoldable pub new_lowpass2 : Float → Float → NthOrderLowpass
new_lowpass2 tau dt = record { first = new_lowpass tau dt; second = new_lowpass tau dt }

unfoldable pub set_dt_lowpass2 : NthOrderLowpass → Float → NthOrderLowpass
set_dt_lowpass2 s dt = record { first = set_dt_lowpass s.first dt; second = set_dt_lowpass s.second dt }

unfoldable pub configure_lowpass2 : NthOrderLowpass → Float → NthOrderLowpass
configure_lowpass2 s tau = record { first = set_tau_lowpass s.first tau; second = set_tau_lowpass s.second tau }

-- the second's input is what the first gives
unfoldable pub step_lowpass2 : NthOrderLowpass → Float → Stepped NthOrderLowpass
step_lowpass2 s x =
    let one = step_lowpass s.first x in
    let two = step_lowpass s.second one.y in
    record { y = two.y; state = record { first = one.state; second = two.state } }
