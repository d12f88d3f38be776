-- `NotchFilter`. Where the Rust works out (fc·2·pi·dt/2).tan(), the caller hands in its value t.
use Rattle.std.specs.Prelude.{Float}
use Rattle.std.specs.Float.{binary32}
use Rattle.std.specs.Float.Ieee.{of_bits}
use Rattle.float.specs.F32.{◌+f◌, ◌-f◌, ◌*f◌, ◌/f◌}
use Rattle.lanes.specs.Runs.{Machine}
use Rattle.step.specs.declared.Stepped.{Stepped}
use Rattle.notch.specs.declared.biquad.BiquadParams.{BiquadParams}
use Rattle.notch.specs.declared.notch_filter.NotchFilter.{NotchFilter}
use Rattle.notch.specs.Samples.{machine_of}
use Rattle.notch.specs.Biquad.{new_biquad, with_params, step_biquad}

abbrev two : Float
two = of_bits binary32 0x4000_0000

abbrev four : Float
four = of_bits binary32 0x4080_0000

abbrev pi : Float
pi = of_bits binary32 0x4049_0fdb

-- `calc_params`: wc = (2/dt)·t; wb = fb·2·pi; the rest in the Rust's order
unfoldable pub calc_params : Float → Float → Float → BiquadParams
calc_params fb dt t =
    let wc = two /f dt *f t in
    let wb = fb *f two *f pi in
    let b_temp = wc *f wc *f dt *f dt in
    let b0 = b_temp +f four in
    let b1 = (b_temp -f four) *f two in
    let b2 = b_temp +f four in
    record { a0 = b0 +f two *f wb *f dt; a1 = b1; a2 = b2 -f two *f wb *f dt; b0 = b0; b1 = b1; b2 = b2 }

unfoldable pub new_notch_filter : Float → Float → Float → Float → NotchFilter
new_notch_filter fc fb dt t = record { fc = fc; fb = fb; dt = dt; t = t; biquad = new_biquad (calc_params fb dt t) }

-- another centre, bandwidth and t: the coefficients are made anew, dt and the history of samples stay
unfoldable pub retuned : NotchFilter → Float → Float → Float → NotchFilter
retuned s fc fb t = record { fc = fc; fb = fb; dt = s.dt; t = t; biquad = with_params s.biquad (calc_params fb s.dt t) }

-- a new centre comes with its t
unfoldable pub set_freq_center_notch_filter : NotchFilter → Float → Float → NotchFilter
set_freq_center_notch_filter s fc t = retuned s fc s.fb t

-- a new bandwidth uses the stored t
unfoldable pub set_freq_bandwidth_notch_filter : NotchFilter → Float → NotchFilter
set_freq_bandwidth_notch_filter s fb = retuned s s.fc fb s.t

unfoldable pub step_notch_filter : NotchFilter → Float → Stepped NotchFilter
step_notch_filter s input =
    let next = step_biquad s.biquad input in
    record { y = next.y; state = record { fc = s.fc; fb = s.fb; dt = s.dt; t = s.t; biquad = next.state } }

-- sample after sample
abbrev pub notch_machine : Machine NotchFilter Float Float
notch_machine = machine_of step_notch_filter
