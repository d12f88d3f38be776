-- `BiquadFilter` and `BiquadParams`: the last three samples in and out, newest first, and their coefficients.
use Rattle.std.specs.Prelude.{Float}
use Rattle.float.specs.F32 as F
use Rattle.float.specs.F32.{◌+f◌, ◌-f◌, ◌*f◌, ◌/f◌}
use Rattle.step.specs.declared.Stepped.{Stepped}
use Rattle.notch.specs.declared.biquad.BiquadParams.{BiquadParams}
use Rattle.notch.specs.declared.biquad.BiquadFilter.{BiquadFilter}

unfoldable pub new_biquad : BiquadParams → BiquadFilter
new_biquad params = record { params = params; x0 = F.zero; x1 = F.zero; x2 = F.zero; y0 = F.zero; y1 = F.zero; y2 = F.zero }

-- other coefficients, the same history
unfoldable pub with_params : BiquadFilter → BiquadParams → BiquadFilter
with_params s params = record { params = params; x0 = s.x0; x1 = s.x1; x2 = s.x2; y0 = s.y0; y1 = s.y1; y2 = s.y2 }

-- the history moves on by one sample, and the new sample out is worked out of it
unfoldable pub step_biquad : BiquadFilter → Float → Stepped BiquadFilter
step_biquad s input =
    let p = s.params in
    let x0 = input in
    let x1 = s.x0 in
    let x2 = s.x1 in
    let y1 = s.y0 in
    let y2 = s.y1 in
    let output = x0 *f p.b0 +f x1 *f p.b1 +f x2 *f p.b2 -f y1 *f p.a1 -f y2 *f p.a2 in
    let y0 = output /f p.a0 in
    record { y = y0; state = record { params = p; x0 = x0; x1 = x1; x2 = x2; y0 = y0; y1 = y1; y2 = y2 } }
