-- The two numbers of the line through (in_min, out_min) and (in_max, out_max), which both `Linear` types of the Rust have.
use Rattle.std.specs.Prelude.{Float}
use Rattle.float.specs.F32.{◌-f◌, ◌*f◌, ◌/f◌}

unfoldable pub slope_of : Float → Float → Float → Float → Float
slope_of in_min in_max out_min out_max = (out_max -f out_min) /f (in_max -f in_min)

unfoldable pub offset_of : Float → Float → Float → Float → Float
offset_of in_min in_max out_min out_max = out_min -f in_min *f (out_max -f out_min) /f (in_max -f in_min)
