-- `Linear` of filters/mod.rs.
use Rattle.std.specs.Prelude.{Float}
use Rattle.float.specs.F32 as F
use Rattle.float.specs.F32.{◌+f◌, ◌*f◌}
use Rattle.rates.specs.Line.{slope_of, offset_of}
use Rattle.rates.specs.declared.linear.Linear.{Linear}
use Rattle.rates.specs.declared.linear.Params.{Params}

unfoldable pub linear_default : Linear
linear_default = record { factor = F.one; offset = F.zero }

unfoldable pub new_linear : Float → Float → Float → Float → Linear
new_linear in_min in_max out_min out_max = record { factor = slope_of in_min in_max out_min out_max; offset = offset_of in_min in_max out_min out_max }

unfoldable pub map_linear : Linear → Float → Float
map_linear l sig = sig *f l.factor +f l.offset

unfoldable pub params_of : Linear → Params
params_of l = (l.factor, l.offset)
