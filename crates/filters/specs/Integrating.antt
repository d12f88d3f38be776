-- The coefficient of both integrating filters: alpha = dt/(tau+dt).
use Rattle.std.specs.Prelude.{Float}
use Rattle.float.specs.F32.{◌+f◌, ◌/f◌}

unfoldable pub integrating_alpha : Float → Float → Float
integrating_alpha tau dt = dt /f (tau +f dt)
