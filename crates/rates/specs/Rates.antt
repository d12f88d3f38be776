-- rates.rs: a curve is Identity, Actual with three numbers, or Linear with two.
use Rattle.std.specs.Prelude.{Float}
use Rattle.std.specs.Float.{binary32}
use Rattle.std.specs.Float.Ieee.{of_bits}
use Rattle.float.specs.F32 as F
use Rattle.float.specs.F32.{◌+f◌, ◌-f◌, ◌*f◌}
use Rattle.float.specs.Float.{abs_f, fifth_f}
use Rattle.rates.specs.Line.{slope_of, offset_of}
use Rattle.rates.specs.declared.rates.Rates.{Rates}
use Rattle.rates.specs.declared.rates.Actual.{Actual}
use Rattle.rates.specs.declared.rates.Linear.{Linear}

unfoldable pub rates_default : Rates
rates_default = Rates.Identity

-- 20, 0.5, 5
unfoldable pub actual_default : Actual
actual_default = record { rate = of_bits binary32 0x41a0_0000; expo = of_bits binary32 0x3f00_0000; cent = of_bits binary32 0x40a0_0000 }

unfoldable pub linear_curve_default : Linear
linear_curve_default = record { fact = F.one; offs = F.zero }

unfoldable pub rates_of : Actual → Rates
rates_of a = Rates.Actual a.rate a.expo a.cent

-- cent·v + (rate − cent)·(|v|·(v⁵·expo + v·(1 − expo)))
unfoldable pub apply_actual : Actual → Float → Float
apply_actual a v = a.cent *f v +f (a.rate -f a.cent) *f (abs_f v *f (fifth_f v *f a.expo +f v *f (F.one -f a.expo)))

unfoldable pub new_linear_curve : Float → Float → Float → Float → Linear
new_linear_curve in_min in_max out_min out_max = record { fact = slope_of in_min in_max out_min out_max; offs = offset_of in_min in_max out_min out_max }

unfoldable pub apply_linear_curve : Linear → Float → Float
apply_linear_curve l v = v *f l.fact +f l.offs

unfoldable pub apply_rates : Rates → Float → Float
apply_rates Rates.Identity v = v
apply_rates (Rates.Actual rate expo cent) v = apply_actual (record { rate = rate; expo = expo; cent = cent }) v
apply_rates (Rates.Linear fact offs) v = apply_linear_curve (record { fact = fact; offs = offs }) v
