-- `ExpoRates` of filters/mod.rs: Actual and Kiss.
use Rattle.std.specs.Prelude.{Float}
use Rattle.std.specs.Float.{binary32}
use Rattle.std.specs.Float.Ieee.{of_bits}
use Rattle.float.specs.F32 as F
use Rattle.float.specs.F32.{◌+f◌, ◌-f◌, ◌*f◌, ◌/f◌}
use Rattle.float.specs.Float.{abs_f, cube_f, fifth_f, max_f, min_f}
use Rattle.rates.specs.declared.expo_rates.RatesType.{RatesType}
use Rattle.rates.specs.declared.expo_rates.ExpoRates.{ExpoRates}

unfoldable pub new_expo : RatesType → Float → Float → Float → ExpoRates
new_expo kind expo max_rates center_sens = record { rates_type = kind; expo = expo; max_rates = max_rates; center_sens = center_sens }

-- Actual; 0.2, 31.41, 0.4
unfoldable pub expo_default : ExpoRates
expo_default = record {
  rates_type = RatesType.Actual;
  expo = of_bits binary32 0x3e4c_cccd;
  max_rates = of_bits binary32 0x41fb_47ae;
  center_sens = of_bits binary32 0x3ecc_cccd;
}

-- v·sensitivity + max(0, max_rates − sensitivity)·(|v|·(v⁵·expo + v·(1 − expo))), with sensitivity = center_sens·max_rates
unfoldable pub actual_rates : Float → Float → Float → Float → Float
actual_rates expo max_rates center_sens v =
    v *f (center_sens *f max_rates) +f max_f F.zero (max_rates -f center_sens *f max_rates) *f (abs_f v *f (fifth_f v *f expo +f v *f (F.one -f expo)))

-- 1/(1 − |v|·min(max(max_rates, 0.01), 1)) · ((v³·expo + v·(1 − expo))·max_rates)
unfoldable pub kiss_rates : Float → Float → Float → Float
kiss_rates expo max_rates v =
    F.one /f (F.one -f abs_f v *f min_f (max_f max_rates (of_bits binary32 0x3c23_d70a)) F.one) *f ((cube_f v *f expo +f v *f (F.one -f expo)) *f max_rates)

unfoldable pub apply_expo : ExpoRates → Float → Float
apply_expo e v = elim e.rates_type [
  | RatesType.Actual ↦ actual_rates e.expo e.max_rates e.center_sens v
  | RatesType.Kiss ↦ kiss_rates e.expo e.max_rates v
]
