-- One notch over a run of samples; and notches of settings that lie in a run of numbers.
use Rattle.std.specs.Prelude.{List, ℕ, ◌+◌, Float, get_or}
use Rattle.std.specs.Float.{nan}
use Rattle.notch.specs.declared.notch_filter.NotchFilter.{NotchFilter}
use Rattle.notch.specs.declared.notches.Notches.{Notches}
use Rattle.notch.specs.NotchFilter.{new_notch_filter, notch_machine}
use Rattle.notch.specs.Samples.{written}

-- of the four settings from a place on, NaN where one is missing
unfoldable pub notch_from : List Float → ℕ → NotchFilter
notch_from s i = new_notch_filter (get_or s i nan) (get_or s (i + 1) nan) (get_or s (i + 2) nan) (get_or s (i + 3) nan)

unfoldable pub notches_from : List Float → Notches
notches_from s = record { first = notch_from s 0; second = notch_from s 4; third = notch_from s 8 }

-- what the second run then holds: nothing is written where it is too short
unfoldable pub notch_out : List Float → List Float → List Float → List Float
notch_out settings samples out = written notch_machine (notch_from settings 0) samples out
