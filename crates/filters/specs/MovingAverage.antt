-- `MovingAverage`: what the window does, and its calls, which refuse a bad length or head (18).
use Rattle.std.specs.Prelude.{Bool, cond, ◌||◌, ℕ, ◌+◌, ◌-◌, ltb, pos, take, set, replicate, Option, Some, None, Float}
use mathlib.Core.List.{List, ◌++◌}
use Rattle.std.specs.List.{fold}
use Rattle.std.specs.Float.{binary32}
use Rattle.std.specs.Float.Ieee.{of_int}
use Rattle.float.specs.F32 as F
use Rattle.float.specs.F32.{◌+f◌, ◌/f◌}
use Rattle.refusal.specs.declared.Refusal.{Refusal}
use Rattle.refusal.specs.Answers.{Answer, answer_of}
use Rattle.step.specs.declared.Stepped.{Stepped}
use Rattle.filters.specs.declared.moving_average.MovingAverage.{MovingAverage}

-- the length is not 1 to 16
unfoldable pub bad_length : ℕ → Bool
bad_length length = ltb length 1 || ltb 16 length

-- or the head is above it
unfoldable pub bad_window : MovingAverage → Bool
bad_window s = bad_length s.length || ltb s.length s.head

-- ---- what the window does, whatever its length and head

-- a new window: the value in the first `length` slots, +0 in the rest; of length 0 it is the all-zero state
unfoldable pub new_with_value_moving_average : ℕ → Float → MovingAverage
new_with_value_moving_average length value = record { length = length; head = 0; slots = replicate length value ++ replicate (16 - length) F.zero }

-- the value goes to the head's slot; after the last slot, to slot 0, and the head is 0
unfoldable pub window_store : MovingAverage → Float → MovingAverage
window_store s value =
    cond (ltb s.head s.length)
    (record { length = s.length; head = s.head + 1; slots = set s.slots s.head value })
    (record { length = s.length; head = 0; slots = set s.slots 0 value })

-- from +0, in slot order
abbrev pub sum_f : List Float → Float
sum_f slots = fold ◌+f◌ F.zero slots

-- the slots in use, by their number; as a float that is exact
unfoldable pub window_mean : MovingAverage → Float
window_mean s = sum_f (take s.length s.slots) /f of_int binary32 (pos s.length)

-- ---- its calls: refused, a constructor gives the all-zero state, and an update leaves the state

abbrev pub made_moving_average : Option Refusal → MovingAverage → Answer MovingAverage
made_moving_average why s = answer_of why s

abbrev pub updated_moving_average : Option Refusal → Float → MovingAverage → Answer (Stepped MovingAverage)
updated_moving_average why y s = answer_of why (record { y = y; state = s })

unfoldable pub call_new_with_value_moving_average : ℕ → Float → Answer MovingAverage
call_new_with_value_moving_average length value = cond (bad_length length) (made_moving_average (Some Refusal.Window) (new_with_value_moving_average 0 F.zero)) (made_moving_average None (new_with_value_moving_average length value))

unfoldable pub call_new_moving_average : ℕ → Answer MovingAverage
call_new_moving_average length = call_new_with_value_moving_average length F.zero

unfoldable pub call_update_moving_average : MovingAverage → Float → Answer (Stepped MovingAverage)
call_update_moving_average s value = cond (bad_window s) (updated_moving_average (Some Refusal.Window) F.zero s) (updated_moving_average None (window_mean (window_store s value)) (window_store s value))
