-- Document 01, 'Both sides of each edge': the rows marked [T], in its order, as one theorem on the definitions. Numbers are written by their
-- bits. Assumes nothing.
use Rattle.std.specs.Prelude.{◌≡◌, refl, false, List, [], ◌∷◌, take, ℕ, Float, Some, None, Ok}
use Rattle.std.specs.Float.Ieee as Ieee
use Rattle.std.specs.Float.{nan, binary32}
use Rattle.std.specs.Float.Ieee.{of_bits}
use Rattle.float.specs.Float.{abs_f, fifth_f, clamp_f, max_f, min_f, negative}
use Rattle.refusal.specs.declared.Refusal.TheVariants as Refusal
use Rattle.refusal.specs.Answers as Answers
use Rattle.refusal.specs.Answers.{given, refusal_of}
use Rattle.root.specs.Root.{root, root_bits, seek, reaches, fourfold, twice_middle, scaled, of_parts}
use Rattle.func.specs.Func.{call_wrap, settled, refused, rise, fall}
use Rattle.filters.specs.MovingAverage.{call_new_moving_average, call_new_with_value_moving_average, call_update_moving_average, bad_length, bad_window, new_with_value_moving_average, window_store, window_mean}
use Rattle.filters.specs.SlewRate.{call_new_slew_rate, call_update_slew_rate, bad_limit, slew_change, step_slew_rate}
use Rattle.filters.specs.declared.moving_average.MovingAverage.{MovingAverage}
use Rattle.filters.specs.declared.slew_rate.SlewRate.{SlewRate}
use Rattle.rates.specs.Rates.{apply_actual}
use Rattle.airframe.specs.Airframe as A
use Rattle.airframe.specs.Airframe.{call_quad_x_basic}
use Rattle.linear_lut.specs.LinearLut.{call_get, within}
use Rattle.motor_lin.specs.MotorLin.{call_new_motor_lin, call_command_to_force, call_force_to_command, command, thrust}

abbrev b : ℕ → Float
b n = of_bits binary32 n

-- what a window and a slew limiter answer when fed one number after the other
abbrev window_fed : MovingAverage → List Float → List Float
window_fed s [] = []
window_fed s (x ∷ xs) = (given (call_update_moving_average s x)).y ∷ window_fed (given (call_update_moving_average s x)).state xs

abbrev slew_fed : SlewRate → List Float → List Float
slew_fed s [] = []
slew_fed s (x ∷ xs) = (given (call_update_slew_rate s x)).y ∷ slew_fed (given (call_update_slew_rate s x)).state xs

pub edge_rows
    -- 1 wrap 7.5 to −1..1: −0.5, 4 steps
    : (call_wrap (b 0x40f0_0000) (b 0xbf80_0000) (b 0x3f80_0000) ≡ settled (b 0xbf00_0000) 4)
    -- 2 wrap 1: −1, 1 step
    × (call_wrap (b 0x3f80_0000) (b 0xbf80_0000) (b 0x3f80_0000) ≡ settled (b 0xbf80_0000) 1)
    -- 3 wrap 128: 0, 64 steps
    × (call_wrap (b 0x4300_0000) (b 0xbf80_0000) (b 0x3f80_0000) ≡ settled (b 0x0000_0000) 64)
    -- 4 wrap 130: refused 6
    × (call_wrap (b 0x4302_0000) (b 0xbf80_0000) (b 0x3f80_0000) ≡ refused Refusal.Steps 64)
    -- 5 Actual 20, 0.5, 5 at 1: 20
    × (apply_actual (record { rate = b 0x41a0_0000; expo = b 0x3f00_0000; cent = b 0x40a0_0000 }) (b 0x3f80_0000) ≡ b 0x41a0_0000)
    -- 6 Actual at 0.5: 4.4921875
    × (apply_actual (record { rate = b 0x41a0_0000; expo = b 0x3f00_0000; cent = b 0x40a0_0000 }) (b 0x3f00_0000) ≡ b 0x408f_c000)
    -- 7 points (0,0), (2,4) at 3: 6
    × (call_get (b 0 ∷ b 0 ∷ b 0x4000_0000 ∷ b 0x4080_0000 ∷ []) (b 0x4040_0000) ≡ Ok (b 0x40c0_0000))
    -- 8 one point: refused 5
    × ((px py x : Float) → call_get (px ∷ py ∷ []) x ≡ Answers.refused Refusal.Points (b 0))
    -- 9 window 2 fed 2, 4, 6, 8: 1, 3, 5, 6
    × (window_fed (given (call_new_moving_average 2)) (b 0x4000_0000 ∷ b 0x4080_0000 ∷ b 0x40c0_0000 ∷ b 0x4100_0000 ∷ []) ≡ b 0x3f80_0000 ∷ b 0x4040_0000 ∷ b 0x40a0_0000 ∷ b 0x40c0_0000 ∷ [])
    -- 10 slew limit 1, dt 0.5, fed 2 then NaN: 0.5, 0
    × (slew_fed (given (call_new_slew_rate (b 0x3f80_0000) (b 0x3f00_0000))) (b 0x4000_0000 ∷ nan ∷ []) ≡ b 0x3f00_0000 ∷ b 0 ∷ [])
    -- 11 motor 4, 0, 0, 1: command 0.5 gives thrust 1
    × (call_command_to_force (given (call_new_motor_lin (b 0x4080_0000) (b 0) (command (b 0)) (command (b 0x3f80_0000)))) (command (b 0x3f00_0000)) ≡ Ok (thrust (b 0x3f80_0000)))
    -- 12 and back
    × (call_force_to_command (given (call_new_motor_lin (b 0x4080_0000) (b 0) (command (b 0)) (command (b 0x3f80_0000)))) (thrust (b 0x3f80_0000)) ≡ Ok (command (b 0x3f00_0000)))
    -- 13 root of bits 00000002: 1a800000
    × (root (b 0x0000_0002) ≡ b 0x1a80_0000)
    -- 14 root of 2: 3fb504f3
    × (root (b 0x4000_0000) ≡ b 0x3fb5_04f3)
    -- 15 quad_x 2, 4, 0.5, false: not refused
    × (refusal_of (call_quad_x_basic (b 0x4000_0000) (b 0x4080_0000) (b 0x3f00_0000) false) ≡ None)
    -- 16 its back right row: −0.125, −0.25, −0.5, −0.25
    × (take 4 (given (call_quad_x_basic (b 0x4000_0000) (b 0x4080_0000) (b 0x3f00_0000) false)) ≡ b 0xbe00_0000 ∷ b 0xbe80_0000 ∷ b 0xbf00_0000 ∷ b 0xbe80_0000 ∷ [])
    -- 17 x distance zero: refused 17
    × (refusal_of (call_quad_x_basic (b 0) (b 0x4080_0000) (b 0x3f00_0000) false) ≡ Some Refusal.RowSum)
    -- 18 y distance zero: refused 17
    × (refusal_of (call_quad_x_basic (b 0x4000_0000) (b 0) (b 0x3f00_0000) false) ≡ Some Refusal.RowSum)
unfolding of_bits Ieee.to_bits Ieee.add Ieee.sub Ieee.mul Ieee.div Ieee.neg Ieee.lt Ieee.le Ieee.is_nan Ieee.of_int
    abs_f fifth_f clamp_f max_f min_f negative call_wrap rise fall apply_actual within
    call_new_moving_average call_new_with_value_moving_average call_update_moving_average bad_length bad_window new_with_value_moving_average window_store window_mean call_new_slew_rate call_update_slew_rate bad_limit slew_change step_slew_rate
    root root_bits seek reaches fourfold twice_middle scaled of_parts
    A.column A.add_squares A.sums A.sums_of A.good_sum A.good_sums A.divided A.four A.entries A.zeros A.refusal_of A.matrix_of A.table A.signs_at A.rows_from A.signed A.frame_motor A.frame A.dir_of A.quad_motors A.mixed A.quad A.call_quad_x_basic A.call_quad_p_basic
edge_rows = (refl, refl, refl, refl, refl, refl, refl, λ px py x. refl, refl, refl, refl, refl, refl, refl, refl, refl, refl, refl)
