-- airframe/mod.rs, for any number of motors, and the two frames of four as instances.
use Rattle.std.specs.Prelude.{Bool, false, cond, ◌&&◌, List, [], ◌∷◌, ◌++◌, ℕ, ◌*◌, length, get_or, take, drop, replicate, Option, Some, None, Float}
use Rattle.std.specs.Float.Ieee as Ieee
use Rattle.std.specs.Float.Ieee.{lt, neg}
use Rattle.std.specs.Float.{inf}
use Rattle.float.specs.F32 as F
use Rattle.float.specs.F32.{◌+f◌, ◌*f◌, ◌/f◌}
use Rattle.refusal.specs.declared.Refusal.{Refusal}
use Rattle.refusal.specs.Answers.{Answer, answer_of}
use Rattle.airframe.specs.declared.Sign.{Sign}
use Rattle.airframe.specs.declared.Sign.TheVariants.{Plus, Minus, Nought}
use Rattle.airframe.specs.declared.Signs.{Signs}
use Rattle.airframe.specs.declared.Motor.{Motor}
use Rattle.airframe.specs.declared.PerRow.{PerRow}
use Rattle.airframe.specs.declared.Measures.{Measures}

-- ---- the mixing matrix of any number of motors

-- a motor's column: (−y, x, −reaction, −1)
unfoldable pub column : Motor → PerRow
column m = record { roll = neg m.y; pitch = m.x; yaw = neg m.reaction; thrust = F.minus_one }

unfoldable pub add_squares : PerRow → PerRow → PerRow
add_squares s c = record {
  roll = s.roll +f c.roll *f c.roll;
  pitch = s.pitch +f c.pitch *f c.pitch;
  yaw = s.yaw +f c.yaw *f c.yaw;
  thrust = s.thrust +f c.thrust *f c.thrust;
}

-- the squares of each row's entries, added to s in motor order
unfoldable pub sums : PerRow → List Motor → PerRow
sums s [] = s
sums s (m ∷ ms) = sums (add_squares s (column m)) ms

-- from +0
unfoldable pub sums_of : List Motor → PerRow
sums_of ms = sums (record { roll = F.zero; pitch = F.zero; yaw = F.zero; thrust = F.zero }) ms

-- above 0 and finite: not where it is NaN or an infinity
unfoldable pub good_sum : Float → Bool
good_sum s = lt F.zero s && lt s (inf false)

unfoldable pub good_sums : PerRow → Bool
good_sums s = good_sum s.roll && good_sum s.pitch && good_sum s.yaw && good_sum s.thrust

-- a motor's mixing entries: its column's, each divided by the sum of its row
unfoldable pub divided : PerRow → PerRow → PerRow
divided c s = record { roll = c.roll /f s.roll; pitch = c.pitch /f s.pitch; yaw = c.yaw /f s.yaw; thrust = c.thrust /f s.thrust }

unfoldable pub four : PerRow → List Float
four e = e.roll ∷ e.pitch ∷ e.yaw ∷ e.thrust ∷ []

-- four numbers a motor, in motor order
unfoldable pub entries : PerRow → List Motor → List Float
entries s [] = []
entries s (m ∷ ms) = four (divided (column m) s) ++ entries s ms

unfoldable pub zeros : ℕ → List Float
zeros n = replicate n F.zero

-- refusal 17 where a row's sum is not good; the numbers are then +0
unfoldable pub refusal_of : List Motor → Option Refusal
refusal_of ms = cond (good_sums (sums_of ms)) None (Some Refusal.RowSum)

unfoldable pub matrix_of : List Motor → List Float
matrix_of ms = cond (good_sums (sums_of ms)) (entries (sums_of ms) ms) (zeros (4 * length ms))

-- ---- the frames

abbrev pub signs : Sign → Sign → Sign → Signs
signs x y reaction = record { 0 = x; 1 = y; 2 = reaction }

-- the signs of x, y and reaction: the X frame's back right, front right, back left, front left; the plus frame's right, front, back, left
unfoldable pub table : List Signs
table =
    signs Minus Plus Plus
    ∷ signs Plus Plus Minus
    ∷ signs Minus Minus Minus
    ∷ signs Plus Minus Plus
    ∷ signs Nought Plus Plus
    ∷ signs Plus Nought Minus
    ∷ signs Minus Nought Minus
    ∷ signs Nought Minus Plus
    ∷ []

unfoldable pub signs_at : ℕ → Signs
signs_at at = get_or table at (signs Nought Nought Nought)

-- `count` rows of the table, from `first` on
unfoldable pub rows_from : ℕ → ℕ → List Signs
rows_from first count = take count (drop first table)

-- the distance, the distance with its sign turned, or +0: never 0 times the distance
unfoldable pub signed : Sign → Float → Float
signed Plus d = d
signed Minus d = neg d
signed Nought d = F.zero

-- the Rust's `reaction * dir` and `-reaction * dir`
unfoldable pub frame_motor : Measures → Signs → Motor
frame_motor m s = record { x = signed s.0 m.half_x; y = signed s.1 m.half_y; reaction = signed s.2 m.reaction *f m.dir }

unfoldable pub frame : Measures → List Signs → List Motor
frame m [] = []
frame m (s ∷ ss) = frame_motor m s ∷ frame m ss

unfoldable pub dir_of : Bool → Float
dir_of turned = cond turned F.minus_one F.one

abbrev pub two : Float
two = Ieee.of_bits Ieee.binary32 0x4000_0000

unfoldable pub quad_motors : ℕ → Float → Float → Float → Bool → List Motor
quad_motors first x_dist y_dist reaction turned =
    frame (record { half_x = x_dist /f two; half_y = y_dist /f two; reaction = reaction; dir = dir_of turned }) (rows_from first 4)

-- what a frame of four answers: the statements above, which hold for any number of motors, at its four
unfoldable pub mixed : List Motor → Answer (List Float)
mixed ms = answer_of (refusal_of ms) (matrix_of ms)

unfoldable pub quad : ℕ → Float → Float → Float → Bool → Answer (List Float)
quad first x_dist y_dist reaction turned = mixed (quad_motors first x_dist y_dist reaction turned)

unfoldable pub call_quad_x_basic : Float → Float → Float → Bool → Answer (List Float)
call_quad_x_basic x_dist y_dist reaction outspin = quad 0 x_dist y_dist reaction outspin

unfoldable pub call_quad_p_basic : Float → Float → Float → Bool → Answer (List Float)
call_quad_p_basic x_dist y_dist reaction reverse = quad 4 x_dist y_dist reaction reverse

-- the Rust's constant DEV_QUAD_MOTOR_SETUP: the X frame of 0.165, 0.225 and 0.1
unfoldable pub dev_quad_motor_setup : Answer (List Float)
dev_quad_motor_setup = call_quad_x_basic (Ieee.of_bits Ieee.binary32 0x3e28_f5c3) (Ieee.of_bits Ieee.binary32 0x3e66_6666) (Ieee.of_bits Ieee.binary32 0x3dcc_cccd) false
