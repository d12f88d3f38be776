-- motor_lin.rs. The constructor, both conversions and both reads are refused 7 where min ≤ max or f_min ≤ f_max does not hold.
use Rattle.std.specs.Prelude.{Bool, cond, not, ◌&&◌, Float, Ok}
use Rattle.std.specs.Float.Ieee.{le}
use Rattle.float.specs.F32 as F
use Rattle.float.specs.F32.{◌+f◌, ◌-f◌, ◌*f◌, ◌/f◌}
use Rattle.float.specs.Float.{clamp_f}
use Rattle.root.specs.Root.{root}
use Rattle.refusal.specs.Answers.{Answer, refused}
use Rattle.refusal.specs.declared.Refusal.TheVariants as Refusal
use Rattle.motor_lin.specs.declared.Command.{Command}
use Rattle.motor_lin.specs.declared.Thrust.{Thrust}
use Rattle.motor_lin.specs.declared.MotorLin.{MotorLin}

-- a·c·c/(1 + b·c·c), with c clamped first
abbrev pub thrust_of : Float → Float → Float → Float → Float → Float
thrust_of a b low high command =
    let c = clamp_f command low high in
    a *f c *f c /f (F.one +f b *f c *f c)

-- the root of f/(a − f·b), with f clamped first
abbrev pub command_of : Float → Float → Float → Float → Float → Float
command_of a b low high force =
    let f = clamp_f force low high in
    root (f /f (a -f f *f b))

abbrev pub bad_motor : MotorLin → Bool
bad_motor m = not (le m.c_min.0 m.c_max.0 && le m.f_min.0 m.f_max.0)

abbrev pub command : Float → Command
command c = record { 0 = c }

abbrev pub thrust : Float → Thrust
thrust f = record { 0 = f }

abbrev pub zero_motor : MotorLin
zero_motor = record {
  a = F.zero;
  b = F.zero;
  c_min = command F.zero;
  c_max = command F.zero;
  f_min = thrust F.zero;
  f_max = thrust F.zero;
}

-- the motor with the thrusts of its two limits
abbrev pub new_motor_lin : Float → Float → Command → Command → MotorLin
new_motor_lin a b min max = record {
  a = a;
  b = b;
  c_min = min;
  c_max = max;
  f_min = thrust (thrust_of a b min.0 max.0 min.0);
  f_max = thrust (thrust_of a b min.0 max.0 max.0);
}

-- an answer, and what it is where the motor is refused
abbrev pub unless_bad : {A : Type 0} → MotorLin → A → A → Answer A
unless_bad m none a = cond (bad_motor m) (refused Refusal.Motor none) (Ok a)

abbrev pub call_new_motor_lin : Float → Float → Command → Command → Answer MotorLin
call_new_motor_lin a b min max = unless_bad (new_motor_lin a b min max) zero_motor (new_motor_lin a b min max)

-- in thrust, and in command: +0 where the motor is refused
abbrev pub force_unless_bad : MotorLin → Thrust → Answer Thrust
force_unless_bad m f = unless_bad m (thrust F.zero) f

abbrev pub command_unless_bad : MotorLin → Command → Answer Command
command_unless_bad m c = unless_bad m (command F.zero) c

abbrev pub call_command_to_force : MotorLin → Command → Answer Thrust
call_command_to_force m c = force_unless_bad m (thrust (thrust_of m.a m.b m.c_min.0 m.c_max.0 c.0))

abbrev pub call_force_to_command : MotorLin → Thrust → Answer Command
call_force_to_command m f = command_unless_bad m (command (command_of m.a m.b m.f_min.0 m.f_max.0 f.0))

abbrev pub call_min_force : MotorLin → Answer Thrust
call_min_force m = force_unless_bad m m.f_min

abbrev pub call_max_force : MotorLin → Answer Thrust
call_max_force m = force_unless_bad m m.f_max
