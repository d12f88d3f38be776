-- The two calls that take a root, of the numbers that their states are made of.
use Rattle.std.specs.Prelude.{true, Float}
use Rattle.float.specs.F32 as F
use Rattle.refusal.specs.Answers.{given}
use Rattle.motor_lin.specs.MotorLin.{command, thrust, call_force_to_command}
use Rattle.statistics.specs.Statistics.{call_std_dev}

abbrev pub command_for : Float → Float → Float → Float → Float → Float → Float → Float
command_for a b c_min c_max f_min f_max force =
    (given (call_force_to_command (record { a = a; b = b; c_min = command c_min; c_max = command c_max; f_min = thrust f_min; f_max = thrust f_max }) (thrust force))).0

abbrev pub deviation_of : Float → Float → Float
deviation_of alpha variance = given (call_std_dev (record { initialized = true; alpha = alpha; mean = F.zero; variance = variance }))
