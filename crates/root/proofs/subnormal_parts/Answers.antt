use native.Mathlib.Omega.{arith}
use Rattle.root.proofs.Small.{no_nan, high, small_parts}
use Rattle.root.proofs.subnormal_parts.Goals as goal

pub float_to_bits-result : goal.float_to_bits-result
float_to_bits-result c = no_nan c.args.b c.requires.0 c.requires.1

pub overflow_sub-result : goal.overflow_sub-result
overflow_sub-result c = omega (arith, high c.args.b c.requires.0 c.requires.1)

pub returns : goal.returns
returns c = small_parts c.args.b c.requires.0 c.requires.1
