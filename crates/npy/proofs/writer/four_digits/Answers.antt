use Rattle.npy.specs.PackedDigits.{four_at_once}
use Rattle.npy.proofs.writer.four_digits.Goals as goal

pub returns : goal.returns
returns c = four_at_once c.args.v
