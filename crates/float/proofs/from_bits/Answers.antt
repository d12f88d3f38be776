use Rattle.float.specs.FloatLaws.{no_nan_pattern}
use Rattle.float.proofs.Ties.{nan_pattern}
use Rattle.float.proofs.from_bits.Goals as goal

pub returns-then-n-gt2139095040 : goal.returns-then-n-gt2139095040
returns-then-n-gt2139095040 c = nan_pattern _ c.if-n-gt2139095040.true

pub float_from_bits-result : goal.float_from_bits-result
float_from_bits-result c = no_nan_pattern _ c.if-n-gt2139095040.false
