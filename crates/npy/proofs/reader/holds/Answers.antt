use Rattle.npy.specs.TextLaws.{begins_there}
use Rattle.npy.proofs.reader.holds.Goals as goal

pub returns : goal.returns
returns c = begins_there _ _ _ _ _ c.min.ensures c.starts_with.ensures.value
