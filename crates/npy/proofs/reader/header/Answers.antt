use Rattle.std.proofs.Common.{◌∙◌}
use Rattle.npy.specs.HeaderLaws.{no_known_width, by_known_width}
use Rattle.npy.proofs.reader.header.Goals as goal

pub header_w-requires : goal.header_w-requires
header_w-requires c = (by_known_width _ _ c.in-Some.ensures).0

pub returns-in-Some : goal.returns-in-Some
returns-in-Some c = c.header_w.ensures ∙ (by_known_width _ _ c.in-Some.ensures).1

pub returns-in-None : goal.returns-in-None
returns-in-None c = c.refused.ensures ∙ no_known_width _ c.in-None.ensures
