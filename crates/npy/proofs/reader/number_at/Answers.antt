use Rattle.std.proofs.Common.{◌∙◌}
use Rattle.std.proofs.lemmas.Bool.{lt-leb}
use Rattle.npy.specs.TextLaws.{no_number}
use Rattle.npy.proofs.reader.number_at.Goals as goal

pub returns-else-at-end : goal.returns-else-at-end
returns-else-at-end c = lt-leb _ _ c.if-at-end.false ∙ no_number _ _ _ c.if-at-end.false
