use Rattle.trace.specs.EndLaws.{wrote_none, wrote_front}
use Rattle.trace.proofs.refusal_line.write.Goals as goal

pub returns-then-out-text : goal.returns-then-out-text
returns-then-out-text c = wrote_none _ _ c.if-out-text.true

pub returns : goal.returns
returns c = wrote_front _ _ _ c.if-out-text.false c.copy_from_slice.ensures.after
