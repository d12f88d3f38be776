use Rattle.std.proofs.Common.{sym, ◌∙◌}
use Rattle.npy.specs.TextLaws.{end_stop, end_more, end_last}
use Rattle.npy.proofs.reader.end_of.Goals as goal

pub returns-then-not-byte_within : goal.returns-then-not-byte_within
returns-then-not-byte_within c = end_stop _ _ _ c.loop-i-test.true (sym c.byte_within.ensures ∙ c.if-not-byte_within.true) ∙ c.loop-i.invariant

pub loop-i-preserved : goal.loop-i-preserved
loop-i-preserved c = end_more _ _ _ c.loop-i-test.true (sym c.byte_within.ensures ∙ c.if-not-byte_within.false) ∙ c.loop-i.invariant

pub returns : goal.returns
returns c = end_last _ c.args.s.now _ _ _ c.loop-i.auto.i c.loop-i.auto.i-end c.loop-i-test.false c.max.ensures c.loop-i.invariant
