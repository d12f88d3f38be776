use Rattle.trace.specs.EndLaws.{one_digit, two_digits}
use Rattle.trace.proofs.refusal_line.refused_line.Goals as goal

pub returns-then-n-lt10 : goal.returns-then-n-lt10
returns-then-n-lt10 c = rw (one_digit c.args.why _ c.refusal_number-n.ensures c.if-n-lt10.true) c.write.ensures

pub returns : goal.returns
returns c = rw (two_digits c.args.why _ c.refusal_number-n.ensures c.if-n-lt10.false) c.write-2.ensures
