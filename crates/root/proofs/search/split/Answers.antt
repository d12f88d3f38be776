use Rattle.root.proofs.Assemble.{split-normal, split_small}
use Rattle.root.proofs.search.split.Goals as goal

pub returns-then-b-ge8388608 : goal.returns-then-b-ge8388608
returns-then-b-ge8388608 c = split-normal c.args.b c.if-b-ge8388608.true c.requires.1

pub overflow_sub-places : goal.overflow_sub-places
overflow_sub-places c = (split_small c.args.b c.requires.0 c.if-b-ge8388608.false).0

pub returns : goal.returns
returns c = (split_small c.args.b c.requires.0 c.if-b-ge8388608.false).1
