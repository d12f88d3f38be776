use Rattle.trace.specs.ReplayLaws.{one_digit_length, two_digits_length}
use Rattle.trace.proofs.whole.line_length.Goals as goal

pub returns-then-number-lt10 : goal.returns-then-number-lt10
returns-then-number-lt10 c = one_digit_length _ _ c.number.ensures c.if-number-lt10.true

pub returns-else-number-lt10 : goal.returns-else-number-lt10
returns-else-number-lt10 c = two_digits_length _ _ c.number.ensures c.if-number-lt10.false
