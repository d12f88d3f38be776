use Rattle.npy.specs.TextLaws.{rows_part, cols_part, kind_part}
use Rattle.npy.specs.HeaderLaws.{bad_text, good_text}
use mathlib.Core.Path.{sym, ◌∙◌}
use Rattle.npy.proofs.reader.read_text.Goals as goal

pub returns-then-not-spelled : goal.returns-then-not-spelled
returns-then-not-spelled c = c.refused.ensures ∙ bad_text _ _ _ _ c.of-p.ensures c.spelled.ensures c.if-not-spelled.true

pub overflow_sub-p : goal.overflow_sub-p
overflow_sub-p c = kind_part _ _ c.of-p.ensures

pub decimal-requires : goal.decimal-requires
decimal-requires c = rows_part _ _ c.of-p.ensures (sym c.spelled.ensures ∙ c.if-not-spelled.false)

pub decimal-requires-2 : goal.decimal-requires-2
decimal-requires-2 c = cols_part _ _ c.of-p.ensures (sym c.spelled.ensures ∙ c.if-not-spelled.false)

pub returns : goal.returns
returns c = good_text _ _ _ _ _ _ _ c.of-p.ensures c.spelled.ensures c.if-not-spelled.false c.kind_of.ensures c.decimal.ensures c.decimal-2.ensures
