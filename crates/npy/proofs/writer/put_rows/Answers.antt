use Rattle.npy.specs.LineMakingLaws.{rows_of_one, rows_ended}
use Rattle.npy.proofs.writer.put_rows.Goals as goal

pub returns-then-k-eq1 : goal.returns-then-k-eq1
returns-then-k-eq1 c = rows_of_one _ _ _ _ _ c.if-k-eq1.true c.put_words.ensures

pub returns-else-k-eq1 : goal.returns-else-k-eq1
returns-else-k-eq1 c =
    let pre = c.requires in
    rows_ended _ _ _ _ _ _ pre.0 pre.1 c.put_words-else-k-eq1.ensures c.end_lines.ensures
