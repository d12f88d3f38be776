use native.Mathlib.Omega.{arith}
use Rattle.npy.specs.PutLines.{lines_end, put_lines}
use Rattle.npy.specs.PutLinesLaws.{lines-room, unwritten, written}
use Rattle.npy.proofs.writer.put_lines.Goals as goal

pub returns-then-not-lines_fit : goal.returns-then-not-lines_fit
unfolding lines_end put_lines
returns-then-not-lines_fit c = unwritten _ _ _ _ c.lines_fit.ensures c.if-not-lines_fit.true

pub put_rows-requires : goal.put_rows-requires
put_rows-requires c = lines-room _ _ _ _ _ c.lines_fit.ensures c.if-not-lines_fit.false

pub overflow_mul-result : goal.overflow_mul-result
overflow_mul-result c = omega (arith, lines-room _ _ _ _ _ c.lines_fit.ensures c.if-not-lines_fit.false)

pub overflow_add-result : goal.overflow_add-result
overflow_add-result c = omega (arith, lines-room _ _ _ _ _ c.lines_fit.ensures c.if-not-lines_fit.false)

pub returns : goal.returns
unfolding lines_end put_lines
returns c = written _ _ _ _ _ c.lines_fit.ensures c.if-not-lines_fit.false c.put_rows.ensures
