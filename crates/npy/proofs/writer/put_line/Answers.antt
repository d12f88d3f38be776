use Rattle.npy.specs.PutLinesLaws.{line_alone}
use Rattle.npy.proofs.writer.put_line.Goals as goal

pub returns : goal.returns
returns c = line_alone _ _ _ _ _ c.put_lines.ensures
