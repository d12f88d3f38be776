use Rattle.npy.specs.PackedDigits.{four_copied}
use Rattle.npy.proofs.writer.put_four.Goals as goal

pub returns : goal.returns
returns c = four_copied c.args.out.now _ _ _ _ c.requires c.to_le_bytes.ensures c.copy_from_slice.ensures.after
