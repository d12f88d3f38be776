use native.Mathlib.Omega.{arith}
use Rattle.npy.specs.PackedDigits.{unpacked_words_lem}
use Rattle.npy.proofs.writer.put_block.Goals as goal

pub returns : goal.returns
returns c =
    let found = c.find_digits.ensures in
    (found, unpacked_words_lem _ _ _ _ _ _ _ (omega arith) found c.join_digits.ensures)
