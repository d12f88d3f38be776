use Rattle.std.proofs.Common.{◌≡◌, ◌+◌, ◌*◌, ◌≤◌, length}
use Rattle.std.proofs.lemmas.List.Edits.{sets}
use Rattle.npy.specs.LineMaking.{words_of}
use Rattle.npy.proofs.writer.put_words.Given as goal

abbrev pub invariant-loop-part : goal.invariant-loop-part
invariant-loop-part l = record {
  more : sets l.out l.o (words_of l.after l.part-iterator.rest.now) ≡ sets l.initial.out l.at (words_of l.after l.values);
  room : l.o + 9 * length l.part-iterator.rest.now ≤ length l.out;
  size : l.part-iterator.size ≡ 64;
  digits : length l.digits ≡ 128;
}
