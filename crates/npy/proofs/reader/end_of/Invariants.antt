use Rattle.std.proofs.Common.{◌≡◌}
use Rattle.npy.specs.Text.{byte_within, end_of}
use Rattle.npy.proofs.reader.end_of.Given as goal

abbrev pub invariant-loop-i : goal.invariant-loop-i
invariant-loop-i l = end_of (byte_within l.lo l.hi l.but) l.s l.i ≡ end_of (byte_within l.lo l.hi l.but) l.s l.at
