use mathlib.Core.Path.{◌≡◌}
use Prim.Native.Nat.{◌*◌, ◌≤◌}
use lib.ListN.{length, drop}
use lib.Seq.{sets}
use Rattle.npy.specs.PackedDigits.{packed_digits}
use Rattle.npy.proofs.writer.find_digits.Given as goal

abbrev pub invariant-loop-i : goal.invariant-loop-i
invariant-loop-i l = (sets l.digits (2 * l.i) (packed_digits (drop l.i l.values)) ≡ sets l.initial.digits 0 (packed_digits l.values)) × (length l.digits ≡ length l.initial.digits) × (l.i ≤ length l.values)
