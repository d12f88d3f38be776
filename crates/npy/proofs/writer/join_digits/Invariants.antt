use mathlib.Core.Path.{◌≡◌}
use Prim.Native.Nat.{◌+◌, ◌*◌, ◌-◌, ◌≤◌}
use lib.ListN.{length, drop}
use lib.Seq.{sets}
use Rattle.npy.specs.PackedDigits.{unpacked_words}
use Rattle.npy.proofs.writer.join_digits.Given as goal

abbrev pub invariant-loop-i : goal.invariant-loop-i
invariant-loop-i l = (sets l.out (l.at + 9 * l.i) (unpacked_words l.after (l.n - l.i) (drop (2 * l.i) l.digits)) ≡ sets l.initial.out l.at (unpacked_words l.after l.n l.digits)) × (length l.out ≡ length l.initial.out) × (l.i ≤ l.n)
