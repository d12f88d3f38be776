use Rattle.std.proofs.Common.{◌≡◌, ◌+◌, ◌-◌, ◌*◌, ◌≤◌, length}
use Rattle.npy.specs.LineMaking.{end_lines}
use Rattle.npy.proofs.writer.end_lines.Given as goal

abbrev pub invariant-loop-line : goal.invariant-loop-line
invariant-loop-line l = (end_lines (l.n - l._line) (9 * l.k) l.o l.out ≡ end_lines l.n (9 * l.k) l.at l.initial.out) × (length l.out ≡ length l.initial.out) × (l.o + (l.n - l._line) * (9 * l.k) ≤ length l.initial.out)
