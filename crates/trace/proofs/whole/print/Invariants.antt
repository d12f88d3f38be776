use Rattle.trace.specs.PrintLaws.{Printing}
use mathlib.Core.Path.{◌≡◌}
use lib.ListN.{length}
use Rattle.trace.proofs.whole.print.Given as goal

abbrev pub invariant-loop-going : goal.invariant-loop-going
invariant-loop-going l = Printing l.trace l.initial.out l.initial.going l.out l.going l.at l.o × (length l.cells ≡ length l.initial.cells) × (length l.values ≡ length l.initial.values)

abbrev pub decreases-loop-going : goal.decreases-loop-going
decreases-loop-going l = l.going.left
