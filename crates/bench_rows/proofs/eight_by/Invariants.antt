use Rattle.std.proofs.Common.{◌≡◌}
use Rattle.bench_rows.specs.Eight.{lanes_opened}
use Rattle.bench_rows.proofs.eight_by.Given as goal

abbrev pub invariant-loop-lane : goal.invariant-loop-lane
invariant-loop-lane l = l.bank ≡ lanes_opened l.s l.stride l.lane
