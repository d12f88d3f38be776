use Rattle.std.proofs.Common.{◌≡◌, ◌++◌, length, take, drop}
use Rattle.airframe.specs.Airframe.{frame, rows_from}
use Rattle.airframe.proofs.Measures.place.Given as goal

abbrev pub invariant-loop-i : goal.invariant-loop-i
invariant-loop-i l = let rows = rows_from l.first (length l.initial.out) in take l.i l.out ++ frame l.self (drop l.i rows) ≡ frame l.self rows
