use Rattle.std.proofs.Common.{◌≡◌, ◌+◌, ◌*◌, ◌<◌, ◌++◌, ℕ, List, length, take, drop, set, get_or, sym, ap, ◌∙◌, arith}
use Rattle.std.proofs.lemmas.List.{at_drop_more, at_drop_all}
use Rattle.airframe.specs.AirframeLaws.{four_more, all_written}
use Rattle.airframe.specs.Airframe.{column, divided, four, entries}
use Rattle.airframe.specs.declared.Motor.{Motor}
use Rattle.airframe.specs.declared.PerRow.{PerRow}
use lib.Ieee.{Float}
use Rattle.airframe.proofs.divide.Goals as goal

-- four numbers more are in their place
put_entries : (l whole : List Float) (s : PerRow) (ms : List Motor) (i : ℕ) (m : Motor) (b e : PerRow) → length l ≡ 4 * length ms → i < length ms → b ≡ column (get_or ms i m) → e ≡ divided b s
    → take (4 * i) l ++ entries s (drop i ms) ≡ whole
    → take (4 * (i + 1)) (set (set (set (set l (4 * i) e.roll) (4 * i + 1) e.pitch) (4 * i + 2) e.yaw) (4 * i + 3) e.thrust) ++ entries s (drop (i + 1) ms) ≡ whole
unfolding entries four
put_entries l whole s ms i m b e n h p q so_far =
    let four_on : 4 * (i + 1) ≡ 4 * i + 4 = omega arith in
    let f = divided (column (get_or ms i m)) s in
    rw (four_on, q, p)
    (four_more l (4 * i) f.roll f.pitch f.yaw f.thrust (entries s (drop (i + 1) ms)) whole (omega arith)
    (ap (λ (rest : List Float). take (4 * i) l ++ rest) (sym (at_drop_more (entries s) ms i m h)) ∙ so_far))

pub loop-i-preserved : goal.loop-i-preserved
loop-i-preserved c = put_entries _ _ _ _ _ _ _ _ (omega arith) c.loop-i-test.true c.column.ensures c.divided-e.ensures c.loop-i.invariant

pub returns : goal.returns
unfolding entries
returns c = all_written c.loop-i.out (4 * c.loop-i.i) _ _ (omega arith) (at_drop_all (entries c.args.s) _ _ c.loop-i-test.false) c.loop-i.invariant
