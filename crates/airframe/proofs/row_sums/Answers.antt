use Rattle.std.proofs.Common.{rules, ◌≡◌, ◌+◌, ◌<◌, ℕ, List, length, drop, get_or, refl, sym, ◌∙◌}
use Rattle.std.proofs.lemmas.List.{at_drop_more, at_drop_all}
use Rattle.airframe.specs.Airframe.{column, add_squares, sums, sums_of}
use Rattle.airframe.specs.declared.Motor.{Motor}
use Rattle.airframe.specs.declared.PerRow.{PerRow}
use Rattle.airframe.proofs.row_sums.Goals as goal

-- the sum of all is the sum of the motors that are left, added to what was summed
turn : (s whole : PerRow) (ms : List Motor) (i : ℕ) (m : Motor) (b d : PerRow) → i < length ms → b ≡ column (get_or ms i m) → d ≡ add_squares s b → sums s (drop i ms) ≡ whole
    → sums d (drop (i + 1) ms) ≡ whole
unfolding sums
turn s whole ms i m b d h p q e = rw (q, p) (sym (at_drop_more (sums s) ms i m h) ∙ e)

pub loop-motor-init : goal.loop-motor-init
unfolding sums_of
loop-motor-init c = search rules

pub loop-motor-preserved : goal.loop-motor-preserved
loop-motor-preserved c = turn _ _ _ _ _ _ _ c.loop-motor-test.true c.column.ensures c.add_squares-s.ensures c.loop-motor.invariant

pub returns : goal.returns
unfolding sums
returns c = sym (at_drop_all (sums c.loop-motor.s) _ _ c.loop-motor-test.false) ∙ c.loop-motor.invariant
