use Rattle.func.specs.Func.{above}
use Rattle.func.specs.WrapLaws.{wrap_starts, wrap_by_refused, fall_end, rise_end}
use Rattle.func.proofs.Turns.{fall-turn, fall-full, rise-turn, rise-full}
use mathlib.Core.Path.{sym, ◌∙◌}
use native.Mathlib.Omega.{arith}
use Rattle.func.proofs.wrap_by.Goals as goal

pub loop-n-init : goal.loop-n-init
loop-n-init c =
    let a = c.args in
    (omega arith, wrap_starts (above a.closed) _ _ _ c.if-min-max.true)

pub returns-then-steps-eq64 : goal.returns-then-steps-eq64
returns-then-steps-eq64 c =
    let l = c.loop-n in
    let a = c.args in
    c.refused.ensures ∙ sym (l.invariant.1 ∙ rise-full (above a.closed a.max) _ _ l.n l.steps c.if-steps-eq64.true c.loop-n-test.true)

pub loop-n-preserved : goal.loop-n-preserved
loop-n-preserved c =
    let l = c.loop-n in
    let a = c.args in
    (omega arith, l.invariant.1 ∙ rise-turn (above a.closed a.max) _ _ l.n l.steps (omega arith) c.loop-n-test.true)

pub loop-num-init : goal.loop-num-init
loop-num-init c =
    let l = c.loop-n in
    let a = c.args in
    (omega arith, l.invariant.1 ∙ rise_end (above a.closed a.max) _ _ l.n _ l.steps c.loop-n-test.false)

pub returns-then-steps-eq64-2 : goal.returns-then-steps-eq64-2
returns-then-steps-eq64-2 c =
    let l = c.loop-num in
    let a = c.args in
    let over = sym c.above.ensures ∙ c.loop-num-test.true in
    c.refused-then-steps-eq64-2.ensures ∙ sym (l.invariant.1 ∙ fall-full (above a.closed a.max) _ l.n l.steps c.if-steps-eq64-2.true over)

pub loop-num-preserved : goal.loop-num-preserved
loop-num-preserved c =
    let l = c.loop-num in
    let a = c.args in
    let over = sym c.above.ensures ∙ c.loop-num-test.true in
    (omega arith, l.invariant.1 ∙ fall-turn (above a.closed a.max) _ l.n l.steps (omega arith) over)

pub returns-then-min-max : goal.returns-then-min-max
returns-then-min-max c =
    let l = c.loop-num in
    let a = c.args in
    sym (l.invariant.1 ∙ fall_end (above a.closed a.max) _ l.n _ l.steps (sym c.above.ensures ∙ c.loop-num-test.false))

pub returns : goal.returns
returns c =
    let a = c.args in
    c.refused-2.ensures ∙ sym (wrap_by_refused (above a.closed) _ _ _ c.if-min-max.false)
