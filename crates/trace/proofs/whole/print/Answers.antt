use Rattle.lemmas.specs.Lists.{as_long_still}
use Rattle.trace.specs.Trace.{course_lines}
use Rattle.trace.specs.Slices.{row_cells, row_values}
use Rattle.trace.specs.MeasureLaws.{there_here, fewer_left}
use Rattle.trace.specs.RowRefusalLaws.{given_some, given_none}
use Rattle.trace.specs.PrintLaws.{print_start, print_refused, print_none, print_on, print_done}
use mathlib.Core.Path.{refl, ap, ◌∙◌}
use native.Mathlib.Omega.{arith}
use lib.ListN.{length}
use lib.Seq.{length-sets}
use Rattle.trace.proofs.whole.print.Goals as goal

pub loop-going-init : goal.loop-going-init
loop-going-init c = (print_start _ _ _ c.requires.fits, refl, refl)

pub slice_bounds-rows-count : goal.slice_bounds-rows-count
slice_bounds-rows-count c = c.loop-going.invariant.0.there

pub slice_bounds-rows-count-in-loop-going : goal.slice_bounds-rows-count-in-loop-going
slice_bounds-rows-count-in-loop-going c = omega (arith, c.loop-going.invariant.0.fits, c.loop-going.invariant.0.long)

pub shape_of-cells-then-is_some : goal.shape_of-cells-then-is_some
shape_of-cells-then-is_some c = as_long_still c.loop-going.cells _ (row_cells _ _ _) c.rows-went.ensures.1 ∙ c.loop-going.invariant.1

pub shape_of-values-then-is_some : goal.shape_of-values-then-is_some
shape_of-values-then-is_some c = as_long_still c.loop-going.values _ (row_values _ _ _) c.rows-went.ensures.2 ∙ c.loop-going.invariant.2

pub shape_of-out-then-is_some : goal.shape_of-out-then-is_some
shape_of-out-then-is_some c =
    ap length (print_refused c.args.trace.now c.args.out.now c.args.course c.loop-going.out c.loop-going.going c.loop-going.at c.loop-going.o c.loop-going.invariant.0
    (length c.loop-going.cells) (length c.loop-going.values) _ _ c.loop-going-test.true c.rows-went.ensures.0 c.rows-went.ensures.3 (given_some _ _ c.is_some.ensures c.if-is_some.true))
    ∙ length-sets c.args.out.now 0 (course_lines c.args.course c.args.trace.now)

pub returns-then-is_some : goal.returns-then-is_some
returns-then-is_some c =
    print_refused c.args.trace.now c.args.out.now c.args.course c.loop-going.out c.loop-going.going c.loop-going.at c.loop-going.o c.loop-going.invariant.0
    (length c.loop-going.cells) (length c.loop-going.values) _ _ c.loop-going-test.true c.rows-went.ensures.0 c.rows-went.ensures.3 (given_some _ _ c.is_some.ensures c.if-is_some.true)

pub shape_of-cells-then-went-eq0 : goal.shape_of-cells-then-went-eq0
shape_of-cells-then-went-eq0 c = as_long_still c.loop-going.cells _ (row_cells _ _ _) c.rows-went.ensures.1 ∙ c.loop-going.invariant.1

pub shape_of-values-then-went-eq0 : goal.shape_of-values-then-went-eq0
shape_of-values-then-went-eq0 c = as_long_still c.loop-going.values _ (row_values _ _ _) c.rows-went.ensures.2 ∙ c.loop-going.invariant.2

pub shape_of-out-then-went-eq0 : goal.shape_of-out-then-went-eq0
shape_of-out-then-went-eq0 c =
    ap length (print_none c.args.trace.now c.args.out.now c.args.course c.loop-going.out c.loop-going.going c.loop-going.at c.loop-going.o c.loop-going.invariant.0
    (length c.loop-going.cells) (length c.loop-going.values) _ _ c.loop-going-test.true c.rows-went.ensures.0 c.rows-went.ensures.3
    (omega (arith, c.requires.triples, c.loop-going.invariant.1)) (omega (arith, c.requires.results, c.loop-going.invariant.2)) (given_none _ _ c.is_some.ensures c.if-is_some.false) c.if-went-eq0.true)
    ∙ length-sets c.args.out.now 0 (course_lines c.args.course c.args.trace.now)

pub returns-then-went-eq0 : goal.returns-then-went-eq0
returns-then-went-eq0 c =
    print_none c.args.trace.now c.args.out.now c.args.course c.loop-going.out c.loop-going.going c.loop-going.at c.loop-going.o c.loop-going.invariant.0
    (length c.loop-going.cells) (length c.loop-going.values) _ _ c.loop-going-test.true c.rows-went.ensures.0 c.rows-went.ensures.3
    (omega (arith, c.requires.triples, c.loop-going.invariant.1)) (omega (arith, c.requires.results, c.loop-going.invariant.2)) (given_none _ _ c.is_some.ensures c.if-is_some.false) c.if-went-eq0.true

pub overflow_add-at : goal.overflow_add-at
overflow_add-at c = omega (arith, there_here c.args.trace.now c.loop-going.going c.loop-going.at (length c.loop-going.cells) (length c.loop-going.values) _ _ c.rows-went.ensures.0 c.loop-going.invariant.0.there)

pub overflow_add-o : goal.overflow_add-o
overflow_add-o c =
    omega (
      arith,
      (print_on c.args.trace.now c.args.out.now c.args.course c.loop-going.out c.loop-going.going c.loop-going.at c.loop-going.o c.loop-going.invariant.0
          (length c.loop-going.cells) (length c.loop-going.values) _ _ c.loop-going-test.true c.rows-went.ensures.0 c.rows-went.ensures.3 (given_none _ _ c.is_some.ensures c.if-is_some.false)).fits,
      c.well_formed.1.1.1.1.0.0,
    )

pub loop-going-smaller : goal.loop-going-smaller
loop-going-smaller c = fewer_left c.args.trace.now c.loop-going.going c.loop-going.at (length c.loop-going.cells) (length c.loop-going.values) _ _ c.rows-went.ensures.0 (given_none _ _ c.is_some.ensures c.if-is_some.false) c.if-went-eq0.false

pub loop-going-preserved : goal.loop-going-preserved
loop-going-preserved c = (
  print_on c.args.trace.now c.args.out.now c.args.course c.loop-going.out c.loop-going.going c.loop-going.at c.loop-going.o c.loop-going.invariant.0
      (length c.loop-going.cells) (length c.loop-going.values) _ _ c.loop-going-test.true c.rows-went.ensures.0 c.rows-went.ensures.3 (given_none _ _ c.is_some.ensures c.if-is_some.false),
  as_long_still c.loop-going.cells _ (row_cells _ _ _) c.rows-went.ensures.1 ∙ c.loop-going.invariant.1,
  as_long_still c.loop-going.values _ (row_values _ _ _) c.rows-went.ensures.2 ∙ c.loop-going.invariant.2,
)

pub shape_of-cells : goal.shape_of-cells
shape_of-cells c = c.loop-going.invariant.1

pub shape_of-values : goal.shape_of-values
shape_of-values c = c.loop-going.invariant.2

pub shape_of-out : goal.shape_of-out
shape_of-out c =
    ap length (print_done c.args.trace.now c.args.out.now c.args.course c.loop-going.out c.loop-going.going c.loop-going.at c.loop-going.o c.loop-going.invariant.0 c.loop-going-test.false)
    ∙ length-sets c.args.out.now 0 (course_lines c.args.course c.args.trace.now)

pub returns : goal.returns
returns c = print_done c.args.trace.now c.args.out.now c.args.course c.loop-going.out c.loop-going.going c.loop-going.at c.loop-going.o c.loop-going.invariant.0 c.loop-going-test.false
