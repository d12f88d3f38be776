use Rattle.std.proofs.Common.{sym, ◌∙◌, arith}
use Rattle.trace.specs.StartLaws.{trace_header_refused, trace_misfits, trace_header_fits, place-within}
use Rattle.trace.proofs.opening.trace_start.Goals as goal

pub returns-in-Err : goal.returns-in-Err
returns-in-Err c = trace_header_refused _ _ _ c.args.bytes.now _ _ c.in-Err.ensures c.refused_start.ensures

pub returns-in-Some : goal.returns-in-Some
returns-in-Some c = trace_misfits _ _ _ c.args.bytes.now _ _ _ c.in-Ok.ensures c.in-Some.ensures c.refused_start-in-Some.ensures

pub overflow_add-result : goal.overflow_add-result
overflow_add-result c = omega (arith, place-within c.args.at c.args.bytes.now _ c.in-Ok.ensures)

pub returns : goal.returns
returns c = trace_header_fits _ _ _ c.args.bytes.now _ c.in-Ok.ensures (sym c.in_default.is ∙ c.trace_misfit.ensures)
