use Rattle.std.proofs.Common.{sym, ◌∙◌, arith}
use Rattle.npy.specs.HeaderLaws.{head_within}
use Rattle.trace.specs.StartLaws.{start_header_refused, start_misfits, start_header_fits, settings_that_fit}
use Rattle.trace.proofs.opening.start.Goals as goal

pub returns-in-Err : goal.returns-in-Err
returns-in-Err c = start_header_refused c.args.bytes.now _ _ c.in-Err.ensures c.refused_start.ensures

pub settings_misfit-requires : goal.settings_misfit-requires
settings_misfit-requires c = head_within _ _ c.in-Ok.ensures

pub returns-in-Some : goal.returns-in-Some
returns-in-Some c = start_misfits c.args.bytes.now _ _ _ c.in-Ok.ensures c.in-Some.ensures c.refused_start-in-Some.ensures

pub slice_bounds-opened-count : goal.slice_bounds-opened-count
slice_bounds-opened-count c = head_within _ _ c.in-Ok.ensures

pub slice_bounds-opened-start : goal.slice_bounds-opened-start
slice_bounds-opened-start c = head_within _ _ c.in-Ok.ensures

pub opened-bank-requires : goal.opened-bank-requires
opened-bank-requires c = (settings_that_fit c.args.bytes.now _ (sym c.in_default.is ∙ c.settings_misfit.ensures)).few

pub overflow_mul-k : goal.overflow_mul-k
overflow_mul-k c = omega (arith, settings_that_fit c.args.bytes.now _ (sym c.in_default.is ∙ c.settings_misfit.ensures))

pub overflow_add-head : goal.overflow_add-head
overflow_add-head c = omega (arith, settings_that_fit c.args.bytes.now _ (sym c.in_default.is ∙ c.settings_misfit.ensures))

pub trace_start-requires : goal.trace_start-requires
trace_start-requires c =
    let g = settings_that_fit c.args.bytes.now _ (sym c.in_default.is ∙ c.settings_misfit.ensures) in
    (g.few, g.fits)

pub returns : goal.returns
returns c = start_header_fits c.args.bytes.now _ _ _ c.in-Ok.ensures (sym c.in_default.is ∙ c.settings_misfit.ensures) c.opened-bank.ensures c.trace_start.ensures
