use Rattle.std.proofs.Common.{rules, sym, ◌∙◌}
use Rattle.angle_pid.specs.Range.{wrap_error}
use Rattle.angle_pid.specs.Pid.{after_wrap, call_update_ts_pid}
use Rattle.angle_pid.proofs.Options.{at_option}
use Rattle.angle_pid.proofs.pid.Pid.update_ts.Goals as goal

pub returns-in-Ok : goal.returns-in-Ok
unfolding call_update_ts_pid after_wrap wrap_error
returns-in-Ok c =
    let wrapped = at_option (λ o. wrap_error o c.args.error) c.args.self.wrapping c.map_or.result c.map_or.ensures (λ x h. search rules) in
    simp (sym c.refusal.ensures ∙ c.in_default.is, sym wrapped ∙ c.in-Ok.is, c.step-next.ensures)
