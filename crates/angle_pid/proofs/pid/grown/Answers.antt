use Rattle.std.proofs.Common.{sym, ◌∙◌, rules}
use Rattle.angle_pid.specs.Range.{admits}
use Rattle.angle_pid.specs.Pid.{grown}
use Rattle.angle_pid.proofs.Options.{at_option}
use Rattle.angle_pid.proofs.pid.grown.Goals as goal

pub returns-then-is_none_or : goal.returns-then-is_none_or
unfolding grown admits
returns-then-is_none_or c =
    let in_range = at_option (λ o. admits o c.args.pd) c.args.anti_windup c.is_none_or.result c.is_none_or.ensures (λ x h. search rules) in
    simp (c.if-on.true, sym in_range ∙ c.if-is_none_or.true)
