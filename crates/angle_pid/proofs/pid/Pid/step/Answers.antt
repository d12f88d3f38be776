use Rattle.std.proofs.Common.{rules}
use Rattle.float.specs.F32.{◌+f◌, ◌*f◌}
use Rattle.angle_pid.specs.Range.{limited}
use Rattle.angle_pid.specs.Pid.{moved_error, moved_integral, proportional, derivative, next_integral, step_pid}
use Rattle.angle_pid.proofs.Options.{at_option}
use Rattle.angle_pid.proofs.pid.Pid.step.Goals as goal

pub returns : goal.returns
unfolding step_pid moved_error moved_integral proportional derivative next_integral limited
returns c =
    let a = c.args in
    let y =
    at_option (λ o. limited o (a.self.kp *f a.error +f c.grown-integral.result +f c.step_lp_filter-d.result.y)) a.self.output_limit c.map_or.result c.map_or.ensures
    (λ x h. search rules) in
    simp (y, c.grown-integral.ensures, c.step_lp_filter-d.ensures, c.shifted-integral.ensures, c.shifted-prev_error.ensures)
