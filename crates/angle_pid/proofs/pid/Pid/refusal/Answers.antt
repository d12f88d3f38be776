use Rattle.std.proofs.Common.{rules}
use Rattle.angle_pid.specs.Range.{range_refusal}
use Rattle.angle_pid.specs.LpFilter.{tau_refusal, stored_tau}
use Rattle.angle_pid.specs.Pid.{parts_refusal, pid_refusal}
use Rattle.angle_pid.proofs.Options.{at_option}
use Rattle.angle_pid.proofs.pid.Pid.refusal.Goals as goal

pub returns : goal.returns
unfolding pid_refusal parts_refusal range_refusal tau_refusal stored_tau
returns c =
    let s = c.args.self in
    let wrapping = at_option range_refusal s.wrapping c.and_then.result c.and_then.ensures (λ x h. search rules) in
    let limit = at_option range_refusal s.output_limit c.and_then-2.result c.and_then-2.ensures (λ x h. search rules) in
    let windup = at_option range_refusal s.anti_windup c.and_then-3.result c.and_then-3.ensures (λ x h. search rules) in
    let tau = at_option (λ f. tau_refusal (stored_tau f)) s.lp_filter c.and_then-4.result c.and_then-4.ensures (λ x h. search rules) in
    simp (c.or-3.ensures, c.or-2.ensures, c.or.ensures, wrapping, limit, windup, tau)
