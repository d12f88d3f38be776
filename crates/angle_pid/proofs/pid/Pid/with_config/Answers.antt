use Rattle.std.proofs.Common.{◌≡◌, ap, rules}
use Rattle.angle_pid.specs.Pid.{zero_pid, with_parts, with_config_pid, unless_refused, call_with_config_pid}
use Rattle.angle_pid.proofs.PidLaws.{config_parts}
use Rattle.angle_pid.proofs.pid.Pid.with_config.Goals as goal

pub returns : goal.returns
unfolding call_with_config_pid with_config_pid with_parts zero_pid
returns c =
    let a = c.args in
    let zero : c.default.result ≡ zero_pid = search rules in
    simp (c.keep.ensures, zero, c.refusal.ensures, c.new.ensures, c.new_lp_filter.ensures)
    (ap (λ why. unless_refused why zero_pid (with_config_pid a.config a.ts)) (config_parts a.config a.ts))
