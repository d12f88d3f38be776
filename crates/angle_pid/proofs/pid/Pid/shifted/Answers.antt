use Rattle.std.proofs.Common.{rules}
use Rattle.angle_pid.specs.Range.{shifted}
use Rattle.angle_pid.proofs.Options.{at_option}
use Rattle.angle_pid.proofs.pid.Pid.shifted.Goals as goal

pub returns : goal.returns
unfolding shifted
returns c = at_option (λ o. shifted o c.args.jump c.args.x) c.args.self.wrapping c.map_or.result c.map_or.ensures (λ x h. search rules)
