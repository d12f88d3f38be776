use Rattle.std.specs.Prelude.{refl, Some}
use Rattle.trace.specs.ReplayLaws.{refused_answer}
use Rattle.trace.proofs.whole.replay_refused.Goals as goal

pub returns : goal.returns
returns c = refused_answer (Some _) _ _ _ _ refl c.line_length-need.ensures.0 c.refused_line.ensures
