use Rattle.std.proofs.Common.{ap, ◌∙◌, arith, length, length-append}
use Rattle.std.proofs.Math.Seq.{length-sets}
use Rattle.npy.specs.LineMakingLaws.{words_joined, words_all}
use Rattle.npy.proofs.writer.put_words.Goals as goal

pub loop-part-preserved : goal.loop-part-preserved
loop-part-preserved c =
    let inv = c.loop-part.invariant in
    let steps = c.in-Some.ensures.steps in
    let put = c.put_block.ensures in
    record {
      more = words_joined _ _ _ _ _ _ _ steps.1.0 put.1 ∙ inv.more;
      room = omega (arith, inv.room, simp length-append at (ap length steps.1.0), simp length-sets at (ap length put.1));
      size = steps.0 ∙ inv.size;
      digits = simp length-sets at (ap length put.0) ∙ inv.digits;
    }

pub returns : goal.returns
returns c = words_all _ _ _ _ c.in-None.ensures.steps.1.0 ∙ c.loop-part.invariant.more
