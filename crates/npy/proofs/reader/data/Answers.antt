use Rattle.std.proofs.Common.{ap}
use Rattle.refusal.specs.Answers.{Answer, given}
use Rattle.npy.specs.declared.reader.Head.{Head}
use Rattle.npy.specs.HeaderLaws.{data_empty, data_after, head_within, refused_place, at_start, at_place}
use Rattle.npy.proofs.reader.data.Goals as goal

pub slice_bounds-result-count : goal.slice_bounds-result-count
slice_bounds-result-count c = head_within _ _ c.in-Ok.ensures

pub slice_bounds-result-start : goal.slice_bounds-result-start
slice_bounds-result-start c = head_within _ _ c.in-Ok.ensures

pub returns-in-Ok : goal.returns-in-Ok
returns-in-Ok c = (data_after _ _ c.in-Ok.ensures, at_place c.args.bytes.ref_ptr _ _ (ap (λ (h : Answer Head). (given h).at) c.in-Ok.ensures))

pub returns-in-Err : goal.returns-in-Err
returns-in-Err c = (data_empty _ _ c.in-Err.ensures, at_start _ _ (refused_place _ _ c.in-Err.ensures))
