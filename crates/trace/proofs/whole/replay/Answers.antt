use Rattle.trace.specs.ReplayLaws.{start_refused_replay, start_given_replay, start_given_bounds}
use Rattle.trace.proofs.whole.replay.Goals as goal

pub slice_bounds-replay_trace-count : goal.slice_bounds-replay_trace-count
slice_bounds-replay_trace-count c = (start_given_bounds c.args.bytes.now _ c.in-Ok.ensures).there

pub slice_bounds-replay_trace-start : goal.slice_bounds-replay_trace-start
slice_bounds-replay_trace-start c = (start_given_bounds c.args.bytes.now _ c.in-Ok.ensures).there

pub replay_trace-requires : goal.replay_trace-requires
replay_trace-requires c = let good = start_given_bounds c.args.bytes.now _ c.in-Ok.ensures in (good.lanes, good.few)

pub returns-in-Ok : goal.returns-in-Ok
returns-in-Ok c = let is = start_given_replay c.args.bytes.now _ c.in-Ok.ensures in rw (is.0, is.1) c.replay_trace.ensures

pub returns-in-Err : goal.returns-in-Err
returns-in-Err c = let is = start_refused_replay c.args.bytes.now _ c.in-Err.ensures in rw (is.0, is.1) c.replay_refused.ensures
