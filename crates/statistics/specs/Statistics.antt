-- statistics.rs. Each call on a state whose alpha is not above 0 and at most 1 is refused 4.
use Rattle.std.specs.Prelude.{Bool, true, false, cond, not, ◌&&◌, Float, Ok}
use Rattle.std.specs.Float.Ieee.{lt, le}
use Rattle.float.specs.F32 as F
use Rattle.float.specs.F32.{◌+f◌, ◌-f◌, ◌*f◌}
use Rattle.root.specs.Root.{root}
use Rattle.refusal.specs.Answers.{Answer, refused}
use Rattle.refusal.specs.declared.Refusal.TheVariants as Refusal
use Rattle.statistics.specs.declared.Statistics.{Statistics}
use Rattle.statistics.specs.declared.MeanVar.{MeanVar}

abbrev pub bad_alpha : Float → Bool
bad_alpha alpha = not (lt F.zero alpha && le alpha F.one)

abbrev pub zero_statistics : Statistics
zero_statistics = record { initialized = false; alpha = F.zero; mean = F.zero; variance = F.zero }

abbrev pub new_statistics : Float → Statistics
new_statistics alpha = record { initialized = false; alpha = alpha; mean = F.zero; variance = F.zero }

-- The first sample is the mean. A later one moves the mean by delta·alpha, and the variance becomes (variance + delta·delta·alpha)·(1 − alpha).
abbrev pub sampled : Statistics → Float → Statistics
sampled s x =
    let delta = x -f s.mean in
    cond s.initialized
    (record {
      initialized = true;
      alpha = s.alpha;
      mean = s.mean +f delta *f s.alpha;
      variance = (s.variance +f delta *f delta *f s.alpha) *f (F.one -f s.alpha);
    })
    (record { initialized = true; alpha = s.alpha; mean = x; variance = F.zero })

abbrev pub call_new_statistics : Float → Answer Statistics
call_new_statistics alpha = cond (bad_alpha alpha) (refused Refusal.Alpha zero_statistics) (Ok (new_statistics alpha))

abbrev pub call_add_sample : Statistics → Float → Answer Statistics
call_add_sample s x = cond (bad_alpha s.alpha) (refused Refusal.Alpha s) (Ok (sampled s x))

abbrev pub call_mean_var : Statistics → Answer MeanVar
call_mean_var s = cond (bad_alpha s.alpha)
    (refused Refusal.Alpha (record { mean = F.zero; variance = F.zero }))
    (Ok (record { mean = s.mean; variance = s.variance }))

abbrev pub call_std_dev : Statistics → Answer Float
call_std_dev s = cond (bad_alpha s.alpha) (refused Refusal.Alpha F.zero) (Ok (root s.variance))
