-- The run theorem: no lane sees another. And the integral's bound after every run. Assumes nothing.
use Rattle.std.specs.Prelude.{◌≡◌, refl, List, ℕ, ◌≤◌}
use Rattle.std.proofs.Common.{sym, ◌∙◌, ap, subst}
use Rattle.lanes.specs.Runs.{Follows, Followed, follow, left-keeps}
use Rattle.lanes.specs.Lanes.{For, of_lane, Apart, Own, own, same_own}
use Rattle.float.specs.F32 as F
use Rattle.float.specs.FloatLaws.{Within}
use Rattle.bank.specs.declared.lane.Lane.{Lane}
use Rattle.bank.specs.declared.lane.Op.{Op}
use Rattle.bank.specs.declared.Bank.{Bank}
use Rattle.bank.specs.Lane.{call_lane}
use Rattle.bank.specs.LaneLaws.{BoundedLane, closed_bounded, lane_bounded}
use Rattle.bank.specs.Single.{Single, none, single_machine, single_run, single_after}
use Rattle.bank.specs.SingleLaws.{lane_of, Good, step_same}
use Rattle.bank.specs.Bank.{fresh_bank, Eight, lane_at, call_bank}
use Rattle.bank.proofs.BankLaws.{fresh_eight, fresh_closed, step_eight, named, others}
use Rattle.bank.specs.BankRuns.{bank_machine, run, after, lane_machine, lane_run, lane_after}
use Rattle.bank.specs.RunLaws.{Lies}

-- a run leaves eight lanes
pub after_eight : (calls : List (For Op)) (b : Bank) → Eight b → Eight (after b calls)
after_eight = left-keeps bank_machine Eight (λ b q n. step_eight b q.lane q.thing n)

-- a lane in which a single controller lies goes as that controller does
single_follows : Follows lane_machine single_machine lane_of Good
single_follows =
    record {
      answer = λ c op g. ap (λ (s : _). s.answer) (step_same c op g).same;
      next = λ c op g. ap (λ (s : _). s.state) (step_same c op g).same;
      good = λ c op g. (step_same c op g).good;
    }

pub single_run_lem : (ops : List Op) (c : Single) → Good c → Followed lane_machine single_machine lane_of Good ops c
single_run_lem = follow lane_machine single_machine lane_of Good single_follows

module _ (L : ℕ) (low : L ≤ 7) where
  -- the bank's lanes do not see each other
  pub bank_apart : Apart bank_machine lane_machine Eight L (λ b. lane_at b L)
  bank_apart =
      record {
        sound = λ b q n. step_eight b q.lane q.thing n;
        named = λ b q. refl;
        answer = λ b q n e. subst (λ (i : ℕ). (call_bank b i q.thing).answer ≡ (call_lane (lane_at b L) q.thing).answer) e (named b L q.thing low n).0;
        next = λ b q n e. subst (λ (i : ℕ). lane_at (call_bank b i q.thing).state L ≡ (call_lane (lane_at b L) q.thing).state) e (named b L q.thing low n).1;
        others = λ b q n e. others b q.lane q.thing L e;
      }

  -- so whatever else is called on a bank of eight lanes, a lane answers as it would by itself, and is left so
  pub lane_run_lem : (calls : List (For Op)) (b : Bank) → Eight b → Own bank_machine lane_machine L (λ b. lane_at b L) b calls
  lane_run_lem = own bank_machine lane_machine Eight L (λ b. lane_at b L) bank_apart

  -- a lane in which a single controller lies answers as it does, whatever else is called
  pub lies_run : (calls : List (For Op)) (b : Bank) (c : Single) → Lies L b c → of_lane L (run b calls) ≡ single_run c (of_lane L calls)
  lies_run calls b c l = (lane_run_lem calls b l.eight).answered ∙ ap (λ (x : Lane). lane_run x (of_lane L calls)) l.here ∙ (single_run_lem (of_lane L calls) c l.good).answered

  -- and after the run that controller lies there, having had the lane's calls
  pub lies_after : (calls : List (For Op)) (b : Bank) (c : Single) → Lies L b c → Lies L (after b calls) (single_after c (of_lane L calls))
  lies_after calls b c l =
      let ends = single_run_lem (of_lane L calls) c l.good in
      record {
        eight = after_eight calls b l.eight;
        here = (lane_run_lem calls b l.eight).stands ∙ ap (λ (x : Lane). lane_after x (of_lane L calls)) l.here ∙ ends.stands;
        good = ends.good;
      }

  pub fresh_lies : Lies L fresh_bank none
  fresh_lies = record { eight = fresh_eight; here = fresh_closed L low; good = tt }

  -- THE RUN THEOREM: what a lane answers in a run of a fresh bank is what one controller answers to that lane's calls alone
  pub run_theorem : (calls : List (For Op)) → of_lane L (run fresh_bank calls) ≡ single_run none (of_lane L calls)
  run_theorem calls = lies_run calls fresh_bank none fresh_lies

  -- and what lies in the lane is that controller
  pub run-leaves : (calls : List (For Op)) → lane_at (after fresh_bank calls) L ≡ lane_of (single_after none (of_lane L calls))
  run-leaves calls = (lies_after calls fresh_bank none fresh_lies).here

  -- two runs with the same calls for the lane have the same answers from it, whatever else stands between
  pub same-answers : (calls other : List (For Op)) → of_lane L calls ≡ of_lane L other → of_lane L (run fresh_bank calls) ≡ of_lane L (run fresh_bank other)
  same-answers calls other e = same_own bank_machine lane_machine Eight L (λ b. lane_at b L) bank_apart calls other fresh_bank fresh_eight e

-- ---- the integral

-- after every run of a fresh bank each lane's integral is NaN or from −1 to 1; a closed lane's is +0
pub integral_bounded : (calls : List (For Op)) (L : ℕ) → L ≤ 7 → Within F.minus_one F.one (lane_at (after fresh_bank calls) L).pid.integral
integral_bounded calls L h =
    let fresh : BoundedLane (lane_at fresh_bank L) = subst BoundedLane (sym (fresh_closed L h)) closed_bounded in
    subst BoundedLane (sym (lane_run_lem L h calls fresh_bank fresh_eight).stands) (left-keeps lane_machine BoundedLane lane_bounded (of_lane L calls) (lane_at fresh_bank L) fresh)
