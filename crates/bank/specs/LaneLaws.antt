-- Laws of a lane's step, for every lane and every call: the refusal that it gives, what a refused call leaves, the
-- integral's bound, and the frozen update. Assumes nothing.
use Rattle.std.specs.Prelude.{◌≡◌, Bool, cond, Option, Some, None, Float}
use Rattle.std.proofs.Math.Path.{refl}
use Rattle.std.proofs.Common.{sym, ap, ◌∙◌}
use Rattle.std.proofs.Math.Bool.{true, false}
use Rattle.lemmas.specs.Cases.{read_picked}
use Rattle.refusal.specs.declared.Refusal.{Refusal}
use Rattle.refusal.specs.Answers.{Answer, refusal_of}
use Rattle.refusal.specs.AnswerLaws.{answer_refusal}
use Rattle.filters.specs.SlewRate.{bad_limit}
use Rattle.rate_pid.specs.declared.PidTerms.{PidTerms}
use Rattle.rate_pid.specs.declared.RatePid.{RatePid}
use Rattle.rate_pid.specs.declared.Updated.{Updated}
use Rattle.rate_pid.specs.RatePid.{new_rate_pid, bad_rate_pid, changed_rate_pid, guarded, call_slew_rate_pid, call_update_rate_pid, call_set_ts_rate_pid, call_set_gains_rate_pid, call_enable_integral_rate_pid, call_reset_integral_rate_pid, call_get_terms_rate_pid}
use Rattle.rate_pid.specs.RatePidLaws.{update_refused, update_accepted, bad_after_step, new_not_bad, slew_accepted, Bounded, Frozen, Stood, update_frozen, zero-bounded, new_bounded, slew_bounded, update_bounded, set_ts_bounded, set_gains_bounded, enable_integral_bounded, reset_integral_bounded}
use Rattle.bank.specs.declared.lane.Lane.{Lane}
use Rattle.bank.specs.declared.lane.Op.{Op}
use Rattle.bank.specs.declared.lane.Op.TheVariants.{Open, Close, Update, SetTs, SetGains, EnableIntegral, ResetIntegral, ReadTerms}
use Rattle.bank.specs.declared.lane.Called.{Called}
use Rattle.bank.specs.Lane.{closed_lane, open_lane, plain, plain_step, after_setter, after_update, after_read, open_with, when_open, when_good, opened, call_lane}

-- what holds at both ends of a test holds of what it picks
when_open_has : (P : Called Lane → Type 0) (l : Lane) (next : Called Lane) → (l.«open» ≡ true → P next) → P (plain_step (Some Refusal.Closed) l) → P (when_open l next)
unfolding when_open
when_open_has P l next h g = go l.«open» refl
  where
    go : (t : Bool) → l.«open» ≡ t → P (cond t next (plain_step (Some Refusal.Closed) l))
    go true e = h e
    go false e = g

when_good_has : (P : Called Lane → Type 0) (l : Lane) (next : Called Lane) → P next → P (plain_step (Some Refusal.Slew) l) → P (when_good l next)
unfolding when_good
when_good_has P l next h g = go (bad_rate_pid l.pid)
  where
    go : (t : Bool) → P (cond t (plain_step (Some Refusal.Slew) l) next)
    go true = g
    go false = h

opened_has : (P : Called Lane → Type 0) (l : Lane) (s : RatePid) (slew : Option Float)
    → P (open_with s) → ((limit : Float) → bad_limit limit ≡ false → P (after_setter (call_slew_rate_pid s limit))) → P (plain_step (Some Refusal.Slew) l) → P (opened l s slew)
unfolding opened
opened_has P l s None h f g = h
opened_has P l s (Some limit) h f g = go (bad_limit limit) refl
  where
    go : (t : Bool) → bad_limit limit ≡ t → P (cond t (plain_step (Some Refusal.Slew) l) (after_setter (call_slew_rate_pid s limit)))
    go true e = g
    go false e = f limit e

open_has : (P : Called Lane → Type 0) (l : Lane) (next : Called Lane) → P next → P (plain_step (Some Refusal.Open) l) → P (plain_step (Some Refusal.Slew) l) → P (cond l.«open» (plain_step (Some Refusal.Open) l) (when_good l next))
open_has P l next h f g = go l.«open»
  where
    go : (t : Bool) → P (cond t (plain_step (Some Refusal.Open) l) (when_good l next))
    go true = f
    go false = when_good_has P l next h g

-- ---- which refusal a call meets: 9 or 10, then 3 for the stored limit, then 3 for the given one

abbrev pub limit_refusal : Option Float → Option Refusal
limit_refusal None = None
limit_refusal (Some limit) = cond (bad_limit limit) (Some Refusal.Slew) None

-- 3 for the stored limit, or what the call itself meets
abbrev pub stored_refusal : Lane → Option Refusal → Option Refusal
stored_refusal l own = cond (bad_rate_pid l.pid) (Some Refusal.Slew) own

-- any other call than `open`
abbrev pub needs_open_refusal : Lane → Option Refusal
needs_open_refusal l = cond l.«open» (stored_refusal l None) (Some Refusal.Closed)

unfoldable pub lane_refusal : Lane → Op → Option Refusal
lane_refusal l (Open kp ki kd tau dt slew) = cond l.«open» (Some Refusal.Open) (stored_refusal l (limit_refusal slew))
lane_refusal l Close = needs_open_refusal l
lane_refusal l (Update r m p) = needs_open_refusal l
lane_refusal l (SetTs ts) = needs_open_refusal l
lane_refusal l (SetGains kp ki kd) = needs_open_refusal l
lane_refusal l (EnableIntegral on) = needs_open_refusal l
lane_refusal l ResetIntegral = needs_open_refusal l
lane_refusal l ReadTerms = needs_open_refusal l

opened_refusal : (l : Lane) (s : RatePid) (slew : Option Float) → bad_rate_pid s ≡ false → refusal_of (opened l s slew).answer ≡ limit_refusal slew
unfolding opened
opened_refusal l s None g = refl
opened_refusal l s (Some limit) g = go (bad_limit limit) refl
  where
    go : (t : Bool) → bad_limit limit ≡ t → refusal_of (opened l s (Some limit)).answer ≡ limit_refusal (Some limit)
    go true e = simp e
    go false e = simp (e, slew_accepted s g limit e)

abbrev why : Called Lane → Option Refusal
why s = refusal_of s.answer

abbrev why_changed : Answer RatePid → Option Refusal
why_changed c = refusal_of c

pub lane_refusal_is : (l : Lane) (op : Op) → refusal_of (call_lane l op).answer ≡ lane_refusal l op
unfolding call_lane lane_refusal when_open when_good call_set_ts_rate_pid call_set_gains_rate_pid call_enable_integral_rate_pid call_reset_integral_rate_pid call_update_rate_pid call_get_terms_rate_pid guarded
lane_refusal_is l (Open kp ki kd tau dt slew) = simp (read_picked why, opened_refusal l (new_rate_pid kp ki kd tau dt) slew (new_not_bad kp ki kd tau dt))
lane_refusal_is l Close = simp (read_picked why, answer_refusal)
lane_refusal_is l (Update r m p) = simp (read_picked why, read_picked (λ (u : Updated). refusal_of u.answer), answer_refusal)
lane_refusal_is l (SetTs ts) = simp (read_picked why, read_picked why_changed, answer_refusal)
lane_refusal_is l (SetGains kp ki kd) = simp (read_picked why, read_picked why_changed, answer_refusal)
lane_refusal_is l (EnableIntegral on) = simp (read_picked why, read_picked why_changed, answer_refusal)
lane_refusal_is l ResetIntegral = simp (read_picked why, read_picked why_changed, answer_refusal)
lane_refusal_is l ReadTerms = simp (read_picked why, read_picked (λ (t : Answer PidTerms). refusal_of t), answer_refusal)

-- an update leaves what the next one meets
pub update_refusal-kept : (l : Lane) (r m p : Float) → needs_open_refusal (call_lane l (Update r m p)).state ≡ needs_open_refusal l
unfolding call_lane when_open
update_refusal-kept l r m p = go l.«open» (bad_rate_pid l.pid) refl refl
  where
    go : (o b : Bool) → l.«open» ≡ o → bad_rate_pid l.pid ≡ b → needs_open_refusal (call_lane l (Update r m p)).state ≡ needs_open_refusal l
    go false b eo eb = simp eo
    go true true eo eb = simp (eo, update_refused l.pid eb)
    go true false eo eb = simp (eo, update_accepted l.pid eb, bad_after_step l.pid)

-- ---- a refused call leaves the lane, and its numbers are +0

-- nothing is refused; or the lane is as it was, and the answer has no numbers
pub record Leaves (l : Lane) (next : Called Lane) : Type 0 where
  pub lane : (refusal_of next.answer ≡ None → ⊥) → next.state ≡ l
  pub answer : (refusal_of next.answer ≡ None → ⊥) → next.answer ≡ plain (refusal_of next.answer)

plain-leaves : (l : Lane) (why : Refusal) → Leaves l (plain_step (Some why) l)
plain-leaves l why = record { lane = λ k. refl; answer = λ k. refl }

-- where nothing is refused, nothing is asked
passed : (l : Lane) (next : Called Lane) → refusal_of next.answer ≡ None → Leaves l next
passed l next e = record { lane = λ k. absurd (k e); answer = λ k. absurd (k e) }

module _ (l : Lane) (o : l.«open» ≡ true) where
  -- an open lane is that of its controller
  is_open : open_lane l.pid ≡ l
  is_open = ap (λ (t : Bool). record { «open» = t; pid = l.pid }) (sym o)

  -- a setter of the controller, which its stored limit alone refuses
  guarded-leaves : (s : RatePid) → Leaves l (after_setter (guarded l.pid (changed_rate_pid None s)))
  unfolding guarded
  guarded-leaves s = go (bad_rate_pid l.pid)
    where
      go : (t : Bool) → Leaves l (after_setter (cond t (changed_rate_pid (Some Refusal.Slew) l.pid) (changed_rate_pid None s)))
      go true = record { lane = λ k. is_open; answer = λ k. refl }
      go false = passed l _ refl

  update_leaves : (r m p : Float) → Leaves l (after_update (call_update_rate_pid l.pid r m p))
  unfolding call_update_rate_pid
  update_leaves r m p = go (bad_rate_pid l.pid) refl
    where
      go : (t : Bool) → bad_rate_pid l.pid ≡ t → Leaves l (after_update (call_update_rate_pid l.pid r m p))
      go true e = record { lane = λ k. simp e is_open; answer = λ k. simp e }
      go false e = passed l _ (simp e)

terms_leave : (l : Lane) → Leaves l (after_read l (call_get_terms_rate_pid l.pid))
unfolding call_get_terms_rate_pid
terms_leave l = go (bad_rate_pid l.pid) refl
  where
    go : (t : Bool) → bad_rate_pid l.pid ≡ t → Leaves l (after_read l (call_get_terms_rate_pid l.pid))
    go true e = record { lane = λ k. refl; answer = λ k. simp e }
    go false e = passed l _ (simp e)

pub lane_leaves : (l : Lane) (op : Op) → Leaves l (call_lane l op)
unfolding call_lane call_set_ts_rate_pid call_set_gains_rate_pid call_enable_integral_rate_pid call_reset_integral_rate_pid
lane_leaves l (Open kp ki kd tau dt slew) =
    open_has (Leaves l) l _
    (opened_has (Leaves l) l (new_rate_pid kp ki kd tau dt) slew (passed l _ refl)
    (λ limit g. passed l _ (answer_refusal _ _ ∙ ap why_changed (slew_accepted _ (new_not_bad kp ki kd tau dt) limit g)))
    (plain-leaves l _))
    (plain-leaves l _) (plain-leaves l _)
lane_leaves l Close = when_open_has (Leaves l) l _ (λ o. when_good_has (Leaves l) l _ (passed l _ refl) (plain-leaves l _)) (plain-leaves l _)
lane_leaves l (Update r m p) = when_open_has (Leaves l) l _ (λ o. update_leaves l o r m p) (plain-leaves l _)
lane_leaves l (SetTs ts) = when_open_has (Leaves l) l _ (λ o. guarded-leaves l o _) (plain-leaves l _)
lane_leaves l (SetGains kp ki kd) = when_open_has (Leaves l) l _ (λ o. guarded-leaves l o _) (plain-leaves l _)
lane_leaves l (EnableIntegral on) = when_open_has (Leaves l) l _ (λ o. guarded-leaves l o _) (plain-leaves l _)
lane_leaves l ResetIntegral = when_open_has (Leaves l) l _ (λ o. guarded-leaves l o _) (plain-leaves l _)
lane_leaves l ReadTerms = when_open_has (Leaves l) l _ (λ o. terms_leave l) (plain-leaves l _)

-- ---- the integral is NaN or from −1 to 1 in a closed lane, and every call keeps it so

abbrev pub BoundedLane : Lane → Type 0
BoundedLane l = Bounded l.pid

abbrev Keeps : Called Lane → Type 0
Keeps next = BoundedLane next.state

pub closed_bounded : BoundedLane closed_lane
unfolding closed_lane
closed_bounded = zero-bounded

pub lane_bounded : (l : Lane) (op : Op) → BoundedLane l → BoundedLane (call_lane l op).state
unfolding call_lane
lane_bounded l (Open kp ki kd tau dt slew) b =
    let made = new_bounded kp ki kd tau dt in
    open_has Keeps l _ (opened_has Keeps l _ slew made (λ limit g. slew_bounded _ made limit) b) b b
lane_bounded l Close b = when_open_has Keeps l _ (λ o. when_good_has Keeps l _ closed_bounded b) b
lane_bounded l (Update r m p) b = when_open_has Keeps l _ (λ o. update_bounded _ r m p b) b
lane_bounded l (SetTs ts) b = when_open_has Keeps l _ (λ o. set_ts_bounded _ b ts) b
lane_bounded l (SetGains kp ki kd) b = when_open_has Keeps l _ (λ o. set_gains_bounded _ b kp ki kd) b
lane_bounded l (EnableIntegral on) b = when_open_has Keeps l _ (λ o. enable_integral_bounded _ b on) b
lane_bounded l ResetIntegral b = when_open_has Keeps l _ (λ o. reset_integral_bounded _ b) b
lane_bounded l ReadTerms b = when_open_has Keeps l _ (λ o. b) b

-- ---- a frozen update leaves the integral and the damping filter

pub lane_frozen : (l : Lane) (r m p : Float) → Frozen l.pid r m → Stood l.pid (call_lane l (Update r m p)).state.pid
unfolding call_lane
lane_frozen l r m p h = when_open_has (λ (next : Called Lane). Stood l.pid next.state.pid) l _ (λ o. update_frozen l.pid r m p h) (refl, refl)
