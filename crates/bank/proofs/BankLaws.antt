-- Laws of a call on the bank, for every bank of eight lanes, one built by hand too. Assumes nothing.
use Rattle.std.specs.Prelude.{◌≡◌, Bool, Some, None, ℕ, ◌≤◌, ◌<◌, Float}
use Rattle.std.proofs.Math.Path.{refl, ap, subst}
use Rattle.std.proofs.Common.{◌∙◌, arith, lt-ltb, le-ltb, eqb-true, length-set, get_or-set_same, get_or-set_other}
use Rattle.std.proofs.Math.Bool.{true, false, cond}
use mathlib.Core.List.{List}
use Rattle.std.proofs.Math.Logic.{⊎_elim}
use Rattle.std.proofs.lemmas.Bool.{eqb-false}
use Rattle.std.proofs.Math.Dec.{ltb, eqb}
use Rattle.std.proofs.lemmas.List.{get_or-replicate, set-get_or}
use Rattle.lemmas.specs.Cases.{lt_or_le}
use Rattle.refusal.specs.declared.Refusal.{Refusal}
use Rattle.refusal.specs.Answers.{refusal_of}
use Rattle.rate_pid.specs.RatePidLaws.{Frozen, Stood}
use Rattle.bank.specs.declared.lane.Lane.{Lane}
use Rattle.bank.specs.declared.lane.Op.{Op}
use Rattle.bank.specs.declared.lane.Op.TheVariants.{Update}
use Rattle.bank.specs.declared.Bank.{Bank}
use Rattle.bank.specs.Lane.{closed_lane, plain, call_lane}
use Rattle.bank.specs.LaneLaws.{needs_open_refusal, lane_refusal, lane_refusal_is, update_refusal-kept, lane_leaves, lane_frozen}
use Rattle.bank.specs.BankLaws.{bank_refusal, update_refusal}
use Rattle.bank.specs.Bank.{fresh_bank, Eight, lane_at, banked, placed, call_bank}

pub fresh_eight : Eight fresh_bank
unfolding fresh_bank
fresh_eight = refl

pub fresh_closed : (i : ℕ) → i ≤ 7 → lane_at fresh_bank i ≡ closed_lane
unfolding fresh_bank
fresh_closed i h = get_or-replicate 8 i closed_lane closed_lane (omega arith)

module _ (b : Bank) (i : ℕ) (op : Op) where
  -- ---- one call: 8 above lane 7; else the lane's own step at that lane, and nothing else changes

  pub call-above : 7 < i → call_bank b i op ≡ banked (plain (Some Refusal.Lane)) b
  unfolding call_bank
  call-above h = simp (lt-ltb 7 i h)

  pub call-within : i ≤ 7 → call_bank b i op ≡ placed b i (call_lane (lane_at b i) op)
  unfolding call_bank
  call-within h = simp (le-ltb 7 i h)

  pub step_eight : Eight b → Eight (call_bank b i op).state
  unfolding call_bank
  step_eight n = go (ltb 7 i) refl
    where
      go : (t : Bool) → ltb 7 i ≡ t → Eight (call_bank b i op).state
      go true e = simp e n
      go false e = simp (e, length-set) n

  pub named : i ≤ 7 → Eight b → ((call_bank b i op).answer ≡ (call_lane (lane_at b i) op).answer) × (lane_at (call_bank b i op).state i ≡ (call_lane (lane_at b i) op).state)
  named h n = (simp (call-within h), simp (call-within h) (get_or-set_same b.lanes i _ _ (omega (arith, n))))

  pub others : (k : ℕ) → (k ≡ i → ⊥) → lane_at (call_bank b i op).state k ≡ lane_at b k
  unfolding call_bank
  others k h = go (ltb 7 i) refl
    where
      go : (t : Bool) → ltb 7 i ≡ t → lane_at (call_bank b i op).state k ≡ lane_at b k
      go true e = simp e
      go false e = simp e (get_or-set_other b.lanes i k _ _ h)

  -- ---- which refusal it meets

  pub refusal_is : refusal_of (call_bank b i op).answer ≡ bank_refusal b i op
  unfolding call_bank bank_refusal
  refusal_is = go (ltb 7 i)
    where
      go : (t : Bool) → refusal_of (cond t (banked (plain (Some Refusal.Lane)) b) (placed b i (call_lane (lane_at b i) op))).answer ≡ cond t (Some Refusal.Lane) (lane_refusal (lane_at b i) op)
      go true = refl
      go false = lane_refusal_is (lane_at b i) op

  -- ---- a refused call leaves the bank, and its numbers are +0

  pub refused-leaves : (refusal_of (call_bank b i op).answer ≡ None → ⊥) → ((call_bank b i op).state ≡ b) × ((call_bank b i op).answer ≡ plain (refusal_of (call_bank b i op).answer))
  unfolding call_bank
  refused-leaves = go (ltb 7 i) refl
    where
      go : (t : Bool) → ltb 7 i ≡ t → (refusal_of (call_bank b i op).answer ≡ None → ⊥) → ((call_bank b i op).state ≡ b) × ((call_bank b i op).answer ≡ plain (refusal_of (call_bank b i op).answer))
      go true e k = (simp e, simp e)
      go false e k =
          let left = lane_leaves (lane_at b i) op in
          let k' : refusal_of (call_lane (lane_at b i) op).answer ≡ None → ⊥ = λ h. k (simp e h) in
          (simp (e, left.lane k') (ap (λ (l : List Lane). record { lanes = l }) (set-get_or b.lanes i closed_lane)), simp e (left.answer k'))

-- ---- what an update of a lane is refused with, whatever it is given

module _ (b : Bank) (i : ℕ) (r m p : Float) where
  pub update_refused_with : refusal_of (call_bank b i (Update r m p)).answer ≡ update_refusal b i
  unfolding update_refusal bank_refusal lane_refusal
  update_refused_with = refusal_is b i (Update r m p)

  -- it is the same after the update, of this lane and of every other
  pub update_refusals_kept : (k : ℕ) → Eight b → update_refusal (call_bank b i (Update r m p)).state k ≡ update_refusal b k
  unfolding update_refusal
  update_refusals_kept k n =
      ⊎_elim
      (λ (h : 7 < k). simp (lt-ltb 7 k h))
      (λ (h : k ≤ 7). simp (le-ltb 7 k h) (go h (eqb k i) refl))
      (lt_or_le 7 k)
    where
      go : k ≤ 7 → (t : Bool) → eqb k i ≡ t → needs_open_refusal (lane_at (call_bank b i (Update r m p)).state k) ≡ needs_open_refusal (lane_at b k)
      go h false e = ap needs_open_refusal (others b i (Update r m p) k (eqb-false k i e))
      go h true e =
          subst (λ (j : ℕ). needs_open_refusal (lane_at (call_bank b j (Update r m p)).state k) ≡ needs_open_refusal (lane_at b k)) (eqb-true k i e)
          (ap needs_open_refusal (named b k (Update r m p) h n).1 ∙ update_refusal-kept (lane_at b k) r m p)

-- ---- a frozen update leaves the lane's integral and damping filter

pub frozen : (b : Bank) (i : ℕ) (r m p : Float) → i ≤ 7 → Eight b → Frozen (lane_at b i).pid r m → Stood (lane_at b i).pid (lane_at (call_bank b i (Update r m p)).state i).pid
frozen b i r m p h n f = simp (named b i (Update r m p) h n).1 (lane_frozen (lane_at b i) r m p f)
