-- WHAT LANES DO TO EACH OTHER, whatever a lane is. A machine of many lanes is called lane by lane. Where a call changes the lane that it
-- names alone, and that lane answers it as it would by itself, the same holds of every run. Assumes nothing.
use Rattle.std.specs.Prelude.{◌≡◌, Bool, ℕ}
use Rattle.std.proofs.Math.Path.{refl, ap}
use Rattle.std.proofs.Common.{sym, ◌∙◌}
use Rattle.std.proofs.Math.Bool.{true, false}
use mathlib.Core.List.{List, [], ◌∷◌}
use borrow.Author.Tests.{eqb-true, eqb-false}
use Rattle.std.proofs.Math.Dec.{eqb}
use Rattle.lanes.specs.Runs.{Machine, answers, left}

-- a call, or an answer, and the lane that the call names
pub record For (A : Type 0) : Type 0 where
  pub lane : ℕ
  pub thing : A

abbrev pub for : {A : Type 0} → ℕ → A → For A
for i x = record { lane = i; thing = x }

abbrev pub pick : {A : Type 0} → Bool → A → List A → List A
pick true x xs = x ∷ xs
pick false x xs = xs

-- of calls or answers those that name lane L, in their order
unfoldable pub of_lane : {A : Type 0} → ℕ → List (For A) → List A
of_lane L [] = []
of_lane L (x ∷ xs) = pick (eqb L x.lane) x.thing (of_lane L xs)

-- many lanes, of which `at` is lane L: what holds of each call on a state that is sound
pub record Apart {B S Q A : Type 0} (many : Machine B (For Q) (For A)) (one : Machine S Q A) (Sound : B → Type 0) (L : ℕ) (at : B → S) : Type 0 where
  pub sound : (b : B) (q : For Q) → Sound b → Sound (many.next b q)
  pub named : (b : B) (q : For Q) → (many.answer b q).lane ≡ q.lane
  pub answer : (b : B) (q : For Q) → Sound b → L ≡ q.lane → (many.answer b q).thing ≡ one.answer (at b) q.thing
  pub next : (b : B) (q : For Q) → Sound b → L ≡ q.lane → at (many.next b q) ≡ one.next (at b) q.thing
  pub others : (b : B) (q : For Q) → Sound b → (L ≡ q.lane → ⊥) → at (many.next b q) ≡ at b

-- then, whatever else is called, lane L answers as it would by itself, and is left so
pub record Own {B S Q A : Type 0} (many : Machine B (For Q) (For A)) (one : Machine S Q A) (L : ℕ) (at : B → S) (b : B) (calls : List (For Q)) : Type 0 where
  pub answered : of_lane L (answers many b calls) ≡ answers one (at b) (of_lane L calls)
  pub stands : at (left many b calls) ≡ left one (at b) (of_lane L calls)

module _ {B S Q A : Type 0} (many : Machine B (For Q) (For A)) (one : Machine S Q A) (Sound : B → Type 0) (L : ℕ) (at : B → S) (apart : Apart many one Sound L at) where
  pub own : (calls : List (For Q)) (b : B) → Sound b → Own many one L at b calls
  unfolding answers left of_lane
  own [] b s = record { answered = refl; stands = refl }
  own (q ∷ qs) b s = go (own qs (many.next b q) (apart.sound b q s)) (eqb L q.lane) refl
    where
      go : Own many one L at (many.next b q) qs → (t : Bool) → eqb L q.lane ≡ t → Own many one L at b (q ∷ qs)
      go rest false e =
          let same = apart.others b q s (eqb-false L q.lane e) in
          record {
            answered = simp (apart.named b q, e) (rest.answered ∙ ap (λ (x : S). answers one x (of_lane L qs)) same);
            stands = simp e (rest.stands ∙ ap (λ (x : S). left one x (of_lane L qs)) same);
          }
      go rest true e =
          let is : L ≡ q.lane = eqb-true L q.lane e in
          let next = apart.next b q s is in
          record {
            answered = simp (apart.named b q, e, apart.answer b q s is) (ap (◌∷◌ (one.answer (at b) q.thing)) (rest.answered ∙ ap (λ (x : S). answers one x (of_lane L qs)) next));
            stands = simp e (rest.stands ∙ ap (λ (x : S). left one x (of_lane L qs)) next);
          }

  -- so two runs with the same calls for the lane have the same answers from it
  pub same_own : (calls other : List (For Q)) (b : B) → Sound b → of_lane L calls ≡ of_lane L other → of_lane L (answers many b calls) ≡ of_lane L (answers many b other)
  same_own calls other b s e = (own calls b s).answered ∙ ap (answers one (at b)) e ∙ sym (own other b s).answered
