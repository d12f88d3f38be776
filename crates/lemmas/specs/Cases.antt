-- The cases that laws and proofs go by: of a test, by which a definition picks between two answers, and of two whole numbers. Assumes nothing.
use Rattle.std.specs.Prelude.{◌≡◌, refl, Bool, true, false, cond, not, ◌&&◌, ◌||◌, ◌⊎◌, ℕ, ◌<◌, ◌≤◌, ltb}
use Rattle.std.proofs.Common.{sym, true≢false, inl, inr, ltb-true, ltb-false}

-- ---- what a test picks

pub when_true : {A : Type 0} (t : Bool) (a b : A) → t ≡ true → a ≡ cond t a b
when_true t a b h = simp h

pub when_false : {A : Type 0} (t : Bool) (a b : A) → t ≡ false → b ≡ cond t a b
when_false t a b h = simp h

-- what holds of both holds of the one that is picked
pub of_both : {A : Type 0} (P : A → Type 0) (t : Bool) (a b : A) → P a → P b → P (cond t a b)
of_both P true a b h g = h
of_both P false a b h g = g

-- the same, where each may go by what the test says
pub of_both_cases : {A : Type 0} (P : A → Type 0) (t : Bool) (a b : A) → (t ≡ true → P a) → (t ≡ false → P b) → P (cond t a b)
of_both_cases P true a b h g = h refl
of_both_cases P false a b h g = g refl

-- what is read of the one that is picked is picked of what is read of both
pub read_picked : {A B : Type 0} (f : A → B) (t : Bool) (a b : A) → f (cond t a b) ≡ cond t (f a) (f b)
read_picked f true a b = refl
read_picked f false a b = refl

-- ---- two tests together

pub and_left : (p q : Bool) → p && q ≡ true → p ≡ true
and_left true q h = refl
and_left false q h = h

pub and_right : (p q : Bool) → p && q ≡ true → q ≡ true
and_right true q h = h
and_right false q h = absurd (true≢false (sym h))

pub neither : (p q : Bool) → p || q ≡ false → (p ≡ false) × (q ≡ false)
neither true q h = absurd (true≢false h)
neither false q h = (refl, h)

-- a state is bad where not all of its tests hold: the first of two that fails, and the second where the first holds
pub first_fails : (p q : Bool) → p ≡ false → true ≡ not (p && q)
first_fails p q h = simp h

pub first_holds : (p q : Bool) → p ≡ true → not q ≡ not (p && q)
first_holds p q h = simp h

-- ---- two whole numbers

pub lt_or_le : (a b : ℕ) → (a < b) ⊎ (b ≤ a)
lt_or_le a b = go (ltb a b) refl
  where
    go : (t : Bool) → ltb a b ≡ t → (a < b) ⊎ (b ≤ a)
    go true e = inl (ltb-true a b e)
    go false e = inr (ltb-false a b e)

-- two choices with the same second way, and first ways that are the same where they are taken
pub same_when_true : {A : Type 0} (b : Bool) (x y z : A) → (b ≡ true → x ≡ y) → cond b x z ≡ cond b y z
same_when_true true x y z e = e refl
same_when_true false x y z e = refl
