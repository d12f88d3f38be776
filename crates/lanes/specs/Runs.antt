-- A run: calls one after the other on whatever answers a call and is left as something. Assumes nothing.
use Rattle.std.specs.Prelude.{◌≡◌, Bool, cond, length}
use Rattle.std.proofs.Math.Path.{refl, ap}
use Rattle.std.proofs.Common.{◌∙◌}
use Prim.Native.Nat.{suc}
use mathlib.Core.List.{List, [], ◌∷◌, ◌++◌, flatten}

-- what a call is answered with, and what it leaves
pub record Machine (S Q A : Type 0) : Type 0 where
  pub answer : S → Q → A
  pub next : S → Q → S

-- the answers to a list of calls
unfoldable pub answers : {S Q A : Type 0} → Machine S Q A → S → List Q → List A
answers m s [] = []
answers m s (q ∷ qs) = m.answer s q ∷ answers m (m.next s q) qs

-- what they leave
unfoldable pub left : {S Q A : Type 0} → Machine S Q A → S → List Q → S
left m s [] = s
left m s (q ∷ qs) = left m (m.next s q) qs

-- the calls up to the first one whose answer is not accepted, which is left out
unfoldable pub accepted : {S Q A : Type 0} → Machine S Q A → (A → Bool) → S → List Q → List Q
accepted m ok s [] = []
accepted m ok s (q ∷ qs) = cond (ok (m.answer s q)) (q ∷ accepted m ok (m.next s q) qs) []

-- ---- one run after another

module _ {S Q A : Type 0} (m : Machine S Q A) where
  pub answers_append : (x y : List Q) (s : S) → answers m s (x ++ y) ≡ answers m s x ++ answers m (left m s x) y
  unfolding answers left
  answers_append [] y s = refl
  answers_append (q ∷ x) y s = ap (◌∷◌ (m.answer s q)) (answers_append x y (m.next s q))

  pub left_append : (x y : List Q) (s : S) → left m s (x ++ y) ≡ left m (left m s x) y
  unfolding left
  left_append [] y s = refl
  left_append (q ∷ x) y s = left_append x y (m.next s q)

  -- an answer for each call
  pub answers_length : (qs : List Q) (s : S) → length (answers m s qs) ≡ length qs
  unfolding answers
  answers_length [] s = refl
  answers_length (q ∷ qs) s = ap suc (answers_length qs (m.next s q))

  -- what every call keeps, a run keeps
  pub left-keeps : (P : S → Type 0) → ((s : S) (q : Q) → P s → P (m.next s q)) → (qs : List Q) (s : S) → P s → P (left m s qs)
  unfolding left
  left-keeps P keeps [] s h = h
  left-keeps P keeps (q ∷ qs) s h = left-keeps P keeps qs (m.next s q) (keeps s q h)

  -- one call more
  pub left_more : (x : List Q) (q : Q) (s : S) → left m s (x ++ (q ∷ [])) ≡ m.next (left m s x) q
  unfolding left
  left_more x q s = left_append x (q ∷ []) s

-- ---- a run in parts

-- a part of a run as one call: its answers, and what they leave
abbrev pub by_parts : {S Q A : Type 0} → Machine S Q A → Machine S (List Q) (List A)
by_parts m = record { answer = answers m; next = left m }

-- however a run is cut into parts, its answers and what it leaves are those of the parts one after the other
module _ {S Q A : Type 0} (m : Machine S Q A) where
  pub answers-parts : (parts : List (List Q)) (s : S) → answers m s (flatten parts) ≡ flatten (answers (by_parts m) s parts)
  unfolding answers left flatten
  answers-parts [] s = refl
  answers-parts (x ∷ parts) s = answers_append m x (flatten parts) s ∙ ap (◌++◌ (answers m s x)) (answers-parts parts (left m s x))

  pub left-parts : (parts : List (List Q)) (s : S) → left m s (flatten parts) ≡ left (by_parts m) s parts
  unfolding left flatten
  left-parts [] s = refl
  left-parts (x ∷ parts) s = left_append m x (flatten parts) s ∙ left-parts parts (left m s x)

-- ---- one machine that goes as another does

-- m at the state that stands for t goes as n does at t, wherever t is good
pub record Follows {S T Q A : Type 0} (m : Machine S Q A) (n : Machine T Q A) (image : T → S) (Good : T → Type 0) : Type 0 where
  pub answer : (t : T) (q : Q) → Good t → m.answer (image t) q ≡ n.answer t q
  pub next : (t : T) (q : Q) → Good t → m.next (image t) q ≡ image (n.next t q)
  pub good : (t : T) (q : Q) → Good t → Good (n.next t q)

-- then it answers the same to every list of calls, and is left at the state that stands for the other's
pub record Followed {S T Q A : Type 0} (m : Machine S Q A) (n : Machine T Q A) (image : T → S) (Good : T → Type 0) (qs : List Q) (t : T) : Type 0 where
  pub answered : answers m (image t) qs ≡ answers n t qs
  pub stands : left m (image t) qs ≡ image (left n t qs)
  pub good : Good (left n t qs)

module _ {S T Q A : Type 0} (m : Machine S Q A) (n : Machine T Q A) (image : T → S) (Good : T → Type 0) (f : Follows m n image Good) where
  pub follow : (qs : List Q) (t : T) → Good t → Followed m n image Good qs t
  unfolding answers left
  follow [] t g = record { answered = refl; stands = refl; good = g }
  follow (q ∷ qs) t g =
      let rest = follow qs (n.next t q) (f.good t q g) in
      record { answered = simp (f.answer t q g, f.next t q g) (ap (◌∷◌ (n.answer t q)) rest.answered); stands = simp (f.next t q g) rest.stands; good = rest.good }
