-- Lists: what stands at a place, how long they are, and what is written into them. Assumes nothing.
use Rattle.std.specs.Prelude.{◌≡◌, refl, List, [], ◌∷◌, ◌++◌, map, ℕ, zero, suc, ◌+◌, ◌-◌, ◌≤◌, ◌<◌, get_or, set, length, take, drop}
use Rattle.std.proofs.Common.{sym, ap, ◌∙◌, append_assoc, not-suc-le-zero, le_of_suc-le-suc, arith, length-append, length-drop, take_at, drop_at, drop-drop, take_all}
use Rattle.std.proofs.Math.Nat.{sub-zero, zero-sub, suc-sub-suc}
use Rattle.std.proofs.lemmas.List.{length-map}
use Rattle.std.proofs.lemmas.List.Edits.{sets, sets-eq}
use Rattle.std.proofs.Math.Seq.{length-sets, take-nil}

-- within a list, what would stand past its end does not matter
pub any-default : {A : Type 0} (l : List A) (i : ℕ) (d e : A) → i < length l → get_or l i d ≡ get_or l i e
any-default [] i d e h = absurd (not-suc-le-zero h)
any-default (x ∷ l) zero d e h = refl
any-default (x ∷ l) (suc i) d e h = any-default l i d e (le_of_suc-le-suc h)

-- a list is as long as what is made of each of its things
pub as_long : {A B : Type 0} (f : A → B) (l : List A) (n : ℕ) → length (map f l) ≡ n → length l ≡ n
as_long f l n h = sym (length-map l f) ∙ h

-- one text written after another is both written at once
pub sets_append : {A : Type 0} (a b l : List A) (i : ℕ) → sets l i (a ++ b) ≡ sets (sets l i a) (i + length a) b
sets_append [] b l i = let e : i + zero ≡ i = omega arith in rw e
sets_append (x ∷ a) b l i = let e : i + suc (length a) ≡ suc i + length a = omega arith in rw e (sets_append a b (set l i x) (suc i))

-- what stands at the start after it is written there
pub front : {A : Type 0} (l vs : List A) (n : ℕ) → length vs ≡ n → n ≤ length l → take n (sets l 0 vs) ≡ vs
front l vs n e h = rw (sets-eq vs l 0 (omega arith)) (take_at vs (drop (0 + length vs) l) n e)

-- and what stands behind it
pub behind : {A : Type 0} (l vs : List A) (n : ℕ) → length vs ≡ n → n ≤ length l → drop n (sets l 0 vs) ≡ drop n l
behind l vs n e h =
    let m : 0 + length vs ≡ n = omega (arith, e) in
    rw (sets-eq vs l 0 (omega arith)) (drop_at vs (drop (0 + length vs) l) n e ∙ ap (λ (k : ℕ). drop k l) m)

-- a text, and then the rest of a list with a second text written to it: the list with both written
pub sets_behind : {A : Type 0} (l vs ws : List A) (n : ℕ) → length vs ≡ n → n + length ws ≤ length l → vs ++ sets (drop n l) 0 ws ≡ sets l 0 (vs ++ ws)
sets_behind l vs ws n e h =
    let part = sets-eq ws (drop n l) 0 (rw length-drop (omega arith)) in
    let whole = sets-eq (vs ++ ws) l 0 (rw length-append (omega arith)) in
    let m : n + (0 + length ws) ≡ 0 + length (vs ++ ws) = rw length-append (omega arith) in
    ap (◌++◌ vs) part ∙ sym (append_assoc vs ws (drop (0 + length ws) (drop n l)))
    ∙ ap (◌++◌ (vs ++ ws)) (drop-drop (0 + length ws) n l ∙ ap (λ (k : ℕ). drop k l) m)
    ∙ sym whole

-- a list that was written to is as long as it was
pub as_long_still : {A : Type 0} (l a xs : List A) → a ≡ sets l 0 xs → length a ≡ length l
as_long_still l a xs e = ap length e ∙ length-sets l 0 xs

-- a part of a beginning
pub drop-take : {A : Type 0} (i n : ℕ) (l : List A) → drop i (take n l) ≡ take (n - i) (drop i l)
drop-take zero n l = ap (λ (k : ℕ). take k l) (sym (sub-zero n))
drop-take (suc i) zero l = ap (λ (k : ℕ). take k (drop (suc i) l)) (sym (zero-sub (suc i)))
drop-take (suc i) (suc n) [] = sym (take-nil (suc n - suc i))
drop-take (suc i) (suc n) (x ∷ xs) = drop-take i n xs ∙ ap (λ (k : ℕ). take k (drop i xs)) (sym (suc-sub-suc n i))

-- the part from a place to the end
pub to_end : {A : Type 0} (s : List A) (b : ℕ) → take (length s - b) (drop b s) ≡ drop b s
to_end s b = take_all (length s - b) (drop b s) (rw length-drop (omega arith))
