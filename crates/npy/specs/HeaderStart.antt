-- The start of a file decides its header: no byte after an accepted one is looked at. Assumes nothing.
use Rattle.std.specs.Prelude.{◌≡◌, refl, List, [], ◌∷◌, ◌++◌, Bool, true, false, cond, ◌&&◌, ℕ, zero, suc, ◌+◌, ◌-◌, ◌≤◌, ◌<◌, length, take, drop, leb, eqb}
use Rattle.std.proofs.Common.{sym, ◌∙◌, ap, ⊎_elim, arith, length-take, take-take, get_or-take, take_at, le-leb}
use Rattle.std.proofs.Math.Nat.{min-le_right, le-min}
use Rattle.std.proofs.lemmas.Bool.{lt-leb}
use Rattle.lemmas.specs.Lists.{drop-take}
use Rattle.lemmas.specs.Cases.{and_right, lt_or_le, same_when_true}
use Rattle.npy.specs.Text.{begins}
use Rattle.npy.specs.Header.{magic, is_accepted, text_fits, text_length, header_of_width, length_width, call_header}
use Rattle.npy.specs.HeaderLaws.{fits-parts, width_small, at_within}
use Rattle.npy.specs.AcceptedHeader.{data_place}

pub begins_take : (w s : List ℕ) (m : ℕ) → length w ≤ m → begins (take m s) w ≡ begins s w
unfolding begins
begins_take [] s m h = refl
begins_take (x ∷ w) [] zero h = refl
begins_take (x ∷ w) [] (suc m) h = refl
begins_take (x ∷ w) (y ∷ s) zero h = let z : suc (length w) ≤ 0 = h in absurd (omega arith)
begins_take (x ∷ w) (y ∷ s) (suc m) h = ap (λ (b : Bool). cond (eqb y x) b false) (begins_take w s m (omega arith))

pub leb_take : (k m : ℕ) (s : List ℕ) → k ≤ m → leb k (length (take m s)) ≡ leb k (length s)
leb_take k m s h =
    ⊎_elim
    (λ (l : length s < k). lt-leb k (length (take m s)) (rw length-take (omega (arith, min-le_right m (length s)))) ∙ sym (lt-leb k (length s) l))
    (λ (l : k ≤ length s). le-leb k (length (take m s)) (rw length-take (le-min h l)) ∙ sym (le-leb k (length s) l))
    (lt_or_le (length s) k)

part_take : (b n m : ℕ) (s : List ℕ) → b + n ≤ m → take n (drop b (take m s)) ≡ take n (drop b s)
part_take b n m s h = rw (drop-take b m s) (take-take n (m - b) (drop b s) (omega arith))

pub width_take : (m : ℕ) (s : List ℕ) → 8 ≤ m → length_width (take m s) ≡ length_width s
unfolding length_width
width_take m s h = rw (leb_take 8 m s h, begins_take magic s m (omega arith), get_or-take m s 7 0 (omega arith), get_or-take m s 6 0 (omega arith))

pub length_start : (w m : ℕ) (s : List ℕ) → 8 + w ≤ m → text_length w (take m s) ≡ text_length w s
unfolding text_length
length_start w m s h = rw (part_take 8 w m s h)

fits_take : (n b m : ℕ) (s : List ℕ) → (n ≤ 1000 → b + n ≤ m) → text_fits n b (length (take m s)) ≡ text_fits n b (length s)
unfolding text_fits
fits_take n b m s h =
    ⊎_elim
    (λ (l : 1000 < n). rw (lt-leb n 1000 l))
    (λ (l : n ≤ 1000). rw (leb_take (b + n) m s (h l)))
    (lt_or_le 1000 n)

header_of_width_take : (w m : ℕ) (s : List ℕ) → 8 + w ≤ m → (text_length w s ≤ 1000 → 8 + w + text_length w s ≤ m) → header_of_width w (take m s) ≡ header_of_width w s
unfolding header_of_width
header_of_width_take w m s h g =
    rw (length_start w m s h, leb_take (8 + w) m s h, fits_take (text_length w s) (8 + w) m s g)
    (same_when_true (leb (8 + w) (length s) && text_fits (text_length w s) (8 + w) (length s)) _ _ _
    (λ e.
    let f = fits-parts (text_length w s) (8 + w) (length s) (and_right (leb (8 + w) (length s)) (text_fits (text_length w s) (8 + w) (length s)) e) in
    rw (part_take (8 + w) (text_length w s) m s (g f.1))))

start_decides : (m : ℕ) (s : List ℕ) → 8 ≤ m → 8 + length_width s ≤ m → (text_length (length_width s) s ≤ 1000 → 8 + length_width s + text_length (length_width s) s ≤ m)
    → call_header (take m s) ≡ call_header s
unfolding call_header
start_decides m s a b c = rw (width_take m s a, header_of_width_take (length_width s) m s b c)

-- the longest header has 1,012 bytes: so many of a file, or all of it, decide its header
pub window_decides : (m : ℕ) (s : List ℕ) → 1012 ≤ m → call_header (take m s) ≡ call_header s
window_decides m s h = let w = width_small s in start_decides m s (omega arith) (omega arith) (λ l. omega arith)

-- whatever stands after bytes with an accepted header
pub same_header_with_more : (s r : List ℕ) → is_accepted (call_header s) ≡ true → call_header (s ++ r) ≡ call_header s
same_header_with_more s r h =
    let p = (data_place s h).0 in
    let l = at_within s in
    let e : take (length s) (s ++ r) ≡ s = take_at s r (length s) refl in
    let w : length_width (s ++ r) ≡ length_width s = sym (width_take (length s) (s ++ r) (omega arith)) ∙ ap length_width e in
    let n : text_length (length_width s) (s ++ r) ≡ text_length (length_width s) s =
    sym (length_start (length_width s) (length s) (s ++ r) (omega arith)) ∙ ap (λ (x : List ℕ). text_length (length_width s) x) e in
    sym (start_decides (length s) (s ++ r) (omega arith) (rw w (omega arith)) (λ g. rw (w, n) (omega arith))) ∙ ap call_header e
