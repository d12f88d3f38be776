-- Laws of the header: one turn of its number, what the code answers in each case, the place of the data, and what a refused one says.
-- Assumes nothing.
use Rattle.std.specs.Prelude.{◌≡◌, refl, Some, None, Ok, Err, List, [], Bool, true, false, cond, ◌&&◌, ℕ, zero, suc, ◌+◌, ◌*◌, ◌-◌, ◌%◌, ◌≤◌, ◌<◌, ◌^◌, length, get_or, take, drop, leb, eqb}
use Rattle.std.proofs.Common.{sym, ◌∙◌, ap, ⊎_elim, pow-suc, lt_of_lt_of_le, zero-add, arith, drop_of_length-le, length-take, drop-cons, lit<, le-leb, leb-true, eq-eqb, ne_eqb, eqb-true}
use Rattle.std.proofs.Math.Nat.{pow-le-pow_right, add-sub_cancel_left, min-le_left}
use Rattle.std.proofs.Math.ListN.{get_or-eq_default}
use Rattle.std.proofs.Math.Seq.{take-nil}
use Rattle.std.proofs.lemmas.Bool.{lt-leb}
use Rattle.lemmas.specs.Lists.{to_end}
use Rattle.refusal.specs.declared.Refusal.{Refusal}
use Rattle.refusal.specs.declared.Refused.{Refused}
use Rattle.refusal.specs.Answers.{Answer, given, refusal_of, answer_of}
use Rattle.lemmas.specs.Cases.{and_left, and_right, lt_or_le}
use Rattle.npy.specs.declared.reader.Kind.{Kind}
use Rattle.npy.specs.declared.reader.Head.{Head}
use Rattle.npy.specs.declared.reader.Places.{Places}
use Rattle.npy.specs.Text.{begins, decimal, kind_of, kind_end, rows_at, rows_end, cols_at, cols_end, places_of, spelled}
use Rattle.npy.specs.Header.{low_first, magic, no_head, refused_head, accepted_head, is_accepted, text_head, text_fits, text_length, header_of_width, length_width, known_width, call_header, data_of, place_in}

-- one byte more of a number, from the high end: what is past the end counts as 0
pub low_more : (s : List ℕ) (w i v : ℕ) → 0 < i → i ≤ w → v ≡ low_first (take (w - i) (drop i s))
    → v * 256 + get_or s (i - 1) 0 ≡ low_first (take (w - (i - 1)) (drop (i - 1) s))
unfolding low_first
low_more s w i v hi hw h =
    let a : w - (i - 1) ≡ suc (w - i) = omega arith in
    let b : i ≡ suc (i - 1) = omega arith in
    ⊎_elim
    (λ (l : i - 1 < length s).
    let h' : v ≡ low_first (take (w - i) (drop (suc (i - 1)) s)) = h ∙ ap (λ (n : ℕ). low_first (take (w - i) (drop n s))) b in
    rw (a, drop-cons s (i - 1) 0 l) (omega arith))
    (λ (g : length s ≤ i - 1).
    let m : length s ≤ i = omega arith in
    let z : v ≡ 0 = h ∙ rw (drop_of_length-le s m, take-nil (w - i)) in
    rw (a, drop_of_length-le s g, get_or-eq_default s 0 g, z))
    (lt_or_le (i - 1) (length s))

pub low_none : (s : List ℕ) (w : ℕ) → 0 ≡ low_first (take (w - w) (drop w s))
unfolding low_first
low_none s w = let a : w - w ≡ 0 = omega arith in rw a

pub low_all : (s : List ℕ) (w i v : ℕ) → i ≤ 0 → v ≡ low_first (take (w - i) (drop i s)) → v < 256 ^ (w - i)
    → (v ≡ low_first (take w s)) × (v < 256 ^ w)
low_all s w i v hi h hv =
    let a : i ≡ 0 = omega arith in
    let b : w - i ≡ w = omega arith in
    (h ∙ rw (b, a), rw b at hv)

pub byte_more : (v d w i : ℕ) → 0 < i → i ≤ w → v < 256 ^ (w - i) → d < 256 → v * 256 + d < 256 ^ (w - (i - 1))
byte_more v d w i hi hw h hd =
    let a : w - (i - 1) ≡ suc (w - i) = omega arith in
    rw (a, pow-suc) (omega arith)

pub low_fits : (v w i : ℕ) → 0 < i → w ≤ 4 → v < 256 ^ (w - i) → v < 256 ^ 3
low_fits v w i hi hw h = lt_of_lt_of_le h (pow-le-pow_right {n = 256} (lit< tt) {i = w - i} {j = 3} (omega arith))

-- ---- what the code's answers are

pub bad_text : (t : List ℕ) (at : ℕ) (p : Places) (b : Bool) → p ≡ places_of t → b ≡ spelled t p → b ≡ false → refused_head Refusal.Header ≡ text_head t at
unfolding text_head
bad_text t at p b hp hb h =
    let e : spelled t (places_of t) ≡ false = sym (hb ∙ ap (λ (q : Places). spelled t q) hp) ∙ h in
    rw e

pub good_text : (t : List ℕ) (at : ℕ) (p : Places) (b : Bool) (k : Kind) (r c : ℕ) → p ≡ places_of t → b ≡ spelled t p → b ≡ true
    → k ≡ kind_of (drop 11 t) (p.kind_end - 11)
    → r ≡ decimal 0 (take (p.rows_end - p.rows) (drop p.rows t))
    → c ≡ decimal 0 (take (p.cols_end - p.cols) (drop p.cols t))
    → Ok (record { kind = k; rows = r; cols = c; at = at }) ≡ text_head t at
unfolding text_head accepted_head places_of
good_text t at p b k r c hp hb h hk hr hc =
    let e : spelled t (places_of t) ≡ true = sym (hb ∙ ap (λ (q : Places). spelled t q) hp) ∙ h in
    let k' : k ≡ kind_of (drop 11 t) (kind_end t - 11) = hk ∙ ap (λ (q : Places). kind_of (drop 11 t) (q.kind_end - 11)) hp in
    let r' : r ≡ decimal 0 (take (rows_end t - rows_at t) (drop (rows_at t) t)) = hr ∙ ap (λ (q : Places). decimal 0 (take (q.rows_end - q.rows) (drop q.rows t))) hp in
    let c' : c ≡ decimal 0 (take (cols_end t - cols_at t) (drop (cols_at t) t)) = hc ∙ ap (λ (q : Places). decimal 0 (take (q.cols_end - q.cols) (drop q.cols t))) hp in
    rw e (rw (k', r', c'))

pub length_cut : (w : ℕ) (s : List ℕ) → length s < 8 + w → refused_head Refusal.Header ≡ header_of_width w s
unfolding header_of_width
length_cut w s h = simp (lt-leb _ _ h)

pub text_length_lem : (w n : ℕ) (s : List ℕ) → n ≡ low_first (take w (take (length s - 8) (drop 8 s))) → n ≡ text_length w s
unfolding text_length
text_length_lem w n s h = rw (to_end s 8) at h

both_false : (a : Bool) (x y : Answer Head) → y ≡ cond (a && false) x y
both_false true x y = refl
both_false false x y = refl

pub text_misfits : (w n : ℕ) (s : List ℕ) (b : Bool) → n ≡ text_length w s → b ≡ text_fits n (8 + w) (length s) → b ≡ false → refused_head Refusal.Header ≡ header_of_width w s
unfolding header_of_width
text_misfits w n s b hn hb h =
    let e : text_fits (text_length w s) (8 + w) (length s) ≡ false = sym (hb ∙ rw hn) ∙ h in
    rw e (both_false (leb (8 + w) (length s)) (text_head (take (text_length w s) (drop (8 + w) s)) (8 + w + text_length w s)) (refused_head Refusal.Header))

pub text_read : (w n : ℕ) (s : List ℕ) (b : Bool) → 8 + w ≤ length s → n ≡ text_length w s → b ≡ text_fits n (8 + w) (length s) → b ≡ true
    → text_head (take (8 + w + n - (8 + w)) (drop (8 + w) s)) (8 + w + n) ≡ header_of_width w s
unfolding header_of_width
text_read w n s b hl hn hb h =
    let e : text_fits (text_length w s) (8 + w) (length s) ≡ true = sym (hb ∙ rw hn) ∙ h in
    rw (le-leb _ _ hl, e, ← hn, add-sub_cancel_left)

pub fits-parts : (n b len : ℕ) → text_fits n b len ≡ true → (1 ≤ n) × (n ≤ 1000) × (b + n ≤ len) × ((b + n) % 16 ≡ 0)
unfolding text_fits
fits-parts n b len h =
    let h1 = and_right (leb 1 n) (leb n 1000 && (leb (b + n) len && eqb ((b + n) % 16) 0)) h in
    let h2 = and_right (leb n 1000) (leb (b + n) len && eqb ((b + n) % 16) 0) h1 in (
      leb-true _ _ (and_left (leb 1 n) (leb n 1000 && (leb (b + n) len && eqb ((b + n) % 16) 0)) h),
      leb-true _ _ (and_left (leb n 1000) (leb (b + n) len && eqb ((b + n) % 16) 0) h1),
      leb-true _ _ (and_left (leb (b + n) len) (eqb ((b + n) % 16) 0) h2),
      eqb-true _ _ (and_right (leb (b + n) len) (eqb ((b + n) % 16) 0) h2),
    )

pub width_small : (s : List ℕ) → length_width s ≤ 4
unfolding length_width
width_small s = one_of (leb 8 (length s) && (begins s magic && eqb (get_or s 7 0) 0)) (eqb (get_or s 6 0) 1) (eqb (get_or s 6 0) 2)
  where
    one_of : (a b c : Bool) → cond a (cond b 2 (cond c 4 0)) 0 ≤ 4
    one_of true true c = omega arith
    one_of true false true = omega arith
    one_of true false false = omega arith
    one_of false b c = omega arith

-- ---- the place of the data

at_of : (b : Bool) (x y : Answer Head) (n : ℕ) → (b ≡ true → (given x).at ≤ n) → (given y).at ≤ n → (given (cond b x y)).at ≤ n
at_of true x y n hx hy = hx refl
at_of false x y n hx hy = hy

pub at_within : (s : List ℕ) → (given (call_header s)).at ≤ length s
unfolding call_header header_of_width text_head accepted_head refused_head
at_within s =
    at_of (eqb (length_width s) 0) _ _ (length s) (λ e. omega arith)
    (at_of (leb (8 + length_width s) (length s) && text_fits (text_length (length_width s) s) (8 + length_width s) (length s)) _ _ (length s)
    (λ e.
    at_of (spelled (take (text_length (length_width s) s) (drop (8 + length_width s) s)) (places_of (take (text_length (length_width s) s) (drop (8 + length_width s) s)))) _ _ (length s)
    (λ f. (fits-parts (text_length (length_width s) s) (8 + length_width s) (length s) (and_right (leb (8 + length_width s) (length s)) (text_fits (text_length (length_width s) s) (8 + length_width s) (length s)) e)).2)
    (omega arith))
    (omega arith))

no_version : (w : ℕ) → None ≡ known_width w → w ≡ 0
no_version zero h = refl
no_version (suc w) h = (cc)

version : (w v : ℕ) → Some w ≡ known_width v → (w ≡ v) × (w ≡ 0 → ⊥)
version w zero h = (cc)
version w (suc v) h = let e : w ≡ suc v = (cc) in (e, λ (z : w ≡ 0). omega arith)

pub head_within : (s : List ℕ) (h : Head) → Ok h ≡ call_header s → h.at ≤ length s
head_within s h e = rw (← e) at (at_within s)

pub no_width : (s : List ℕ) (w : ℕ) → w ≡ length_width s → w ≡ 0 → refused_head Refusal.Magic ≡ call_header s
unfolding call_header
no_width s w h e = let z : length_width s ≡ 0 = sym h ∙ e in simp (eq-eqb _ _ z)

pub by_width : (s : List ℕ) (w : ℕ) → w ≡ length_width s → (w ≡ 0 → ⊥) → header_of_width w s ≡ call_header s
unfolding call_header
by_width s w h e = rw (← h, ne_eqb w 0 e)

-- the same by the width that the code finds, which is none where the start is of neither version
pub no_known_width : (s : List ℕ) → None ≡ known_width (length_width s) → refused_head Refusal.Magic ≡ call_header s
no_known_width s h = no_width s _ refl (no_version _ h)

pub by_known_width : (s : List ℕ) (w : ℕ) → Some w ≡ known_width (length_width s) → (w ≤ 4) × (header_of_width w s ≡ call_header s)
by_known_width s w h = let v = version w _ h in (rw v.0 (width_small s), by_width s w v.0 v.1)

pub data_refused : (s : List ℕ) (h : Answer Head) (t : Bool) → h ≡ call_header s → t ≡ is_accepted h → t ≡ false → [] ≡ data_of s
unfolding data_of
data_refused s h t e et g = rw (← e, ← et, g)

pub data_given : (s : List ℕ) (h : Answer Head) (t : Bool) → h ≡ call_header s → t ≡ is_accepted h → t ≡ true
    → take (length s - (given h).at) (drop (given h).at s) ≡ data_of s
unfolding data_of
data_given s h t e et g = to_end s (given h).at ∙ rw (← e, ← et, g)

-- the same of an answer whose case is known
pub data_empty : (s : List ℕ) (r : Refused Head) → Err r ≡ call_header s → [] ≡ data_of s
data_empty s r e = data_refused s (Err r) false e refl refl

pub data_after : (s : List ℕ) (h : Head) → Ok h ≡ call_header s → take (length s - h.at) (drop h.at s) ≡ data_of s
data_after s h e = data_given s (Ok h) true e refl refl

-- a header that is refused says nothing else
abbrev Bare : Answer Head → Type 0
Bare h = is_accepted h ≡ false → h ≡ answer_of (refusal_of h) no_head

bare_of : (b : Bool) (x y : Answer Head) → Bare x → Bare y → Bare (cond b x y)
bare_of true x y hx hy = hx
bare_of false x y hx hy = hy

bare-refused : (r : Refusal) → Bare (refused_head r)
unfolding refused_head
bare-refused r h = refl

bare-accepted : (k : Kind) (r c at : ℕ) → Bare (accepted_head k r c at)
unfolding accepted_head
bare-accepted k r c at h = let z : true ≡ false = h in (cc)

bare-text : (t : List ℕ) (at : ℕ) → Bare (text_head t at)
unfolding text_head
bare-text t at = bare_of (spelled t (places_of t)) (accepted_head _ _ _ at) (refused_head Refusal.Header) (bare-accepted _ _ _ at) (bare-refused Refusal.Header)

pub refused_is : (s : List ℕ) → is_accepted (call_header s) ≡ false → call_header s ≡ answer_of (refusal_of (call_header s)) no_head
unfolding call_header header_of_width
refused_is s =
    bare_of (eqb (length_width s) 0) (refused_head Refusal.Magic) (header_of_width (length_width s) s) (bare-refused Refusal.Magic)
    (bare_of (leb (8 + length_width s) (length s) && text_fits (text_length (length_width s) s) (8 + length_width s) (length s))
    (text_head (take (text_length (length_width s) s) (drop (8 + length_width s) s)) (8 + length_width s + text_length (length_width s) s)) (refused_head Refusal.Header)
    (bare-text (take (text_length (length_width s) s) (drop (8 + length_width s) s)) (8 + length_width s + text_length (length_width s) s))
    (bare-refused Refusal.Header))

pub refused_at : (s : List ℕ) (h : Answer Head) (t : Bool) → h ≡ call_header s → t ≡ is_accepted h → t ≡ false → (given (call_header s)).at ≡ 0
refused_at s h t e et g = empty_at (call_header s) (refused_is s (rw (← e, ← et) g))
  where
    empty_at : (x : Answer Head) → x ≡ answer_of (refusal_of x) no_head → (given x).at ≡ 0
    empty_at (Ok a) q = ap (λ (x : Answer Head). (given x).at) q
    empty_at (Err r) q = ap (λ (x : Answer Head). (given x).at) q

pub refused_place : (s : List ℕ) (r : Refused Head) → Err r ≡ call_header s → (given (call_header s)).at ≡ 0
refused_place s r e = refused_at s (Err r) false e refl refl

pub text-short : (s : List ℕ) (b n : ℕ) → n ≤ 1000 → length (take (b + n - b) (drop b s)) ≤ 1000
text-short s b n h = rw (add-sub_cancel_left, length-take) (omega (arith, min-le_left n (length (drop b s))))

pub at_start : (p : ℕ × ℕ) (n : ℕ) → n ≡ 0 → p ≡ place_in p n
at_start p n e = rw (e, zero-add)

pub at_place : (p : ℕ × ℕ) (n m : ℕ) → n ≡ m → (p.0, n + p.1) ≡ place_in p m
at_place p n m e = rw e
