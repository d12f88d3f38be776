-- Nothing but what document 01 spells is accepted: an accepted header is so framed, and its text is the header text of its parts.
-- SpelledAccepted has the converse. Assumes nothing.
use Rattle.std.specs.Prelude.{◌≡◌, refl, Bool, true, false, cond, not, ◌&&◌, ◌⊎◌, ℕ, ◌+◌, ◌-◌, ◌/◌, ◌≤◌, length, get_or, take, drop, leb, eqb}
use Rattle.std.proofs.Common.{sym, ◌∙◌, subst, inl, inr, add-zero, add-one, arith, length-drop, take-append-drop, drop_of_length-le, drop-cons, drop-drop, get_or-drop, get_or-take, length-take-le, leb-true, eqb-true}
use Rattle.std.proofs.Math.Path.{ap}
use mathlib.Core.List.{List, [], ◌∷◌, ◌++◌}
use Rattle.std.proofs.Math.Nat.{add-sub_cancel_left}
use Rattle.lemmas.specs.Cases.{and_left, and_right}
use Rattle.refusal.specs.Answers.{given}
use Rattle.npy.specs.Text.{begins, byte_within, is_kind_byte, is_digit, is_space, lead_count, end_of, is_number, before_kind, before_rows, before_cols, after_cols, line_feed, kind_end, rows_at, rows_end, cols_at, cols_end, feed_at, places_of, spelled}
use Rattle.npy.specs.TextLaws.{lead_within, end_within, spelled-parts, number_size}
use Rattle.npy.specs.Header.{magic, is_accepted, text_length, length_width, call_header}
use Rattle.npy.specs.HeaderLaws.{fits-parts}
use Rattle.npy.specs.AcceptedHeader.{accepted-parts, text_of, data_place}
use Rattle.npy.specs.Spelling.{all_pass, HeaderParts, spaces, header_text, header_bytes, Framed, SpelledHeader}

begins_is : (w s : List ℕ) → begins s w ≡ true → s ≡ w ++ drop (length w) s
unfolding begins
begins_is [] s h = refl
begins_is (x ∷ w) [] h = let z : false ≡ true = h in (cc)
begins_is (x ∷ w) (y ∷ s) h = heads (eqb y x) refl (λ g. begins_is w s g) h
  where
    heads : (b : Bool) → eqb y x ≡ b → (begins s w ≡ true → s ≡ w ++ drop (length w) s) → cond b (begins s w) false ≡ true
        → y ∷ s ≡ x ∷ (w ++ drop (length w) s)
    heads true e rest g =
        let q : y ≡ x = eqb-true y x e in
        ap (λ (k : ℕ). k ∷ s) q ∙ ap (λ (m : List ℕ). x ∷ m) (rest g)
    heads false e rest g = let z : false ≡ true = g in (cc)

all_lead : (p : ℕ → Bool) (l : List ℕ) → all_pass p (take (lead_count p l) l) ≡ true
unfolding all_pass lead_count
all_lead p [] = refl
all_lead p (x ∷ l) = heads (p x) refl (all_lead p l)
  where
    heads : (b : Bool) → p x ≡ b → all_pass p (take (lead_count p l) l) ≡ true → all_pass p (take (cond b (lead_count p l + 1) 0) (x ∷ l)) ≡ true
    heads true e g = rw (add-one (lead_count p l), e) g
    heads false e g = refl

space_is : (x : ℕ) → is_space x ≡ true → x ≡ 32
unfolding byte_within
space_is x h =
    let r = and_right (leb 0x20 x) (leb x 0x20 && not (eqb x 0)) h in
    let a : 0x20 ≤ x = leb-true _ _ (and_left (leb 0x20 x) (leb x 0x20 && not (eqb x 0)) h) in
    let b : x ≤ 0x20 = leb-true _ _ (and_left (leb x 0x20) (not (eqb x 0)) r) in
    omega arith

spaces_lead : (l : List ℕ) → take (lead_count is_space l) l ≡ spaces (lead_count is_space l)
unfolding lead_count
spaces_lead [] = refl
spaces_lead (x ∷ l) = heads (is_space x) refl (spaces_lead l)
  where
    heads : (b : Bool) → is_space x ≡ b → take (lead_count is_space l) l ≡ spaces (lead_count is_space l)
        → take (cond b (lead_count is_space l + 1) 0) (x ∷ l) ≡ spaces (cond b (lead_count is_space l + 1) 0)
    heads true e g = rw (add-one (lead_count is_space l)) (ap (λ (k : ℕ). k ∷ take (lead_count is_space l) l) (space_is x e) ∙ ap (λ (m : List ℕ). 32 ∷ m) g)
    heads false e g = refl

-- a run of a class, from a place to its end
abbrev run_at : (ℕ → Bool) → List ℕ → ℕ → List ℕ
run_at p t i = take (end_of p t i - i) (drop i t)

run-size : (p : ℕ → Bool) (t : List ℕ) (i : ℕ) → end_of p t i - i ≡ lead_count p (drop i t)
unfolding end_of
run-size p t i = add-sub_cancel_left i (lead_count p (drop i t))

run_all : (p : ℕ → Bool) (t : List ℕ) (i : ℕ) → all_pass p (run_at p t i) ≡ true
run_all p t i = rw (run-size p t i) (all_lead p (drop i t))

run_length : (p : ℕ → Bool) (t : List ℕ) (i : ℕ) → length (run_at p t i) ≡ end_of p t i - i
run_length p t i = length-take-le _ _ (rw (run-size p t i) (lead_within p (drop i t)))

run_cut : (p : ℕ → Bool) (t : List ℕ) (i : ℕ) → drop i t ≡ run_at p t i ++ drop (end_of p t i) t
run_cut p t i =
    let e : i + (end_of p t i - i) ≡ end_of p t i = omega (arith, (end_within p t i).0) in
    sym (take-append-drop (end_of p t i - i) (drop i t)) ∙ ap (λ (m : List ℕ). run_at p t i ++ m) (drop-drop (end_of p t i - i) i t ∙ ap (λ (k : ℕ). drop k t) e)

begins_cut : (w t : List ℕ) (i : ℕ) → begins (drop i t) w ≡ true → drop i t ≡ w ++ drop (i + length w) t
begins_cut w t i h = begins_is w (drop i t) h ∙ ap (λ (m : List ℕ). w ++ m) (drop-drop (length w) i t)

run-number : (t : List ℕ) (i : ℕ) → is_number (get_or t i 0) (end_of is_digit t i - i) ≡ true → is_number (get_or (run_at is_digit t i) 0 0) (length (run_at is_digit t i)) ≡ true
run-number t i h =
    let n = number_size _ _ h in
    let g : get_or (run_at is_digit t i) 0 0 ≡ get_or t i 0 =
    get_or-take (end_of is_digit t i - i) (drop i t) 0 0 n.0 ∙ get_or-drop i t 0 0 ∙ ap (λ (k : ℕ). get_or t k 0) (add-zero i) in
    rw (g, run_length is_digit t i) h

-- X, R and C of a text, and its spaces
abbrev pub x_of : List ℕ → List ℕ
x_of t = run_at is_kind_byte t 11

abbrev pub r_of : List ℕ → List ℕ
r_of t = run_at is_digit t (rows_at t)

abbrev pub c_of : List ℕ → List ℕ
c_of t = run_at is_digit t (cols_at t)

abbrev pub space_count : List ℕ → ℕ
space_count t = lead_count is_space (drop (cols_end t + 4) t)

alone : (l : List ℕ) → begins l line_feed ≡ true → length l ≡ 1 → l ≡ line_feed
alone l h e =
    let d : drop 1 l ≡ [] = drop_of_length-le l {i = 1} (omega arith) in
    begins_is line_feed l h ∙ ap (λ (m : List ℕ). 10 ∷ m) d

module _ (t : List ℕ) (h : spelled t (places_of t) ≡ true) where
  pub spelled_header_parts : HeaderParts (x_of t) (r_of t) (c_of t)
  unfolding kind_end rows_end cols_end
  spelled_header_parts =
      let p = spelled-parts t h in
      record {
        kind = run_all is_kind_byte t 11;
        kind_size = rw (run_length is_kind_byte t 11) p.kind;
        rows = run_all is_digit t (rows_at t);
        rows_number = run-number t (rows_at t) p.rows;
        cols = run_all is_digit t (cols_at t);
        cols_number = run-number t (cols_at t) p.cols;
      }

  fed : drop (feed_at t) t ≡ line_feed
  fed =
      let p = spelled-parts t h in
      let e : length t ≡ feed_at t + 1 = p.ends in
      alone (drop (feed_at t) t) p.feeds (length-drop (feed_at t) t ∙ rw e (add-sub_cancel_left (feed_at t) 1))

  end_split : drop (cols_end t + 4) t ≡ spaces (space_count t) ++ line_feed
  unfolding feed_at
  end_split =
      let e : run_at is_space t (cols_end t + 4) ≡ spaces (space_count t) = rw (run-size is_space t (cols_end t + 4)) (spaces_lead (drop (cols_end t + 4) t)) in
      run_cut is_space t (cols_end t + 4)
      ∙ ap (λ (m : List ℕ). run_at is_space t (cols_end t + 4) ++ m) fed
      ∙ ap (λ (m : List ℕ). m ++ line_feed) e

  cols_split : drop (cols_at t) t ≡ c_of t ++ (after_cols ++ (spaces (space_count t) ++ line_feed))
  unfolding cols_end
  cols_split =
      run_cut is_digit t (cols_at t)
      ∙ ap (λ (m : List ℕ). c_of t ++ m) (begins_cut after_cols t (cols_end t) (spelled-parts t h).closes ∙ ap (λ (m : List ℕ). after_cols ++ m) end_split)

  rows_split : drop (rows_at t) t ≡ r_of t ++ (before_cols ++ (c_of t ++ (after_cols ++ (spaces (space_count t) ++ line_feed))))
  unfolding rows_end cols_at
  rows_split =
      run_cut is_digit t (rows_at t)
      ∙ ap (λ (m : List ℕ). r_of t ++ m) (begins_cut before_cols t (rows_end t) (spelled-parts t h).parts ∙ ap (λ (m : List ℕ). before_cols ++ m) cols_split)

  -- an accepted text is the header text of its parts
  pub spelled_is_header_text : t ≡ header_text (x_of t) (r_of t) (c_of t) (space_count t)
  unfolding header_text kind_end rows_at
  spelled_is_header_text =
      begins_is before_kind t (spelled-parts t h).opens
      ∙ ap (λ (m : List ℕ). before_kind ++ m)
      (run_cut is_kind_byte t 11
      ∙ ap (λ (m : List ℕ). x_of t ++ m) (begins_cut before_rows t (kind_end t) (spelled-parts t h).joins ∙ ap (λ (m : List ℕ). before_rows ++ m) rows_split))

-- ---- an accepted header is framed so

abbrev KnownVersion : ℕ → ℕ → Type 0
KnownVersion six w = (six ≡ w / 2) × ((w ≡ 2) ⊎ (w ≡ 4))

abbrev by_version : Bool → Bool → Bool → ℕ
by_version a b c = cond a (cond b 2 (cond c 4 0)) 0

known_version : (a b c : Bool) (six : ℕ) → (b ≡ true → six ≡ 1) → (c ≡ true → six ≡ 2) → (by_version a b c ≡ 0 → ⊥)
    → (a ≡ true) × KnownVersion six (by_version a b c)
known_version true true c six hb hc g = (refl, (hb refl, inl refl))
known_version true false true six hb hc g = (refl, (hc refl, inr refl))
known_version true false false six hb hc g = absurd (g refl)
known_version false b c six hb hc g = absurd (g refl)

version_known : (s : List ℕ) → (length_width s ≡ 0 → ⊥) → ((leb 8 (length s) && (begins s magic && eqb (get_or s 7 0) 0)) ≡ true) × KnownVersion (get_or s 6 0) (length_width s)
unfolding length_width
version_known s g =
    known_version (leb 8 (length s) && (begins s magic && eqb (get_or s 7 0) 0)) (eqb (get_or s 6 0) 1) (eqb (get_or s 6 0) 2) (get_or s 6 0)
    (λ e. eqb-true _ _ e) (λ e. eqb-true _ _ e) g

framed_start : (s : List ℕ) → (length_width s ≡ 0 → ⊥) → s ≡ magic ++ (length_width s / 2 ∷ 0 ∷ drop 8 s)
framed_start s g =
    let k = version_known s g in
    let l : 8 ≤ length s = leb-true _ _ (and_left (leb 8 (length s)) (begins s magic && eqb (get_or s 7 0) 0) k.0) in
    let m = and_right (leb 8 (length s)) (begins s magic && eqb (get_or s 7 0) 0) k.0 in
    let b : begins s magic ≡ true = and_left (begins s magic) (eqb (get_or s 7 0) 0) m in
    let z : get_or s 7 0 ≡ 0 = eqb-true _ _ (and_right (begins s magic) (eqb (get_or s 7 0) 0) m) in
    let c6 : drop 6 s ≡ get_or s 6 0 ∷ drop 7 s = drop-cons s 6 0 (omega arith) in
    let c7 : drop 7 s ≡ get_or s 7 0 ∷ drop 8 s = drop-cons s 7 0 (omega arith) in
    begins_is magic s b ∙ ap (λ (t : List ℕ). magic ++ t) (c6 ∙ ap (λ (t : List ℕ). get_or s 6 0 ∷ t) (c7 ∙ ap (λ (x : ℕ). x ∷ drop 8 s) z) ∙ ap (λ (x : ℕ). x ∷ (0 ∷ drop 8 s)) k.1.0)

pub accepted_framed : (s : List ℕ) → is_accepted (call_header s) ≡ true
    → Framed (length_width s) (take (length_width s) (drop 8 s)) (text_of s) × (s ≡ header_bytes (length_width s) (take (length_width s) (drop 8 s)) (text_of s) (drop (given (call_header s)).at s))
unfolding text_length
accepted_framed s h =
    let a = accepted-parts s h in
    let f = fits-parts _ _ _ a.fits in
    let d = data_place s h in
    let w : length_width s ≤ length (drop 8 s) = rw length-drop (omega (arith, a.lengthy)) in
    let n : text_length (length_width s) s ≤ length (drop (8 + length_width s) s) = rw length-drop (omega (arith, f.2)) in
    let tl : length (text_of s) ≡ text_length (length_width s) s = length-take-le _ _ n in
    let e8 : drop 8 s ≡ take (length_width s) (drop 8 s) ++ drop (8 + length_width s) s =
    sym (take-append-drop (length_width s) (drop 8 s)) ∙ ap (λ (m : List ℕ). take (length_width s) (drop 8 s) ++ m) (drop-drop (length_width s) 8 s) in
    let et : drop (8 + length_width s) s ≡ text_of s ++ drop (given (call_header s)).at s =
    sym (take-append-drop (text_length (length_width s) s) (drop (8 + length_width s) s)) ∙ ap (λ (m : List ℕ). text_of s ++ m) (drop-drop (text_length (length_width s) s) (8 + length_width s) s ∙ ap (λ (k : ℕ). drop k s) (sym d.0)) in (
      record {
        width = (version_known s a.known).1.1;
        bytes = length-take-le _ _ w;
        counts = sym tl;
        short = rw tl (f.0, f.1);
        sixteens = rw tl f.3;
      },
      framed_start s a.known ∙ ap (λ (m : List ℕ). magic ++ (length_width s / 2 ∷ 0 ∷ m)) (e8 ∙ ap (λ (m : List ℕ). take (length_width s) (drop 8 s) ++ m) et),
    )

-- ---- so it is spelled as document 01 spells it

pub accepted-spelled : (s : List ℕ) → is_accepted (call_header s) ≡ true → SpelledHeader s
accepted-spelled s h =
    let a = accepted-parts s h in
    let f = accepted_framed s h in
    let e : text_of s ≡ header_text (x_of (text_of s)) (r_of (text_of s)) (c_of (text_of s)) (space_count (text_of s)) = spelled_is_header_text (text_of s) a.spells in
    record {
      w = length_width s;
      l = take (length_width s) (drop 8 s);
      x = x_of (text_of s);
      r = r_of (text_of s);
      c = c_of (text_of s);
      n = space_count (text_of s);
      rest = drop (given (call_header s)).at s;
      parts = spelled_header_parts (text_of s) a.spells;
      framed = subst (λ (t : List ℕ). Framed (length_width s) (take (length_width s) (drop 8 s)) t) e f.0;
      is = f.1 ∙ ap (λ (t : List ℕ). header_bytes (length_width s) (take (length_width s) (drop 8 s)) t (drop (given (call_header s)).at s)) e;
    }
