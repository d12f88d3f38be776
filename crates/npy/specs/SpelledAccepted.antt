-- What document 01 spells is accepted, and read as its parts say. AcceptedSpelled has the converse. Assumes nothing.
use Rattle.std.specs.Prelude.{◌≡◌, Bool, true, false, ◌⊎◌, ℕ, zero, suc, ◌+◌, ◌-◌, ◌/◌, ◌≤◌, get_or, drop, leb, eqb}
use Rattle.std.proofs.Math.Path.{refl, ap}
use Rattle.std.proofs.Common.{sym, ◌∙◌, ⊎_elim, add-zero, arith, length-drop, length-append, drop-drop, get_or-drop, take_at}
use mathlib.Core.List.{List, [], ◌∷◌, ◌++◌}
use Rattle.std.proofs.Math.ListN.{length, get_or-append}
use Rattle.std.proofs.Math.Seq.{drop-append_seam, take-append_seam}
use borrow.Author.Tests.{le-leb, eq-eqb, ne_eqb, eqb-true}
use Rattle.lemmas.specs.Cases.{and_left, and_right, same_when_true}
use Rattle.npy.specs.Text.{begins, byte_within, is_kind_byte, is_digit, is_space, lead_count, end_of, decimal, f4, i2, kind_of, before_kind, before_rows, before_cols, after_cols, line_feed, kind_end, rows_at, rows_end, cols_at, cols_end, feed_at, places_of, front_spelled, shape_spelled, end_spelled, spelled}
use Rattle.npy.specs.TextLaws.{number_size}
use Rattle.npy.specs.Header.{low_first, magic, accepted_head, text_head, text_fits, text_length, header_of_width, length_width, call_header}
use Rattle.npy.specs.HeaderStart.{begins_take}
use Rattle.npy.specs.Spelling.{all_pass, HeaderParts, spaces, header_text, header_bytes, Framed}

-- ---- the text
begins_own : (w l : List ℕ) → begins (w ++ l) w ≡ true
unfolding begins
begins_own [] l = refl
begins_own (x ∷ w) l = rw (eq-eqb x x refl) (begins_own w l)

lead_all : (p : ℕ → Bool) (x : List ℕ) (y : ℕ) (l : List ℕ) → all_pass p x ≡ true → p y ≡ false → lead_count p (x ++ (y ∷ l)) ≡ length x
unfolding lead_count all_pass
lead_all p [] y l h e = rw e
lead_all p (z ∷ x) y l h e =
    let a : p z ≡ true = and_left (p z) (all_pass p x) h in
    rw (a, lead_all p x y l (and_right (p z) (all_pass p x) h) e) (omega arith)

all_spaces : (n : ℕ) → all_pass is_space (spaces n) ≡ true
unfolding all_pass byte_within
all_spaces zero = refl
all_spaces (suc n) = all_spaces n

-- from a place on there is w, then l
after_part : (t w l : List ℕ) (i : ℕ) → drop i t ≡ w ++ l → drop (i + length w) t ≡ l
after_part t w l i h = sym (drop-drop (length w) i t) ∙ ap (λ (s : List ℕ). drop (length w) s) h ∙ drop-append_seam w l

run_end : (p : ℕ → Bool) (t x : List ℕ) (y : ℕ) (l : List ℕ) (i : ℕ) → drop i t ≡ x ++ (y ∷ l) → all_pass p x ≡ true → p y ≡ false → end_of p t i ≡ i + length x
unfolding end_of
run_end p t x y l i h a e = ap (λ (s : List ℕ). i + lead_count p s) h ∙ ap (λ (n : ℕ). i + n) (lead_all p x y l a e)

first_of : (t r l : List ℕ) (i : ℕ) → drop i t ≡ r ++ l → 1 ≤ length r → get_or t i 0 ≡ get_or r 0 0
first_of t r l i h g =
    ap (λ (n : ℕ). get_or t n 0) (sym (add-zero i)) ∙ sym (get_or-drop i t 0 0) ∙ ap (λ (s : List ℕ). get_or s 0 0) h ∙ get_or-append r l 0 0 g

three-alike : (x l w : List ℕ) → length w ≡ 3 → length x ≡ 3 → begins (x ++ l) w ≡ begins x w
three-alike x l w g n = sym (begins_take w (x ++ l) (length x) (omega arith)) ∙ ap (λ (s : List ℕ). begins s w) (take-append_seam x l)

kind_same : (x l : List ℕ) → kind_of (x ++ l) (length x) ≡ kind_of x (length x)
unfolding kind_of
kind_same x l =
    same_when_true (eqb (length x) 3) _ _ _ (λ e. let n : length x ≡ 3 = eqb-true _ _ e in rw (three-alike x l f4 refl n, three-alike x l i2 refl n))

module _ (x r c : List ℕ) (n : ℕ) (p : HeaderParts x r c) where
  abbrev T : List ℕ
  T = header_text x r c n

  at_x : drop 11 T ≡ x ++ (before_rows ++ (r ++ (before_cols ++ (c ++ (after_cols ++ (spaces n ++ line_feed))))))
  unfolding header_text
  at_x = refl

  x_ends : kind_end T ≡ 11 + length x
  unfolding kind_end byte_within
  x_ends = run_end is_kind_byte T x 39 _ 11 at_x p.kind refl

  at_before_rows : drop (kind_end T) T ≡ before_rows ++ (r ++ (before_cols ++ (c ++ (after_cols ++ (spaces n ++ line_feed)))))
  at_before_rows = rw x_ends (after_part T x _ 11 at_x)

  at_rows : drop (rows_at T) T ≡ r ++ (before_cols ++ (c ++ (after_cols ++ (spaces n ++ line_feed))))
  unfolding rows_at
  at_rows = after_part T before_rows _ (kind_end T) at_before_rows

  rows_end_lem : rows_end T ≡ rows_at T + length r
  unfolding rows_end byte_within
  rows_end_lem = run_end is_digit T r 44 _ (rows_at T) at_rows p.rows refl

  at_before_cols : drop (rows_end T) T ≡ before_cols ++ (c ++ (after_cols ++ (spaces n ++ line_feed)))
  at_before_cols = rw rows_end_lem (after_part T r _ (rows_at T) at_rows)

  at_cols : drop (cols_at T) T ≡ c ++ (after_cols ++ (spaces n ++ line_feed))
  unfolding cols_at
  at_cols = after_part T before_cols _ (rows_end T) at_before_cols

  cols_end_lem : cols_end T ≡ cols_at T + length c
  unfolding cols_end byte_within
  cols_end_lem = run_end is_digit T c 41 _ (cols_at T) at_cols p.cols refl

  at_after_cols : drop (cols_end T) T ≡ after_cols ++ (spaces n ++ line_feed)
  at_after_cols = rw cols_end_lem (after_part T c _ (cols_at T) at_cols)

  at_spaces : drop (cols_end T + 4) T ≡ spaces n ++ line_feed
  at_spaces = after_part T after_cols _ (cols_end T) at_after_cols

  feed_at_lem : feed_at T ≡ cols_end T + 4 + length (spaces n)
  unfolding feed_at byte_within
  feed_at_lem = run_end is_space T (spaces n) 10 [] (cols_end T + 4) at_spaces (all_spaces n) refl

  at_feed : drop (feed_at T) T ≡ line_feed
  at_feed = rw feed_at_lem (after_part T (spaces n) line_feed (cols_end T + 4) at_spaces)

  ends_there : length T ≡ feed_at T + 1
  ends_there = let e : length T - feed_at T ≡ 1 = sym (length-drop (feed_at T) T) ∙ ap length at_feed in omega arith

  opens_so : begins T before_kind ≡ true
  unfolding header_text
  opens_so = begins_own before_kind _

  header_text-spelled : spelled T (places_of T) ≡ true
  unfolding spelled front_spelled shape_spelled end_spelled places_of
  header_text-spelled =
      let k : kind_end T - 11 ≡ length x = omega (arith, x_ends) in
      let m : rows_end T - rows_at T ≡ length r = omega (arith, rows_end_lem) in
      let o : cols_end T - cols_at T ≡ length c = omega (arith, cols_end_lem) in
      simp (k, m, o, at_before_rows, at_before_cols, at_after_cols, at_feed, first_of T r _ (rows_at T) at_rows (number_size _ _ p.rows_number).0, first_of T c _ (cols_at T) at_cols (number_size _ _ p.cols_number).0, p.kind_size, p.rows_number, p.cols_number, begins_own, eq-eqb _ _ ends_there, opens_so, begins_own line_feed [])

  -- document 01's text is read as its parts say, wherever the data begin
  pub header_text_read : (at : ℕ) → text_head T at ≡ accepted_head (kind_of x (length x)) (decimal 0 r) (decimal 0 c) at
  unfolding text_head
  header_text_read at =
      let k : kind_end T - 11 ≡ length x = omega (arith, x_ends) in
      let m : rows_end T - rows_at T ≡ length r = omega (arith, rows_end_lem) in
      let o : cols_end T - cols_at T ≡ length c = omega (arith, cols_end_lem) in
      rw (header_text-spelled, k, m, o, at_x, at_rows, at_cols, kind_same, take-append_seam r, take-append_seam c)

-- ---- the bytes before it

eight_more : (n : ℕ) → leb 8 (suc (suc (suc (suc (suc (suc (suc (suc n)))))))) ≡ true
eight_more n = le-leb 8 (suc (suc (suc (suc (suc (suc (suc (suc n)))))))) (omega arith)

version_width : (w : ℕ) (m : List ℕ) → (w ≡ 2) ⊎ (w ≡ 4) → length_width (magic ++ (w / 2 ∷ 0 ∷ m)) ≡ w
unfolding length_width begins
version_width w m =
    ⊎_elim
    (λ (e : w ≡ 2). rw (e, eight_more (length m)))
    (λ (e : w ≡ 4). rw (e, eight_more (length m)))

module _ (w : ℕ) (l t rest : List ℕ) (f : Framed w l t) where
  abbrev S : List ℕ
  S = header_bytes w l t rest

  some_width : w ≡ 0 → ⊥
  some_width z = ⊎_elim (λ (e : w ≡ 2). omega arith) (λ (e : w ≡ 4). omega arith) f.width

  long : length S ≡ 8 + (w + (length t + length rest))
  long =
      let a : length (l ++ (t ++ rest)) ≡ w + (length t + length rest) = simp length-append (ap (λ (k : ℕ). k + (length t + length rest)) f.bytes) in
      omega arith

  length_is : text_length w S ≡ length t
  unfolding text_length
  length_is = ap low_first (take_at l (t ++ rest) w f.bytes) ∙ f.counts

  at_text : drop (8 + w) S ≡ t ++ rest
  at_text = ap (λ (k : ℕ). drop (8 + k) S) (sym f.bytes) ∙ after_part S l (t ++ rest) 8 refl

  fits_there : text_fits (length t) (8 + w) (length S) ≡ true
  unfolding text_fits
  fits_there =
      let a : 8 + w + length t ≤ length S = omega (arith, long) in
      simp (le-leb _ _ f.short.0, le-leb _ _ f.short.1, le-leb _ _ a, eq-eqb _ _ f.sixteens)

  -- a header so framed is its text's, and the data begin after it, whatever they are
  pub framed_read : call_header S ≡ text_head t (8 + w + length t)
  unfolding call_header header_of_width
  framed_read =
      let a : 8 + w ≤ length S = omega (arith, long) in
      simp (version_width w (l ++ (t ++ rest)) f.width, ne_eqb w 0 some_width, length_is, le-leb _ _ a, fits_there, at_text, take-append_seam)

-- ---- so a header as document 01 spells it is accepted, for either width of the length, and says what its parts say

pub spelled-accepted : (w : ℕ) (l x r c : List ℕ) (n : ℕ) (rest : List ℕ) → HeaderParts x r c → Framed w l (header_text x r c n)
    → call_header (header_bytes w l (header_text x r c n) rest) ≡ accepted_head (kind_of x (length x)) (decimal 0 r) (decimal 0 c) (8 + w + length (header_text x r c n))
spelled-accepted w l x r c n rest p f = framed_read w l (header_text x r c n) rest f ∙ header_text_read x r c n p _
