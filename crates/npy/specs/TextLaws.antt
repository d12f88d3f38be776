-- One turn of each definition over a list of bytes, at a place of the list. Assumes nothing.
use Rattle.std.proofs.Math.Nat.{pow-le-pow_right}
use Rattle.std.specs.Prelude.{◌≡◌, refl, List, [], ◌∷◌, Bool, true, false, cond, not, ◌&&◌, ◌||◌, ℕ, suc, ◌+◌, ◌*◌, ◌-◌, ◌≤◌, ◌<◌, ◌^◌, length, get_or, take, drop, min, max, eqb, leb, ltb}
use Rattle.std.specs.List.{starts_with}
use Rattle.std.proofs.Common.{sym, ap, ◌∙◌, ⊎_elim, le-leb, leb-true, eqb-true, eq-eqb, ne_eqb, add-one, arith, add-zero, pow-suc, drop_of_length-le, length-drop, drop-cons, lit<}
use Rattle.std.proofs.lemmas.Bool.{lt-leb, eqb-false}
use Rattle.std.proofs.lemmas.List.{drop_min}
use Rattle.lemmas.specs.Lists.{to_end}
use Rattle.lemmas.specs.Cases.{and_left, and_right, lt_or_le}
use Rattle.npy.specs.declared.reader.Places.{Places}
use Rattle.npy.specs.Text.{begins, is_kind_byte, is_digit, is_space, lead_count, end_of, decimal, kind_fits, is_number, before_kind, before_rows, before_cols, after_cols, line_feed, kind_end, rows_at, rows_end, cols_at, cols_end, feed_at, places_of, front_spelled, shape_spelled, end_spelled, spelled}

eqb-comm : (a b : ℕ) → eqb a b ≡ eqb b a
eqb-comm a b = go (eqb b a) refl
  where
    go : (t : Bool) → eqb b a ≡ t → eqb a b ≡ t
    go true e = eq-eqb a b (sym (eqb-true b a e))
    go false e = ne_eqb a b (λ (h : a ≡ b). eqb-false b a e (sym h))

-- what the library's `starts_with` tests
pub begins_is : (w s : List ℕ) → starts_with eqb s w ≡ begins s w
unfolding begins
begins_is [] s = refl
begins_is (x ∷ w) [] = refl
begins_is (x ∷ w) (y ∷ s) = ap (λ (b : Bool). b && starts_with eqb s w) (eqb-comm x y) ∙ heads (eqb y x) (begins_is w s)
  where
    heads : (b : Bool) → starts_with eqb s w ≡ begins s w → (b && starts_with eqb s w) ≡ cond b (begins s w) false
    heads true h = h
    heads false h = refl

pub begins_there : (s w : List ℕ) (i at : ℕ) (b : Bool) → at ≡ min i (length s) → b ≡ starts_with eqb (take (length s - at) (drop at s)) w → b ≡ begins (drop i s) w
begins_there s w i at b ha hb = hb ∙ begins_is w _ ∙ rw (to_end s at, ha, drop_min)

begins_step : (s w : List ℕ) (i j : ℕ) → i < length s → j < length w
    → begins (drop i s) (drop j w) ≡ cond (eqb (get_or s i 0) (get_or w j 0)) (begins (drop (i + 1) s) (drop (j + 1) w)) false
unfolding begins
begins_step s w i j hi hj = rw (drop-cons s i 0, drop-cons w j 0, add-one i, add-one j)

pub begins_end : (s w : List ℕ) (j : ℕ) → length w ≤ j → true ≡ begins s (drop j w)
unfolding begins
begins_end s w j h = rw (drop_of_length-le w h)

pub begins-short : (s w : List ℕ) (i j : ℕ) → length s ≤ i → j < length w → false ≡ begins (drop i s) (drop j w)
unfolding begins
begins-short s w i j hi hj = rw (drop_of_length-le s hi, drop-cons w j 0)

pub begins-differ : (s w : List ℕ) (i j : ℕ) → i < length s → j < length w → eqb (get_or s i 0) (get_or w j 0) ≡ false
    → false ≡ begins (drop i s) (drop j w)
begins-differ s w i j hi hj e = rw (begins_step s w i j hi hj, e)

pub begins_more : (s w : List ℕ) (i j : ℕ) → i < length s → j < length w → eqb (get_or s i 0) (get_or w j 0) ≡ true
    → begins (drop (i + 1) s) (drop (j + 1) w) ≡ begins (drop i s) (drop j w)
begins_more s w i j hi hj e = rw (begins_step s w i j hi hj, e)

lead_step : (p : ℕ → Bool) (s : List ℕ) (i : ℕ) → i < length s
    → lead_count p (drop i s) ≡ cond (p (get_or s i 0)) (lead_count p (drop (i + 1) s) + 1) 0
unfolding lead_count
lead_step p s i h = rw (drop-cons s i 0, add-one i)

pub end_past : (p : ℕ → Bool) (s : List ℕ) (i : ℕ) → length s ≤ i → i ≡ end_of p s i
unfolding end_of lead_count
end_past p s i h = rw (drop_of_length-le s h, add-zero)

pub end_stop : (p : ℕ → Bool) (s : List ℕ) (i : ℕ) → i < length s → p (get_or s i 0) ≡ false → i ≡ end_of p s i
unfolding end_of
end_stop p s i h e = rw (lead_step p s i h, e, add-zero)

pub end_more : (p : ℕ → Bool) (s : List ℕ) (i : ℕ) → i < length s → p (get_or s i 0) ≡ true → end_of p s (i + 1) ≡ end_of p s i
unfolding end_of
end_more p s i h e = rw (lead_step p s i h, e) (omega arith)

-- past the last byte of the class, or past the list
pub end_last : (p : ℕ → Bool) (s : List ℕ) (at i m : ℕ) → at ≤ i → (at ≤ length s → i ≤ length s) → length s ≤ i → m ≡ max at (length s) → end_of p s i ≡ end_of p s at → m ≡ end_of p s at
end_last p s at i m ha hi h e g =
    ⊎_elim
    (λ (l : at < length s). let a : m ≡ i = omega (arith, hi) in a ∙ end_past p s i h ∙ g)
    (λ (l : length s ≤ at). let a : m ≡ at = omega arith in a ∙ end_past p s at l)
    (lt_or_le at (length s))

pub lead_within : (p : ℕ → Bool) (l : List ℕ) → lead_count p l ≤ length l
unfolding lead_count
lead_within p [] = omega arith
lead_within p (x ∷ xs) = counted (p x) (lead_within p xs)
  where
    counted : (b : Bool) {m n : ℕ} → m ≤ n → cond b (m + 1) 0 ≤ suc n
    counted true h = omega arith
    counted false h = omega arith

-- a class of bytes ends at the end of the list at the latest
pub end_within : (p : ℕ → Bool) (s : List ℕ) (i : ℕ) → (i ≤ end_of p s i) × (end_of p s i ≤ i + (length s - i))
unfolding end_of
end_within p s i =
    let h : lead_count p (drop i s) ≤ length s - i = rw length-drop at (lead_within p (drop i s)) in
    (omega arith, omega arith)

pub decimal_more : (s : List ℕ) (v i e : ℕ) → i < e → e ≤ length s
    → decimal (v * 10 + (get_or s i 0 - 0x30)) (take (e - (i + 1)) (drop (i + 1) s)) ≡ decimal v (take (e - i) (drop i s))
unfolding decimal
decimal_more s v i e hi he =
    let a : e - i ≡ suc (e - (i + 1)) = omega arith in
    let l : i < length s = omega arith in
    rw (a, drop-cons s i 0 l, add-one i)

pub decimal_done : (s : List ℕ) (v i e : ℕ) → e ≤ i → v ≡ decimal v (take (e - i) (drop i s))
unfolding decimal
decimal_done s v i e h = let a : e - i ≡ 0 = omega arith in rw a

pub tens_more : (v d i at : ℕ) → at ≤ i → v + 23 ≤ 23 * 10 ^ (i - at) → d ≤ 207 → v * 10 + d + 23 ≤ 23 * 10 ^ (i + 1 - at)
tens_more v d i at hi h hd =
    let a : i + 1 - at ≡ suc (i - at) = omega arith in
    rw (a, pow-suc) (omega arith)

pub tens_fit : (v i at : ℕ) → v + 23 ≤ 23 * 10 ^ (i - at) → i - at ≤ 8 → v ≤ 23 * 10 ^ 8
tens_fit v i at h hi =
    let b : 10 ^ (i - at) ≤ 10 ^ 8 = pow-le-pow_right {n = 10} (lit< tt) {i = i - at} {j = 8} hi in
    omega arith

pub decimal_on : (l : List ℕ) (v i d : ℕ) → i < length l → d ≡ get_or l i 0 - 0x30 → decimal (v * 10 + d) (drop (i + 1) l) ≡ decimal v (drop i l)
unfolding decimal
decimal_on l v i d h e = rw (e, drop-cons l i 0, add-one i)

pub decimal_over : (l : List ℕ) (v i : ℕ) → length l ≤ i → v ≡ decimal v (drop i l)
unfolding decimal
decimal_over l v i h = rw (drop_of_length-le l h)

-- bytes that are no digits count up to 207, so that n of them stand for less than 23 · 10ⁿ
pub tens_on : (v d i : ℕ) → v + 23 ≤ 23 * 10 ^ i → d ≤ 207 → v * 10 + d + 23 ≤ 23 * 10 ^ (i + 1)
tens_on v d i h hd = rw (add-one i, pow-suc) (omega arith)

pub kind_short : (e : ℕ) → e < 12 → false ≡ kind_fits (e - 11)
unfolding kind_fits
kind_short e h = let a : e - 11 < 1 = omega arith in simp (lt-leb _ _ a)

pub kind_sized : (e : ℕ) → 12 ≤ e → leb e 27 ≡ kind_fits (e - 11)
unfolding kind_fits
kind_sized e h =
    let a : 1 ≤ e - 11 = omega arith in
    simp (le-leb _ _ a)
    (⊎_elim
    (λ (l : 27 < e). lt-leb _ _ l ∙ sym (lt-leb (e - 11) 16 (omega arith)))
    (λ (l : e ≤ 27). le-leb _ _ l ∙ sym (le-leb (e - 11) 16 (omega arith)))
    (lt_or_le 27 e))

pub no_number : (x e at : ℕ) → e < at → false ≡ is_number x (e - at)
unfolding is_number
no_number x e at h = let a : e - at ≡ 0 = omega arith in rw a

pub places_of_lem : (t : List ℕ) (a b c d : ℕ) → a ≡ end_of is_kind_byte t 11 → b ≡ end_of is_digit t (a + 37) → c ≡ end_of is_digit t (b + 2) → d ≡ end_of is_space t (c + 4)
    → record { kind_end = a; rows = a + 37; rows_end = b; cols = b + 2; cols_end = c; feed = d; end = d + 1 } ≡ places_of t
unfolding places_of kind_end rows_at rows_end cols_at cols_end feed_at
places_of_lem t a b c d pa pb pc pd = simp (pd, pc, pb, pa)

-- what an accepted text is, part by part
pub record Spelled (t : List ℕ) : Type 0 where
  pub opens : begins t before_kind ≡ true
  pub kind : kind_fits (kind_end t - 11) ≡ true
  pub joins : begins (drop (kind_end t) t) before_rows ≡ true
  pub rows : is_number (get_or t (rows_at t) 0) (rows_end t - rows_at t) ≡ true
  pub parts : begins (drop (rows_end t) t) before_cols ≡ true
  pub cols : is_number (get_or t (cols_at t) 0) (cols_end t - cols_at t) ≡ true
  pub closes : begins (drop (cols_end t) t) after_cols ≡ true
  pub feeds : begins (drop (feed_at t) t) line_feed ≡ true
  pub ends : length t ≡ feed_at t + 1

all_three : (a b c : Bool) → ((a && b) && c) ≡ true → (a ≡ true) × (b ≡ true) × (c ≡ true)
all_three true true c h = (refl, refl, h)
all_three true false c h = let z : false ≡ true = h in (refl, h, (cc))
all_three false b c h = let z : false ≡ true = h in (h, (cc), (cc))

pub spelled-parts : (t : List ℕ) → spelled t (places_of t) ≡ true → Spelled t
unfolding spelled front_spelled shape_spelled end_spelled places_of
spelled-parts t h =
    let a = all_three (front_spelled t (places_of t)) (shape_spelled t (places_of t)) (end_spelled t (places_of t)) h in
    let f = all_three (begins t before_kind) (kind_fits (kind_end t - 11)) (begins (drop (kind_end t) t) before_rows) a.0 in
    let s = all_three (is_number (get_or t (rows_at t) 0) (rows_end t - rows_at t)) (begins (drop (rows_end t) t) before_cols) (is_number (get_or t (cols_at t) 0) (cols_end t - cols_at t)) a.1 in
    let e = all_three (begins (drop (cols_end t) t) after_cols) (begins (drop (feed_at t) t) line_feed) (eqb (length t) (feed_at t + 1)) a.2 in
    record {
      opens = f.0;
      kind = f.1;
      joins = f.2;
      rows = s.0;
      parts = s.1;
      cols = s.2;
      closes = e.0;
      feeds = e.1;
      ends = eqb-true _ _ e.2;
    }

pub number_size : (x n : ℕ) → is_number x n ≡ true → (1 ≤ n) × (n ≤ 9)
unfolding is_number
number_size x n h =
    let r = and_right (leb 1 n) (leb n 9 && (ltb n 2 || not (eqb x 0x30))) h in
    (leb-true _ _ (and_left (leb 1 n) (leb n 9 && (ltb n 2 || not (eqb x 0x30))) h), leb-true _ _ (and_left (leb n 9) (ltb n 2 || not (eqb x 0x30)) r))

-- the places of an accepted text's numbers
pub rows_part : (t : List ℕ) (p : Places) → p ≡ places_of t → spelled t p ≡ true
    → (p.rows ≤ p.rows_end) × (p.rows_end ≤ length t) × (p.rows_end - p.rows ≤ 9)
unfolding places_of rows_end
rows_part t p e h =
    let g : spelled t (places_of t) ≡ true = rw e at h in
    let n : (1 ≤ rows_end t - rows_at t) × (rows_end t - rows_at t ≤ 9) = number_size _ _ (spelled-parts t g).rows in
    let w = end_within is_digit t (rows_at t) in
    rw e (w.0, omega (arith, n.0, w.1), n.1)

pub cols_part : (t : List ℕ) (p : Places) → p ≡ places_of t → spelled t p ≡ true
    → (p.cols ≤ p.cols_end) × (p.cols_end ≤ length t) × (p.cols_end - p.cols ≤ 9)
unfolding places_of cols_end
cols_part t p e h =
    let g : spelled t (places_of t) ≡ true = rw e at h in
    let n : (1 ≤ cols_end t - cols_at t) × (cols_end t - cols_at t ≤ 9) = number_size _ _ (spelled-parts t g).cols in
    let w = end_within is_digit t (cols_at t) in
    rw e (w.0, omega (arith, n.0, w.1), n.1)

pub kind_part : (t : List ℕ) (p : Places) → p ≡ places_of t → 11 ≤ p.kind_end
unfolding places_of kind_end
kind_part t p e = rw e (end_within is_kind_byte t 11).0
