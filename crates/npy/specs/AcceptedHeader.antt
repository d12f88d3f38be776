-- What an accepted header is, part by part: the place of its data, and its shape, which is below 10⁹ each way. Assumes nothing.
use Rattle.std.specs.Prelude.{◌≡◌, refl, List, [], ◌∷◌, Bool, true, false, cond, not, ◌&&◌, ℕ, zero, suc, ◌+◌, ◌-◌, ◌*◌, ◌%◌, ◌≤◌, ◌<◌, ◌^◌, length, take, drop, leb, eqb}
use Rattle.std.proofs.Common.{sym, ◌∙◌, ap, pow-suc, lt_of_lt_of_le, arith, lit<, leb-true}
use Rattle.std.proofs.Math.Nat.{pow-le-pow_right}
use Rattle.std.proofs.lemmas.Bool.{eqb-false}
use Rattle.refusal.specs.declared.Refusal.{Refusal}
use Rattle.refusal.specs.Answers.{Answer, given}
use Rattle.lemmas.specs.Cases.{and_left, and_right}
use Rattle.npy.specs.declared.reader.Head.{Head}
use Rattle.npy.specs.Text.{byte_within, is_digit, lead_count, end_of, decimal, rows_at, rows_end, cols_at, cols_end, places_of, spelled}
use Rattle.npy.specs.TextLaws.{spelled-parts, number_size}
use Rattle.npy.specs.Header.{refused_head, accepted_head, is_accepted, text_head, text_fits, text_length, header_of_width, length_width, call_header}
use Rattle.npy.specs.HeaderLaws.{fits-parts, width_small}

abbrev pub text_of : List ℕ → List ℕ
text_of s = take (text_length (length_width s) s) (drop (8 + length_width s) s)

pub record AcceptedHeader (s : List ℕ) : Type 0 where
  pub known : length_width s ≡ 0 → ⊥
  pub lengthy : 8 + length_width s ≤ length s
  pub fits : text_fits (text_length (length_width s) s) (8 + length_width s) (length s) ≡ true
  pub spells : spelled (text_of s) (places_of (text_of s)) ≡ true
  pub reads : call_header s ≡ text_head (text_of s) (8 + length_width s + text_length (length_width s) s)

accepted_first : (b : Bool) (x y : Answer Head) → is_accepted y ≡ false → is_accepted (cond b x y) ≡ true → b ≡ true
accepted_first true x y e h = refl
accepted_first false x y e h = sym e ∙ h

accepted-second : (b : Bool) (x y : Answer Head) → is_accepted x ≡ false → is_accepted (cond b x y) ≡ true → b ≡ false
accepted-second true x y e h = sym h ∙ e
accepted-second false x y e h = refl

pub accepted-parts : (s : List ℕ) → is_accepted (call_header s) ≡ true → AcceptedHeader s
unfolding call_header header_of_width text_head refused_head
accepted-parts s h =
    let w = length_width s in
    let n = text_length (length_width s) s in
    let k : eqb (length_width s) 0 ≡ false = accepted-second (eqb (length_width s) 0) (refused_head Refusal.Magic) (header_of_width (length_width s) s) refl h in
    let h1 : is_accepted (header_of_width (length_width s) s) ≡ true = rw k at h in
    let f : (leb (8 + length_width s) (length s) && text_fits n (8 + length_width s) (length s)) ≡ true =
    accepted_first (leb (8 + length_width s) (length s) && text_fits n (8 + length_width s) (length s)) (text_head (text_of s) (8 + length_width s + n)) (refused_head Refusal.Header) refl h1 in
    let h2 : is_accepted (text_head (text_of s) (8 + length_width s + n)) ≡ true = rw f at h1 in
    let t : spelled (text_of s) (places_of (text_of s)) ≡ true =
    accepted_first (spelled (text_of s) (places_of (text_of s))) _ (refused_head Refusal.Header) refl h2 in
    record {
      known = eqb-false _ _ k;
      lengthy = leb-true _ _ (and_left (leb (8 + length_width s) (length s)) (text_fits n (8 + length_width s) (length s)) f);
      fits = and_right (leb (8 + length_width s) (length s)) (text_fits n (8 + length_width s) (length s)) f;
      spells = t;
      reads = rw (k, f);
    }

pub text_at : (t : List ℕ) (at : ℕ) → spelled t (places_of t) ≡ true → (given (text_head t at)).at ≡ at
unfolding text_head accepted_head
text_at t at e = rw e

-- the place of the data: a multiple of 16, 1,012 at most
pub data_place : (s : List ℕ) → is_accepted (call_header s) ≡ true
    → ((given (call_header s)).at ≡ 8 + length_width s + text_length (length_width s) s) × ((given (call_header s)).at % 16 ≡ 0) × ((given (call_header s)).at ≤ 1012)
data_place s h =
    let a = accepted-parts s h in
    let p : (given (call_header s)).at ≡ 8 + length_width s + text_length (length_width s) s = ap (λ (x : Answer Head). (given x).at) a.reads ∙ text_at (text_of s) _ a.spells in
    let f = fits-parts _ _ _ a.fits in
    let w = width_small s in
    (p, rw p f.3, omega arith)

-- ---- the shape: rows and columns are below 10⁹

counts_more : (b : Bool) (n m : ℕ) → suc n ≤ cond b (m + 1) 0 → (b ≡ true) × (n ≤ m)
counts_more true n m h = (refl, omega arith)
counts_more false n m h = let z : suc n ≤ 0 = h in absurd (omega arith)

digit_small : (x : ℕ) → is_digit x ≡ true → x - 0x30 ≤ 9
unfolding byte_within
digit_small x h =
    let r = and_right (leb 0x30 x) (leb x 0x39 && not (eqb x 0)) h in
    let l : x ≤ 0x39 = leb-true _ _ (and_left (leb x 0x39) (not (eqb x 0)) r) in
    omega arith

digits_small : (n k v : ℕ) (l : List ℕ) → n ≤ lead_count is_digit l → v < 10 ^ k → decimal v (take n l) < 10 ^ (k + n)
unfolding lead_count decimal
digits_small zero k v l h b = let e : k + 0 ≡ k = omega arith in rw e b
digits_small (suc n) k v [] h b = let z : suc n ≤ 0 = h in omega arith
digits_small (suc n) k v (x ∷ xs) h b =
    let m : (is_digit x ≡ true) × (n ≤ lead_count is_digit xs) = counts_more (is_digit x) n (lead_count is_digit xs) h in
    let d = digit_small x m.0 in
    let e : k + suc n ≡ suc k + n = omega arith in
    let t : v * 10 + (x - 0x30) < 10 ^ suc k = rw pow-suc (omega arith) in
    rw e (digits_small n (suc k) (v * 10 + (x - 0x30)) xs m.1 t)

decimal_small : (t : List ℕ) (at n : ℕ) → n ≡ end_of is_digit t at - at → n ≤ 9 → decimal 0 (take n (drop at t)) < 10 ^ 9
unfolding end_of
decimal_small t at n e h =
    let l : n ≤ lead_count is_digit (drop at t) = omega arith in
    let d : decimal 0 (take n (drop at t)) < 10 ^ (0 + n) = digits_small n 0 0 (drop at t) l (lit< tt) in
    lt_of_lt_of_le d (pow-le-pow_right {n = 10} (lit< tt) {i = 0 + n} {j = 9} (omega arith))

shape_of : (t : List ℕ) (at : ℕ) → spelled t (places_of t) ≡ true → ((given (text_head t at)).rows < 10 ^ 9) × ((given (text_head t at)).cols < 10 ^ 9)
unfolding text_head accepted_head rows_end cols_end
shape_of t at e =
    let p = spelled-parts t e in
    rw e
    (decimal_small t (rows_at t) (rows_end t - rows_at t) refl (number_size _ _ p.rows).1, decimal_small t (cols_at t) (cols_end t - cols_at t) refl (number_size _ _ p.cols).1)

pub shape_small : (s : List ℕ) → is_accepted (call_header s) ≡ true → ((given (call_header s)).rows < 10 ^ 9) × ((given (call_header s)).cols < 10 ^ 9)
shape_small s h = let a = accepted-parts s h in rw a.reads (shape_of (text_of s) _ a.spells)
