-- The end of a text: a line is written whole or not at all. Assumes nothing.
use Rattle.std.specs.Prelude.{◌≡◌, Option, Some, None, Bool, true, false, ℕ, ◌+◌, ◌/◌, ◌%◌, ◌≤◌, ◌<◌, get_or, set, drop}
use Rattle.std.proofs.Math.Path.{refl}
use Rattle.std.proofs.Common.{sym, ◌∙◌, true≢false, add-one, arith, lt-ltb, le-ltb, le-leb, drop_of_length-le, drop-cons}
use mathlib.Core.List.{List, [], ◌∷◌, ◌++◌}
use Rattle.std.proofs.lemmas.Bool.{lt-leb}
use Rattle.std.proofs.Math.ListN.{length}
use Rattle.std.proofs.lemmas.List.Edits.{sets, sets-eq}
use Rattle.refusal.specs.declared.Refusal.{Refusal}
use Rattle.refusal.specs.Answers.{passes, refusal_number}
use Rattle.trace.specs.Trace.{in_decimal, refused_word, refused_line, reason_text}
use Rattle.trace.specs.Slices.{wrote, wrote_count}

-- ---- a text written byte by byte

pub text-more : (t l : List ℕ) (i o : ℕ) → i < length t → sets (set l o (get_or t i 0)) (o + 1) (drop (i + 1) t) ≡ sets l o (drop i t)
text-more t l i o h = rw (drop-cons t i 0 h, add-one i, add-one o)

pub text_done : (t l : List ℕ) (i o : ℕ) → length t ≤ i → l ≡ sets l o (drop i t)
text_done t l i o h = rw (drop_of_length-le t h)

-- ---- whole or not at all

module _ (out text : List ℕ) where
  pub wrote_none : length out < length text → (0 ≡ wrote_count out text) × (out ≡ wrote out text)
  unfolding wrote_count wrote
  wrote_none h = (rw (lt-leb (length text) (length out) h), rw (lt-leb (length text) (length out) h))

  pub wrote_all : (n : ℕ) (out' : List ℕ) → n ≡ length text → n ≤ length out → out' ≡ sets out 0 text → (n ≡ wrote_count out text) × (out' ≡ wrote out text)
  unfolding wrote_count wrote
  wrote_all n out' e h g =
      let t : length text ≤ length out = rw e at h in
      (e ∙ rw (le-leb (length text) (length out) t), g ∙ rw (le-leb (length text) (length out) t))

-- a text is what the front of the same length is made to hold
pub wrote_front : (out text m : List ℕ) → length text ≤ length out → m ≡ text → (length text ≡ wrote_count out text) × (m ++ drop (length text) out ≡ wrote out text)
wrote_front out text m h e =
    let z : 0 + length text ≡ length text = omega arith in
    let put : m ++ drop (length text) out ≡ sets out 0 text = rw (e, sets-eq text out 0 (omega arith), z) in
    wrote_all out text (length text) _ refl h put

-- ---- `refused N`

pub one_digit : (why : Option Refusal) (n : ℕ) → n ≡ refusal_number why → n < 10 → refused_line why ≡ refused_word ++ ((n + 48) ∷ 10 ∷ [])
unfolding refused_line in_decimal
one_digit why n e h = rw (← e, lt-ltb n 10 h)

pub two_digits : (why : Option Refusal) (n : ℕ) → n ≡ refusal_number why → 10 ≤ n → refused_line why ≡ refused_word ++ ((n / 10 + 48) ∷ (n % 10 + 48) ∷ 10 ∷ [])
unfolding refused_line in_decimal
two_digits why n e h = rw (← e, le-ltb n 10 h)

module _ (why : Option Refusal) (n : ℕ) (e : n ≡ refusal_number why) (out : List ℕ) where
  pub one_digit_short : n < 10 → length out < 10 → (0 ≡ wrote_count out (refused_line why)) × (out ≡ wrote out (refused_line why))
  one_digit_short h g = rw (one_digit why n e h) (wrote_none out (refused_word ++ ((n + 48) ∷ 10 ∷ [])) g)

  pub two-digits-short : 10 ≤ n → length out < 11 → (0 ≡ wrote_count out (refused_line why)) × (out ≡ wrote out (refused_line why))
  two-digits-short h g = rw (two_digits why n e h) (wrote_none out (refused_word ++ ((n / 10 + 48) ∷ (n % 10 + 48) ∷ 10 ∷ [])) g)

  pub one_digit_written : (out' : List ℕ) → n < 10 → 10 ≤ length out → out' ≡ sets out 0 refused_word
      → (10 ≡ wrote_count out (refused_line why)) × (set (set out' 8 (n + 48)) 9 10 ≡ wrote out (refused_line why))
  one_digit_written out' h g e' = rw (one_digit why n e h) (wrote_all out (refused_word ++ ((n + 48) ∷ 10 ∷ [])) 10 _ refl g (rw e'))

  pub two-digits-written : (out' : List ℕ) → 10 ≤ n → 11 ≤ length out → out' ≡ sets out 0 refused_word
      → (11 ≡ wrote_count out (refused_line why)) × (set (set (set out' 8 (n / 10 + 48)) 9 (n % 10 + 48)) 10 10 ≡ wrote out (refused_line why))
  two-digits-written out' h g e' = rw (two_digits why n e h) (wrote_all out (refused_word ++ ((n / 10 + 48) ∷ (n % 10 + 48) ∷ 10 ∷ [])) 11 _ refl g (rw e'))

-- ---- the line that a refusal adds

none_text : (why : Option Refusal) → passes why ≡ true → reason_text why ≡ []
none_text None h = refl
none_text (Some why) h = absurd (true≢false (sym h))

some_text : (why : Option Refusal) → passes why ≡ false → (refusal : Refusal) × (why ≡ Some refusal) × (reason_text why ≡ refused_line why)
some_text None h = absurd (true≢false h)
some_text (Some why) h = (why, refl, refl)

module _ (why : Option Refusal) (t : Bool) (e : t ≡ passes why) where
  pub reason_none : t ≡ true → (out : List ℕ) → (0 ≡ wrote_count out (reason_text why)) × (out ≡ wrote out (reason_text why))
  reason_none h out = rw (none_text why (sym e ∙ h)) (wrote_all out [] 0 out refl (omega arith) refl)

  pub reason_some : t ≡ false → (refusal : Refusal) × (why ≡ Some refusal) × (reason_text why ≡ refused_line why)
  reason_some h = some_text why (sym e ∙ h)
