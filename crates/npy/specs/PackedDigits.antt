-- Words by way of numbers that hold four digits each. Four digits are found at once: halves stand apart, and a sum turns every digit into
-- its letter. The bytes of two such numbers are a word. Assumes nothing.
use Rattle.std.specs.Prelude.{◌≡◌, refl, List, [], ◌∷◌, ◌++◌, Bool, true, false, cond, ℕ, zero, suc, ◌+◌, ◌-◌, ◌*◌, ◌/◌, ◌%◌, ◌^◌, ◌≤◌, ◌<◌, ltb, length, get_or, set, take, drop, Float}
use Rattle.std.proofs.Common.{sym, ap, ◌∙◌, append_assoc, add-one, arith, drop_of_length-le, drop-cons, drop-drop, get_or-drop, ltb-true, ltb-false}
use Rattle.std.specs.Int.{w32, to_le_bytes}
use Rattle.std.specs.Int.Bits.{bit_and}
use borrow.Rule.Slice.PartMut.{put_mid}
use Rattle.std.proofs.lemmas.Nat.Bits.{and_high}
use Rattle.std.proofs.lemmas.Nat.{and_le_l, and_le_r}
use Rattle.std.proofs.lemmas.List.Edits.{sets, sets-eq}
use Rattle.std.specs.Float.Ieee as Ieee
use Rattle.std.specs.Float.{nan, binary32}
use Rattle.npy.specs.Header.{low_first}
use Rattle.npy.specs.Lines.{hex_of, hex_word, word_of}
use Rattle.npy.specs.LineMaking.{words_of}
use Rattle.npy.specs.BitFields.{fields, Below, halves, halves-below, halved, fields_and, fields_add, fields_mul, fields-same}

-- the lower 4 digits of a number
unfoldable pub hex_four : ℕ → List ℕ
hex_four v = hex_of (v / 0x1000 % 16) ∷ hex_of (v / 0x100 % 16) ∷ hex_of (v / 0x10 % 16) ∷ hex_of (v % 16) ∷ []

-- the digits of values, four to a number, the first one lowest: two numbers a value
unfoldable pub packed_digits : List Float → List ℕ
packed_digits [] = []
packed_digits (x ∷ xs) = low_first (hex_four (Ieee.to_bits binary32 x / 0x1_0000)) ∷ low_first (hex_four (Ieee.to_bits binary32 x)) ∷ packed_digits xs

-- the w low bytes of a number, the lowest first
unfoldable pub low_bytes : ℕ → ℕ → List ℕ
low_bytes zero v = []
low_bytes (suc w) v = v % 256 ∷ low_bytes w (v / 256)

-- n words from their digits, with the same byte after each
unfoldable pub unpacked_words : ℕ → ℕ → List ℕ → List ℕ
unpacked_words after zero d = []
unpacked_words after (suc n) d = low_bytes 4 (get_or d 0 0) ++ (low_bytes 4 (get_or d 1 0) ++ (after ∷ unpacked_words after n (drop 2 d)))

-- ---- four digits at once

-- the two bytes; a digit is a half of a byte
two_bytes : ℕ → List ℕ
two_bytes v = v / 0x100 % 0x100 ∷ v % 0x100 ∷ []

digit_parts : (v : ℕ)
    → (v / 0x1000 % 16 ≡ v / 0x100 % 0x100 / 16) × (v / 0x100 % 16 ≡ v / 0x100 % 0x100 % 16) × (v / 0x10 % 16 ≡ v % 0x100 / 16) × (v % 16 ≡ v % 0x100 % 16)
digit_parts v = omega arith

digits_are : (v : ℕ) → fields 8 hex_of (halves 4 (two_bytes v)) ≡ low_first (hex_four v)
unfolding hex_four two_bytes halves fields low_first
digits_are v = let p = digit_parts v in rw (p.0, p.1, p.2, p.3)

-- a digit without a test: the quotient is 1 where it is a letter, and 'a' comes 39 places after the character behind '9'
hex-sum : (n : ℕ) → n < 16 → n + 48 + (n + 118) / 128 * 39 ≡ hex_of n
unfolding hex_of
hex-sum n h = go (ltb n 10) refl
  where
    go : (t : Bool) → ltb n 10 ≡ t → n + 48 + (n + 118) / 128 * 39 ≡ cond t (n + 48) (n + 87)
    go true e = let l : n < 10 = ltb-true n 10 e in omega arith
    go false e = let l : 10 ≤ n = ltb-false n 10 e in omega arith

-- ---- what the code works out: the bytes apart, then the digits, then 128 where a digit is a letter. Of 128 less 1 a mask leaves 39

abbrev pub apart8 : ℕ → ℕ
apart8 v = v / 0x100 % 0x100 + v % 0x100 * 0x1_0000

abbrev pub apart4 : ℕ → ℕ
apart4 b = bit_and b 0x00f0_00f0 / 0x10 + bit_and b 0x000f_000f * 0x100

abbrev pub letters : ℕ → ℕ
letters c = bit_and (c + 0x7676_7676) 0x8080_8080

pub apart4_le : (b : ℕ) → apart4 b ≤ 0x0f0f_0f0f
apart4_le b = omega (arith, and_le_r b 0x00f0_00f0, and_le_r b 0x000f_000f)

pub sum_fits : (c m : ℕ) → c ≤ 0x0f0f_0f0f → c + 0x3030_3030 + bit_and (letters c - letters c / 0x80) m < 2 ^ 32
sum_fits c m h = omega (arith, and_le_l (letters c - letters c / 0x80) m, and_le_r (c + 0x7676_7676) 0x8080_8080)

pub four_at_once : (v : ℕ)
    → apart4 (apart8 v) + 0x3030_3030 + bit_and (letters (apart4 (apart8 v)) - letters (apart4 (apart8 v)) / 0x80) 0x2727_2727 ≡ low_first (hex_four v)
unfolding two_bytes halves fields
four_at_once v =
    let ps = two_bytes v in
    let ds = halves 4 ps in
    let letter : ℕ → ℕ = λ d. (d + 118) / 128 in
    let hp : Below (2 ^ 8) ps = (omega arith, (omega arith, tt)) in
    let hd : Below (2 ^ 4) ds = halves-below 4 ps hp in
    let b : apart8 v ≡ fields 16 (λ p. p) ps = omega arith in
    let c : apart4 (apart8 v) ≡ fields 8 (λ p. p) ds = rw b (halved 4 ps hp) in
    let s : letters (fields 8 (λ p. p) ds) ≡ fields 8 letter ds * 128 =
    rw (fields_add 8 (λ d. d) (λ d. 118) ds, fields_and 8 128 16 (λ d. d + 118) (λ d. letter d * 128) ds (omega arith) top hd) (sym (fields_mul 8 128 letter ds)) in
    let t : bit_and (fields 8 letter ds * 128 - fields 8 letter ds * 128 / 0x80) 0x2727_2727 ≡ fields 8 (λ d. letter d * 39) ds =
    ap (λ (n : ℕ). bit_and n 0x2727_2727) (less (fields 8 letter ds) ∙ fields_mul 8 127 letter ds)
    ∙ fields_and 8 39 16 (λ d. letter d * 127) (λ d. letter d * 39) ds (omega arith) (λ d l. (omega arith, masked (letter d) (omega arith))) hd in
    rw (c, s, t, fields_add 8 (λ d. d) (λ d. 48) ds, fields_add 8 (λ d. d + 48) (λ d. letter d * 39) ds)
    (fields-same 8 16 (λ d. d + 48 + letter d * 39) hex_of ds hex-sum hd ∙ digits_are v)
  where
    top : (d : ℕ) → d < 16 → (d + 118 < 2 ^ 8) × (bit_and (d + 118) 128 ≡ (d + 118) / 128 * 128)
    top d l = (omega arith, and_high (d + 118) 1 7 ∙ omega arith)

    less : (n : ℕ) → n * 128 - n * 128 / 0x80 ≡ n * 127
    less n = omega arith

    masked : (n : ℕ) → n < 2 → bit_and (n * 127) 39 ≡ n * 39
    masked zero h = refl
    masked (suc zero) h = refl
    masked (suc (suc n)) h = absurd (omega arith)

-- ---- the digits of values, one after the other

pub packed_more : (v : List Float) (l : List ℕ) (i u a b : ℕ) → i < length v → u ≡ Ieee.to_bits binary32 (get_or v i nan) → a ≡ low_first (hex_four (u / 0x1_0000)) → b ≡ low_first (hex_four u)
    → sets (set (set l (2 * i) a) (2 * i + 1) b) (2 * (i + 1)) (packed_digits (drop (i + 1) v)) ≡ sets l (2 * i) (packed_digits (drop i v))
unfolding packed_digits
packed_more v l i u a b h eu ea eb =
    let p : 2 * i + 1 ≡ suc (2 * i) = omega arith in
    let q : 2 * (i + 1) ≡ suc (suc (2 * i)) = omega arith in
    rw (ea, eb, eu, p, q, add-one i, drop-cons v i nan h)

pub packed_done : (v : List Float) (l : List ℕ) (i : ℕ) → length v ≤ i → l ≡ sets l (2 * i) (packed_digits (drop i v))
unfolding packed_digits
packed_done v l i h = rw (drop_of_length-le v h)

packed_length : (v : List Float) → length (packed_digits v) ≡ 2 * length v
unfolding packed_digits
packed_length [] = refl
packed_length (x ∷ v) = let h = packed_length v in omega arith

-- ---- the bytes of four digits

low_four : (v : ℕ) → to_le_bytes w32 v ≡ low_bytes 4 v
unfolding low_bytes
low_four v =
    let q2 : v / 0x1_0000 ≡ v / 256 / 256 = omega arith in
    let q3 : v / 0x100_0000 ≡ v / 256 / 256 / 256 = omega arith in
    rw (q2, q3)

low_length : (v : ℕ) → length (low_bytes 4 v) ≡ 4
unfolding low_bytes
low_length v = refl

pub four_stored : (l : List ℕ) (o v : ℕ)
    → set (set (set (set l o (v % 256)) (o + 1) (v / 0x100 % 256)) (o + 2) (v / 0x1_0000 % 256)) (o + 3) (v / 0x100_0000 % 256) ≡ sets l o (low_bytes 4 v)
unfolding low_bytes
four_stored l o v =
    let p1 : o + 1 ≡ suc o = omega arith in
    let p2 : o + 2 ≡ suc (suc o) = omega arith in
    let p3 : o + 3 ≡ suc (suc (suc o)) = omega arith in
    let q2 : v / 0x1_0000 ≡ v / 256 / 256 = omega arith in
    let q3 : v / 0x100_0000 ≡ v / 256 / 256 / 256 = omega arith in
    rw (p1, p2, p3, q2, q3)

pub four_copied : (l : List ℕ) (o v : ℕ) (b m : List ℕ) → o + 4 ≤ length l → b ≡ to_le_bytes w32 v → m ≡ b → put_mid o (o + 4 - o) l m ≡ sets l o (low_bytes 4 v)
four_copied l o v b m h eb em =
    let e : m ≡ low_bytes 4 v = em ∙ eb ∙ low_four v in
    let k : o + 4 - o ≡ 4 = omega arith in
    rw (e, k, sets-eq (low_bytes 4 v) l o (omega (arith, low_length v)), low_length v)
    (ap (λ (t : List ℕ). take o l ++ (low_bytes 4 v ++ t)) (drop-drop 4 o l) ∙ sym (append_assoc (take o l) (low_bytes 4 v) (drop (o + 4) l)))

hex-byte : (n : ℕ) → hex_of (n % 16) < 256
hex-byte n = let e = hex-sum (n % 16) (omega arith) in omega arith

bytes_of : (l : List ℕ) → Below 256 l → low_bytes (length l) (low_first l) ≡ l
unfolding low_bytes low_first
bytes_of [] h = refl
bytes_of (b ∷ l) h =
    let s : b < 256 = h.0 in
    let p : (b + 256 * low_first l) % 256 ≡ b = omega arith in
    let q : (b + 256 * low_first l) / 256 ≡ low_first l = omega arith in
    rw (p, q, bytes_of l h.1)

four_bytes : (v : ℕ) → low_bytes 4 (low_first (hex_four v)) ≡ hex_four v
unfolding hex_four
four_bytes v = bytes_of (hex_four v) (hex-byte _, (hex-byte _, (hex-byte _, (hex-byte _, tt))))

-- a word is the digits of its upper half, and then those of its lower half
two_fours : (v : ℕ) → hex_four (v / 0x1_0000) ++ hex_four v ≡ hex_word v
unfolding hex_four hex_word
two_fours v =
    let a : v / 0x1_0000 / 0x1000 % 16 ≡ v / 0x1000_0000 % 16 = omega arith in
    let b : v / 0x1_0000 / 0x100 % 16 ≡ v / 0x100_0000 % 16 = omega arith in
    let c : v / 0x1_0000 / 0x10 % 16 ≡ v / 0x10_0000 % 16 = omega arith in
    rw (a, b, c)

-- joined, the digits of values are their words, whatever stands after them
unpacked_packed : (v : List Float) (rest : List ℕ) (after : ℕ) → unpacked_words after (length v) (packed_digits v ++ rest) ≡ words_of after v
unfolding unpacked_words packed_digits words_of word_of
unpacked_packed [] rest after = refl
unpacked_packed (x ∷ v) rest after =
    let u = Ieee.to_bits binary32 x in
    rw (four_bytes (u / 0x1_0000), four_bytes u, unpacked_packed v rest after, ← two_fours u, append_assoc)

pub unpacked_words_lem : (v : List Float) (d l o m : List ℕ) (after at : ℕ) → 2 * length v ≤ length d → l ≡ sets d 0 (packed_digits v) → m ≡ sets o at (unpacked_words after (length v) l)
    → m ≡ sets o at (words_of after v)
unpacked_words_lem v d l o m after at h el em =
    let j : unpacked_words after (length v) l ≡ words_of after v = rw (el, sets-eq (packed_digits v) d 0 (omega (arith, packed_length v))) (unpacked_packed v _ after) in
    em ∙ ap (sets o at) j

-- ---- words one after the other

pub unpacked_more : (d l m r : List ℕ) (after n at i : ℕ) → i < n → m ≡ sets l (at + 9 * i) (low_bytes 4 (get_or d (2 * i) 0)) → r ≡ sets m (at + 9 * i + 4) (low_bytes 4 (get_or d (2 * i + 1) 0))
    → sets (set r (at + 9 * i + 8) after) (at + 9 * (i + 1)) (unpacked_words after (n - (i + 1)) (drop (2 * (i + 1)) d)) ≡ sets l (at + 9 * i) (unpacked_words after (n - i) (drop (2 * i) d))
unfolding unpacked_words low_bytes
unpacked_more d l m r after n at i h em er =
    let o = at + 9 * i in
    let a : n - i ≡ suc (n - (i + 1)) = omega arith in
    let b : 2 * (i + 1) ≡ 2 * i + 2 = omega arith in
    let z : 2 * i + 0 ≡ 2 * i = omega arith in
    let p4 : o + 4 ≡ suc (suc (suc (suc o))) = omega arith in
    let p8 : o + 8 ≡ suc (suc (suc (suc (suc (suc (suc (suc o))))))) = omega arith in
    let p9 : at + 9 * (i + 1) ≡ suc (suc (suc (suc (suc (suc (suc (suc (suc o)))))))) = omega arith in
    rw (er, em, a, b, p4, p8, p9, get_or-drop (2 * i) d 0 0, get_or-drop (2 * i) d 1 0, z, drop-drop 2 (2 * i) d)

pub unpacked_done : (d l : List ℕ) (after n i o : ℕ) → n ≤ i → l ≡ sets l o (unpacked_words after (n - i) d)
unfolding unpacked_words
unpacked_done d l after n i o h = let a : n - i ≡ 0 = omega arith in rw a
