-- Lines made of words with spaces: words in parts, and a line feed in place of the last space of each line. Assumes nothing.
use Rattle.std.specs.Prelude.{◌≡◌, refl, List, [], ◌∷◌, ◌++◌, ℕ, zero, suc, ◌+◌, ◌-◌, ◌*◌, ◌/◌, ◌%◌, ◌≤◌, ◌<◌, length, set, take, drop, Float}
use Rattle.std.proofs.Common.{sym, ap, ◌∙◌, zero-mul, suc-mul, mul_left_comm, div-one, div-add-mod', arith, length-drop, take-append-drop, length-take-le, set-set, drop-drop, drop_of_length-le}
use Rattle.std.proofs.lemmas.List.{set_comm}
use Rattle.std.proofs.lemmas.List.Edits.{sets}
use Rattle.lemmas.specs.Lists.{sets_append}
use Rattle.npy.specs.Lines.{hex_word, word_of, after_word, line_of, lines_of}
use Rattle.npy.specs.LineMaking.{words_of, end_lines}
use Rattle.npy.specs.LinesLaws.{line_length}

-- ---- stores one after the other

-- a store before others can be the last one
set_before : (b l : List ℕ) (o i c : ℕ) → i < o → set (sets l o b) i c ≡ sets (set l i c) o b
set_before [] l o i c h = refl
set_before (y ∷ b) l o i c h =
    set_before b (set l o y) (suc o) i c (omega arith) ∙ ap (λ (m : List ℕ). sets m (suc o) b) (set_comm l o i y c (λ e. omega arith))

-- one of the stored bytes is changed
set_within : (a b l : List ℕ) (o y c : ℕ) → set (sets l o (a ++ (y ∷ b))) (o + length a) c ≡ sets l o (a ++ (c ∷ b))
set_within a b l o y c =
    let p = o + length a in
    let m = sets l o a in
    rw (sets_append a (y ∷ b) l o, sets_append a (c ∷ b) l o)
    (set_before b (set m p y) (suc p) p c (omega arith) ∙ ap (λ (r : List ℕ). sets r (suc p) b) (set-set m p y c))

-- ---- words

words_append : (after : ℕ) (v w : List Float) → words_of after (v ++ w) ≡ words_of after v ++ words_of after w
unfolding words_of word_of hex_word
words_append after [] w = refl
words_append after (x ∷ v) w = rw (words_append after v w)

words_length : (after : ℕ) (v : List Float) → length (words_of after v) ≡ 9 * length v
unfolding words_of word_of hex_word
words_length after [] = refl
words_length after (x ∷ v) = let h = words_length after v in omega arith

-- the words of a part, and then those of the rest
pub words_more : (v : List Float) (l m : List ℕ) (after at i e : ℕ) → i ≤ e → e ≤ length v → m ≡ sets l (at + 9 * i) (words_of after (take (e - i) (drop i v)))
    → sets m (at + 9 * e) (words_of after (drop e v)) ≡ sets l (at + 9 * i) (words_of after (drop i v))
words_more v l m after at i e p q em =
    let k = e - i in
    let part = take k (drop i v) in
    let there : i + k ≡ e = omega arith in
    let size : length part ≡ k = length-take-le k (drop i v) (rw (length-drop i v) (omega arith)) in
    let next : at + 9 * i + length (words_of after part) ≡ at + 9 * e = omega (arith, words_length after part) in
    let rest : drop e v ≡ drop k (drop i v) = rw (drop-drop k i v, there) in
    let cut : part ++ drop e v ≡ drop i v = rw rest (take-append-drop k (drop i v)) in
    rw (em, ← next, ← sets_append (words_of after part) (words_of after (drop e v)) l (at + 9 * i), ← words_append after part (drop e v), cut)

pub words_done : (v : List Float) (l : List ℕ) (after o i : ℕ) → length v ≤ i → l ≡ sets l o (words_of after (drop i v))
unfolding words_of
words_done v l after o i h = rw (drop_of_length-le v h)

pub words_joined : (part rest v : List Float) (l m : List ℕ) (after o : ℕ) → v ≡ part ++ rest → m ≡ sets l o (words_of after part)
    → sets m (o + 9 * length part) (words_of after rest) ≡ sets l o (words_of after v)
words_joined part rest v l m after o ev em =
    let next : o + length (words_of after part) ≡ o + 9 * length part = omega (arith, words_length after part) in
    rw (em, ev, ← next, ← sets_append (words_of after part) (words_of after rest) l o, ← words_append after part rest)

pub words_all : (v : List Float) (l : List ℕ) (after o : ℕ) → length v ≡ 0 → l ≡ sets l o (words_of after v)
unfolding words_of
words_all [] l after o h = refl
words_all (x ∷ v) l after o h = let z : suc (length v) ≡ 0 = h in absurd (omega arith)

-- ---- lines

-- a line is its words with spaces, and a line feed in place of the last one
line_ended : (v w : List Float) (l : List ℕ) (o : ℕ) → 0 < length v → set (sets l o (words_of 32 (v ++ w))) (o + 9 * length v - 1) 10 ≡ sets l o (line_of v ++ words_of 32 w)
unfolding words_of line_of after_word word_of hex_word
line_ended [] w l o h = absurd (omega arith)
line_ended (x ∷ []) w l o h = let e : o + 9 * 1 - 1 ≡ o + 8 = omega arith in rw e (set_within (word_of x) (words_of 32 w) l o 32 10)
line_ended (x ∷ y ∷ v) w l o h =
    let e : o + 9 * suc (suc (length v)) - 1 ≡ suc (suc (suc (suc (suc (suc (suc (suc (suc o)))))))) + 9 * suc (length v) - 1 = omega arith in
    rw e (line_ended (y ∷ v) w (sets l o (word_of x ++ (32 ∷ []))) (suc (suc (suc (suc (suc (suc (suc (suc (suc o))))))))) (omega arith))

-- and so each of n lines of k words
lines_ended : (k n : ℕ) (v : List Float) (l : List ℕ) (o : ℕ) → 0 < k → length v ≡ n * k → end_lines n (9 * k) o (sets l o (words_of 32 v)) ≡ sets l o (lines_of k n v)
unfolding end_lines lines_of words_of
lines_ended k zero [] l o p h = refl
lines_ended k zero (x ∷ v) l o p h = absurd (omega (arith, zero-mul k))
lines_ended k (suc n) v l o p h =
    let a = take k v in
    let b = drop k v in
    let la : length a ≡ k = length-take-le k v (omega (arith, suc-mul n k)) in
    let lb : length b ≡ n * k = length-drop k v ∙ omega (arith, suc-mul n k) in
    let m = sets l o (line_of a) in
    let next : o + length (line_of a) ≡ o + 9 * k = omega (arith, line_length a) in
    let first : set (sets l o (words_of 32 v)) (o + 9 * k - 1) 10 ≡ sets m (o + 9 * k) (words_of 32 b) =
    ap (λ (u : List Float). set (sets l o (words_of 32 u)) (o + 9 * k - 1) 10) (sym (take-append-drop k v))
    ∙ ap (λ (j : ℕ). set (sets l o (words_of 32 (a ++ b))) (o + 9 * j - 1) 10) (sym la)
    ∙ line_ended a b l o (omega arith)
    ∙ sets_append (line_of a) (words_of 32 b) l o
    ∙ ap (λ (j : ℕ). sets m j (words_of 32 b)) next in
    ap (end_lines n (9 * k) (o + 9 * k)) first
    ∙ lines_ended k n b m (o + 9 * k) p lb
    ∙ ap (λ (j : ℕ). sets m j (lines_of k n b)) (sym next)
    ∙ sym (sets_append (line_of a) (lines_of k n b) l o)

-- a word alone in its line has a line feed after it
lines_of-one : (v : List Float) → words_of 10 v ≡ lines_of 1 (length v) v
unfolding words_of lines_of line_of after_word word_of hex_word
lines_of-one [] = refl
lines_of-one (x ∷ v) = rw (← lines_of-one v)

-- ---- whole rows of k values

pub rows_of_one : (v : List Float) (l m : List ℕ) (at k : ℕ) → k ≡ 1 → m ≡ sets l at (words_of 10 v) → m ≡ sets l at (lines_of k (length v / k) v)
rows_of_one v l m at k e em = em ∙ rw (e, div-one (length v), lines_of-one v)

whole_rows_exact : (n k : ℕ) → n % k ≡ 0 → n ≡ n / k * k
whole_rows_exact n k h = omega (arith, div-add-mod' n k)

pub rows_room : (n k at len : ℕ) → n % k ≡ 0 → at + 9 * n ≤ len → at + n / k * (9 * k) ≤ len
rows_room n k at len h r = rw (mul_left_comm (n / k) 9 k) (omega (arith, whole_rows_exact n k h))

pub rows_ended : (v : List Float) (l m r : List ℕ) (at k : ℕ) → 0 < k → length v % k ≡ 0 → m ≡ sets l at (words_of 32 v) → r ≡ end_lines (length v / k) (9 * k) at m
    → r ≡ sets l at (lines_of k (length v / k) v)
rows_ended v l m r at k p h em er = er ∙ rw em (lines_ended k (length v / k) v l at p (whole_rows_exact (length v) k h))

-- ---- line feeds one after the other

pub ends_more : (l : List ℕ) (left w o : ℕ) → 0 < left → end_lines (left - 1) w (o + w) (set l (o + w - 1) 10) ≡ end_lines left w o l
unfolding end_lines
ends_more l zero w o h = absurd (omega arith)
ends_more l (suc left) w o h = let a : suc left - 1 ≡ left = omega arith in rw a

pub ends_done : (l : List ℕ) (left w o : ℕ) → left ≤ 0 → l ≡ end_lines left w o l
unfolding end_lines
ends_done l left w o h = let a : left ≡ 0 = omega arith in rw a

-- the next line is there
pub ends-room : (left w o len : ℕ) → 0 < left → o + left * w ≤ len → o + w + (left - 1) * w ≤ len
ends-room zero w o len h r = absurd (omega arith)
ends-room (suc left) w o len h r =
    let a : suc left - 1 ≡ left = omega arith in
    rw a (omega (arith, suc-mul left w))

-- the same by the number of lines that have their feed
pub ends_on : (l : List ℕ) (n i w o : ℕ) → i < n → end_lines (n - (i + 1)) w (o + w) (set l (o + w - 1) 10) ≡ end_lines (n - i) w o l
unfolding end_lines
ends_on l n i w o h = let a : n - i ≡ suc (n - (i + 1)) = omega arith in rw a

pub ends_over : (l : List ℕ) (n i w o : ℕ) → n ≤ i → l ≡ end_lines (n - i) w o l
unfolding end_lines
ends_over l n i w o h = let a : n - i ≡ 0 = omega arith in rw a

-- the next line is there
pub ends_fit : (n i w o len : ℕ) → i < n → o + (n - i) * w ≤ len → o + w + (n - (i + 1)) * w ≤ len
ends_fit n i w o len h r =
    let a : n - i ≡ suc (n - (i + 1)) = omega arith in
    let b : o + suc (n - (i + 1)) * w ≤ len = rw a at r in
    omega (arith, suc-mul (n - (i + 1)) w)
