-- Laws of what `put_line` and `put_lines` write: what fits, and what is left where it does not. Assumes nothing.
use Rattle.std.specs.Prelude.{◌≡◌, refl, List, [], ◌∷◌, Bool, true, false, cond, ◌&&◌, ℕ, zero, suc, ◌+◌, ◌-◌, ◌*◌, ◌/◌, ◌%◌, ◌≤◌, ◌<◌, length, eqb, ltb, leb, Float}
use Rattle.std.proofs.Common.{sym, ◌∙◌, append-nil, arith, lt-ltb, le-leb, leb-true, leb-false, ltb-true, eqb-true}
use Rattle.std.proofs.Math.Nat.{mod_self, div_self}
use Rattle.std.proofs.Math.Seq.{take-length}
use Rattle.std.proofs.lemmas.Bool.{lt-leb}
use Rattle.lemmas.specs.Cases.{and_left, and_right}
use Rattle.npy.specs.Lines.{line_of, lines_of}
use Rattle.npy.specs.PutLines.{line_fits, line_end, put_line, lines_fit, lines_end, put_lines}

line_room : (at n len : ℕ) (b : Bool) → b ≡ line_fits at n len → b ≡ true → at + 9 * n ≤ len
unfolding line_fits
line_room at n len b e h =
    let t : (leb at len && leb n ((len - at) / 9)) ≡ true = sym e ∙ h in
    let p : at ≤ len = leb-true _ _ (and_left (leb at len) (leb n ((len - at) / 9)) t) in
    let q : n ≤ (len - at) / 9 = leb-true _ _ (and_right (leb at len) (leb n ((len - at) / 9)) t) in
    omega arith

-- what is left where a test refuses, and where it does not
pub unwritten : {b fits : Bool} (at end : ℕ) (l m : List ℕ) → b ≡ fits → b ≡ false → (at ≡ cond fits end at) × (l ≡ cond fits m l)
unwritten at end l m e h = let t = sym e ∙ h in (rw t, rw t)

pub written : {b fits : Bool} (at end : ℕ) (l m w : List ℕ) → b ≡ fits → b ≡ true → w ≡ m → (end ≡ cond fits end at) × (w ≡ cond fits m l)
written at end l m w e h g = let t = sym e ∙ h in (rw t, g ∙ rw t)

cond_same {ℓ} : {A : Type ℓ} (t : Bool) (a : A) → a ≡ cond t a a
cond_same true a = refl
cond_same false a = refl

pub lines-room : (at k n len : ℕ) (b : Bool) → b ≡ lines_fit at k n len → b ≡ true → (1 ≤ k) × (n % k ≡ 0) × (at + 9 * n ≤ len)
unfolding lines_fit
lines-room at k n len b e h =
    let t : (ltb 0 k && (eqb (n % k) 0 && line_fits at n len)) ≡ true = sym e ∙ h in
    let u = and_right (ltb 0 k) (eqb (n % k) 0 && line_fits at n len) t in
    (ltb-true _ _ (and_left (ltb 0 k) (eqb (n % k) 0 && line_fits at n len) t), eqb-true _ _ (and_left (eqb (n % k) 0) (line_fits at n len) u), line_room at n len _ refl (and_right (eqb (n % k) 0) (line_fits at n len) u))

-- a row alone is rows of its length
pub line_alone : (at r : ℕ) (v : List Float) (l m : List ℕ) → (r ≡ lines_end at (length v) (length v) (length l)) × (m ≡ put_lines l at (length v) v)
    → (r ≡ line_end at (length v) (length l)) × (m ≡ put_line l at v)
unfolding lines_end line_end put_lines put_line lines_fit lines_of line_of
line_alone at r [] l m h = let p : at + 9 * 0 ≡ at = omega arith in (h.0 ∙ rw p (cond_same (line_fits at 0 (length l)) at), h.1 ∙ cond_same (line_fits at 0 (length l)) l)
line_alone at r (x ∷ v) l m h =
    let n = suc (length v) in
    let t : ltb 0 n ≡ true = lt-ltb 0 n (omega arith) in
    let one : n / n ≡ suc zero = div_self {n = n} (omega arith) in
    (h.0 ∙ rw (mod_self n, t), h.1 ∙ rw (mod_self n, t, one, take-length v, append-nil))

-- a quotient by 9 compared, by a product
pub by_product : (n m : ℕ) → leb (n * 9) m ≡ leb n (m / 9)
by_product n m = go (leb n (m / 9)) refl
  where
    go : (t : Bool) → leb n (m / 9) ≡ t → leb (n * 9) m ≡ t
    go true e = le-leb (n * 9) m (let h : n ≤ m / 9 = leb-true n (m / 9) e in omega arith)
    go false e = lt-leb (n * 9) m (let h : m / 9 < n = leb-false n (m / 9) e in omega arith)
