-- The square root of document 01, case by case, and that its rule admits one answer, over patterns and over numbers. Assumes nothing.
use Rattle.std.specs.Prelude.{◌≡◌, refl, Bool, true, false, ℕ, zero, suc, ◌+◌, ◌-◌, ◌*◌, ◌^◌, ◌≤◌, ◌<◌, ℤ, T, Float}
use Rattle.std.proofs.Common.{sym, ap, ◌∙◌, subst, true≢false, arith, ltb-true}
use Rattle.std.proofs.Math.Nat.{eq_of_mul-eq-mul_right}
use Rattle.std.specs.Float.{nan, inf, fin, binary32}
use Rattle.std.specs.Float.Ieee.{of_bits, to_bits, fits, lt, up, down}
use Rattle.std.specs.Float.Ieee.Bits.{of_bits-to_bits}
use Rattle.std.specs.Float.Ieee.Exact.{HasValue}
use Rattle.std.specs.Float.Ieee.Fits.{down_pos}
use Rattle.float.specs.F32 as F
use Rattle.float.specs.FloatLaws.{above_zero, zero_not_above}
use Rattle.root.specs.Root.{root, root_bits, scaled, twice_middle, fourfold}
use Rattle.root.specs.Neighbours.{Neighbours, value-plain, pattern_of, neighbours, next_pattern}
use Rattle.root.specs.Patterns.{smaller, twice_middle_is, twice_middle-next, fourfold_is}
use Rattle.root.specs.RootLaws.{root_finite}
use Rattle.root.specs.RootTheorem.{IsRoot, is_root}
use Rattle.root.specs.RootTies.{rule_unique}
use Rattle.root.specs.Values.{pattern_value, finite_bits, low_bits, some_bits}

-- of ±0, itself; of NaN, NaN; of +infinity, itself
pub root-zero : (s : Bool) (e : ℤ) → root (fin s 0 e) ≡ fin s 0 e
unfolding root
root-zero s e = refl

pub root_nan : root nan ≡ nan
unfolding root
root_nan = refl

pub root_infinity : root (inf false) ≡ inf false
unfolding root
root_infinity = refl

-- of a number below zero, NaN
pub root_below : (x : Float) → lt x F.zero ≡ true → root x ≡ nan
unfolding root lt of_bits
root_below nan h = refl
root_below (inf true) h = refl
root_below (inf false) h = cc
root_below (fin true zero e) h = absurd (omega (arith, ltb-true 0 (0 * up e * 1 + 0 * down e) h))
root_below (fin true (suc m) e) h = refl
root_below (fin false zero e) h = absurd (omega (arith, ltb-true (0 * up e * 1) (0 * down e) h))
root_below (fin false (suc m) e) h = absurd (omega (arith, ltb-true (suc m * up e * 1) (0 * down e) h))

-- of a number above zero: the rule, and that no other pattern z keeps it, so that no tie can occur (`twice_middle z` is z + p, `twice_middle (suc z)` is z + s and `fourfold b` is 4x)
pub record PatternRule (x : Float) : Type 0 where
  pub b : ℕ
  pub y : ℕ
  pub x_is : of_bits binary32 b ≡ x
  pub root_is : root x ≡ of_bits binary32 y
  pub rule : IsRoot b y
  pub only : (z : ℕ) → twice_middle z * twice_middle z ≤ fourfold b → fourfold b ≤ twice_middle (suc z) * twice_middle (suc z) → z ≡ y

pub pattern_rule : (m : ℕ) (e : ℤ) → T (fits binary32 (fin false (suc m) e)) → PatternRule (fin false (suc m) e)
unfolding root
pattern_rule m e fit =
    let x = fin false (suc m) e in
    let b = to_bits binary32 x in
    let B = some_bits x fit (above_zero m e) in
    record {
      b = b;
      y = root_bits b;
      x_is = of_bits-to_bits binary32 x fit;
      root_is = refl;
      rule = is_root b B (finite_bits m e fit);
      only = λ z h k. rule_unique b z B (low_bits m e fit) h k;
    }

-- ---- the same over numbers alone

-- Document 01's rule for a number x and an answer y: y's neighbours among the binary32 are p and s, and (y + p)² ≤ 4x ≤ (y + s)².
-- The four numbers are whole multiples of 2 ^ -149, the smallest value.
pub record NearestRoot (x y : Float) : Type 0 where
  pub p : Float
  pub s : Float
  pub p_below : Neighbours p y
  pub s_above : Neighbours y s
  pub x_units : ℕ
  pub y_units : ℕ
  pub p_units : ℕ
  pub s_units : ℕ
  pub x_value : HasValue x false x_units (2 ^ 149)
  pub y_value : HasValue y false y_units (2 ^ 149)
  pub p_value : HasValue p false p_units (2 ^ 149)
  pub s_value : HasValue s false s_units (2 ^ 149)
  pub not-less : (y_units + p_units) * (y_units + p_units) ≤ 4 * x_units * 2 ^ 149
  pub not_more : 4 * x_units * 2 ^ 149 ≤ (y_units + s_units) * (y_units + s_units)

-- at a pattern b of x, whose root has the pattern `root_bits b`
pub nearest_at : (b : ℕ) → 0 < b → b < 255 * 2 ^ 23 → NearestRoot (of_bits binary32 b) (of_bits binary32 (root_bits b))
nearest_at b B h =
    let y = root_bits b in
    let below = y - 1 in
    let above = y + 1 in
    let r = is_root b B h in
    let some : below < y = smaller below y r.p_below in
    let far : y < 254 * 2 ^ 23 = root_finite b (omega arith) in
    record {
      p = of_bits binary32 below;
      s = of_bits binary32 above;
      p_below = neighbours below y (omega arith) (omega arith) (omega arith);
      s_above = neighbours y above (omega arith) (omega arith) (omega arith);
      x_units = scaled b;
      y_units = scaled y;
      p_units = scaled below;
      s_units = scaled above;
      x_value = r.x_value;
      y_value = r.y_value;
      p_value = r.p_value;
      s_value = r.s_value;
      not-less = r.not-less;
      not_more = r.not_more;
    }

-- one number has one multiple
same_units : (x : Float) (a b c : ℕ) → HasValue x false a c → HasValue x false b c → a ≡ b
same_units nan a b c p q = absurd p
same_units (inf s) a b c p q = absurd p
same_units (fin s m e) a b c p q = eq_of_mul-eq-mul_right (down e) (down_pos e) a b (sym p.1 ∙ q.1)

only_at : (b : ℕ) → 0 < b → b < 255 * 2 ^ 23 → (y : Float) → NearestRoot (of_bits binary32 b) y → y ≡ of_bits binary32 (root_bits b)
only_at b B h y R =
    let unit = 2 ^ 149 in
    let Y = pattern_of y (value-plain y R.y_units unit R.y_value) R.p_below.high_fits in
    let P = pattern_of R.p (value-plain R.p R.p_units unit R.p_value) R.p_below.low_fits in
    let S = pattern_of R.s (value-plain R.s R.s_units unit R.s_value) R.s_above.high_fits in
    let v = Y.bits in
    let up_to : v ≡ suc P.bits = next_pattern R.p y R.p_below P Y in
    let up_from : S.bits ≡ suc v = next_pattern y R.s R.s_above Y S in
    let xu : R.x_units ≡ scaled b = same_units (of_bits binary32 b) R.x_units (scaled b) unit R.x_value (pattern_value b h) in
    let yu : R.y_units ≡ scaled v = same_units y R.y_units (scaled v) unit R.y_value Y.value in
    let pu : R.p_units ≡ scaled (v - 1) = same_units R.p R.p_units (scaled P.bits) unit R.p_value P.value ∙ ap scaled (omega arith) in
    let su : R.s_units ≡ scaled (v + 1) = same_units R.s R.s_units (scaled S.bits) unit R.s_value S.value ∙ ap scaled (omega arith) in
    let least : twice_middle v * twice_middle v ≤ fourfold b = rw (twice_middle_is v, fourfold_is b) (rw (xu, yu, pu) at R.not-less) in
    let most : fourfold b ≤ twice_middle (suc v) * twice_middle (suc v) = rw (twice_middle-next v, fourfold_is b) (rw (xu, yu, su) at R.not_more) in
    sym Y.is ∙ ap (of_bits binary32) (rule_unique b v B (omega arith) least most)

-- a pattern of a number above zero and below infinity, and one of its root
pub record IsPositive (x : Float) : Type 0 where
  pub bits : ℕ
  pub some : 0 < bits
  pub finite : bits < 255 * 2 ^ 23
  pub x_is : of_bits binary32 bits ≡ x
  pub root_is : of_bits binary32 (root_bits bits) ≡ root x

pub is_positive : (x : Float) → T (fits binary32 x) → lt F.zero x ≡ true → lt x (inf false) ≡ true → IsPositive x
unfolding lt of_bits root
is_positive nan fit h k = absurd (true≢false (sym h))
is_positive (inf true) fit h k = absurd (true≢false (sym h))
is_positive (inf false) fit h k = absurd (true≢false (sym k))
is_positive (fin true m e) fit h k = absurd (true≢false (sym h))
is_positive (fin false zero e) fit h k = absurd (true≢false (sym h ∙ zero_not_above e))
is_positive (fin false (suc m) e) fit h k =
    let x = fin false (suc m) e in
    record { bits = to_bits binary32 x; some = some_bits x fit h; finite = finite_bits m e fit; x_is = of_bits-to_bits binary32 x fit; root_is = refl }

-- Only the root keeps the rule; that it does stands in proofs/RootKeepsRule.antt.
pub only_root_keeps_rule : (x y : Float) → T (fits binary32 x) → lt F.zero x ≡ true → lt x (inf false) ≡ true → NearestRoot x y → y ≡ root x
only_root_keeps_rule x y fit h k R = let i = is_positive x fit h k in only_at i.bits i.some i.finite y (subst (λ (z : Float). NearestRoot z y) (sym i.x_is) R) ∙ i.root_is
