-- Numbers side by side as fields of one number, the first one lowest: what `&`, a sum and a product do to all of them at once. Assumes
-- nothing.
use Rattle.std.specs.Prelude.{◌≡◌, refl, List, [], ◌∷◌, ℕ, ◌+◌, ◌-◌, ◌*◌, ◌/◌, ◌%◌, ◌^◌, ◌≤◌, ◌<◌}
use Rattle.std.proofs.Common.{sym, ap, ap₂, ◌∙◌, add_comm, mul_comm, mod-lt, lt_of_lt_of_le, le-add_right, arith, pow_pos, pow_mono, pow-add, shr_lt}
use Rattle.std.specs.Int.Bits.{bit_and}
use Rattle.std.proofs.lemmas.Nat.{and_block, and_mask, shl-shr}
use Rattle.std.proofs.lemmas.Nat.Bits.{and_high}
use Rattle.std.proofs.Math.Pow.{shr_mod, ones_lt}

-- of each number of a list something, in fields of k bits
unfoldable pub fields : ℕ → (ℕ → ℕ) → List ℕ → ℕ
fields k f [] = 0
fields k f (p ∷ ps) = f p + 2 ^ k * fields k f ps

abbrev pub Below : ℕ → List ℕ → Type 0
Below b [] = Unit
Below b (p ∷ ps) = (p < b) × Below b ps

-- a mask that is the same in each field acts on each field
pub fields_and : (k m b : ℕ) (f g : ℕ → ℕ) (ps : List ℕ) → m < 2 ^ k → ((p : ℕ) → p < b → (f p < 2 ^ k) × (bit_and (f p) m ≡ g p)) → Below b ps
    → bit_and (fields k f ps) (fields k (λ p. m) ps) ≡ fields k g ps
unfolding fields
fields_and k m b f g [] hm each h = refl
fields_and k m b f g (p ∷ ps) hm each h =
    let one = each p h.0 in
    let a = fields k f ps in
    let c = fields k (λ p. m) ps in
    ap₂ bit_and (add_comm (f p) (2 ^ k * a) ∙ ap (λ (x : ℕ). x + f p) (mul_comm (2 ^ k) a)) (add_comm m (2 ^ k * c) ∙ ap (λ (x : ℕ). x + m) (mul_comm (2 ^ k) c))
    ∙ and_block k a c (f p) m one.0 hm
    ∙ ap₂ (λ (x y : ℕ). x * 2 ^ k + y) (fields_and k m b f g ps hm each h.1) one.1
    ∙ add_comm (fields k g ps * 2 ^ k) (g p)
    ∙ ap (λ (x : ℕ). g p + x) (mul_comm (fields k g ps) (2 ^ k))

pub fields_add : (k : ℕ) (f g : ℕ → ℕ) (ps : List ℕ) → fields k f ps + fields k g ps ≡ fields k (λ p. f p + g p) ps
unfolding fields
fields_add k f g [] = refl
fields_add k f g (p ∷ ps) = rw (← fields_add k f g ps) (omega arith)

pub fields_mul : (k c : ℕ) (f : ℕ → ℕ) (ps : List ℕ) → fields k f ps * c ≡ fields k (λ p. f p * c) ps
unfolding fields
fields_mul k c f [] = omega arith
fields_mul k c f (p ∷ ps) = rw (← fields_mul k c f ps) (omega arith)

pub fields-same : (k b : ℕ) (f g : ℕ → ℕ) (ps : List ℕ) → ((p : ℕ) → p < b → f p ≡ g p) → Below b ps → fields k f ps ≡ fields k g ps
unfolding fields
fields-same k b f g [] each h = refl
fields-same k b f g (p ∷ ps) each h = rw (each p h.0, fields-same k b f g ps each h.1)

-- ---- halves: the high half of each number, and then the low one

unfoldable pub halves : ℕ → List ℕ → List ℕ
halves h [] = []
halves h (p ∷ ps) = p / 2 ^ h ∷ p % 2 ^ h ∷ halves h ps

pub halves-below : (h : ℕ) (ps : List ℕ) → Below (2 ^ (h + h)) ps → Below (2 ^ h) (halves h ps)
unfolding halves
halves-below h [] b = tt
halves-below h (p ∷ ps) b = (shr_lt h h b.0, (mod-lt p (pow_pos h), halves-below h ps b.1))

swapped : ℕ → ℕ → ℕ
swapped h p = p / 2 ^ h + p % 2 ^ h * 2 ^ (h + h)

-- a field of four times the width holds two of twice
halves-fields : (h : ℕ) (ps : List ℕ) → fields ((h + h) + (h + h)) (swapped h) ps ≡ fields (h + h) (λ p. p) (halves h ps)
unfolding fields halves swapped
halves-fields h [] = refl
halves-fields h (p ∷ ps) = rw (halves-fields h ps, pow-add 2 (h + h) (h + h)) (omega arith)

-- each number's halves change places, and move apart
pub halved : (h : ℕ) (ps : List ℕ) → Below (2 ^ (h + h)) ps
    → bit_and (fields ((h + h) + (h + h)) (λ p. p) ps) (fields ((h + h) + (h + h)) (λ p. 2 ^ (h + h) - 2 ^ h) ps) / 2 ^ h
    + bit_and (fields ((h + h) + (h + h)) (λ p. p) ps) (fields ((h + h) + (h + h)) (λ p. 2 ^ h - 1) ps) * 2 ^ (h + h)
    ≡ fields (h + h) (λ p. p) (halves h ps)
unfolding swapped
halved h ps b =
    let k = (h + h) + (h + h) in
    let wide : 2 ^ (h + h) ≤ 2 ^ k = pow_mono (le-add_right (h + h) (h + h)) in
    let narrow : 2 ^ h ≤ 2 ^ (h + h) = pow_mono (le-add_right h h) in
    let low = fields_and k (2 ^ h - 1) (2 ^ (h + h)) (λ p. p) (λ p. p % 2 ^ h) ps (omega (arith, ones_lt h)) (λ p l. (lt_of_lt_of_le l wide, and_mask p h)) b in
    let high =
    fields_and k (2 ^ (h + h) - 2 ^ h) (2 ^ (h + h)) (λ p. p) (λ p. p / 2 ^ h * 2 ^ h) ps (omega (arith, pow_pos h)) (λ p l. (lt_of_lt_of_le l wide, and_high p h h ∙ ap (λ (x : ℕ). x * 2 ^ h) (shr_mod h h l))) b in
    ap₂ (λ (x y : ℕ). x / 2 ^ h + y * 2 ^ (h + h)) (high ∙ sym (fields_mul k (2 ^ h) (λ p. p / 2 ^ h) ps)) low
    ∙ ap₂ (λ (x y : ℕ). x + y) (shl-shr (fields k (λ p. p / 2 ^ h) ps) h) (fields_mul k (2 ^ (h + h)) (λ p. p % 2 ^ h) ps)
    ∙ fields_add k (λ p. p / 2 ^ h) (λ p. p % 2 ^ h * 2 ^ (h + h)) ps
    ∙ halves-fields h ps
