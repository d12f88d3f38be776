-- Lane after lane: things for the lanes in turn, and things read one after the other. Assumes nothing.
use Rattle.std.specs.Prelude.{◌≡◌, refl, List, [], ◌∷◌, ℕ, zero, suc, ◌+◌, ◌-◌, ◌*◌, ◌≤◌, ◌<◌, length, get_or, take, drop}
use Rattle.std.proofs.Common.{sym, ap, ◌∙◌, subst, suc-mul, zero-mul, add-zero, zero-add, add_comm, arith, drop-drop, eq-eqb, ne_eqb}
use Rattle.lemmas.specs.Lists.{drop-take}
use Rattle.lanes.specs.Lanes.{For, for, of_lane}

-- things for a lane, the next lane, and so on
unfoldable pub in_turn : {A : Type 0} → ℕ → List A → List (For A)
in_turn lane [] = []
in_turn lane (x ∷ xs) = for lane x ∷ in_turn (suc lane) xs

pub turn-past : {A : Type 0} (L lane : ℕ) (xs : List A) → L < lane → of_lane L (in_turn lane xs) ≡ []
unfolding in_turn of_lane
turn-past L lane [] h = refl
turn-past L lane (x ∷ xs) h =
    let other : L ≡ lane → ⊥ = λ e. omega arith in
    rw (ne_eqb L lane other) (turn-past L (suc lane) xs (omega arith))

-- a lane has the one in its place
pub turn_at : {A : Type 0} (i lane : ℕ) (xs : List A) (d : A) → i < length xs → of_lane (lane + i) (in_turn lane xs) ≡ get_or xs i d ∷ []
unfolding in_turn of_lane
turn_at i lane [] d h = absurd (omega arith)
turn_at zero lane (x ∷ xs) d h = rw (eq-eqb (lane + 0) lane (add-zero lane), turn-past (lane + 0) (suc lane) xs (omega arith))
turn_at (suc i) lane (x ∷ xs) d h =
    let other : lane + suc i ≡ lane → ⊥ = λ e. omega arith in
    let e : lane + suc i ≡ suc lane + i = omega arith in
    rw (ne_eqb (lane + suc i) lane other) (subst (λ (j : ℕ). of_lane j (in_turn (suc lane) xs) ≡ get_or xs i d ∷ []) (sym e) (turn_at i (suc lane) xs d (omega arith)))

pub lane_of : {A : Type 0} (L : ℕ) (xs : List A) (d : A) → L < length xs → of_lane L (in_turn 0 xs) ≡ get_or xs L d ∷ []
lane_of L xs d h = rw zero-add at (turn_at L 0 xs d h)

-- n things one after the other, each read from w bytes
unfoldable pub read_each : {A : Type 0} → (List ℕ → A) → ℕ → ℕ → List ℕ → List A
read_each f w zero s = []
read_each f w (suc n) s = f s ∷ read_each f w n (drop w s)

pub each-length : {A : Type 0} (f : List ℕ → A) (w n : ℕ) (s : List ℕ) → length (read_each f w n s) ≡ n
unfolding read_each
each-length f w zero s = refl
each-length f w (suc n) s = ap suc (each-length f w n (drop w s))

pub each_at : {A : Type 0} (f : List ℕ → A) (w n : ℕ) (s : List ℕ) (i : ℕ) (d : A) → i < n → get_or (read_each f w n s) i d ≡ f (drop (i * w) s)
unfolding read_each
each_at f w zero s i d h = absurd (omega arith)
each_at f w (suc n) s zero d h = rw (zero-mul w)
each_at f w (suc n) s (suc i) d h =
    each_at f w n (drop w s) i d (omega arith) ∙ rw (suc-mul i w, add_comm (i * w) w, drop-drop)

pub lane_of_each : {A : Type 0} (f : List ℕ → A) (w n : ℕ) (s : List ℕ) (L : ℕ) → L < n → of_lane L (in_turn 0 (read_each f w n s)) ≡ f (drop (L * w) s) ∷ []
lane_of_each f w n s L h =
    let len = each-length f w n s in
    lane_of L (read_each f w n s) (f s) (omega arith) ∙ ap (λ (x : _). x ∷ []) (each_at f w n s L (f s) h)

-- they are read from their own bytes alone
pub each_take : {A : Type 0} (f : List ℕ → A) (w n m : ℕ) (s : List ℕ) → ((m : ℕ) (s : List ℕ) → w ≤ m → f (take m s) ≡ f s) → n * w ≤ m → read_each f w n (take m s) ≡ read_each f w n s
unfolding read_each
each_take f w zero m s own h = refl
each_take f w (suc n) m s own h =
    let b : suc n * w ≡ n * w + w = suc-mul n w in
    let l : w ≤ m = omega arith in
    let r : n * w ≤ m - w = omega arith in
    rw (own m s l, drop-take w m s, each_take f w n (m - w) (drop w s) own r)
