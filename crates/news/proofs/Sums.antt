-- Sums and counts grow with what they count, and are bounded. Assumes nothing.
use Rattle.std.proofs.Common.{◌≡◌, ℕ, zero, suc, ◌+◌, ◌*◌, ◌<◌, ◌≤◌, Bool, true, false, cond, refl, ap, subst, ⊎_elim, add-mul, one-mul, arith}
use Rattle.std.proofs.lemmas.Bool.{cases_eq}
use Rattle.basis.specs.Counts.{count, total}
use Rattle.basis.proofs.Totals.{count_below}

-- no summand is less
pub total_mono : (n : ℕ) (f g : ℕ → ℕ) → ((i : ℕ) → i < n → f i ≤ g i) → total n f ≤ total n g
unfolding total
total_mono zero f g h = omega arith
total_mono (suc n) f g h = let r = total_mono n f g (λ i lt. h i (omega arith)) in let q = h n (omega arith) in omega arith

-- and one is more by d
pub total_gains : (n d : ℕ) (f g : ℕ → ℕ) → ((i : ℕ) → i < n → f i ≤ g i) → (k : ℕ) → k < n → d + f k ≤ g k → d + total n f ≤ total n g
unfolding total
total_gains zero d f g h k lk more = omega arith
total_gains (suc n) d f g h k lk more = ⊎_elim
    (λ e. let r = total_mono n f g (λ i lt. h i (omega arith)) in let q : d + f n ≤ g n = subst (λ (z : ℕ). d + f z ≤ g z) e more in omega arith)
    (λ ne. let r = total_gains n d f g (λ i lt. h i (omega arith)) k (omega arith) more in let q = h n (omega arith) in omega arith)
    (cases_eq k n)

pub total_more : (n : ℕ) (f g : ℕ → ℕ) → ((i : ℕ) → i < n → f i ≤ g i) → (k : ℕ) → k < n → f k < g k → total n f < total n g
total_more n f g h k lk more = let r = total_gains n 1 f g h k lk (omega arith) in omega arith

-- no summand is more than c
pub total_most : (n c : ℕ) (f : ℕ → ℕ) → ((i : ℕ) → i < n → f i ≤ c) → total n f ≤ n * c
unfolding total
total_most zero c f h = omega arith
total_most (suc n) c f h =
    let r = total_most n c f (λ i lt. h i (omega arith)) in
    let q = h n (omega arith) in
    let e : (n + 1) * c ≡ n * c + 1 * c = add-mul n 1 c in
    let o : 1 * c ≡ c = one-mul c in
    omega arith

bit_mono : (a b : Bool) → (a ≡ true → b ≡ true) → cond {A = ℕ} a 1 0 ≤ cond b 1 0
bit_mono true b h = rw (h refl) (omega arith)
bit_mono false b h = omega arith

-- all that passed pass, and one number more
pub count_gains : (n : ℕ) (p q : ℕ → Bool) → ((j : ℕ) → j < n → p j ≡ true → q j ≡ true) → (k : ℕ) → k < n → p k ≡ false → q k ≡ true → count n p < count n q
unfolding count
count_gains zero p q h k lk old new = omega arith
count_gains (suc n) p q h k lk old new = ⊎_elim
    (λ e.
    let a : ◌≡◌ {A = ℕ} (cond (p n) 1 0) 0 = ap (λ (b : Bool). cond {A = ℕ} b 1 0) (subst (λ (z : ℕ). p z ≡ false) e old) in
    let b : ◌≡◌ {A = ℕ} (cond (q n) 1 0) 1 = ap (λ (b : Bool). cond {A = ℕ} b 1 0) (subst (λ (z : ℕ). q z ≡ true) e new) in
    let r = count_below n p q (λ j lt. h j (omega arith)) in
    omega arith)
    (λ ne.
    let r = count_gains n p q (λ j lt. h j (omega arith)) k (omega arith) old new in
    let s = bit_mono (p n) (q n) (h n (omega arith)) in
    omega arith)
    (cases_eq k n)
