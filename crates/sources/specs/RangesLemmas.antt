-- Sums and largest values over a range. Assumes nothing.
use Rattle.std.specs.Prelude.{◌≡◌, ℕ, zero, suc, ◌+◌, ◌*◌, ◌<◌, ◌≤◌, max, Bool, true, false, ◌⊎◌, ◌≢◌, refl}
use Rattle.std.proofs.Common.{sym, ap, ◌∙◌, true≢false, inl, inr, ⊎_elim, not-suc-le-zero, add-suc, suc-add, add-zero, zero-add, suc-mul, zero-mul, add-one, arith}
use Rattle.std.proofs.lemmas.Bool.{cases_eq, cases_lt}
use Rattle.sources.specs.Ranges.{sum_from, largest, largest_upto}

-- A sum is at most another whose values are at least as large in the range.
pub sum_from_le : (f g : ℕ → ℕ) (i k : ℕ) → ((j : ℕ) → i ≤ j → j < i + k → f j ≤ g j) → sum_from f i k ≤ sum_from g i k
sum_from_le f g i zero h = omega arith
sum_from_le f g i (suc k) h =
    let first : f i ≤ g i = h i (omega arith) (omega arith) in
    let rest : sum_from f (suc i) k ≤ sum_from g (suc i) k = sum_from_le f g (suc i) k (λ j a b. h j (omega arith) (omega arith)) in
    omega arith

-- A sum of k values is that of the first a of them and that of the b others.
pub sum_from_split : (f : ℕ → ℕ) (i a b : ℕ) → sum_from f i (a + b) ≡ sum_from f i a + sum_from f (i + a) b
sum_from_split f i zero b = rw (zero-add b, add-zero i) (omega arith)
sum_from_split f i (suc a) b =
    rw (suc-add a b, add-suc i a, ← suc-add i a) (omega (arith, sum_from_split f (suc i) a b))

-- The last value of a sum.
pub sum_from_last : (f : ℕ → ℕ) (i k : ℕ) → sum_from f i (suc k) ≡ sum_from f i k + f (i + k)
sum_from_last f i zero = rw (add-zero i) (omega arith)
sum_from_last f i (suc k) = rw (add-suc i k, ← suc-add i k) (omega (arith, sum_from_last f (suc i) k))

-- A sum over places that are moved by p.
pub sum_from_moved : (f : ℕ → ℕ) (p i k : ℕ) → sum_from (λ j. f (p + j)) i k ≡ sum_from f (p + i) k
sum_from_moved f p i zero = refl
sum_from_moved f p i (suc k) = ap (λ n. f (p + i) + n) (sum_from_moved f p (suc i) k ∙ ap (λ n. sum_from f n k) (add-suc p i))

pub sum_from_constant : (c i k : ℕ) → sum_from (λ _. c) i k ≡ k * c
sum_from_constant c i zero = sym (zero-mul c)
sum_from_constant c i (suc k) = rw suc-mul (omega (arith, sum_from_constant c (suc i) k))

-- The largest of one value more.
pub largest_more : (n : ℕ) (f : ℕ → ℕ) → largest (n + 1) f ≡ max (f n) (largest n f)
largest_more n f = rw add-one refl

-- Each value is at most the largest.
pub largest_is_upper : (n : ℕ) (f : ℕ → ℕ) (p : ℕ) → p < n → f p ≤ largest n f
largest_is_upper zero f p h = absurd (not-suc-le-zero h)
largest_is_upper (suc n) f p h =
    ⊎_elim
    (λ e. let same : f p ≡ f n = ap f e in omega arith)
    (λ ne. let below : f p ≤ largest n f = largest_is_upper n f p (omega arith) in omega arith)
    (cases_eq p n)

-- What every value is at most, the largest is at most.
pub largest_is_least : (n : ℕ) (f : ℕ → ℕ) (b : ℕ) → ((p : ℕ) → p < n → f p ≤ b) → largest n f ≤ b
largest_is_least zero f b h = omega arith
largest_is_least (suc n) f b h =
    let last : f n ≤ b = h n (omega arith) in
    let rest : largest n f ≤ b = largest_is_least n f b (λ p l. h p (omega arith)) in
    omega arith

-- The largest of at least one value is one of them.
pub largest_is_one : (n : ℕ) (f : ℕ → ℕ) → 0 < n → (p : ℕ) × (p < n) × (largest n f ≡ f p)
largest_is_one zero f h = absurd (not-suc-le-zero h)
largest_is_one (suc zero) f h = (0, omega arith, omega arith)
largest_is_one (suc (suc n)) f h =
    let below = largest_is_one (suc n) f (omega arith) in
    ⊎_elim
    (λ l. (below.0, omega arith, omega (arith, below.2)))
    (λ l. (suc n, omega arith, omega arith))
    (cases_lt (f (suc n)) (largest (suc n) f))

-- Sums of equal values are equal.
pub sum_from_same : (f g : ℕ → ℕ) (i j k : ℕ) → ((n : ℕ) → f (i + n) ≡ g (j + n)) → sum_from f i k ≡ sum_from g j k
sum_from_same f g i j zero same = refl
sum_from_same f g i j (suc k) same =
    let first : f i ≡ g j = rw (add-zero i, add-zero j) at (same 0) in
    let rest : sum_from f (suc i) k ≡ sum_from g (suc j) k =
    sum_from_same f g (suc i) (suc j) k (λ n. ap f (suc-add i n ∙ sym (add-suc i n)) ∙ same (suc n) ∙ ap g (add-suc j n ∙ sym (suc-add j n))) in
    omega arith

-- The largest of values that are each c above another's is c above its largest.
pub largest_above : (n c : ℕ) (f g : ℕ → ℕ) → 0 < n → ((p : ℕ) → p < n → f p ≡ c + g p) → largest n f ≡ c + largest n g
largest_above n c f g some above =
    let top = largest_is_one n g some in
    let low : c + largest n g ≤ largest n f = omega (arith, largest_is_upper n f top.0 top.1, above top.0 top.1, top.2) in
    let high : largest n f ≤ c + largest n g = largest_is_least n f (c + largest n g) (λ p l. omega (arith, above p l, largest_is_upper n g p l)) in
    omega arith

-- A function that never falls from one place to the next never falls.
pub never_falls : (f : ℕ → ℕ) → ((n : ℕ) → f n ≤ f (suc n)) → (m n : ℕ) → m ≤ n → f m ≤ f n
never_falls f step m zero l = let e : m ≡ 0 = omega arith in rw e (omega arith)
never_falls f step m (suc n) l =
    ⊎_elim
    (λ e. rw e (omega arith))
    (λ ne. let before : f m ≤ f n = never_falls f step m n (omega arith) in omega (arith, step n))
    (cases_eq m (suc n))

pub upto_is_upto : (n : ℕ) (holds : ℕ → Bool) → largest_upto n holds ≤ n
upto_is_upto zero holds = omega arith
upto_is_upto (suc n) holds =
    elim (holds (suc n)) as (λ b. elim b [ true ↦ suc n | false ↦ largest_upto n holds ] ≤ suc n) [ true ↦ omega arith | false ↦ omega (arith, upto_is_upto n holds) ]

-- largest-upto is a number at which the test holds, or 0.
pub upto_holds : (n : ℕ) (holds : ℕ → Bool) → (largest_upto n holds ≡ 0) ⊎ (holds (largest_upto n holds) ≡ true)
upto_holds zero holds = inl refl
upto_holds (suc n) holds = go (upto_holds n holds) (holds (suc n)) refl
  where
    go : (largest_upto n holds ≡ 0) ⊎ (holds (largest_upto n holds) ≡ true) → (b : Bool) → holds (suc n) ≡ b → (elim b [ true ↦ suc n | false ↦ largest_upto n holds ] ≡ 0) ⊎ (holds (elim b [ true ↦ suc n | false ↦ largest_upto n holds ]) ≡ true)
    go below true e = inr e
    go below false e = below

-- largest-upto is at least each number up to the bound at which the test holds.
pub upto_is_upper : (n : ℕ) (holds : ℕ → Bool) (m : ℕ) → m ≤ n → holds m ≡ true → m ≤ largest_upto n holds
upto_is_upper zero holds m l e = l
upto_is_upper (suc n) holds m l e = go (holds (suc n)) refl (cases_eq m (suc n)) (λ k. upto_is_upper n holds m k e)
  where
    go : (b : Bool) → holds (suc n) ≡ b → (m ≡ suc n) ⊎ (m ≢ suc n) → (m ≤ n → m ≤ largest_upto n holds) → m ≤ elim b [ true ↦ suc n | false ↦ largest_upto n holds ]
    go true t at_end below = l
    go false t (inl same) below = let z : true ≡ false = sym e ∙ ap holds same ∙ t in absurd (true≢false z)
    go false t (inr other) below = below (omega arith)
