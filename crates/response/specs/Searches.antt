-- The search for a fixed point of a curve.
use Rattle.std.specs.Prelude.{◌≡◌, ℕ, zero, suc, ◌+◌, ◌<◌, ◌≤◌, true, false, ◌==◌, ◌≢◌, nat_lt}
use Rattle.std.specs.declared.ops.ControlFlow.{ControlFlow}
use Rattle.std.specs.declared.ops.ControlFlow.TheVariants.{Continue, Break}

-- No search goes past this time.
abbrev pub horizon : ℕ
horizon = 1000000

-- How a search came out, with the number of evaluations that it made: it ended at a value, or it failed.
pub data Found : Type 0 where
  ended : (value rounds : ℕ) → Found
  failed : (rounds : ℕ) → Found

-- The same outcome after one evaluation more.
abbrev pub one_more : Found → Found
one_more (ended value rounds) = ended value (suc rounds)
one_more (failed rounds) = failed (suc rounds)

-- A search on curve f from value x: the curve is evaluated at the value; the search fails where the answer passes the horizon,
-- ends where the answer equals the value, and otherwise goes on from the answer.
pub data Searches (f : ℕ → ℕ) : ℕ → Found → Type 0 where
  passes : {x : ℕ} → horizon < f x → Searches f x (failed 1)
  stands : {x : ℕ} → f x ≤ horizon → f x ≡ x → Searches f x (ended x 1)
  goes_on : {x : ℕ} {o : Found} → f x ≤ horizon → (f x ≢ x) → Searches f (f x) o → Searches f x (one_more o)

-- The step of a search at value x, where the curve gave y and n evaluations were made: it fails, it ends at x, or it goes on from y.
abbrev pub next_step : ℕ → ℕ → ℕ → ControlFlow Found ℕ
next_step x y n =
    elim (nat_lt horizon y) [
      | true ↦ Break (failed n)
      | false ↦ elim (y == x) [ true ↦ Break (ended x n) | false ↦ Continue y ]
    ]

-- The search as a function that makes at most the given number of evaluations.
abbrev pub search_within : ℕ → (ℕ → ℕ) → ℕ → Found
search_within zero f x = failed 0
search_within (suc n) f x =
    let y : ℕ = f x in
    elim (nat_lt horizon y) [
      | true ↦ failed 1
      | false ↦ elim (y == x) [ true ↦ ended x 1 | false ↦ one_more (search_within n f y) ]
    ]

-- The search: on a curve that never falls the values rise up to the horizon or fall down to 0, so that this many evaluations are
-- never used up.
unfoldable pub fixed_point : (ℕ → ℕ) → ℕ → Found
fixed_point f x = search_within (suc (suc (horizon + x))) f x

-- Where a search ended, and 0 where it failed.
abbrev pub value_of : Found → ℕ
value_of (ended value rounds) = value
value_of (failed rounds) = 0

-- How many evaluations a search made.
abbrev pub rounds_of : Found → ℕ
rounds_of (ended value rounds) = rounds
rounds_of (failed rounds) = rounds

-- A curve whose values never fall.
abbrev pub NeverFalls : (ℕ → ℕ) → Type 0
NeverFalls f = (m n : ℕ) → m ≤ n → f m ≤ f n

-- An outcome on curve f from value x is the right one: the least fixed point at or above x, within the horizon, or a failure where there is none.
abbrev pub FindsLeast : (ℕ → ℕ) → ℕ → Found → Type 0
FindsLeast f x (ended p rounds) = (f p ≡ p) × (x ≤ p) × (p ≤ horizon) × ((y : ℕ) → x ≤ y → f y ≡ y → p ≤ y)
FindsLeast f x (failed rounds) = (y : ℕ) → x ≤ y → y ≤ horizon → f y ≢ y
