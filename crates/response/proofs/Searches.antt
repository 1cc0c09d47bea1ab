-- What a search comes to on a curve that never falls. Assumes nothing.
use Rattle.std.proofs.Common.{◌≡◌, ℕ, zero, suc, ◌+◌, ◌-◌, ◌<◌, ◌≤◌, min, Bool, true, false, eqb, ltb, refl, sym, ap, ◌∙◌, ⊎_elim, arith}
use Rattle.std.specs.declared.ops.ControlFlow.{ControlFlow}
use Rattle.std.specs.declared.ops.ControlFlow.TheVariants.{Continue, Break}
use Rattle.std.proofs.lemmas.Bool.{cases_lt, ltb-true, ltb-false, eqb-true, eqb-false}
use Rattle.response.specs.Searches.{Found, ended, failed, one_more, Searches, passes, stands, goes_on, horizon, next_step, search_within, fixed_point, rounds_of, NeverFalls, FindsLeast}

-- The outcome is the least value at or above x, within the horizon, that the curve does not pass, or a failure where there is none.
abbrev pub Least : (ℕ → ℕ) → ℕ → Found → Type 0
Least f x (ended p rounds) = (f p ≡ p) × (x ≤ p) × (p ≤ horizon) × ((y : ℕ) → x ≤ y → f y ≤ y → p ≤ y)
Least f x (failed rounds) = (y : ℕ) → x ≤ y → y ≤ horizon → f y ≤ y → ⊥

-- The evaluations are no more than the values from x up to where the search ended, or up to the horizon.
abbrev pub Few : ℕ → Found → Type 0
Few x (ended p rounds) = rounds + x ≤ suc p
Few x (failed rounds) = rounds ≤ suc (horizon - x)

-- A search comes out in one way only.
pub one_outcome : {f : ℕ → ℕ} {x : ℕ} {o p : Found} → Searches f x o → Searches f x p → o ≡ p
one_outcome (passes over) (passes over') = refl
one_outcome (passes over) (stands within same) = absurd (omega arith)
one_outcome (passes over) (goes_on within other next) = absurd (omega arith)
one_outcome (stands within same) (passes over) = absurd (omega arith)
one_outcome (stands within same) (stands within' same') = refl
one_outcome (stands within same) (goes_on within' other next) = absurd (other same)
one_outcome (goes_on within other next) (passes over) = absurd (omega arith)
one_outcome (goes_on within other next) (stands within' same) = absurd (other same)
one_outcome (goes_on within other next) (goes_on within' other' next') = ap one_more (one_outcome next next')

-- One evaluation more is one round more.
pub one_more_rounds : (o : Found) → rounds_of (one_more o) ≡ suc (rounds_of o)
one_more_rounds (ended p rounds) = refl
one_more_rounds (failed rounds) = refl

-- One evaluation of the bounded search.
evaluated : (f : ℕ → ℕ) (n x : ℕ) → (f x ≤ horizon → (f x ≡ x → ⊥) → Searches f (f x) (search_within n f (f x))) → Searches f x (search_within (suc n) f x)
evaluated f n x next = go (ltb horizon (f x)) refl (eqb (f x) x) refl
  where
    go : (b : Bool) → ltb horizon (f x) ≡ b → (c : Bool) → eqb (f x) x ≡ c → Searches f x (elim b [ true ↦ failed 1 | false ↦ elim c [ true ↦ ended x 1 | false ↦ one_more (search_within n f (f x)) ] ])
    go true over c e = passes (ltb-true horizon (f x) over)
    go false within true same = stands (ltb-false horizon (f x) within) (eqb-true (f x) x same)
    go false within false other =
        goes_on (ltb-false horizon (f x) within) (eqb-false (f x) x other) (next (ltb-false horizon (f x) within) (eqb-false (f x) x other))

module _ (f : ℕ → ℕ) (falls_not : NeverFalls f) where
  -- From a value at or below the curve, the values rise to the horizon at most.
  rises : (n x : ℕ) → 0 < n → horizon < n + x → x ≤ f x → Searches f x (search_within n f x)
  rises zero x some enough up = absurd (omega arith)
  rises (suc n) x some enough up =
      evaluated f n x (λ within other. rises n (f x) (omega arith) (omega arith) (falls_not x (f x) up))

  -- From a value at or above the curve, the values fall to 0 at most.
  falls : (n x : ℕ) → x < n → f x ≤ x → Searches f x (search_within n f x)
  falls zero x enough down = absurd (omega arith)
  falls (suc n) x enough down =
      evaluated f n x (λ within other. falls n (f x) (omega arith) (falls_not (f x) x down))

  -- The bounded search is the search, from every value.
  pub searched : (x : ℕ) → Searches f x (fixed_point f x)
  unfolding fixed_point
  searched x =
      ⊎_elim
      (λ l. falls (suc (suc (horizon + x))) x (omega arith) (omega arith))
      (λ l. rises (suc (suc (horizon + x))) x (omega arith) (omega arith) l)
      (cases_lt (f x) x)

  -- From a value at or below the curve, a search ends at the least value that the curve does not pass, and fails where there is none.
  pub least : {x : ℕ} {o : Found} → Searches f x o → x ≤ f x → Least f x o
  least (passes {x = x} over) up = λ y above within under. omega (arith, falls_not x y above)
  least (stands {x = x} within same) up = (same, omega arith, omega arith, λ y above under. above)
  least (goes_on {x = x} {o = o} within other next) up = go o (least next (falls_not x (f x) up))
    where
      go : (o : Found) → Least f (f x) o → Least f x (one_more o)
      go (ended p rounds) (same, over, inside, under_all) =
          (same, omega arith, inside, λ y above under. under_all y (omega (arith, falls_not x y above)) under)
      go (failed rounds) no_one = λ y above inside under. no_one y (omega (arith, falls_not x y above)) inside under

  -- From a value at or below the curve, no value is met twice.
  pub few : {x : ℕ} {o : Found} → Searches f x o → x ≤ f x → Few x o
  few (passes {x = x} over) up = omega arith
  few (stands {x = x} within same) up = omega arith
  few (goes_on {x = x} {o = o} within other next) up = go o (few next (falls_not x (f x) up))
    where
      go : (o : Found) → Few (f x) o → Few x (one_more o)
      go (ended p rounds) h = omega arith
      go (failed rounds) h = omega arith

  -- From a value at or below the curve, the rounds are at most one for each value up to the horizon.
  pub rounds_rising : {x : ℕ} {o : Found} → Searches f x o → x ≤ f x → rounds_of o ≤ suc horizon
  rounds_rising {x} {o} s up = go o (least s up) (few s up)
    where
      go : (o : Found) → Least f x o → Few x o → rounds_of o ≤ suc horizon
      go (ended p rounds) l h = omega arith
      go (failed rounds) l h = omega arith

  -- From a value at or above the curve, the rounds are at most one for each value down to 0.
  pub rounds_falling : {x : ℕ} {o : Found} → Searches f x o → f x ≤ x → rounds_of o ≤ suc x
  rounds_falling (passes over) down = omega arith
  rounds_falling (stands within same) down = omega arith
  rounds_falling (goes_on {x = x} {o = o} within other next) down =
      rw (one_more_rounds o) (omega (arith, rounds_falling next (falls_not (f x) x down)))

  -- From every value, the rounds are at most two more than the horizon.
  pub rounds_few : {x : ℕ} {o : Found} → Searches f x o → rounds_of o ≤ suc (suc horizon)
  rounds_few (passes over) = omega arith
  rounds_few (stands within same) = omega arith
  rounds_few (goes_on {x = x} {o = o} within other next) =
      rw (one_more_rounds o)
      (⊎_elim
      (λ l. omega (arith, rounds_falling next (omega arith)))
      (λ l. omega (arith, rounds_rising next l))
      (cases_lt (f (f x)) (f x)))

  -- The search finds the least fixed point at or above its first value, and fails exactly where there is none within the horizon.
  pub finds_least : (x : ℕ) → x ≤ f x → FindsLeast f x (fixed_point f x)
  finds_least x up = go (fixed_point f x) (least (searched x) up)
    where
      go : (o : Found) → Least f x o → FindsLeast f x o
      go (ended p rounds) (same, over, inside, under_all) = (same, over, inside, λ y above e. under_all y above (omega arith))
      go (failed rounds) no_one = λ y above inside e. no_one y above inside (omega arith)

  -- Where some value within the horizon, at or above the first, is not passed by the curve, the search ends at the least such value.
  pub ends_below : (x y : ℕ) → x ≤ f x → x ≤ y → y ≤ horizon → f y ≤ y → (p : ℕ) × (rounds : ℕ) × (fixed_point f x ≡ ended p rounds) × Least f x (ended p rounds) × (rounds + x ≤ suc p)
  ends_below x y up above inside under = go (fixed_point f x) refl (least (searched x) up) (few (searched x) up)
    where
      go : (o : Found) → fixed_point f x ≡ o → Least f x o → Few x o → (p : ℕ) × (rounds : ℕ) × (fixed_point f x ≡ ended p rounds) × Least f x (ended p rounds) × (rounds + x ≤ suc p)
      go (ended p rounds) e l h = (p, rounds, e, l, h)
      go (failed rounds) e l h = absurd (l y above inside under)

  -- A search whose first answer passes the horizon.
  pub fails_at_once : (x : ℕ) → horizon < f x → fixed_point f x ≡ failed 1
  fails_at_once x over = one_outcome (searched x) (passes over)

  -- A search whose first answer is its first value.
  pub ends_at_once : (x : ℕ) → f x ≤ horizon → f x ≡ x → fixed_point f x ≡ ended x 1
  ends_at_once x within same = one_outcome (searched x) (stands within same)

  -- A search that goes on from its first answer.
  pub goes_on_from : (x : ℕ) → f x ≤ horizon → (f x ≡ x → ⊥) → fixed_point f x ≡ one_more (fixed_point f (f x))
  goes_on_from x within other = one_outcome (searched x) (goes_on within other (searched (f x)))

-- Curves that agree wherever a search evaluates them have the same search.
pub same_steps : (f g : ℕ → ℕ) (P : ℕ → Type 0) → ((x : ℕ) → P x → f x ≤ horizon → P (f x)) → ((x : ℕ) → P x → f x ≡ g x) → {x : ℕ} {o : Found} → Searches f x o → P x → Searches g x o
same_steps f g P closed agree (passes {x = x} over) at_x = passes (omega (arith, agree x at_x))
same_steps f g P closed agree (stands {x = x} within same) at_x = stands (omega (arith, agree x at_x)) (omega (arith, agree x at_x))
same_steps f g P closed agree (goes_on {x = x} {o = o} within other next) at_x =
    goes_on (omega (arith, agree x at_x)) (λ e. other (omega (arith, agree x at_x)))
    (rw (agree x at_x) at (same_steps f g P closed agree next (closed x at_x within)))

pub same_search : (f g : ℕ → ℕ) → NeverFalls f → NeverFalls g → (P : ℕ → Type 0) → ((x : ℕ) → P x → f x ≤ horizon → P (f x)) → ((x : ℕ) → P x → f x ≡ g x) → (x : ℕ) → P x → fixed_point f x ≡ fixed_point g x
same_search f g f_rises g_rises P closed agree x at_x =
    one_outcome (same_steps f g P closed agree (searched f f_rises x) at_x) (searched g g_rises x)

-- The same outcome after n evaluations more.
abbrev pub more : ℕ → Found → Found
more n (ended value rounds) = ended value (n + rounds)
more n (failed rounds) = failed (n + rounds)

-- One evaluation more before n others.
pub more_one : (n : ℕ) (o : Found) → more n (one_more o) ≡ more (n + 1) o
more_one n (ended value rounds) = ap (ended value) (omega arith)
more_one n (failed rounds) = ap failed (omega arith)

pub more_none : (o : Found) → more 0 o ≡ o
more_none (ended value rounds) = ap (ended value) (omega arith)
more_none (failed rounds) = ap failed (omega arith)

pub more_rounds : (n : ℕ) (o : Found) → rounds_of (more n o) ≡ n + rounds_of o
more_rounds n (ended value rounds) = refl
more_rounds n (failed rounds) = refl

-- What a step of a search at value x comes to after n evaluations: the search is over and has this outcome, or it goes on from z, with
-- fewer evaluations to come.
abbrev pub Took : (ℕ → ℕ) → ℕ → ℕ → ControlFlow Found ℕ → Type 0
Took f x n (Break o) = o ≡ more n (fixed_point f x)
Took f x n (Continue z) = (more n (fixed_point f x) ≡ more (n + 1) (fixed_point f z)) × (rounds_of (fixed_point f z) < rounds_of (fixed_point f x))

-- Each step of the search of a curve that never falls is made towards its outcome.
pub took : (f : ℕ → ℕ) → NeverFalls f → (x n y : ℕ) → y ≡ min (f x) 1000001 → (s : ControlFlow Found ℕ) → s ≡ next_step x y (n + 1) → Took f x n s
took f falls_not x n y is s step = rw step (go (ltb horizon y) refl (eqb y x) refl)
  where
    go : (b : Bool) → ltb horizon y ≡ b → (c : Bool) → eqb y x ≡ c →
        Took f x n (elim b [ true ↦ Break (failed (n + 1)) | false ↦ elim c [ true ↦ Break (ended x (n + 1)) | false ↦ Continue y ] ])
    go true over c e = let past = ltb-true horizon y over in ap (more n) (sym (fails_at_once f falls_not x (omega arith)))
    go false within true same =
        let inside = ltb-false horizon y within in
        let stays = eqb-true y x same in
        ap (more n) (sym (ends_at_once f falls_not x (omega arith) (omega arith)))
    go false within false other =
        let inside = ltb-false horizon y within in
        let moves = eqb-false y x other in
        let answer : f x ≡ y = omega arith in
        let next : fixed_point f x ≡ one_more (fixed_point f y) = goes_on_from f falls_not x (omega arith) (λ e. moves (omega arith)) ∙ ap (λ v. one_more (fixed_point f v)) answer in
        (ap (more n) next ∙ more_one n (fixed_point f y), omega (arith, ap rounds_of next, one_more_rounds (fixed_point f y)))
