-- Tables of rows that rise by a key. Assumes nothing.
use Rattle.std.proofs.Common.{◌≡◌, ℕ, zero, suc, ◌+◌, ◌<◌, ◌≤◌, max, Bool, true, false, eqb, ltb, ◌⊎◌, ◌↔◌, List, [], ◌∷◌, ◌++◌, map, length, get_or, take, drop, sym, refl, ap, ◌∙◌, subst, ap₂, inl, inr, ⊎_elim, arith}
use mathlib.Core.List.{map-append}
use Rattle.std.proofs.lemmas.List.{at_drop_more, at_drop_all, take-append-drop, length-take-le, length-map, drop-map}
use Rattle.std.proofs.lemmas.Bool.{ltb-true, ltb-false, eqb-true, eqb-false, eq-eqb, ne_eqb, false≢true, cases_lt}
use Rattle.register.specs.Tables.{place_of, starts_with, has, change_at, longest, unsettle_above, changed_from}

-- Rows, each of which has a value of which P holds.
abbrev pub AllOf : {A V : Type 0} → (A → V) → (V → Type 0) → List A → Type 0
AllOf value P [] = Unit {0}
AllOf value P (a ∷ rest) = P (value a) × AllOf value P rest

-- Rows whose keys rise: each is below all later ones.
abbrev pub Rises : {A : Type 0} → (A → ℕ) → List A → Type 0
Rises key [] = Unit {0}
Rises key (a ∷ rest) = AllOf key (λ n. key a < n) rest × Rises key rest

-- Some row has the key.
abbrev pub SomeHas : {A : Type 0} → (A → ℕ) → ℕ → List A → Type 0
SomeHas key k [] = ⊥
SomeHas key k (a ∷ rest) = (key a ≡ k) ⊎ SomeHas key k rest

-- The rows before the place of a key, those from it on, and those behind it.
abbrev pub earlier_rows : {A : Type 0} → (A → ℕ) → ℕ → List A → List A
earlier_rows key k rows = take (place_of key k rows) rows

abbrev pub later_rows : {A : Type 0} → (A → ℕ) → ℕ → List A → List A
later_rows key k rows = drop (place_of key k rows) rows

abbrev pub rows_behind : {A : Type 0} → (A → ℕ) → ℕ → List A → List A
rows_behind key k rows = drop (suc (place_of key k rows)) rows

module _ {A V : Type 0} (value : A → V) where
  -- What holds of every value implies what follows from it.
  pub all_weaken : (P Q : V → Type 0) (implies : (v : V) → P v → Q v) (rows : List A) → AllOf value P rows → AllOf value Q rows
  all_weaken P Q implies [] all = tt
  all_weaken P Q implies (a ∷ rest) (first, later) = (implies (value a) first, all_weaken P Q implies rest later)

  module _ (P : V → Type 0) where
    -- What holds of every value of two lists holds of every value of both together.
    pub all_append : (xs ys : List A) → AllOf value P xs → AllOf value P ys → AllOf value P (xs ++ ys)
    all_append [] ys of_xs of_ys = of_ys
    all_append (x ∷ xs) ys (first, later) of_ys = (first, all_append xs ys later of_ys)

    -- What holds of every value holds of the first n.
    pub all_take : (n : ℕ) (rows : List A) → AllOf value P rows → AllOf value P (take n rows)
    all_take zero rows all = tt
    all_take (suc n) [] all = tt
    all_take (suc n) (a ∷ rest) (first, later) = (first, all_take n rest later)

    -- What holds of every value holds of those after the first n.
    pub all_drop : (n : ℕ) (rows : List A) → AllOf value P rows → AllOf value P (drop n rows)
    all_drop zero rows all = all
    all_drop (suc n) [] all = tt
    all_drop (suc n) (a ∷ rest) (first, later) = all_drop n rest later

    -- What holds of every value holds of that at each place.
    pub all_at : (rows : List A) (d : A) (m : ℕ) → m < length rows → AllOf value P rows → P (value (get_or rows m d))
    all_at [] d m l all = absurd (omega arith)
    all_at (a ∷ rest) d zero l (first, later) = first
    all_at (a ∷ rest) d (suc m) l (first, later) = all_at rest d m (omega arith) later

    -- It is a matter of the values alone.
    pub all_by_values : (rows : List A) → AllOf value P rows ↔ AllOf (λ v. v) P (map value rows)
    all_by_values [] = (λ all. all, λ all. all)
    all_by_values (a ∷ rest) = (λ all. (all.0, (all_by_values rest).0 all.1), λ all. (all.0, (all_by_values rest).1 all.1))

-- What holds of every value holds of rows with the same values.
pub same_all : {A B V : Type 0} (value : A → V) (other : B → V) (P : V → Type 0) (xs : List A) (ys : List B) → map value xs ≡ map other ys → AllOf value P xs → AllOf other P ys
same_all value other P xs ys same all = (all_by_values other P ys).1 (subst (AllOf (λ v. v) P) same ((all_by_values value P xs).0 all))

module _ {A : Type 0} (key : A → ℕ) where
  -- The first n of rising rows rise.
  pub take_rises : (n : ℕ) (rows : List A) → Rises key rows → Rises key (take n rows)
  take_rises zero rows rises = tt
  take_rises (suc n) [] rises = tt
  take_rises (suc n) (a ∷ rest) (above, rises) = (all_take key (λ n. key a < n) n rest above, take_rises n rest rises)

  -- Rising rows without the first n rise.
  pub drop_rises : (n : ℕ) (rows : List A) → Rises key rows → Rises key (drop n rows)
  drop_rises zero rows rises = rises
  drop_rises (suc n) [] rises = tt
  drop_rises (suc n) (a ∷ rest) (above, rises) = drop_rises n rest rises

  module _ (k : ℕ) where
    -- Rising rows below a key, and rising rows from it on, rise together.
    pub join_rises : (xs ys : List A) → Rises key xs → Rises key ys → AllOf key (λ n. n < k) xs → AllOf key (λ n. k ≤ n) ys → Rises key (xs ++ ys)
    join_rises [] ys of_xs of_ys low high = of_ys
    join_rises (x ∷ xs) ys (above, rises) of_ys (first, low) high =
        (all_append key (λ n. key x < n) xs ys above (all_weaken key (λ n. k ≤ n) (λ n. key x < n) (λ n h. omega arith) ys high), join_rises xs ys rises of_ys low high)

    -- What holds of the place of a key, as the first row is passed or not.
    pub at_place : (P : ℕ → Type 0) (a : A) (rest : List A) → (key a < k → P (suc (place_of key k rest))) → (k ≤ key a → P 0) → P (place_of key k (a ∷ rest))
    at_place P a rest passed stopped = go (ltb (key a) k) refl
      where
        go : (b : Bool) → ltb (key a) k ≡ b → P (elim b [ true ↦ suc (place_of key k rest) | false ↦ 0 ])
        go true e = passed (ltb-true (key a) k e)
        go false e = stopped (ltb-false (key a) k e)

    -- A lower key is passed.
    pub place_pass : (a : A) (rest : List A) → key a < k → place_of key k (a ∷ rest) ≡ suc (place_of key k rest)
    place_pass a rest l = at_place (λ n. n ≡ suc (place_of key k rest)) a rest (λ _. refl) (λ h. absurd (omega arith))

    -- The place of a key is that of the first row that is not below it.
    pub place_stop : (a : A) (rest : List A) → k ≤ key a → place_of key k (a ∷ rest) ≡ 0
    place_stop a rest h = at_place (λ n. n ≡ 0) a rest (λ l. absurd (omega arith)) (λ _. refl)

    -- Whether a key is had does not depend on a lower one before.
    pub has_pass : (a : A) (rest : List A) → key a < k → has key k (a ∷ rest) ≡ has key k rest
    has_pass a rest l = ap (λ n. starts_with key k (drop n (a ∷ rest))) (place_pass a rest l)

    -- A key is had by the first row that is not below it, or by none.
    pub has_stop : (a : A) (rest : List A) → k ≤ key a → has key k (a ∷ rest) ≡ eqb (key a) k
    has_stop a rest h = ap (λ n. starts_with key k (drop n (a ∷ rest))) (place_stop a rest h)

    -- The place of a key among the rows from one on, as that one is lower or not, or there is none.
    module _ (rows : List A) (i : ℕ) where
      pub found_none : length rows ≤ i → place_of key k (drop i rows) ≡ 0
      found_none past = at_drop_all (place_of key k) rows i past

      module _ (a : A) (inside : i < length rows) (is : a ≡ get_or rows i a) where
        pub found_here : ltb (key a) k ≡ false → place_of key k (drop i rows) ≡ 0
        found_here test =
            at_drop_more (place_of key k) rows i a inside
            ∙ ap (λ b. elim b [ true ↦ suc (place_of key k (drop (i + 1) rows)) | false ↦ 0 ]) (ap (λ x. ltb (key x) k) (sym is) ∙ test)

        pub found_later : ltb (key a) k ≡ true → place_of key k (drop i rows) ≡ suc (place_of key k (drop (i + 1) rows))
        found_later test =
            at_drop_more (place_of key k) rows i a inside
            ∙ ap (λ b. elim b [ true ↦ suc (place_of key k (drop (i + 1) rows)) | false ↦ 0 ]) (ap (λ x. ltb (key x) k) (sym is) ∙ test)

    -- The place of a key is at most behind the last row.
    pub place_within : (rows : List A) → place_of key k rows ≤ length rows
    place_within [] = omega arith
    place_within (a ∷ rest) = at_place (λ n. n ≤ suc (length rest)) a rest (λ l. omega (arith, place_within rest)) (λ h. omega arith)

    -- The keys before the place of a key are below it.
    pub earlier_below : (rows : List A) → AllOf key (λ n. n < k) (earlier_rows key k rows)
    earlier_below [] = tt
    earlier_below (a ∷ rest) = at_place (λ n. AllOf key (λ n. n < k) (take n (a ∷ rest))) a rest (λ l. (l, earlier_below rest)) (λ h. tt)

    -- The keys from its place on are at least it.
    pub later_at_least : (rows : List A) → Rises key rows → AllOf key (λ n. k ≤ n) (later_rows key k rows)
    later_at_least [] rises = tt
    later_at_least (a ∷ rest) (above, rises) =
        at_place (λ n. AllOf key (λ n. k ≤ n) (drop n (a ∷ rest))) a rest
        (λ l. later_at_least rest rises)
        (λ h. (h, all_weaken key (λ n. key a < n) (λ n. k ≤ n) (λ n l. omega arith) rest above))

    -- The keys behind its place are above it.
    pub behind_above : (rows : List A) → Rises key rows → AllOf key (λ n. k < n) (rows_behind key k rows)
    behind_above [] rises = tt
    behind_above (a ∷ rest) (above, rises) =
        at_place (λ n. AllOf key (λ n. k < n) (drop (suc n) (a ∷ rest))) a rest
        (λ l. behind_above rest rises)
        (λ h. all_weaken key (λ n. key a < n) (λ n. k < n) (λ n l. omega arith) rest above)

    -- Where no row has the key, those from its place on are above it.
    pub later_above : (rows : List A) → Rises key rows → has key k rows ≡ false → AllOf key (λ n. k < n) (later_rows key k rows)
    later_above [] rises lacks = tt
    later_above (a ∷ rest) (above, rises) lacks =
        at_place (λ n. starts_with key k (drop n (a ∷ rest)) ≡ false → AllOf key (λ n. k < n) (drop n (a ∷ rest))) a rest
        (λ l lacking. later_above rest rises lacking)
        (λ h lacking. let other : key a ≡ k → ⊥ = eqb-false (key a) k lacking in (omega arith, all_weaken key (λ n. key a < n) (λ n. k < n) (λ n l. omega arith) rest above)) lacks

    -- Where a key is had, the row at its place has it.
    pub found : (rows : List A) → has key k rows ≡ true →
        (a : A) × (later_rows key k rows ≡ a ∷ rows_behind key k rows) × (key a ≡ k)
    found [] is = absurd (false≢true is)
    found (a ∷ rest) is =
        at_place (λ n. starts_with key k (drop n (a ∷ rest)) ≡ true → (x : A) × (drop n (a ∷ rest) ≡ x ∷ drop (suc n) (a ∷ rest)) × (key x ≡ k)) a rest
        (λ l had. found rest had)
        (λ h had. (a, refl, eqb-true (key a) k had)) is

    -- Where a key is had, its place is that of a row.
    pub place_inside : (rows : List A) → has key k rows ≡ true → place_of key k rows < length rows
    place_inside [] is = absurd (false≢true is)
    place_inside (a ∷ rest) is =
        at_place (λ n. starts_with key k (drop n (a ∷ rest)) ≡ true → n < suc (length rest)) a rest
        (λ l had. omega (arith, place_inside rest had))
        (λ h had. omega arith) is

    -- A key that is had is some row's.
    pub had_by_some : (rows : List A) → has key k rows ≡ true → SomeHas key k rows
    had_by_some [] is = absurd (false≢true is)
    had_by_some (a ∷ rest) is =
        at_place (λ n. starts_with key k (drop n (a ∷ rest)) ≡ true → SomeHas key k (a ∷ rest)) a rest
        (λ l had. inr (had_by_some rest had))
        (λ h had. inl (eqb-true (key a) k had)) is

    some_above : (rows : List A) (n : ℕ) → AllOf key (λ m. n < m) rows → SomeHas key k rows → n < k
    some_above [] n all some = absurd some
    some_above (a ∷ rest) n (first, later) (inl e) = omega arith
    some_above (a ∷ rest) n (first, later) (inr some) = some_above rest n later some

    -- A key of some row is had.
    pub some_had : (rows : List A) → Rises key rows → SomeHas key k rows → has key k rows ≡ true
    some_had [] rises some = absurd some
    some_had (a ∷ rest) (above, rises) (inl e) = has_stop a rest (omega arith) ∙ eq-eqb (key a) k e
    some_had (a ∷ rest) (above, rises) (inr some) = has_pass a rest (some_above rest (key a) above some) ∙ some_had rest rises some

    -- A key that is below every row's is not had.
    pub has_none : (rows : List A) → AllOf key (λ n. k < n) rows → has key k rows ≡ false
    has_none [] all = refl
    has_none (a ∷ rest) (first, later) = has_stop a rest (omega arith) ∙ ne_eqb (key a) k (λ e. omega arith)

    -- A key that no row's is below has the first place.
    pub place_first : (rows : List A) → AllOf key (λ n. k ≤ n) rows → place_of key k rows ≡ 0
    place_first [] all = refl
    place_first (a ∷ rest) (first, later) = place_stop a rest first

    -- Behind rows below a key, its place is that among the later rows.
    pub place_right : (xs ys : List A) → AllOf key (λ n. n < k) xs → place_of key k (xs ++ ys) ≡ length xs + place_of key k ys
    place_right [] ys low = omega arith
    place_right (x ∷ xs) ys (first, low) = place_pass x (xs ++ ys) first ∙ omega (arith, place_right xs ys low)

    -- Behind rows below a key, it is had where it is had among the later rows.
    pub has_right : (xs ys : List A) → AllOf key (λ n. n < k) xs → has key k (xs ++ ys) ≡ has key k ys
    has_right [] ys low = refl
    has_right (x ∷ xs) ys (first, low) = has_pass x (xs ++ ys) first ∙ has_right xs ys low

    -- Rows from a key on, behind others, do not change its place.
    pub place_left : (xs ys : List A) → AllOf key (λ n. k ≤ n) ys → place_of key k (xs ++ ys) ≡ place_of key k xs
    place_left [] ys high = place_first ys high
    place_left (x ∷ xs) ys high =
        at_place (λ n. n ≡ place_of key k (x ∷ xs)) x (xs ++ ys)
        (λ l. ap suc (place_left xs ys high) ∙ sym (place_pass x xs l))
        (λ h. sym (place_stop x xs h))

    -- Rows above a key, behind others, do not change whether it is had.
    pub has_left : (xs ys : List A) → AllOf key (λ n. k < n) ys → has key k (xs ++ ys) ≡ has key k xs
    has_left [] ys high = has_none ys high
    has_left (x ∷ xs) ys high =
        at_place (λ n. starts_with key k (drop n (x ∷ (xs ++ ys))) ≡ has key k (x ∷ xs)) x (xs ++ ys)
        (λ l. has_left xs ys high ∙ sym (has_pass x xs l))
        (λ h. sym (has_stop x xs h))

    -- The row at the place of a key that is had has it.
    pub row_found : (rows : List A) (d : A) → has key k rows ≡ true → key (get_or rows (place_of key k rows) d) ≡ k
    row_found [] d is = absurd (false≢true is)
    row_found (a ∷ rest) d is =
        at_place (λ n. starts_with key k (drop n (a ∷ rest)) ≡ true → key (get_or (a ∷ rest) n d) ≡ k) a rest
        (λ l had. row_found rest d had)
        (λ h had. eqb-true (key a) k had) is

  -- Each of rising rows stands at the place of its key.
  pub place_at : (rows : List A) → Rises key rows → (m : ℕ) (d : A) → m < length rows → place_of key (key (get_or rows m d)) rows ≡ m
  place_at [] rises m d l = absurd (omega arith)
  place_at (a ∷ rest) (above, rises) zero d l = place_stop (key a) a rest (omega arith)
  place_at (a ∷ rest) (above, rises) (suc m) d l =
      let later : m < length rest = omega arith in
      place_pass (key (get_or rest m d)) a rest (all_at key (λ n. key a < n) rest d m later above) ∙ ap suc (place_at rest rises m d later)

  -- Of two keys the lower has the lower place, if it is had.
  pub place_lower : (j k : ℕ) (rows : List A) → j < k → has key j rows ≡ true → place_of key j rows < place_of key k rows
  place_lower j k [] l is = absurd (false≢true is)
  place_lower j k (a ∷ rest) l is =
      at_place j (λ n. starts_with key j (drop n (a ∷ rest)) ≡ true → n < place_of key k (a ∷ rest)) a rest
      (λ p had. omega (arith, place_pass k a rest (omega arith), place_lower j k rest l had))
      (λ h had. omega (arith, place_pass k a rest (omega (arith, eqb-true (key a) j had)))) is

  module _ (k : ℕ) (rows : List A) (rises : Rises key rows) where
    -- Rows with others in place of those from the place of a key on, where the others are at least the key.
    module _ (after : List A) (high : AllOf key (λ n. k ≤ n) after) where
      -- They rise where the others do.
      pub cut_rises : Rises key after → Rises key (earlier_rows key k rows ++ after)
      cut_rises rise = join_rises k (earlier_rows key k rows) after (take_rises (place_of key k rows) rows rises) rise (earlier_below k rows) high

      -- Keys up to it have their places among the rows before it.
      pub cut_place_low : (j : ℕ) → j ≤ k → place_of key j (earlier_rows key k rows ++ after) ≡ place_of key j (earlier_rows key k rows)
      cut_place_low j l = place_left j (earlier_rows key k rows) after (all_weaken key (λ n. k ≤ n) (λ n. j ≤ n) (λ n h. omega arith) after high)

      -- Lower keys are had where they are had among the rows before it.
      pub cut_has_low : (j : ℕ) → j < k → has key j (earlier_rows key k rows ++ after) ≡ has key j (earlier_rows key k rows)
      cut_has_low j l = has_left j (earlier_rows key k rows) after (all_weaken key (λ n. k ≤ n) (λ n. j < n) (λ n h. omega arith) after high)

    -- The key and higher ones have their places among the others.
    pub cut_place_high : (after : List A) (j : ℕ) → k ≤ j → place_of key j (earlier_rows key k rows ++ after) ≡ place_of key k rows + place_of key j after
    cut_place_high after j l =
        place_right j (earlier_rows key k rows) after (all_weaken key (λ n. n < k) (λ n. n < j) (λ n h. omega arith) (earlier_rows key k rows) (earlier_below k rows))
        ∙ ap (λ n. n + place_of key j after) (length-take-le (place_of key k rows) rows (place_within k rows))

    -- The key and higher ones are had where they are had among the others.
    pub cut_has_high : (after : List A) (j : ℕ) → k ≤ j → has key j (earlier_rows key k rows ++ after) ≡ has key j after
    cut_has_high after j l =
        has_right j (earlier_rows key k rows) after (all_weaken key (λ n. n < k) (λ n. n < j) (λ n h. omega arith) (earlier_rows key k rows) (earlier_below k rows))

    -- The rows themselves are such rows.
    whole : earlier_rows key k rows ++ later_rows key k rows ≡ rows
    whole = take-append-drop (place_of key k rows) rows

    module _ (after : List A) (high : AllOf key (λ n. k ≤ n) after) (j : ℕ) where
      -- Keys up to it keep their places.
      pub low_place_kept : j ≤ k → place_of key j (earlier_rows key k rows ++ after) ≡ place_of key j rows
      low_place_kept l =
          cut_place_low after high j l ∙ sym (cut_place_low (later_rows key k rows) (later_at_least k rows rises) j l) ∙ ap (place_of key j) whole

      -- Lower keys are had as they were.
      pub low_has_kept : j < k → has key j (earlier_rows key k rows ++ after) ≡ has key j rows
      low_has_kept l =
          cut_has_low after high j l ∙ sym (cut_has_low (later_rows key k rows) (later_at_least k rows rises) j l) ∙ ap (has key j) whole

    -- The key and higher ones have their places among the rows from its place on.
    pub high_place : (j : ℕ) → k ≤ j → place_of key j rows ≡ place_of key k rows + place_of key j (later_rows key k rows)
    high_place j l = ap (place_of key j) (sym whole) ∙ cut_place_high (later_rows key k rows) j l

    -- The key and higher ones are had where they are had among the rows from its place on.
    pub high_has : (j : ℕ) → k ≤ j → has key j rows ≡ has key j (later_rows key k rows)
    high_has j l = ap (has key j) (sym whole) ∙ cut_has_high (later_rows key k rows) j l

    module _ (x : A) (is : key x ≡ k) where
      low_first : (after : List A) → AllOf key (λ n. k < n) after → AllOf key (λ n. k ≤ n) (x ∷ after)
      low_first after high = (omega arith, all_weaken key (λ n. k < n) (λ n. k ≤ n) (λ n h. omega arith) after high)

      rises_first : (after : List A) → AllOf key (λ n. k < n) after → Rises key after → Rises key (x ∷ after)
      rises_first after high rise = (all_weaken key (λ n. k < n) (λ n. key x < n) (λ n h. omega arith) after high, rise)

      module _ (lacks : has key k rows ≡ false) where
        -- A row inserted where none had its key leaves rising rows.
        pub insert_rises : Rises key (earlier_rows key k rows ++ x ∷ later_rows key k rows)
        insert_rises =
            let later = later_above k rows rises lacks in
            cut_rises (x ∷ later_rows key k rows) (low_first (later_rows key k rows) later)
            (rises_first (later_rows key k rows) later (drop_rises (place_of key k rows) rows rises))

        -- The key of an inserted row is had.
        pub insert_has : has key k (earlier_rows key k rows ++ x ∷ later_rows key k rows) ≡ true
        insert_has = cut_has_high (x ∷ later_rows key k rows) k (omega arith) ∙ has_stop k x (later_rows key k rows) (omega arith) ∙ eq-eqb (key x) k is

        -- Keys up to that of an inserted row keep their places.
        pub insert_place_low : (j : ℕ) → j ≤ k → place_of key j (earlier_rows key k rows ++ x ∷ later_rows key k rows) ≡ place_of key j rows
        insert_place_low j l = low_place_kept (x ∷ later_rows key k rows) (low_first (later_rows key k rows) (later_above k rows rises lacks)) j l

        -- Keys above that of an inserted row are one place later.
        pub insert_place_high : (j : ℕ) → k < j → place_of key j (earlier_rows key k rows ++ x ∷ later_rows key k rows) ≡ suc (place_of key j rows)
        insert_place_high j l =
            omega (
              arith,
              cut_place_high (x ∷ later_rows key k rows) j (omega arith),
              place_pass j x (later_rows key k rows) (omega arith),
              high_place j (omega arith),
            )

        -- Other keys than that of an inserted row are had as they were.
        pub insert_has_other : (j : ℕ) → (j ≡ k → ⊥) → has key j (earlier_rows key k rows ++ x ∷ later_rows key k rows) ≡ has key j rows
        insert_has_other j other =
            ⊎_elim
            (λ l. low_has_kept (x ∷ later_rows key k rows) (low_first (later_rows key k rows) (later_above k rows rises lacks)) j l)
            (λ h.
            cut_has_high (x ∷ later_rows key k rows) j h ∙ has_pass j x (later_rows key k rows) (omega arith) ∙ sym (high_has j h))
            (cases_lt j k)

      module _ (has_it : has key k rows ≡ true) where
        -- A row in place of that with its key leaves the keys as they were.
        pub replace_keys : map key (earlier_rows key k rows ++ x ∷ rows_behind key k rows) ≡ map key rows
        replace_keys =
            let old = found k rows has_it in
            map-append key (earlier_rows key k rows) (x ∷ rows_behind key k rows)
            ∙ ap (λ n. map key (earlier_rows key k rows) ++ n ∷ map key (rows_behind key k rows)) (is ∙ sym old.2)
            ∙ ap (λ after. map key (earlier_rows key k rows) ++ map key after) (sym old.1)
            ∙ sym (map-append key (earlier_rows key k rows) (later_rows key k rows))
            ∙ ap (map key) whole

      -- A row in place of that at the place of its key leaves rising rows.
      pub replace_rises : Rises key (earlier_rows key k rows ++ x ∷ rows_behind key k rows)
      replace_rises =
          let later = behind_above k rows rises in
          cut_rises (x ∷ rows_behind key k rows) (low_first (rows_behind key k rows) later)
          (rises_first (rows_behind key k rows) later (drop_rises (suc (place_of key k rows)) rows rises))

    -- Rising rows without the row at the place of a key rise.
    pub remove_rises : Rises key (earlier_rows key k rows ++ rows_behind key k rows)
    remove_rises =
        cut_rises (rows_behind key k rows)
        (all_weaken key (λ n. k < n) (λ n. k ≤ n) (λ n h. omega arith) (rows_behind key k rows) (behind_above k rows rises))
        (drop_rises (suc (place_of key k rows)) rows rises)

    -- Rows without that at the place of a key do not have it.
    pub remove_lacks : has key k (earlier_rows key k rows ++ rows_behind key k rows) ≡ false
    remove_lacks =
        cut_has_high (rows_behind key k rows) k (omega arith) ∙ has_none k (rows_behind key k rows) (behind_above k rows rises)

    module _ (j : ℕ) where
      -- Keys up to that of a removed row keep their places.
      pub remove_place_low : j ≤ k → place_of key j (earlier_rows key k rows ++ rows_behind key k rows) ≡ place_of key j rows
      remove_place_low l =
          low_place_kept (rows_behind key k rows)
          (all_weaken key (λ n. k < n) (λ n. k ≤ n) (λ n h. omega arith) (rows_behind key k rows) (behind_above k rows rises)) j l

      module _ (has_it : has key k rows ≡ true) where
        -- Keys above that of a removed row are one place earlier.
        pub remove_place_high : k < j → suc (place_of key j (earlier_rows key k rows ++ rows_behind key k rows)) ≡ place_of key j rows
        remove_place_high l =
            let old = found k rows has_it in
            omega (
              arith,
              cut_place_high (rows_behind key k rows) j (omega arith),
              high_place j (omega arith),
              ap (place_of key j) old.1,
              place_pass j old.0 (rows_behind key k rows) (omega (arith, old.2)),
            )

        -- Other keys than that of a removed row are had as they were.
        pub remove_has_other : (j ≡ k → ⊥) → has key j (earlier_rows key k rows ++ rows_behind key k rows) ≡ has key j rows
        remove_has_other other =
            let old = found k rows has_it in
            ⊎_elim
            (λ l.
            low_has_kept (rows_behind key k rows)
            (all_weaken key (λ n. k < n) (λ n. k ≤ n) (λ n h. omega arith) (rows_behind key k rows) (behind_above k rows rises)) j l)
            (λ h.
            cut_has_high (rows_behind key k rows) j h
            ∙ sym (has_pass j old.0 (rows_behind key k rows) (omega (arith, old.2)))
            ∙ ap (has key j) (sym old.1) ∙ sym (high_has j h))
            (cases_lt j k)

module _ {A : Type 0} (key : A → ℕ) where
  -- The place of a key is a matter of the keys alone.
  pub place_by_keys : (k : ℕ) (rows : List A) → place_of key k rows ≡ place_of (λ n. n) k (map key rows)
  place_by_keys k [] = refl
  place_by_keys k (a ∷ rest) = ap (λ n. elim (ltb (key a) k) as (λ _. ℕ) [ true ↦ suc n | false ↦ 0 ]) (place_by_keys k rest)

  starts_by_keys : (k : ℕ) (rows : List A) → starts_with key k rows ≡ starts_with (λ n. n) k (map key rows)
  starts_by_keys k [] = refl
  starts_by_keys k (a ∷ rest) = refl

  -- Whether a key is had is a matter of the keys alone.
  pub has_by_keys : (k : ℕ) (rows : List A) → has key k rows ≡ has (λ n. n) k (map key rows)
  has_by_keys k rows =
      starts_by_keys k (later_rows key k rows)
      ∙ ap (starts_with (λ n. n) k) (sym (drop-map key (place_of key k rows) rows) ∙ ap (λ n. drop n (map key rows)) (place_by_keys k rows))

  -- Rising is a matter of the keys alone.
  pub rises_by_keys : (rows : List A) → Rises key rows ↔ Rises (λ n. n) (map key rows)
  rises_by_keys [] = (λ rises. rises, λ rises. rises)
  rises_by_keys (a ∷ rest) = (
    λ rises. ((all_by_values key (λ n. key a < n) rest).0 rises.0, (rises_by_keys rest).0 rises.1),
    λ rises. ((all_by_values key (λ n. key a < n) rest).1 rises.0, (rises_by_keys rest).1 rises.1),
  )

module _ {A B : Type 0} (key : A → ℕ) (other : B → ℕ) (xs : List A) (ys : List B) (same : map key xs ≡ map other ys) where
  -- Rows with the same keys have the same places.
  pub same_place : (k : ℕ) → place_of key k xs ≡ place_of other k ys
  same_place k = place_by_keys key k xs ∙ ap (place_of (λ n. n) k) same ∙ sym (place_by_keys other k ys)

  -- A key is had by both of two lists of rows with the same keys, or by neither.
  pub same_has : (k : ℕ) → has key k xs ≡ has other k ys
  same_has k = has_by_keys key k xs ∙ ap (has (λ n. n) k) same ∙ sym (has_by_keys other k ys)

  -- Rows with the same keys as rising ones rise.
  pub same_rises : Rises key xs → Rises other ys
  same_rises rises = (rises_by_keys other ys).1 (subst (Rises (λ n. n)) same ((rises_by_keys key xs).0 rises))

module _ {ℓ} {A : Type 0} {V : Type ℓ} (value : A → V) (change : A → A) (keeps : (a : A) → value (change a) ≡ value a) where
  -- What a change of a row keeps is kept where every row is changed.
  pub map_keeps : (rows : List A) → map value (map change rows) ≡ map value rows
  map_keeps [] = refl
  map_keeps (a ∷ rest) = ap₂ (λ v vs. v ∷ vs) (keeps a) (map_keeps rest)

  -- It is kept where the row at a place is changed.
  pub change_at_keeps : (place : ℕ) (rows : List A) → map value (change_at place change rows) ≡ map value rows
  change_at_keeps zero [] = refl
  change_at_keeps zero (a ∷ rest) = ap (λ v. v ∷ map value rest) (keeps a)
  change_at_keeps (suc place) [] = refl
  change_at_keeps (suc place) (a ∷ rest) = ap (λ vs. value a ∷ vs) (change_at_keeps place rest)

  -- It is kept where a row may be changed.
  pub either_keeps : (b : Bool) (a : A) → value (elim b [ true ↦ a | false ↦ change a ]) ≡ value a
  either_keeps true a = refl
  either_keeps false a = keeps a

  module _ (frame : A → ℕ) where
    -- It is kept of the rows above a change.
    pub unsettle_keeps : (rows : List A) (before after : ℕ) → map value (unsettle_above frame change rows before after) ≡ map value rows
    unsettle_keeps [] before after = refl
    unsettle_keeps (a ∷ rest) before after =
        ap₂ (λ v vs. v ∷ vs) (either_keeps (eqb (max (longest frame rest) before) (max (longest frame rest) after)) a) (unsettle_keeps rest before after)

    -- It is kept of the rows above a change and below it.
    pub changed_keeps : (place : ℕ) (after rows : List A) → map value (changed_from frame change place after rows) ≡ map value (take place rows ++ after)
    changed_keeps place after rows =
        map-append value (unsettle_above frame change (take place rows) (longest frame (drop place rows)) (longest frame after)) (map change after)
        ∙ ap₂ (λ vs ws. vs ++ ws) (unsettle_keeps (take place rows) (longest frame (drop place rows)) (longest frame after)) (map_keeps after)
        ∙ sym (map-append value (take place rows) after)

-- Rows of the same values are as many.
pub same_length : {A B V : Type 0} (value : A → V) (other : B → V) (xs : List A) (ys : List B) → map value xs ≡ map other ys → length xs ≡ length ys
same_length value other xs ys same = sym (length-map xs value) ∙ ap length same ∙ length-map ys other

module _ {A : Type 0} (frame : A → ℕ) where
  -- The longest frame is a matter of the frames alone.
  pub longest_by_frames : (rows : List A) → longest frame rows ≡ longest (λ n. n) (map frame rows)
  longest_by_frames [] = refl
  longest_by_frames (a ∷ rest) = ap (max (frame a)) (longest_by_frames rest)

  -- The longest frame of two lists is the longer of theirs.
  pub longest_append : (xs ys : List A) → longest frame (xs ++ ys) ≡ max (longest frame xs) (longest frame ys)
  longest_append [] ys = omega arith
  longest_append (x ∷ xs) ys = omega (arith, longest_append xs ys)

-- Rows of the same frames have the same longest frame.
pub same_longest : {A B : Type 0} (frame : A → ℕ) (other : B → ℕ) (xs : List A) (ys : List B) → map frame xs ≡ map other ys → longest frame xs ≡ longest other ys
same_longest frame other xs ys same = longest_by_frames frame xs ∙ ap (longest (λ n. n)) same ∙ sym (longest_by_frames other ys)

module _ {A : Type 0} (frame : A → ℕ) (unsettled : A → A) (keeps : (a : A) → frame (unsettled a) ≡ frame a) where
  -- The longest frame after a change is that of the rows above it and of the new rows.
  pub longest_changed : (top after : List A) (before now : ℕ) →
      longest frame (unsettle_above frame unsettled top before now ++ map unsettled after) ≡ max (longest frame top) (longest frame after)
  longest_changed top after before now =
      longest_append frame (unsettle_above frame unsettled top before now) (map unsettled after)
      ∙ ap₂ max
      (same_longest frame frame (unsettle_above frame unsettled top before now) top (unsettle_keeps frame unsettled keeps frame top before now))
      (same_longest frame frame (map unsettled after) after (map_keeps frame unsettled keeps after))
