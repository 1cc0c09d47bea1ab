-- Tables of rows that rise by a key, and which rows a change unsettles.
use Rattle.std.specs.Prelude.{ℕ, suc, ◌-◌, max, Bool, true, false, List, [], ◌∷◌, ◌++◌, map, length, take, drop, Ok, Err, Result, ◌==◌, nat_lt}

-- The place of a key: how many of the first rows have a lower one.
abbrev pub place_of : {A : Type 0} → (A → ℕ) → ℕ → List A → ℕ
place_of key k [] = 0
place_of key k (a ∷ rest) = elim (nat_lt (key a) k) [ true ↦ suc (place_of key k rest) | false ↦ 0 ]

-- The first of the rows has the key.
abbrev pub starts_with : {A : Type 0} → (A → ℕ) → ℕ → List A → Bool
starts_with key k [] = false
starts_with key k (a ∷ rest) = key a == k

-- The row at the key's place has the key.
abbrev pub has : {A : Type 0} → (A → ℕ) → ℕ → List A → Bool
has key k rows = starts_with key k (drop (place_of key k rows) rows)

-- The place where the row with the key stands, or as an error the place where it would stand.
abbrev pub found_in : {A : Type 0} → (A → ℕ) → ℕ → List A → Result ℕ ℕ
found_in key k rows = elim (has key k rows) [ true ↦ Ok (place_of key k rows) | false ↦ Err (place_of key k rows) ]

-- The rows with the one at a place changed.
abbrev pub on_first : {A : Type 0} → (A → A) → List A → List A
on_first f [] = []
on_first f (a ∷ rest) = f a ∷ rest

abbrev pub change_at : {A : Type 0} → ℕ → (A → A) → List A → List A
change_at place f rows = take place rows ++ on_first f (drop place rows)

-- Rows with one put in at a place: those from there on move down by one, over the last.
abbrev pub inserted : {A : Type 0} → ℕ → A → List A → List A
inserted place row rows = take place rows ++ (row ∷ take (length rows - suc place) (drop place rows))

-- Rows with the one at a place taken out: those below it move up by one, and the last place keeps what it holds.
abbrev pub removed : {A : Type 0} → ℕ → List A → List A
removed place rows = take place rows ++ (drop (suc place) rows ++ drop (length rows - 1) rows)

-- The longest frame of rows, or 0.
abbrev pub longest : {A : Type 0} → (A → ℕ) → List A → ℕ
longest frame [] = 0
longest frame (a ∷ rest) = max (frame a) (longest frame rest)

-- A row above a change, by the longest frame below it before the change and after it: as it is where they are the same, and unsettled
-- where they are not.
abbrev pub unsettle_by : {A : Type 0} → (A → A) → ℕ → ℕ → A → A
unsettle_by unsettled before after a = elim (before == after) [ true ↦ a | false ↦ unsettled a ]

-- The rows above a change, where the rows from the change on have the given longest frame before it and after it: a row stays as it
-- is where the longest frame below it is the same, and is unsettled where it is not.
abbrev pub unsettle_above : {A : Type 0} → (A → ℕ) → (A → A) → List A → ℕ → ℕ → List A
unsettle_above frame unsettled [] before after = []
unsettle_above frame unsettled (a ∷ rest) before after =
    unsettle_by unsettled (max (longest frame rest) before) (max (longest frame rest) after) a ∷ unsettle_above frame unsettled rest before after

-- Rows that are new from a place on, once what the change there unsettles is unsettled: those from the place on, which had a given
-- longest frame before, and those above as their longest frame below is changed.
abbrev pub unsettled_from : {A : Type 0} → (A → ℕ) → (A → A) → ℕ → ℕ → List A → List A
unsettled_from frame unsettled place before rows =
    unsettle_above frame unsettled (take place rows) before (longest frame (drop place rows)) ++ map unsettled (drop place rows)

-- The rows after a change at a place, from which on they are as given: these are unsettled, and those above as their longest frame
-- below is changed.
abbrev pub changed_from : {A : Type 0} → (A → ℕ) → (A → A) → ℕ → List A → List A → List A
changed_from frame unsettled place after rows =
    unsettle_above frame unsettled (take place rows) (longest frame (drop place rows)) (longest frame after) ++ map unsettled after
