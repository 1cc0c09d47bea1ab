-- Enter, amend and withdraw, on rows of any kind.
use Rattle.std.specs.Prelude.{ℕ, suc, Bool, not, ◌||◌, List, [], ◌∷◌, ◌++◌, map, length, drop, nat_le}
use Rattle.sources.specs.Streams.{Model}
use Rattle.sources.specs.Models.{model, Meanings}
use Rattle.sources.specs.Answers.{Answer, checked}
use Rattle.response.specs.Analysis.{own_checks}
use Rattle.register.specs.Tables.{place_of, has, changed_from}

-- A kind of rows: the source and the deadline of one, an unsettled one made from them, and one as it is when it is unsettled.
pub record Kind (S A : Type 0) : Type 0 where
  pub source : A → S
  pub deadline : A → ℕ
  pub fresh : S → ℕ → A
  pub unsettled : A → A

-- There are 256 rows, or as many as there are places.
abbrev pub full : ℕ → ℕ → Bool
full places count = nat_le 256 count || nat_le places count

module _ {S A : Type 0} (sources : Meanings S) (kind : Kind S A) where
  -- The identifier of a row, by which rows rise.
  abbrev pub identifier : A → ℕ
  identifier a = sources.identifier (kind.source a)

  -- The longest frame of a row.
  abbrev pub frame : A → ℕ
  frame a = sources.work (kind.source a) 1

  abbrev pub models : List A → List Model
  models rows = map (λ a. model sources (kind.source a)) rows

  -- The place of a row, by its identifier, and whether there is such a row.
  abbrev pub place_in : ℕ → List A → ℕ
  place_in id rows = place_of identifier id rows

  abbrev pub is_in : ℕ → List A → Bool
  is_in id rows = has identifier id rows

  -- The rows from a place on become others.
  abbrev pub become : ℕ → List A → List A → List A
  become place after rows = changed_from frame kind.unsettled place after rows

  -- The checks of enter: 21 deadline not 1 to 1,000,000, 22 jitter above 1,000,000, 23 identifier taken, 24 already 256 rows, or as many
  -- as there are places.
  abbrev pub enter_checks : ℕ → S → ℕ → List A → List (Bool × ℕ)
  enter_checks places s deadline rows = own_checks (model sources s) deadline ++ (is_in (sources.identifier s) rows, 23) ∷ (full places (length rows), 24) ∷ []

  -- Enter: the row stands at its place.
  abbrev pub enter_rows : ℕ → S → ℕ → List A → Answer (List A)
  enter_rows places s deadline rows =
      let place : ℕ = place_in (sources.identifier s) rows in
      checked (enter_checks places s deadline rows) (become place (kind.fresh s deadline ∷ drop place rows) rows)

  -- The checks of amend: 21 and 22 as for enter, 25 no such row.
  abbrev pub amend_checks : S → ℕ → List A → List (Bool × ℕ)
  amend_checks s deadline rows = own_checks (model sources s) deadline ++ (not (is_in (sources.identifier s) rows), 25) ∷ []

  -- Amend: the row is replaced.
  abbrev pub amend_rows : S → ℕ → List A → Answer (List A)
  amend_rows s deadline rows =
      let place : ℕ = place_in (sources.identifier s) rows in
      checked (amend_checks s deadline rows) (become place (kind.fresh s deadline ∷ drop (suc place) rows) rows)

  -- The check of withdraw: 25 no such row.
  abbrev pub withdraw_checks : ℕ → List A → List (Bool × ℕ)
  withdraw_checks id rows = (not (is_in id rows), 25) ∷ []

  -- Withdraw: the row is gone.
  abbrev pub withdraw_rows : ℕ → List A → Answer (List A)
  withdraw_rows id rows =
      let place : ℕ = place_in id rows in
      checked (withdraw_checks id rows) (become place (drop (suc place) rows) rows)
