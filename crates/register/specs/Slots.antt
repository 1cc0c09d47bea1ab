-- The register's rows in memory: slots, with the outcomes that settle stored.
use Rattle.std.specs.Prelude.{ℕ, true, false, not, List, [], ◌∷◌, ◌++◌, map, length, take, drop, Some, None, Option, nat_lt, slice_index}
use Rattle.sources.specs.Models.{Meanings}
use Rattle.sources.specs.Answers.{Answer, made, refused, checked}
use Rattle.response.specs.declared.outcome.Outcome.{Outcome}
use Rattle.response.specs.declared.outcome.Outcome.TheVariants as outcomes
use Rattle.response.specs.declared.listed.Row.{Row}
use Rattle.response.specs.Bounds.{Response, ok, late, none, bound_of, response, place}
use Rattle.response.specs.Views.{outcome_of}
use Rattle.response.specs.Analysis.{row_checks}
use Rattle.register.specs.declared.slot.Slot.{Slot}
use Rattle.register.specs.declared.register.Register.{Register}
use Rattle.register.specs.Tables.{change_at}
use Rattle.register.specs.Calls.{Kind, models, place_in, is_in, enter_rows, amend_rows, withdraw_rows}

-- The outcome that stands for a response.
abbrev pub outcome_for : Response → Outcome
outcome_for (ok bound rounds) = outcomes.Ok bound rounds
outcome_for (late bound rounds) = outcomes.Late bound rounds
outcome_for (none rounds) = outcomes.None rounds

-- A slot with another outcome, or none.
abbrev pub with_outcome : {S : Type 0} → Option Outcome → Slot S → Slot S
with_outcome o s = record { row = s.row; outcome = o }

abbrev pub slots : {S : Type 0} → Kind S (Slot S)
slots = record {
  source = λ s. s.row.source;
  deadline = λ s. s.row.deadline;
  fresh = λ s d. record { row = record { source = s; deadline = d }; outcome = None };
  unsettled = with_outcome None;
}

-- What a slot shows: its outcome, or 26 where it is unsettled.
abbrev pub slot_shows : {S : Type 0} → Slot S → Answer Response
slot_shows s = elim s.outcome [ Some o ↦ made (outcome_of o) | None ↦ refused 26 ]

-- What the first of the slots shows: its outcome, or 26 where it is unsettled.
abbrev pub first_shows : {S : Type 0} → List (Slot S) → Answer Response
first_shows [] = refused 25
first_shows (s ∷ ss) = slot_shows s

module _ {S : Type 0} (sources : Meanings S) where
  -- The response of the row at a place among the rows.
  abbrev pub response_at : ℕ → List (Slot S) → Response
  response_at m rows = response (place (models sources slots rows) m) (slice_index (map (λ s. s.row.deadline) rows) m)

  -- Settle: 25 no such row, and otherwise, whatever the memory holds, what the analysis of the rows refuses; otherwise the row's
  -- response is stored with it.
  abbrev pub settle_slots : ℕ → List (Slot S) → Answer (List (Slot S))
  settle_slots id rows =
      let m : ℕ = place_in sources slots id rows in
      checked ((not (is_in sources slots id rows), 25) ∷ row_checks (models sources slots rows) (map (λ s. s.row.deadline) rows))
      (change_at m (with_outcome (Some (outcome_for (response_at m rows)))) rows)

  -- Look up: 25 no such row, 26 unsettled; otherwise what is stored.
  abbrev pub look_up_slots : ℕ → List (Slot S) → Answer Response
  look_up_slots id rows = elim (is_in sources slots id rows) [ true ↦ first_shows (drop (place_in sources slots id rows) rows) | false ↦ refused 25 ]

-- The lent memory and the number of rows in it.
pub record Memory (S : Type 0) : Type 0 where
  pub places : List (Slot S)
  pub used : ℕ

-- The lent slots and a number of rows in them, and those of a register.
abbrev pub lent : {S : Type 0} → List (Slot S) → ℕ → Memory S
lent places used = record { places = places; used = used }

abbrev pub memory_of : {S : Type 0} → Register S → Memory S
memory_of register = lent register.slots.now register.used

-- A register that was just opened has no row.
abbrev pub opened : {S : Type 0} → List (Slot S) → Memory S
opened places = lent places 0

-- The standing rows.
abbrev pub standing : {S : Type 0} → Memory S → List (Slot S)
standing memory = take memory.used memory.places

-- The memory with other rows: places past the last row keep what they hold.
abbrev pub laid : {S : Type 0} → Memory S → List (Slot S) → Memory S
laid memory rows = lent (rows ++ drop (length rows) memory.places) (length rows)

module _ {S : Type 0} (sources : Meanings S) where
  -- The calls on the rows in memory.
  abbrev pub enter_memory : Row S → Memory S → Answer (List (Slot S))
  enter_memory row memory = enter_rows sources slots (length memory.places) row.source row.deadline (standing memory)

  abbrev pub amend_memory : Row S → Memory S → Answer (List (Slot S))
  amend_memory row memory = amend_rows sources slots row.source row.deadline (standing memory)

  abbrev pub withdraw_memory : ℕ → Memory S → Answer (List (Slot S))
  withdraw_memory id memory = withdraw_rows sources slots id (standing memory)

  abbrev pub settle_memory : ℕ → Memory S → Answer (List (Slot S))
  settle_memory id memory = settle_slots sources id (standing memory)

  abbrev pub look_up_memory : ℕ → Memory S → Answer Response
  look_up_memory id memory = look_up_slots sources id (standing memory)

-- The bound that a slot shows, and 0 where it shows none.
abbrev pub bound_shown : {S : Type 0} → Slot S → ℕ
bound_shown s = elim s.outcome [ Some o ↦ bound_of (outcome_of o) | None ↦ 0 ]

-- Chart: 32 a list shorter than the row count; otherwise one bound a row in their order, and the rest of the list as it was.
abbrev pub chart_rows : {S : Type 0} → List (Slot S) → List ℕ → Answer (List ℕ)
chart_rows rows list = checked ((nat_lt (length list) (length rows), 32) ∷ []) (map bound_shown rows ++ drop (length rows) list)

-- Whether a call is accepted.
abbrev pub accepted : {V : Type 0} → Answer V → Answer (Unit {0})
accepted (made v) = made (tt {0})
accepted (refused n) = refused n

-- How many bounds chart writes.
abbrev pub chart_count : {S : Type 0} → List (Slot S) → List ℕ → Answer ℕ
chart_count rows list = checked ((nat_lt (length list) (length rows), 32) ∷ []) (length rows)

-- The list after chart: as it was where it is refused.
abbrev pub list_after : List ℕ → Answer (List ℕ) → List ℕ
list_after list (made new) = new
list_after list (refused n) = list

-- The memory after a call: other rows, or as it was where the call is refused.
abbrev pub stored : {S : Type 0} → Memory S → Answer (List (Slot S)) → Memory S
stored memory (made rows) = laid memory rows
stored memory (refused n) = memory
