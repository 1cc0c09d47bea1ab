-- What holds of the rows of every register that was used from empty. Assumes nothing.
use Rattle.std.proofs.Common.{◌≡◌, ℕ, zero, suc, ◌<◌, ◌≤◌, max, Bool, true, false, not, eqb, List, [], ◌∷◌, ◌++◌, map, length, get_or, take, drop, Some, None, Option, sym, refl, ap, ◌∙◌, subst, arith}
use Rattle.std.proofs.lemmas.List.{take-append-drop, append-nil, append_assoc, length-append, length-take, length-drop}
use Rattle.std.proofs.lemmas.Bool.{eqb-true}
use Rattle.sources.specs.Streams.{Model}
use Rattle.sources.specs.Models.{model, Meanings}
use Rattle.sources.specs.Answers.{Answer, made, refused, checked}
use Rattle.sources.proofs.AnswerChecks.{NoFault}
use Rattle.response.specs.declared.listed.Row.{Row}
use Rattle.response.specs.declared.outcome.Outcome.{Outcome}
use Rattle.response.specs.Searches.{horizon}
use Rattle.response.specs.Bounds.{Response, ok, late, none, response, row, row_place, longest_of}
use Rattle.response.specs.Views.{outcome_of}
use Rattle.response.specs.Analysis.{row_checks}
use Rattle.register.specs.declared.slot.Slot.{Slot}
use Rattle.register.specs.Tables.{longest, unsettle_above, change_at}
use Rattle.register.specs.declared.uses.Use.{Use}
use Rattle.register.specs.declared.uses.Use.TheVariants.{Enter, Amend, Withdraw, Settle, LookUp}
use Rattle.register.specs.Calls.{identifier, frame, models, place_in, is_in, become, enter_checks, amend_checks, withdraw_checks}
use Rattle.register.specs.Slots.{slots, outcome_for, with_outcome, response_at, look_up_slots}
use Rattle.register.specs.Steps.{changes, shows, register_step, register_after}
use Rattle.register.proofs.CallLaws.{checked_cases, EnterPassed, AmendPassed, enter_passed, amend_passed}
use Rattle.register.proofs.TableLaws.{AllOf, Rises, longest_append, longest_changed, change_at_keeps, changed_keeps, same_rises, same_all, same_length, all_append, all_take, all_drop, insert_rises, replace_rises, remove_rises, place_inside}

-- A stored outcome is a response, or there is none.
abbrev pub Matches : Option Outcome → Response → Type 0
Matches (Some o) r = outcome_of o ≡ r
Matches None r = Unit {0}

-- A row whose deadline and whose jitter are in their ranges.
abbrev pub InRange : {S : Type 0} → Meanings S → Row S → Type 0
InRange sources row = (1 ≤ row.deadline) × (row.deadline ≤ horizon) × (sources.jitter row.source ≤ horizon)

module _ {S : Type 0} (sources : Meanings S) where
  -- Each outcome that is stored with one of the rows is its response, where other rows stand above them all.
  abbrev pub Stored : List Model → List (Slot S) → Type 0
  Stored above [] = Unit {0}
  Stored above (s ∷ rest) =
      Matches s.outcome (response (row_place above (model sources s.row.source) (longest_of (models sources slots rest))) s.row.deadline)
      × Stored (above ++ model sources s.row.source ∷ []) rest

  -- Rows as they stand in a register with a number of places that was used from empty: few enough, rising, in their ranges, and with the
  -- responses over the rows now standing as outcomes.
  pub record Good (places : ℕ) (rows : List (Slot S)) : Type 0 where
    pub fits : length rows ≤ places
    pub few : length rows ≤ 256
    pub rises : Rises (identifier sources slots) rows
    pub in_range : AllOf (λ s. s.row) (InRange sources) rows
    pub stored : Stored [] rows

-- The outcome that stands for a response is that response.
pub outcome_is : (r : Response) → outcome_of (outcome_for r) ≡ r
outcome_is (ok bound rounds) = refl
outcome_is (late bound rounds) = refl
outcome_is (none rounds) = refl

-- The outcome of the first row is a response, or there is none.
abbrev pub FirstMatches : {S : Type 0} → List (Slot S) → Response → Type 0
FirstMatches [] r = Unit {0}
FirstMatches (s ∷ rest) r = Matches s.outcome r

module _ {S : Type 0} (sources : Meanings S) where
  -- The response of the row at a place among rows, where other rows stand above them all.
  abbrev pub response_under : List Model → ℕ → List (Slot S) → Response
  response_under above m rows =
      response
      (row_place (above ++ take m (models sources slots rows)) (row (models sources slots rows) m) (longest_of (drop (suc m) (models sources slots rows))))
      (get_or (map (λ s. s.row.deadline) rows) m 0)

  first_under : (above : List Model) (s : Slot S) (rest : List (Slot S)) →
      response_under above 0 (s ∷ rest) ≡ response (row_place above (model sources s.row.source) (longest_of (models sources slots rest))) s.row.deadline
  first_under above s rest =
      ap (λ up. response (row_place up (model sources s.row.source) (longest_of (models sources slots rest))) s.row.deadline) (append-nil above)

  later_under : (above : List Model) (m : ℕ) (s : Slot S) (rest : List (Slot S)) →
      response_under (above ++ model sources s.row.source ∷ []) m rest ≡ response_under above (suc m) (s ∷ rest)
  later_under above m s rest =
      ap
      (λ up. response (row_place up (row (models sources slots rest) m) (longest_of (drop (suc m) (models sources slots rest)))) (get_or (map (λ s. s.row.deadline) rest) m 0))
      (append_assoc above (model sources s.row.source ∷ []) (take m (models sources slots rest)))

  -- The outcome stored at a place is the response of the row there.
  pub stored_at : (above : List Model) (m : ℕ) (rows : List (Slot S)) → Stored sources above rows → FirstMatches (drop m rows) (response_under above m rows)
  stored_at above zero [] stored = tt
  stored_at above (suc m) [] stored = tt
  stored_at above zero (s ∷ rest) (first, later) = subst (Matches s.outcome) (sym (first_under above s rest)) first
  stored_at above (suc m) (s ∷ rest) (first, later) =
      subst (FirstMatches (drop m rest)) (later_under above m s rest) (stored_at (above ++ model sources s.row.source ∷ []) m rest later)

  -- The longest frame of rows is that of their models.
  pub longest_models : (rows : List (Slot S)) → longest (frame sources slots) rows ≡ longest_of (models sources slots rows)
  longest_models [] = refl
  longest_models (s ∷ rest) = ap (max (sources.work s.row.source 1)) (longest_models rest)

  -- Unsettled rows store nothing.
  pub stored_unsettled : (above : List Model) (rows : List (Slot S)) → Stored sources above (map (with_outcome None) rows)
  stored_unsettled above [] = tt
  stored_unsettled above (s ∷ rest) = (tt, stored_unsettled (above ++ model sources s.row.source ∷ []) rest)

  -- After a change at a place what is stored is still right: where the longest frame below a row is another, the row is unsettled.
  pub stored_changed : (above : List Model) (top bottom after : List (Slot S)) → Stored sources above (top ++ bottom) →
      Stored sources above
      (unsettle_above (frame sources slots) (with_outcome None) top (longest (frame sources slots) bottom) (longest (frame sources slots) after) ++ map (with_outcome None) after)
  stored_changed above [] bottom after stored = stored_unsettled above after
  stored_changed above (s ∷ rest) bottom after (first, later) =
      go (eqb (max (longest frames rest) (longest frames bottom)) (max (longest frames rest) (longest frames after))) refl
      (stored_changed (above ++ model sources s.row.source ∷ []) rest bottom after later)
    where
      frames : Slot S → ℕ
      frames = frame sources slots

      new : List (Slot S)
      new = unsettle_above frames (with_outcome None) rest (longest frames bottom) (longest frames after) ++ map (with_outcome None) after

      same_below : max (longest frames rest) (longest frames bottom) ≡ max (longest frames rest) (longest frames after) →
          longest_of (models sources slots (rest ++ bottom)) ≡ longest_of (models sources slots new)
      same_below e =
          sym (longest_models (rest ++ bottom)) ∙ longest_append frames rest bottom ∙ e
          ∙ sym (longest_changed frames (with_outcome None) (λ _. refl) rest after (longest frames bottom) (longest frames after)) ∙ longest_models new

      go : (b : Bool) → eqb (max (longest frames rest) (longest frames bottom)) (max (longest frames rest) (longest frames after)) ≡ b →
          Stored sources (above ++ model sources s.row.source ∷ []) new →
          Stored sources above (elim b as (λ _. Slot S) [ true ↦ s | false ↦ with_outcome None s ] ∷ new)
      go true e rest_stored = (
        subst (λ n. Matches s.outcome (response (row_place above (model sources s.row.source) n) s.row.deadline)) (same_below (eqb-true _ _ e)) first,
        rest_stored,
      )
      go false e rest_stored = (tt, rest_stored)

  -- Settling a row stores its response.
  pub stored_settled : (above : List Model) (m : ℕ) (rows : List (Slot S)) (o : Outcome) → outcome_of o ≡ response_under above m rows →
      Stored sources above rows → Stored sources above (change_at m (with_outcome (Some o)) rows)
  stored_settled above zero [] o is stored = tt
  stored_settled above (suc m) [] o is stored = tt
  stored_settled above zero (s ∷ rest) o is (first, later) = (is ∙ first_under above s rest, later)
  stored_settled above (suc m) (s ∷ rest) o is (first, later) =
      let same : models sources slots (change_at m (with_outcome (Some o)) rest) ≡ models sources slots rest =
      change_at_keeps (λ s. model sources s.row.source) (with_outcome (Some o)) (λ _. refl) m rest in (
        subst (λ ms. Matches s.outcome (response (row_place above (model sources s.row.source) (longest_of ms)) s.row.deadline)) (sym same) first,
        stored_settled (above ++ model sources s.row.source ∷ []) m rest o (is ∙ sym (later_under above m s rest)) later,
      )

module _ {S : Type 0} (sources : Meanings S) (places : ℕ) where
  -- No row stands in an empty register.
  pub good_empty : Good sources places []
  good_empty = record { fits = omega arith; few = omega arith; rises = tt; in_range = tt; stored = tt }

  -- Rows from a place on become others, which are in their ranges, and with which the rows are few enough and rise.
  pub good_become : (place : ℕ) (after rows : List (Slot S)) → Good sources places rows →
      Rises (identifier sources slots) (take place rows ++ after) → length (take place rows ++ after) ≤ places → length (take place rows ++ after) ≤ 256 →
      AllOf (λ s. s.row) (InRange sources) after → Good sources places (become sources slots place after rows)
  good_become place after rows good rises fits few in_range =
      let new : List (Slot S) = become sources slots place after rows in
      let same : map (λ s. s.row) new ≡ map (λ s. s.row) (take place rows ++ after) = changed_keeps (λ s. s.row) (with_outcome None) (λ _. refl) (frame sources slots) place after rows in
      let as_many : length new ≡ length (take place rows ++ after) = same_length (λ s. s.row) (λ s. s.row) new (take place rows ++ after) same in
      record {
        fits = omega arith;
        few = omega arith;
        rises = same_rises (identifier sources slots) (identifier sources slots) (take place rows ++ after) new
            (sym (changed_keeps (identifier sources slots) (with_outcome None) (λ _. refl) (frame sources slots) place after rows)) rises;
        in_range = same_all (λ s. s.row) (λ s. s.row) (InRange sources) (take place rows ++ after) new (sym same)
            (all_append (λ s. s.row) (InRange sources) (take place rows) after (all_take (λ s. s.row) (InRange sources) place rows good.in_range) in_range);
        stored = stored_changed sources [] (take place rows) (drop place rows) after (subst (Stored sources []) (sym (take-append-drop place rows)) good.stored);
      }

  module _ (rows : List (Slot S)) (good : Good sources places rows) where
    -- Entering a row leaves good rows.
    pub good_enter : (s : S) (deadline : ℕ) → EnterPassed sources slots places s deadline rows →
        Good sources places
        (become sources slots (place_in sources slots (sources.identifier s) rows) (slots.fresh s deadline ∷ drop (place_in sources slots (sources.identifier s) rows) rows) rows)
    good_enter s deadline passed =
        let place : ℕ = place_in sources slots (sources.identifier s) rows in
        let few : length rows < 256 = passed.few in
        let room : length rows < places = passed.room in
        good_become place (slots.fresh s deadline ∷ drop place rows) rows good
        (insert_rises (identifier sources slots) (sources.identifier s) rows good.rises (slots.fresh s deadline) refl passed.lacks)
        (simp (length-append, length-take, length-drop) (omega arith))
        (simp (length-append, length-take, length-drop) (omega arith))
        ((passed.low, passed.high, passed.jitter), all_drop (λ s. s.row) (InRange sources) place rows good.in_range)

    -- Amending a row leaves good rows.
    pub good_amend : (s : S) (deadline : ℕ) → AmendPassed sources slots s deadline rows →
        Good sources places
        (become sources slots (place_in sources slots (sources.identifier s) rows) (slots.fresh s deadline ∷ drop (suc (place_in sources slots (sources.identifier s) rows)) rows) rows)
    good_amend s deadline passed =
        let place : ℕ = place_in sources slots (sources.identifier s) rows in
        let inside : place < length rows = place_inside (identifier sources slots) (sources.identifier s) rows passed.has in
        let few : length rows ≤ 256 = good.few in
        let fits : length rows ≤ places = good.fits in
        good_become place (slots.fresh s deadline ∷ drop (suc place) rows) rows good
        (replace_rises (identifier sources slots) (sources.identifier s) rows good.rises (slots.fresh s deadline) refl)
        (simp (length-append, length-take, length-drop) (omega arith))
        (simp (length-append, length-take, length-drop) (omega arith))
        ((passed.low, passed.high, passed.jitter), all_drop (λ s. s.row) (InRange sources) (suc place) rows good.in_range)

    -- Withdrawing a row leaves good rows.
    pub good_withdraw : (id : ℕ) →
        Good sources places (become sources slots (place_in sources slots id rows) (drop (suc (place_in sources slots id rows)) rows) rows)
    good_withdraw id =
        let place : ℕ = place_in sources slots id rows in
        let few : length rows ≤ 256 = good.few in
        let fits : length rows ≤ places = good.fits in
        good_become place (drop (suc place) rows) rows good
        (remove_rises (identifier sources slots) id rows good.rises)
        (simp (length-append, length-take, length-drop) (omega arith))
        (simp (length-append, length-take, length-drop) (omega arith))
        (all_drop (λ s. s.row) (InRange sources) (suc place) rows good.in_range)

    -- Settling a row leaves good rows.
    pub good_settle : (m : ℕ) → Good sources places (change_at m (with_outcome (Some (outcome_for (response_at sources m rows)))) rows)
    good_settle m =
        let o : Outcome = outcome_for (response_at sources m rows) in
        let settled : List (Slot S) = change_at m (with_outcome (Some o)) rows in
        let same : map (λ s. s.row) settled ≡ map (λ s. s.row) rows = change_at_keeps (λ s. s.row) (with_outcome (Some o)) (λ _. refl) m rows in
        let as_many : length settled ≡ length rows = same_length (λ s. s.row) (λ s. s.row) settled rows same in
        record {
          fits = omega (arith, good.fits);
          few = omega (arith, good.few);
          rises = same_rises (identifier sources slots) (identifier sources slots) rows settled
              (sym (change_at_keeps (identifier sources slots) (with_outcome (Some o)) (λ _. refl) m rows)) good.rises;
          in_range = same_all (λ s. s.row) (λ s. s.row) (InRange sources) rows settled (sym same) good.in_range;
          stored = stored_settled sources [] m rows o (outcome_is (response_at sources m rows)) good.stored;
        }

    good_changes : (cs : List (Bool × ℕ)) (new : List (Slot S)) → (NoFault cs → Good sources places new) → Good sources places (changes rows (checked cs new)).rows
    good_changes cs new if_made = checked_cases (λ a. Good sources places (changes rows a).rows) cs new if_made (λ n. good)

    good_shows : (a : Answer Response) → Good sources places (shows rows a).rows
    good_shows (made r) = good
    good_shows (refused n) = good

    -- Every use of good rows leaves good rows.
    pub good_step : (u : Use S) → Good sources places (register_step sources places rows u).rows
    good_step (Enter row) =
        good_changes (enter_checks sources slots places row.source row.deadline rows) _
        (λ passed. good_enter row.source row.deadline (enter_passed sources slots places row.source row.deadline rows passed))
    good_step (Amend row) =
        good_changes (amend_checks sources slots row.source row.deadline rows) _
        (λ passed. good_amend row.source row.deadline (amend_passed sources slots row.source row.deadline rows passed))
    good_step (Withdraw id) = good_changes (withdraw_checks sources slots id rows) _ (λ passed. good_withdraw id)
    good_step (Settle id) =
        good_changes ((not (is_in sources slots id rows), 25) ∷ row_checks (models sources slots rows) (map (λ s. s.row.deadline) rows)) _
        (λ passed. good_settle (place_in sources slots id rows))
    good_step (LookUp id) = good_shows (look_up_slots sources id rows)

  -- Uses leave good rows.
  pub good_after : (uses : List (Use S)) (rows : List (Slot S)) → Good sources places rows → Good sources places (register_after sources places rows uses)
  good_after [] rows good = good
  good_after (u ∷ us) rows good = good_after us (register_step sources places rows u).rows (good_step rows good u)
