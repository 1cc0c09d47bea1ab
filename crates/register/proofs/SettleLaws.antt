-- What settling shows, over rows whose checks pass. Assumes nothing.
use Rattle.std.proofs.Common.{◌≡◌, ℕ, zero, suc, Bool, true, false, not, ◌⊎◌, List, [], ◌∷◌, map, get_or, drop, Some, sym, refl, ap, ◌∙◌, subst, ap₂, inl, inr}
use mathlib.Core.List.{map-map}
use Rattle.std.proofs.lemmas.Bool.{true≢false, false≢true, not_from_true, not_from_false}
use Rattle.sources.specs.Models.{model, Meanings}
use Rattle.sources.specs.Answers.{Answer, made, refused, checked}
use Rattle.sources.proofs.AnswerChecks.{NoFault, checked_made}
use Rattle.response.specs.declared.listed.Row.{Row}
use Rattle.response.specs.declared.outcome.Outcome.{Outcome}
use Rattle.response.specs.Bounds.{Response, response, place}
use Rattle.response.specs.Views.{outcome_of}
use Rattle.response.specs.Analysis.{row_checks}
use Rattle.register.specs.declared.slot.Slot.{Slot}
use Rattle.register.specs.declared.uses.Use.TheVariants.{Settle}
use Rattle.register.specs.Tables.{starts_with, change_at}
use Rattle.register.specs.Calls.{identifier, models, place_in, is_in}
use Rattle.register.specs.Slots.{slots, outcome_for, with_outcome, first_shows, response_at, settle_slots}
use Rattle.register.specs.Steps.{changes, register_step, register_after}
use Rattle.register.specs.Promises.{In, Shows}
use Rattle.register.proofs.TableLaws.{same_place, same_has, change_at_keeps}
use Rattle.register.proofs.Invariant.{outcome_is}
use Rattle.register.proofs.ShownLaws.{shown_in}

-- The rows of slots, without the outcomes.
abbrev pub bare : {S : Type 0} → List (Slot S) → List (Row S)
bare rows = map (λ s. s.row) rows

-- The identifier of a row.
abbrev pub name_of : {S : Type 0} → Meanings S → Row S → ℕ
name_of sources r = sources.identifier r.source

-- An outcome stored at a place is shown there.
stored_here : {S : Type 0} (key : Slot S → ℕ) (k m : ℕ) (o : Outcome) (rows : List (Slot S)) → starts_with key k (drop m rows) ≡ true →
    first_shows (drop m (change_at m (with_outcome (Some o)) rows)) ≡ made (outcome_of o)
stored_here key k zero o [] here = absurd (false≢true here)
stored_here key k (suc m) o [] here = absurd (false≢true here)
stored_here key k zero o (s ∷ rest) here = refl
stored_here key k (suc m) o (s ∷ rest) here = stored_here key k m o rest here

-- An outcome stored at a place changes what is shown at no other place.
stored_there : {S : Type 0} (m other : ℕ) (o : Outcome) (rows : List (Slot S)) →
    (first_shows (drop m (change_at other (with_outcome (Some o)) rows)) ≡ first_shows (drop m rows))
    ⊎ ((m ≡ other) × (first_shows (drop m (change_at other (with_outcome (Some o)) rows)) ≡ made (outcome_of o)))
stored_there zero zero o [] = inl refl
stored_there zero (suc other) o [] = inl refl
stored_there (suc m) zero o [] = inl refl
stored_there (suc m) (suc other) o [] = inl refl
stored_there zero zero o (s ∷ rest) = inr (refl, refl)
stored_there zero (suc other) o (s ∷ rest) = inl refl
stored_there (suc m) zero o (s ∷ rest) = inl refl
stored_there (suc m) (suc other) o (s ∷ rest) = elim (stored_there m other o rest) [
  | inl same ↦ inl same
  | inr both ↦ inr (ap suc both.0, both.1)
]

-- A first check that finds a fault gives its number.
pub checked_refused : {V : Type 0} (c : Bool) (n : ℕ) (cs : List (Bool × ℕ)) (v : V) → c ≡ true → checked ((c, n) ∷ cs) v ≡ refused n
checked_refused true n cs v found = refl
checked_refused false n cs v found = absurd (false≢true found)

-- A first check that finds no fault leaves the answer to the others.
pub checked_next : {V : Type 0} (c : Bool) (n : ℕ) (cs : List (Bool × ℕ)) (v : V) → c ≡ false → checked ((c, n) ∷ cs) v ≡ checked cs v
checked_next true n cs v none = absurd (true≢false none)
checked_next false n cs v none = refl

module _ {S : Type 0} (sources : Meanings S) where
  -- The identifiers of slots are those of their rows.
  pub names_bare : (rows : List (Slot S)) → map (identifier sources slots) rows ≡ map (name_of sources) (bare rows)
  names_bare rows = sym (map-map (name_of sources) (λ s. s.row) rows)

  models_bare : (rows : List (Slot S)) → models sources slots rows ≡ map (λ r. model sources r.source) (bare rows)
  models_bare rows = sym (map-map (λ r. model sources r.source) (λ s. s.row) rows)

  deadlines_bare : (rows : List (Slot S)) → map (λ s. s.row.deadline) rows ≡ map (λ r. r.deadline) (bare rows)
  deadlines_bare rows = sym (map-map (λ r. r.deadline) (λ s. s.row) rows)

  -- The response of the row with an identifier.
  abbrev pub response_of : ℕ → List (Slot S) → Response
  response_of id rows = response_at sources (place_in sources slots id rows) rows

  -- The checks of the rows, as settle makes them, find no fault.
  abbrev pub ChecksPass : List (Slot S) → Type 0
  ChecksPass rows = NoFault (row_checks (models sources slots rows) (map (λ s. s.row.deadline) rows))

  module _ (xs ys : List (Slot S)) (same : bare xs ≡ bare ys) where
    same_names : map (identifier sources slots) xs ≡ map (identifier sources slots) ys
    same_names = names_bare xs ∙ ap (map (name_of sources)) same ∙ sym (names_bare ys)

    same_models : models sources slots xs ≡ models sources slots ys
    same_models = models_bare xs ∙ ap (map (λ r. model sources r.source)) same ∙ sym (models_bare ys)

    same_deadlines : map (λ s. s.row.deadline) xs ≡ map (λ s. s.row.deadline) ys
    same_deadlines = deadlines_bare xs ∙ ap (map (λ r. r.deadline)) same ∙ sym (deadlines_bare ys)

    -- Rows that are the same without their outcomes stand at the same places.
    pub same_place_in : (id : ℕ) → place_in sources slots id xs ≡ place_in sources slots id ys
    same_place_in id = same_place (identifier sources slots) (identifier sources slots) xs ys same_names id

    -- The same rows stand.
    pub same_is_in : (id : ℕ) → is_in sources slots id xs ≡ is_in sources slots id ys
    same_is_in id = same_has (identifier sources slots) (identifier sources slots) xs ys same_names id

    -- They have the same responses.
    pub same_response : (id : ℕ) → response_of id xs ≡ response_of id ys
    same_response id =
        ap (λ m. response_at sources m xs) (same_place_in id)
        ∙ ap₂ (λ ms ds. response (place ms (place_in sources slots id ys)) (get_or ds (place_in sources slots id ys) 0)) same_models same_deadlines

    -- They pass the same checks.
    pub same_checks : ChecksPass xs → ChecksPass ys
    same_checks pass = subst NoFault (ap₂ row_checks same_models same_deadlines) pass

  -- Settling the row with an identifier, where it stands and the checks pass, stores its response.
  settle_made : (id : ℕ) (rows : List (Slot S)) → ChecksPass rows → is_in sources slots id rows ≡ true →
      settle_slots sources id rows ≡ made (change_at (place_in sources slots id rows) (with_outcome (Some (outcome_for (response_of id rows)))) rows)
  settle_made id rows pass here =
      checked_made ((not (is_in sources slots id rows), 25) ∷ row_checks (models sources slots rows) (map (λ s. s.row.deadline) rows)) _
      (not_from_true (is_in sources slots id rows) here, pass)

  settle_refused : (id : ℕ) (rows : List (Slot S)) → is_in sources slots id rows ≡ false → settle_slots sources id rows ≡ refused 25
  settle_refused id rows gone =
      checked_refused (not (is_in sources slots id rows)) 25 (row_checks (models sources slots rows) (map (λ s. s.row.deadline) rows)) _
      (not_from_false (is_in sources slots id rows) gone)

  -- The row with an identifier shows its response.
  abbrev pub ShowsOwn : List (Slot S) → ℕ → Type 0
  ShowsOwn rows id = Shows sources rows id (response_of id rows)

  -- What stands at the place of a row is what it shows.
  first_shown : (rows : List (Slot S)) (id : ℕ) (r : Response) → is_in sources slots id rows ≡ true →
      first_shows (drop (place_in sources slots id rows) rows) ≡ made r → Shows sources rows id r
  first_shown rows id r here first = ap (λ b. elim b as (λ _. Answer Response) [ true ↦ first_shows (drop (place_in sources slots id rows) rows) | false ↦ refused 25 ]) here ∙ first

  -- Rows after an identifier is settled: the same but for their outcomes, and its row, if it stands, shows its response, as do those that did.
  record Settled (id : ℕ) (rows after : List (Slot S)) : Type 0 where
    keeps : bare after ≡ bare rows
    here : is_in sources slots id rows ≡ true → ShowsOwn after id
    there : (other : ℕ) → ShowsOwn rows other → ShowsOwn after other

  module _ (id : ℕ) (rows : List (Slot S)) (pass : ChecksPass rows) where
    abbrev with_response : List (Slot S)
    with_response = change_at (place_in sources slots id rows) (with_outcome (Some (outcome_for (response_of id rows)))) rows

    response_kept : bare with_response ≡ bare rows
    response_kept = change_at_keeps (λ s. s.row) (with_outcome (Some (outcome_for (response_of id rows)))) (λ s. refl) (place_in sources slots id rows) rows

    -- Where the slot at the place of a standing row shows the row's response, so does the row.
    own_from_first : (other : ℕ) → is_in sources slots other rows ≡ true →
        first_shows (drop (place_in sources slots other rows) with_response) ≡ made (response_of other rows) → ShowsOwn with_response other
    own_from_first other here first =
        first_shown with_response other (response_of other with_response) (same_is_in with_response rows response_kept other ∙ here)
        (ap (λ m. first_shows (drop m with_response)) (same_place_in with_response rows response_kept other) ∙ first
        ∙ ap made (sym (same_response with_response rows response_kept other)))

    settled_present : is_in sources slots id rows ≡ true → Settled id rows with_response
    settled_present present = record {
      keeps = response_kept;
      here = λ _. own_from_first id present
          (stored_here (identifier sources slots) id (place_in sources slots id rows) (outcome_for (response_of id rows)) rows present
          ∙ ap made (outcome_is (response_of id rows)));
      there = λ other shows. own_from_first other (shown_in sources rows other (response_of other rows) shows).0
          (elim (stored_there (place_in sources slots other rows) (place_in sources slots id rows) (outcome_for (response_of id rows)) rows) [
            | inl same ↦ same ∙ (shown_in sources rows other (response_of other rows) shows).1
            | inr both ↦ both.1 ∙ ap made (outcome_is (response_of id rows) ∙ ap (λ m. response_at sources m rows) (sym both.0))
          ]);
    }

    settled_absent : is_in sources slots id rows ≡ false → Settled id rows rows
    settled_absent gone = record { keeps = refl; here = λ present. absurd (false≢true (sym gone ∙ present)); there = λ other shows. shows }

    -- Settling an identifier among rows whose checks pass does so.
    settled : (places : ℕ) → Settled id rows (register_step sources places rows (Settle id)).rows
    settled places = go (is_in sources slots id rows) refl
      where
        go : (b : Bool) → is_in sources slots id rows ≡ b → Settled id rows (register_step sources places rows (Settle id)).rows
        go true present = subst (λ a. Settled id rows (changes rows a).rows) (sym (settle_made id rows pass present)) (settled_present present)
        go false gone = subst (λ a. Settled id rows (changes rows a).rows) (sym (settle_refused id rows gone)) (settled_absent gone)

  -- Rows after identifiers are settled: the same but for their outcomes, and the row of each, if it stands, shows its response, as do those
  -- that did.
  pub record AllSettled (ids : List ℕ) (rows after : List (Slot S)) : Type 0 where
    pub keeps : bare after ≡ bare rows
    pub here : (id : ℕ) → In id ids → is_in sources slots id rows ≡ true → ShowsOwn after id
    pub there : (id : ℕ) → ShowsOwn rows id → ShowsOwn after id

  -- Settling identifiers in any order among rows whose checks pass does so.
  pub all_settled : (places : ℕ) (ids : List ℕ) (rows : List (Slot S)) → ChecksPass rows →
      AllSettled ids rows (register_after sources places rows (map Settle ids))
  all_settled places [] rows pass = record { keeps = refl; here = λ id inside. absurd inside; there = λ id shows. shows }
  all_settled places (first ∷ ids) rows pass =
      let next : List (Slot S) = (register_step sources places rows (Settle first)).rows in
      let one : Settled first rows next = settled first rows pass places in
      let rest = all_settled places ids next (same_checks rows next (sym one.keeps) pass) in
      record {
        keeps = rest.keeps ∙ one.keeps;
        here = λ id inside present. elim inside [
          | inl same ↦ rest.there id (subst (ShowsOwn next) (sym same) (one.here (ap (λ n. is_in sources slots n rows) (sym same) ∙ present)))
          | inr later ↦ rest.here id later (same_is_in next rows one.keeps id ∙ present)
        ];
        there = λ id shows. rest.there id (one.there id shows);
      }
