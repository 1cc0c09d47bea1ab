-- What settle answers, from the analysis. Assumes nothing.
use Rattle.std.proofs.Common.{◌≡◌, ℕ, suc, ◌<◌, true, not, List, [], ◌∷◌, ◌++◌, map, length, take, drop, Some, Ok, sym, refl, ap, ◌∙◌, arith}
use Rattle.sources.specs.Models.{Meanings}
use Rattle.sources.specs.Streams.{Model}
use Rattle.sources.specs.Answers.{Answer, made, refused}
use Rattle.response.specs.declared.outcome.Outcome.{Outcome}
use Rattle.response.specs.declared.outcome.Outcome.TheVariants as outcomes
use Rattle.response.specs.Bounds.{Response}
use Rattle.response.specs.Views.{outcome_of}
use Rattle.response.specs.Analysis.{row_checks, rows_answer, response_answer}
use Rattle.response.proofs.Responding.{with_values, checked_with, a_row}
use Rattle.register.specs.declared.slot.Slot.{Slot}
use Rattle.register.specs.Tables.{change_at, found_in}
use Rattle.register.specs.Calls.{identifier, models, place_in, is_in}
use Rattle.register.specs.Slots.{slots, outcome_for, with_outcome, response_at, settle_slots, Memory, standing, lent, stored, settle_memory}
use Rattle.register.proofs.SettleLaws.{checked_next}
use Rattle.register.proofs.FindLaws.{row_found}
use Rattle.register.proofs.MemoryLaws.{changed}
use Rattle.register.proofs.CallAnswers.{row_within}

-- The outcome that stands for an outcome's response is that outcome.
outcome_back : (o : Outcome) → outcome_for (outcome_of o) ≡ o
outcome_back (outcomes.Ok bound rounds) = refl
outcome_back (outcomes.Late bound rounds) = refl
outcome_back (outcomes.None rounds) = refl

-- An answer with values is made where the one without is, and has those values.
values_made : (a : Answer (Unit {0})) (v w : Response) → made w ≡ with_values v a → (made (tt {0}) ≡ a) × (w ≡ v)
values_made (made u) v w e = (refl, cc)
values_made (refused n) v w e = let z : ◌≡◌ {A = ℕ} 0 1 = cc in absurd (omega arith)

values_refused : {V : Type 0} (a : Answer (Unit {0})) (v : Response) (x : V) (n : ℕ) → refused n ≡ with_values v a → with_values x a ≡ refused n
values_refused (made u) v x n e = let z : ◌≡◌ {A = ℕ} 0 1 = cc in absurd (omega arith)
values_refused (refused m) v x n e = let same : m ≡ n = cc in ap refused same

models_count : {S : Type 0} (sources : Meanings S) (rows : List (Slot S)) → length (models sources slots rows) ≡ length rows
models_count sources [] = refl
models_count sources (s ∷ rows) = ap suc (models_count sources rows)

module _ {S : Type 0} (sources : Meanings S) (id : ℕ) (rows : List (Slot S)) (m : ℕ)
    (has : is_in sources slots id rows ≡ true) (is : m ≡ place_in sources slots id rows) (inside : m < length rows) where
  abbrev ms : List Model
  ms = models sources slots rows

  abbrev deadlines : List ℕ
  deadlines = map (λ s. s.row.deadline) rows

  -- Settle leaves its answer to the analysis.
  settle_by_analysis : settle_slots sources id rows ≡ with_values (change_at m (with_outcome (Some (outcome_for (response_at sources m rows)))) rows) (rows_answer ms deadlines)
  settle_by_analysis =
      checked_next (not (is_in sources slots id rows)) 25 (row_checks ms deadlines) _ (ap not has)
      ∙ checked_with (row_checks ms deadlines) _
      ∙ ap (λ p. with_values (change_at p (with_outcome (Some (outcome_for (response_at sources p rows)))) rows) (rows_answer ms deadlines)) (sym is)

  analysis_is : response_answer ms deadlines m ≡ with_values (response_at sources m rows) (rows_answer ms deadlines)
  analysis_is = a_row ms deadlines m (omega (arith, models_count sources rows))

  settle_stores : (o : Outcome) → made (outcome_of o) ≡ response_answer ms deadlines m → settle_slots sources id rows ≡ made (change_at m (with_outcome (Some o)) rows)
  settle_stores o e =
      let parts = values_made (rows_answer ms deadlines) (response_at sources m rows) (outcome_of o) (e ∙ analysis_is) in
      let same : outcome_for (response_at sources m rows) ≡ o = ap outcome_for (sym parts.1) ∙ outcome_back o in
      settle_by_analysis
      ∙ ap (with_values (change_at m (with_outcome (Some (outcome_for (response_at sources m rows)))) rows)) (sym parts.0)
      ∙ ap (λ x. made (change_at m (with_outcome (Some x)) rows)) same

  settle_refuses : (n : ℕ) → refused n ≡ response_answer ms deadlines m → settle_slots sources id rows ≡ refused n
  settle_refuses n e = settle_by_analysis ∙ values_refused (rows_answer ms deadlines) (response_at sources m rows) _ n (e ∙ analysis_is)

-- Settle, where a search among the rows found the identifier.
module _ {S : Type 0} (sources : Meanings S) (memory : Memory S) (rows : List (Slot S)) (are : rows ≡ standing memory) (id m : ℕ)
    (found : Ok m ≡ found_in (identifier sources slots) id rows) where
  abbrev here : Ok m ≡ found_in (identifier sources slots) id (standing memory)
  here = found ∙ ap (found_in (identifier sources slots) id) are

  parts : (m ≡ place_in sources slots id (standing memory)) × (is_in sources slots id (standing memory) ≡ true)
  parts = row_found (identifier sources slots) id (standing memory) m here

  inside : m < length (standing memory)
  inside = row_within sources (standing memory) id m here

  -- The response of the row at the place.
  abbrev pub answer_at : List (Slot S) → Answer Response
  answer_at rs = response_answer (models sources slots rs) (map (λ s. s.row.deadline) rs) m

  pub settle_is : (o : Outcome) → made (outcome_of o) ≡ answer_at rows → settle_memory sources id memory ≡ made (change_at m (with_outcome (Some o)) (standing memory))
  settle_is o e = settle_stores sources id (standing memory) m parts.1 parts.0 inside o (e ∙ ap answer_at are)

  pub settle_leaves : (o : Outcome) → made (outcome_of o) ≡ answer_at rows →
      lent (change_at m (with_outcome (Some o)) (take (length rows) memory.places) ++ drop (length rows) memory.places) (length rows) ≡ stored memory (settle_memory sources id memory)
  settle_leaves o e =
      changed sources memory (length rows) m (ap length are) (row_within sources rows id m found) (with_outcome (Some o)) ∙ sym (ap (stored memory) (settle_is o e))

  pub settle_denied : (n : ℕ) → refused n ≡ answer_at rows → settle_memory sources id memory ≡ refused n
  settle_denied n e = settle_refuses sources id (standing memory) m parts.1 parts.0 inside n (e ∙ ap answer_at are)
