-- Memory and replies over a list of uses. Assumes nothing.
use Rattle.std.proofs.Common.{◌≡◌, ℕ, suc, ◌+◌, ◌<◌, ◌≤◌, not, List, [], ◌∷◌, ◌++◌, map, length, get_or, take, drop, Some, sym, refl, ap, ◌∙◌, subst, ap₂, arith}
use Rattle.std.proofs.lemmas.List.{length-append, length-drop, length-take, length-take-le, take_more}
use Rattle.sources.specs.Streams.{Laws}
use Rattle.sources.specs.Answers.{Answer}
use Rattle.sources.specs.Models.{model, Meanings}
use Rattle.response.specs.Analysis.{row_checks}
use Rattle.register.specs.declared.slot.Slot.{Slot}
use Rattle.register.specs.declared.uses.Use.{Use}
use Rattle.register.specs.declared.uses.Use.TheVariants.{Enter, Amend, Withdraw, Settle, LookUp}
use Rattle.register.specs.Calls.{identifier, models, place_in, is_in, enter_checks, amend_checks, withdraw_checks}
use Rattle.register.specs.Slots.{slots, with_outcome, outcome_for, response_at, Memory, opened, standing, laid, stored}
use Rattle.register.specs.Steps.{Reply, register_step, register_after, register_replies, memory_step, memory_after}
use Rattle.register.specs.Promises.{Promise}
use Rattle.register.proofs.TableLaws.{place_within, place_inside}
use Rattle.register.proofs.CallLaws.{checked_cases, enter_passed, amend_passed}
use Rattle.register.proofs.MemoryLaws.{become_length, change_length}
use Rattle.register.proofs.RegisterLaws.{standing_step}
use Rattle.register.proofs.Elsewhere.{same_elsewhere}
use Rattle.register.proofs.Promised.{promised}

-- Memory with other rows is as long as it was, if they fit.
laid_length : {S : Type 0} (memory : Memory S) (rows : List (Slot S)) → length rows ≤ length memory.places → length (laid memory rows).places ≡ length memory.places
laid_length memory rows fits = length-append rows (drop (length rows) memory.places) ∙ omega (arith, length-drop (length rows) memory.places)

module _ {S : Type 0} (sources : Meanings S) where
  module _ (memory : Memory S) where
    abbrev rows : List (Slot S)
    rows = standing memory

    abbrev Keeps : Answer (List (Slot S)) → Type 0
    Keeps a = length (stored memory a).places ≡ length memory.places

    few : length rows ≤ length memory.places
    few = omega (arith, length-take memory.used memory.places)

    -- A use leaves the memory as long as it was.
    pub step_length : (u : Use S) → length (memory_step sources memory u).places ≡ length memory.places
    step_length (Enter row) =
        let place : ℕ = place_in sources slots (sources.identifier row.source) rows in
        checked_cases Keeps (enter_checks sources slots (length memory.places) row.source row.deadline rows) _
        (λ none.
        let passed = enter_passed sources slots (length memory.places) row.source row.deadline rows none in
        let inside : place ≤ length rows = place_within (identifier sources slots) (sources.identifier row.source) rows in
        laid_length memory _ (omega (arith, become_length sources place (slots.fresh row.source row.deadline ∷ drop place rows) rows, length-take-le place rows inside, length-drop place rows, passed.room)))
        (λ n. refl)
    step_length (Amend row) =
        let place : ℕ = place_in sources slots (sources.identifier row.source) rows in
        checked_cases Keeps (amend_checks sources slots row.source row.deadline rows) _
        (λ none.
        let passed = amend_passed sources slots row.source row.deadline rows none in
        let inside : place < length rows = place_inside (identifier sources slots) (sources.identifier row.source) rows passed.has in
        laid_length memory _ (omega (arith, few, become_length sources place (slots.fresh row.source row.deadline ∷ drop (suc place) rows) rows, length-take-le place rows (omega arith), length-drop (suc place) rows)))
        (λ n. refl)
    step_length (Withdraw id) =
        let place : ℕ = place_in sources slots id rows in
        checked_cases Keeps (withdraw_checks sources slots id rows) _
        (λ none.
        let inside : place ≤ length rows = place_within (identifier sources slots) id rows in
        laid_length memory _ (omega (arith, few, become_length sources place (drop (suc place) rows) rows, length-take-le place rows inside, length-drop (suc place) rows)))
        (λ n. refl)
    step_length (Settle id) =
        let place : ℕ = place_in sources slots id rows in
        let inside : place ≤ length rows = place_within (identifier sources slots) id rows in
        let change : Slot S → Slot S = with_outcome (Some (outcome_for (response_at sources place rows))) in
        checked_cases Keeps ((not (is_in sources slots id rows), 25) ∷ row_checks (models sources slots rows) (map (λ s. s.row.deadline) rows)) _
        (λ none.
        laid_length memory _
        (omega (arith, few, change_length place change rows)))
        (λ n. refl)
    step_length (LookUp id) = refl

  -- The memory after a list of uses is as long as it was, and one use more is one step more.
  pub after_length : (memory : Memory S) (us : List (Use S)) → length (memory_after sources memory us).places ≡ length memory.places
  after_length memory [] = refl
  after_length memory (u ∷ us) = after_length (memory_step sources memory u) us ∙ step_length memory u

  pub after_more : (memory : Memory S) (us : List (Use S)) (u : Use S) → memory_after sources memory (us ++ (u ∷ [])) ≡ memory_step sources (memory_after sources memory us) u
  after_more memory [] u = refl
  after_more memory (v ∷ us) u = after_more (memory_step sources memory v) us u

  -- The rows in memory are those of the register's steps.
  pub rows_after_are : (memory : Memory S) (us : List (Use S)) → standing (memory_after sources memory us) ≡ register_after sources (length memory.places) (standing memory) us
  rows_after_are memory [] = refl
  rows_after_are memory (u ∷ us) =
      rows_after_are (memory_step sources memory u) us
      ∙ ap₂ (λ n rs. register_after sources n rs us) (step_length memory u) (standing_step sources memory u)

  pub replies_more : (places : ℕ) (rows : List (Slot S)) (us : List (Use S)) (u : Use S) →
      register_replies sources places rows (us ++ (u ∷ [])) ≡ register_replies sources places rows us ++ ((register_step sources places (register_after sources places rows us) u).reply ∷ [])
  replies_more places standing [] u = refl
  replies_more places standing (v ∷ us) u = ap (λ rs. (register_step sources places standing v).reply ∷ rs) (replies_more places (register_step sources places standing v).rows us u)

  -- The promise of a register that was opened and used.
  pub promise_kept : ((s : S) → Laws (model sources s)) → (places : List (Slot S)) (us : List (Use S)) (given : List Reply) → given ≡ register_replies sources (length places) [] us →
      Promise sources (length places) us given (standing (memory_after sources (opened places) us))
  promise_kept lawful places us given is =
      subst (λ rs. Promise sources (length places) us given rs) (sym (rows_after_are (opened places) us))
      (subst (λ rs. Promise sources (length places) us rs (register_after sources (length places) [] us)) (sym is)
      (promised sources lawful (length places) (same_elsewhere sources (length places)) us))

  -- One use more: memory and replies, from what the use left and answered.
  module _ (places : List (Slot S)) (uses : List (Use S)) (i : ℕ) (u : Use S) (inside : i < length uses) (is : u ≡ get_or uses i u)
      (now_memory : Memory S) (was : now_memory ≡ memory_after sources (opened places) (take i uses)) where
    next_uses : take (i + 1) uses ≡ take i uses ++ (u ∷ [])
    next_uses = take_more uses i u inside ∙ ap (λ v. take i uses ++ (v ∷ [])) (sym is)

    pub memory_next : (next : Memory S) → next ≡ memory_step sources now_memory u → next ≡ memory_after sources (opened places) (take (i + 1) uses)
    memory_next next e =
        e ∙ ap (λ m. memory_step sources m u) was ∙ sym (after_more (opened places) (take i uses) u)
        ∙ ap (memory_after sources (opened places)) (sym next_uses)

    pub replies_next : (given : List Reply) → given ≡ register_replies sources (length places) [] (take i uses) →
        (reply : Reply) → reply ≡ (register_step sources (length now_memory.places) (standing now_memory) u).reply →
        given ++ (reply ∷ []) ≡ register_replies sources (length places) [] (take (i + 1) uses)
    replies_next given before reply answer =
        let long : length now_memory.places ≡ length places = ap (λ m. length m.places) was ∙ after_length (opened places) (take i uses) in
        let rows_are : standing now_memory ≡ register_after sources (length places) [] (take i uses) = ap standing was ∙ rows_after_are (opened places) (take i uses) in
        ap₂ (λ rs r. rs ++ (r ∷ [])) before (answer ∙ ap₂ (λ n rs. (register_step sources n rs u).reply) long rows_are)
        ∙ sym (replies_more (length places) [] (take i uses) u)
        ∙ ap (register_replies sources (length places) []) (sym next_uses)
