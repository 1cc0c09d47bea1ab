-- What enter, amend and withdraw leave, check by check. Assumes nothing.
use Rattle.std.proofs.Common.{◌≡◌, ℕ, suc, ◌+◌, ◌-◌, ◌<◌, ◌≤◌, Bool, true, false, not, leb, List, [], ◌∷◌, ◌++◌, length, take, drop, Ok, Err, Result, sym, refl, ap, ◌∙◌, ap₂, arith}
use Rattle.std.proofs.lemmas.Bool.{leb-false, or_parts}
use Rattle.sources.specs.Models.{model, Meanings}
use Rattle.sources.specs.Answers.{made, refused, checked}
use Rattle.sources.proofs.AnswerChecks.{checked_made}
use Rattle.response.specs.Analysis.{own_checks, row_answer}
use Rattle.response.specs.declared.listed.Row.{Row}
use Rattle.register.specs.declared.slot.Slot.{Slot}
use Rattle.register.specs.Tables.{found_in}
use Rattle.register.specs.Calls.{identifier, is_in, full, become, withdraw_checks}
use Rattle.register.specs.Slots.{slots, Memory, standing, lent, stored, enter_memory, amend_memory, withdraw_memory}
use Rattle.register.proofs.TableLaws.{place_within, place_inside}
use Rattle.register.proofs.FindLaws.{row_found, gap_found}
use Rattle.register.proofs.MemoryLaws.{entered, replaced, withdrawn}
use Rattle.register.proofs.SettleLaws.{checked_refused}

-- Checks that pass leave the answer to those after them.
checked_past : {U V : Type 0} (cs ds : List (Bool × ℕ)) (u : U) (v : V) → made u ≡ checked cs u → checked (cs ++ ds) v ≡ checked ds v
checked_past [] ds u v e = refl
checked_past ((true, k) ∷ cs) ds u v e = let z : ◌≡◌ {A = ℕ} 0 1 = cc in absurd (omega arith)
checked_past ((false, k) ∷ cs) ds u v e = checked_past cs ds u v e

-- What the first checks refuse is refused.
checked_first : {U V : Type 0} (cs ds : List (Bool × ℕ)) (u : U) (v : V) (n : ℕ) → refused n ≡ checked cs u → checked (cs ++ ds) v ≡ refused n
checked_first [] ds u v n e = let z : ◌≡◌ {A = ℕ} 0 1 = cc in absurd (omega arith)
checked_first ((true, k) ∷ cs) ds u v n e = let same : k ≡ n = cc in ap refused same
checked_first ((false, k) ∷ cs) ds u v n e = checked_first cs ds u v n e

-- Where there is room for one row more, there is a place for it.
pub room_left : (places count : ℕ) → full places count ≡ false → count < places
room_left places count free = leb-false places count (or_parts (leb 256 count) (leb places count) free).1

-- Where a search ends, among the rows.
module _ {S : Type 0} (sources : Meanings S) (rows : List (Slot S)) (id place : ℕ) where
  pub gap_within : Err place ≡ found_in (identifier sources slots) id rows → place ≤ length rows
  gap_within gap = omega (arith, (gap_found (identifier sources slots) id rows place gap).0, place_within (identifier sources slots) id rows)

  pub row_within : Ok place ≡ found_in (identifier sources slots) id rows → place < length rows
  row_within found =
      let parts = row_found (identifier sources slots) id rows place found in
      omega (arith, parts.0, place_inside (identifier sources slots) id rows parts.1)

-- What a call leaves, where the rows that it searched are the standing ones.
module _ {S : Type 0} (sources : Meanings S) (memory : Memory S) (rows : List (Slot S)) (are : rows ≡ standing memory) where
  abbrev key : Slot S → ℕ
  key = identifier sources slots

  abbrev places : List (Slot S)
  places = memory.places

  abbrev count : ℕ
  count = length rows

  count_is : count ≡ length (standing memory)
  count_is = ap length are

  module _ (id place : ℕ) where
    pub withdraw_leaves : Ok place ≡ found_in key id rows →
        lent ((become sources slots place (drop (place + 1) (take count places)) (take count places) ++ drop (length (take count places) - 1) (take count places)) ++ drop count places) (count - 1)
        ≡ stored memory (withdraw_memory sources id memory)
    withdraw_leaves found =
        let parts = row_found key id (standing memory) place (found ∙ ap (found_in key id) are) in
        withdrawn sources memory count place count_is (row_within sources rows id place found)
        ∙ sym (ap (stored memory)
        (checked_made (withdraw_checks sources slots id (standing memory)) _ (ap not parts.1, tt)
        ∙ ap (λ p. made (become sources slots p (drop (suc p) (standing memory)) (standing memory))) (sym parts.0)))

  -- The calls on a row that passes its checks.
  module _ (row : Row S) (passes : made (tt {0}) ≡ row_answer (model sources row.source) row.deadline) (id place : ℕ) (named : id ≡ sources.identifier row.source) where
    abbrev own : ℕ
    own = sources.identifier row.source

    abbrev fresh : Slot S
    fresh = slots.fresh row.source row.deadline

    of_own : (r : Result ℕ ℕ) → r ≡ found_in key id rows → r ≡ found_in key own (standing memory)
    of_own r e = e ∙ ap₂ (found_in key) named are

    abbrev of_enter : List (Bool × ℕ)
    of_enter = (is_in sources slots own (standing memory), 23) ∷ (full (length places) (length (standing memory)), 24) ∷ []

    pub enter_leaves : Err place ≡ found_in key id rows → full (length places) count ≡ false →
        lent (become sources slots place (fresh ∷ drop place (take (length (take (count + 1) places) - 1) (take (count + 1) places))) (take (length (take (count + 1) places) - 1) (take (count + 1) places)) ++ drop (count + 1) places) (count + 1)
        ≡ stored memory (enter_memory sources row memory)
    enter_leaves gap free =
        let parts = gap_found key own (standing memory) place (of_own (Err place) gap) in
        entered sources memory count place count_is fresh (gap_within sources rows id place gap) (room_left (length places) count free)
        ∙ sym (ap (stored memory)
        (checked_past (own_checks (model sources row.source) row.deadline) of_enter (tt {0}) _ passes
        ∙ checked_made of_enter _ (parts.1, (ap (full (length places)) (sym count_is) ∙ free, tt))
        ∙ ap (λ p. made (become sources slots p (fresh ∷ drop p (standing memory)) (standing memory))) (sym parts.0)))

    abbrev of_amend : List (Bool × ℕ)
    of_amend = (not (is_in sources slots own (standing memory)), 25) ∷ []

    pub amend_leaves : Ok place ≡ found_in key id rows →
        lent (become sources slots place (fresh ∷ drop (place + 1) (take count places)) (take count places) ++ drop count places) count ≡ stored memory (amend_memory sources row memory)
    amend_leaves found =
        let parts = row_found key own (standing memory) place (of_own (Ok place) found) in
        replaced sources memory count place count_is (row_within sources rows id place found) fresh
        ∙ sym (ap (stored memory)
        (checked_past (own_checks (model sources row.source) row.deadline) of_amend (tt {0}) _ passes ∙ checked_made of_amend _ (ap not parts.1, tt)
        ∙ ap (λ p. made (become sources slots p (fresh ∷ drop (suc p) (standing memory)) (standing memory))) (sym parts.0)))

    pub amend_absent : Err place ≡ found_in key id rows → amend_memory sources row memory ≡ refused 25
    amend_absent gap =
        checked_past (own_checks (model sources row.source) row.deadline) of_amend (tt {0}) _ passes
        ∙ checked_refused (not (is_in sources slots own (standing memory))) 25 [] _ (ap not (gap_found key own (standing memory) place (of_own (Err place) gap)).1)
