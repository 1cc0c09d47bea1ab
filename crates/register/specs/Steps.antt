-- One use after the other, on rows of any kind.
use Rattle.std.specs.Prelude.{ℕ, List, [], ◌∷◌, Some, None, Ok, Err, Option, Result}
use Rattle.sources.specs.Models.{Meanings}
use Rattle.sources.specs.Answers.{Answer, made, refused}
use Rattle.response.specs.Bounds.{Response}
use Rattle.response.specs.Views.{outcome_of}
use Rattle.response.specs.declared.outcome.Outcome.{Outcome}
use Rattle.register.specs.declared.slot.Slot.{Slot}
use Rattle.register.specs.declared.uses.RegisterFault.{RegisterFault}
use Rattle.register.specs.declared.uses.Use.{Use}
use Rattle.register.specs.declared.uses.Use.TheVariants.{Enter, Amend, Withdraw, Settle, LookUp}
use Rattle.register.specs.Faults.{fault_number}
use Rattle.register.specs.Calls.{Kind, enter_rows, amend_rows, withdraw_rows}
use Rattle.register.specs.Slots.{slots, settle_slots, look_up_slots, Memory, stored, enter_memory, amend_memory, withdraw_memory, settle_memory}
use Rattle.register.specs.Reference.{Standing, standings, settle_standing, look_up_standing}

-- What a use is answered: it is done, a response is shown, or it is denied with a number.
pub data Reply : Type 0 where
  done : Reply
  shown : Response → Reply
  denied : ℕ → Reply

-- The code's answer as a reply.
abbrev pub reply_of : Result (Option Outcome) RegisterFault → Reply
reply_of (Ok None) = done
reply_of (Ok (Some o)) = shown (outcome_of o)
reply_of (Err f) = denied (fault_number f)

-- The rows after a use, and the reply.
pub record Step (A : Type 0) : Type 0 where
  pub rows : List A
  pub reply : Reply

-- A call that changes rows: the new ones, or the old ones where it is refused.
abbrev pub changes : {A : Type 0} → List A → Answer (List A) → Step A
changes rows (made new) = record { rows = new; reply = done }
changes rows (refused n) = record { rows = rows; reply = denied n }

-- A call that shows a response and changes nothing.
abbrev pub shows : {A : Type 0} → List A → Answer Response → Step A
shows rows (made r) = record { rows = rows; reply = shown r }
shows rows (refused n) = record { rows = rows; reply = denied n }

module _ {S A : Type 0} (sources : Meanings S) (kind : Kind S A)
    (settle : ℕ → List A → Answer (List A)) (look_up : ℕ → List A → Answer Response) (places : ℕ) where
  -- One use.
  abbrev pub step : List A → Use S → Step A
  step rows (Enter row) = changes rows (enter_rows sources kind places row.source row.deadline rows)
  step rows (Amend row) = changes rows (amend_rows sources kind row.source row.deadline rows)
  step rows (Withdraw id) = changes rows (withdraw_rows sources kind id rows)
  step rows (Settle id) = changes rows (settle id rows)
  step rows (LookUp id) = shows rows (look_up id rows)

  -- The rows after a list of uses, and the replies.
  abbrev pub rows_after : List A → List (Use S) → List A
  rows_after rows [] = rows
  rows_after rows (u ∷ us) = rows_after (step rows u).rows us

  abbrev pub replies : List A → List (Use S) → List Reply
  replies rows [] = []
  replies rows (u ∷ us) = (step rows u).reply ∷ replies (step rows u).rows us

module _ {S : Type 0} (sources : Meanings S) (places : ℕ) where
  -- The register in memory with a number of places.
  abbrev pub register_step : List (Slot S) → Use S → Step (Slot S)
  register_step = step sources slots (settle_slots sources) (look_up_slots sources) places

  abbrev pub register_after : List (Slot S) → List (Use S) → List (Slot S)
  register_after = rows_after sources slots (settle_slots sources) (look_up_slots sources) places

  abbrev pub register_replies : List (Slot S) → List (Use S) → List Reply
  register_replies = replies sources slots (settle_slots sources) (look_up_slots sources) places

  -- The reference model with the same number of places.
  abbrev pub reference_step : List (Standing S) → Use S → Step (Standing S)
  reference_step = step sources standings (settle_standing sources) (look_up_standing sources) places

  abbrev pub reference_after : List (Use S) → List (Standing S)
  reference_after uses = rows_after sources standings (settle_standing sources) (look_up_standing sources) places [] uses

  abbrev pub reference_replies : List (Use S) → List Reply
  reference_replies uses = replies sources standings (settle_standing sources) (look_up_standing sources) places [] uses

module _ {S : Type 0} (sources : Meanings S) where
  -- The memory after one use.
  abbrev pub memory_step : Memory S → Use S → Memory S
  memory_step memory (Enter row) = stored memory (enter_memory sources row memory)
  memory_step memory (Amend row) = stored memory (amend_memory sources row memory)
  memory_step memory (Withdraw id) = stored memory (withdraw_memory sources id memory)
  memory_step memory (Settle id) = stored memory (settle_memory sources id memory)
  memory_step memory (LookUp id) = memory

  -- The memory after a list of uses.
  abbrev pub memory_after : Memory S → List (Use S) → Memory S
  memory_after memory [] = memory
  memory_after memory (u ∷ us) = memory_after (memory_step memory u) us
