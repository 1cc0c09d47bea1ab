-- The rows after a use. Assumes nothing.
use Rattle.std.proofs.Common.{◌≡◌, List, length, drop, refl}
use Rattle.std.proofs.lemmas.List.{take_at}
use Rattle.sources.specs.Models.{Meanings}
use Rattle.sources.specs.Answers.{Answer, made, refused}
use Rattle.response.specs.Bounds.{Response}
use Rattle.register.specs.declared.slot.Slot.{Slot}
use Rattle.register.specs.declared.uses.Use.{Use}
use Rattle.register.specs.declared.uses.Use.TheVariants.{Enter, Amend, Withdraw, Settle, LookUp}
use Rattle.register.specs.Slots.{Memory, standing, stored, enter_memory, amend_memory, withdraw_memory, settle_memory, look_up_memory}
use Rattle.register.specs.Steps.{changes, shows, register_step, memory_step}

-- The rows after a call are those it leaves.
standing_stored : {S : Type 0} (memory : Memory S) (a : Answer (List (Slot S))) → standing (stored memory a) ≡ (changes (standing memory) a).rows
standing_stored memory (made rows) = take_at rows (drop (length rows) memory.places) (length rows) refl
standing_stored memory (refused n) = refl

shows_keeps : {A : Type 0} (rows : List A) (a : Answer Response) → rows ≡ (shows rows a).rows
shows_keeps rows (made r) = refl
shows_keeps rows (refused n) = refl

-- The rows after a use are those of the step.
pub standing_step : {S : Type 0} (sources : Meanings S) (memory : Memory S) (u : Use S) → standing (memory_step sources memory u) ≡ (register_step sources (length memory.places) (standing memory) u).rows
standing_step sources memory (Enter row) = standing_stored memory (enter_memory sources row memory)
standing_step sources memory (Amend row) = standing_stored memory (amend_memory sources row memory)
standing_step sources memory (Withdraw id) = standing_stored memory (withdraw_memory sources id memory)
standing_step sources memory (Settle id) = standing_stored memory (settle_memory sources id memory)
standing_step sources memory (LookUp id) = shows_keeps (standing memory) (look_up_memory sources id memory)
