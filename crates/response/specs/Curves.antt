-- The curves that the analysis evaluates, as the calls of the sources answer them.
use Rattle.std.specs.Prelude.{ℕ, ◌+◌, ◌-◌, ◌≤◌, true, false, min, nat_lt, Option, Some, None, List, map}
use Rattle.sources.specs.Streams.{Model}
use Rattle.sources.specs.Counts.{count, argument, gap_answer, jitter_answer}
use Rattle.sources.specs.Models.{model, Meanings}
use Rattle.response.specs.declared.listed.Listed as listed
use Rattle.response.specs.Searches.{horizon}
use Rattle.response.specs.Bounds.{Each, load, loads, Place}

-- A source with the jitter that it answers: loads are all that is looked at.
abbrev pub answerable : Model → Model
answerable m = record { gap = m.gap; work = m.work; jitter = jitter_answer m.jitter; traffic = λ _. ⊥ }

-- The models of listed rows, in their order.
abbrev pub models : {L S : Type 0} → listed.Ghosts L S → Meanings S → List L → List Model
models rows sources ls = map (λ l. model sources (rows.source l)) ls

-- No row has a jitter above the horizon.
abbrev pub SmallJitters : List Model → Type 0
SmallJitters rows = Each (λ m. m.jitter ≤ horizon) rows

-- A row and those above it have no such jitter, and no frame below it is longer than a frame can be.
abbrev pub InRange : Place → Type 0
InRange p = SmallJitters p.above × (p.own.jitter ≤ horizon) × (p.blocking ≤ 160)

-- A row's load within t, for times up to the horizon.
abbrev pub load_answer : Model → ℕ → ℕ
load_answer m t = load (answerable m) (min t horizon)

-- The loads of rows within t, for times up to the horizon.
abbrev pub loads_answer : List Model → ℕ → ℕ
loads_answer ms t = loads (map answerable ms) (min t horizon)

-- A sum with one load more, up to the largest number of 32 bits, or none where the sum is above the horizon.
abbrev pub added : ℕ → ℕ → Option ℕ
added sum more = elim (nat_lt horizon sum) [ true ↦ None | false ↦ Some (min (sum + more) 4294967295) ]

-- The busy curve of a row.
abbrev pub busy_answer : Place → ℕ → ℕ
busy_answer p t = p.blocking + (load_answer p.own t + loads_answer p.above t)

-- The delay curve of an instance before which the bus is held in any case for some time.
abbrev pub delay_answer : Place → ℕ → ℕ → ℕ
delay_answer p held w = held + loads_answer p.above (w + 1)

-- How long the bus is held in any case before instance q: by a frame below and by earlier instances of the row.
abbrev pub held_answer : Place → ℕ → ℕ
held_answer p q = p.blocking + p.own.work (argument q)

-- How many instances a busy period of length t has.
abbrev pub instances_answer : Place → ℕ → ℕ
instances_answer p t = count p.own.gap (argument (t + jitter_answer p.own.jitter))

-- The length of instance q at most.
abbrev pub length_answer : Place → ℕ → ℕ
length_answer p q = p.own.work (argument (q + 1)) - p.own.work (argument q)

-- The candidate of instance q, which is sent by the given time.
abbrev pub candidate_answer : Place → ℕ → ℕ → ℕ
candidate_answer p q sent = (jitter_answer p.own.jitter + sent) - gap_answer (p.own.gap (argument q))
