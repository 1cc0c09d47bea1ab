-- What making a source answers: the values of the source, or the number of the first check that fails.
use Rattle.std.specs.Prelude.{ℕ, ◌*◌, Bool, true, false, ◌||◌, List, [], ◌∷◌, map, length, Ok, Err, Result, nat_lt, slice_index}
use Rattle.std.specs.List.{list_any}

pub data Answer (V : Type 0) : Type 0 where
  made : V → Answer V
  refused : ℕ → Answer V

-- A call's result as such an answer: the values of what it made, or the number of its fault.
abbrev pub answered : {S E V : Type 0} → (E → ℕ) → (S → V) → Result S E → Answer V
answered number values (Ok s) = made (values s)
answered number values (Err f) = refused (number f)

-- The number of the first check that finds a fault, or the values where none does.
abbrev pub checked : {V : Type 0} → List (Bool × ℕ) → V → Answer V
checked [] v = made v
checked (c ∷ cs) v = elim c.0 [ true ↦ refused c.1 | false ↦ checked cs v ]

-- n is not from low to high.
abbrev pub outside : ℕ → ℕ → ℕ → Bool
outside low high n = nat_lt n low || nat_lt high n

-- Some number of the list is above a limit.
abbrev pub some_above : ℕ → List ℕ → Bool
some_above limit ns = list_any (nat_lt limit) ns

pub record CyclicValues : Type 0 where
  pub identifier : ℕ
  pub period : ℕ
  pub cycle : List ℕ

pub record BurstValues : Type 0 where
  pub identifier : ℕ
  pub period : ℕ
  pub size : ℕ
  pub spacing : ℕ
  pub bits : ℕ

pub record HeldUpValues (S : Type 0) : Type 0 where
  pub below : S
  pub hold : ℕ

-- Making a cyclic source: 11 identifier above the highest, 12 period not 100 to 1,000,000, 13 payload count not 1 to 32,
-- 14 a payload above 8.
abbrev pub cyclic_checks : ℕ → ℕ → ℕ → List ℕ → List (Bool × ℕ)
cyclic_checks highest identifier period payloads =
    (nat_lt highest identifier, 11) ∷ (outside 100 1000000 period, 12) ∷ (outside 1 32 (length payloads), 13) ∷ (some_above 8 payloads, 14) ∷ []

abbrev pub cyclic_answer : ℕ → (ℕ → ℕ) → ℕ → ℕ → List ℕ → Answer CyclicValues
cyclic_answer highest longest identifier period payloads =
    checked (cyclic_checks highest identifier period payloads) (record { identifier = identifier; period = period; cycle = map longest payloads })

-- Making a burst source: 11 identifier above the highest, 12 period not 100 × size to 1,000,000, 13 payload count not 1,
-- 14 the payload above 8, 15 size not 1 to 16, or no spacing, or period below size × spacing.
abbrev pub burst_checks : ℕ → ℕ → ℕ → ℕ → ℕ → List ℕ → List (Bool × ℕ)
burst_checks highest identifier period size spacing payloads =
    (nat_lt highest identifier, 11) ∷ (outside (100 * size) 1000000 period, 12) ∷ (outside 1 1 (length payloads), 13) ∷ (some_above 8 payloads, 14)
    ∷ (outside 1 16 size || (nat_lt spacing 1 || nat_lt period (size * spacing)), 15) ∷ []

abbrev pub burst_answer : ℕ → (ℕ → ℕ) → ℕ → ℕ → ℕ → ℕ → List ℕ → Answer BurstValues
burst_answer highest longest identifier period size spacing payloads =
    checked (burst_checks highest identifier period size spacing payloads)
    (record { identifier = identifier; period = period; size = size; spacing = spacing; bits = longest (slice_index payloads 0) })

-- Holding a source up: 16 hold above 1,000,000.
abbrev pub held_up_answer : {S : Type 0} → S → ℕ → Answer (HeldUpValues S)
held_up_answer below hold = checked ((nat_lt 1000000 hold, 16) ∷ []) (record { below = below; hold = hold })
