-- The values that a source was made with.
use Rattle.std.specs.Prelude.{ℕ}
use Rattle.sources.specs.declared.burst.Burst.{Burst}
use Rattle.sources.specs.declared.cyclic.Cyclic.{Cyclic}
use Rattle.sources.specs.declared.held_up.HeldUp.{HeldUp}
use Rattle.sources.specs.Lengths.{lengths_of}
use Rattle.sources.specs.Answers.{CyclicValues, BurstValues, HeldUpValues}

-- The identifier by its number, which the first argument gives.
abbrev pub cyclic_values : {F I : Type 0} → (I → ℕ) → Cyclic F I → CyclicValues
cyclic_values number c = record { identifier = number c.identifier; period = c.cycle.period; cycle = lengths_of c.cycle.lengths }

abbrev pub burst_values : {F I : Type 0} → (I → ℕ) → Burst F I → BurstValues
burst_values number b = record { identifier = number b.identifier; period = b.volley.period; size = b.volley.size; spacing = b.volley.spacing; bits = b.volley.bits }

abbrev pub held_up_values : {S : Type 0} → HeldUp S → HeldUpValues S
held_up_values h = record { below = h.below; hold = h.hold }
