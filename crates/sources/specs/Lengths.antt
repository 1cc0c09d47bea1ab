-- The frame lengths of a cycle as a list.
use Rattle.std.specs.Prelude.{ℕ, List, take}
use Rattle.sources.specs.declared.lengths.Lengths.{Lengths}

abbrev pub lengths_of : Lengths → List ℕ
lengths_of l = take l.size l.places
