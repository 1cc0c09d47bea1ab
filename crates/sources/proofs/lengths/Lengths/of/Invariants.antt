use Rattle.std.proofs.Common.{◌≡◌, map, length, take}
use Rattle.sources.proofs.lengths.Lengths.of.Given as goal

abbrev pub invariant-loop-i : goal.invariant-loop-i
invariant-loop-i g l = (length l.places ≡ 32) × (take l.i l.places ≡ map g.F.Format.longest (take l.i l.payloads))
