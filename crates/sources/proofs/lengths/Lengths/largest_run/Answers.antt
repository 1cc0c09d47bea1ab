use Rattle.std.proofs.Common.{◌≡◌, ◌+◌, length, ap, arith}
use Rattle.sources.specs.Ranges.{largest}
use Rattle.sources.specs.Cycles.{run}
use Rattle.sources.specs.RangesLemmas.{largest_more}
use Rattle.sources.specs.CyclesLemmas.{run_between}
use Rattle.sources.specs.Lengths.{lengths_of}
use Rattle.sources.proofs.lengths.Lengths.largest_run.Goals as goal

pub overflow_sub-sums : goal.overflow_sub-sums
overflow_sub-sums c =
    let p = c.loop-p.p in
    let k = c.args.k in
    let size = ap length c.as_slice-cycle.ensures in
    omega (arith, c.requires.summed p (omega arith), c.requires.summed (p + k) (omega arith), run_between (lengths_of c.args.self.now) p k)

pub loop-p-preserved : goal.loop-p-preserved
loop-p-preserved c =
    let p = c.loop-p.p in
    let k = c.args.k in
    let cycle = lengths_of c.args.self.now in
    let size = ap length c.as_slice-cycle.ensures in
    let more : c.max-most.result ≡ largest (p + 1) (λ p. run cycle p k) =
    omega (arith, c.requires.summed p (omega arith), c.requires.summed (p + k) (omega arith), run_between cycle p k, largest_more p (λ p. run cycle p k), c.loop-p.invariant) in
    more
