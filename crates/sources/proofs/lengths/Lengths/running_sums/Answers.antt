use Rattle.std.proofs.Common.{◌+◌, length, ap, arith, length-set}
use Rattle.sources.specs.Cycles.{entry, run}
use Rattle.sources.specs.CyclesLemmas.{run_small, run_more}
use Rattle.sources.specs.Lengths.{lengths_of}
use Rattle.sources.proofs.Tables.{filled_more}
use Rattle.sources.proofs.lengths.Lengths.running_sums.Goals as goal

pub overflow_add-sums : goal.overflow_add-sums
overflow_add-sums c =
    let l = c.args.self.now in
    let i = c.loop-i.i in
    let size = ap length c.as_slice-cycle.ensures in
    omega (arith, l.few.0, l.few.1, size, c.loop-i.invariant.1 i (omega arith), ap (λ xs. entry xs i) c.as_slice-cycle.ensures, run_more (lengths_of l) i, run_small (lengths_of l) l.frames 0 (i + 1))

pub loop-i-preserved : goal.loop-i-preserved
loop-i-preserved c =
    let l = c.args.self.now in
    let i = c.loop-i.i in
    let size = ap length c.as_slice-cycle.ensures in (
      simp length-set c.loop-i.invariant.0,
      filled_more (run (lengths_of l) 0) (i + 1) c.loop-i.sums _ (omega (arith, l.few.0, l.few.1))
          (omega (arith, c.loop-i.invariant.1 i (omega arith), ap (λ xs. entry xs i) c.as_slice-cycle.ensures, run_more (lengths_of l) i)) c.loop-i.invariant.1,
    )
