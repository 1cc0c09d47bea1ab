use Rattle.std.proofs.Common.{◌≡◌, ℕ, ◌+◌, ◌*◌, ◌/◌, ◌%◌, ◌≤◌, length, get_or, sym, ap, ◌∙◌, ap₂, mod-lt, arith}
use Rattle.sources.specs.declared.cycle.Cycle.{Cycle}
use Rattle.sources.specs.Cycles.{cycle_work}
use Rattle.sources.specs.Lengths.{lengths_of}
use Rattle.sources.specs.CyclesLemmas.{cycle_work_closed, cycle_work_small}
use Rattle.sources.proofs.cycle.Cycle.largest_sum.Goals as goal

-- What the table of largest sums gives for k successive lengths.
by_table : (c : Cycle) (size k : ℕ) → size ≡ length (lengths_of c.lengths) → k / size * get_or c.most size 0 + get_or c.most (k % size) 0 ≡ cycle_work (lengths_of c.lengths) k
by_table c size k is =
    let cycle = lengths_of c.lengths in
    let some : 1 ≤ size = omega (arith, c.lengths.frames.0) in
    let round : get_or c.most size 0 ≡ cycle_work cycle size = c.sums size (omega arith) in
    let rest : get_or c.most (k % size) 0 ≡ cycle_work cycle (k % size) = c.sums (k % size) (omega (arith, mod-lt k some)) in
    ap₂ (λ x y. k / size * x + y) round rest
    ∙ ap (λ n. k / n * cycle_work cycle n + cycle_work cycle (k % n)) is
    ∙ sym (cycle_work_closed cycle c.lengths.frames k)

pub overflow_mul-result : goal.overflow_mul-result
overflow_mul-result c =
    let s = c.args.self.now in
    omega (arith, by_table s _ c.args.k (ap length c.as_slice-size.ensures), cycle_work_small (lengths_of s.lengths) s.lengths.frames c.args.k)

pub overflow_add-result : goal.overflow_add-result
overflow_add-result c =
    let s = c.args.self.now in
    omega (arith, by_table s _ c.args.k (ap length c.as_slice-size.ensures), cycle_work_small (lengths_of s.lengths) s.lengths.frames c.args.k)

pub returns : goal.returns
returns c = by_table c.args.self.now _ c.args.k (ap length c.as_slice-size.ensures)
