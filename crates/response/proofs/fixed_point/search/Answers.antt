use Rattle.std.proofs.Common.{◌≡◌, ℕ, ◌+◌, sym, ap, ◌∙◌, subst, arith}
use Rattle.std.specs.declared.ops.ControlFlow.{ControlFlow}
use Rattle.response.specs.Searches.{Found, Searches, NeverFalls, next_step, fixed_point, FindsLeast, rounds_of}
use Rattle.response.specs.Views.{found_of}
use Rattle.response.proofs.Searches.{searched, finds_least, rounds_few, more_rounds, Took, took}
use Rattle.response.proofs.fixed_point.search.Given as given
use Rattle.response.proofs.fixed_point.search.Goals as goal
use Rattle.response.proofs.fixed_point.search.Goals.{After-value-answer}

-- The search on the curve, where it is evaluated.
module _ (g : given.Over) (s : After-value-answer g) where
  abbrev curve : ℕ → ℕ
  curve = g.C.Curve.curve s.args.on.now

  rising : NeverFalls curve
  rising = s.value-answer.ensures.rising

  taken : (step : ControlFlow Found ℕ) → step ≡ next_step s.loop-found.value s.value-answer.result (s.loop-found.rounds + 1) →
      Took curve s.loop-found.value s.loop-found.rounds step
  taken = took curve rising s.loop-found.value s.loop-found.rounds s.value-answer.result s.value-answer.ensures.answer

pub loop-found-preserved : goal.loop-found-preserved
loop-found-preserved g c = c.loop-found.invariant ∙ (taken g (goal.at.loop-found-preserved g c).After-value-answer _ c.in-Continue.ensures).0

pub loop-found-smaller : goal.loop-found-smaller
loop-found-smaller g c = (taken g (goal.at.loop-found-smaller g c).After-value-answer _ c.in-Continue.ensures).1

pub overflow_add-rounds : goal.overflow_add-rounds
overflow_add-rounds g c =
    let f = curve g c in
    let left : rounds_of (fixed_point f c.args.start) ≡ c.loop-found.rounds + rounds_of (fixed_point f c.loop-found.value) =
    ap rounds_of c.loop-found.invariant ∙ more_rounds c.loop-found.rounds (fixed_point f c.loop-found.value) in
    omega (arith, rounds_few f (rising g c) (searched f (rising g c) c.args.start))

pub returns-in-Break : goal.returns-in-Break
returns-in-Break g c =
    let s = (goal.at.returns-in-Break g c).After-value-answer in
    let f = curve g s in
    let is : found_of c.in-Break.found ≡ fixed_point f c.args.start = taken g s _ c.in-Break.ensures ∙ sym c.loop-found.invariant in
    record {
      value = is;
      steps = subst (Searches f c.args.start) (sym is) (searched f (rising g s) c.args.start);
      least = λ up. subst (FindsLeast f c.args.start) (sym is) (finds_least f (rising g s) c.args.start up);
    }
