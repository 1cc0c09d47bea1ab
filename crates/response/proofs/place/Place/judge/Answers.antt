use Rattle.std.proofs.Common.{◌≡◌, ◌+◌, ◌<◌, ◌≤◌, max, ap, ◌∙◌, ap₂, arith}
use Rattle.response.specs.Searches.{horizon, value_of}
use Rattle.response.specs.Bounds.{Place, instances, delay_search, bound, delay_rounds, judged}
use Rattle.response.specs.Curves.{length_answer, candidate_answer}
use Rattle.response.specs.Views.{seen, found_of}
use Rattle.response.proofs.Judging.{counted_rounds, Period, period_of, end_within, counted_instances, before_horizon, found_delay, all_within, next_within, judged_more}
use Rattle.response.proofs.place.Place.judge.Given as given
use Rattle.response.proofs.place.Place.judge.Goals as goal
use Rattle.response.proofs.place.Place.judge.Goals.{After-search-found}
use Rattle.sources.specs.Models.{meanings}

-- An instance of the row, once its search is made.
module _ (g : given.Over) (s : After-search-found g) where
  abbrev here : Place
  here = seen g.L.Listed (meanings g.S.Entry g.S.Source) s.args.self.now

  period : Period here s.args.end s.args.rounds
  period = period_of g.L.Listed (meanings g.S.Entry g.S.Source) g.met.S.Source.lawful s.args.self.now s.args.end s.args.rounds s.requires.ends s.requires.in_range

  inside : s.loop-q.q < instances here s.args.end
  inside = let number = s.instances-q-end.ensures ∙ counted_instances period in let below = s.loop-q-test.true in omega (arith, number)

  early : s.loop-q.q < horizon
  early = before_horizon period s.loop-q.q inside

  searched : found_of s.search-found.result ≡ delay_search here s.loop-q.q
  searched = found_delay period s.loop-q.q inside s.held-held.result s.loop-q.start _ s.held-held.ensures s.loop-q.invariant.0 s.search-found.ensures.value

  sent : value_of (found_of s.search-found.result) + length_answer here s.loop-q.q ≤ horizon
  sent = next_within period s.loop-q.q inside _ searched

pub instances-q-end-requires : goal.instances-q-end-requires
instances-q-end-requires g c =
    end_within (period_of g.L.Listed (meanings g.S.Entry g.S.Source) g.met.S.Source.lawful c.args.self.now c.args.end c.args.rounds c.requires.ends c.requires.in_range)

pub overflow_add-all_rounds : goal.overflow_add-all_rounds
overflow_add-all_rounds g c =
    omega (arith, counted_rounds c.search-found.result.end c.search-found.result.rounds, all_within (period g c) c.loop-q.q (inside g c) _ (searched g c) c.loop-q.all_rounds c.loop-q.invariant.2)

pub length-requires : goal.length-requires
length-requires g c = let s = (goal.at.length-requires g c).After-search-found in omega (arith, early g s)

pub overflow_add-start : goal.overflow_add-start
overflow_add-start g c = let s = (goal.at.overflow_add-start g c).After-search-found in omega (arith, sent g s)

pub with_candidate-bound-requires : goal.with_candidate-bound-requires
with_candidate-bound-requires g c =
    let s = (goal.at.with_candidate-bound-requires g c).After-search-found in (omega (arith, early g s), omega (arith, sent g s))

pub loop-q-preserved : goal.loop-q-preserved
loop-q-preserved g c =
    let s = (goal.at.loop-q-preserved g c).After-search-found in
    let next = ap₂ (λ v d. v + d) c.value.ensures c.length.ensures in
    let more = judged_more (period g s) c.loop-q.q (inside g s) _ (searched g s) c.loop-q.start c.loop-q.bound c.loop-q.all_rounds c.loop-q.invariant in (
      next ∙ more.0,
      c.with_candidate-bound.ensures ∙ ap (λ t. max (candidate_answer (here g s) c.loop-q.q t) c.loop-q.bound) next ∙ more.1,
      omega (arith, more.2, counted_rounds c.search-found.result.end c.search-found.result.rounds),
    )

pub returns : goal.returns
returns g c =
    let p = seen g.L.Listed (meanings g.S.Entry g.S.Source) c.args.self.now in
    let number = c.instances-q-end.ensures
    ∙ counted_instances (period_of g.L.Listed (meanings g.S.Entry g.S.Source) g.met.S.Source.lawful c.args.self.now c.args.end c.args.rounds c.requires.ends c.requires.in_range) in
    let last : c.loop-q.q ≡ instances p c.args.end = omega (arith, number) in
    let worst : c.loop-q.bound ≡ bound p (instances p c.args.end) = c.loop-q.invariant.1 ∙ ap (bound p) last in
    let all : c.loop-q.all_rounds ≡ c.args.rounds + delay_rounds p (instances p c.args.end) = c.loop-q.invariant.2 ∙ ap (λ k. c.args.rounds + delay_rounds p k) last in
    c.against_deadline.ensures ∙ ap₂ (judged (g.L.Listed.deadline c.args.self.now.own.now)) worst all
