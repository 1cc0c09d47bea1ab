use Rattle.std.proofs.Common.{◌≡◌, ◌+◌, sym, ap, ◌∙◌}
use Rattle.response.specs.Searches.{fixed_point}
use Rattle.response.specs.Bounds.{busy_search}
use Rattle.response.specs.Curves.{busy_answer}
use Rattle.response.specs.Views.{seen, found_of, found_at}
use Rattle.response.specs.CurveLemmas.{models_lawful}
use Rattle.response.proofs.Responding.{busy_found, response_ended, response_failed}
use Rattle.response.proofs.place.Place.response.Given as given
use Rattle.response.proofs.place.Place.response.Goals as goal
use Rattle.response.proofs.place.Place.response.Goals.{After-search-found}
use Rattle.sources.specs.Models.{meanings}

-- The busy search of the row is the search that is made.
searched : (g : given.Over) (s : After-search-found g) → busy_search (seen g.L.Listed (meanings g.S.Entry g.S.Source) s.args.self.now) ≡ found_of s.search-found.result
searched g s =
    let place = s.args.self.now in
    let p = seen g.L.Listed (meanings g.S.Entry g.S.Source) place in
    let first = s.work.ensures ∙ ap (λ x. g.S.Source.work x 1) s.source.ensures in
    sym
    (s.search-found.ensures.value ∙ ap (λ w. fixed_point (busy_answer p) (place.blocking + w)) first
    ∙ busy_found p (models_lawful g.L.Listed (meanings g.S.Entry g.S.Source) g.met.S.Source.lawful place.above.now) (g.met.S.Source.lawful (g.L.Listed.source place.own.now)) s.requires)

pub judge-requires-clause-ends : goal.judge-requires-clause-ends
judge-requires-clause-ends g c =
    searched g (goal.at.judge-requires-clause-ends g c).After-search-found ∙ ap (λ e. found_at e c.search-found.result.rounds) c.in-Some.is

pub returns-in-Some : goal.returns-in-Some
returns-in-Some g c =
    c.judge.ensures
    ∙ sym (response_ended (seen g.L.Listed (meanings g.S.Entry g.S.Source) c.args.self.now) (g.L.Listed.deadline c.args.self.now.own.now) c.in-Some.end c.search-found.result.rounds
    (searched g (goal.at.returns-in-Some g c).After-search-found ∙ ap (λ e. found_at e c.search-found.result.rounds) c.in-Some.is))

pub returns-in-None : goal.returns-in-None
returns-in-None g c =
    sym (response_failed (seen g.L.Listed (meanings g.S.Entry g.S.Source) c.args.self.now) (g.L.Listed.deadline c.args.self.now.own.now) c.search-found.result.rounds
    (searched g (goal.at.returns-in-None g c).After-search-found ∙ ap (λ e. found_at e c.search-found.result.rounds) c.in-None.is))
