-- What a row shows is its response over the rows now standing, and no lawful run outlasts it. Assumes nothing.
use Rattle.std.proofs.Common.{◌≡◌, ℕ, ◌<◌, Bool, true, false, List, [], ◌∷◌, map, length, get_or, drop, Some, None, Option, refl, subst, arith}
use Rattle.std.proofs.lemmas.List.{length-map}
use Rattle.sources.specs.Streams.{Laws}
use Rattle.sources.specs.Models.{model, Meanings}
use Rattle.sources.specs.Answers.{Answer, made, refused}
use Rattle.response.specs.declared.outcome.Outcome.{Outcome}
use Rattle.response.specs.Bounds.{AllLawful, Response}
use Rattle.response.specs.Views.{outcome_of}
use Rattle.response.specs.Analysis.{NoRunOutlasts}
use Rattle.response.proofs.Responding.{no_run_outlasts}
use Rattle.register.specs.declared.slot.Slot.{Slot}
use Rattle.register.specs.Calls.{identifier, models, place_in, is_in}
use Rattle.register.specs.Slots.{slots, first_shows, response_at}
use Rattle.register.specs.Promises.{Shows, BoundsHold}
use Rattle.register.proofs.TableLaws.{place_inside}
use Rattle.register.proofs.Invariant.{Good, Matches, FirstMatches, stored_at}

-- What the first row shows is the response that its outcome is.
first_shown : {S : Type 0} (rows : List (Slot S)) (response r : Response) → FirstMatches rows response → first_shows rows ≡ made r → response ≡ r
first_shown [] response r matches shows = let z : ◌≡◌ {A = ℕ} 0 1 = cc in absurd (omega arith)
first_shown (s ∷ rest) response r matches shows = go s.outcome matches shows
  where
    go : (o : Option Outcome) → Matches o response → elim o as (λ _. Answer Response) [ Some x ↦ made (outcome_of x) | None ↦ refused 26 ] ≡ made r → response ≡ r
    go (Some x) is shown = cc
    go None is shown = let z : ◌≡◌ {A = ℕ} 0 1 = cc in absurd (omega arith)

module _ {S : Type 0} (sources : Meanings S) where
  -- A row that shows a response is one of the rows, and it is the first from its place on that shows it.
  pub shown_in : (rows : List (Slot S)) (id : ℕ) (r : Response) → Shows sources rows id r →
      (is_in sources slots id rows ≡ true) × (first_shows (drop (place_in sources slots id rows) rows) ≡ made r)
  shown_in rows id r shown = go (is_in sources slots id rows) shown
    where
      go : (b : Bool) → elim b as (λ _. Answer Response) [ true ↦ first_shows (drop (place_in sources slots id rows) rows) | false ↦ refused 25 ] ≡ made r →
          (b ≡ true) × (first_shows (drop (place_in sources slots id rows) rows) ≡ made r)
      go true e = (refl, e)
      go false e = let z : ◌≡◌ {A = ℕ} 0 1 = cc in absurd (omega arith)

  -- Every row keeps what a source owes.
  pub slots_lawful : ((s : S) → Laws (model sources s)) → (rows : List (Slot S)) → AllLawful (models sources slots rows)
  slots_lawful lawful [] = tt
  slots_lawful lawful (s ∷ rest) = (lawful s.row.source, slots_lawful lawful rest)

  module _ (places : ℕ) (rows : List (Slot S)) (good : Good sources places rows) where
    -- What a row shows is its response over the rows.
    pub shown_is : (id : ℕ) (r : Response) → Shows sources rows id r → response_at sources (place_in sources slots id rows) rows ≡ r
    shown_is id r shown =
        first_shown (drop (place_in sources slots id rows) rows) (response_at sources (place_in sources slots id rows) rows) r
        (stored_at sources [] (place_in sources slots id rows) rows good.stored) (shown_in rows id r shown).1

    -- No lawful run outlasts what a row shows.
    pub bounds_hold : ((s : S) → Laws (model sources s)) → BoundsHold sources rows
    bounds_hold lawful id r shown =
        let m : ℕ = place_in sources slots id rows in
        let inside : m < length rows = place_inside (identifier sources slots) id rows (shown_in rows id r shown).0 in
        subst (NoRunOutlasts (models sources slots rows) m) (shown_is id r shown)
        (no_run_outlasts (models sources slots rows) (slots_lawful lawful rows) m
        (omega (arith, length-map rows (λ s. model sources s.row.source))) (get_or (map (λ s. s.row.deadline) rows) m 0))
