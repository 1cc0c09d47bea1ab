-- The judgement of a row, instance by instance. Assumes nothing.
use Rattle.std.proofs.Common.{◌≡◌, ℕ, suc, ◌+◌, ◌-◌, ◌<◌, ◌≤◌, max, Option, Some, None, refl, sym, ap, ◌∙◌, ap₂, zero-add, add-one, arith}
use Rattle.sources.specs.Ranges.{largest}
use Rattle.sources.specs.Streams.{Laws}
use Rattle.sources.specs.Counts.{count, argument, gap_answer}
use Rattle.sources.specs.RangesLemmas.{largest_more, sum_from_last}
use Rattle.response.specs.Searches.{Found, horizon, ended, fixed_point, value_of, rounds_of}
use Rattle.response.specs.Bounds.{AllLawful, Place, busy, delay, busy_search, instances, delay_search, candidate, delay_rounds}
use Rattle.response.specs.Curves.{SmallJitters, InRange, delay_answer, held_answer, instances_answer, length_answer, candidate_answer}
use Rattle.sources.specs.Models.{model, Meanings}
use Rattle.response.specs.declared.listed.Listed as listed
use Rattle.response.specs.declared.place.Place as held
use Rattle.response.specs.Views.{found_at, seen}
use Rattle.response.specs.CurveLemmas.{work_never_falls, models_lawful, delay_answer_rises}
use Rattle.response.proofs.Searches.{same_search}
use Rattle.response.proofs.CurveLaws.{delay_never_falls}
use Rattle.response.proofs.Bounds.{delay_start, search_from_start, ended_fixed, delayed, instances_at_most, response_within, delay_rounds_at_most, busy_rounds}
use Rattle.response.proofs.AnswerLaws.{loads_exact}

-- Arguments within the horizon are taken as they are.
pub as_it_is : (q : ℕ) → q < horizon → argument q ≡ q
as_it_is q l = omega arith

pub as_it_is_next : (q : ℕ) → q < horizon → argument (q + 1) ≡ q + 1
as_it_is_next q l = omega arith

-- The rounds that a search counted are those of its outcome.
pub counted_rounds : (end : Option ℕ) (rounds : ℕ) → rounds_of (found_at end rounds) ≡ rounds
counted_rounds (Some value) rounds = refl
counted_rounds None rounds = refl

-- Where the judgement stands before instance q: the start of its search, the largest candidate and the rounds so far.
abbrev pub JudgedUpto : Place → ℕ → ℕ → ℕ → ℕ → ℕ → Type 0
JudgedUpto p rounds q start worst all = (start ≡ delay_start p q) × (worst ≡ largest q (candidate p)) × (all ≡ rounds + delay_rounds p q)

module _ (p : Place) (upper : AllLawful p.above) (own : Laws p.own) (small : SmallJitters p.above) where
  -- Before the horizon the delay curve is evaluated as it is meant.
  delay_same : (q w : ℕ) → w < horizon → delay_answer p (p.blocking + p.own.work q) w ≡ delay p q w
  delay_same q w l = omega (arith, loads_exact p.above small (w + 1) (omega arith))

  module _ (t rounds : ℕ) (ends : busy_search p ≡ ended t rounds) where
    -- The search on the evaluated curve is the delay search.
    pub delay_found : (q : ℕ) → q < instances p t → fixed_point (delay_answer p (p.blocking + p.own.work q)) (delay_start p q) ≡ delay_search p q
    delay_found q l =
        let period = ended_fixed p upper own t rounds ends in
        let found = delayed p upper own t period q l in
        sym
        (search_from_start p q
        ∙ same_search (delay p q) (delay_answer p (p.blocking + p.own.work q)) (delay_never_falls p upper own q)
        (delay_answer_rises p upper (p.blocking + p.own.work q)) (λ x. x ≤ found.value)
        (λ x before within. omega (arith, delay_never_falls p upper own q x found.value before, found.stands))
        (λ x before. sym (delay_same q x (omega (arith, found.early))))
        (delay_start p q) found.start_before)

    -- Nothing that instance q brings about passes the horizon.
    pub within_period : (q : ℕ) → q < instances p t →
        (q < horizon) × (p.blocking + p.own.work q ≤ horizon) × (p.own.work q ≤ p.own.work (q + 1)) ×
        (value_of (delay_search p q) + (p.own.work (q + 1) - p.own.work q) ≤ horizon)
    within_period q l =
        let period = ended_fixed p upper own t rounds ends in
        let next : p.own.work (q + 1) ≡ p.own.work (suc q) = ap p.own.work (add-one q) in (
          omega (arith, instances_at_most p upper own t period),
          omega (arith, work_never_falls p.own own q (instances p t) (omega arith)),
          omega (arith, own.work_rises q),
          omega (arith, response_within p upper own t period q l),
        )

-- A row in range whose busy search ended at t: it and the rows above it keep what a source owes.
pub record Period (p : Place) (t rounds : ℕ) : Type 0 where
  pub upper : AllLawful p.above
  pub own : Laws p.own
  pub in_range : InRange p
  pub ends : busy_search p ≡ ended t rounds

module _ {p : Place} {t rounds : ℕ} (period : Period p t rounds) where
  -- The busy period has an end that is from 1 to the horizon.
  end_is : (busy p t ≡ t) × (1 ≤ t) × (t ≤ horizon)
  end_is = ended_fixed p period.upper period.own t rounds period.ends

  pub end_within : t ≤ horizon
  end_within = end_is.2

  -- The instances that are counted are those of the busy period.
  pub counted_instances : instances_answer p t ≡ instances p t
  counted_instances = let within = end_within in let small = period.in_range.1 in ap (count p.own.gap) (omega arith)

  module _ (q : ℕ) (inside : q < instances p t) where
    -- Nothing that instance q brings about passes the horizon.
    pub before_horizon : q < horizon
    before_horizon = (within_period p period.upper period.own period.in_range.0 t rounds period.ends q inside).0

    sent_within : value_of (delay_search p q) + (p.own.work (q + 1) - p.own.work q) ≤ horizon
    sent_within = (within_period p period.upper period.own period.in_range.0 t rounds period.ends q inside).3

    length_is : length_answer p q ≡ p.own.work (q + 1) - p.own.work q
    length_is = ap₂ (λ a b. p.own.work a - p.own.work b) (as_it_is_next q before_horizon) (as_it_is q before_horizon)

    -- The search that is made for instance q is its delay search.
    pub found_delay : (held start : ℕ) (found : Found) → held ≡ held_answer p q → start ≡ delay_start p q → found ≡ fixed_point (delay_answer p held) start → found ≡ delay_search p q
    found_delay held start found held_is from_start is =
        let time : held ≡ p.blocking + p.own.work q = held_is ∙ ap (λ k. p.blocking + p.own.work k) (as_it_is q before_horizon) in
        is ∙ ap₂ (λ h s. fixed_point (delay_answer p h) s) time from_start ∙ delay_found p period.upper period.own period.in_range.0 t rounds period.ends q inside

    -- The outcome of that search, and the length of the instance.
    module _ (found : Found) (is : found ≡ delay_search p q) where
      -- The rounds with those of instance q.
      rounds_more : delay_rounds p (q + 1) ≡ delay_rounds p q + rounds_of found
      rounds_more =
          ap (delay_rounds p) (add-one q) ∙ sum_from_last (λ q. rounds_of (delay_search p q)) 0 q
          ∙ ap (λ i. delay_rounds p q + rounds_of (delay_search p i)) (zero-add q) ∙ ap (λ o. delay_rounds p q + rounds_of o) (sym is)

      pub all_within : (all : ℕ) → all ≡ rounds + delay_rounds p q → all + rounds_of found ≤ 3000003
      all_within all a =
          let end = end_is in
          let busy : rounds ≤ suc horizon = rw period.ends at (busy_rounds p period.upper period.own) in
          omega (arith, rounds_more, delay_rounds_at_most p period.upper period.own t end (q + 1) (omega arith), instances_at_most p period.upper period.own t end)

      next_is : value_of found + length_answer p q ≡ value_of (delay_search p q) + (p.own.work (q + 1) - p.own.work q)
      next_is = ap₂ (λ v d. v + d) (ap value_of is) length_is

      pub next_within : value_of found + length_answer p q ≤ horizon
      next_within = omega (arith, next_is, sent_within)

      -- What instance q adds to the judgement.
      pub judged_more : (start worst all : ℕ) → JudgedUpto p rounds q start worst all →
          JudgedUpto p rounds (q + 1) (value_of found + length_answer p q) (max (candidate_answer p q (value_of found + length_answer p q)) worst) (all + rounds_of found)
      judged_more start worst all upto =
          let next : q + 1 ≡ suc q = add-one q in
          let gap_is : gap_answer (p.own.gap (argument q)) ≡ gap_answer (p.own.gap q) = ap (λ k. gap_answer (p.own.gap k)) (as_it_is q before_horizon) in
          let work_is : p.own.work (q + 1) ≡ p.own.work (suc q) = ap p.own.work next in
          let small = period.in_range.1 in
          let end = end_is in (
            next_is ∙ ap (λ k. value_of (delay_search p q) + (p.own.work k - p.own.work q)) next ∙ ap (delay_start p) (sym next),
            omega (arith, largest_more q (candidate p), upto.1, next_is, response_within p period.upper period.own t end q inside),
            omega (arith, upto.2, rounds_more),
          )

-- The period of a row that the code holds.
pub period_of : {L S : Type 0} (rows : listed.Ghosts L S) (sources : Meanings S) → ((s : S) → Laws (model sources s)) → (p : held.Place L) (t rounds : ℕ) →
    busy_search (seen rows sources p) ≡ ended t rounds → InRange (seen rows sources p) → Period (seen rows sources p) t rounds
period_of rows sources lawful p t rounds ends in_range = record {
  upper = models_lawful rows sources lawful p.above.now;
  own = lawful (rows.source p.own.now);
  in_range = in_range;
  ends = ends;
}
