-- What the searches of a row come to, where the row and the rows above it keep what a source owes. Assumes nothing.
use Rattle.std.proofs.Common.{◌≡◌, ℕ, zero, suc, ◌+◌, ◌-◌, ◌<◌, ◌≤◌, ◌↔◌, refl, ap, ◌∙◌, zero-add, arith}
use Rattle.sources.specs.Streams.{Laws}
use Rattle.sources.specs.RangesLemmas.{largest_is_upper, largest_is_least, largest_is_one, sum_from_last}
use Rattle.response.specs.Searches.{Found, ended, failed, horizon, fixed_point, value_of, rounds_of}
use Rattle.response.specs.Bounds.{AllLawful, Place, loads, busy, delay, busy_search, NoFixedPoint, instances, delay_search, sent_by, candidate, bound, delay_rounds}
use Rattle.response.specs.CurveLemmas.{work_never_falls, work_apart, work_at_least, one_count, load_at_least, loads_never_falls}
use Rattle.response.proofs.Searches.{Least, searched, least, ends_below, rounds_rising}
use Rattle.response.proofs.CurveLaws.{busy_never_falls, delay_never_falls}

-- The value from which the delay of instance q is searched.
abbrev pub delay_start : Place → ℕ → ℕ
delay_start p zero = p.blocking
delay_start p (suc q) = value_of (delay_search p q) + (p.own.work (suc q) - p.own.work q)

-- Each delay search starts at its start.
pub search_from_start : (p : Place) (q : ℕ) → delay_search p q ≡ fixed_point (delay p q) (delay_start p q)
search_from_start p zero = refl
search_from_start p (suc q) = refl

-- How the search for the delay of instance q comes out in a busy period of length t.
pub record Delayed (p : Place) (t q : ℕ) : Type 0 where
  pub value : ℕ
  pub rounds : ℕ
  pub ends : delay_search p q ≡ ended value rounds
  pub stands : delay p q value ≡ value
  -- No value that the curve does not pass is smaller.
  pub least_of : (y : ℕ) → delay p q y ≤ y → value ≤ y
  -- The work from instance q to the last one fits behind the delay.
  pub room : value + p.own.work (instances p t) ≤ t + p.own.work q
  pub early : value < t
  pub start_under : delay_start p q ≤ delay p q (delay_start p q)
  pub start_before : delay_start p q ≤ value
  pub rounds_few : rounds + delay_start p q ≤ suc value

module _ (p : Place) (upper : AllLawful p.above) (own : Laws p.own) where
  -- The busy curve is nowhere, from 1 on, below the first value of its search.
  pub busy_at_least : (t : ℕ) → 1 ≤ t → p.blocking + p.own.work 1 ≤ busy p t
  busy_at_least t l = omega (arith, load_at_least p.own own t l)

  -- The first value of the busy search is at least 1.
  pub busy_start_positive : 1 ≤ p.blocking + p.own.work 1
  busy_start_positive = omega (arith, work_at_least p.own own 1)

  -- The first value of the busy search is at or below the busy curve.
  pub busy_start_under : p.blocking + p.own.work 1 ≤ busy p (p.blocking + p.own.work 1)
  busy_start_under = busy_at_least (p.blocking + p.own.work 1) busy_start_positive

  -- The outcome of the busy search.
  busy_least : Least (busy p) (p.blocking + p.own.work 1) (busy_search p)
  busy_least = least (busy p) (busy_never_falls p upper own) (searched (busy p) (busy_never_falls p upper own) (p.blocking + p.own.work 1)) busy_start_under

  -- Where the busy search fails, the busy curve has no fixed point within the horizon.
  pub failed_none : (rounds : ℕ) → busy_search p ≡ failed rounds → NoFixedPoint p
  failed_none rounds e t some within same =
      let none : Least (busy p) (p.blocking + p.own.work 1) (failed rounds) = rw e at busy_least in
      none t (omega (arith, busy_at_least t some)) within (omega arith)

  -- Where the busy search ends, it ends at a fixed point within the horizon.
  pub ended_fixed : (t rounds : ℕ) → busy_search p ≡ ended t rounds → (busy p t ≡ t) × (1 ≤ t) × (t ≤ horizon)
  ended_fixed t rounds e =
      let found : Least (busy p) (p.blocking + p.own.work 1) (ended t rounds) = rw e at busy_least in
      (found.0, omega (arith, busy_start_positive), found.2)

  -- The busy search fails exactly where the busy curve has no fixed point from 1 to the horizon.
  pub none_exactly : ((rounds : ℕ) × (busy_search p ≡ failed rounds)) ↔ NoFixedPoint p
  none_exactly = (λ f. failed_none f.0 f.1, λ none. go none (busy_search p) refl)
    where
      go : NoFixedPoint p → (o : Found) → busy_search p ≡ o → (rounds : ℕ) × (busy_search p ≡ failed rounds)
      go none (ended t rounds) e =
          let found = ended_fixed t rounds e in
          absurd (none t found.1 found.2 found.0)
      go none (failed rounds) e = (rounds, e)

  -- The busy search ends at the least fixed point from 1 on.
  pub ended_least : (t rounds : ℕ) → busy_search p ≡ ended t rounds → (y : ℕ) → 1 ≤ y → busy p y ≡ y → t ≤ y
  ended_least t rounds e y some same =
      let found : Least (busy p) (p.blocking + p.own.work 1) (ended t rounds) = rw e at busy_least in
      found.3 y (omega (arith, busy_at_least y some)) (omega arith)

  -- The busy search makes at most one evaluation for each value up to the horizon.
  pub busy_rounds : rounds_of (busy_search p) ≤ suc horizon
  busy_rounds = rounds_rising (busy p) (busy_never_falls p upper own) (searched (busy p) (busy_never_falls p upper own) (p.blocking + p.own.work 1)) busy_start_under

  -- Instance 0 has a positive candidate.
  pub candidate_positive : 1 ≤ candidate p 0
  candidate_positive = omega (arith, own.work_rises 0, own.gap_zero)

  -- The bound of at least one instance is positive.
  pub bound_positive : (n : ℕ) → 0 < n → 1 ≤ bound p n
  bound_positive n l = omega (arith, candidate_positive, largest_is_upper n (candidate p) 0 l)

  -- No instance is sent later than the bound after its earliest arrival.
  pub bound_covers : (n q : ℕ) → q < n → sent_by p q ≤ bound p n + p.own.gap q
  bound_covers n q l = omega (arith, largest_is_upper n (candidate p) q l)

  -- One is sent just then, with nothing lost where a difference stopped at 0.
  pub bound_reached : (n : ℕ) → 0 < n → (q : ℕ) × (q < n) × (sent_by p q ≡ bound p n + p.own.gap q)
  bound_reached n l =
      let one = largest_is_one n (candidate p) l in
      (one.0, one.1, omega (arith, bound_positive n l, one.2))

  -- Where one delay search ended, the next one's start is at or below its own value.
  next_start_under : (t q : ℕ) → Delayed p t q → delay_start p (suc q) ≤ delay p (suc q) (delay_start p (suc q))
  next_start_under t q last =
      let start : ℕ = delay_start p (suc q) in
      let value_is : value_of (delay_search p q) ≡ last.value = ap value_of last.ends in
      let rises : p.own.work q ≤ p.own.work (suc q) = work_never_falls p.own own q (suc q) (omega arith) in
      let more : loads p.above (last.value + 1) ≤ loads p.above (start + 1) = loads_never_falls p.above upper (last.value + 1) (start + 1) (omega arith) in
      omega arith

  -- Where one delay search ended, the next one's start is at or below every value that its curve does not pass.
  next_start_before : (t q : ℕ) → Delayed p t q → (y : ℕ) → delay p (suc q) y ≤ y → delay_start p (suc q) ≤ y
  next_start_before t q last y h =
      let step : ℕ = p.own.work (suc q) - p.own.work q in
      let value_is : value_of (delay_search p q) ≡ last.value = ap value_of last.ends in
      let rises : p.own.work q ≤ p.own.work (suc q) = work_never_falls p.own own q (suc q) (omega arith) in
      let fewer : loads p.above ((y - step) + 1) ≤ loads p.above (y + 1) = loads_never_falls p.above upper ((y - step) + 1) (y + 1) (omega arith) in
      let first : last.value ≤ y - step = last.least_of (y - step) (omega arith) in
      omega arith

  module _ (t : ℕ) (period : (busy p t ≡ t) × (1 ≤ t) × (t ≤ horizon)) where
    -- A busy period has at least one instance.
    pub instances_positive : 1 ≤ instances p t
    instances_positive = one_count p.own own t period.1

    -- The delay curve of instance q does not pass the value that is before the end of the busy period by the work from q to the last one.
    delay_under : (q : ℕ) → q < instances p t → delay p q ((t + p.own.work q) - p.own.work (instances p t)) ≤ (t + p.own.work q) - p.own.work (instances p t)
    delay_under q l =
        let y : ℕ = (t + p.own.work q) - p.own.work (instances p t) in
        let apart : p.own.work q + instances p t ≤ p.own.work (instances p t) + q = work_apart p.own own q (instances p t) (omega arith) in
        let upto : loads p.above (y + 1) ≤ loads p.above t = loads_never_falls p.above upper (y + 1) t (omega arith) in
        omega arith

    -- The search for the delay of instance q, from a start that is at or below its own value and every value that the curve does not pass.
    delayed_from : (q : ℕ) → q < instances p t → delay_start p q ≤ delay p q (delay_start p q) → ((y : ℕ) → delay p q y ≤ y → delay_start p q ≤ y) → Delayed p t q
    delayed_from q l under before =
        let y : ℕ = (t + p.own.work q) - p.own.work (instances p t) in
        let apart : p.own.work q + instances p t ≤ p.own.work (instances p t) + q = work_apart p.own own q (instances p t) (omega arith) in
        let point : delay p q y ≤ y = delay_under q l in
        let found = ends_below (delay p q) (delay_never_falls p upper own q) (delay_start p q) y under (before y point) (omega arith) point in
        let first : found.0 ≤ y = found.3.3 y (before y point) point in
        record {
          value = found.0;
          rounds = found.1;
          ends = search_from_start p q ∙ found.2;
          stands = found.3.0;
          least_of = λ z h. found.3.3 z (before z h) h;
          room = omega arith;
          early = omega arith;
          start_under = under;
          start_before = found.3.1;
          rounds_few = found.4;
        }

    -- Every delay search of a busy period ends.
    pub delayed : (q : ℕ) → q < instances p t → Delayed p t q
    delayed zero l = delayed_from 0 l (omega arith) (λ y h. omega arith)
    delayed (suc q) l =
        let last = delayed q (omega arith) in
        delayed_from (suc q) l (next_start_under t q last) (next_start_before t q last)

    -- The instances of a busy period fit into it.
    pub work_within : (k : ℕ) → k ≤ instances p t → p.own.work k ≤ t
    work_within k l = omega (arith, work_never_falls p.own own k (instances p t) l)

    -- A busy period has no more instances than bit times.
    pub instances_at_most : instances p t ≤ t
    instances_at_most = omega (arith, work_at_least p.own own (instances p t), work_within (instances p t) (omega arith))

    -- Every delay search of a busy period ends, at a fixed point before the end of the busy period.
    pub delay_ends : (q : ℕ) → q < instances p t → (v : ℕ) × (rounds : ℕ) × (delay_search p q ≡ ended v rounds) × (delay p q v ≡ v) × (v < t) × (v ≤ horizon)
    delay_ends q l =
        let found = delayed q l in
        (found.value, found.rounds, found.ends, found.stands, found.early, omega arith)

    -- Each delay search starts within the horizon, at or below its own value.
    pub delay_start_within : (q : ℕ) → q < instances p t → (delay_start p q ≤ delay p q (delay_start p q)) × (delay_start p q ≤ horizon)
    delay_start_within q l =
        let found = delayed q l in
        (found.start_under, omega arith)

    -- Each instance of a busy period ends in it.
    pub response_within : (q : ℕ) → q < instances p t → value_of (delay_search p q) + (p.own.work (suc q) - p.own.work q) ≤ t
    response_within q l =
        let found = delayed q l in
        let value_is : value_of (delay_search p q) ≡ found.value = ap value_of found.ends in
        let upto : p.own.work (suc q) ≤ p.own.work (instances p t) = work_never_falls p.own own (suc q) (instances p t) l in
        omega (arith, own.work_rises q)

    -- The bound is at most the jitter and the length of the busy period.
    pub bound_at_most : bound p (instances p t) ≤ p.own.jitter + t
    bound_at_most = largest_is_least (instances p t) (candidate p) (p.own.jitter + t) (λ q l. omega (arith, response_within q l))

    -- The rounds of a delay search are no more than the values from its start to its end.
    pub delay_rounds_few : (q : ℕ) → q < instances p t → rounds_of (delay_search p q) + delay_start p q ≤ suc (value_of (delay_search p q))
    delay_rounds_few q l =
        let found = delayed q l in
        rw found.ends found.rounds_few

    -- The rounds of the first n + 1 delay searches are no more than their number and where the last one ended.
    delay_rounds_upto : (n : ℕ) → n < instances p t → delay_rounds p (suc n) ≤ suc n + value_of (delay_search p n)
    delay_rounds_upto zero l = omega (arith, delay_rounds_few 0 l)
    delay_rounds_upto (suc n) l =
        let last : delay_rounds p (suc (suc n)) ≡ delay_rounds p (suc n) + rounds_of (delay_search p (suc n)) =
        sum_from_last (λ q. rounds_of (delay_search p q)) 0 (suc n) ∙ ap (λ q. delay_rounds p (suc n) + rounds_of (delay_search p q)) (zero-add (suc n)) in
        omega (arith, delay_rounds_upto n (omega arith), delay_rounds_few (suc n) l)

    -- The rounds of the first n delay searches of a busy period are at most n more than its length.
    pub delay_rounds_at_most : (n : ℕ) → n ≤ instances p t → delay_rounds p n ≤ n + t
    delay_rounds_at_most zero l = omega arith
    delay_rounds_at_most (suc n) l = omega (arith, delay_rounds_upto n l, response_within n l)
