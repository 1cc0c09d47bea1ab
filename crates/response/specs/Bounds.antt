-- The response bound of one row among the rows of a bus, highest priority first.
use Rattle.std.specs.Prelude.{◌≡◌, ℕ, zero, suc, ◌+◌, ◌-◌, ◌≤◌, max, true, false, List, [], ◌∷◌, take, drop, ◌≢◌, nat_le, slice_index_or}
use Rattle.sources.specs.Ranges.{sum_from, largest}
use Rattle.sources.specs.Streams.{Model, Laws}
use Rattle.sources.specs.Counts.{count}
use Rattle.response.specs.Searches.{Found, ended, failed, horizon, fixed_point, value_of, rounds_of}

-- Each row has a property.
abbrev pub Each : (Model → Type 0) → List Model → Type 0
Each P [] = Unit {0}
Each P (m ∷ ms) = P m × Each P ms

-- Every row keeps what a source owes.
abbrev pub AllLawful : List Model → Type 0
AllLawful rows = Each Laws rows

-- The longest frame of rows: the largest work(1) among them, or 0.
abbrev pub longest_of : List Model → ℕ
longest_of [] = 0
longest_of (m ∷ ms) = max (m.work 1) (longest_of ms)

-- The most bit times of the instances of a row that can be queued within t.
abbrev pub load : Model → ℕ → ℕ
load m t = m.work (count m.gap (t + m.jitter))

abbrev pub loads : List Model → ℕ → ℕ
loads [] t = 0
loads (m ∷ ms) t = load m t + loads ms t

-- A row as its analysis sees it: the rows above it, the row itself, and the longest frame below it.
pub record Place : Type 1 where
  pub above : List Model
  pub own : Model
  pub blocking : ℕ

abbrev pub row_place : List Model → Model → ℕ → Place
row_place above own blocking = record { above = above; own = own; blocking = blocking }

-- The most that the bus is held, within t from the start of a busy period, by a frame below, the row itself and the rows above.
abbrev pub busy : Place → ℕ → ℕ
busy p t = p.blocking + (load p.own t + loads p.above t)

-- The most that the bus is held before instance q of a busy period starts, if it has not started by w.
abbrev pub delay : Place → ℕ → ℕ → ℕ
delay p q w = p.blocking + (p.own.work q + loads p.above (w + 1))

-- The search for the end of the busy period.
abbrev pub busy_search : Place → Found
busy_search p = fixed_point (busy p) (p.blocking + p.own.work 1)

-- No whole number from 1 to the horizon is a fixed point of the busy curve.
abbrev pub NoFixedPoint : Place → Type 0
NoFixedPoint p = (t : ℕ) → 1 ≤ t → t ≤ horizon → busy p t ≢ t

-- How many instances of the row a busy period of length t has.
abbrev pub instances : Place → ℕ → ℕ
instances p t = count p.own.gap (t + p.own.jitter)

-- The search for the queueing delay of instance q, each from where the one before ended.
abbrev pub delay_search : Place → ℕ → Found
delay_search p zero = fixed_point (delay p 0) p.blocking
delay_search p (suc q) = fixed_point (delay p (suc q)) (value_of (delay_search p q) + (p.own.work (suc q) - p.own.work q))

-- The time by which instance q is sent at the latest, from the earliest arrival of instance 0.
abbrev pub sent_by : Place → ℕ → ℕ
sent_by p q = p.own.jitter + value_of (delay_search p q) + (p.own.work (suc q) - p.own.work q)

-- The response of instance q at most: the difference stops at 0, which changes no largest one, since that of instance 0 is at least 1.
abbrev pub candidate : Place → ℕ → ℕ
candidate p q = (p.own.jitter + value_of (delay_search p q) + (p.own.work (suc q) - p.own.work q)) - p.own.gap q

-- The largest candidate of the first n instances.
abbrev pub bound : Place → ℕ → ℕ
bound p n = largest n (candidate p)

-- The evaluations of the first n delay searches.
abbrev pub delay_rounds : Place → ℕ → ℕ
delay_rounds p n = sum_from (λ q. rounds_of (delay_search p q)) 0 n

-- What the analysis answers: ok and late with bound and round count, none with the round count.
pub data Response : Type 0 where
  ok : (bound rounds : ℕ) → Response
  late : (bound rounds : ℕ) → Response
  none : (rounds : ℕ) → Response

-- The verdict alone.
pub data Verdict : Type 0 where
  is_ok is_late is_none : Verdict

abbrev pub verdict : Response → Verdict
verdict (ok bound rounds) = is_ok
verdict (late bound rounds) = is_late
verdict (none rounds) = is_none

-- The bound, and 0 in its place where there is none.
abbrev pub bound_of : Response → ℕ
bound_of (ok bound rounds) = bound
bound_of (late bound rounds) = bound
bound_of (none rounds) = 0

-- The round count.
abbrev pub response_rounds : Response → ℕ
response_rounds (ok bound rounds) = rounds
response_rounds (late bound rounds) = rounds
response_rounds (none rounds) = rounds

-- A bound against its deadline.
abbrev pub judged : ℕ → ℕ → ℕ → Response
judged deadline b rounds = elim (nat_le b deadline) [ true ↦ ok b rounds | false ↦ late b rounds ]

-- The judgement of a row whose busy period ends at t.
abbrev pub judged_at : Place → ℕ → ℕ → ℕ → Response
judged_at p deadline t rounds = judged deadline (bound p (instances p t)) (rounds + delay_rounds p (instances p t))

abbrev pub response : Place → ℕ → Response
response p deadline = elim (busy_search p) [
  | ended t rounds ↦ judged_at p deadline t rounds
  | failed rounds ↦ none rounds
]

-- What stands past the last row.
abbrev pub no_model : Model
no_model = record { gap = λ q. q; work = λ k. k; jitter = 0; traffic = λ s. s ≡ [] }

-- Row k of the rows.
abbrev pub row : List Model → ℕ → Model
row rows k = slice_index_or rows k no_model

-- Row m of the rows, as its analysis sees it.
abbrev pub place : List Model → ℕ → Place
place rows m = row_place (take m rows) (row rows m) (longest_of (drop (suc m) rows))
