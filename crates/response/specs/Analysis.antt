-- What the analysis of one row among listed rows answers, and what its answer says.
use Rattle.std.specs.Prelude.{◌≡◌, ℕ, ◌+◌, ◌<◌, ◌≤◌, Bool, List, [], ◌∷◌, ◌++◌, length, nat_le, nat_lt, slice_index}
use Rattle.sources.specs.Streams.{Model}
use Rattle.sources.specs.Answers.{Answer, made, refused, checked, outside}
use Rattle.response.specs.Searches.{ended, horizon}
use Rattle.response.specs.Bounds.{Place, busy, busy_search, NoFixedPoint, instances, delay_search, sent_by, Response, ok, late, none, response, place}
use Rattle.response.specs.Runs.{NoLater}

-- The checks of a row: 21 deadline not 1 to 1,000,000, 22 jitter above 1,000,000.
abbrev pub own_checks : Model → ℕ → List (Bool × ℕ)
own_checks m deadline = (outside 1 horizon deadline, 21) ∷ (nat_lt horizon m.jitter, 22) ∷ []

-- The first number of a row's checks, if any.
abbrev pub row_answer : Model → ℕ → Answer (Unit {0})
row_answer m deadline = checked (own_checks m deadline) (tt {0})

-- The checks of each row, in the order of the rows.
abbrev pub row_checks : List Model → List ℕ → List (Bool × ℕ)
row_checks [] deadlines = []
row_checks (m ∷ ms) [] = []
row_checks (m ∷ ms) (d ∷ ds) = own_checks m d ++ row_checks ms ds

-- The first number of the rows' checks, if any.
abbrev pub rows_answer : List Model → List ℕ → Answer (Unit {0})
rows_answer rows deadlines = checked (row_checks rows deadlines) (tt {0})

-- The check of a place among rows: 25 where there is no such row.
abbrev pub place_checks : ℕ → ℕ → List (Bool × ℕ)
place_checks rows m = (nat_le rows m, 25) ∷ []

-- The number of that check, if it applies.
abbrev pub place_answer : ℕ → ℕ → Answer (Unit {0})
place_answer rows m = checked (place_checks rows m) (tt {0})

-- The answer for row m: 25 where there is no such row, then the first number of the rows' checks, and otherwise the response.
abbrev pub response_answer : List Model → List ℕ → ℕ → Answer Response
response_answer rows deadlines m = checked (place_checks (length rows) m ++ row_checks rows deadlines) (response (place rows m) (slice_index deadlines m))

-- The busy period of a row ends within the horizon, and every delay search of its instances ends.
pub record Ends (p : Place) : Type 0 where
  pub time : ℕ
  pub rounds : ℕ
  pub is_end : busy_search p ≡ ended time rounds
  pub fixed : busy p time ≡ time
  pub positive : 1 ≤ time
  pub within : time ≤ horizon
  pub delays_end : (q : ℕ) → q < instances p time → (w : ℕ) × (n : ℕ) × (delay_search p q ≡ ended w n)

-- b is the largest of what the instances come to: none is sent later than b after its earliest arrival, and one is sent just then. The
-- gap is not subtracted, so nothing stops at 0.
pub record BoundOf (p : Place) (b : ℕ) : Type 0 where
  pub ends : Ends p
  pub covers : (q : ℕ) → q < instances p ends.time → sent_by p q ≤ b + p.own.gap q
  pub reached : (q : ℕ) × (q < instances p ends.time) × (sent_by p q ≡ b + p.own.gap q)

-- A bound is given where the busy period ends, and none exactly where the busy curve has no fixed point from 1 to the horizon.
abbrev pub Grounded : Place → Response → Type 0
Grounded p (ok bound rounds) = Ends p
Grounded p (late bound rounds) = Ends p
Grounded p (none rounds) = NoFixedPoint p

-- A bound that is given is the largest of what the instances come to.
abbrev pub GivesLargest : Place → Response → Type 0
GivesLargest p (ok bound rounds) = BoundOf p bound
GivesLargest p (late bound rounds) = BoundOf p bound
GivesLargest p (none rounds) = Unit {0}

-- No lawful run outlasts the bound, if one is given for row m.
abbrev pub NoRunOutlasts : List Model → ℕ → Response → Type 0
NoRunOutlasts rows m (ok bound rounds) = NoLater rows m bound
NoRunOutlasts rows m (late bound rounds) = NoLater rows m bound
NoRunOutlasts rows m (none rounds) = Unit {0}

-- What holds of the response, if the analysis gave one.
abbrev pub OfResponse : (Response → Type 0) → Answer Response → Type 0
OfResponse P (made r) = P r
OfResponse P (refused n) = Unit {0}
