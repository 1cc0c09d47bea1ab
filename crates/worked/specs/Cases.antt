-- The worked cases of the definitions.
use Rattle.std.specs.Prelude.{◌≡◌, ℕ, List, [], ◌∷◌}
use Rattle.sources.specs.Counts.{count}
use Rattle.sources.specs.Streams.{Model}
use Rattle.sources.specs.Cycles.{cycle_work, cyclic_gap, cyclic_model}
use Rattle.sources.specs.Bursts.{burst_gap}
use Rattle.response.specs.Bounds.{response, ok, late, none, place}
use Rattle.worked.specs.RegisterCases.{standard_frames, RegisterCase}

-- The frames of payloads of 2, 4 and 1 bytes in the standard format.
abbrev pub three_frames : List ℕ
three_frames = standard_frames (2 ∷ 4 ∷ 1 ∷ [])

-- A cyclic source of these frames with a period of 200.
pub record CyclicCase : Type 0 where
  pub work_1 : cycle_work three_frames 1 ≡ 95
  pub work_2 : cycle_work three_frames 2 ≡ 170
  pub work_3 : cycle_work three_frames 3 ≡ 235
  pub count_200 : count (cyclic_gap 200) 200 ≡ 1
  pub count_201 : count (cyclic_gap 200) 201 ≡ 2

-- A burst source of three frames 10 bit times apart with a period of 1,000.
pub record BurstCase : Type 0 where
  pub count_10 : count (burst_gap 3 10 1000) 10 ≡ 1
  pub count_11 : count (burst_gap 3 10 1000) 11 ≡ 2
  pub count_1000 : count (burst_gap 3 10 1000) 1000 ≡ 3
  pub count_1001 : count (burst_gap 3 10 1000) 1001 ≡ 4

-- A cyclic row in the standard format, by its payloads and its period.
abbrev pub standard_row : List ℕ → ℕ → Model
standard_row payloads period = cyclic_model (standard_frames payloads) period

-- Payload 4 at period 160, above payloads 1, 8 and 0 in turn at period 240.
abbrev pub two_rows : List Model
two_rows = standard_row (4 ∷ []) 160 ∷ standard_row (1 ∷ 8 ∷ 0 ∷ []) 240 ∷ []

-- The upper row keeps its deadline, and the lower one is late.
pub record TwoRowsCase : Type 0 where
  pub upper : response (place two_rows 0) 235 ≡ ok 230 6
  pub lower : response (place two_rows 1) 240 ≡ late 245 12

-- Payloads 2, 4 and 1 in turn at period 200, above payload 2 at period 350, above payload 5 at period 1,000.
abbrev pub three_rows : List Model
three_rows = standard_row (2 ∷ 4 ∷ 1 ∷ []) 200 ∷ standard_row (2 ∷ []) 350 ∷ standard_row (5 ∷ []) 1000 ∷ []

-- The bound of the middle row is 350: it keeps a deadline of 350, and not one of 349.
pub record ThreeRowsCase : Type 0 where
  pub in_time : response (place three_rows 1) 350 ≡ ok 350 6
  pub one_less : response (place three_rows 1) 349 ≡ late 350 6

-- Payload 8 at period 135, which is as long as its frame.
abbrev pub full_row : Model
full_row = standard_row (8 ∷ []) 135

-- The same row above payload 0 at period 1,000.
abbrev pub crowded_rows : List Model
crowded_rows = full_row ∷ standard_row (0 ∷ []) 1000 ∷ []

-- Alone the row keeps its deadline, and above another row it has no bound.
pub record FullBusCase : Type 0 where
  pub alone : response (place (full_row ∷ []) 0) 135 ≡ ok 135 2
  pub crowded : response (place crowded_rows 0) 135 ≡ none 7407

pub record WorkedCases : Type 0 where
  pub cyclic : CyclicCase
  pub burst : BurstCase
  pub two : TwoRowsCase
  pub three : ThreeRowsCase
  pub full : FullBusCase
  pub register : RegisterCase
