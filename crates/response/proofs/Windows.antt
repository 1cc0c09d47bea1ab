-- How long the rows of a lawful run hold the bus in a window of time.
use Rattle.std.proofs.Common.{◌≡◌, ℕ, zero, suc, ◌+◌, ◌-◌, ◌<◌, ◌≤◌, min, max, List, length, drop, inl, ⊎_elim, arith}
use Rattle.std.proofs.lemmas.Bool.{cases_lt}
use Rattle.sources.specs.Ranges.{sum_from}
use Rattle.sources.specs.Streams.{Model, Laws, KeepsOrder, bits_from}
use Rattle.sources.specs.RangesLemmas.{sum_from_le}
use Rattle.response.specs.Bounds.{longest_of, load, row}
use Rattle.response.specs.Runs.{Run, Lawful, Has, Holds, instance_of}
use Rattle.response.proofs.Sums.{sum_from_lt, sum_from_positive, sum_from_one, sum_from_parts, sum_from_only}
use Rattle.response.proofs.Rows.{longest_is_upper}
use Rattle.response.proofs.Queued.{queued_before, queued_before_le, early_counted, others_late, counted_early, late_not_counted, queued_before_never_falls, few_queued}

-- How many instances of row k are queued before a time.
abbrev pub before : Run → ℕ → ℕ → ℕ
before run k time = queued_before (run.stream k) time

-- When instance i of row k has left the bus.
abbrev pub end_of : Run → ℕ → ℕ → ℕ
end_of run k i = run.start k i + (instance_of run k i).bits

-- For how many of the x times from a on instance i of row k holds the bus.
abbrev pub overlap : Run → ℕ → ℕ → ℕ → ℕ → ℕ
overlap run a x k i = min (end_of run k i) (a + x) - max (run.start k i) a

-- For how many of them row k holds it.
abbrev pub row_overlap : Run → ℕ → ℕ → ℕ → ℕ
row_overlap run a x k = sum_from (overlap run a x k) 0 (length (run.stream k))

-- Some instance holds the bus at a time.
abbrev pub Held : List Model → Run → ℕ → Type 0
Held rows run time = (k : ℕ) × (i : ℕ) × (Has rows run k i) × (Holds run k i time)

-- Each instance of row m and of the rows above it that is queued before a time has ended by then.
abbrev pub Quiet : List Model → Run → ℕ → ℕ → Type 0
Quiet rows run m time = (k i : ℕ) → Has rows run k i → k ≤ m → (instance_of run k i).queued < time → end_of run k i ≤ time

-- An instance of row m or of a row above it is queued by one time and has not ended by another.
pub record Unended (rows : List Model) (run : Run) (m by until : ℕ) : Type 0 where
  pub from : ℕ
  pub nth : ℕ
  pub has : Has rows run from nth
  pub upper : from ≤ m
  pub early : (instance_of run from nth).queued ≤ by
  pub late : until < end_of run from nth

-- The x times from a on: all that row m and the rows above it queued before has ended, and at each of them something is queued there
-- and has not ended.
pub record Window (rows : List Model) (run : Run) (m a x : ℕ) : Type 0 where
  pub quiet : Quiet rows run m a
  pub unended : (time : ℕ) → a ≤ time → time < a + x → Unended rows run m time time

-- A row holds the bus no less in one time more.
overlap_rises : (run : Run) (a x k : ℕ) → row_overlap run a x k ≤ row_overlap run a (suc x) k
overlap_rises run a x k = sum_from_le (overlap run a x k) (overlap run a (suc x) k) 0 (length (run.stream k)) (λ i l h. omega arith)

-- It holds it more where one of its instances holds it at that time.
overlap_more : (run : Run) (a x k i : ℕ) → i < length (run.stream k) → Holds run k i (a + x) → row_overlap run a x k < row_overlap run a (suc x) k
overlap_more run a x k i l holds =
    sum_from_lt (overlap run a x k) (overlap run a (suc x) k) 0 (length (run.stream k)) (λ i l h. omega arith) i (omega arith) (omega arith) (omega arith)

-- Where the bus is held throughout, the rows hold it for that long.
pub cover : (rows : List Model) (run : Run) (a x : ℕ) → ((time : ℕ) → a ≤ time → time < a + x → Held rows run time) →
    x ≤ sum_from (row_overlap run a x) 0 (length rows)
cover rows run a zero held = omega arith
cover rows run a (suc x) held =
    let (k, i, has, holds) = held (a + x) (omega arith) (omega arith) in
    omega (
      arith,
      cover rows run a x (λ time l h. held time l (omega arith)),
      sum_from_lt (row_overlap run a x) (row_overlap run a (suc x)) 0 (length rows) (λ k l h. overlap_rises run a x k) k (omega arith) (omega arith) (overlap_more run a x k i has.1 holds),
    )

module _ {rows : List Model} {run : Run} (lawful : (k : ℕ) → k < length rows → Laws (row rows k)) (ok : Lawful rows run) where
  -- No row's queueing times fall.
  pub in_order : (k : ℕ) → k < length rows → KeepsOrder (run.stream k)
  in_order k l = (lawful k l).keeps_order (run.stream k) (ok.sent k l)

  -- Each instance takes at least one bit time.
  pub takes_some : (k i : ℕ) → Has rows run k i → 1 ≤ (instance_of run k i).bits
  takes_some k i has = (lawful k has.0).takes_time (run.stream k) (ok.sent k has.0) i has.1

  -- No instance takes more than the longest frame from row p on.
  pub takes_at_most : (p k i : ℕ) → p ≤ k → Has rows run k i → (instance_of run k i).bits ≤ longest_of (drop p rows)
  takes_at_most p k i low has =
      omega (arith, (lawful k has.0).keeps_work (run.stream k) (ok.sent k has.0) i 1 (omega (arith, has.1)), longest_is_upper rows p k low has.0)

  -- While an instance is queued and has not ended, the bus is held.
  pub held_while : {m time : ℕ} → Unended rows run m time time → Held rows run time
  held_while {m} {time} u =
      ⊎_elim
      (λ waits. ok.never_idle u.from u.nth time u.has (u.early, waits))
      (λ started. (u.from, u.nth, u.has, (started, u.late)))
      (cases_lt time (run.start u.from u.nth))

  -- And no instance of a row below it starts.
  pub none_below_starts : {m : ℕ} (k i : ℕ) → Has rows run k i → m < k → Unended rows run m (run.start k i) (run.start k i) → ⊥
  none_below_starts {m} k i has below u =
      let start : ℕ = run.start k i in
      ⊎_elim
      (λ waits. ok.by_priority k i u.from u.nth has u.has (inl (omega (arith, u.upper))) (u.early, waits))
      (λ started.
      let same = ok.one_at_a_time k i u.from u.nth start has u.has (omega arith, omega (arith, takes_some k i has)) (started, u.late) in
      omega (arith, u.upper, same.0))
      (cases_lt start (run.start u.from u.nth))

  module _ {m a x : ℕ} (here : m < length rows) (window : Window rows run m a x) where
    -- An instance of a row below that holds the bus in the window holds it at its start.
    below_holds : (k i : ℕ) → Has rows run k i → m < k → 0 < overlap run a x k i → Holds run k i a
    below_holds k i has below some =
        ⊎_elim
        (λ sooner. (omega arith, omega arith))
        (λ within. absurd (none_below_starts k i has below (window.unended (run.start k i) within (omega arith))))
        (cases_lt (run.start k i) a)

    -- So a row below holds it for at most the longest frame below.
    below_at_most : (k : ℕ) → k < length rows → m < k → row_overlap run a x k ≤ longest_of (drop (suc m) rows)
    below_at_most k l below =
        sum_from_one (overlap run a x k) 0 (length (run.stream k)) (longest_of (drop (suc m) rows))
        (λ i low high. let has : Has rows run k i = (l, omega arith) in omega (arith, takes_at_most (suc m) k i below has))
        (λ i j low high low' high' some more.
        let has : Has rows run k i = (l, omega arith) in
        let has' : Has rows run k j = (l, omega arith) in
        (ok.one_at_a_time k i k j a has has' (below_holds k i has below some) (below_holds k j has' below more)).1)

    -- And so do the rows below together.
    all_below : sum_from (row_overlap run a x) (suc m) (length rows - suc m) ≤ longest_of (drop (suc m) rows)
    all_below =
        sum_from_one (row_overlap run a x) (suc m) (length rows - suc m) (longest_of (drop (suc m) rows))
        (λ k low high. below_at_most k (omega arith) low)
        (λ k l low high low' high' some more.
        let i = sum_from_positive (overlap run a x k) 0 (length (run.stream k)) some in
        let j = sum_from_positive (overlap run a x l) 0 (length (run.stream l)) more in
        let has : Has rows run k i.0 = (omega arith, omega (arith, i.2)) in
        let has' : Has rows run l j.0 = (omega arith, omega (arith, j.2)) in
        (ok.one_at_a_time k i.0 l j.0 a has has' (below_holds k i.0 has low i.3) (below_holds l j.0 has' low' j.3)).0)

    -- Row m and the rows above it hold the bus for all the rest of the window.
    pub rest_of_window : x ≤ longest_of (drop (suc m) rows) + sum_from (row_overlap run a x) 0 (suc m)
    rest_of_window =
        omega (arith, cover rows run a x (λ time l h. held_while (window.unended time l h)), sum_from_parts (row_overlap run a x) (suc m) (length rows) here, all_below)

    module _ (k : ℕ) (upper : k ≤ m) where
      -- Such a row holds it only by instances that are queued at the start of the window or later, and that start in it.
      upper_part : (z : ℕ) → before run k a ≤ z → z ≤ length (run.stream k) →
          ((i : ℕ) → z ≤ i → i < length (run.stream k) → a + x ≤ run.start k i) →
          row_overlap run a x k ≡ sum_from (overlap run a x k) (before run k a) (z - before run k a)
      upper_part z first size after =
          sum_from_only (overlap run a x k) (before run k a) z (length (run.stream k)) first size
          (λ i h.
          let has : Has rows run k i = (omega arith, omega arith) in
          omega (arith, window.quiet k i has upper (counted_early (run.stream k) (in_order k (omega arith)) a i h)))
          (λ i h l. omega (arith, after i h l))

      -- So it holds it no longer than the bit times of those.
      pub upper_bits : (z : ℕ) → before run k a ≤ z → z ≤ length (run.stream k) →
          ((i : ℕ) → z ≤ i → i < length (run.stream k) → a + x ≤ run.start k i) →
          row_overlap run a x k ≤ bits_from (run.stream k) (before run k a) (z - before run k a)
      upper_bits z first size after =
          rw (upper_part z first size after)
          (sum_from_le (overlap run a x k) (λ i. (instance_of run k i).bits) (before run k a) (z - before run k a) (λ i low high. omega arith))

      -- An instance that is queued after the window starts after it.
      starts_after : (i : ℕ) → before run k (a + x) ≤ i → i < length (run.stream k) → a + x ≤ run.start k i
      starts_after i h l =
          let has : Has rows run k i = (omega arith, l) in
          omega (arith, others_late (run.stream k) (a + x) i h l, ok.queued_first k i has)

      -- No fewer are queued before the end of the window than before its start.
      before_rises : before run k a ≤ before run k (a + x)
      before_rises = queued_before_never_falls (run.stream k) (in_order k (omega arith)) a (a + x) (omega arith)

      -- Those queued in the window take at most the row's load.
      few_in_window : bits_from (run.stream k) (before run k a) (before run k (a + x) - before run k a) ≤ load (row rows k) x
      few_in_window = let l : k < length rows = omega arith in few_queued (row rows k) (lawful k l) (run.stream k) (ok.sent k l) a x

      -- Such a row holds the bus for at most its load.
      pub upper_load : row_overlap run a x k ≤ load (row rows k) x
      upper_load = omega (arith, few_in_window, upper_bits (before run k (a + x)) before_rises (queued_before_le (run.stream k) (a + x)) starts_after)

      -- And for less, where an instance of it that is queued before the end of the window has not ended by then.
      pub upper_load_less : (i : ℕ) → i < length (run.stream k) → (instance_of run k i).queued < a + x → a + x < end_of run k i →
          row_overlap run a x k < load (row rows k) x
      upper_load_less i l early late =
          let has : Has rows run k i = (omega arith, l) in
          let not_sooner : (instance_of run k i).queued < a → ⊥ = λ sooner. omega (arith, window.quiet k i has upper sooner) in
          let low : before run k a ≤ i = late_not_counted (run.stream k) (in_order k has.0) a i (omega arith) in
          let high : i < before run k (a + x) = early_counted (run.stream k) (a + x) i l early in
          let short : overlap run a x k i < (instance_of run k i).bits = omega (arith, ok.queued_first k i has, takes_some k i has) in
          omega (
            arith,
            few_in_window,
            upper_part (before run k (a + x)) before_rises (queued_before_le (run.stream k) (a + x)) starts_after,
            sum_from_lt (overlap run a x k) (λ i. (instance_of run k i).bits) (before run k a) (before run k (a + x) - before run k a) (λ i low high. omega arith) i low (omega arith) short,
          )
