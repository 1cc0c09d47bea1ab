-- No instance of a lawful run outlasts the bound of its row.
use Rattle.std.proofs.Common.{◌≡◌, ℕ, suc, pred, ◌+◌, ◌-◌, ◌<◌, ◌≤◌, ◌⊎◌, List, length, take, drop, refl, inl, inr, ⊎_elim, lt_of_not-le, arith}
use Rattle.std.proofs.lemmas.Bool.{cases_eq, cases_lt}
use Rattle.sources.specs.Streams.{Model, Laws, bits_from}
use Rattle.sources.specs.RangesLemmas.{sum_from_le, sum_from_last, largest_is_upper}
use Rattle.response.specs.Bounds.{longest_of, load, loads, busy, delay, instances, delay_search, candidate, bound, row, place}
use Rattle.response.specs.Searches.{value_of}
use Rattle.response.specs.Runs.{Run, Lawful, Has, instance_of, NoLater}
use Rattle.response.specs.CurveLemmas.{loads_never_falls}
use Rattle.response.proofs.Sums.{sum_from_lt, sum_from_more}
use Rattle.response.proofs.Finds.{all_or_some, last_upto}
use Rattle.response.proofs.CurveLaws.{all_lawful, take_have}
use Rattle.response.proofs.Rows.{loads_sum}
use Rattle.response.proofs.Queued.{others_late, late_not_counted, piece_arrives, piece_counted}
use Rattle.response.proofs.Windows.{before, end_of, row_overlap, Quiet, Unended, Window, in_order, rest_of_window, upper_bits, upper_load, upper_load_less}

-- At each time all that row m and the rows above it queued before has ended, or something has not.
quiet_or_unended : (rows : List Model) (run : Run) (m : ℕ) → m < length rows → (time : ℕ) → Quiet rows run m time ⊎ Unended rows run m (pred time) time
quiet_or_unended rows run m here time =
    ⊎_elim
    (λ all. inl (λ k i has upper. all k (omega arith) i has.1))
    (λ some. inr (record {
      from = some.0;
      nth = some.2.0;
      has = (omega (arith, some.1), some.2.1);
      upper = omega (arith, some.1);
      early = omega (arith, some.2.2);
      late = some.2.2.1;
    }))
    (all_or_some
    (λ k. (i : ℕ) → i < length (run.stream k) → Ended k i)
    (λ k. (i : ℕ) × (i < length (run.stream k)) × (Not k i))
    (λ k. all_or_some (Ended k) (Not k) (ended_or_not k) (length (run.stream k)))
    (suc m))
  where
    Ended : ℕ → ℕ → Type 0
    Ended k i = (instance_of run k i).queued < time → end_of run k i ≤ time

    Not : ℕ → ℕ → Type 0
    Not k i = ((instance_of run k i).queued < time) × (time < end_of run k i)

    ended_or_not : (k i : ℕ) → Ended k i ⊎ Not k i
    ended_or_not k i =
        ⊎_elim
        (λ late. ⊎_elim (λ early. inr (early, late)) (λ later. inl (λ early. omega arith)) (cases_lt (instance_of run k i).queued time))
        (λ ended. inl (λ early. ended))
        (cases_lt time (end_of run k i))

-- The last quiet time, a, up to the queueing of instance i of row m: after it something has not ended.
record Opens (rows : List Model) (run : Run) (m i a : ℕ) : Type 0 where
  not_after : a ≤ (instance_of run m i).queued
  quiet : Quiet rows run m a
  unended : (time : ℕ) → a < time → time ≤ (instance_of run m i).queued → Unended rows run m (pred time) time

-- There is such a time.
opening : (rows : List Model) (run : Run) (m : ℕ) → m < length rows → (i : ℕ) → (a : ℕ) × Opens rows run m i a
opening rows run m here i =
    let at_zero : Quiet rows run m 0 = λ k j has upper early. absurd (omega arith) in
    let (a, l, quiet, unended) = last_upto (Quiet rows run m) (λ time. Unended rows run m (pred time) time) (quiet_or_unended rows run m here) at_zero (instance_of run m i).queued in
    (a, record { not_after = l; quiet = quiet; unended = unended })

-- How many instances of row m are queued from a on before instance i.
abbrev turn : Run → ℕ → ℕ → ℕ → ℕ
turn run m i a = i - before run m a

module _ {rows : List Model} {run : Run} {m i a : ℕ} (lawful : (k : ℕ) → k < length rows → Laws (row rows k)) (ok : Lawful rows run)
    (here : m < length rows) (have : i < length (run.stream m)) (opens : Opens rows run m i a) where
  -- The times from the opening up to the start of the instance are a window.
  opened : (x : ℕ) → a + x ≤ run.start m i → Window rows run m a x
  opened x l = record { quiet = opens.quiet; unended = λ time low high. go time low (omega arith) }
    where
      go : (time : ℕ) → a ≤ time → time < run.start m i → Unended rows run m time time
      go time low high =
          ⊎_elim
          (λ early.
          let u = opens.unended (suc time) (omega arith) early in
          record { from = u.from; nth = u.nth; has = u.has; upper = u.upper; early = omega (arith, u.early); late = omega (arith, u.late) })
          (λ queued. record { from = m; nth = i; has = (here, have); upper = omega arith; early = queued; late = omega arith })
          (cases_lt time (instance_of run m i).queued)

  -- No later instance of the row starts before it.
  own_order : (j : ℕ) → i ≤ j → j < length (run.stream m) → run.start m i ≤ run.start m j
  own_order j l h =
      let has : Has rows run m j = (here, h) in
      let queued : (instance_of run m i).queued ≤ run.start m j = omega (arith, in_order lawful ok m here i j l h, ok.queued_first m j has) in
      ⊎_elim
      (λ e. rw e (omega arith))
      (λ ne.
      let not_sooner : run.start m j < run.start m i → ⊥ = λ sooner. ok.by_priority m j m i has (here, have) (inr (refl, omega arith)) (queued, sooner) in
      omega arith)
      (cases_eq j i)

  -- It is none of those queued before the opening.
  first_not_after : before run m a ≤ i
  first_not_after = late_not_counted (run.stream m) (in_order lawful ok m here) a i opens.not_after

  -- Nor is the first of its row that is counted with it.
  first_within : a ≤ (instance_of run m (before run m a)).queued
  first_within = others_late (run.stream m) a (before run m a) (omega arith) (omega (arith, first_not_after))

  -- It stands its turn after that one.
  its_place : before run m a + turn run m i a ≡ i
  its_place = omega (arith, first_not_after)

  -- It arrives at most the jitter before its gap from the opening.
  arrives_after : a + (row rows m).gap (turn run m i a) ≤ (instance_of run m i).arrival + (row rows m).jitter
  arrives_after =
      rw its_place at
      (piece_arrives (row rows m) (lawful m here) (run.stream m) (ok.sent m here) (before run m a) (turn run m i a) a (omega (arith, its_place)) first_within)

  -- Until it starts, the bus is held by a row below, by those of its row before it, and by the rows above.
  before_start : (x : ℕ) → a + x ≤ run.start m i →
      x ≤ longest_of (drop (suc m) rows) + (bits_from (run.stream m) (before run m a) (turn run m i a) + loads (take m rows) x)
  before_start x l =
      let window = opened x l in
      let own = upper_bits lawful ok here window m (omega arith) i first_not_after (omega arith) (λ j low high. omega (arith, own_order j low high)) in
      let above = sum_from_le (row_overlap run a x) (λ k. load (row rows k) x) 0 m (λ k low high. upper_load lawful ok here window k (omega arith)) in
      omega (arith, rest_of_window lawful ok here window, sum_from_more (row_overlap run a x) m, loads_sum rows x 0 m (omega arith))

  -- It is queued within a busy period's length of the opening.
  queued_within : (t : ℕ) → 1 ≤ t → busy (place rows m) t ≡ t → (instance_of run m i).queued < a + t
  queued_within t some fixed = lt_of_not-le past
    where
      past : a + t ≤ (instance_of run m i).queued → ⊥
      past l =
          let u = opens.unended (a + t) (omega arith) l in
          let window = opened t (omega (arith, ok.queued_first m i (here, have))) in
          let less = upper_load_less lawful ok here window u.from u.upper u.nth u.has.1 (omega (arith, u.early)) u.late in
          omega (
            arith,
            rest_of_window lawful ok here window,
            sum_from_lt (row_overlap run a t) (λ k. load (row rows k) t) 0 (suc m) (λ k low high. upper_load lawful ok here window k (omega arith)) u.from (omega arith) (omega (arith, u.upper)) less,
            sum_from_more (λ k. load (row rows k) t) m,
            loads_sum rows t 0 m (omega arith),
          )

  -- So it is one of the instances of the busy period.
  in_busy_period : (t : ℕ) → 1 ≤ t → busy (place rows m) t ≡ t → turn run m i a < instances (place rows m) t
  in_busy_period t some fixed =
      piece_counted (row rows m) (lawful m here) (run.stream m) (ok.sent m here) (before run m a) (turn run m i a) a t
      (omega (arith, its_place)) first_within (rw its_place (queued_within t some fixed))

  -- It starts within its delay of the opening.
  starts_by : (w : ℕ) → delay (place rows m) (turn run m i a) w ≡ w → run.start m i ≤ a + w
  starts_by w fixed =
      let own = (lawful m here).keeps_work (run.stream m) (ok.sent m here) (before run m a) (turn run m i a) (omega (arith, its_place)) in
      let not_later : a + w < run.start m i → ⊥ = λ later. omega (arith, before_start (w + 1) (omega arith)) in
      omega arith

  -- And it ends within that and what the row's work rises by at its turn.
  ends_by : (w : ℕ) → delay (place rows m) (turn run m i a) w ≡ w →
      end_of run m i + (row rows m).work (turn run m i a) ≤ a + w + (row rows m).work (suc (turn run m i a))
  ends_by w fixed =
      let starts : run.start m i ≤ a + w = starts_by w fixed in
      let queued : a ≤ run.start m i = omega (arith, opens.not_after, ok.queued_first m i (here, have)) in
      let own = (lawful m here).keeps_work (run.stream m) (ok.sent m here) (before run m a) (suc (turn run m i a)) (omega (arith, its_place)) in
      let last = rw its_place at (sum_from_last (λ j. (instance_of run m j).bits) (before run m a) (turn run m i a)) in
      omega (arith, before_start (run.start m i - a) (omega arith), loads_never_falls (take m rows) (take_have Laws m rows (all_lawful rows lawful)) (run.start m i - a) (w + 1) (omega arith))

-- Where the busy period of row m ends at t, each of its instances q has the delay w q, and none of them can take longer than b, no instance
-- of the row takes longer than b in any lawful run.
pub no_later :
    (rows : List Model) → ((k : ℕ) → k < length rows → Laws (row rows k)) →
    (m : ℕ) → m < length rows →
    (t : ℕ) → 1 ≤ t → busy (place rows m) t ≡ t →
    (w : ℕ → ℕ) → ((q : ℕ) → q < instances (place rows m) t → delay (place rows m) q (w q) ≡ w q) →
    (b : ℕ) → ((q : ℕ) → q < instances (place rows m) t → (row rows m).jitter + w q + ((row rows m).work (suc q) - (row rows m).work q) ≤ b + (row rows m).gap q) →
    NoLater rows m b
no_later rows lawful m here t some fixed w delays b most run ok i have =
    let window = opening rows run m here i in
    let a : ℕ = window.0 in
    let opens : Opens rows run m i a = window.1 in
    let q : ℕ = turn run m i a in
    let counted : q < instances (place rows m) t = in_busy_period lawful ok here have opens t some fixed in
    omega (arith, most q counted, (lawful m here).work_rises q, ends_by lawful ok here have opens (w q) (delays q counted), arrives_after lawful ok here have opens)

-- The bound is such a b, where the busy period ends at t and each search for a delay ended.
pub no_later_than_bound :
    (rows : List Model) → ((k : ℕ) → k < length rows → Laws (row rows k)) →
    (m : ℕ) → m < length rows →
    (t : ℕ) → 1 ≤ t → busy (place rows m) t ≡ t →
    ((q : ℕ) → q < instances (place rows m) t → delay (place rows m) q (value_of (delay_search (place rows m) q)) ≡ value_of (delay_search (place rows m) q)) →
    NoLater rows m (bound (place rows m) (instances (place rows m) t))
no_later_than_bound rows lawful m here t some fixed delays =
    no_later rows lawful m here t some fixed (λ q. value_of (delay_search (place rows m) q)) delays (bound (place rows m) (instances (place rows m) t))
    (λ q l. omega (arith, largest_is_upper (instances (place rows m) t) (candidate (place rows m)) q l))
