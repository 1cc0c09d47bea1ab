-- Lawful runs of two rows that send one instance each, and the responses that they reach. Assumes nothing.
use Rattle.std.proofs.Common.{◌≡◌, ℕ, zero, suc, ◌+◌, ◌<◌, ◌≤◌, ◌⊎◌, List, [], ◌∷◌, refl, inl, inr, ⊎_elim, arith}
use Rattle.sources.specs.Streams.{Stream, Model}
use Rattle.sources.specs.Cycles.{entry, CyclicTraffic}
use Rattle.response.specs.Bounds.{row}
use Rattle.response.specs.Runs.{Run, Lawful, Has, instance_of}
use Rattle.worked.specs.Cases.{two_rows}
use Rattle.worked.specs.Reached.{BothReached}

-- The one instance of a row: when it arrives and is queued, its bit times, and its start.
record Sending : Type 0 where
  arrival : ℕ
  bits : ℕ
  start : ℕ

-- The stream of that one instance.
abbrev alone : Sending → Stream
alone s = record { arrival = s.arrival; queued = s.arrival; bits = s.bits } ∷ []

-- Row 0 sends the upper one, and every row below it the lower.
abbrev of_row : Sending → Sending → ℕ → Sending
of_row upper lower zero = upper
of_row upper lower (suc k) = lower

-- The run of two rows with one instance each.
abbrev run_of : Sending → Sending → Run
run_of upper lower = record { stream = λ k. alone (of_row upper lower k); start = λ k i. (of_row upper lower k).start }

-- One instance that starts at its arrival, and another that arrives no sooner and starts when the first ends.
record Follows (first second : Sending) : Type 0 where
  at_once : first.start ≡ first.arrival
  no_sooner : first.start ≤ second.arrival
  by_the_end : second.arrival ≤ second.start
  at_the_end : second.start ≡ first.start + first.bits

-- The lower follows the upper, or the upper, which arrives after the lower has started, follows that.
abbrev InOrder : Sending → Sending → Type 0
InOrder upper lower = Follows upper lower ⊎ (Follows lower upper × (lower.start < upper.arrival))

-- Instance i of row k in a run is the one instance of the row at a place.
record IsOf (run : Run) (k i place : ℕ) (s : Sending) : Type 0 where
  there : k ≡ place
  only : i ≡ 0
  same_queued : (instance_of run k i).queued ≡ s.arrival
  same_bits : (instance_of run k i).bits ≡ s.bits
  same_start : run.start k i ≡ s.start

-- What holds of 0 holds of each number below 1.
pub only_zero : (P : ℕ → Type 0) → P 0 → (i : ℕ) → i < 1 → P i
only_zero P p = elim [ zero ↦ λ l. p | suc i ↦ λ l. absurd (omega arith) ]

-- A stream of one instance that takes time and fits the cycle's entry at some start is traffic of a cyclic row.
alone_sent : (cycle : List ℕ) (period : ℕ) (s : Sending) (start : ℕ) → 1 ≤ s.bits → s.bits ≤ entry cycle (start + 0) → CyclicTraffic cycle period (alone s)
alone_sent cycle period s start some fit = record {
  spaced = λ i l. absurd (omega arith);
  prompt = only_zero _ refl;
  start = start;
  fits = only_zero _ fit;
  takes_time = only_zero _ some;
}

module _ (high low : Model) (upper lower : Sending) where
  -- Each instance of such a run is the upper one or the lower one.
  which : (k i : ℕ) → Has (high ∷ low ∷ []) (run_of upper lower) k i → IsOf (run_of upper lower) k i 0 upper ⊎ IsOf (run_of upper lower) k i 1 lower
  which zero zero has = inl (omega arith)
  which zero (suc i) has = absurd (omega arith)
  which (suc zero) zero has = inr (omega arith)
  which (suc zero) (suc i) has = absurd (omega arith)
  which (suc (suc k)) i has = absurd (omega arith)

  -- The run is lawful where each row may send its instance and the two are in order.
  two_lawful : high.traffic (alone upper) → low.traffic (alone lower) → InOrder upper lower → Lawful (high ∷ low ∷ []) (run_of upper lower)
  two_lawful high_sent low_sent order = record {
    sent = sent;
    queued_first = λ k i has. omega (arith, which k i has);
    one_at_a_time = λ k i l j time has has' holds holds'. omega (arith, which k i has, which l j has');
    never_idle = λ k i time has waits.
        ⊎_elim
        (λ is. (1, 0, (omega arith, omega arith), (omega arith, omega arith)))
        (λ is. (0, 0, (omega arith, omega arith), (omega arith, omega arith)))
        (which k i has);
    by_priority = λ k i l j has has' before waits. omega (arith, which k i has, which l j has');
  }
    where
      sent : (k : ℕ) → k < 2 → (row (high ∷ low ∷ []) k).traffic ((run_of upper lower).stream k)
      sent zero l = high_sent
      sent (suc zero) l = low_sent
      sent (suc (suc k)) l = absurd (omega arith)

-- The frame of the upper row, by its arrival and its start.
abbrev upper_at : ℕ → ℕ → Sending
upper_at arrival start = record { arrival = arrival; bits = 95; start = start }

-- The longest frame of the lower row, by its arrival and its start.
abbrev lower_at : ℕ → ℕ → Sending
lower_at arrival start = record { arrival = arrival; bits = 135; start = start }

-- The two rows may send these frames, so that the order alone makes the run lawful.
order_lawful : (a s b t : ℕ) → InOrder (upper_at a s) (lower_at b t) → Lawful two_rows (run_of (upper_at a s) (lower_at b t))
order_lawful a s b t =
    two_lawful (row two_rows 0) (row two_rows 1) (upper_at a s) (lower_at b t)
    (alone_sent (95 ∷ []) 160 (upper_at a s) 0 (omega arith) (omega arith))
    (alone_sent (65 ∷ 135 ∷ 55 ∷ []) 240 (lower_at b t) 1 (omega arith) (omega arith))

-- The lower frame that waits for the upper ends at 230, and the upper that comes one bit time after the lower began ends 229 later.
pub both_reached : BothReached
both_reached = (
  (run_of (upper_at 0 0) (lower_at 0 95), 0, order_lawful 0 0 0 95 (inl (omega arith)), (omega arith, omega arith), refl),
  (run_of (upper_at 1 135) (lower_at 0 0), 0, order_lawful 1 135 0 0 (inr (omega arith, omega arith)), (omega arith, omega arith), refl),
)
