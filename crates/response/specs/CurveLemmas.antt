-- The curves never fall, where every source keeps the laws. Assumes nothing.
use Rattle.std.specs.Prelude.{◌≡◌, ℕ, zero, suc, ◌+◌, ◌≤◌, min, List, [], ◌∷◌, map}
use Rattle.std.proofs.Common.{⊎_elim, arith}
use Rattle.std.proofs.lemmas.Bool.{cases_eq}
use Rattle.sources.specs.Streams.{Model, Laws}
use Rattle.sources.specs.Counts.{count}
use Rattle.sources.specs.Models.{model, Meanings}
use Rattle.sources.specs.RangesLemmas.{never_falls}
use Rattle.sources.specs.CountsLemmas.{count_never_falls, count_positive}
use Rattle.response.specs.declared.listed.Listed as listed
use Rattle.response.specs.declared.place.Place as held
use Rattle.response.specs.Searches.{horizon, NeverFalls}
use Rattle.response.specs.Bounds.{AllLawful, Place, load, loads}
use Rattle.response.specs.Curves.{answerable, models, loads_answer, busy_answer, delay_answer}
use Rattle.response.specs.Views.{seen}

module _ (m : Model) (laws : Laws m) where
  -- More instances take no less time.
  pub work_never_falls : NeverFalls m.work
  work_never_falls = never_falls m.work (λ k. omega (arith, laws.work_rises k))

  -- Each further instance takes at least one bit time.
  pub work_apart : (j k : ℕ) → j ≤ k → m.work j + k ≤ m.work k + j
  work_apart j zero l = let e : j ≡ 0 = omega arith in rw e (omega arith)
  work_apart j (suc k) l =
      ⊎_elim
      (λ e. rw e (omega arith))
      (λ ne. omega (arith, work_apart j k (omega arith), laws.work_rises k))
      (cases_eq j (suc k))

  -- Instances take at least one bit time each.
  pub work_at_least : (k : ℕ) → k ≤ m.work k
  work_at_least k = omega (arith, work_apart 0 k (omega arith))

  -- Within any time a row can queue at least one instance.
  pub one_count : (t : ℕ) → 1 ≤ t → 1 ≤ count m.gap (t + m.jitter)
  one_count t l = count_positive m.gap laws.gap_zero laws.gap_never_falls laws.gap_at_least (t + m.jitter) (omega arith)

  -- Within any time a row can put at least one frame on the bus.
  pub load_at_least : (t : ℕ) → 1 ≤ t → m.work 1 ≤ load m t
  load_at_least t l = work_never_falls 1 (count m.gap (t + m.jitter)) (one_count t l)

  -- A row puts no less on the bus within a longer time.
  pub load_never_falls : NeverFalls (load m)
  load_never_falls s t l =
      work_never_falls (count m.gap (s + m.jitter)) (count m.gap (t + m.jitter))
      (count_never_falls m.gap laws.gap_zero laws.gap_never_falls laws.gap_at_least (s + m.jitter) (t + m.jitter) (omega arith))

-- Rows put no less on the bus within a longer time.
pub loads_never_falls : (ms : List Model) → AllLawful ms → NeverFalls (loads ms)
loads_never_falls [] laws s t l = omega arith
loads_never_falls (m ∷ ms) (first, rest) s t l =
    omega (arith, load_never_falls m first s t l, loads_never_falls ms rest s t l)

-- A source that answers its jitter keeps the laws, with no traffic to look at.
pub answerable_lawful : (m : Model) → Laws m → Laws (answerable m)
answerable_lawful m laws = record {
  gap_zero = laws.gap_zero;
  gap_never_falls = laws.gap_never_falls;
  gap_at_least = laws.gap_at_least;
  work_zero = laws.work_zero;
  work_rises = laws.work_rises;
  work_at_most = laws.work_at_most;
  keeps_gap = λ s sent. absurd sent;
  keeps_work = λ s sent. absurd sent;
  keeps_jitter = λ s sent. absurd sent;
  keeps_order = λ s sent. absurd sent;
  takes_time = λ s sent. absurd sent;
}

pub all_answerable : (ms : List Model) → AllLawful ms → AllLawful (map answerable ms)
all_answerable [] laws = tt
all_answerable (m ∷ ms) (first, rest) = (answerable_lawful m first, all_answerable ms rest)

-- Where every source keeps the laws, so do the models of listed rows.
pub models_lawful : {L S : Type 0} (rows : listed.Ghosts L S) (sources : Meanings S) → ((s : S) → Laws (model sources s)) → (ls : List L) → AllLawful (models rows sources ls)
models_lawful rows sources lawful [] = tt
models_lawful rows sources lawful (l ∷ ls) = (lawful (rows.source l), models_lawful rows sources lawful ls)

-- The loads as they are answered never fall.
pub loads_answer_rises : (ms : List Model) → AllLawful ms → NeverFalls (loads_answer ms)
loads_answer_rises ms laws s t l = loads_never_falls (map answerable ms) (all_answerable ms laws) (min s horizon) (min t horizon) (omega arith)

pub busy_answer_rises : (p : Place) → AllLawful p.above → Laws p.own → NeverFalls (busy_answer p)
busy_answer_rises p upper own s t l =
    omega (arith, load_never_falls (answerable p.own) (answerable_lawful p.own own) (min s horizon) (min t horizon) (omega arith), loads_answer_rises p.above upper s t l)

pub delay_answer_rises : (p : Place) → AllLawful p.above → (held : ℕ) → NeverFalls (delay_answer p held)
delay_answer_rises p upper held s t l = omega (arith, loads_answer_rises p.above upper (s + 1) (t + 1) (omega arith))

-- The curves of a place as the code holds it.
module _ {L S : Type 0} (rows : listed.Ghosts L S) (sources : Meanings S) (lawful : (s : S) → Laws (model sources s)) (p : held.Place L) where
  pub busy_rises : NeverFalls (busy_answer (seen rows sources p))
  busy_rises = busy_answer_rises (seen rows sources p) (models_lawful rows sources lawful p.above.now) (lawful (rows.source p.own.now))

  pub delay_rises : (before : ℕ) → NeverFalls (delay_answer (seen rows sources p) before)
  delay_rises = delay_answer_rises (seen rows sources p) (models_lawful rows sources lawful p.above.now)
