-- The worked cases hold. Assumes nothing.
use Rattle.std.proofs.Common.{◌≡◌, ℕ, ◌+◌, ◌-◌, ◌*◌, ◌/◌, ◌%◌, ◌≤◌, List, [], ◌∷◌, length, refl, ap, ◌∙◌, add-zero, arith}
use Rattle.std.proofs.Math.Nat.{div-one, mod-one}
use mathlib.Core.Path.{fun_ext}
use Rattle.sources.specs.Cycles.{FrameCycle, cycle_work, cyclic_model}
use Rattle.sources.specs.CyclesLemmas.{cycle_work_closed}
use Rattle.sources.specs.CyclicLaws.{cyclic_count}
use Rattle.response.specs.Searches.{failed, fixed_point}
use Rattle.response.specs.Bounds.{load, Place, place, busy_search, ok, none, response}
use Rattle.worked.specs.Cases.{WorkedCases, CyclicCase, BurstCase, TwoRowsCase, ThreeRowsCase, FullBusCase, full_row, crowded_rows}
use Rattle.worked.specs.RegisterCases.{RegisterCase}
use Rattle.worked.proofs.ReachedProofs.{only_zero}

cyclic_case : CyclicCase
cyclic_case = record { work_1 = refl; work_2 = refl; work_3 = refl; count_200 = refl; count_201 = refl }

burst_case : BurstCase
burst_case = record { count_10 = refl; count_11 = refl; count_1000 = refl; count_1001 = refl }

-- The searches of small tables compute as they are defined.
two_rows_case : TwoRowsCase
unfolding fixed_point
two_rows_case = record { upper = refl; lower = refl }

three_rows_case : ThreeRowsCase
unfolding fixed_point
three_rows_case = record { in_time = refl; one_less = refl }

alone_case : response (place (full_row ∷ []) 0) 135 ≡ ok 135 2
unfolding fixed_point
alone_case = refl

-- A row whose busy search fails has no bound.
without_bound : (p : Place) (deadline rounds : ℕ) → busy_search p ≡ failed rounds → response p deadline ≡ none rounds
without_bound p deadline rounds e = rw (e, response)

-- The work of the first k instances of a cyclic row: that of the whole rounds of its cycle, and that of the rest.
abbrev closed_work : List ℕ → ℕ → ℕ
closed_work cycle k = (k / length cycle) * cycle_work cycle (length cycle) + cycle_work cycle (k % length cycle)

-- The load of a cyclic row in closed form, which computes at large times too.
abbrev closed_load : List ℕ → ℕ → ℕ → ℕ
closed_load cycle period t = closed_work cycle ((t + (period - 1)) / period)

-- The load of a cyclic row is its closed form.
load_closed : (cycle : List ℕ) → FrameCycle cycle → (period : ℕ) → 1 ≤ period → (t : ℕ) → load (cyclic_model cycle period) t ≡ closed_load cycle period t
load_closed cycle frames period some t =
    rw (add-zero t, cyclic_count period some t) (cycle_work_closed cycle frames ((t + (period - 1)) / period))

-- The one frame of the full row is a cycle.
full_cycle : FrameCycle (135 ∷ [])
full_cycle = (omega arith, only_zero _ (omega arith, omega arith))

-- The load of the full row is its frame, once for each period that begins within the time: a form that computes at large times too.
full_load : (t : ℕ) → load full_row t ≡ ((t + 134) / 135) * 135
full_load t =
    load_closed (135 ∷ []) full_cycle 135 (omega arith) t
    ∙ rw (div-one ((t + 134) / 135), mod-one ((t + 134) / 135), add-zero (((t + 134) / 135) * 135)) refl

-- The busy curve of the full row above a frame of 55 bit times, in that form.
abbrev crowded_curve : ℕ → ℕ
crowded_curve t = 55 + (((t + 134) / 135) * 135 + 0)

-- The busy search of the crowded row is a search on that curve.
crowded_search : busy_search (place crowded_rows 0) ≡ fixed_point crowded_curve 190
crowded_search = ap (λ f. fixed_point f 190) (fun_ext λ t. ap (λ l. 55 + (l + 0)) (full_load t))

-- That search fails at its 7,407th evaluation.
crowded_fails : fixed_point crowded_curve 190 ≡ failed 7407
unfolding fixed_point
crowded_fails = refl

full_bus_case : FullBusCase
full_bus_case = record { alone = alone_case; crowded = without_bound (place crowded_rows 0) 135 7407 (crowded_search ∙ crowded_fails) }

register_case : RegisterCase
unfolding fixed_point
register_case = record { reference_period = refl; reference_payload = refl; register_period = refl; register_payload = refl }

pub worked_cases : WorkedCases
worked_cases = record { cyclic = cyclic_case; burst = burst_case; two = two_rows_case; three = three_rows_case; full = full_bus_case; register = register_case }
