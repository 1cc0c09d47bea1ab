-- A burst source keeps the laws of a source. Assumes nothing.
use Rattle.std.specs.Prelude.{◌≡◌, ℕ, zero, suc, ◌+◌, ◌-◌, ◌*◌, ◌/◌, ◌%◌, ◌<◌, ◌≤◌, min, refl}
use Rattle.std.proofs.Common.{sym, ap, ap₂, ◌∙◌, ⊎_elim, zero-mul, suc-mul, mod-lt, add-suc, mul-le-mul_left, mul-le-mul_right, div-mul-le_self, add-one, arith}
use Rattle.std.proofs.Math.Nat.{zero-div, zero-mod, lt-div-mul-add}
use Rattle.std.proofs.lemmas.Bool.{cases_eq}
use Rattle.std.proofs.lemmas.Nat.{div-add-mod', div-mul-add, mod-mul-add}
use Rattle.sources.specs.Counts.{count}
use Rattle.sources.specs.Streams.{Laws, Stream, instance, KeepsGap, KeepsWork}
use Rattle.sources.specs.Bursts.{BurstNumbers, burst_gap, burst_work, burst_count, BurstTraffic, burst_model}
use Rattle.sources.specs.RangesLemmas.{sum_from_le, sum_from_constant}
use Rattle.sources.specs.CountsLemmas.{count_unique}
use Rattle.sources.specs.CyclicLaws.{strides_apart, arrivals_apart, prompt_jitter, prompt_order}

-- The gap at r instances after a bursts.
pub gap_at : (size spacing period a r : ℕ) → r < size → burst_gap size spacing period (a * size + r) ≡ a * period + r * spacing
gap_at size spacing period a r l = ap₂ (λ x y. x * period + y * spacing) (div-mul-add a size r l) (mod-mul-add a size r l)

module _ (size spacing period : ℕ) (numbers : BurstNumbers size spacing period) where
  -- The gap at the next instance: one spacing more, or the start of the next burst.
  gap_step_inside : (a r : ℕ) → suc r < size → burst_gap size spacing period (suc (a * size + r)) ≡ a * period + suc r * spacing
  gap_step_inside a r l = ap (burst_gap size spacing period) (sym (add-suc (a * size) r)) ∙ gap_at size spacing period a (suc r) l

  gap_step_over : (a r : ℕ) → suc r ≡ size → burst_gap size spacing period (suc (a * size + r)) ≡ suc a * period
  gap_step_over a r e =
      let next : suc (a * size + r) ≡ suc a * size + 0 = rw suc-mul (omega arith) in
      ap (burst_gap size spacing period) next ∙ gap_at size spacing period (suc a) 0 numbers.0 ∙ omega (arith, zero-mul spacing)

  rises_at : (a r : ℕ) → r < size → burst_gap size spacing period (a * size + r) ≤ burst_gap size spacing period (suc (a * size + r))
  rises_at a r l =
      ⊎_elim
      (λ e.
      let few : r * spacing ≤ size * spacing = mul-le-mul_right spacing (omega arith) in
      omega (arith, gap_at size spacing period a r l, gap_step_over a r e, suc-mul a period))
      (λ ne. omega (arith, gap_at size spacing period a r l, gap_step_inside a r (omega arith), suc-mul r spacing))
      (cases_eq (suc r) size)

  pub burst_gap_rises : (q : ℕ) → burst_gap size spacing period q ≤ burst_gap size spacing period (suc q)
  burst_gap_rises q = rw (div-add-mod' q size) at (rises_at (q / size) (q % size) (mod-lt q numbers.0))

  -- A period has room for the frames of its burst.
  pub room : size ≤ period
  room = let wide : size * 1 ≤ size * spacing = mul-le-mul_left size numbers.1 in omega arith

  pub burst_gap_at_least : (q : ℕ) → q ≤ burst_gap size spacing period q
  burst_gap_at_least q =
      let bursts : (q / size) * size ≤ (q / size) * period = mul-le-mul_left (q / size) room in
      let rest : (q % size) * 1 ≤ (q % size) * spacing = mul-le-mul_left (q % size) numbers.1 in
      omega (arith, div-add-mod' q size)

  burst_gap_zero : burst_gap size spacing period 0 ≡ 0
  burst_gap_zero = rw (zero-div size, zero-mod size) (omega (arith, zero-mul period, zero-mul spacing))

  burst_gap_kept : (bits : ℕ) (s : Stream) → BurstTraffic size spacing period bits s → KeepsGap (burst_gap size spacing period) s
  burst_gap_kept bits s sent i q l =
      let a = q / size in
      let r = q % size in
      let parts : a * size + r ≡ q = div-add-mod' q size in
      let place : (i + a * size) + r ≡ i + q = omega arith in
      let bursts = strides_apart size period s sent.apart a i (omega arith) in
      let rest : (instance s (i + a * size)).arrival + r * spacing ≤ (instance s (i + q)).arrival =
      rw place at (arrivals_apart spacing s sent.spaced (i + a * size) r (omega arith)) in
      omega (arith, bursts, rest)

  burst_work_kept : (bits : ℕ) (s : Stream) → BurstTraffic size spacing period bits s → KeepsWork (burst_work bits) s
  burst_work_kept bits s sent i k l =
      let most = sum_from_le (λ j. (instance s j).bits) (λ _. bits) i k (λ j a b. sent.fits j (omega arith)) in
      omega (arith, most, sum_from_constant bits i k)

  pub burst_laws : (bits : ℕ) → 1 ≤ bits → bits ≤ 160 → Laws (burst_model size spacing period bits)
  burst_laws bits some few = record {
    gap_zero = burst_gap_zero;
    gap_never_falls = burst_gap_rises;
    gap_at_least = burst_gap_at_least;
    work_zero = zero-mul bits;
    work_rises = λ k. omega (arith, suc-mul k bits);
    work_at_most = λ k. let most : k * bits ≤ k * 160 = mul-le-mul_left k few in omega arith;
    keeps_gap = burst_gap_kept bits;
    keeps_work = burst_work_kept bits;
    keeps_jitter = λ s sent. prompt_jitter s sent.prompt;
    keeps_order = λ s sent. prompt_order (burst_gap size spacing period) s sent.prompt (burst_gap_kept bits s sent);
    takes_time = λ s sent. sent.takes_time;
  }

  -- The count of a burst source: whole bursts and the part of one that fits what is left.
  pub burst_count_is : (x : ℕ) → count (burst_gap size spacing period) x ≡ burst_count size spacing period x
  burst_count_is zero = refl
  burst_count_is (suc y) =
      let a = y / period in
      let left = y % period in
      let r = min (left / spacing) (size - 1) in
      let inside : r < size = omega (arith, numbers.0) in
      let parts : a * period + left ≡ y = div-add-mod' y period in
      let fits : r * spacing ≤ (left / spacing) * spacing = mul-le-mul_right spacing (omega arith) in
      let low : burst_gap size spacing period (a * size + r) < suc y = omega (arith, gap_at size spacing period a r inside, fits, div-mul-le_self left spacing) in
      let high : suc y ≤ burst_gap size spacing period (suc (a * size + r)) =
      ⊎_elim
      (λ e. let short : left < period = mod-lt y (omega (arith, room, numbers.0)) in omega (arith, gap_step_over a r e, suc-mul a period))
      (λ ne.
      let whole : r ≡ left / spacing = omega arith in
      let past : left < (left / spacing) * spacing + spacing = lt-div-mul-add numbers.1 in
      let next : suc r * spacing ≡ (left / spacing) * spacing + spacing = ap (λ n. suc n * spacing) whole ∙ suc-mul (left / spacing) spacing in
      omega (arith, gap_step_inside a r (omega arith)))
      (cases_eq (suc r) size) in
      rw add-one (count_unique (burst_gap size spacing period) burst_gap_zero burst_gap_rises burst_gap_at_least (suc y) (a * size + r) low high)
