-- Payloads that are at most eight bytes, and the frames that carry them. Assumes nothing.
use Rattle.std.proofs.Common.{◌≡◌, ℕ, zero, suc, ◌+◌, ◌<◌, ◌≤◌, true, false, ◌||◌, ltb, List, [], ◌∷◌, map, length, get_or, drop, ap, ◌∙◌, le_of_suc-le-suc, not-suc-le-zero, arith}
use Rattle.std.proofs.lemmas.List.{at_drop_more, length-map, get_or-map}
use Rattle.std.proofs.lemmas.Bool.{ltb-false, lt-ltb, le-ltb, or_parts}
use Rattle.sources.specs.Answers.{some_above}
use Rattle.sources.specs.Cycles.{FrameCycle}

module _ (limit : ℕ) (ns : List ℕ) (i : ℕ) (inside : i < length ns) where
  -- A number above the limit is found where it stands.
  pub above_here : limit < get_or ns i 0 → some_above limit (drop i ns) ≡ true
  above_here l = at_drop_more (some_above limit) ns i 0 inside ∙ ap (λ b. b || some_above limit (drop (i + 1) ns)) (lt-ltb limit (get_or ns i 0) l)

  -- One that is not above the limit may be passed.
  pub above_later : get_or ns i 0 ≤ limit → some_above limit (drop i ns) ≡ some_above limit (drop (i + 1) ns)
  above_later l = at_drop_more (some_above limit) ns i 0 inside ∙ ap (λ b. b || some_above limit (drop (i + 1) ns)) (le-ltb limit (get_or ns i 0) l)

-- Where none is above the limit, each is at most the limit.
pub none_above : (limit : ℕ) (ns : List ℕ) → some_above limit ns ≡ false → (i : ℕ) → i < length ns → get_or ns i 0 ≤ limit
none_above limit [] none i l = absurd (not-suc-le-zero l)
none_above limit (n ∷ ns) none zero l = ltb-false limit n (or_parts (ltb limit n) (some_above limit ns) none).0
none_above limit (n ∷ ns) none (suc i) l = none_above limit ns (or_parts (ltb limit n) (some_above limit ns) none).1 i (le_of_suc-le-suc l)

-- The frames of one to eight bytes of payload each make a cycle.
pub frame_cycle : (longest : ℕ → ℕ) → ((n : ℕ) → 1 ≤ longest n) → ((n : ℕ) → n ≤ 8 → longest n ≤ 160) → (payloads : List ℕ) → 1 ≤ length payloads → some_above 8 payloads ≡ false → FrameCycle (map longest payloads)
frame_cycle longest positive small payloads some none = (
  omega (arith, length-map payloads longest),
  λ i l.
      let inside : i < length payloads = omega (arith, length-map payloads longest) in
      let is : get_or (map longest payloads) i 0 ≡ longest (get_or payloads i 0) = get_or-map longest payloads i 0 0 inside in
      (omega (arith, is, positive (get_or payloads i 0)), omega (arith, is, small (get_or payloads i 0) (none_above 8 payloads none i inside))),
)
