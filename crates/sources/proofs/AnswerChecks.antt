-- What the checks answer where each of them passes. Assumes nothing.
use Rattle.std.proofs.Common.{◌≡◌, ℕ, ◌*◌, ◌≤◌, Bool, false, ◌||◌, ltb, List, [], ◌∷◌, length, get_or, refl, ap, ◌∙◌, arith}
use Rattle.std.proofs.lemmas.Bool.{le-ltb, or_from}
use Rattle.sources.specs.Answers.{made, checked, outside, some_above, burst_checks, burst_answer}

-- No check finds a fault.
abbrev pub NoFault : List (Bool × ℕ) → Type 0
NoFault [] = Unit {0}
NoFault (c ∷ cs) = (c.0 ≡ false) × NoFault cs

-- Where no check finds a fault, the values are the answer.
pub checked_made : {V : Type 0} (cs : List (Bool × ℕ)) (v : V) → NoFault cs → checked cs v ≡ made v
checked_made [] v none = refl
checked_made (c ∷ cs) v none = ap (λ t. checked ((t, c.1) ∷ cs) v) none.0 ∙ checked_made cs v none.1

pub inside : (low high n : ℕ) → low ≤ n → n ≤ high → outside low high n ≡ false
inside low high n l h = or_from (ltb n low) (ltb high n) (le-ltb n low l) (le-ltb high n h)

-- A burst's numbers that pass every check are those of the source.
pub burst_made : (highest : ℕ) (longest : ℕ → ℕ) (identifier period size spacing : ℕ) (payloads : List ℕ) →
    identifier ≤ highest → 100 * size ≤ period → period ≤ 1000000 → length payloads ≡ 1 → some_above 8 payloads ≡ false →
    1 ≤ size → size ≤ 16 → 1 ≤ spacing → size * spacing ≤ period →
    burst_answer highest longest identifier period size spacing payloads ≡
    made (record { identifier = identifier; period = period; size = size; spacing = spacing; bits = longest (get_or payloads 0 0) })
burst_made highest longest identifier period size spacing payloads known slow fast one small some few apart room =
    checked_made (burst_checks highest identifier period size spacing payloads) _ (
      le-ltb highest identifier known,
      (
        inside (100 * size) 1000000 period slow fast,
        (
          inside 1 1 (length payloads) (omega arith) (omega arith),
          (
            small,
            (
              or_from (outside 1 16 size) (ltb spacing 1 || ltb period (size * spacing)) (inside 1 16 size some few)
                  (or_from (ltb spacing 1) (ltb period (size * spacing)) (le-ltb spacing 1 apart) (le-ltb period (size * spacing) room)),
              tt,
            ),
          ),
        ),
      ),
    )
