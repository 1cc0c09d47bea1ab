-- The reference model: fed the number of places and the calls' arguments, and nothing else. Its rows have a mark, settled or not, and no
-- results: look up works out the response over the standing rows.
use Rattle.std.specs.Prelude.{ℕ, Bool, true, false, not, List, [], ◌∷◌, map, drop, slice_index}
use Rattle.sources.specs.Models.{Meanings}
use Rattle.sources.specs.Answers.{Answer, checked}
use Rattle.response.specs.Bounds.{Response, response, place}
use Rattle.register.specs.Tables.{change_at}
use Rattle.register.specs.Calls.{Kind, models, place_in, is_in}

-- A standing row of the reference model.
pub record Standing (S : Type 0) : Type 0 where
  pub source : S
  pub deadline : ℕ
  pub settled : Bool

abbrev pub marked : {S : Type 0} → Bool → Standing S → Standing S
marked mark r = record { source = r.source; deadline = r.deadline; settled = mark }

abbrev pub standings : {S : Type 0} → Kind S (Standing S)
standings = record {
  source = λ r. r.source;
  deadline = λ r. r.deadline;
  fresh = λ s d. record { source = s; deadline = d; settled = false };
  unsettled = marked false;
}

-- The first of the rows is settled.
abbrev pub first_settled : {S : Type 0} → List (Standing S) → Bool
first_settled [] = false
first_settled (r ∷ rs) = r.settled

module _ {S : Type 0} (sources : Meanings S) where
  -- Settle: 25 no such row; otherwise the row is marked settled.
  abbrev pub settle_standing : ℕ → List (Standing S) → Answer (List (Standing S))
  settle_standing id rows = checked ((not (is_in sources standings id rows), 25) ∷ []) (change_at (place_in sources standings id rows) (marked true) rows)

  -- Look up: 25 no such row, 26 unsettled; otherwise the response of the row over the standing rows.
  abbrev pub look_up_standing : ℕ → List (Standing S) → Answer Response
  look_up_standing id rows =
      let m : ℕ = place_in sources standings id rows in
      checked ((not (is_in sources standings id rows), 25) ∷ (not (first_settled (drop m rows)), 26) ∷ [])
      (response (place (models sources standings rows) m) (slice_index (map (λ r. r.deadline) rows) m))
