-- The checks of the calls, and what passes them. Assumes nothing.
use Rattle.std.proofs.Common.{◌≡◌, ℕ, ◌<◌, ◌≤◌, Bool, true, false, ltb, leb, List, [], ◌∷◌, length, refl}
use Rattle.std.proofs.lemmas.Bool.{ltb-false, leb-false, or_parts, not-false}
use Rattle.sources.specs.Models.{Meanings}
use Rattle.sources.specs.Answers.{Answer, made, refused, checked, outside}
use Rattle.sources.proofs.AnswerChecks.{NoFault}
use Rattle.response.specs.Searches.{horizon}
use Rattle.register.specs.Calls.{Kind, is_in, enter_checks, amend_checks, withdraw_checks}

-- What holds of an answer, as each check passes or some check does not.
pub checked_cases : {V : Type 0} (P : Answer V → Type 0) (cs : List (Bool × ℕ)) (v : V) → (NoFault cs → P (made v)) → ((n : ℕ) → P (refused n)) → P (checked cs v)
checked_cases P [] v if_made if_refused = if_made tt
checked_cases P ((b, n) ∷ cs) v if_made if_refused = go b (λ e. checked_cases P cs v (λ none. if_made (e, none)) if_refused)
  where
    go : (t : Bool) → (t ≡ false → P (checked cs v)) → P (elim t [ true ↦ refused n | false ↦ checked cs v ])
    go true passed = if_refused n
    go false passed = passed refl

-- A number that is not outside a range is within it.
pub within : (low high n : ℕ) → outside low high n ≡ false → (low ≤ n) × (n ≤ high)
within low high n e =
    let parts = or_parts (ltb n low) (ltb high n) e in
    (ltb-false n low parts.0, ltb-false high n parts.1)

module _ {S A : Type 0} (sources : Meanings S) (kind : Kind S A) where
  -- What passes the checks of enter.
  pub record EnterPassed (places : ℕ) (s : S) (deadline : ℕ) (rows : List A) : Type 0 where
    pub low : 1 ≤ deadline
    pub high : deadline ≤ horizon
    pub jitter : sources.jitter s ≤ horizon
    pub lacks : is_in sources kind (sources.identifier s) rows ≡ false
    pub few : length rows < 256
    pub room : length rows < places

  -- What passes the checks of amend.
  pub record AmendPassed (s : S) (deadline : ℕ) (rows : List A) : Type 0 where
    pub low : 1 ≤ deadline
    pub high : deadline ≤ horizon
    pub jitter : sources.jitter s ≤ horizon
    pub has : is_in sources kind (sources.identifier s) rows ≡ true

  -- Where no check of enter finds a fault, each of them passes.
  pub enter_passed : (places : ℕ) (s : S) (deadline : ℕ) (rows : List A) → NoFault (enter_checks sources kind places s deadline rows) → EnterPassed places s deadline rows
  enter_passed places s deadline rows passed =
      let range = within 1 horizon deadline passed.0 in
      let full = or_parts (leb 256 (length rows)) (leb places (length rows)) passed.1.1.1.0 in
      record {
        low = range.0;
        high = range.1;
        jitter = ltb-false horizon (sources.jitter s) passed.1.0;
        lacks = passed.1.1.0;
        few = leb-false 256 (length rows) full.0;
        room = leb-false places (length rows) full.1;
      }

  -- Where no check of amend finds a fault, each of them passes.
  pub amend_passed : (s : S) (deadline : ℕ) (rows : List A) → NoFault (amend_checks sources kind s deadline rows) → AmendPassed s deadline rows
  amend_passed s deadline rows passed =
      let range = within 1 horizon deadline passed.0 in
      record {
        low = range.0;
        high = range.1;
        jitter = ltb-false horizon (sources.jitter s) passed.1.0;
        has = not-false (is_in sources kind (sources.identifier s) rows) passed.1.1.0;
      }

  -- Where no check of withdraw finds a fault, there is such a row.
  pub withdraw_passed : (id : ℕ) (rows : List A) → NoFault (withdraw_checks sources kind id rows) → is_in sources kind id rows ≡ true
  withdraw_passed id rows passed = not-false (is_in sources kind id rows) passed.0
