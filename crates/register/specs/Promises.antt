-- What the register promises after any list of uses.
use Rattle.std.specs.Prelude.{◌≡◌, ℕ, suc, ◌<◌, ◌≤◌, true, ◌⊎◌, ◌↔◌, List, [], ◌∷◌, ◌++◌, map, length, drop}
use Rattle.std.specs.List.Sorted.{IsPermutation}
use Rattle.sources.specs.Models.{Meanings}
use Rattle.sources.specs.Answers.{made}
use Rattle.response.specs.declared.listed.Row.{Row}
use Rattle.response.specs.Bounds.{Response}
use Rattle.response.specs.Analysis.{NoRunOutlasts}
use Rattle.register.specs.declared.slot.Slot.{Slot}
use Rattle.register.specs.declared.uses.Use.{Use}
use Rattle.register.specs.declared.uses.Use.TheVariants.{Enter, Amend, Withdraw, Settle, LookUp}
use Rattle.register.specs.Tables.{longest}
use Rattle.register.specs.Calls.{frame, models, place_in, is_in}
use Rattle.register.specs.Slots.{slots, look_up_slots}
use Rattle.register.specs.Steps.{Reply, done, register_step, register_after, reference_step, reference_after, reference_replies}

-- A number is in a list.
abbrev pub In : ℕ → List ℕ → Type 0
In n [] = ⊥
In n (m ∷ ms) = (n ≡ m) ⊎ In n ms

module _ {S : Type 0} (sources : Meanings S) where
  -- The row with an identifier shows a response: it is what look up answers.
  abbrev pub Shows : List (Slot S) → ℕ → Response → Type 0
  Shows rows id r = look_up_slots sources id rows ≡ made r

  -- The longest frame below the row with an identifier.
  abbrev pub longest_below : List (Slot S) → ℕ → ℕ
  longest_below rows id = longest (frame sources slots) (drop (suc (place_in sources slots id rows)) rows)

  -- A use enters, amends or withdraws the row with an identifier.
  abbrev pub Touches : ℕ → Use S → Type 0
  Touches id (Enter row) = sources.identifier row.source ≡ id
  Touches id (Amend row) = sources.identifier row.source ≡ id
  Touches id (Withdraw other) = other ≡ id
  Touches id (Settle other) = ⊥
  Touches id (LookUp other) = ⊥

  -- Bounds hold on the machine: whatever lawful run the rows make, no instance of a row that shows a bound ends later after its arrival
  -- than that bound.
  abbrev pub BoundsHold : List (Slot S) → Type 0
  BoundsHold rows = (id : ℕ) (r : Response) → Shows rows id r → NoRunOutlasts (models sources slots rows) (place_in sources slots id rows) r

  -- What a row shows, any other register with places enough shows for it too, once the rows are entered there in whichever order and
  -- settled in whichever order.
  abbrev pub SameElsewhere : List (Slot S) → Type 0
  SameElsewhere rows =
      (places : ℕ) → length rows ≤ places → (order : List (Row S)) → IsPermutation (map (λ s. s.row) rows) order →
      (settles : List ℕ) → ((id : ℕ) → is_in sources slots id rows ≡ true → In id settles) →
      (id : ℕ) (r : Response) → Shows rows id r → Shows (register_after sources places [] (map Enter order ++ map Settle settles)) id r

  -- If an accepted enter, amend or withdraw comes next, a higher-priority row that showed a response still shows it exactly when the
  -- longest frame below it is the same as before.
  abbrev pub KeptExactly : ℕ → List (Slot S) → Type 0
  KeptExactly places rows =
      (u : Use S) (touched : ℕ) → Touches touched u → (register_step sources places rows u).reply ≡ done →
      (id : ℕ) → id < touched → (r : Response) → Shows rows id r →
      Shows (register_step sources places rows u).rows id r ↔ (longest_below (register_step sources places rows u).rows id ≡ longest_below rows id)

  -- The promise, whole: of a register with a number of places that was used from empty, the replies it gave and the rows it holds.
  pub record Promise (places : ℕ) (uses : List (Use S)) (given : List Reply) (rows : List (Slot S)) : Type 0 where
    pub bounds_hold : BoundsHold rows
    pub answers_are : given ≡ reference_replies sources places uses
    pub next_answer_is : (u : Use S) → (register_step sources places rows u).reply ≡ (reference_step sources places (reference_after sources places uses) u).reply
    pub same_elsewhere : SameElsewhere rows
    pub kept_exactly : KeptExactly places rows
