-- The register answers as the reference model does. Assumes nothing.
use Rattle.std.proofs.Common.{◌≡◌, ℕ, zero, suc, max, Bool, true, false, not, ◌||◌, eqb, ltb, leb, List, [], ◌∷◌, ◌++◌, map, get_or, take, drop, is_some, Some, None, Option, sym, refl, ap, ◌∙◌, ap₂}
use mathlib.Core.List.{map-append, map-map}
use Rattle.std.proofs.lemmas.List.{take-map, drop-map, length-map}
use Rattle.std.proofs.lemmas.Bool.{le-ltb, false≢true}
use Rattle.sources.specs.Models.{model, Meanings}
use Rattle.sources.specs.Answers.{Answer, made, refused, checked, outside}
use Rattle.sources.proofs.AnswerChecks.{NoFault, checked_made, inside}
use Rattle.response.specs.declared.outcome.Outcome.{Outcome}
use Rattle.response.specs.Searches.{horizon}
use Rattle.response.specs.Bounds.{Response, response, place}
use Rattle.response.specs.Views.{outcome_of}
use Rattle.response.specs.Analysis.{row_checks}
use Rattle.register.specs.declared.slot.Slot.{Slot}
use Rattle.register.specs.declared.uses.Use.{Use}
use Rattle.register.specs.declared.uses.Use.TheVariants.{Enter, Amend, Withdraw, Settle, LookUp}
use Rattle.register.specs.Tables.{starts_with, change_at, longest, unsettle_above, changed_from}
use Rattle.register.specs.Calls.{Kind, identifier, frame, models, place_in, is_in, become, enter_rows, amend_rows, withdraw_rows}
use Rattle.register.specs.Slots.{slots, with_outcome, outcome_for, first_shows, response_at, settle_slots, look_up_slots}
use Rattle.register.specs.Reference.{Standing, standings, marked, first_settled, settle_standing, look_up_standing}
use Rattle.register.specs.Steps.{Step, changes, shows, register_step, register_after, register_replies, reference_step, reference_after, reference_replies, rows_after, replies}
use Rattle.register.proofs.TableLaws.{AllOf, same_place, same_has, same_longest}
use Rattle.register.specs.Calls.{enter_checks, amend_checks, withdraw_checks}
use Rattle.register.proofs.Invariant.{Good, InRange, Matches, FirstMatches, stored_at, good_empty, good_step}

-- An answer with other values.
abbrev pub mapped : {V W : Type 0} → (V → W) → Answer V → Answer W
mapped f (made v) = made (f v)
mapped f (refused n) = refused n

-- What the checks find does not depend on the values.
pub checked_mapped : {V W : Type 0} (f : V → W) (cs : List (Bool × ℕ)) (v : V) → checked cs (f v) ≡ mapped f (checked cs v)
checked_mapped f [] v = refl
checked_mapped {W} f ((b, n) ∷ cs) v =
    elim b as (λ t. ◌≡◌ {A = Answer W} (elim t [ true ↦ refused n | false ↦ checked cs (f v) ]) (mapped f (elim t [ true ↦ refused n | false ↦ checked cs v ])))
    [ true ↦ refl | false ↦ checked_mapped f cs v ]

-- A step on other rows.
abbrev pub mapped_step : {A B : Type 0} → (A → B) → Step A → Step B
mapped_step f s = record { rows = map f s.rows; reply = s.reply }

module _ {A B : Type 0} (f : A → B) where
  -- A value that a row keeps as it becomes another, of every row.
  pub map_through {ℓ} : {V : Type ℓ} (value : B → V) (other : A → V) → ((a : A) → value (f a) ≡ other a) → (rows : List A) → map value (map f rows) ≡ map other rows
  map_through value other same [] = refl
  map_through value other same (a ∷ rest) = ap₂ (λ v vs. v ∷ vs) (same a) (map_through value other same rest)

  -- Other rows change at a place as the rows do.
  pub change_at_mapped : (g : A → A) (h : B → B) → ((a : A) → h (f a) ≡ f (g a)) → (place : ℕ) (rows : List A) → change_at place h (map f rows) ≡ map f (change_at place g rows)
  change_at_mapped g h same zero [] = refl
  change_at_mapped g h same zero (a ∷ rest) = ap (λ b. b ∷ map f rest) (same a)
  change_at_mapped g h same (suc place) [] = refl
  change_at_mapped g h same (suc place) (a ∷ rest) = ap (λ bs. f a ∷ bs) (change_at_mapped g h same place rest)

  module _ (frame : A → ℕ) (other : B → ℕ) (same_frame : (a : A) → other (f a) ≡ frame a) (g : A → A) (h : B → B) (same : (a : A) → h (f a) ≡ f (g a)) where
    longest_mapped : (rows : List A) → longest other (map f rows) ≡ longest frame rows
    longest_mapped rows = same_longest other frame (map f rows) rows (map_through other frame same_frame rows)

    either_mapped : (b : Bool) (a : A) → ◌≡◌ {A = B} (elim b [ true ↦ f a | false ↦ h (f a) ]) (f (elim b [ true ↦ a | false ↦ g a ]))
    either_mapped true a = refl
    either_mapped false a = same a

    unsettle_mapped : (rows : List A) (before after : ℕ) → unsettle_above other h (map f rows) before after ≡ map f (unsettle_above frame g rows before after)
    unsettle_mapped [] before after = refl
    unsettle_mapped (a ∷ rest) before after =
        ap₂ (λ b bs. b ∷ bs)
        (ap (λ n. elim (eqb (max n before) (max n after)) as (λ _. B) [ true ↦ f a | false ↦ h (f a) ]) (longest_mapped rest)
        ∙ either_mapped (eqb (max (longest frame rest) before) (max (longest frame rest) after)) a)
        (unsettle_mapped rest before after)

    -- Other rows change from a place on as the rows do.
    pub changed_mapped : (place : ℕ) (after rows : List A) → changed_from other h place (map f after) (map f rows) ≡ map f (changed_from frame g place after rows)
    changed_mapped place after rows =
        ap₂ (λ bs cs. bs ++ cs)
        (
        ap (λ top. unsettle_above other h top (longest other (drop place (map f rows))) (longest other (map f after))) (take-map f place rows)
        ∙ ap₂ (unsettle_above other h (map f (take place rows))) (ap (longest other) (drop-map f place rows) ∙ longest_mapped (drop place rows)) (longest_mapped after)
        ∙ unsettle_mapped (take place rows) (longest frame (drop place rows)) (longest frame after)
        )
        (map-map h f after ∙ ap (λ k. map k after) (λ i a. same a i) ∙ sym (map-map f g after))
        ∙ sym (map-append f (unsettle_above frame g (take place rows) (longest frame (drop place rows)) (longest frame after)) (map g after))

-- Enter, amend and withdraw on rows of two kinds, where those of one become those of the other.
module _ {S A B : Type 0} (sources : Meanings S) (one : Kind S A) (two : Kind S B) (f : A → B)
    (same_source : (a : A) → two.source (f a) ≡ one.source a) (same_fresh : (s : S) (d : ℕ) → two.fresh s d ≡ f (one.fresh s d))
    (same_unsettled : (a : A) → two.unsettled (f a) ≡ f (one.unsettled a)) (rows : List A) where
  same_identifiers : map (identifier sources two) (map f rows) ≡ map (identifier sources one) rows
  same_identifiers = map_through f (identifier sources two) (identifier sources one) (λ a. ap sources.identifier (same_source a)) rows

  -- The other rows have the same places.
  pub place_mapped : (id : ℕ) → place_in sources two id (map f rows) ≡ place_in sources one id rows
  place_mapped id = same_place (identifier sources two) (identifier sources one) (map f rows) rows same_identifiers id

  -- The other rows have the same identifiers.
  pub is_in_mapped : (id : ℕ) → is_in sources two id (map f rows) ≡ is_in sources one id rows
  is_in_mapped id = same_has (identifier sources two) (identifier sources one) (map f rows) rows same_identifiers id

  become_mapped : (place other : ℕ) (after : List A) (others : List B) → other ≡ place → others ≡ map f after →
      become sources two other others (map f rows) ≡ map f (become sources one place after rows)
  become_mapped place other after others same_place same_after =
      ap₂ (λ n bs. become sources two n bs (map f rows)) same_place same_after
      ∙ changed_mapped f (frame sources one) (frame sources two) (λ a. ap (λ s. sources.work s 1) (same_source a)) one.unsettled two.unsettled same_unsettled place after rows

  dropped : (place other : ℕ) → other ≡ place → drop other (map f rows) ≡ map f (drop place rows)
  dropped place other same = ap (λ n. drop n (map f rows)) same ∙ drop-map f place rows

  -- Enter answers on the other rows as on the rows.
  pub enter_mapped : (places : ℕ) (s : S) (deadline : ℕ) → enter_rows sources two places s deadline (map f rows) ≡ mapped (map f) (enter_rows sources one places s deadline rows)
  enter_mapped places s deadline =
      let at : ℕ = place_in sources one (sources.identifier s) rows in
      ap₂ checked
      (ap₂
      (λ b n. (outside 1 horizon deadline, 21) ∷ (ltb horizon (sources.jitter s), 22) ∷ (b, 23) ∷ (leb 256 n || leb places n, 24) ∷ [])
      (is_in_mapped (sources.identifier s)) (length-map rows f))
      (become_mapped at _ (one.fresh s deadline ∷ drop at rows) _ (place_mapped (sources.identifier s))
      (ap₂ (λ b bs. b ∷ bs) (same_fresh s deadline) (dropped at _ (place_mapped (sources.identifier s)))))
      ∙ checked_mapped (map f) (enter_checks sources one places s deadline rows) (become sources one at (one.fresh s deadline ∷ drop at rows) rows)

  -- Amend answers on the other rows as on the rows.
  pub amend_mapped : (s : S) (deadline : ℕ) → amend_rows sources two s deadline (map f rows) ≡ mapped (map f) (amend_rows sources one s deadline rows)
  amend_mapped s deadline =
      let at : ℕ = place_in sources one (sources.identifier s) rows in
      ap₂ checked
      (ap (λ b. (outside 1 horizon deadline, 21) ∷ (ltb horizon (sources.jitter s), 22) ∷ (not b, 25) ∷ []) (is_in_mapped (sources.identifier s)))
      (become_mapped at _ (one.fresh s deadline ∷ drop (suc at) rows) _ (place_mapped (sources.identifier s))
      (ap₂ (λ b bs. b ∷ bs) (same_fresh s deadline) (dropped (suc at) _ (ap suc (place_mapped (sources.identifier s))))))
      ∙ checked_mapped (map f) (amend_checks sources one s deadline rows) (become sources one at (one.fresh s deadline ∷ drop (suc at) rows) rows)

  -- Withdraw answers on the other rows as on the rows.
  pub withdraw_mapped : (id : ℕ) → withdraw_rows sources two id (map f rows) ≡ mapped (map f) (withdraw_rows sources one id rows)
  withdraw_mapped id =
      let at : ℕ = place_in sources one id rows in
      ap₂ checked
      (ap (λ b. (not b, 25) ∷ []) (is_in_mapped id))
      (become_mapped at _ (drop (suc at) rows) _ (place_mapped id) (dropped (suc at) _ (ap suc (place_mapped id))))
      ∙ checked_mapped (map f) (withdraw_checks sources one id rows) (become sources one at (drop (suc at) rows) rows)

-- A slot as the reference model keeps it: settled where an outcome is stored.
abbrev pub as_standing : {S : Type 0} → Slot S → Standing S
as_standing s = record { source = s.row.source; deadline = s.row.deadline; settled = is_some s.outcome }

-- A call on other rows changes them as it changes the rows.
changes_mapped : {A B : Type 0} (f : A → B) (rows : List A) (a : Answer (List A)) → changes (map f rows) (mapped (map f) a) ≡ mapped_step f (changes rows a)
changes_mapped f rows (made new) = refl
changes_mapped f rows (refused n) = refl

shows_mapped : {A B : Type 0} (f : A → B) (rows : List A) (a : Answer Response) → shows (map f rows) a ≡ mapped_step f (shows rows a)
shows_mapped f rows (made r) = refl
shows_mapped f rows (refused n) = refl

-- What the first row shows, where its outcome is its response.
first_answer : {S : Type 0} (rows : List (Slot S)) (key : Slot S → ℕ) (k : ℕ) (r : Response) → starts_with key k rows ≡ true → FirstMatches rows r →
    checked ((not (first_settled (map as_standing rows)), 26) ∷ []) r ≡ first_shows rows
first_answer [] key k r starts matches = absurd (false≢true starts)
first_answer (s ∷ rest) key k r starts matches = go s.outcome matches
  where
    go : (o : Option Outcome) → Matches o r →
        checked ((not (is_some o), 26) ∷ []) r ≡ elim o as (λ _. Answer Response) [ Some x ↦ made (outcome_of x) | None ↦ refused 26 ]
    go (Some x) is = ap made (sym is)
    go None is = refl

module _ {S : Type 0} (sources : Meanings S) where
  -- Rows in their ranges pass the checks of the analysis.
  pub rows_pass : (rows : List (Slot S)) → AllOf (λ s. s.row) (InRange sources) rows → NoFault (row_checks (models sources slots rows) (map (λ s. s.row.deadline) rows))
  rows_pass [] ranges = tt
  rows_pass (s ∷ rest) (first, later) =
      (inside 1 horizon s.row.deadline first.0 first.1, (le-ltb horizon (sources.jitter s.row.source) first.2, rows_pass rest later))

  module _ (places : ℕ) (rows : List (Slot S)) (good : Good sources places rows) where
    -- Settle is refused only where there is no such row.
    pub settle_is : (id : ℕ) → settle_slots sources id rows ≡
        checked ((not (is_in sources slots id rows), 25) ∷ [])
        (change_at (place_in sources slots id rows) (with_outcome (Some (outcome_for (response_at sources (place_in sources slots id rows) rows)))) rows)
    settle_is id =
        ap (λ a. elim (not (is_in sources slots id rows)) as (λ _. Answer (List (Slot S))) [ true ↦ refused 25 | false ↦ a ])
        (checked_made (row_checks (models sources slots rows) (map (λ s. s.row.deadline) rows)) _ (rows_pass rows good.in_range))

    settle_mapped : (id : ℕ) → settle_standing sources id (map as_standing rows) ≡ mapped (map as_standing) (settle_slots sources id rows)
    settle_mapped id =
        let m : ℕ = place_in sources slots id rows in
        let o : Option Outcome = Some (outcome_for (response_at sources m rows)) in
        ap₂ checked
        (ap (λ b. (not b, 25) ∷ []) (is_in_mapped sources slots standings as_standing (λ _. refl) (λ _ _. refl) (λ _. refl) rows id))
        (ap (λ n. change_at n (marked true) (map as_standing rows)) (place_mapped sources slots standings as_standing (λ _. refl) (λ _ _. refl) (λ _. refl) rows id)
        ∙ change_at_mapped as_standing (with_outcome o) (marked true) (λ _. refl) m rows)
        ∙ checked_mapped (map as_standing) ((not (is_in sources slots id rows), 25) ∷ []) (change_at m (with_outcome o) rows)
        ∙ ap (mapped (map as_standing)) (sym (settle_is id))

    -- Look up answers the response over the rows now standing, where the row is settled.
    pub look_up_is : (id : ℕ) → look_up_standing sources id (map as_standing rows) ≡ look_up_slots sources id rows
    look_up_is id =
        let m : ℕ = place_in sources slots id rows in
        let same_place = place_mapped sources slots standings as_standing (λ _. refl) (λ _ _. refl) (λ _. refl) rows id in
        let same_models : models sources standings (map as_standing rows) ≡ models sources slots rows =
        map-map (λ r. model sources r.source) as_standing rows in
        let same_deadlines : map (λ r. r.deadline) (map as_standing rows) ≡ map (λ s. s.row.deadline) rows = map-map (λ r. r.deadline) as_standing rows in
        ap₂ checked
        (ap₂ (λ b ys. (not b, 25) ∷ (not (first_settled ys), 26) ∷ [])
        (is_in_mapped sources slots standings as_standing (λ _. refl) (λ _ _. refl) (λ _. refl) rows id)
        (ap (λ n. drop n (map as_standing rows)) same_place ∙ drop-map as_standing m rows))
        (ap (λ n. response (place (models sources standings (map as_standing rows)) n) (get_or (map (λ r. r.deadline) (map as_standing rows)) n 0)) same_place
        ∙ ap₂ (λ ms ds. response (place ms m) (get_or ds m 0)) same_models same_deadlines)
        ∙ go (is_in sources slots id rows) refl
      where
        go : (b : Bool) → is_in sources slots id rows ≡ b →
            checked ((not b, 25) ∷ (not (first_settled (map as_standing (drop (place_in sources slots id rows) rows))), 26) ∷ []) (response_at sources (place_in sources slots id rows) rows)
            ≡ elim b as (λ _. Answer Response) [ true ↦ first_shows (drop (place_in sources slots id rows) rows) | false ↦ refused 25 ]
        go true is =
            first_answer (drop (place_in sources slots id rows) rows) (identifier sources slots) id (response_at sources (place_in sources slots id rows) rows) is
            (stored_at sources [] (place_in sources slots id rows) rows good.stored)
        go false is = refl

    -- The reference model takes every use as the register does.
    pub step_is : (u : Use S) → reference_step sources places (map as_standing rows) u ≡ mapped_step as_standing (register_step sources places rows u)
    step_is (Enter row) =
        ap (changes (map as_standing rows)) (enter_mapped sources slots standings as_standing (λ _. refl) (λ _ _. refl) (λ _. refl) rows places row.source row.deadline)
        ∙ changes_mapped as_standing rows (enter_rows sources slots places row.source row.deadline rows)
    step_is (Amend row) =
        ap (changes (map as_standing rows)) (amend_mapped sources slots standings as_standing (λ _. refl) (λ _ _. refl) (λ _. refl) rows row.source row.deadline)
        ∙ changes_mapped as_standing rows (amend_rows sources slots row.source row.deadline rows)
    step_is (Withdraw id) =
        ap (changes (map as_standing rows)) (withdraw_mapped sources slots standings as_standing (λ _. refl) (λ _ _. refl) (λ _. refl) rows id)
        ∙ changes_mapped as_standing rows (withdraw_rows sources slots id rows)
    step_is (Settle id) = ap (changes (map as_standing rows)) (settle_mapped id) ∙ changes_mapped as_standing rows (settle_slots sources id rows)
    step_is (LookUp id) = ap (shows (map as_standing rows)) (look_up_is id) ∙ shows_mapped as_standing rows (look_up_slots sources id rows)

  module _ (places : ℕ) where
    replies_from : (uses : List (Use S)) (rows : List (Slot S)) → Good sources places rows →
        replies sources standings (settle_standing sources) (look_up_standing sources) places (map as_standing rows) uses ≡ register_replies sources places rows uses
    replies_from [] rows good = refl
    replies_from (u ∷ us) rows good =
        ap (λ s. s.reply ∷ replies sources standings (settle_standing sources) (look_up_standing sources) places s.rows us) (step_is places rows good u)
        ∙ ap (λ rs. (register_step sources places rows u).reply ∷ rs) (replies_from us (register_step sources places rows u).rows (good_step sources places rows good u))

    after_from : (uses : List (Use S)) (rows : List (Slot S)) → Good sources places rows →
        rows_after sources standings (settle_standing sources) (look_up_standing sources) places (map as_standing rows) uses ≡ map as_standing (register_after sources places rows uses)
    after_from [] rows good = refl
    after_from (u ∷ us) rows good =
        ap (λ s. rows_after sources standings (settle_standing sources) (look_up_standing sources) places s.rows us) (step_is places rows good u)
        ∙ after_from us (register_step sources places rows u).rows (good_step sources places rows good u)

    -- Whatever the uses, the register replies as the reference model does.
    pub replies_are : (uses : List (Use S)) → register_replies sources places [] uses ≡ reference_replies sources places uses
    replies_are uses = sym (replies_from uses [] (good_empty sources places))

    -- Whatever the uses, the reference model has the rows of the register.
    pub after_is : (uses : List (Use S)) → reference_after sources places uses ≡ map as_standing (register_after sources places [] uses)
    after_is uses = after_from uses [] (good_empty sources places)
