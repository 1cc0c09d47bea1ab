-- A row above a change still shows what it showed exactly when the longest frame below it is the same. Assumes nothing.
use Rattle.std.proofs.Common.{◌≡◌, ℕ, suc, ◌<◌, ◌≤◌, max, Bool, true, false, eqb, ◌↔◌, List, [], ◌∷◌, ◌++◌, map, length, take, drop, None, sym, refl, ap, ◌∙◌, subst, ⊎_elim, arith}
use Rattle.std.proofs.lemmas.List.{take-append-drop, length-take-le}
use Rattle.std.proofs.lemmas.Bool.{eqb-true, eqb-false, cases_lt}
use Rattle.sources.specs.Models.{Meanings}
use Rattle.sources.specs.Answers.{Answer, made, refused, checked}
use Rattle.response.specs.Bounds.{Response}
use Rattle.register.specs.declared.slot.Slot.{Slot}
use Rattle.register.specs.declared.uses.Use.TheVariants.{Enter, Amend, Withdraw, Settle, LookUp}
use Rattle.register.specs.Tables.{starts_with, longest, unsettle_above}
use Rattle.register.specs.Calls.{identifier, frame, place_in, become, enter_checks, amend_checks, withdraw_checks}
use Rattle.register.specs.Slots.{slots, with_outcome, first_shows, look_up_slots}
use Rattle.register.specs.Steps.{done, changes}
use Rattle.register.specs.Promises.{Shows, longest_below, KeptExactly}
use Rattle.register.proofs.TableLaws.{place_pass, place_stop, place_lower, place_within, either_keeps, longest_append, longest_changed}
use Rattle.register.proofs.CallLaws.{checked_cases}
use Rattle.register.proofs.ShownLaws.{shown_in}

module _ {S : Type 0} (sources : Meanings S) where
  -- The identifier and the longest frame of a slot.
  abbrev slot_key : Slot S → ℕ
  slot_key = identifier sources slots

  abbrev slot_frame : Slot S → ℕ
  slot_frame = frame sources slots

  -- A row shows a response after a change exactly when the longest frame below it is the same.
  abbrev Kept : ℕ → Response → List (Slot S) → List (Slot S) → Type 0
  Kept id r old new = Shows sources new id r ↔ (longest_below sources new id ≡ longest_below sources old id)

module _ {S : Type 0} (sources : Meanings S) (id : ℕ) where
  -- What is looked up, and the longest frame below it, where the first row is passed and where it is not.
  module _ (s : Slot S) (rest : List (Slot S)) where
    look_pass : slot_key sources s < id → look_up_slots sources id (s ∷ rest) ≡ look_up_slots sources id rest
    look_pass l =
        ap
        (λ n.
        elim (starts_with (slot_key sources) id (drop n (s ∷ rest))) as (λ _. Answer Response)
        [ true ↦ first_shows (drop n (s ∷ rest)) | false ↦ refused 25 ])
        (place_pass (slot_key sources) id s rest l)

    look_stop : id ≤ slot_key sources s →
        look_up_slots sources id (s ∷ rest) ≡ elim (eqb (slot_key sources s) id) as (λ _. Answer Response) [ true ↦ first_shows (s ∷ rest) | false ↦ refused 25 ]
    look_stop h =
        ap
        (λ n.
        elim (starts_with (slot_key sources) id (drop n (s ∷ rest))) as (λ _. Answer Response)
        [ true ↦ first_shows (drop n (s ∷ rest)) | false ↦ refused 25 ])
        (place_stop (slot_key sources) id s rest h)

    below_pass : slot_key sources s < id → longest_below sources (s ∷ rest) id ≡ longest_below sources rest id
    below_pass l = ap (λ n. longest (slot_frame sources) (drop (suc n) (s ∷ rest))) (place_pass (slot_key sources) id s rest l)

    below_stop : id ≤ slot_key sources s → longest_below sources (s ∷ rest) id ≡ longest (slot_frame sources) rest
    below_stop h = ap (λ n. longest (slot_frame sources) (drop (suc n) (s ∷ rest))) (place_stop (slot_key sources) id s rest h)

  module _ (r : Response) (bottom after : List (Slot S)) where
    -- The rows above a change and below it, after it.
    abbrev changed : List (Slot S) → List (Slot S)
    changed top =
        unsettle_above (slot_frame sources) (with_outcome None) top (longest (slot_frame sources) bottom) (longest (slot_frame sources) after)
        ++ map (with_outcome None) after

    -- The longest frame of the rows from a row above the change on is the same after it.
    abbrev unchanged : List (Slot S) → Bool
    unchanged top =
        eqb (max (longest (slot_frame sources) top) (longest (slot_frame sources) bottom))
        (max (longest (slot_frame sources) top) (longest (slot_frame sources) after))

    passed : (s t : Slot S) (old new : List (Slot S)) → slot_key sources s < id → slot_key sources t < id →
        Kept sources id r old new → Kept sources id r (s ∷ old) (t ∷ new)
    passed s t old new l m kept = (
      λ shown. below_pass t new m ∙ kept.0 (sym (look_pass t new m) ∙ shown) ∙ sym (below_pass s old l),
      λ same. look_pass t new m ∙ kept.1 (sym (below_pass t new m) ∙ same ∙ below_pass s old l),
    )

    stopped : (s : Slot S) (top : List (Slot S)) (b : Bool) → unchanged top ≡ b → id ≤ slot_key sources s → Shows sources (s ∷ (top ++ bottom)) id r →
        Kept sources id r (s ∷ (top ++ bottom)) (elim b as (λ _. Slot S) [ true ↦ s | false ↦ with_outcome None s ] ∷ changed top)
    stopped s top true e h shown = (
      λ _.
          below_stop s (changed top) h
          ∙ longest_changed (slot_frame sources) (with_outcome None) (λ _. refl) top after (longest (slot_frame sources) bottom) (longest (slot_frame sources) after)
          ∙ sym (eqb-true _ _ e) ∙ sym (longest_append (slot_frame sources) top bottom) ∙ sym (below_stop s (top ++ bottom) h),
      λ _. look_stop s (changed top) h ∙ sym (look_stop s (top ++ bottom) h) ∙ shown,
    )
    stopped s top false e h shown = (
      λ shows. absurd (never (eqb (slot_key sources s) id) (sym (look_stop (with_outcome None s) (changed top) h) ∙ shows)),
      λ same.
          absurd
          (eqb-false _ _ e
          (sym (longest_append (slot_frame sources) top bottom) ∙ sym (below_stop s (top ++ bottom) h) ∙ sym same ∙ below_stop (with_outcome None s) (changed top) h
          ∙ longest_changed (slot_frame sources) (with_outcome None) (λ _. refl) top after (longest (slot_frame sources) bottom) (longest (slot_frame sources) after))),
    )
      where
        never : (b : Bool) → elim b as (λ _. Answer Response) [ true ↦ refused 26 | false ↦ refused 25 ] ≡ made r → ⊥
        never true e = let z : ◌≡◌ {A = ℕ} 0 1 = cc in omega arith
        never false e = let z : ◌≡◌ {A = ℕ} 0 1 = cc in omega arith

    -- A row above a change still shows what it showed exactly when the longest frame below it is the same.
    pub kept_above : (top : List (Slot S)) → place_in sources slots id (top ++ bottom) < length top → Shows sources (top ++ bottom) id r →
        Kept sources id r (top ++ bottom) (changed top)
    kept_above [] inside shown = absurd (omega arith)
    kept_above (s ∷ top) inside shown =
        ⊎_elim
        (λ l.
        passed s _ (top ++ bottom) (changed top) l
        (omega (arith, either_keeps (slot_key sources) (with_outcome None) (λ _. refl) (unchanged top) s))
        (kept_above top (omega (arith, place_pass (slot_key sources) id s (top ++ bottom) l)) (sym (look_pass s (top ++ bottom) l) ∙ shown)))
        (λ h. stopped s top _ refl h shown)
        (cases_lt (slot_key sources s) id)

module _ {S : Type 0} (sources : Meanings S) where
  -- So does a row above the place at which rows become others.
  pub kept_become : (rows after : List (Slot S)) (touched id : ℕ) (r : Response) → id < touched → Shows sources rows id r →
      Kept sources id r rows (become sources slots (place_in sources slots touched rows) after rows)
  kept_become rows after touched id r l shown =
      let c : ℕ = place_in sources slots touched rows in
      let whole : take c rows ++ drop c rows ≡ rows = take-append-drop c rows in
      let inside : place_in sources slots id (take c rows ++ drop c rows) < length (take c rows) =
      omega (
        arith,
        ap (place_in sources slots id) whole,
        place_lower (slot_key sources) id touched rows l (shown_in sources rows id r shown).0,
        length-take-le c rows (place_within (slot_key sources) touched rows),
      ) in
      subst (λ old. Kept sources id r old (become sources slots c after rows)) whole
      (kept_above sources id r (drop c rows) after (take c rows) inside (subst (λ old. Shows sources old id r) (sym whole) shown))

  -- So it is where the call is accepted.
  kept_call : (rows after : List (Slot S)) (cs : List (Bool × ℕ)) (touched id : ℕ) (r : Response) → id < touched → Shows sources rows id r →
      (changes rows (checked cs (become sources slots (place_in sources slots touched rows) after rows))).reply ≡ done →
      Kept sources id r rows (changes rows (checked cs (become sources slots (place_in sources slots touched rows) after rows))).rows
  kept_call rows after cs touched id r l shown =
      checked_cases (λ a. (changes rows a).reply ≡ done → Kept sources id r rows (changes rows a).rows) cs _
      (λ _ _. kept_become rows after touched id r l shown)
      (λ n e. let z : ◌≡◌ {A = ℕ} 0 1 = cc in absurd (omega arith))

  -- A higher-priority row still shows what it showed exactly when the longest frame below it is the same.
  pub kept_exactly : (places : ℕ) (rows : List (Slot S)) → KeptExactly sources places rows
  kept_exactly places rows (Enter row) touched is accepted id l r shown =
      let place : ℕ = place_in sources slots (sources.identifier row.source) rows in
      kept_call rows (slots.fresh row.source row.deadline ∷ drop place rows) (enter_checks sources slots places row.source row.deadline rows)
      (sources.identifier row.source) id r (omega arith) shown accepted
  kept_exactly places rows (Amend row) touched is accepted id l r shown =
      let place : ℕ = place_in sources slots (sources.identifier row.source) rows in
      kept_call rows (slots.fresh row.source row.deadline ∷ drop (suc place) rows) (amend_checks sources slots row.source row.deadline rows)
      (sources.identifier row.source) id r (omega arith) shown accepted
  kept_exactly places rows (Withdraw other) touched is accepted id l r shown =
      kept_call rows (drop (suc (place_in sources slots other rows)) rows) (withdraw_checks sources slots other rows) other id r (omega arith) shown accepted
  kept_exactly places rows (Settle other) touched is accepted id l r shown = absurd is
  kept_exactly places rows (LookUp other) touched is accepted id l r shown = absurd is
