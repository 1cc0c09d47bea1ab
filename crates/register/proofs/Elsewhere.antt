-- Rows that are entered in whichever order and settled in whichever order show the same. Assumes nothing.
use Rattle.std.proofs.Common.{◌≡◌, ℕ, suc, ◌+◌, ◌<◌, ◌≤◌, Bool, true, false, ◌||◌, ltb, leb, List, [], ◌∷◌, ◌++◌, map, length, take, drop, sym, refl, ap, ◌∙◌, subst, ap₂, arith}
use mathlib.Core.List.{map-append}
use lib.ListN.{length-map}
use Rattle.std.specs.List.{AllByRecursion as All}
use Rattle.std.proofs.lemmas.List.{take-map, drop-map}
use Rattle.std.proofs.ByRecursion.{All-map, all_shuffled}
use Rattle.std.proofs.lemmas.List.Sorted.{IsPermutation-sym, length_permutation}
use Rattle.std.proofs.lemmas.Bool.{le-ltb, lt-leb, or_from}
use Rattle.sources.specs.Models.{Meanings}
use Rattle.sources.specs.Answers.{made, outside}
use Rattle.sources.proofs.AnswerChecks.{checked_made, inside}
use Rattle.response.specs.declared.listed.Row.{Row}
use Rattle.response.specs.Searches.{horizon}
use Rattle.register.specs.declared.slot.Slot.{Slot}
use Rattle.register.specs.declared.uses.Use.{Use}
use Rattle.register.specs.declared.uses.Use.TheVariants.{Enter, Settle}
use Rattle.register.specs.Tables.{has}
use Rattle.register.specs.Calls.{identifier, frame, place_in, is_in, become}
use Rattle.register.specs.Slots.{slots, look_up_slots}
use Rattle.register.specs.Steps.{changes, register_step, register_after}
use Rattle.register.specs.Promises.{SameElsewhere}
use Rattle.register.proofs.TableLaws.{Rises, same_has, same_rises, changed_keeps}
use Rattle.register.specs.Calls.{enter_checks}
use Rattle.register.proofs.Invariant.{InRange, Good, good_empty, good_after}
use Rattle.register.proofs.ReferenceLaws.{rows_pass}
use Rattle.register.proofs.ShownLaws.{shown_in, shown_is}
use Rattle.register.proofs.OrderLaws.{Among, Only, all_placed, placed_all, length_placed, all_of_values, each_only, only_among, same_rising}
use Rattle.register.proofs.SettleLaws.{bare, name_of, names_bare, checked_next, checked_refused, all_settled, same_is_in, same_response, same_checks}

module _ {S : Type 0} (sources : Meanings S) where
  bare_rises : (rows : List (Slot S)) → Rises (identifier sources slots) rows → Rises (name_of sources) (bare rows)
  bare_rises rows = same_rises (identifier sources slots) (name_of sources) rows (bare rows) (names_bare sources rows)

  in_bare : (id : ℕ) (rows : List (Slot S)) → has (name_of sources) id (bare rows) ≡ is_in sources slots id rows
  in_bare id rows = sym (same_has (identifier sources slots) (name_of sources) rows (bare rows) (names_bare sources rows) id)

  bare_split : (m : ℕ) (s : Slot S) (rows : List (Slot S)) → bare (take m rows ++ s ∷ drop m rows) ≡ take m (bare rows) ++ s.row ∷ drop m (bare rows)
  bare_split m s rows =
      map-append (λ x. x.row) (take m rows) (s ∷ drop m rows)
      ∙ ap₂ (λ l h. l ++ s.row ∷ h) (sym (take-map (λ x. x.row) m rows)) (sym (drop-map (λ x. x.row) m rows))

  -- Rows after some were entered: those entered and those that stood, and no others.
  record Joined (entered : List (Row S)) (rows after : List (Slot S)) : Type 1 where
    among : (P : Row S → Type 0) → All P entered → All P (bare rows) → All P (bare after)
    both : (P : Row S → Type 0) → All P (bare after) → All P entered × All P (bare rows)
    long : length after ≤ length entered + length rows

  module _ (places : ℕ) (a : Row S) (rows : List (Slot S)) (fits : InRange sources a) where
    deadline_passes : outside 1 horizon a.deadline ≡ false
    deadline_passes = inside 1 horizon a.deadline fits.0 fits.1

    jitter_passes : ltb horizon (sources.jitter a.source) ≡ false
    jitter_passes = le-ltb horizon (sources.jitter a.source) fits.2

    -- A row of a new identifier, with room for it, is put at its place.
    enter_new : is_in sources slots (name_of sources a) rows ≡ false → length rows < places → length rows < 256 →
        bare (register_step sources places rows (Enter a)).rows
        ≡ take (place_in sources slots (name_of sources a) rows) (bare rows) ++ a ∷ drop (place_in sources slots (name_of sources a) rows) (bare rows)
    enter_new lacks room few =
        let m = place_in sources slots (name_of sources a) rows in
        let new : List (Slot S) = slots.fresh a.source a.deadline ∷ drop m rows in
        let full = or_from (leb 256 (length rows)) (leb places (length rows)) (lt-leb 256 (length rows) few) (lt-leb places (length rows) room) in
        ap (λ answer. bare (changes rows answer).rows)
        (checked_made (enter_checks sources slots places a.source a.deadline rows) (become sources slots m new rows)
        (deadline_passes, (jitter_passes, (lacks, (full, tt)))))
        ∙ changed_keeps (λ s. s.row) slots.unsettled (λ s. refl) (frame sources slots) m new rows
        ∙ bare_split m (slots.fresh a.source a.deadline) rows

    -- A row of an identifier that is taken changes nothing.
    enter_taken : is_in sources slots (name_of sources a) rows ≡ true → (register_step sources places rows (Enter a)).rows ≡ rows
    enter_taken taken =
        let full : List (Bool × ℕ) = (leb 256 (length rows) || leb places (length rows), 24) ∷ [] in
        let held : List (Bool × ℕ) = (is_in sources slots (name_of sources a) rows, 23) ∷ full in
        ap (λ answer. (changes rows answer).rows)
        (checked_next (outside 1 horizon a.deadline) 21 ((ltb horizon (sources.jitter a.source), 22) ∷ held) _ deadline_passes
        ∙ checked_next (ltb horizon (sources.jitter a.source)) 22 held _ jitter_passes
        ∙ checked_refused (is_in sources slots (name_of sources a) rows) 23 full _ taken)

    -- A row that is entered stands among the others, if it is the only one with its identifier and there is room.
    one_joined : Only (name_of sources) (bare rows) a → length rows < places → length rows < 256 →
        Joined (a ∷ []) rows (register_step sources places rows (Enter a)).rows
    one_joined only room few = go (is_in sources slots (name_of sources a) rows) refl
      where
        go : (b : Bool) → is_in sources slots (name_of sources a) rows ≡ b → Joined (a ∷ []) rows (register_step sources places rows (Enter a)).rows
        go true taken =
            subst (Joined (a ∷ []) rows) (sym (enter_taken taken)) (record {
              among = λ P of_a all. all;
              both = λ P all. ((only_among (name_of sources) a (bare rows) only (in_bare (name_of sources a) rows ∙ taken) P all, tt), all);
              long = omega arith;
            })
        go false lacks =
            let m = place_in sources slots (name_of sources a) rows in
            record {
              among = λ P of_a all. subst (All P) (sym (enter_new lacks room few)) (all_placed P m a (bare rows) of_a.0 all);
              both = λ P all.
                  let parts = placed_all P m a (bare rows) (subst (All P) (enter_new lacks room few) all) in
                  ((parts.0, tt), parts.1);
              long =
                  let after : List (Slot S) = (register_step sources places rows (Enter a)).rows in
                  let same : length (bare after) ≡ suc (length (bare rows)) = ap length (enter_new lacks room few) ∙ length_placed m a (bare rows) in
                  omega (arith, length-map after (λ s. s.row), length-map rows (λ s. s.row));
            }

  -- Rows of which no two have one identifier can be entered in any order, where there is room for all.
  all_joined : (places : ℕ) (base : List (Row S)) → Rises (name_of sources) base → (os : List (Row S)) (rows : List (Slot S)) →
      Among os base → Among (bare rows) base → All (InRange sources) os → length os + length rows ≤ places → length os + length rows ≤ 256 →
      Joined os rows (register_after sources places rows (map Enter os))
  all_joined places base rises [] rows of_os of_rows fits room few = record { among = λ P none all. all; both = λ P all. (tt, all); long = omega arith }
  all_joined places base rises (a ∷ os) rows of_os of_rows (first, later) room few =
      let name = name_of sources in
      let next : List (Slot S) = (register_step sources places rows (Enter a)).rows in
      let only = of_rows (λ c. name c ≡ name a → c ≡ a) (of_os (Only name base) (each_only name base rises)).0 in
      let one : Joined (a ∷ []) rows next = one_joined places a rows first only (omega arith) (omega arith) in
      let longer : length next ≤ suc (length rows) = omega (arith, one.long) in
      let rest = all_joined places base rises os next (λ P all. (of_os P all).1) (λ P all. one.among P ((of_os P all).0, tt) (of_rows P all)) later (omega arith) (omega arith) in
      record {
        among = λ P of_entered all. rest.among P of_entered.1 (one.among P (of_entered.0, tt) all);
        both = λ P all.
            let parts = rest.both P all in
            let lower = one.both P parts.1 in
            ((lower.0.0, parts.0), lower.1);
        long = omega (arith, rest.long);
      }

  -- The rows after uses and further uses are those after the further uses of the rows after the first.
  after_both : (places : ℕ) (rows : List (Slot S)) (us vs : List (Use S)) →
      register_after sources places rows (us ++ vs) ≡ register_after sources places (register_after sources places rows us) vs
  after_both places rows [] vs = refl
  after_both places rows (u ∷ us) vs = after_both places (register_step sources places rows u).rows us vs

  -- What good rows show, any other register with places enough shows too, once the rows are entered there and settled.
  pub same_elsewhere : (places : ℕ) (rows : List (Slot S)) → Good sources places rows → SameElsewhere sources rows
  same_elsewhere places rows good others enough order shuffled settles covers id r shows =
      let name = name_of sources in
      let base : List (Row S) = bare rows in
      let within : (P : Row S → Type 0) → All P base → All P order = λ P all. all_shuffled P base order shuffled all in
      let fits = All-map (InRange sources) (λ s. s.row) rows (all_of_values (λ s. s.row) (InRange sources) rows good.in_range) in
      let long : length order ≡ length rows = length_permutation base order shuffled ∙ length-map rows (λ s. s.row) in
      let few : length rows ≤ 256 = good.few in
      let start : List (Slot S) = register_after sources others [] (map Enter order) in
      let joined : Joined order [] start =
      all_joined others base (bare_rises rows good.rises) order [] within (λ P all. tt) (within (InRange sources) fits) (omega arith) (omega arith) in
      let started : bare start ≡ base =
      same_rising name (bare start) base (bare_rises start (good_after sources others (map Enter order) [] (good_empty sources others)).rises)
      (bare_rises rows good.rises) (λ P all. joined.among P (within P all) tt)
      (λ P all. all_shuffled P order base (IsPermutation-sym base order shuffled) (joined.both P all).0) in
      let ends = all_settled sources others settles start (same_checks sources rows start (sym started) (rows_pass sources rows good.in_range)) in
      let end : List (Slot S) = register_after sources others start (map Settle settles) in
      let present = (shown_in sources rows id r shows).0 in
      ap (look_up_slots sources id) (after_both others [] (map Enter order) (map Settle settles))
      ∙ ends.here id (covers id present) (same_is_in sources start rows started id ∙ present)
      ∙ ap made (same_response sources end rows (ends.keeps ∙ started) id ∙ shown_is sources places rows good id r shows)
