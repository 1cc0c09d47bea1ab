-- The rows within memory, and memory after a change of rows. Assumes nothing.
use Rattle.std.proofs.Common.{◌≡◌, ℕ, suc, ◌+◌, ◌-◌, ◌<◌, ◌≤◌, true, List, [], ◌∷◌, ◌++◌, map, length, get_or, take, drop, None, sym, refl, ap, ◌∙◌, ap₂, ⊎_elim, true≢false, add-one, arith}
use Rattle.std.proofs.lemmas.List.{append_assoc, length-append, length-map, length-take, length-take-le, length-drop, take-take, get_or-take, take-append-drop, drop-drop}
-- Taking no more than there is: the library's lemma.
pub use Rattle.std.proofs.lemmas.List.{take_min}
use Rattle.std.proofs.lemmas.Bool.{cases_lt}
use Rattle.register.specs.declared.slot.Slot.{Slot}
use Rattle.register.specs.Tables.{starts_with, longest, unsettle_above, change_at, on_first}
use Rattle.register.specs.Calls.{frame, become}
use Rattle.register.specs.Slots.{slots, with_outcome, Memory, lent, standing, laid}
use Rattle.register.proofs.FindLaws.{starts_none}
use Rattle.register.proofs.UnsettleLaws.{length_unsettle}
use Rattle.register.proofs.MoveLaws.{back_is}
use Rattle.sources.specs.Models.{Meanings}

-- The rows, by their number.
pub rows_by_count : {A : Type 0} (used count : ℕ) (e : List A) → count ≡ length (take used e) → take count e ≡ take used e
rows_by_count used count e is = ap (λ n. take n e) (is ∙ length-take used e) ∙ take_min used e

-- A row that has the key stands before the end.
pub stands_within : {A : Type 0} (key : A → ℕ) (k : ℕ) (rows : List A) (i : ℕ) → starts_with key k (drop i rows) ≡ true → i < length rows
stands_within key k rows i e =
    ⊎_elim (λ l. l) (λ past. absurd (true≢false (sym e ∙ starts_none key k rows i past))) (cases_lt i (length rows))

-- What follows the rows in memory.
pub rows_then_rest : {A : Type 0} (count place : ℕ) (e : List A) → place ≤ count → take (count - place) (drop place e) ++ drop count e ≡ drop place e
rows_then_rest count place e l =
    let there : place + (count - place) ≡ count = omega arith in
    ap (λ xs. take (count - place) (drop place e) ++ xs) (ap (λ n. drop n e) (sym there) ∙ sym (drop-drop (count - place) place e)) ∙ take-append-drop (count - place) (drop place e)

-- Rows of which one was changed are as many as before.
pub change_length : {A : Type 0} (place : ℕ) (f : A → A) (rows : List A) → length (change_at place f rows) ≡ length rows
change_length {A} place f rows =
    length-append (take place rows) (on_first f (drop place rows)) ∙ ap (λ n. length (take place rows) + n) (on_first_length (drop place rows))
    ∙ sym (length-append (take place rows) (drop place rows)) ∙ ap length (take-append-drop place rows)
  where
    on_first_length : (after : List A) → length (on_first f after) ≡ length after
    on_first_length [] = refl
    on_first_length (a ∷ after) = refl

module _ {S : Type 0} (sources : Meanings S) where
  abbrev slot_frame : Slot S → ℕ
  slot_frame = frame sources slots

  -- Rows that become others from a place on are those above it and the new ones.
  pub become_length : (place : ℕ) (after rows : List (Slot S)) → length (become sources slots place after rows) ≡ length (take place rows) + length after
  become_length place after rows =
      length-append (unsettle_above slot_frame (with_outcome None) (take place rows) (longest slot_frame (drop place rows)) (longest slot_frame after)) (map (with_outcome None) after)
      ∙ ap₂ (λ a b. a + b) (length_unsettle slot_frame (with_outcome None) (take place rows) (longest slot_frame (drop place rows)) (longest slot_frame after)) (length-map after (with_outcome None))

module _ {S : Type 0} (sources : Meanings S) (memory : Memory S) (count place : ℕ) (count_is : count ≡ length (standing memory)) where
  abbrev rows : List (Slot S)
  rows = standing memory

  -- The rows, by their number.
  abbrev pub front : List (Slot S)
  front = take count memory.places

  front_is : front ≡ rows
  front_is = rows_by_count memory.used count memory.places count_is

  pub few : count ≤ length memory.places
  few = omega (arith, count_is, length-take memory.used memory.places)

  -- Memory whose first places are other rows, as many as are counted.
  laid_so : (new : List (Slot S)) (n : ℕ) → length new ≡ n → lent (new ++ drop n memory.places) n ≡ laid memory new
  laid_so new n is = ap (λ k. lent (new ++ drop k memory.places) k) (sym is)

  module _ (after : List (Slot S)) (n : ℕ) (in_rows : place ≤ count) (many : place + length after ≡ n) where
    become_many : length (become sources slots place after rows) ≡ n
    become_many = omega (arith, become_length sources place after rows, length-take-le place rows (omega (arith, count_is)))

    become_laid : lent (become sources slots place after rows ++ drop n memory.places) n ≡ laid memory (become sources slots place after rows)
    become_laid = laid_so (become sources slots place after rows) n become_many

  -- Memory after a row was put in at a place, over the first place past the rows.
  pub entered : (slot : Slot S) → place ≤ count → count < length memory.places →
      lent (become sources slots place (slot ∷ drop place (take (length (take (count + 1) memory.places) - 1) (take (count + 1) memory.places))) (take (length (take (count + 1) memory.places) - 1) (take (count + 1) memory.places)) ++ drop (count + 1) memory.places) (count + 1)
      ≡ laid memory (become sources slots place (slot ∷ drop place rows) rows)
  entered slot in_rows room =
      let shorter : length (take (count + 1) memory.places) - 1 ≡ count = omega (arith, length-take-le (count + 1) memory.places (omega arith)) in
      let old : take (length (take (count + 1) memory.places) - 1) (take (count + 1) memory.places) ≡ rows =
      ap (λ n. take n (take (count + 1) memory.places)) shorter ∙ take-take count (count + 1) memory.places (omega arith) ∙ front_is in
      ap (λ rs. lent (become sources slots place (slot ∷ drop place rs) rs ++ drop (count + 1) memory.places) (count + 1)) old
      ∙ become_laid (slot ∷ drop place rows) (count + 1) in_rows (omega (arith, length-drop place rows, count_is))

  module _ (on_a_row : place < count) where
    -- Memory after the row at a place was replaced.
    pub replaced : (slot : Slot S) → lent (become sources slots place (slot ∷ drop (place + 1) front) front ++ drop count memory.places) count
        ≡ laid memory (become sources slots place (slot ∷ drop (suc place) rows) rows)
    replaced slot =
        ap₂ (λ rs n. lent (become sources slots place (slot ∷ drop n rs) rs ++ drop count memory.places) count) front_is (add-one place)
        ∙ become_laid (slot ∷ drop (suc place) rows) count (omega arith) (omega (arith, length-drop (suc place) rows, count_is))

    -- Memory after the row at a place was taken out.
    pub withdrawn : lent ((become sources slots place (drop (place + 1) front) front ++ drop (length front - 1) front) ++ drop count memory.places) (count - 1)
        ≡ laid memory (become sources slots place (drop (suc place) rows) rows)
    withdrawn =
        let last : length front - 1 ≡ count - 1 = ap (λ n. n - 1) (length-take-le count memory.places few) in
        let rest : drop (count - 1) front ++ drop count memory.places ≡ drop (count - 1) memory.places =
        ap (λ xs. xs ++ drop count memory.places) (back_is count (count - 1) memory.places (omega arith)) ∙ rows_then_rest count (count - 1) memory.places (omega arith) in
        let new : List (Slot S) = become sources slots place (drop (place + 1) front) front in
        ap (λ n. lent ((new ++ drop n front) ++ drop count memory.places) (count - 1)) last
        ∙ ap (λ xs. lent xs (count - 1)) (append_assoc new (drop (count - 1) front) (drop count memory.places) ∙ ap (λ xs. new ++ xs) rest)
        ∙ ap₂ (λ rs n. lent (become sources slots place (drop n rs) rs ++ drop (count - 1) memory.places) (count - 1)) front_is (add-one place)
        ∙ become_laid (drop (suc place) rows) (count - 1) (omega arith) (omega (arith, length-drop (suc place) rows, count_is))

    -- Memory after the row at a place was changed.
    pub changed : (f : Slot S → Slot S) → lent (change_at place f front ++ drop count memory.places) count ≡ laid memory (change_at place f rows)
    changed f =
        ap (λ rs. lent (change_at place f rs ++ drop count memory.places) count) front_is
        ∙ laid_so (change_at place f rows) count (change_length place f rows ∙ sym count_is)

module _ {S : Type 0} (sources : Meanings S) (e : List (Slot S)) (used count place : ℕ)
    (count_is : count ≡ length (take used e)) (in_memory : count ≤ length e) (in_rows : place ≤ count) (on_a_row : place < count) (x : Slot S) (is : x ≡ get_or e place x) where
  -- The row at a place, among the rows.
  pub row_is : x ≡ get_or (take used e) place x
  row_is = is ∙ sym (get_or-take count e place x on_a_row) ∙ ap (λ rs. get_or rs place x) (rows_by_count used count e count_is)
