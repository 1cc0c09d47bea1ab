-- Changes of rows, and what they unsettle. Assumes nothing.
use Rattle.std.proofs.Common.{◌≡◌, ℕ, suc, ◌+◌, ◌-◌, ◌<◌, List, ◌∷◌, ◌++◌, map, length, get_or, take, drop, set, sym, ap, ◌∙◌, ap₂, add-one, arith}
use Rattle.std.proofs.lemmas.List.{append_assoc, length-append, length-take-le, length-drop, take_all, take-take, take_at, drop_at, set_split, drop_more}
use Rattle.register.specs.Tables.{inserted, removed, longest, unsettle_above, unsettled_from, changed_from, change_at, on_first}
use Rattle.register.proofs.MoveLaws.{back_is}

module _ {A : Type 0} (frame : A → ℕ) (unsettled : A → A) where
  -- Rows of which those from a place on are new, where those above it are as many as they were.
  unsettled_joined : (top after : List A) (place before : ℕ) → length top ≡ place →
      unsettled_from frame unsettled place before (top ++ after) ≡ unsettle_above frame unsettled top before (longest frame after) ++ map unsettled after
  unsettled_joined top after place before is =
      ap₂ (λ t a. unsettle_above frame unsettled t before (longest frame a) ++ map unsettled a) (take_at top after place is) (drop_at top after place is)

  -- A row was put in at a place, over the last.
  pub put_in_is : (place before : ℕ) (row : A) (rows : List A) → place < length rows → before ≡ longest frame (take ((length rows - 1) - place) (drop place rows)) →
      unsettled_from frame unsettled place before (inserted place row rows)
      ≡ changed_from frame unsettled place (row ∷ drop place (take (length rows - 1) rows)) (take (length rows - 1) rows)
  put_in_is place before row rows inside is =
      let last : ℕ = length rows - 1 in
      let behind : drop place (take last rows) ≡ take (last - place) (drop place rows) = back_is last place rows (omega arith) in
      let moved : take (length rows - suc place) (drop place rows) ≡ drop place (take last rows) = ap (λ n. take n (drop place rows)) (omega arith) ∙ sym behind in
      unsettled_joined (take place rows) (row ∷ take (length rows - suc place) (drop place rows)) place before (length-take-le place rows (omega arith))
      ∙ ap (λ after. unsettle_above frame unsettled (take place rows) before (longest frame (row ∷ after)) ++ map unsettled (row ∷ after)) moved
      ∙ ap₂ (λ top n. unsettle_above frame unsettled top n (longest frame (row ∷ drop place (take last rows))) ++ map unsettled (row ∷ drop place (take last rows)))
      (sym (take-take place last rows (omega arith))) (is ∙ ap (longest frame) (sym behind))

  -- The row at a place was taken out.
  pub take_out_is : (place before : ℕ) (rows : List A) → place < length rows → before ≡ longest frame (take (length rows - place) (drop place rows)) →
      unsettled_from frame unsettled place before (take (length rows - 1) (removed place rows)) ++ drop (length rows - 1) (removed place rows)
      ≡ changed_from frame unsettled place (drop (place + 1) rows) rows ++ drop (length rows - 1) rows
  take_out_is place before rows inside is =
      let last : ℕ = length rows - 1 in
      let below : List A = drop (suc place) rows in
      let front : List A = take place rows ++ below in
      let many : length front ≡ last = length-append (take place rows) below ∙ omega (arith, length-take-le place rows (omega arith), length-drop (suc place) rows) in
      let split : removed place rows ≡ front ++ drop last rows = sym (append_assoc (take place rows) below (drop last rows)) in
      let before_is : before ≡ longest frame (drop place rows) = is ∙ ap (longest frame) (take_all (length rows - place) (drop place rows) (omega (arith, length-drop place rows))) in
      ap₂ (λ a b. unsettled_from frame unsettled place before a ++ b) (ap (take last) split ∙ take_at front (drop last rows) last many) (ap (drop last) split ∙ drop_at front (drop last rows) last many)
      ∙ ap (λ a. a ++ drop last rows)
      (unsettled_joined (take place rows) below place before (length-take-le place rows (omega arith))
      ∙ ap (λ n. unsettle_above frame unsettled (take place rows) n (longest frame below) ++ map unsettled below) before_is)
      ∙ ap (λ n. changed_from frame unsettled place (drop n rows) rows ++ drop last rows) (sym (add-one place))

-- The row at a place was changed.
pub store_is : {A : Type 0} (change : A → A) (place : ℕ) (x y : A) (rows : List A) → place < length rows → x ≡ get_or rows place x → y ≡ change x → set rows place y ≡ change_at place change rows
store_is change place x y rows inside at is =
    set_split rows place y inside
    ∙ ap (λ b. take place rows ++ b)
    (ap₂ (λ a n. a ∷ drop n rows) (is ∙ ap change at) (sym (add-one place)) ∙ ap (on_first change) (sym (drop_more rows place x inside)))
