-- Unsettling rows: all of them from the first on, and those above a change from the last on. Assumes nothing.
use Rattle.std.proofs.Common.{◌≡◌, ℕ, suc, ◌+◌, ◌-◌, ◌<◌, ◌≤◌, max, List, [], ◌∷◌, ◌++◌, map, length, get_or, take, drop, set, sym, refl, ap, ◌∙◌, ap₂, arith}
use Rattle.std.proofs.lemmas.List.{append_assoc, length-map, length-take-le, set_at, get_or_at, take_more, drop_more, drop_all, take-append-drop, drop-drop, drop_at, take_at, map_push, get_or_default}
use Rattle.register.specs.Tables.{longest, unsettle_by, unsettle_above}

-- Unsettling keeps the number of rows.
pub length_unsettle : {A : Type 0} (frame : A → ℕ) (unsettled : A → A) (rows : List A) (before after : ℕ) → length (unsettle_above frame unsettled rows before after) ≡ length rows
length_unsettle frame unsettled [] before after = refl
length_unsettle frame unsettled (a ∷ rows) before after = ap suc (length_unsettle frame unsettled rows before after)

-- Memory whose first rows are others of the same number, from an end on.
pub drop_past : {A : Type 0} (u e : List A) (place end : ℕ) → length u ≡ place → place ≤ end → drop end (u ++ drop place e) ≡ drop end e
drop_past u e place end count l =
    let there : place + (end - place) ≡ end = omega arith in
    ap (λ n. drop n (u ++ drop place e)) (sym there) ∙ sym (drop-drop (end - place) place (u ++ drop place e))
    ∙ ap (drop (end - place)) (drop_at u (drop place e) place count) ∙ drop-drop (end - place) place e ∙ ap (λ n. drop n e) there

module _ {A : Type 0} (frame : A → ℕ) (unsettled : A → A) (e : List A) (place before after : ℕ) where
  -- Before any row above the place is done, all is as it was.
  pub none_done : place ≤ length e → e ≡ take place e ++ (unsettle_above frame unsettled (drop place (take place e)) before after ++ drop place e)
  none_done l =
      let none : drop place (take place e) ≡ [] = drop_all place (take place e) (omega (arith, length-take-le place e l)) in
      sym (ap (λ xs. take place e ++ (unsettle_above frame unsettled xs before after ++ drop place e)) none ∙ take-append-drop place e)

  -- Between those rows and the place there is none.
  pub longest_none : place ≤ length e → longest frame (drop place (take place e)) ≡ 0
  longest_none l = ap (longest frame) (drop_all place (take place e) (omega (arith, length-take-le place e l)))

  abbrev done_above : List A
  done_above = unsettle_above frame unsettled (take place e) before after

  -- Those above are done, and then those from the place up to an end are unsettled.
  pub above_then_from : (end : ℕ) → length (take place e) ≡ place → place ≤ end →
      take place (done_above ++ drop place e) ++ (map unsettled (take (end - place) (drop place (done_above ++ drop place e))) ++ drop end (done_above ++ drop place e))
      ≡ done_above ++ (map unsettled (take (end - place) (drop place e)) ++ drop end e)
  above_then_from end inside l =
      let count : length done_above ≡ place = length_unsettle frame unsettled (take place e) before after ∙ inside in
      ap₂ (λ u d. u ++ (map unsettled (take (end - place) d) ++ drop end (done_above ++ drop place e))) (take_at done_above (drop place e) place count) (drop_at done_above (drop place e) place count)
      ∙ ap (λ d. done_above ++ (map unsettled (take (end - place) (drop place e)) ++ d)) (drop_past done_above e place end count l)

-- The next row's value is written, where those of the rows before it are.
pub mapped_next : {A B : Type 0} (f : A → B) (rows : List A) (list now : List B) (i : ℕ) (x : A) (y : B) → i < length rows → i < length list →
    now ≡ map f (take i rows) ++ drop i list → x ≡ get_or rows i x → y ≡ f x → set now i y ≡ map f (take (i + 1) rows) ++ drop (i + 1) list
mapped_next {A} {B} f rows list now i x y inside room was at is =
    let front : List B = map f (take i rows) in
    let rest : List B = drop (i + 1) list in
    let count : length front ≡ i = length-map (take i rows) f ∙ length-take-le i rows (omega arith) in
    ap (λ ys. set ys i y) (was ∙ ap (λ ys. front ++ ys) (drop_more list i y room)) ∙ set_at front (get_or list i y) rest y i count
    ∙ ap (λ z. front ++ (z ∷ rest)) (is ∙ ap f at)
    ∙ sym (append_assoc front (f (get_or rows i x) ∷ []) rest)
    ∙ ap (λ ys. ys ++ rest) (sym (ap (map f) (take_more rows i x inside) ∙ map_push f (take i rows) (get_or rows i x)))

-- The next row is changed, where those before it are.
pub changed_next : {A : Type 0} (f : A → A) (rows now : List A) (i : ℕ) (x y : A) → i < length rows → now ≡ map f (take i rows) ++ drop i rows → y ≡ f (get_or now i x) →
    set now i y ≡ map f (take (i + 1) rows) ++ drop (i + 1) rows
changed_next {A} f rows now i x y inside was is =
    let front : List A = map f (take i rows) in
    let count : length front ≡ i = length-map (take i rows) f ∙ length-take-le i rows (omega arith) in
    let same : get_or now i x ≡ get_or rows i x =
    ap (λ xs. get_or xs i x) (was ∙ ap (λ xs. front ++ xs) (drop_more rows i x inside)) ∙ get_or_at front (get_or rows i x) (drop (i + 1) rows) x i count in
    mapped_next f rows rows now i (get_or rows i x) y inside inside was (get_or_default rows i x (get_or rows i x) inside) (is ∙ ap f same)

module _ {A : Type 0} (frame : A → ℕ) (unsettled : A → A) (e : List A) (before after : ℕ) where
  -- The rows from row i on are done.
  abbrev pub done_from : ℕ → List A
  done_from i = take i e ++ unsettle_above frame unsettled (drop i e) before after

  module _ (j : ℕ) (inside : j < length e) where
    abbrev later : List A
    later = unsettle_above frame unsettled (drop (j + 1) e) before after

    split : (d : A) → done_from (j + 1) ≡ take j e ++ (get_or e j d ∷ later)
    split d = ap (λ xs. xs ++ later) (take_more e j d inside) ∙ append_assoc (take j e) (get_or e j d ∷ []) later

    -- The next row is as it was.
    pub not_done_yet : (d : A) → get_or (done_from (j + 1)) j d ≡ get_or e j d
    not_done_yet d = ap (λ xs. get_or xs j d) (split d) ∙ get_or_at (take j e) (get_or e j d) later d j (length-take-le j e (omega arith))

    module _ (a : A) (is : a ≡ get_or e j a) where
      next_row : drop j e ≡ a ∷ drop (j + 1) e
      next_row = drop_more e j a inside ∙ ap (λ x. x ∷ drop (j + 1) e) (sym is)

      -- The next row, by the longest frame below it.
      pub judged : set (done_from (j + 1)) j (unsettle_by unsettled (max (longest frame (drop (j + 1) e)) before) (max (longest frame (drop (j + 1) e)) after) a) ≡ done_from j
      judged =
          let x : A = unsettle_by unsettled (max (longest frame (drop (j + 1) e)) before) (max (longest frame (drop (j + 1) e)) after) a in
          ap (λ xs. set xs j x) (split a ∙ ap (λ y. take j e ++ (y ∷ later)) (sym is))
          ∙ set_at (take j e) a later x j (length-take-le j e (omega arith))
          ∙ ap (λ xs. take j e ++ unsettle_above frame unsettled xs before after) (sym next_row)

      pub longest_next : longest frame (drop j e) ≡ max (frame a) (longest frame (drop (j + 1) e))
      longest_next = ap (longest frame) next_row
