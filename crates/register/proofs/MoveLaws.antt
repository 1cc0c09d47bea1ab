-- Moving rows within memory. Assumes nothing.
use Rattle.std.proofs.Common.{◌≡◌, ℕ, suc, ◌+◌, ◌-◌, ◌*◌, ◌^◌, ◌<◌, ◌≤◌, List, [], ◌∷◌, ◌++◌, map, length, get_or, take, drop, set, sym, ap, ◌∙◌, ap₂, mul-le-mul_right, arith, w64, Fits}
use Rattle.std.proofs.lemmas.List.{append_assoc, length-append, length-take-le, set_at, take_more, drop_more, get_or-append_right, get_or-drop, length-drop, take-append-drop, get_or-map, append-nil, drop_all, drop-take}
use Rattle.std.specs.List.{copy_within}
use Rattle.register.specs.Tables.{inserted}

-- Rows from a place on, moved down by one, with a row written at the place.
pub moved_down : {A : Type 0} (place last : ℕ) (row : A) (rows : List A) → place < length rows → last + 1 ≡ length rows →
    set (copy_within rows place last (place + 1)) place row ≡ inserted place row rows
moved_down {A} place last row rows inside is =
    let moved : List A = take (last - place) (drop place rows) in
    let rest : List A = drop ((place + 1) + (last - place)) rows in
    let none : moved ++ rest ≡ moved = ap (λ r. moved ++ r) (drop_all ((place + 1) + (last - place)) rows (omega arith)) ∙ append-nil moved in
    ap (λ xs. set xs place row)
    (append_assoc (take (place + 1) rows) moved rest ∙ ap (λ xs. xs ++ (moved ++ rest)) (take_more rows place row inside)
    ∙ append_assoc (take place rows) (get_or rows place row ∷ []) (moved ++ rest))
    ∙ set_at (take place rows) (get_or rows place row) (moved ++ rest) row place (length-take-le place rows (omega arith))
    ∙ ap (λ xs. take place rows ++ (row ∷ xs)) (none ∙ ap (λ n. take n (drop place rows)) (omega arith))

-- The first rows from a place on, in memory.
pub back_is : {A : Type 0} (count place : ℕ) (e : List A) → place ≤ count → drop place (take count e) ≡ take (count - place) (drop place e)
back_is count place e l =
    let there : place + (count - place) ≡ count = omega arith in
    ap (λ n. drop place (take n e)) (sym there) ∙ drop-take place (count - place) e

-- Places from place up to i hold the first of xs, and all others what they held.
abbrev pub laid_out : {X : Type 0} → ℕ → ℕ → List X → List X → List X
laid_out place i xs e = take place e ++ (take (i - place) xs ++ drop i e)

module _ {X : Type 0} (place i : ℕ) (xs e : List X) (from : place ≤ i) (room : i ≤ length e) (enough : i - place ≤ length xs) where
  front_length : length (take place e ++ take (i - place) xs) ≡ i
  front_length =
      length-append (take place e) (take (i - place) xs)
      ∙ ap₂ (λ a b. a + b) (length-take-le place e (omega arith)) (length-take-le (i - place) xs enough)
      ∙ omega arith

  -- A place that is not written yet holds what it held.
  pub not_yet : (j : ℕ) (d : X) → i ≤ j → get_or (laid_out place i xs e) j d ≡ get_or e j d
  not_yet j d l =
      let at_back : get_or ((take place e ++ take (i - place) xs) ++ drop i e) j d ≡ get_or (drop i e) (j - i) d = get_or-append_right (take place e ++ take (i - place) xs) (drop i e) i j d front_length l in
      let there : i + (j - i) ≡ j = omega arith in
      ap (λ ys. get_or ys j d) (sym (append_assoc (take place e) (take (i - place) xs) (drop i e)))
      ∙ at_back ∙ get_or-drop i e (j - i) d ∙ ap (λ k. get_or e k d) there

  -- Writing the next of xs at i.
  pub written : (x : X) → i < length e → i - place < length xs → x ≡ get_or xs (i - place) x → set (laid_out place i xs e) i x ≡ laid_out place (i + 1) xs e
  written x inside more is =
      let front : List X = take place e ++ take (i - place) xs in
      let next : (i + 1) - place ≡ (i - place) + 1 = omega arith in
      let one_more : take ((i + 1) - place) xs ≡ take (i - place) xs ++ (x ∷ []) =
      ap (λ n. take n xs) next ∙ take_more xs (i - place) x more ∙ ap (λ y. take (i - place) xs ++ (y ∷ [])) (sym is) in
      let split : laid_out place i xs e ≡ front ++ (get_or e i x ∷ drop (i + 1) e) =
      sym (append_assoc (take place e) (take (i - place) xs) (drop i e)) ∙ ap (λ ys. front ++ ys) (drop_more e i x inside) in
      let joined : front ++ (x ∷ drop (i + 1) e) ≡ laid_out place (i + 1) xs e =
      append_assoc (take place e) (take (i - place) xs) (x ∷ drop (i + 1) e)
      ∙ ap (λ ys. take place e ++ ys) (sym (append_assoc (take (i - place) xs) (x ∷ []) (drop (i + 1) e)) ∙ ap (λ ys. ys ++ drop (i + 1) e) (sym one_more)) in
      ap (λ ys. set ys i x) split ∙ set_at front (get_or e i x) (drop (i + 1) e) x i front_length ∙ joined

-- Before the first write the memory is as it was.
pub none_written : {X : Type 0} (place : ℕ) (xs e : List X) → laid_out place place xs e ≡ e
none_written place xs e =
    let none : place - place ≡ 0 = omega arith in
    ap (λ n. take place e ++ (take n xs ++ drop place e)) none ∙ take-append-drop place e

-- After the last write, for a row that was put in.
pub all_inserted : {X : Type 0} (place end : ℕ) (x : X) (e : List X) → place ≤ end → laid_out place (end + 1) (x ∷ drop place e) e ≡ take place e ++ (x ∷ (take (end - place) (drop place e) ++ drop (end + 1) e))
all_inserted place end x e l =
    let count : (end + 1) - place ≡ suc (end - place) = omega arith in
    ap (λ n. take place e ++ (take n (x ∷ drop place e) ++ drop (end + 1) e)) count

-- What is carried on from a place is what it held.
pub carried_on : {X : Type 0} (place i : ℕ) (x : X) (e : List X) (d : X) → place ≤ i → get_or (x ∷ drop place e) ((i + 1) - place) d ≡ get_or e i d
carried_on place i x e d l =
    let next : (i + 1) - place ≡ suc (i - place) = omega arith in
    let there : place + (i - place) ≡ i = omega arith in
    ap (λ n. get_or (x ∷ drop place e) n d) next ∙ get_or-drop place e (i - place) d ∙ ap (λ k. get_or e k d) there

-- What is moved up to a place is what the next place held.
pub moved_up : {X : Type 0} (place i : ℕ) (e : List X) (d : X) → place ≤ i → get_or (drop (place + 1) e) (i - place) d ≡ get_or e (i + 1) d
moved_up place i e d l =
    let there : (place + 1) + (i - place) ≡ i + 1 = omega arith in
    get_or-drop (place + 1) e (i - place) d ∙ ap (λ k. get_or e k d) there

-- The offset of a place within memory fits 64 bits.
pub offset_fits : (i n size : ℕ) → i ≤ n → n * size < 2 ^ 63 → Fits w64 (i * size)
offset_fits i n size l small = record { fits = omega (arith, mul-le-mul_right size l) }

-- What a function makes of the rows from a place on, at one of them.
pub mapped_at : {X : Type 0} (f : X → X) (place i : ℕ) (e : List X) (x : X) (d : X) → place ≤ i → i < length e → x ≡ get_or e i x → f x ≡ get_or (map f (drop place e)) (i - place) d
mapped_at f place i e x d from inside is =
    let there : place + (i - place) ≡ i = omega arith in
    sym (get_or-map f (drop place e) (i - place) x d (omega (arith, length-drop place e)) ∙ ap f (get_or-drop place e (i - place) x ∙ ap (λ k. get_or e k x) there ∙ sym is))
