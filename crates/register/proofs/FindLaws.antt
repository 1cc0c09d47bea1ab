-- The place of a key is found by a search from the first row on. Assumes nothing.
use Rattle.std.proofs.Common.{◌≡◌, ℕ, ◌+◌, ◌<◌, ◌≤◌, Bool, true, false, not, cond, eqb, leb, List, [], ◌∷◌, length, get_or, drop, Some, None, Ok, Err, Result, sym, refl, ap, ◌∙◌, ⊎_elim, arith}
use Rattle.std.specs.Option.{unwrap_or}
use Rattle.std.specs.List.{position, position_or_len}
use Rattle.std.proofs.lemmas.List.{at_drop_more, at_drop_all}
use Rattle.std.proofs.lemmas.Bool.{cases_lt, lt-ltb, le-ltb, lt-leb, le-leb}
use Rattle.register.specs.Tables.{place_of, starts_with, has, found_in}
use Rattle.register.proofs.TableLaws.{place_pass, place_stop, place_within}

module _ {A : Type 0} (key : A → ℕ) (k : ℕ) where
  -- A row whose key is not lower.
  abbrev pub not_lower : A → Bool
  not_lower a = leb k (key a)

  first_not_lower : (rows : List A) → position_or_len not_lower rows ≡ place_of key k rows
  first_not_lower [] = refl
  first_not_lower (a ∷ rest) =
      ⊎_elim
      (λ l. ap (λ t. cond (not t) (1 + position_or_len not_lower rest) 0) (lt-leb k (key a) l) ∙ omega (arith, first_not_lower rest, place_pass key k a rest l))
      (λ h. ap (λ t. cond (not t) (1 + position_or_len not_lower rest) 0) (le-leb k (key a) h) ∙ sym (place_stop key k a rest h))
      (cases_lt (key a) k)

  -- The first row whose key is not lower stands at the place of the key.
  pub place_found : (rows : List A) → unwrap_or (position not_lower rows) (length rows) ≡ place_of key k rows
  place_found rows =
      let n : ℕ = position_or_len not_lower rows in
      ⊎_elim
      (λ l. ap (λ b. unwrap_or (cond b (Some n) None) (length rows)) (lt-ltb n (length rows) l) ∙ first_not_lower rows)
      (λ h. ap (λ b. unwrap_or (cond b (Some n) None) (length rows)) (le-ltb n (length rows) h) ∙ omega (arith, first_not_lower rows, place_within key k rows))
      (cases_lt n (length rows))

  -- Whether the rows from one on start with the key.
  module _ (rows : List A) (i : ℕ) where
    pub starts_none : length rows ≤ i → starts_with key k (drop i rows) ≡ false
    starts_none past = at_drop_all (starts_with key k) rows i past

    module _ (a : A) (inside : i < length rows) (is : a ≡ get_or rows i a) where
      pub starts_here : starts_with key k (drop i rows) ≡ eqb (key a) k
      starts_here = at_drop_more (starts_with key k) rows i a inside ∙ ap (λ x. eqb (key x) k) (sym is)

  module _ (rows : List A) (place : ℕ) where
    -- Where the place is that of the key, what is found there.
    module _ (is : place ≡ place_of key k rows) where
      pub has_at : (a : A) → place < length rows → a ≡ get_or rows place a → has key k rows ≡ eqb (key a) k
      has_at a inside at = ap (λ n. starts_with key k (drop n rows)) (sym is) ∙ starts_here rows place a inside at

      pub has_past : length rows ≤ place → has key k rows ≡ false
      has_past past = ap (λ n. starts_with key k (drop n rows)) (sym is) ∙ starts_none rows place past

      found_as : (b : Bool) → has key k rows ≡ b → elim b [ true ↦ Ok place | false ↦ Err place ] ≡ found_in key k rows
      found_as b has_it =
          ap (λ n. elim b [ true ↦ Ok n | false ↦ Err n ]) is ∙ ap (λ t. elim t [ true ↦ Ok (place_of key k rows) | false ↦ Err (place_of key k rows) ]) (sym has_it)

      pub found_here : has key k rows ≡ true → Ok place ≡ found_in key k rows
      found_here has_it = found_as true has_it

      pub found_none : has key k rows ≡ false → Err place ≡ found_in key k rows
      found_none lacks = found_as false lacks

    -- What a search says of the rows.
    pub row_found : Ok place ≡ found_in key k rows → (place ≡ place_of key k rows) × (has key k rows ≡ true)
    row_found = go (has key k rows) refl
      where
        go : (b : Bool) → has key k rows ≡ b → ◌≡◌ {A = Result ℕ ℕ} (Ok place) (elim b [ true ↦ Ok (place_of key k rows) | false ↦ Err (place_of key k rows) ]) → (place ≡ place_of key k rows) × (has key k rows ≡ true)
        go true is e = (cc, is)
        go false is e = let z : ◌≡◌ {A = ℕ} 0 1 = cc in absurd (omega arith)

    pub gap_found : Err place ≡ found_in key k rows → (place ≡ place_of key k rows) × (has key k rows ≡ false)
    gap_found = go (has key k rows) refl
      where
        go : (b : Bool) → has key k rows ≡ b → ◌≡◌ {A = Result ℕ ℕ} (Err place) (elim b [ true ↦ Ok (place_of key k rows) | false ↦ Err (place_of key k rows) ]) → (place ≡ place_of key k rows) × (has key k rows ≡ false)
        go true is e = let z : ◌≡◌ {A = ℕ} 0 1 = cc in absurd (omega arith)
        go false is e = (cc, is)
