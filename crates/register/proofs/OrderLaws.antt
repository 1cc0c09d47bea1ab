-- Rising rows are told by their elements. Assumes nothing.
use Rattle.std.proofs.Common.{◌≡◌, ℕ, suc, ◌<◌, true, ◌⊎◌, List, [], ◌∷◌, ◌++◌, length, take, drop, sym, refl, ap, ◌∙◌, subst, inl, inr, arith, length-append}
use Rattle.std.specs.List.{AllByRecursion as All}
use Rattle.std.proofs.lemmas.List.{take-append-drop}
use Rattle.std.proofs.ByRecursion.{All-append, All-take, All-drop, All-weaker}
use Rattle.register.specs.Tables.{place_of, has}
use Rattle.register.proofs.TableLaws.{AllOf, Rises, found}

-- Whatever holds of every element of ys holds of every element of xs.
abbrev pub Among : {A : Type 0} → List A → List A → Type 1
Among {A} xs ys = (P : A → Type 0) → All P ys → All P xs

module _ {A : Type 0} where
  module _ (P : A → Type 0) where
    -- What holds of every element of two lists together holds of those of the first, and of those of the second.
    all_left : (xs ys : List A) → All P (xs ++ ys) → All P xs
    all_left [] ys all = tt
    all_left (x ∷ xs) ys (first, later) = (first, all_left xs ys later)

    all_right : (xs ys : List A) → All P (xs ++ ys) → All P ys
    all_right [] ys all = all
    all_right (x ∷ xs) ys (first, later) = all_right xs ys later

    -- What holds of a row and of all rows holds of these with the row at a place among them.
    pub all_placed : (n : ℕ) (a : A) (rows : List A) → P a → All P rows → All P (take n rows ++ a ∷ drop n rows)
    all_placed n a rows of_a all = All-append P (take n rows) (a ∷ drop n rows) (All-take P n rows all) (of_a, All-drop P n rows all)

    -- What holds of all rows with one at a place among them holds of that row, and of the others.
    pub placed_all : (n : ℕ) (a : A) (rows : List A) → All P (take n rows ++ a ∷ drop n rows) → P a × All P rows
    placed_all n a rows all =
        let high : P a × All P (drop n rows) = all_right (take n rows) (a ∷ drop n rows) all in
        (high.0, subst (All P) (take-append-drop n rows) (All-append P (take n rows) (drop n rows) (all_left (take n rows) (a ∷ drop n rows) all) high.1))

  -- Rows with one more at a place among them are one more.
  pub length_placed : (n : ℕ) (a : A) (rows : List A) → length (take n rows ++ a ∷ drop n rows) ≡ suc (length rows)
  length_placed n a rows =
      omega (arith, length-append (take n rows) (a ∷ drop n rows), length-append (take n rows) (drop n rows), ap length (take-append-drop n rows))

  -- What holds of the value of every row holds of every row, through its value.
  pub all_of_values : {V : Type 0} (value : A → V) (P : V → Type 0) (rows : List A) → AllOf value P rows → All (λ a. P (value a)) rows
  all_of_values value P [] all = tt
  all_of_values value P (a ∷ rest) (first, later) = (first, all_of_values value P rest later)

  -- What holds of every element by one proof and by another holds by both.
  all_both : (P Q : A → Type 0) (xs : List A) → All P xs → All Q xs → All (λ a. P a × Q a) xs
  all_both P Q [] ps qs = tt
  all_both P Q (x ∷ xs) (p, ps) (q, qs) = ((p, q), all_both P Q xs ps qs)

module _ {A : Type 0} (key : A → ℕ) where
  -- The only row of rows with the key of a is a.
  abbrev pub Only : List A → A → Type 0
  Only rows a = All (λ c. key c ≡ key a → c ≡ a) rows

  -- Of rising rows no two have one key.
  pub each_only : (rows : List A) → Rises key rows → All (Only rows) rows
  each_only [] rises = tt
  each_only (a ∷ rest) (above, rises) =
      let higher = all_of_values key (λ n. key a < n) rest above in (
        ((λ e. refl), All-weaker (λ c. key a < key c) (λ c. key c ≡ key a → c ≡ a) (λ c l e. absurd (omega arith)) rest higher),
        All-weaker (λ c. (key a < key c) × Only rest c) (Only (a ∷ rest)) (λ c both. ((λ e. absurd (omega arith)), both.1)) rest
            (all_both (λ c. key a < key c) (Only rest) rest higher (each_only rest rises)),
      )

  -- A row whose key is had, and by no other row, is among the rows.
  pub only_among : (a : A) (rows : List A) → Only rows a → has key (key a) rows ≡ true → (P : A → Type 0) → All P rows → P a
  only_among a rows only taken P all =
      let m = place_of key (key a) rows in
      let it = found key (key a) rows taken in
      let is_a : it.0 ≡ a = (subst (All (λ c. key c ≡ key a → c ≡ a)) it.1 (All-drop (λ c. key c ≡ key a → c ≡ a) m rows only)).0 it.2 in
      subst P is_a (subst (All P) it.1 (All-drop P m rows all)).0

  first_or_above : (a : A) (rest : List A) → AllOf key (λ n. key a < n) rest → All (λ c. (c ≡ a) ⊎ (key a < key c)) (a ∷ rest)
  first_or_above a rest above =
      (inl refl, All-weaker (λ c. key a < key c) (λ c. (c ≡ a) ⊎ (key a < key c)) (λ c l. inr l) rest (all_of_values key (λ n. key a < n) rest above))

  same_first : (a b : A) → (b ≡ a) ⊎ (key a < key b) → (a ≡ b) ⊎ (key b < key a) → a ≡ b
  same_first a b (inl e) other = sym e
  same_first a b (inr l) (inl e) = e
  same_first a b (inr l) (inr h) = absurd (omega arith)

  rest_among : (a b : A) (xs ys : List A) → key a ≡ key b → AllOf key (λ n. key a < n) xs → Among (a ∷ xs) (b ∷ ys) → Among xs ys
  rest_among a b xs ys same above among P all =
      let Q : A → Type 0 = λ c. key a < key c → P c in
      let given = among Q ((λ l. absurd (omega arith)), All-weaker P Q (λ c p _. p) ys all) in
      All-weaker (λ c. (key a < key c) × Q c) P (λ c both. both.1 both.0) xs
      (all_both (λ c. key a < key c) Q xs (all_of_values key (λ n. key a < n) xs above) given.1)

  -- Two lists of rising rows with the same elements are equal.
  pub same_rising : (xs ys : List A) → Rises key xs → Rises key ys → Among xs ys → Among ys xs → xs ≡ ys
  same_rising [] [] of_xs of_ys down up = refl
  same_rising [] (b ∷ ys) of_xs of_ys down up = absurd (up (λ _. ⊥) tt).0
  same_rising (a ∷ xs) [] of_xs of_ys down up = absurd (down (λ _. ⊥) tt).0
  same_rising (a ∷ xs) (b ∷ ys) (above_a, of_xs) (above_b, of_ys) down up =
      let same : a ≡ b = same_first a b
      (up (λ c. (c ≡ a) ⊎ (key a < key c)) (first_or_above a xs above_a)).0
      (down (λ c. (c ≡ b) ⊎ (key b < key c)) (first_or_above b ys above_b)).0 in
      let one : key a ≡ key b = ap key same in
      let rest : xs ≡ ys = same_rising xs ys of_xs of_ys (rest_among a b xs ys one above_a down) (rest_among b a ys xs (sym one) above_b up) in
      ap (λ c. c ∷ xs) same ∙ ap (λ l. b ∷ l) rest
