-- The curves of rows that keep what a source owes. Assumes nothing.
use Rattle.std.proofs.Common.{ℕ, zero, suc, ◌+◌, ◌<◌, ◌≤◌, List, [], ◌∷◌, length, take, drop, arith}
use Rattle.sources.specs.Streams.{Model, Laws}
use Rattle.response.specs.Searches.{NeverFalls}
use Rattle.response.specs.CurveLemmas.{load_never_falls, loads_never_falls}
use Rattle.response.specs.Bounds.{Each, AllLawful, Place, busy, delay, row, place, longest_of}

-- Rows that keep what a source owes, from each row's place.
pub all_lawful : (rows : List Model) → ((k : ℕ) → k < length rows → Laws (row rows k)) → AllLawful rows
all_lawful [] laws = tt
all_lawful (m ∷ ms) laws = (laws 0 (omega arith), all_lawful ms (λ k l. laws (suc k) (omega arith)))

-- What each row has, the row at a place has, and so have the first n rows and those without the first n.
pub row_has : (P : Model → Type 0) (rows : List Model) → Each P rows → (k : ℕ) → k < length rows → P (row rows k)
row_has P [] all k l = absurd (omega arith)
row_has P (m ∷ ms) (first, rest) zero l = first
row_has P (m ∷ ms) (first, rest) (suc k) l = row_has P ms rest k (omega arith)

pub take_have : (P : Model → Type 0) (n : ℕ) (rows : List Model) → Each P rows → Each P (take n rows)
take_have P zero rows all = tt
take_have P (suc n) [] all = tt
take_have P (suc n) (m ∷ ms) (first, rest) = (first, take_have P n ms rest)

pub drop_have : (P : Model → Type 0) (n : ℕ) (rows : List Model) → Each P rows → Each P (drop n rows)
drop_have P zero rows all = all
drop_have P (suc n) [] all = tt
drop_have P (suc n) (m ∷ ms) (first, rest) = drop_have P n ms rest

-- Of rows that keep what a source owes, the row at a place keeps it.
pub row_lawful : (rows : List Model) → AllLawful rows → (k : ℕ) → k < length rows → Laws (row rows k)
row_lawful = row_has Laws

-- The first n of such rows are such rows.
pub take_lawful : (n : ℕ) (rows : List Model) → AllLawful rows → AllLawful (take n rows)
take_lawful = take_have Laws

-- Such rows without the first n are such rows.
pub drop_lawful : (n : ℕ) (rows : List Model) → AllLawful rows → AllLawful (drop n rows)
drop_lawful = drop_have Laws

-- No frame is longer than 160 bit times.
pub longest_at_most : (rows : List Model) → AllLawful rows → longest_of rows ≤ 160
longest_at_most [] laws = omega arith
longest_at_most (m ∷ ms) (first, rest) = omega (arith, first.work_at_most 1, longest_at_most ms rest)

-- Each row of rows that keep what a source owes has its place among such rows.
pub place_lawful : (rows : List Model) → AllLawful rows → (m : ℕ) → m < length rows → AllLawful (place rows m).above × Laws (place rows m).own × ((place rows m).blocking ≤ 160)
place_lawful rows laws m l = (take_lawful m rows laws, row_lawful rows laws m l, longest_at_most (drop (suc m) rows) (drop_lawful (suc m) rows laws))

module _ (p : Place) (upper : AllLawful p.above) (own : Laws p.own) where
  -- The busy curve never falls.
  pub busy_never_falls : NeverFalls (busy p)
  busy_never_falls s t l = omega (arith, load_never_falls p.own own s t l, loads_never_falls p.above upper s t l)

  -- No delay curve ever falls.
  pub delay_never_falls : (q : ℕ) → NeverFalls (delay p q)
  delay_never_falls q s t l = omega (arith, loads_never_falls p.above upper (s + 1) (t + 1) (omega arith))
