-- The loads and the longest frame of a list of rows, row by row.
use Rattle.std.proofs.Common.{◌≡◌, ℕ, zero, suc, ◌+◌, ◌<◌, ◌≤◌, List, [], ◌∷◌, length, take, drop, refl, arith, drop-cons}
use Rattle.sources.specs.Ranges.{sum_from}
use Rattle.sources.specs.Streams.{Model}
use Rattle.response.specs.Bounds.{longest_of, load, loads, no_model, row}

-- The loads of the rows from p on are the sum of the load of each.
pub loads_sum : (rows : List Model) (x p m : ℕ) → p + m ≤ length rows → loads (take m (drop p rows)) x ≡ sum_from (λ k. load (row rows k) x) p m
loads_sum rows x p zero l = refl
loads_sum rows x p (suc m) l =
    let here : p < length rows = omega arith in
    rw (drop-cons rows p no_model here) (omega (arith, loads_sum rows x (suc p) m (omega arith)))

-- No row from p on has a longer frame than the longest of them.
pub longest_is_upper : (rows : List Model) (p k : ℕ) → p ≤ k → k < length rows → (row rows k).work 1 ≤ longest_of (drop p rows)
longest_is_upper [] p k l h = absurd (omega arith)
longest_is_upper (r ∷ rows) zero zero l h = omega arith
longest_is_upper (r ∷ rows) zero (suc k) l h = omega (arith, longest_is_upper rows zero k (omega arith) (omega arith))
longest_is_upper (r ∷ rows) (suc p) zero l h = absurd (omega arith)
longest_is_upper (r ∷ rows) (suc p) (suc k) l h = longest_is_upper rows p k (omega arith) (omega arith)
