-- How many instances of a message can arrive within a time, from its gap.
use Rattle.std.specs.Prelude.{ℕ, pred, min, nat_lt}
use Rattle.sources.specs.Ranges.{largest_upto}

-- count x: the largest n with gap (n - 1) below x, and 0 for x = 0. As gap q is at least q, no n above x is in question.
abbrev pub count : (ℕ → ℕ) → ℕ → ℕ
count gap x = largest_upto x (λ n. nat_lt (gap (pred n)) x)

-- The largest argument of a source's calls: a larger one is taken as this.
abbrev pub argument : ℕ → ℕ
argument x = min x 2000001

-- How a gap is answered: one above 2,000,000 as 2,000,001.
abbrev pub gap_answer : ℕ → ℕ
gap_answer g = min g 2000001

-- How a jitter is answered: one above 1,000,000 as 1,000,001.
abbrev pub jitter_answer : ℕ → ℕ
jitter_answer j = min j 1000001
