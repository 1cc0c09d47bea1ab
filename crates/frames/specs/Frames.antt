-- How long a frame can get on the wire, by the number of its payload bytes.
use Rattle.std.specs.Prelude.{List, [], ◌∷◌, ℕ, ◌+◌, ◌*◌, min}

-- The most bit times of a frame with n payload bytes, stuff bits included: what a frame without payload takes, and ten for each byte.
abbrev pub longest_frame : ℕ → ℕ → ℕ
longest_frame empty n = empty + 10 * n

-- The payload sizes of a frame, in bytes.
abbrev pub payload_sizes : List ℕ
payload_sizes = 0 ∷ 1 ∷ 2 ∷ 3 ∷ 4 ∷ 5 ∷ 6 ∷ 7 ∷ 8 ∷ []

-- A payload has at most eight bytes: a larger number is taken as eight.
abbrev pub payload_bytes : ℕ → ℕ
payload_bytes n = min n 8
