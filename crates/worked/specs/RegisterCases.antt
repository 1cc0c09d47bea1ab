-- The worked cases of the register.
use Rattle.std.specs.Prelude.{◌≡◌, ℕ, List, [], ◌∷◌, map}
use Rattle.frames.specs.Frames.{longest_frame}
use Rattle.sources.specs.Models.{Meanings}
use Rattle.sources.specs.Cycles.{cycle_work, cyclic_gap, CyclicTraffic}
use Rattle.sources.specs.Answers.{CyclicValues}
use Rattle.response.specs.declared.listed.Row.{Row}
use Rattle.response.specs.Bounds.{ok}
use Rattle.register.specs.declared.uses.Use.{Use}
use Rattle.register.specs.declared.uses.Use.TheVariants.{Enter, Amend, Settle, LookUp}
use Rattle.register.specs.Steps.{Reply, done, shown, denied, register_replies, reference_replies}

-- What a cyclic source is, from the values that it is made of.
abbrev pub cyclic_sources : Meanings CyclicValues
cyclic_sources = record {
  identifier = λ c. c.identifier;
  gap = λ c. cyclic_gap c.period;
  work = λ c. cycle_work c.cycle;
  jitter = λ c. 0;
  traffic = λ c. CyclicTraffic c.cycle c.period;
}

-- The frames of payloads in the standard format.
abbrev pub standard_frames : List ℕ → List ℕ
standard_frames payloads = map (longest_frame 55) payloads

-- A cyclic row in the standard format, by its identifier, its period, its deadline and its payloads.
abbrev pub cyclic_row : ℕ → ℕ → ℕ → List ℕ → Row CyclicValues
cyclic_row identifier period deadline payloads = record {
  source = record { identifier = identifier; period = period; cycle = standard_frames payloads };
  deadline = deadline;
}

-- The three rows are entered, settled and looked up; then the lowest is amended, and each is looked up again.
abbrev pub amended_uses : Row CyclicValues → List (Use CyclicValues)
amended_uses row =
    Enter (cyclic_row 1 200 200 (2 ∷ 4 ∷ 1 ∷ [])) ∷ Enter (cyclic_row 2 350 350 (2 ∷ [])) ∷ Enter (cyclic_row 3 1000 1000 (5 ∷ []))
    ∷ Settle 1 ∷ Settle 2 ∷ Settle 3 ∷ LookUp 1 ∷ LookUp 2 ∷ LookUp 3
    ∷ Amend row ∷ LookUp 1 ∷ LookUp 2 ∷ LookUp 3 ∷ []

-- The replies to these uses, where the three look-ups after the amend are answered as given.
abbrev pub amended_replies : Reply → Reply → Reply → List Reply
amended_replies first second third =
    done ∷ done ∷ done ∷ done ∷ done ∷ done ∷ shown (ok 200 2) ∷ shown (ok 350 6) ∷ shown (ok 275 5)
    ∷ done ∷ first ∷ second ∷ third ∷ []

-- A longer period of the lowest row unsettles that row alone: the rows above it show what they showed.
abbrev pub longer_period : List (Use CyclicValues)
longer_period = amended_uses (cyclic_row 3 2000 1000 (5 ∷ []))

abbrev pub two_kept : List Reply
two_kept = amended_replies (shown (ok 200 2)) (shown (ok 350 6)) (denied 26)

-- A shorter payload of the lowest row shortens the longest frame below each row above, and unsettles all three.
abbrev pub shorter_payload : List (Use CyclicValues)
shorter_payload = amended_uses (cyclic_row 3 1000 1000 (4 ∷ []))

abbrev pub none_kept : List Reply
none_kept = amended_replies (denied 26) (denied 26) (denied 26)

-- The replies of the reference model, and those of a register of three places.
pub record RegisterCase : Type 0 where
  pub reference_period : reference_replies cyclic_sources 3 longer_period ≡ two_kept
  pub reference_payload : reference_replies cyclic_sources 3 shorter_payload ≡ none_kept
  pub register_period : register_replies cyclic_sources 3 [] longer_period ≡ two_kept
  pub register_payload : register_replies cyclic_sources 3 [] shorter_payload ≡ none_kept
