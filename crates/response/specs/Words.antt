-- The words for the verdicts and for the refusals of the analysis.
use Rattle.std.specs.Prelude.{ℕ, List, codes}
use Rattle.response.specs.declared.outcome.ResponseFault.{ResponseFault}
use Rattle.response.specs.declared.outcome.ResponseFault.TheVariants.{Deadline, Jitter, Row}
use Rattle.response.specs.Bounds.{Verdict, is_ok, is_late, is_none}

-- The word for a verdict.
abbrev pub verdict_word : Verdict → List ℕ
verdict_word is_ok = codes "ok"
verdict_word is_late = codes "late"
verdict_word is_none = codes "none"

abbrev pub fault_word : ResponseFault → List ℕ
fault_word Deadline = codes "a deadline is not 1 to 1,000,000"
fault_word Jitter = codes "a jitter is above 1,000,000"
fault_word Row = codes "there is no such row"
