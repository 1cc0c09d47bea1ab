-- The code's results as the definitions have them.
use Rattle.std.specs.Prelude.{ℕ, Option, Some, None}
use Rattle.std.specs.declared.ops.ControlFlow.{ControlFlow}
use Rattle.std.specs.declared.ops.ControlFlow.TheVariants.{Continue, Break}
use Rattle.sources.specs.Models.{model, Meanings}
use Rattle.response.specs.declared.listed.Listed as listed
use Rattle.response.specs.declared.place.Place as held
use Rattle.response.specs.declared.fixed_point.Found as search
use Rattle.response.specs.declared.outcome.Verdict as verdict
use Rattle.response.specs.declared.outcome.Verdict.TheVariants as verdicts
use Rattle.response.specs.declared.outcome.Outcome as outcome
use Rattle.response.specs.declared.outcome.Outcome.TheVariants as outcomes
use Rattle.response.specs.declared.outcome.ResponseFault.{ResponseFault}
use Rattle.response.specs.declared.outcome.ResponseFault.TheVariants.{Deadline, Jitter, Row}
use Rattle.response.specs.Searches.{Found, ended, failed}
use Rattle.response.specs.Bounds.{Place, row_place, Verdict, is_ok, is_late, is_none, Response, ok, late, none}
use Rattle.response.specs.Curves.{models}

-- A search that ended somewhere, or nowhere, after some evaluations.
abbrev pub found_at : Option ℕ → ℕ → Found
found_at (Some value) rounds = ended value rounds
found_at None rounds = failed rounds

abbrev pub found_of : search.Found → Found
found_of f = found_at f.end f.rounds

abbrev pub step_of : ControlFlow search.Found ℕ → ControlFlow Found ℕ
step_of (Break found) = Break (found_of found)
step_of (Continue value) = Continue value

abbrev pub verdict_of : verdict.Verdict → Verdict
verdict_of verdicts.Ok = is_ok
verdict_of verdicts.Late = is_late
verdict_of verdicts.None = is_none

abbrev pub outcome_of : outcome.Outcome → Response
outcome_of (outcomes.Ok bound rounds) = ok bound rounds
outcome_of (outcomes.Late bound rounds) = late bound rounds
outcome_of (outcomes.None rounds) = none rounds

-- A row with the rows above it and the longest frame below it, as the code holds them.
abbrev pub seen : {L S : Type 0} → listed.Ghosts L S → Meanings S → held.Place L → Place
seen rows sources p = row_place (models rows sources p.above.now) (model sources (rows.source p.own.now)) p.blocking

-- The refusals of the analysis, each with its number.
abbrev pub fault_number : ResponseFault → ℕ
fault_number Deadline = 21
fault_number Jitter = 22
fault_number Row = 25
