use Rattle.std.proofs.Common.{◌≡◌, map, drop}
use Rattle.response.specs.Curves.{models}
use Rattle.response.specs.Analysis.{rows_answer}
use Rattle.response.proofs.analysis.check_rows.Given as goal
use Rattle.sources.specs.Models.{meanings}

abbrev pub invariant-loop-row : goal.invariant-loop-row
invariant-loop-row g l =
    rows_answer (models g.L.Listed (meanings g.S.Entry g.S.Source) (drop l.row-index l.rows)) (map g.L.Listed.deadline (drop l.row-index l.rows))
    ≡ rows_answer (models g.L.Listed (meanings g.S.Entry g.S.Source) l.rows) (map g.L.Listed.deadline l.rows)
