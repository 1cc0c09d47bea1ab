use Rattle.std.proofs.Common.{◌≡◌, ◌+◌, ◌-◌, max, get_or, drop, set, None, sym, ap, ◌∙◌, ap₂, arith}
use Rattle.register.specs.Tables.{longest, unsettle_by}
use Rattle.register.specs.Calls.{frame}
use Rattle.register.specs.Slots.{with_outcome, slots}
use Rattle.register.proofs.UnsettleLaws.{done_from, not_done_yet, judged, longest_next}
use Rattle.register.proofs.unsettle.unsettle_above.Goals as goal
use Rattle.sources.specs.Models.{meanings}

pub loop-i-preserved : goal.loop-i-preserved
loop-i-preserved g c =
    let fr = frame (meanings g.S.Entry g.S.Source) slots in
    let e = c.args.above.now in
    let j = c.loop-i.i - 1 in
    let here : j + 1 ≡ c.loop-i.i = omega arith in
    let slot = c.index-above-i.result in
    let was : c.loop-i.above ≡ done_from fr (with_outcome None) e c.args.before c.args.after (j + 1) =
    c.loop-i.invariant.0 ∙ ap (done_from fr (with_outcome None) e c.args.before c.args.after) (sym here) in
    let below : c.loop-i.below ≡ longest fr (drop (j + 1) e) = c.loop-i.invariant.1 ∙ ap (λ i. longest fr (drop i e)) (sym here) in
    let is : slot ≡ get_or e j slot =
    c.index-above-i.is ∙ ap (λ xs. get_or xs j slot) was ∙ not_done_yet fr (with_outcome None) e c.args.before c.args.after j (omega arith) slot in
    let work : c.work.result ≡ fr slot = c.work.ensures in (
      ap₂ (λ xs x. set xs j x) was (c.unsettled_by.ensures ∙ ap₂ (λ x y. unsettle_by (with_outcome None) x y slot) (c.max.ensures ∙ ap (λ n. max n c.args.before) below) (c.max-in-loop-i.ensures ∙ ap (λ n. max n c.args.after) below))
          ∙ judged fr (with_outcome None) e c.args.before c.args.after j (omega arith) slot is,
      omega (arith, longest_next fr (with_outcome None) e c.args.before c.args.after j (omega arith) slot is),
    )
