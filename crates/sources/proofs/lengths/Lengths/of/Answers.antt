use Rattle.std.proofs.Common.{◌≡◌, map, length, take, sym, ap, ◌∙◌, subst, arith}
use Rattle.std.proofs.lemmas.List.{take_all}
use Rattle.sources.specs.Cycles.{FrameCycle}
use Rattle.sources.proofs.PayloadChecks.{frame_cycle}
use Rattle.sources.proofs.lengths.Lengths.of.Goals as goal

pub invariant_of-result-clause-frames : goal.invariant_of-result-clause-frames
invariant_of-result-clause-frames g c =
    let longest = g.F.Format.longest in
    let payloads = c.args.payloads.now in
    let end : c.loop-i.i ≡ length payloads = omega arith in
    let filled : take (length payloads) c.loop-i.places ≡ map longest payloads =
    ap (λ n. take n c.loop-i.places) (sym end) ∙ c.loop-i.invariant.1 ∙ ap (map longest) (take_all c.loop-i.i payloads c.loop-i-test.false) in
    subst FrameCycle (sym filled) (frame_cycle longest g.met.F.Format.positive g.met.F.Format.small payloads c.requires.few.0 c.requires.small)
