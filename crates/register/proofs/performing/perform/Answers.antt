use Rattle.std.proofs.Common.{◌≡◌, ℕ, ◌+◌, ◌<◌, List, [], map, length, get_or, take, drop, set, sym, ap, ◌∙◌, ap₂, arith}
use Rattle.std.proofs.lemmas.List.{take_more_set, map_push, drop-set-lt, drop-drop, length-take, get_or-take}
use Rattle.register.specs.Slots.{memory_of}
use Rattle.register.specs.Steps.{reply_of, register_replies}
use Rattle.register.proofs.PerformLaws.{memory_next, replies_next, promise_kept}
use Rattle.register.proofs.performing.perform.Goals as goal
use Rattle.sources.specs.Models.{meanings}

-- What follows place i in a list, from what follows it and the place itself.
drop_next : {A : Type 0} (i : ℕ) (xs ys : List A) (x : A) → drop i xs ≡ drop i ys → drop (i + 1) (set xs i x) ≡ drop (i + 1) ys
drop_next i xs ys x same = drop-set-lt (i + 1) xs i x (omega arith) ∙ sym (drop-drop 1 i xs) ∙ ap (drop 1) same ∙ drop-drop 1 i ys

pub loop-i-preserved : goal.loop-i-preserved
loop-i-preserved g c =
    let i = c.loop-i.i in
    let uses = c.args.uses.now in
    let n = c.performed-count.result in
    let u = c.action-item.result in
    let places = c.open-register.result.slots.now in
    let counted : i < n = omega (arith, c.loop-i-test.true, length-take n uses) in
    let inside : i < length uses = omega (arith, c.loop-i-test.true, length-take n uses) in
    let room : i < length c.args.answers.now = omega (arith, counted, c.performed-count.ensures) in
    let is : u ≡ get_or uses i u = c.action-item.is ∙ get_or-take n uses i u counted in
    let now_memory = memory_of c.loop-i.register in (
      memory_next (meanings g.S.Entry g.S.Source) places uses i u inside is now_memory c.loop-i.invariant.0 _ c.apply.ensures.memory,
      ap (map reply_of) (take_more_set c.loop-i.answers i c.apply.result (omega (arith, room))) ∙ map_push reply_of (take i c.loop-i.answers) c.apply.result
          ∙ replies_next (meanings g.S.Entry g.S.Source) places uses i u inside is now_memory c.loop-i.invariant.0 _ c.loop-i.invariant.1 _ c.apply.ensures.answer,
      drop_next i c.loop-i.answers c.args.answers.now c.apply.result c.loop-i.invariant.2,
      c.apply.ensures.same ∙ c.loop-i.invariant.3,
    )

pub returns-clause-promise : goal.returns-clause-promise
returns-clause-promise g c =
    let n = c.performed-count.result in
    let uses = c.args.uses.now in
    let end : c.loop-i.i ≡ n = omega (arith, length-take n uses, c.performed-count.ensures) in
    let open_places : c.open-register.result.slots.now ≡ c.args.slots.now = ap (λ m. m.places) c.open-register.ensures.memory in
    let replies : map reply_of (take n c.loop-i.answers) ≡ register_replies (meanings g.S.Entry g.S.Source) (length c.args.slots.now) [] (take n uses) =
    ap (λ i. map reply_of (take i c.loop-i.answers)) (sym end) ∙ c.loop-i.invariant.1
    ∙ ap₂ (λ ps i. register_replies (meanings g.S.Entry g.S.Source) (length ps) [] (take i uses)) open_places end in
    promise_kept (meanings g.S.Entry g.S.Source) g.met.S.Source.lawful c.args.slots.now (take n uses) _ replies
