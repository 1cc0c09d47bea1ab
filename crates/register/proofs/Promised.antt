-- What the register promises holds of every list of uses. Assumes nothing.
use Rattle.std.proofs.Common.{ℕ, List, [], sym, ap, ◌∙◌}
use Rattle.sources.specs.Streams.{Laws}
use Rattle.sources.specs.Models.{model, Meanings}
use Rattle.register.specs.declared.slot.Slot.{Slot}
use Rattle.register.specs.declared.uses.Use.{Use}
use Rattle.register.specs.Steps.{register_after, register_replies, reference_step}
use Rattle.register.specs.Promises.{SameElsewhere, Promise}
use Rattle.register.proofs.Invariant.{Good, good_empty, good_after}
use Rattle.register.proofs.ReferenceLaws.{step_is, replies_are, after_is}
use Rattle.register.proofs.ShownLaws.{bounds_hold}
use Rattle.register.proofs.KeptLaws.{kept_exactly}

module _ {S : Type 0} (sources : Meanings S) (lawful : (s : S) → Laws (model sources s)) (places : ℕ)
    (elsewhere : (rows : List (Slot S)) → Good sources places rows → SameElsewhere sources rows) where
  -- A register that was used from empty keeps its promise.
  pub promised : (uses : List (Use S)) → Promise sources places uses (register_replies sources places [] uses) (register_after sources places [] uses)
  promised uses =
      let rows : List (Slot S) = register_after sources places [] uses in
      let good : Good sources places rows = good_after sources places uses [] (good_empty sources places) in
      record {
        bounds_hold = bounds_hold sources places rows good lawful;
        answers_are = replies_are sources places uses;
        next_answer_is = λ u.
            sym (ap (λ s. s.reply) (step_is sources places rows good u)) ∙ ap (λ standing. (reference_step sources places standing u).reply) (sym (after_is sources places uses));
        same_elsewhere = elsewhere rows good;
        kept_exactly = kept_exactly sources places rows;
      }
