use Rattle.std.proofs.Common.{◌≡◌, sym, ap, ◌∙◌, length}
use Rattle.std.proofs.lemmas.Bool.{eq-eqb, ne_eqb}
use Rattle.std.specs.Option.{unwrap_or}
use Rattle.register.specs.Tables.{place_of}
use Rattle.register.proofs.FindLaws.{place_found, has_at, has_past, found_here, found_none}
use Rattle.register.proofs.table.find.Goals as goal
use Rattle.register.proofs.table.find.Goals.{else-place-rows-via-then-place-rows+else-identifier, else-place-rows-via-else-place-rows}

pub returns-then-identifier : goal.returns-then-identifier
returns-then-identifier g c =
    let key = g.E.Entry.identifier in
    let rows = c.args.rows.now in
    let place = c.unwrap_or-place.result in
    let is : place ≡ place_of key c.args.identifier rows = c.unwrap_or-place.ensures ∙ ap (λ p. unwrap_or p (length rows)) c.first_from.ensures ∙ place_found key c.args.identifier rows in
    found_here key c.args.identifier rows place is
    (has_at key c.args.identifier rows place is c.index-rows-place.result c.if-place-rows.true c.index-rows-place.is
    ∙ eq-eqb (key c.index-rows-place.result) c.args.identifier (sym c.identifier.ensures ∙ c.if-identifier.true))

pub returns-else-place-rows : goal.returns-else-place-rows
returns-else-place-rows g c =
    let key = g.E.Entry.identifier in
    let rows = c.args.rows.now in
    let place = c.unwrap_or-place.result in
    let is : place ≡ place_of key c.args.identifier rows = c.unwrap_or-place.ensures ∙ ap (λ p. unwrap_or p (length rows)) c.first_from.ensures ∙ place_found key c.args.identifier rows in
    found_none key c.args.identifier rows place is
    (elim c.else-place-rows.branch [
      | else-place-rows-via-then-place-rows+else-identifier w ↦
          has_at key c.args.identifier rows place is w.index-rows-place.result w.if-place-rows.true w.index-rows-place.is
          ∙ ne_eqb (key w.index-rows-place.result) c.args.identifier (λ e. w.if-identifier.false (w.identifier.ensures ∙ e))
      | else-place-rows-via-else-place-rows w ↦ has_past key c.args.identifier rows place is w.if-place-rows.false
    ])
