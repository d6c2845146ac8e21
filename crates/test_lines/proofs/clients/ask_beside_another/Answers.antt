use Rattle.std.proofs.Common.{◌∷◌, [], refl, arith}
use Rattle.std.proofs.lemmas.Bool.{eq-eqb, ne_eqb}
use Rattle.dp_line.specs.World.{description_of}
use Rattle.test_lines.proofs.clients.ask_beside_another.Goals as goal

pub returns : goal.returns
returns c = λ master stranger address sent asked slave here held goes is_other apart is_last meets_none meets_none_there.
    let line = description_of c.args.spec.now in
    let first = c.args.first.now ∷ [] in
    let agrees = (rw (c.take.ensures.world, c.in_ok-line.ensures.start) at c.agrees_with_itself.ensures) master address slave here held goes in
    let law = c.isolation_since_the_opening.ensures master address line line first first (c.args.other.now ∷ c.args.last.now ∷ []) agrees meets_none in
    rw (
      c.take-answer.ensures.world,
      c.take-answer.ensures.answer,
      c.take-3.ensures.world,
      c.take.ensures.world,
      c.take-alone.ensures.world,
      c.take-alone.ensures.answer,
      c.take-2.ensures.world,
      c.in_ok-line.ensures.start,
      c.in_ok-another.ensures.start,
      is_other,
      is_last,
    )
    (grind (arith, (rw (is_other, is_last, here, held, eq-eqb master master refl, ne_eqb stranger master apart) at law) (rw is_last at meets_none_there)))
