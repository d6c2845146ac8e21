use Rattle.std.proofs.Common.{arith, length, ap}
use Rattle.std.proofs.lemmas.List.{length-map}
use Rattle.rack_file.specs.Rack.{line_described, rack_described}
use Rattle.rackd_faults.proofs.rack_cause.missing_port_in.Goals as goal

pub first_missing-requires : goal.first_missing-requires
first_missing-requires c =
    let few = c.accepted_racks_have_1_to_8_lines.ensures.most c.args.text.now (rack_described c.in-Ok.rack) c.in-Ok.ensures.ok in
    let same = length-map c.in-Ok.rack.lines.items line_described in
    let lent = ap length c.deref.ensures.value in
    omega (arith, few, same, lent)
