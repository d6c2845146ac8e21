use native.Mathlib.Omega.{arith}
use Rattle.std.proofs.Common.{◌≤◌, ◌<◌, List, length, map}
use Rattle.std.proofs.lemmas.List.{length-map}
use Rattle.rack_file.specs.declared.rack.RackLine.{RackLine}
use Rattle.rack_file.specs.Rack.{line_described, rack_described}
use Rattle.capture_texts.proofs.FirstRow.{lines_open}
use Rattle.capture_texts.proofs.capturing.run_capture.Goals as goal

-- at most 8 lines have 32-bit numbers
few : (lines : List RackLine) → length (map line_described lines) ≤ 8 → length lines < 4294967296
few lines most =
    let same = length-map lines line_described in
    omega (arith, most, same)

pub capture_on-requires-clause-opens : goal.capture_on-requires-clause-opens
capture_on-requires-clause-opens g c =
    let rack = c.in-Ok.rack in
    lines_open rack.lines.items (c.accepted_lines_can_be_opened.ensures c.args.rack.now (rack_described rack) c.in-Ok.ensures.ok)

pub capture_on-requires-clause-few : goal.capture_on-requires-clause-few
capture_on-requires-clause-few g c =
    let rack = c.in-Ok.rack in
    few rack.lines.items (c.accepted_racks_have_1_to_8_lines.ensures.most c.args.rack.now (rack_described rack) c.in-Ok.ensures.ok)
