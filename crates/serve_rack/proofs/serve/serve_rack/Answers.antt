use Rattle.std.proofs.Common.{rules, ◌≡◌, ◌≤◌, length, map, is_some, arith}
use Rattle.rack_file.specs.Rack.{line_described}
use Rattle.serve_rack.proofs.RacksServed.{as_many_lines, lines_of_rack, rack_served, refused_lines, refused_ports, served_open}
use Rattle.serve_rack.proofs.serve.serve_rack.Goals as goal

pub returns-in-Err : goal.returns-in-Err
returns-in-Err g c =
    rw c.from.ensures
    (refused_lines c.args.options.audit (is_some c.args.options.endless) c.args.rack.workers c.args.rack.lines.items (g.W.Write.contents c.args.writer.now) c.in-Err.fault c.in-Err.ensures)

pub returns-in-Err-listen_at_lines : goal.returns-in-Err-listen_at_lines
returns-in-Err-listen_at_lines g c =
    let (all, is, order) = c.in-Ok.ensures in
    refused_ports c.args.options.audit (is_some c.args.options.endless) _ c.in-Ok.lines.items (g.W.Write.contents c.args.writer.now) c.in-Err-listen_at_lines.fault (lines_of_rack c.args.rack.workers c.args.rack.lines.items all c.in-Ok.lines.items is order)
    (search rules)

pub returns-in-Err-check_descriptors : goal.returns-in-Err-check_descriptors
returns-in-Err-check_descriptors g c =
    let (all, is, order) = c.in-Ok.ensures in
    refused_ports c.args.options.audit (is_some c.args.options.endless) _ c.in-Ok.lines.items (g.W.Write.contents c.args.writer.now) c.in-Err-check_descriptors.fault (lines_of_rack c.args.rack.workers c.args.rack.lines.items all c.in-Ok.lines.items is order)
    (search rules)

pub open_and_serve-requires-clause-fit : goal.open_and_serve-requires-clause-fit
open_and_serve-requires-clause-fit g c κs within =
    let (all, is, order) = c.in-Ok.ensures in
    served_open c.args.rack.lines.items all c.in-Ok.lines.items is order c.requires.fit

pub open_and_serve-requires-clause-few : goal.open_and_serve-requires-clause-few
open_and_serve-requires-clause-few g c =
    let (all, is, order) = c.in-Ok.ensures in
    let long : length c.in-Ok.lines.items ≡ length (map line_described c.args.rack.lines.items) = as_many_lines _ c.in-Ok.lines.items
    (lines_of_rack c.args.rack.workers c.args.rack.lines.items all c.in-Ok.lines.items is order) in
    let few : length (map line_described c.args.rack.lines.items) ≤ 8 = c.requires.few in
    omega (arith, long, few)

pub returns : goal.returns
returns g c =
    let (all, is, order) = c.in-Ok.ensures in
    rack_served c.args.options.audit (is_some c.args.options.endless) _ c.in-Ok.lines.items (g.W.Write.contents c.args.writer.now) (g.W.Write.contents c.open_and_serve.new.writer) c.open_and_serve.result
    (lines_of_rack c.args.rack.workers c.args.rack.lines.items all c.in-Ok.lines.items is order) c.open_and_serve.ensures
