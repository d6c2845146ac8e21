use Rattle.std.proofs.Common.{is_some}
use Rattle.rack_file.specs.Rack.{rack_described}
use Rattle.rack_file.specs.RackFile.{rack_in}
use Rattle.serve_rack.proofs.RacksServed.{refused_rack}
use Rattle.serve_rack.proofs.serve.serve_text.Goals as goal

pub serve_rack-requires-clause-workers : goal.serve_rack-requires-clause-workers
serve_rack-requires-clause-workers g c κs within = (
  c.accepted_racks_have_1_to_32_workers.ensures.least c.args.rack.now (rack_described c.in-Ok.rack) c.in-Ok.ensures.ok,
  c.accepted_racks_have_1_to_32_workers.ensures.most c.args.rack.now (rack_described c.in-Ok.rack) c.in-Ok.ensures.ok,
)

pub serve_rack-requires-clause-fit : goal.serve_rack-requires-clause-fit
serve_rack-requires-clause-fit g c κs within = c.accepted_lines_can_be_opened.ensures c.args.rack.now (rack_described c.in-Ok.rack) c.in-Ok.ensures.ok

pub serve_rack-requires-clause-few : goal.serve_rack-requires-clause-few
serve_rack-requires-clause-few g c κs within = c.accepted_racks_have_1_to_8_lines.ensures.most c.args.rack.now (rack_described c.in-Ok.rack) c.in-Ok.ensures.ok

pub returns-in-Err : goal.returns-in-Err
returns-in-Err g c =
    rw c.from.ensures
    (refused_rack c.args.options.audit (is_some c.args.options.endless) (rack_in c.args.rack.now) (g.W.Write.contents c.args.writer.now) c.in-Err.fault c.in-Err.ensures.refused)
