use Rattle.std.proofs.Common.{List, map, Some, None, Ok, Err, sym, ap, ◌∙◌}
use Rattle.dp_slave.specs.SlaveParts.{SlaveParts}
use Rattle.dp_line.specs.World.{World, description_of}
use Rattle.dp_line.specs.Stations.{slaves_of}
use Rattle.audit_heads.specs.declared.head_fault.HeadFault.{HeadFault}
use Rattle.audit_heads.specs.Reading.{read_as}
use Rattle.audit_heads.specs.Rows.{Left, read_row}
use Rattle.audit_heads.specs.Head.{place_of_row}
use Rattle.audit_heads.proofs.HeadLines.{IsBegun, all_read, configured, descriptions_read, head_got, slaves_got, wrong_place, wrong_running, wrong_slaves}
use Rattle.audit_heads.proofs.head_reading.read_head.Goals as goal

pub returns-in-Err-clause-err : goal.returns-in-Err-clause-err
returns-in-Err-clause-err c = λ apart.
    wrong_place (description_of c.args.line.now) c.args.text.now c.in-Err.number
    (sym (c.read_place.ensures ∙ ap (λ (l : Left). read_row (place_of_row c.args.line.now.number) l) c.new-rows.ensures) ∙ ap (λ r. read_as r c.read_place.new.rows) c.in-Err.is)

pub returns-in-Err-read_running-clause-err : goal.returns-in-Err-read_running-clause-err
returns-in-Err-read_running-clause-err c = λ apart.
    wrong_running (description_of c.args.line.now) c.args.text.now c.in-Ok.place c.in-Err-read_running.number c.read_place.new.rows
    (sym (c.read_place.ensures ∙ ap (λ (l : Left). read_row (place_of_row c.args.line.now.number) l) c.new-rows.ensures) ∙ ap (λ r. read_as r c.read_place.new.rows) c.in-Ok.is)
    (sym c.read_running.ensures ∙ ap (λ r. read_as r c.read_running.new.rows) c.in-Err-read_running.is)

pub read_slaves-requires-clause-configured : goal.read_slaves-requires-clause-configured
read_slaves-requires-clause-configured c = configured (description_of c.args.line.now) c.requires

pub returns-in-Err-read_slaves-clause-err : goal.returns-in-Err-read_slaves-clause-err
returns-in-Err-read_slaves-clause-err c = λ apart.
    let begun : IsBegun (description_of c.args.line.now) c.args.text.now c.in-Ok.place c.in-Ok-read_running.running c.read_place.new.rows c.read_running.new.rows = record {
      first = sym (c.read_place.ensures ∙ ap (λ (l : Left). read_row (place_of_row c.args.line.now.number) l) c.new-rows.ensures) ∙ ap (λ r. read_as r c.read_place.new.rows) c.in-Ok.is;
      second = sym c.read_running.ensures ∙ ap (λ r. read_as r c.read_running.new.rows) c.in-Ok-read_running.is;
    } in
    wrong_slaves (λ v. v.items) c.read_slaves.result (description_of c.args.line.now) c.args.text.now c.in-Ok.place c.in-Ok-read_running.running c.read_place.new.rows c.read_running.new.rows c.read_slaves.new.rows
    c.in-Err-read_slaves.fault begun
    (all_read (λ v. v.items) c.read_slaves.result c.args.line.now.masters.items c.args.line.now.slaves.items c.in-Ok-with_capacity.slaves.items c.read_running.new.rows c.read_slaves.new.rows c.in-Ok-with_capacity.ensures.items c.read_slaves.ensures)
    c.in-Err-read_slaves.is apart

pub restored-requires-clause-slaves : goal.restored-requires-clause-slaves
restored-requires-clause-slaves c =
    ap (map (λ (p : SlaveParts). p.slave.description)) c.deref.ensures.value
    ∙ descriptions_read c.args.line.now.masters.items _ c.in-Ok-read_slaves.slaves.items c.read_running.new.rows c.read_slaves.new.rows
    (slaves_got (λ v. v.items) c.read_slaves.result c.args.line.now.masters.items _ c.read_running.new.rows c.read_slaves.new.rows c.in-Ok-read_slaves.slaves
    (all_read (λ v. v.items) c.read_slaves.result c.args.line.now.masters.items c.args.line.now.slaves.items c.in-Ok-with_capacity.slaves.items c.read_running.new.rows c.read_slaves.new.rows c.in-Ok-with_capacity.ensures.items c.read_slaves.ensures)
    c.in-Ok-read_slaves.is)

pub returns-in-Ok-restored-clause-ok : goal.returns-in-Ok-restored-clause-ok
returns-in-Ok-restored-clause-ok c =
    let line = description_of c.args.line.now in
    let begun : IsBegun line c.args.text.now c.in-Ok.place c.in-Ok-read_running.running c.read_place.new.rows c.read_running.new.rows = record {
      first = sym (c.read_place.ensures ∙ ap (λ (l : Left). read_row (place_of_row c.args.line.now.number) l) c.new-rows.ensures) ∙ ap (λ r. read_as r c.read_place.new.rows) c.in-Ok.is;
      second = sym c.read_running.ensures ∙ ap (λ r. read_as r c.read_running.new.rows) c.in-Ok-read_running.is;
    } in
    let read = slaves_got (λ v. v.items) c.read_slaves.result c.args.line.now.masters.items _ c.read_running.new.rows c.read_slaves.new.rows c.in-Ok-read_slaves.slaves
    (all_read (λ v. v.items) c.read_slaves.result c.args.line.now.masters.items c.args.line.now.slaves.items c.in-Ok-with_capacity.slaves.items c.read_running.new.rows c.read_slaves.new.rows c.in-Ok-with_capacity.ensures.items c.read_slaves.ensures)
    c.in-Ok-read_slaves.is in
    head_got line c.args.text.now c.in-Ok.place c.in-Ok-read_running.running c.read_place.new.rows c.read_running.new.rows c.read_slaves.new.rows c.deref.result.now None begun
    (read ∙ ap (λ (ps : List SlaveParts). Ok (slaves_of ps, c.read_slaves.new.rows)) (sym c.deref.ensures.value)) c.in-Ok-restored.ensures.ok.1
    ∙ ap (λ (w : World). Ok (record { world = w; time = c.in-Ok-read_running.running.time }, c.read_slaves.new.rows)) (sym c.in-Ok-restored.ensures.ok.0)

pub returns-clause-err : goal.returns-clause-err
returns-clause-err c = λ apart.
    let line = description_of c.args.line.now in
    let begun : IsBegun line c.args.text.now c.in-Ok.place c.in-Ok-read_running.running c.read_place.new.rows c.read_running.new.rows = record {
      first = sym (c.read_place.ensures ∙ ap (λ (l : Left). read_row (place_of_row c.args.line.now.number) l) c.new-rows.ensures) ∙ ap (λ r. read_as r c.read_place.new.rows) c.in-Ok.is;
      second = sym c.read_running.ensures ∙ ap (λ r. read_as r c.read_running.new.rows) c.in-Ok-read_running.is;
    } in
    let read = slaves_got (λ v. v.items) c.read_slaves.result c.args.line.now.masters.items _ c.read_running.new.rows c.read_slaves.new.rows c.in-Ok-read_slaves.slaves
    (all_read (λ v. v.items) c.read_slaves.result c.args.line.now.masters.items c.args.line.now.slaves.items c.in-Ok-with_capacity.slaves.items c.read_running.new.rows c.read_slaves.new.rows c.in-Ok-with_capacity.ensures.items c.read_slaves.ensures)
    c.in-Ok-read_slaves.is in
    let (why, is, reported) = c.in-Err-restored.ensures.err apart in
    head_got line c.args.text.now c.in-Ok.place c.in-Ok-read_running.running c.read_place.new.rows c.read_running.new.rows c.read_slaves.new.rows c.deref.result.now (Some why) begun
    (read ∙ ap (λ (ps : List SlaveParts). Ok (slaves_of ps, c.read_slaves.new.rows)) (sym c.deref.ensures.value)) reported
    ∙ ap (λ (f : HeadFault). Err f) (sym is)
