use Rattle.std.proofs.Common.{◌≡◌, ℕ, List, [], ◌∷◌, ◌++◌, ◌+◌, ◌-◌, Some, Ok, sym, ap, subst, ◌∙◌, rules}
use Rattle.std.specs.Option.{option_copied}
use Rattle.std.proofs.lemmas.List.{map-append}
use Rattle.dp_slave.specs.declared.description.SlaveSpec.{SlaveSpec}
use Rattle.dp_slave.specs.SlaveRecord.{SlaveRecord}
use Rattle.dp_slave.specs.SlaveParts.{SlaveParts}
use Rattle.dp_line.specs.World.{described_at}
use Rattle.dp_line.specs.Stations.{slaves_of}
use Rattle.audit_heads.specs.SlaveRows.{slave_read}
use Rattle.audit_heads.specs.Head.{slaves_read}
use Rattle.audit_heads.specs.Reading.{AreRead, behind_slaves, described_from, slave_as}
use Rattle.audit_heads.proofs.HeadLines.{parsed_here, slave_more, slave_wrong}
use Rattle.audit_heads.proofs.head_reading.+read_slaves.Goals as goal

pub read_slave-requires-clause-parsed : goal.read_slave-requires-clause-parsed
read_slave-requires-clause-parsed t c =
    parsed_here c.args.line.now.slaves.items c.args.address (option_copied c.described.result) c.in-Some.description.now c.requires.configured
    (c.described.ensures ∙ ap (λ (ds : List SlaveSpec). described_at ds c.args.address) c.deref.ensures.value) (ap option_copied c.in-Some.is)

pub returns-else-is_err : goal.returns-else-is_err
returns-else-is_err t c =
    let found : described_at c.args.line.now.slaves.items c.args.address ≡ Some c.in-Some.description.now = sym (c.described.ensures ∙ ap (λ (ds : List SlaveSpec). described_at ds c.args.address) c.deref.ensures.value) ∙ ap option_copied c.in-Some.is in
    let read : slave_read c.args.line.now.masters.items c.in-Some.description.now c.args.rows.now ≡ Ok (c.in-Ok.slave.slave, c.read_slave.new.rows) =
    sym (c.read_slave.ensures ∙ ap (λ (ms : List ℕ). slave_read ms c.in-Some.description.now c.args.rows.now) c.deref-2.ensures.0) ∙ ap (λ r. slave_as r c.read_slave.new.rows) c.in-Ok.is in
    let pushed : c.push.new.self.items ≡ c.args.slaves.items ++ c.in-Ok.slave ∷ [] = search rules in
    let slaves : slaves_of c.push.new.self.items ≡ slaves_of c.args.slaves.items ++ c.in-Ok.slave.slave ∷ [] =
    ap slaves_of pushed ∙ map-append (λ (p : SlaveParts). p.slave) c.args.slaves.items (c.in-Ok.slave ∷ []) in
    subst (AreRead (λ v. v.items) c.read_slaves-in-Ok.result c.read_slaves-in-Ok.new.rows)
    (ap (λ (l : List SlaveRecord). behind_slaves l (slaves_read c.args.line.now.masters.items (described_from c.args.line.now.slaves.items (c.args.address + 1) (c.args.count - 1)) c.read_slave.new.rows)) slaves
    ∙ sym (slave_more (slaves_of c.args.slaves.items) c.args.line.now.masters.items c.args.line.now.slaves.items c.args.address c.args.count c.args.rows.now c.read_slave.new.rows c.in-Some.description.now c.in-Ok.slave.slave
    c.if-count-eq0.false found read))
    c.read_slaves-in-Ok.ensures

pub returns-in-Err : goal.returns-in-Err
returns-in-Err t c =
    slave_wrong (slaves_of c.args.slaves.items) c.args.line.now.masters.items c.args.line.now.slaves.items c.args.address c.args.count c.args.rows.now c.in-Some.description.now c.in-Err.number c.if-count-eq0.false
    (sym (c.described.ensures ∙ ap (λ (ds : List SlaveSpec). described_at ds c.args.address) c.deref.ensures.value) ∙ ap option_copied c.in-Some.is)
    (sym (c.read_slave.ensures ∙ ap (λ (ms : List ℕ). slave_read ms c.in-Some.description.now c.args.rows.now) c.deref-2.ensures.0) ∙ ap (λ r. slave_as r c.read_slave.new.rows) c.in-Err.is)
