use Rattle.std.proofs.Common.{◌≡◌, ℕ, Bool, List, [], ◌∷◌, map, Option, Some, None, Result, Ok, Err, refl, sym, ap, ◌∙◌, rules}
use Rattle.std.specs.Prelude.{IfSome, MatchResult}
use Rattle.dp_slave.specs.declared.description.SlaveSpec.{SlaveSpec}
use Rattle.dp_slave.specs.SlaveRecord.{SlaveRecord}
use Rattle.dp_slave.specs.SlaveParts.{SlaveParts}
use Rattle.dp_line.specs.declared.fault.OpenFault.{OpenFault}
use Rattle.dp_line.specs.declared.fault.RestoreFault.{RestoreFault}
use Rattle.dp_line.specs.declared.fault.RestoreFault.TheVariants.{OutOfMemory}
use Rattle.dp_line.specs.World.{World, description_of, opening_fault, start_of}
use Rattle.dp_line.specs.Endless.{endless, endless_places}
use Rattle.dp_line.specs.SoundWorld.{restore_fault}
use Rattle.dp_line.specs.Stations.{restored_world, slaves_of}
use Rattle.dp_line.specs.Steps.{run}
use Rattle.dp_line.specs.Walk.{LineRecord, starting_line}
use Rattle.test_lines.proofs.clients.go_on.Goals as goal

descriptions_by : (parts : List SlaveParts) → map (λ p. p.slave.description) parts ≡ map (λ (s : SlaveRecord). s.description) (slaves_of parts)
descriptions_by [] = refl
descriptions_by (x ∷ parts) = ap (λ (l : List SlaveSpec). x.slave.description ∷ l) (descriptions_by parts)

-- the world of a line, by its parts
world_by : (w : World) (masters : List ℕ) (count : ℕ) (halted : Bool) (parts : List SlaveParts) → masters ≡ w.masters → w.capacity ≡ endless_places → count ≡ w.count → halted ≡ w.halted → slaves_of parts ≡ w.slaves
    → restored_world masters count halted parts ≡ w
world_by w masters count halted parts same endless counted is_halted slaves =
    ap (λ (m : List ℕ). restored_world m count halted parts) same ∙ ap (λ (n : ℕ). restored_world w.masters n halted parts) counted ∙ ap (λ (h : Bool). restored_world w.masters w.count h parts) is_halted
    ∙ ap (λ (l : List SlaveRecord). record { masters = w.masters; capacity = endless_places; count = w.count; halted = w.halted; slaves = l }) slaves
    ∙ ap (λ (c : ℕ). record { masters = w.masters; capacity = c; count = w.count; halted = w.halted; slaves = w.slaves }) (sym endless)

same_world : (r : Result LineRecord RestoreFault) (made world : World) → made ≡ world → MatchResult r (λ state. state ≡ record { world = made; last_walk = 0 }) (λ fault. fault ≡ OutOfMemory)
    → MatchResult r (λ other. other.world ≡ world) (λ fault. fault ≡ OutOfMemory)
same_world (Ok state) made world same is = ap (λ (l : LineRecord). l.world) is ∙ same
same_world (Err fault) made world same is = is

opened_by : (found : Option OpenFault) (r : Result LineRecord OpenFault) (line : LineRecord) → IfSome found (λ fault. r ≡ Err fault) → r ≡ Ok line → found ≡ None
opened_by None r line refused was = refl
opened_by (Some fault) r line refused was = absurd cc

pub restore-other-requires-clause-slaves : goal.restore-other-requires-clause-slaves
restore-other-requires-clause-slaves c =
    let line = description_of c.args.spec.now in
    let start : c.in_ok-line.line ≡ starting_line line = search rules in
    let world : c.take_each.new.line.world ≡ (run (start_of (endless line)) c.args.events.now).world =
    c.take_each.ensures ∙ ap (λ (l : LineRecord). (run l.world c.args.events.now).world)
    (c.lift_limit.ensures ∙ ap (λ (l : LineRecord). record l { world = record l.world { capacity = endless_places } }) start) in
    descriptions_by c.slaves.result.now ∙ ap (map (λ (s : SlaveRecord). s.description)) (c.slaves.ensures ∙ ap (λ (w : World). w.slaves) world)
    ∙ c.a_line_keeps_its_description.ensures.slaves (endless line) c.args.events.now

pub returns : goal.returns
returns c =
    let line = description_of c.args.spec.now in
    let start : c.in_ok-line.line ≡ starting_line line = search rules in
    let opens : opening_fault line ≡ None = opened_by (opening_fault line) c.open.result c.in_ok-line.line c.open.ensures.refused c.in_ok-line.was in
    let world : c.take_each.new.line.world ≡ (run (start_of (endless line)) c.args.events.now).world =
    c.take_each.ensures ∙ ap (λ (l : LineRecord). (run l.world c.args.events.now).world)
    (c.lift_limit.ensures ∙ ap (λ (l : LineRecord). record l { world = record l.world { capacity = endless_places } }) start) in
    let kept = c.a_line_keeps_its_description.ensures in
    let same : restored_world line.masters c.count.result c.is_halted.result c.slaves.result.now ≡ c.take_each.new.line.world =
    world_by c.take_each.new.line.world line.masters c.count.result c.is_halted.result c.slaves.result.now
    (sym (ap (λ (w : World). w.masters) world ∙ kept.masters (endless line) c.args.events.now)) (ap (λ (w : World). w.capacity) world ∙ kept.capacity (endless line) c.args.events.now)
    c.count.ensures c.is_halted.ensures c.slaves.ensures in
    same_world c.restore-other.result (restored_world line.masters c.count.result c.is_halted.result c.slaves.result.now) c.take_each.new.line.world same
    (c.restore-other.ensures.restored (ap restore_fault (same ∙ world) ∙ c.a_line_goes_on_from_each_of_its_worlds.ensures line c.args.events.now opens c.prove_line.ensures c.prove_events.ensures.short c.prove_events.ensures.octets))
