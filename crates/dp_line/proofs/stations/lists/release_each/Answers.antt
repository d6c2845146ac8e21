use Rattle.std.proofs.Common.{◌≡◌, ℕ, ◌+◌, Bool, List, [], ◌∷◌, length, map, Option, Some, None, refl, sym, ap, subst, ◌∙◌, arith}
use Rattle.std.specs.Prelude.{is_some, option_map}
use Rattle.arrayvec.specs.ArrayVec.{ArrayVec}
use Rattle.dp_sap.specs.declared.state.State.{State}
use Rattle.dp_slave.specs.SlaveRecord.{SlaveRecord, is_held, released}
use Rattle.dp_slave.specs.Acts.{halts}
use Rattle.dp_slave.specs.Fields.{acted}
use Rattle.dp_line.specs.declared.event.Op.TheVariants.{Halt}
use Rattle.dp_line.specs.Effects.{state_and_holder}
use Rattle.dp_line.specs.Stations.{AreChanged, operated, slaves_of}
use Rattle.dp_line.proofs.Changed.{each_changed, none_changed, one_leaves, one_stays}
use Rattle.dp_line.proofs.Moves.{op_address}
use Rattle.dp_line.proofs.stations.lists.release_each.Goals.{then-is_some, else-is_some}
use Rattle.dp_line.proofs.stations.lists.release_each.Goals as goal

-- the halt's act releases each slave
each_halts : ((slave : SlaveRecord) → acted slave halts ≡ released slave) → (slaves : List SlaveRecord) → map (operated Halt) slaves ≡ map released slaves
each_halts halt [] = refl
each_halts halt (slave ∷ slaves) = ap (λ (s : SlaveRecord). s ∷ map (operated Halt) slaves) (halt slave) ∙ ap (λ (l : List SlaveRecord). released slave ∷ l) (each_halts halt slaves)

-- the facts of a slave say whether a master held it
held_by : (b : Bool) (facts : State × Option ℕ) (found : Option SlaveRecord) → Some facts ≡ option_map state_and_holder found → b ≡ is_some facts.1 → Some b ≡ option_map is_held found
held_by b facts None reported is = absurd cc
held_by b facts (Some slave) reported is =
    let same : facts ≡ state_and_holder slave = cc in
    ap Some (is ∙ ap (λ (f : State × Option ℕ). is_some f.1) same)

pub loop-index-init : goal.loop-index-init
loop-index-init c = none_changed c.args.masters.now (operated Halt) is_held c.args.owners.now c.args.slaves.now _ c.requires.threaded c.new-released_addresses.ensures

pub loop-index-preserved : goal.loop-index-preserved
loop-index-preserved c =
    let held = held_by c.is_some.result c.operate_at-holder.result _ c.operate_at-holder.ensures.facts c.is_some.ensures in
    elim c.if-is_some.branch [
      | then-is_some w ↦ one_leaves c.args.masters.now (operated Halt) is_held c.loop-index.index (slaves_of c.args.slaves.now) c.loop-index.owners c.operate_at-holder.new.owners
          c.loop-index.slaves c.operate_at-holder.new.slaves c.loop-index.released_addresses.items c.if-is_some.released_addresses.items w.address.result w.index-slaves-index.result
          (op_address Halt) (sym (ap Some w.if-is_some.true) ∙ held) c.operate_at-holder.ensures.threaded c.operate_at-holder.ensures.slaves (omega arith)
          w.index-slaves-index.is w.address.ensures (ap (λ l. l.items) w.released_addresses-is ∙ w.push.ensures.items) c.loop-index.invariant
      | else-is_some w ↦ subst (λ (l : ArrayVec ℕ). AreChanged c.args.masters.now (operated Halt) is_held (c.loop-index.index + 1) (slaves_of c.args.slaves.now) c.operate_at-holder.new.owners
          c.operate_at-holder.new.slaves l.items) (sym w.released_addresses-is)
          (one_stays c.args.masters.now (operated Halt) is_held c.loop-index.index (slaves_of c.args.slaves.now) c.loop-index.owners c.operate_at-holder.new.owners
          c.loop-index.slaves c.operate_at-holder.new.slaves c.loop-index.released_addresses.items
          (sym (ap Some w.if-is_some.false) ∙ held) c.operate_at-holder.ensures.threaded c.operate_at-holder.ensures.slaves c.loop-index.invariant)
    ]

pub returns-clause-slaves : goal.returns-clause-slaves
returns-clause-slaves c =
    let all : c.loop-index.index ≡ length c.args.slaves.now = omega arith in
    (each_changed c.args.masters.now (operated Halt) is_held c.loop-index.index c.args.slaves.now c.loop-index.slaves c.loop-index.owners c.loop-index.released_addresses.items all c.loop-index.invariant).0
    ∙ each_halts c.released_is_a_fixed_point.ensures.halt (slaves_of c.args.slaves.now)
