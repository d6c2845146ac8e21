-- Every entry that a line records has its own packed record.
use Rattle.std.proofs.Common.{◌≡◌, ℕ, ◌<◌, Bool, true, false, ◌||◌, cond, eqb, List, [], ◌∷◌, Option, Some, None, refl, arith}
use Rattle.std.specs.Prelude.{is_some}
use Rattle.std.specs.List.{AllByRecursion, list_all, list_any}
use Rattle.std.proofs.lemmas.Bool.{and_parts, eqb-true}
use Rattle.std.proofs.lemmas.Bool.Decides.{nat_tests}
use Rattle.dp_sap.specs.declared.state.State.{State}
use Rattle.dp_sap.specs.AccessTable.{is_in_table}
use Rattle.dp_telegram.specs.Access.{is_station}
use Rattle.dp_responder.specs.declared.rule.Rule.{Rule}
use Rattle.dp_responder.specs.declared.rule.Rule.TheVariants as rules
use Rattle.dp_slave.specs.SlaveRecord.{SlaveRecord}
use Rattle.dp_line.specs.declared.event.Event.{Event}
use Rattle.dp_line.specs.declared.event.Event.TheVariants.{Request, Operator}
use Rattle.dp_line.specs.declared.event.Op.TheVariants.{Input, Diag, Busy, Tick, Halt}
use Rattle.dp_line.specs.declared.fault.OperatorFault.TheVariants.{UnknownPoint}
use Rattle.dp_line.specs.World.{HaveMasters, World, slave_among}
use Rattle.dp_line.specs.Events.{operator_fault, operator_fault_of}
use Rattle.dp_line.specs.Hearing.{Hearing, heard}
use Rattle.dp_line.specs.Served.{answered}
use Rattle.dp_line.specs.Effects.{facts_of, is_spread, outcome_of, outcome_of_one, outcome_spread}
use Rattle.dp_text.specs.Events.{IsWithinLimits}
use Rattle.dp_audit.specs.declared.entry.Entry.{Entry}
use Rattle.dp_audit.specs.Packed.{HasReportedHolder, HasReportedPoint, IsNoRefusal, IsPackable}

-- ---- points

-- the points of the table are 56 to 62, and the default one
at_most_62 : (number : ℕ) (a b c d e f g : Bool) → eqb number 56 ≡ a → eqb number 57 ≡ b → eqb number 58 ≡ c → eqb number 59 ≡ d → eqb number 60 ≡ e → eqb number 61 ≡ f
    → eqb number 62 ≡ g → (a || b || c || d || e || f || g) ≡ true → number < 255
at_most_62 number true b c d e f g is j k l m n o any = (let same = eqb-true number 56 is in omega (arith, same))
at_most_62 number false true c d e f g i is k l m n o any = (let same = eqb-true number 57 is in omega (arith, same))
at_most_62 number false false true d e f g i j is l m n o any = (let same = eqb-true number 58 is in omega (arith, same))
at_most_62 number false false false true e f g i j k is m n o any = (let same = eqb-true number 59 is in omega (arith, same))
at_most_62 number false false false false true f g i j k l is n o any = (let same = eqb-true number 60 is in omega (arith, same))
at_most_62 number false false false false false true g i j k l m is o any = (let same = eqb-true number 61 is in omega (arith, same))
at_most_62 number false false false false false false true i j k l m n is any = (let same = eqb-true number 62 is in omega (arith, same))
at_most_62 number false false false false false false false i j k l m n o any = absurd cc

-- the row of the table that is found, by the tests of the table's seven numbers
found_row : {A : Type 0} (a b c d e f g : Bool) (p q r s t u v : A)
    → is_some (cond a (Some p) (cond b (Some q) (cond c (Some r) (cond d (Some s) (cond e (Some t) (cond f (Some u) (cond g (Some v) None))))))) ≡ true
    → (a || b || c || d || e || f || g) ≡ true
found_row true b c d e f g p q r s t u v known = refl
found_row false true c d e f g p q r s t u v known = refl
found_row false false true d e f g p q r s t u v known = refl
found_row false false false true e f g p q r s t u v known = refl
found_row false false false false true f g p q r s t u v known = refl
found_row false false false false false true g p q r s t u v known = refl
found_row false false false false false false true p q r s t u v known = refl
found_row false false false false false false false p q r s t u v known = absurd cc

one_of_the_table : (number : ℕ) → is_in_table (Some number) ≡ true → number < 255
one_of_the_table number known =
    at_most_62 number (eqb number 56) (eqb number 57) (eqb number 58) (eqb number 59) (eqb number 60) (eqb number 61) (eqb number 62) refl refl refl refl refl refl refl
    (found_row (eqb number 56) (eqb number 57) (eqb number 58) (eqb number 59) (eqb number 60) (eqb number 61) (eqb number 62) _ _ _ _ _ _ _ known)

-- a mark is refused if the table lacks its point
known_point : (number : ℕ) (known : Bool) → cond known None (Some UnknownPoint) ≡ None → known ≡ true
known_point number true fits = refl
known_point number false fits = absurd cc

marked_point : (address number : ℕ) (on : Bool) (slave : Option SlaveRecord) → operator_fault_of (Busy address (Some number) on) slave ≡ None → is_in_table (Some number) ≡ true
marked_point address number on None fits = absurd cc
marked_point address number on (Some slave) fits = known_point number (is_in_table (Some number)) fits

pub reported_point : (world : World) (event : Event) → operator_fault world event ≡ None → HasReportedPoint event
reported_point world (Request master octets) fits = tt
reported_point world (Operator (Input address octets)) fits = tt
reported_point world (Operator (Diag address ext stat overflow octets)) fits = tt
reported_point world (Operator (Busy address None on)) fits = tt
reported_point world (Operator (Busy address (Some number) on)) fits = one_of_the_table number (marked_point address number on (slave_among world.slaves address) fits)
reported_point world (Operator (Tick units)) fits = tt
reported_point world (Operator Halt) fits = tt

-- ---- holders

by_first : (master holder : ℕ) (same rest : Bool) → eqb master holder ≡ same → is_station master ≡ true → (rest ≡ true → holder < 255) → (same || rest) ≡ true → holder < 255
by_first master holder true rest is station others known = (let same = eqb-true master holder is in grind (arith, nat_tests))
by_first master holder false rest is station others known = others known

known_master : (masters : List ℕ) (holder : ℕ) → list_all is_station masters ≡ true → list_any (λ master. eqb master holder) masters ≡ true → holder < 255
known_master [] holder stations known = absurd cc
known_master (master ∷ masters) holder stations known =
    let (first, others) = and_parts (is_station master) (list_all is_station masters) stations in
    by_first master holder (eqb master holder) (list_any (λ m. eqb m holder) masters) refl first (known_master masters holder others) known

-- a holder in facts is always a master
abbrev pub NameMasters : Type 0
NameMasters = (world : World) (event : Event) (state : State) (holder : ℕ) → HaveMasters world.masters world.slaves → facts_of world event ≡ Some (state, Some holder)
    → list_any (λ master. eqb master holder) world.masters ≡ true

by_facts : (world : World) (event : Event) → NameMasters → HaveMasters world.masters world.slaves → list_all is_station world.masters ≡ true
    → (facts : Option (State × Option ℕ)) → facts_of world event ≡ facts → HasReportedHolder facts
by_facts world event law have stations None is = tt
by_facts world event law have stations (Some (state, None)) is = tt
by_facts world event law have stations (Some (state, Some holder)) is = known_master world.masters holder stations (law world event state holder have is)

pub reported_holder : (world : World) (event : Event) → NameMasters → HaveMasters world.masters world.slaves → list_all is_station world.masters ≡ true → HasReportedHolder (facts_of world event)
reported_holder world event law have stations = by_facts world event law have stations (facts_of world event) refl

-- ---- outcomes

answered_reported : (rule : Rule) (reply : Option (List ℕ)) → IsNoRefusal (answered rule reply)
answered_reported rule (Some octets) = tt
answered_reported rules.Done None = tt
answered_reported other None = tt

by_spread : (hearing : Hearing) (spread : Bool) → IsNoRefusal (cond spread (outcome_spread hearing) (outcome_of_one hearing))
by_spread hearing true = tt
by_spread hearing false = answered_reported _ _

pub reported_outcome : (world : World) (event : Event) → IsNoRefusal (outcome_of world event)
unfolding outcome_of
reported_outcome world (Request master octets) = by_spread (heard world master octets.items) (is_spread (heard world master octets.items))
reported_outcome world (Operator (Input address octets)) = tt
reported_outcome world (Operator (Diag address ext stat overflow octets)) = tt
reported_outcome world (Operator (Busy address point on)) = tt
reported_outcome world (Operator (Tick units)) = tt
reported_outcome world (Operator Halt) = tt

-- ---- entries that have records

pub events_within : (entries : List Entry) → AllByRecursion IsPackable entries → AllByRecursion (λ entry. IsWithinLimits entry.event) entries
events_within [] packable = tt
events_within (entry ∷ entries) packable = (packable.0.event, events_within entries packable.1)
