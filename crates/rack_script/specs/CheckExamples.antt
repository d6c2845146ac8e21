-- helper
-- Examples of audit texts on a rack of one line, and of their verdicts.
use Rattle.std.specs.Prelude.{◌≡◌, ⊤, ℕ, [], ◌∷◌, codes, Some, None, Ok, Err, refl}
use Rattle.std.specs.Fmt.{digits}
use Rattle.hex.proofs.OnLiterals.{hex_on_literals}
use Rattle.dp_slave.specs.declared.description.SlaveSpec.{SlaveSpec}
use Rattle.dp_slave.specs.SlaveRecord.{released}
use Rattle.dp_slave.specs.Fields.{acted}
use Rattle.dp_line.specs.World.{ascending}
use Rattle.dp_line.specs.Hearing.{heard}
use Rattle.dp_line.specs.Verdict.{verdict_of, rule_at}
use Rattle.dp_line.specs.ReplyText.{reply_text}
use Rattle.dp_line.specs.Served.{served}
use Rattle.dp_line.specs.Effects.{effect, slave_after, facts_of, outcome_of}
use Rattle.dp_line.specs.LineExamples.{slave_5}
use Rattle.rack_file.specs.Rack.{RackDescription}
use Rattle.dp_audit.specs.declared.fault.AuditFault.TheVariants.{BadLine, NotThePolicy}
use Rattle.dp_audit.specs.Check.{checked}
use Rattle.explain_texts.specs.Explained.{verdict_text}
use Rattle.rack_script.specs.Checks.{checked_on}

-- the definitions that are unfolded to compute a verdict on a text without entries
unfoldable check_on_literals : ⊤
unfolding checked digits
check_on_literals = tt

-- the definitions that are unfolded for a text with entries
unfoldable check_on_entries : ⊤
unfolding check_on_literals hex_on_literals ascending effect slave_after facts_of outcome_of served heard verdict_of rule_at reply_text acted released
check_on_entries = tt

-- line 1 with this number of places, masters 1 and 2 and one slave
abbrev rack_with : ℕ → SlaveSpec → RackDescription
rack_with capacity slave = record {
  workers = 4;
  lines = record {
    line = record { number = 1; capacity = capacity; masters = 1 ∷ 2 ∷ []; slaves = slave ∷ [] };
    listen = None;
    operator = None;
  } ∷ [];
}

abbrev rack_of : SlaveSpec → RackDescription
rack_of slave = rack_with 1000 slave

-- slave 5, and slave 5 with a list that allows only master 1 to lock it
abbrev rack_1 : RackDescription
rack_1 = rack_of slave_5

abbrev rack_with_a_list : RackDescription
rack_with_a_list = rack_of (record slave_5 { lists = record { lockers = Some (record { items = 1 ∷ [] }); readers = None } })

pub nothing_at_all : checked_on rack_1 [] ≡ Err (BadLine 1)
nothing_at_all = refl

pub header_alone : checked_on rack_1 (codes "rack-audit 2 line 1\n") ≡ Ok 0
unfolding check_on_literals
header_alone = refl

pub header_without_its_end : checked_on rack_1 (codes "rack-audit 2 line 1") ≡ Err (BadLine 1)
unfolding check_on_literals
header_without_its_end = refl

pub header_of_another_line : checked_on rack_1 (codes "rack-audit 2 line 9\n") ≡ Err (BadLine 1)
unfolding check_on_literals
header_of_another_line = refl

-- version 1 has no lists
pub header_of_version_1 : checked_on rack_1 (codes "rack-audit 1 line 1\n") ≡ Ok 0
unfolding check_on_literals
header_of_version_1 = refl

pub header_of_version_1_with_a_list : checked_on rack_with_a_list (codes "rack-audit 1 line 1\n") ≡ Err (BadLine 1)
unfolding check_on_literals
header_of_version_1_with_a_list = refl

pub header_alone_with_a_list : checked_on rack_with_a_list (codes "rack-audit 2 line 1\n") ≡ Ok 0
unfolding check_on_literals
header_alone_with_a_list = refl

-- an empty line has no parts
pub empty_line_behind_the_header : checked_on rack_1 (codes "rack-audit 2 line 1\n\n") ≡ Err (BadLine 2)
unfolding check_on_literals
empty_line_behind_the_header = refl

-- the device sets inputs of a slave that nobody holds
pub an_entry : checked_on rack_1 (codes "rack-audit 2 line 1\n1 in 5 aa55 | WaitPrm none | done\n") ≡ Ok 1
unfolding check_on_entries
an_entry = refl

-- master 1 asks for the diagnosis; then one digit of the reply differs
pub a_reply : checked_on rack_1 (codes "rack-audit 2 line 1\n1 req 1 6805056885816d3c3eed16 | WaitPrm none | reply 680b0b688185083e3c020500ff80a1af16 Done\n") ≡ Ok 1
unfolding check_on_entries
a_reply = refl

pub another_reply : checked_on rack_1 (codes "rack-audit 2 line 1\n1 req 1 6805056885816d3c3eed16 | WaitPrm none | reply 680b0b688185083e3c020500ff80a0af16 Done\n") ≡ Err (NotThePolicy 2)
unfolding check_on_entries
another_reply = refl

pub capital_letter : checked_on rack_1 (codes "rack-audit 2 line 1\n1 in 5 Aa55 | WaitPrm none | done\n") ≡ Err (BadLine 2)
unfolding check_on_entries
capital_letter = refl

pub another_holder : checked_on rack_1 (codes "rack-audit 2 line 1\n1 in 5 aa55 | WaitPrm 1 | done\n") ≡ Err (NotThePolicy 2)
unfolding check_on_entries
another_holder = refl

-- at the last place of a line with two places there is the halt; the endless line has more places
pub a_tick_at_the_last_place : checked_on (rack_with 2 slave_5) (codes "rack-audit 2 line 1\n1 tick 1 | none | released\n2 tick 1 | none | released\n") ≡ Err (NotThePolicy 3)
unfolding check_on_entries
a_tick_at_the_last_place = refl

pub a_tick_of_the_endless_line : checked_on (rack_with 2 slave_5) (codes "rack-audit 3 line 1\n1 tick 1 | none | released\n2 tick 1 | none | released\n") ≡ Ok 2
unfolding check_on_entries
a_tick_of_the_endless_line = refl

pub legal_reported : verdict_text (Ok 5) ≡ codes "legal 5\n"
unfolding check_on_literals
legal_reported = refl

pub bad_line_reported : verdict_text (Err (BadLine 65538)) ≡ codes "bad line 65538\n"
unfolding check_on_literals
bad_line_reported = refl

pub not_the_policy_reported : verdict_text (Err (NotThePolicy 3)) ≡ codes "not the policy 3\n"
unfolding check_on_literals
not_the_policy_reported = refl
