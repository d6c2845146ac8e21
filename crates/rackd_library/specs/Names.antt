-- detail
-- Names for C (own).
use Rattle.std.specs.Prelude.{ℕ, List, [], codes, Option, Some, None}
use Rattle.dp_responder.specs.declared.rule.Rule.{Rule}
use Rattle.dp_responder.specs.Rules.{rule_name, rule_of}

abbrev pub name_by_rule : Option Rule → List ℕ
name_by_rule None = []
name_by_rule (Some rule) = rule_name rule

-- the name of the rule of this number; empty if no rule has it
abbrev pub name_of_rule : ℕ → List ℕ
name_of_rule number = name_by_rule (rule_of number)

abbrev pub version_text : List ℕ
version_text = codes "0.2.0"
