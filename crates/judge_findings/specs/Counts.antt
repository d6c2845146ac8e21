-- detail
-- How often a master broke each rule, and where first (own).
use Rattle.std.specs.Prelude.{ℕ, ◌+◌, ◌-◌, ◌^◌, ◌==◌, min, not, ◌&&◌, if◌then◌else◌, Bool, true, false, List, [], ◌∷◌, replicate, slice_index_or, slice_set}
use Rattle.judge_rules.specs.declared.entry.Entry.{Entry}
use Rattle.judge_rules.specs.declared.rule.JudgeRule.{JudgeRule}
use Rattle.judge_rules.specs.declared.rule.TheConstants.{RULES}
use Rattle.std.specs.List.{list_any}
use Rattle.judge_rules.specs.declared.rule_rows.Severity.{Severity}
use Rattle.judge_rules.specs.declared.rule_rows.Severity.TheVariants as severities
use Rattle.judge_rules.specs.Judges.{JudgeView}
use Rattle.judge_rules.specs.RuleNames.{rule_number, rule_severity}
use Rattle.judge_rules.specs.Rules.{breaks}
use Rattle.judge_findings.specs.declared.seat.Counts.{Counts}
use Rattle.judge_findings.specs.declared.seat.RuleCount.{RuleCount}
use Rattle.judge_findings.specs.declared.seat.Seat.{Seat}

abbrev pub uncounted : RuleCount
uncounted = record { count = 0; first = 0 }

abbrev pub no_counts : Counts
no_counts = record { by_rule = replicate RULES uncounted }

abbrev pub count_at : Counts → JudgeRule → RuleCount
count_at counts rule = slice_index_or counts.by_rule (rule_number rule) uncounted

-- one more; a count stops at the largest number of 64 bits
abbrev pub counted_more : ℕ → RuleCount → RuleCount
counted_more place old = record { count = min (old.count + 1) (2 ^ 64 - 1); first = if old.count == 0 then place else old.first }

abbrev pub one_more : JudgeRule → ℕ → Counts → Counts
one_more rule place counts = record { by_rule = slice_set counts.by_rule (rule_number rule) (counted_more place (count_at counts rule)) }

abbrev pub one_more_if : Bool → JudgeRule → ℕ → Counts → Counts
one_more_if broken rule place counts = if broken then one_more rule place counts else counts

-- the rules that the next entry of a master breaks, of these
abbrev pub counted : JudgeView → Entry → ℕ → List JudgeRule → Counts → Counts
counted judge entry place [] counts = counts
counted judge entry place (rule ∷ rules) counts =
    counted judge entry place rules (one_more_if (breaks judge.retries judge.past entry rule) rule place counts)

abbrev pub first_seat : ℕ → ℕ → Seat
first_seat master retries = record {
  master = master;
  judge = record { retries = retries; past = [] };
  counts = no_counts;
  tested = record { requests = 0; exchanges = 0 };
}

-- one of these rules was broken, and that is an error
abbrev pub is_error_severity : Severity → Bool
is_error_severity severities.Error = true
is_error_severity severities.Warning = false

abbrev pub is_error : JudgeRule → Bool
is_error rule = is_error_severity (rule_severity rule)

abbrev pub is_failure : Counts → JudgeRule → Bool
is_failure counts rule = is_error rule && not ((count_at counts rule).count == 0)

abbrev pub has_error : Counts → List JudgeRule → Bool
has_error counts rules = list_any (is_failure counts) rules
