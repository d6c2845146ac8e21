-- detail
-- How often each master broke each rule, as rows, as lines of JSON, and as JUnit XML (own).
use Rattle.std.specs.Prelude.{codes, ℕ, ◌==◌, if◌then◌else◌, List, [], ◌++◌}
use Rattle.std.specs.List.{flat_map}
use Rattle.std.specs.Fmt.{decimal}
use Rattle.judge_rules.specs.declared.rule.JudgeRule.{JudgeRule}
use Rattle.judge_rules.specs.declared.rule_rows.Severity.{Severity}
use Rattle.judge_rules.specs.declared.rule_rows.Severity.TheVariants as severities
use Rattle.judge_rules.specs.RuleNames.{rule_name, rule_severity, rule_text, severity_name}
use Rattle.judge_findings.specs.declared.seat.RuleCount.{RuleCount}
use Rattle.judge_findings.specs.declared.seat.Seat.{Seat}
use Rattle.judge_findings.specs.Counts.{count_at}
use Rattle.judge_findings.specs.Findings.{rule_fields}

-- ---- rows

abbrev pub named_rule : JudgeRule → List ℕ
named_rule rule = rule_name rule ++ codes " " ++ severity_name (rule_severity rule)

abbrev pub times_words : RuleCount → List ℕ
times_words count = decimal count.count ++ codes ", first at place " ++ decimal count.first

abbrev pub count_row : Seat → JudgeRule → List ℕ
count_row seat rule =
    if (count_at seat.counts rule).count == 0 then []
    else codes "  master " ++ decimal seat.master ++ codes " " ++ named_rule rule ++ codes " " ++ times_words (count_at seat.counts rule) ++ codes "\n"

abbrev pub rows_of_seat : List JudgeRule → Seat → List ℕ
rows_of_seat rules seat = flat_map (count_row seat) rules

-- ---- JSON

abbrev pub times_fields : RuleCount → List ℕ
times_fields count = codes "\"count\":" ++ decimal count.count ++ codes ",\"first\":" ++ decimal count.first

unfoldable pub count_fields : Seat → JudgeRule → List ℕ
count_fields seat rule =
    codes "\"master\":" ++ decimal seat.master ++ codes "," ++ rule_fields rule ++ codes "," ++ times_fields (count_at seat.counts rule)

abbrev pub count_line : Seat → JudgeRule → List ℕ
count_line seat rule =
    if (count_at seat.counts rule).count == 0 then [] else codes "{\"summary\":{" ++ count_fields seat rule ++ codes "}}\n"

abbrev pub lines_of_seat : List JudgeRule → Seat → List ℕ
lines_of_seat rules seat = flat_map (count_line seat) rules

-- ---- JUnit XML

-- what a test case has of a rule that was broken: an error is a failure, a warning only a text
abbrev pub case_body : Severity → JudgeRule → RuleCount → List ℕ
case_body severities.Error rule count =
    codes "<failure type=\"error\" message=\"" ++ times_words count ++ codes "\">" ++ rule_text rule ++ codes "</failure>"
case_body severities.Warning rule count =
    codes "<system-out>warning: " ++ times_words count ++ codes ": " ++ rule_text rule ++ codes "</system-out>"

abbrev pub case_inside : JudgeRule → RuleCount → List ℕ
case_inside rule count = if count.count == 0 then [] else case_body (rule_severity rule) rule count

unfoldable pub test_case : Seat → JudgeRule → List ℕ
test_case seat rule =
    codes "<testcase classname=\"master " ++ decimal seat.master ++ codes "\" name=\"" ++ rule_name rule ++ codes "\">"
    ++ case_inside rule (count_at seat.counts rule) ++ codes "</testcase>\n"

abbrev pub cases_of_seat : List JudgeRule → Seat → List ℕ
cases_of_seat rules seat = flat_map (test_case seat) rules
