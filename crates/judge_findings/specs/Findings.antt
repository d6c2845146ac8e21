-- detail
-- The findings of an entry, as rows and as lines of JSON (own).
use Rattle.std.specs.Prelude.{codes, ℕ, ◌==◌, if◌then◌else◌, Bool, true, false, List, [], ◌++◌, Option, Some, None}
use Rattle.std.specs.List.{flat_map}
use Rattle.std.specs.Fmt.{decimal}
use Rattle.explain_octets.specs.Words.{hex_pair, hex_text}
use Rattle.dp_telegram.specs.Access.{global_address}
use Rattle.judge_rules.specs.declared.entry.Entry.{Entry}
use Rattle.judge_rules.specs.declared.entry.Entry.TheVariants as entries
use Rattle.judge_rules.specs.declared.rule.JudgeRule.{JudgeRule}
use Rattle.judge_rules.specs.declared.rule.JudgeRule.TheVariants as rules
use Rattle.judge_rules.specs.Before.{srd_before}
use Rattle.judge_rules.specs.Judges.{JudgeView}
use Rattle.judge_rules.specs.RuleNames.{rule_name, rule_severity, rule_subject, rule_text, severity_name}
use Rattle.judge_rules.specs.Rules.{breaks}

abbrev pub address_words : ℕ → List ℕ
address_words address = if address == global_address then codes " all slaves" else codes " slave " ++ decimal address

abbrev pub receiver_words : Entry → List ℕ
receiver_words (entries.Request request) = address_words request.address
receiver_words (entries.PassedToken to) = codes " slave " ++ decimal to
receiver_words entries.Stray = []

abbrev pub octets_of_entry : Entry → List ℕ
octets_of_entry (entries.Request request) = request.octets.items
octets_of_entry other = []

abbrev pub octets_row : Entry → List ℕ
octets_row (entries.Request request) = codes "  " ++ hex_text request.octets.items ++ codes "\n"
octets_row other = []

abbrev pub rule_words : JudgeRule → List ℕ
rule_words rule = rule_name rule ++ codes ": " ++ rule_text rule

-- a finding of this rule shows the telegram before as well, since the rule compares both
abbrev pub shows_before : JudgeRule → Bool
shows_before rules.FcbRepeated = true
shows_before other = false

-- the last SRD before the entry to the same station, if the rule shows it
abbrev pub shown_before : JudgeView → Entry → JudgeRule → Option (List ℕ)
shown_before judge entry rule = if shows_before rule then srd_before judge.past entry else None

-- ---- rows

abbrev pub before_row : Option (List ℕ) → List ℕ
before_row None = []
before_row (Some octets) = codes "  before " ++ hex_text octets ++ codes "\n"

unfoldable pub telegram_rows : JudgeView → Entry → JudgeRule → List ℕ
telegram_rows judge entry rule = octets_row entry ++ before_row (shown_before judge entry rule)

unfoldable pub head_words : Entry → ℕ → ℕ → List ℕ
head_words entry place master = codes "place " ++ decimal place ++ codes " master " ++ decimal master ++ receiver_words entry

abbrev pub finding_row : JudgeView → Entry → ℕ → ℕ → JudgeRule → List ℕ
finding_row judge entry place master rule =
    head_words entry place master ++ codes " " ++ rule_words rule ++ codes "\n" ++ telegram_rows judge entry rule

-- the row of a rule; none if the entry keeps it
abbrev pub finding_rows_of : JudgeView → Entry → ℕ → ℕ → JudgeRule → List ℕ
finding_rows_of judge entry place master rule =
    if breaks judge.retries judge.past entry rule then finding_row judge entry place master rule else []

-- ---- JSON

abbrev pub slave_json : Entry → List ℕ
slave_json (entries.Request request) = decimal request.address
slave_json (entries.PassedToken to) = decimal to
slave_json entries.Stray = codes "null"

unfoldable pub rule_fields : JudgeRule → List ℕ
rule_fields rule =
    codes "\"rule\":\"" ++ rule_name rule ++ codes "\",\"severity\":\"" ++ severity_name (rule_severity rule)
    ++ codes "\",\"standard\":\"" ++ rule_subject rule ++ codes "\",\"text\":\"" ++ rule_text rule ++ codes "\""

unfoldable pub head_fields : Entry → ℕ → ℕ → List ℕ
head_fields entry place master =
    codes "\"place\":" ++ decimal place ++ codes ",\"master\":" ++ decimal master ++ codes ",\"slave\":" ++ slave_json entry

unfoldable pub octets_field : Entry → List ℕ
octets_field entry = codes "\"octets\":\"" ++ flat_map hex_pair (octets_of_entry entry) ++ codes "\""

abbrev pub before_field : Option (List ℕ) → List ℕ
before_field None = []
before_field (Some octets) = codes ",\"before\":\"" ++ flat_map hex_pair octets ++ codes "\""

unfoldable pub finding_fields : JudgeView → Entry → ℕ → ℕ → JudgeRule → List ℕ
finding_fields judge entry place master rule =
    head_fields entry place master ++ codes "," ++ rule_fields rule ++ codes "," ++ octets_field entry
    ++ before_field (shown_before judge entry rule)

abbrev pub finding_line : JudgeView → Entry → ℕ → ℕ → JudgeRule → List ℕ
finding_line judge entry place master rule = codes "{" ++ finding_fields judge entry place master rule ++ codes "}\n"

abbrev pub finding_lines_of : JudgeView → Entry → ℕ → ℕ → JudgeRule → List ℕ
finding_lines_of judge entry place master rule =
    if breaks judge.retries judge.past entry rule then finding_line judge entry place master rule else []
