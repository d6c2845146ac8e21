-- helper
-- Examples of findings as rows and as lines of JSON. Each holds by computation.
use Rattle.std.specs.Prelude.{◌≡◌, codes, ℕ, Bool, true, false, [], ◌∷◌, Some, refl}
use Rattle.std.specs.Fmt.{digits}
use Rattle.dp_telegram.specs.declared.function_code.Function.TheVariants.{SrdHigh}
use Rattle.judge_rules.specs.declared.entry.Answer.TheVariants as answers
use Rattle.judge_rules.specs.declared.entry.Payload.{Payload}
use Rattle.judge_rules.specs.declared.entry.Entry.{Entry}
use Rattle.judge_rules.specs.declared.entry.Entry.TheVariants as entries
use Rattle.judge_rules.specs.declared.entry.Service.TheVariants as services
use Rattle.judge_rules.specs.declared.rule.JudgeRule.TheVariants as rules
use Rattle.judge_rules.specs.Judges.{JudgeView}
use Rattle.judge_findings.specs.Findings.{finding_fields, finding_lines_of, finding_rows_of, head_fields, head_words, octets_field, rule_fields, telegram_rows}

abbrev pub no_payload : Payload
no_payload = record { count = 0; is_zero = true; has_points = false }

-- Slave_Diag to slave 5 with FCV 1 and this FCB; the octet stands for the telegram
abbrev pub diag : Bool → ℕ → Entry
diag fcb octet =
    entries.Request (record { address = 5; function = SrdHigh; fcb = fcb; fcv = true; service = services.SlaveDiag; ssap = Some 62; payload = no_payload; octets = record { items = octet ∷ [] }; time = 0; answer = answers.Rs })

abbrev pub after_one : JudgeView
after_one = record { retries = 3; past = diag true 16 ∷ [] }

-- the FCB of the request before, with another telegram: both are shown
pub both_telegrams :
    finding_rows_of after_one (diag true 17) 2 1 rules.FcbRepeated
    ≡ codes "place 2 master 1 slave 5 fcb-repeated: the FCB of the request before to this slave, with another telegram\n  11\n  before 10\n"
unfolding digits head_words telegram_rows
both_telegrams = refl

-- another rule shows only its own telegram
pub one_telegram :
    finding_rows_of (record { retries = 3; past = [] }) (diag true 17) 1 1 rules.FcbFirst
    ≡ codes "place 1 master 1 slave 5 fcb-first: FCV 1 in the first request to this slave, or after one with FCV 0 and no answer\n  11\n"
unfolding digits head_words telegram_rows
one_telegram = refl

-- a rule that the entry keeps has no row
pub no_row : finding_rows_of after_one (diag true 17) 2 1 rules.FcbFirst ≡ []
no_row = refl

-- the same as lines of JSON
pub both_in_json :
    finding_lines_of after_one (diag true 17) 2 1 rules.FcbRepeated
    ≡ codes "{\"place\":2,\"master\":1,\"slave\":5,\"rule\":\"fcb-repeated\",\"severity\":\"error\",\"standard\":\"IEC 61158-4-3, frame count bit\",\"text\":\"the FCB of the request before to this slave, with another telegram\",\"octets\":\"11\",\"before\":\"10\"}\n"
unfolding digits finding_fields head_fields rule_fields octets_field
both_in_json = refl
