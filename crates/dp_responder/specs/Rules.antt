-- promise
-- The rules: their numbers and names, and the rule that the rows of a verdict give (own).
use Rattle.std.specs.Prelude.{ℕ, codes, Bool, true, false, ◌==◌, if◌then◌else◌, List, [], ◌∷◌, Option, Some, None}
use Rattle.dp_responder.specs.declared.rule.Rule.{Rule}
use Rattle.dp_responder.specs.declared.rule.Rule.TheVariants as rules

-- the rules in the order of the verdict, except NotListed, which comes after NotHolder there and has the last number
abbrev pub rule_code : Rule → ℕ
rule_code rules.Halted = 1
rule_code rules.NoFrame = 2
rule_code rules.NoMaster = 3
rule_code rules.ForeignSender = 4
rule_code rules.Token = 5
rule_code rules.NotRequest = 6
rule_code rules.BadFunction = 7
rule_code rules.BadExtension = 8
rule_code rules.BadBroadcast = 9
rule_code rules.NoStation = 10
rule_code rules.Status = 11
rule_code rules.NoService = 12
rule_code rules.Repeat = 13
rule_code rules.NotActive = 14
rule_code rules.NotHolder = 15
rule_code rules.Busy = 16
rule_code rules.Length = 17
rule_code rules.NotSelected = 18
rule_code rules.Done = 19
rule_code rules.NotListed = 20

abbrev pub rule_name : Rule → List ℕ
rule_name rules.Halted = codes "Halted"
rule_name rules.NoFrame = codes "NoFrame"
rule_name rules.NoMaster = codes "NoMaster"
rule_name rules.ForeignSender = codes "ForeignSender"
rule_name rules.Token = codes "Token"
rule_name rules.NotRequest = codes "NotRequest"
rule_name rules.BadFunction = codes "BadFunction"
rule_name rules.BadExtension = codes "BadExtension"
rule_name rules.BadBroadcast = codes "BadBroadcast"
rule_name rules.NoStation = codes "NoStation"
rule_name rules.Status = codes "Status"
rule_name rules.NoService = codes "NoService"
rule_name rules.Repeat = codes "Repeat"
rule_name rules.NotActive = codes "NotActive"
rule_name rules.NotHolder = codes "NotHolder"
rule_name rules.Busy = codes "Busy"
rule_name rules.Length = codes "Length"
rule_name rules.NotSelected = codes "NotSelected"
rule_name rules.Done = codes "Done"
rule_name rules.NotListed = codes "NotListed"

-- all rules, in the order of the verdict
abbrev pub all_rules : List Rule
all_rules =
    rules.Halted ∷ rules.NoFrame ∷ rules.NoMaster ∷ rules.ForeignSender ∷ rules.Token ∷ rules.NotRequest ∷ rules.BadFunction
    ∷ rules.BadExtension ∷ rules.BadBroadcast ∷ rules.NoStation ∷ rules.Status ∷ rules.NoService ∷ rules.Repeat ∷ rules.NotActive
    ∷ rules.NotHolder ∷ rules.NotListed ∷ rules.Busy ∷ rules.Length ∷ rules.NotSelected ∷ rules.Done ∷ []

-- the first of these rules that has this number
abbrev pub first_of : ℕ → List Rule → Option Rule
first_of code [] = None
first_of code (rule ∷ others) = if rule_code rule == code then Some rule else first_of code others

-- the rule of this number
unfoldable pub rule_of : ℕ → Option Rule
rule_of code = first_of code all_rules

-- a rule by which what a request asks for is refused: Status, Repeat and Done answer it, and a token and a response ask for nothing (own)
abbrev pub is_refusal : Rule → Bool
is_refusal rules.Halted = true
is_refusal rules.NoFrame = true
is_refusal rules.NoMaster = true
is_refusal rules.ForeignSender = true
is_refusal rules.Token = false
is_refusal rules.NotRequest = false
is_refusal rules.BadFunction = true
is_refusal rules.BadExtension = true
is_refusal rules.BadBroadcast = true
is_refusal rules.NoStation = true
is_refusal rules.Status = false
is_refusal rules.NoService = true
is_refusal rules.Repeat = false
is_refusal rules.NotActive = true
is_refusal rules.NotHolder = true
is_refusal rules.NotListed = true
is_refusal rules.Busy = true
is_refusal rules.Length = true
is_refusal rules.NotSelected = true
is_refusal rules.Done = false

-- the rule of the first row whose condition holds; Done if there is none
abbrev pub first_row : List (Bool × Rule) → Rule
first_row [] = rules.Done
first_row (row ∷ rows) = if row.0 then row.1 else first_row rows
