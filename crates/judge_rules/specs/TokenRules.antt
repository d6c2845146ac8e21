-- promise
-- The rule of the token that a master passes on (IEC 61158-4-3, token passing).
use Rattle.std.specs.Prelude.{ℕ, ◌==◌, ◌&&◌, Bool, false, List}
use Rattle.std.specs.List.{list_any}
use Rattle.judge_rules.specs.declared.entry.Entry.{Entry}
use Rattle.judge_rules.specs.declared.entry.Entry.TheVariants as entries
use Rattle.judge_rules.specs.declared.rule.JudgeRule.{JudgeRule}
use Rattle.judge_rules.specs.declared.rule.JudgeRule.TheVariants as rules
use Rattle.judge_rules.specs.Entries.{is_answered}

-- a request of the master that the station of an address answered
abbrev pub is_answered_by : ℕ → Entry → Bool
is_answered_by address (entries.Request request) = request.address == address && is_answered request.answer
is_answered_by address other = false

-- the station is a slave: it answered a request, which no other master of a rack does
abbrev pub is_slave : ℕ → List Entry → Bool
is_slave address past = list_any (is_answered_by address) past

-- token-to-slave: a token that is passed on to a slave, which takes none; it breaks no other rule
abbrev pub broken_by_token : Bool → JudgeRule → Bool
broken_by_token to_slave rules.TokenToSlave = to_slave
broken_by_token to_slave other = false
