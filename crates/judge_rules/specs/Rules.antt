-- promise
-- Which entries break which rule: each rule is a definition over the entries of a master so far and its next one.
use Rattle.std.specs.Prelude.{ℕ, Bool, false, List, filter}
use Rattle.judge_rules.specs.declared.bus.Bus.{Bus}
use Rattle.judge_rules.specs.declared.entry.Entry.{Entry}
use Rattle.judge_rules.specs.declared.entry.Entry.TheVariants as entries
use Rattle.judge_rules.specs.declared.entry.Request.{Request}
use Rattle.judge_rules.specs.declared.rule.JudgeRule.{JudgeRule}
use Rattle.judge_rules.specs.declared.rule.JudgeRule.TheVariants as rules
use Rattle.judge_rules.specs.declared.station.Station.{Station}
use Rattle.judge_rules.specs.RuleNames.{all_rules}
use Rattle.judge_rules.specs.BusFacts.{bus_of}
use Rattle.judge_rules.specs.Stations.{station_of}
use Rattle.judge_rules.specs.FcbRules.{fcb_first, fcb_not_allowed, fcb_not_alternated, fcb_repeated, fcv_not_set}
use Rattle.judge_rules.specs.BringUpRules.{cfg_before_prm, exchange_after_rs, exchange_before_ready, exchange_of_other, exchange_without_diag, prm_before_diag, prm_without_lock}
use Rattle.judge_rules.specs.ExchangeRules.{diag_not_read, extension_missing, is_stray_often, length_repeated, outputs_in_clear, retry_limit, watchdog_short}
use Rattle.judge_rules.specs.ParameterRules.{control_both, control_length, control_not_asked, control_reserved, group_not_set, lock_and_unlock, min_tsdr_low, prm_of_other, prm_reserved, prm_short, watchdog_zero}
use Rattle.judge_rules.specs.TelegramRules.{broadcast_needs_reply, control_with_srd, octets_not_allowed, sda_not_allowed, sdn_needs_reply, source_point, unknown_point}
use Rattle.judge_rules.specs.TokenRules.{broken_by_token, is_slave}

-- a request breaks a rule, by what the entries before it left; limit is the number of retries that are allowed
abbrev pub broken_by : ℕ → Bus → Station → Request → JudgeRule → Bool
broken_by limit bus station request rules.FcbRepeated = fcb_repeated station request
broken_by limit bus station request rules.FcbNotAlternated = fcb_not_alternated station request
broken_by limit bus station request rules.FcbFirst = fcb_first station request
broken_by limit bus station request rules.FcvNotSet = fcv_not_set station request
broken_by limit bus station request rules.FcbNotAllowed = fcb_not_allowed request
broken_by limit bus station request rules.RetryLimit = retry_limit limit bus request
broken_by limit bus station request rules.PrmBeforeDiag = prm_before_diag station request
broken_by limit bus station request rules.PrmWithoutLock = prm_without_lock station request
broken_by limit bus station request rules.CfgBeforePrm = cfg_before_prm station request
broken_by limit bus station request rules.ExchangeBeforeReady = exchange_before_ready station request
broken_by limit bus station request rules.ExchangeWithoutDiag = exchange_without_diag station request
broken_by limit bus station request rules.ExchangeAfterRs = exchange_after_rs station request
broken_by limit bus station request rules.ExchangeOfOther = exchange_of_other station request
broken_by limit bus station request rules.LengthRepeated = length_repeated station request
broken_by limit bus station request rules.DiagNotRead = diag_not_read station request
broken_by limit bus station request rules.ExtensionMissing = extension_missing station request
broken_by limit bus station request rules.OutputsInClear = outputs_in_clear bus request
broken_by limit bus station request rules.PrmOfOther = prm_of_other station request
broken_by limit bus station request rules.PrmShort = prm_short request
broken_by limit bus station request rules.PrmReserved = prm_reserved request
broken_by limit bus station request rules.LockAndUnlock = lock_and_unlock request
broken_by limit bus station request rules.MinTsdr = min_tsdr_low request
broken_by limit bus station request rules.WatchdogZero = watchdog_zero request
broken_by limit bus station request rules.WatchdogShort = watchdog_short bus station request
broken_by limit bus station request rules.GroupNotSet = group_not_set request
broken_by limit bus station request rules.ControlBoth = control_both request
broken_by limit bus station request rules.ControlReserved = control_reserved request
broken_by limit bus station request rules.ControlLength = control_length request
broken_by limit bus station request rules.ControlNotAsked = control_not_asked bus request
broken_by limit bus station request rules.ControlWithSrd = control_with_srd request
broken_by limit bus station request rules.SdnNeedsReply = sdn_needs_reply request
broken_by limit bus station request rules.BroadcastNeedsReply = broadcast_needs_reply request
broken_by limit bus station request rules.SdaNotAllowed = sda_not_allowed request
broken_by limit bus station request rules.UnknownPoint = unknown_point request
broken_by limit bus station request rules.SourcePoint = source_point request
broken_by limit bus station request rules.OctetsNotAllowed = octets_not_allowed request
broken_by limit bus station request rules.TokenToSlave = false
broken_by limit bus station request rules.NoRequest = false

-- octets that are no request of the master break a rule only by their number
abbrev pub broken_by_stray : Bus → JudgeRule → Bool
broken_by_stray bus rules.NoRequest = is_stray_often bus
broken_by_stray bus other = false

-- the next entry of a master breaks a rule, after these entries
abbrev pub breaks : ℕ → List Entry → Entry → JudgeRule → Bool
breaks limit past (entries.Request request) rule = broken_by limit (bus_of past) (station_of request.address past) request rule
breaks limit past (entries.PassedToken to) rule = broken_by_token (is_slave to past) rule
breaks limit past entries.Stray rule = broken_by_stray (bus_of past) rule

-- the rules that it breaks, in their order
abbrev pub broken_rules : ℕ → List Entry → Entry → List JudgeRule
broken_rules limit past entry = filter (breaks limit past entry) all_rules
