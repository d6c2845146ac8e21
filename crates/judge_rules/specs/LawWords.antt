-- helper
-- Words for the laws of all rules: which rules judge a telegram on its own, which by the services that a station was asked for, and which by the
-- requests to the station.
use Rattle.std.specs.Prelude.{Bool, true, false}
use Rattle.judge_rules.specs.declared.rule.JudgeRule.{JudgeRule}
use Rattle.judge_rules.specs.declared.rule.JudgeRule.TheVariants as rules

-- a rule of the request alone, and of its answer
abbrev pub is_of_the_telegram : JudgeRule → Bool
is_of_the_telegram rules.FcbNotAllowed = true
is_of_the_telegram rules.PrmShort = true
is_of_the_telegram rules.PrmReserved = true
is_of_the_telegram rules.LockAndUnlock = true
is_of_the_telegram rules.MinTsdr = true
is_of_the_telegram rules.WatchdogZero = true
is_of_the_telegram rules.GroupNotSet = true
is_of_the_telegram rules.ControlBoth = true
is_of_the_telegram rules.ControlReserved = true
is_of_the_telegram rules.ControlLength = true
is_of_the_telegram rules.ControlWithSrd = true
is_of_the_telegram rules.SdnNeedsReply = true
is_of_the_telegram rules.BroadcastNeedsReply = true
is_of_the_telegram rules.SdaNotAllowed = true
is_of_the_telegram rules.UnknownPoint = true
is_of_the_telegram rules.SourcePoint = true
is_of_the_telegram rules.OctetsNotAllowed = true
is_of_the_telegram other = false

-- a rule of the bring-up, of Data_Exchange or of Set_Prm that looks at no other stations
abbrev pub is_of_a_service : JudgeRule → Bool
is_of_a_service rules.PrmBeforeDiag = true
is_of_a_service rules.PrmWithoutLock = true
is_of_a_service rules.CfgBeforePrm = true
is_of_a_service rules.ExchangeBeforeReady = true
is_of_a_service rules.ExchangeWithoutDiag = true
is_of_a_service rules.ExchangeAfterRs = true
is_of_a_service rules.ExchangeOfOther = true
is_of_a_service rules.LengthRepeated = true
is_of_a_service rules.DiagNotRead = true
is_of_a_service rules.PrmOfOther = true
is_of_a_service rules.ExtensionMissing = true
is_of_a_service rules.PrmShort = true
is_of_a_service rules.PrmReserved = true
is_of_a_service rules.LockAndUnlock = true
is_of_a_service rules.MinTsdr = true
is_of_a_service rules.WatchdogZero = true
is_of_a_service other = false

-- a rule that looks at no entries but the requests to the station; a Global_Control to all stations matters to the watchdog and to outputs, and a
-- Set_Prm to any station to a Global_Control
abbrev pub is_of_a_station : JudgeRule → Bool
is_of_a_station rules.RetryLimit = false
is_of_a_station rules.NoRequest = false
is_of_a_station rules.OutputsInClear = false
is_of_a_station rules.WatchdogShort = false
is_of_a_station rules.ControlNotAsked = false
is_of_a_station other = true

-- a rule of the bring-up, with that of a Set_Prm to another master's slave
abbrev pub is_of_the_bring_up : JudgeRule → Bool
is_of_the_bring_up rules.PrmBeforeDiag = true
is_of_the_bring_up rules.PrmWithoutLock = true
is_of_the_bring_up rules.CfgBeforePrm = true
is_of_the_bring_up rules.ExchangeBeforeReady = true
is_of_the_bring_up rules.ExchangeWithoutDiag = true
is_of_the_bring_up rules.ExchangeAfterRs = true
is_of_the_bring_up rules.ExchangeOfOther = true
is_of_the_bring_up rules.PrmOfOther = true
is_of_the_bring_up other = false
