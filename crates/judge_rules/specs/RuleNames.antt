-- detail
-- The table of the rules: their numbers and names, how bad it is to break one, the part and the subject of the standard, and what they say.
use Rattle.std.specs.Prelude.{ℕ, codes, List}
use Rattle.judge_rules.specs.declared.rule.JudgeRule.{JudgeRule}
use Rattle.judge_rules.specs.declared.rule.JudgeRule.TheVariants as rules
use Rattle.judge_rules.specs.declared.rule.TheConstants.JudgeRule.{ALL}
use Rattle.judge_rules.specs.declared.rule_rows.Severity.{Severity}
use Rattle.judge_rules.specs.declared.rule_rows.Severity.TheVariants as severities
use Rattle.judge_rules.specs.declared.rule_rows.Source.{Source}
use Rattle.judge_rules.specs.declared.rule_rows.Source.TheVariants as sources

-- number is its index among all rules, from 0; text says what a master does that breaks it
pub record RuleWords : Type 0 where
  pub number : ℕ
  pub name : List ℕ
  pub severity : Severity
  pub source : Source
  pub text : List ℕ

abbrev pub rule_row : JudgeRule → RuleWords
rule_row rules.FcbRepeated = record { number = 0; name = codes "fcb-repeated"; severity = severities.Error; source = sources.FrameCountBit; text = codes "the FCB of the request before to this slave, with another telegram" }
rule_row rules.FcbNotAlternated = record { number = 1; name = codes "fcb-not-alternated"; severity = severities.Error; source = sources.FrameCountBit; text = codes "the request before to this slave again, though it was answered" }
rule_row rules.FcbFirst = record { number = 2; name = codes "fcb-first"; severity = severities.Error; source = sources.FrameCountBit; text = codes "FCV 1 in the first request to this slave, or after one with FCV 0 and no answer" }
rule_row rules.FcvNotSet = record { number = 3; name = codes "fcv-not-set"; severity = severities.Error; source = sources.FrameCountBit; text = codes "FCV 0 again, though the request before to this slave, another telegram, was answered" }
rule_row rules.FcbNotAllowed = record { number = 4; name = codes "fcb-not-allowed"; severity = severities.Error; source = sources.FrameCountBit; text = codes "FCB or FCV is set, and the function has neither" }
rule_row rules.RetryLimit = record { number = 5; name = codes "retry-limit"; severity = severities.Warning; source = sources.Retry; text = codes "one retry more than the limit allows, with no answer to any" }
rule_row rules.PrmBeforeDiag = record { number = 6; name = codes "prm-before-diag"; severity = severities.Error; source = sources.BringUp; text = codes "Set_Prm, though this slave never answered Slave_Diag" }
rule_row rules.PrmWithoutLock = record { number = 7; name = codes "prm-without-lock"; severity = severities.Warning; source = sources.BringUp; text = codes "Set_Prm without Lock_Req, though this slave needs parameters" }
rule_row rules.CfgBeforePrm = record { number = 8; name = codes "cfg-before-prm"; severity = severities.Error; source = sources.BringUp; text = codes "Chk_Cfg, though no Set_Prm was acknowledged since the slave needed parameters" }
rule_row rules.ExchangeBeforeReady = record { number = 9; name = codes "exchange-before-ready"; severity = severities.Error; source = sources.BringUp; text = codes "Data_Exchange, though the slave did not report that it is ready" }
rule_row rules.ExchangeWithoutDiag = record { number = 10; name = codes "exchange-without-diag"; severity = severities.Error; source = sources.BringUp; text = codes "Data_Exchange after Chk_Cfg, with no Slave_Diag between them" }
rule_row rules.ExchangeAfterRs = record { number = 11; name = codes "exchange-after-rs"; severity = severities.Error; source = sources.DataExchange; text = codes "Data_Exchange goes on after RS" }
rule_row rules.ExchangeOfOther = record { number = 12; name = codes "exchange-of-other"; severity = severities.Error; source = sources.DataExchange; text = codes "Data_Exchange, though the diagnosis showed another master" }
rule_row rules.LengthRepeated = record { number = 13; name = codes "length-repeated"; severity = severities.Error; source = sources.DataExchange; text = codes "a wrong length again: UE, as for an earlier Data_Exchange" }
rule_row rules.DiagNotRead = record { number = 14; name = codes "diag-not-read"; severity = severities.Error; source = sources.DataExchange; text = codes "the fourth Data_Exchange after DH, with no Slave_Diag since" }
rule_row rules.ExtensionMissing = record { number = 15; name = codes "extension-missing"; severity = severities.Error; source = sources.AddressExtension; text = codes "a refused Data_Exchange whose data begin with access points: bit 7 of DA and SA is not set" }
rule_row rules.OutputsInClear = record { number = 16; name = codes "outputs-in-clear"; severity = severities.Error; source = sources.GlobalControl; text = codes "outputs other than zero after Clear_Data to all slaves" }
rule_row rules.PrmOfOther = record { number = 17; name = codes "prm-of-other"; severity = severities.Error; source = sources.SetPrm; text = codes "Set_Prm, though the diagnosis showed another master" }
rule_row rules.PrmShort = record { number = 18; name = codes "prm-short"; severity = severities.Error; source = sources.SetPrm; text = codes "Set_Prm of less than seven octets" }
rule_row rules.PrmReserved = record { number = 19; name = codes "prm-reserved"; severity = severities.Error; source = sources.SetPrm; text = codes "a reserved bit of the first octet of Set_Prm is set" }
rule_row rules.LockAndUnlock = record { number = 20; name = codes "lock-and-unlock"; severity = severities.Warning; source = sources.SetPrm; text = codes "Set_Prm with Lock_Req and Unlock_Req: the slave is released" }
rule_row rules.MinTsdr = record { number = 21; name = codes "min-tsdr"; severity = severities.Error; source = sources.SetPrm; text = codes "min TSDR is 1 to 10, and 11 is the least" }
rule_row rules.WatchdogZero = record { number = 22; name = codes "watchdog-zero"; severity = severities.Error; source = sources.SetPrm; text = codes "WD_On is set, and a factor of the watchdog is 0" }
rule_row rules.WatchdogShort = record { number = 23; name = codes "watchdog-short"; severity = severities.Warning; source = sources.SetPrm; text = codes "no SRD to this slave for its watchdog time or longer" }
rule_row rules.GroupNotSet = record { number = 24; name = codes "group-not-set"; severity = severities.Warning; source = sources.GlobalControl; text = codes "no slave that the master holds has one of these groups in its parameters" }
rule_row rules.ControlBoth = record { number = 25; name = codes "control-both"; severity = severities.Warning; source = sources.GlobalControl; text = codes "Freeze with Unfreeze, or Sync with Unsync" }
rule_row rules.ControlReserved = record { number = 26; name = codes "control-reserved"; severity = severities.Error; source = sources.GlobalControl; text = codes "a reserved bit of Control_Command is set" }
rule_row rules.ControlLength = record { number = 27; name = codes "control-length"; severity = severities.Error; source = sources.GlobalControl; text = codes "Global_Control of other than two octets" }
rule_row rules.ControlNotAsked = record { number = 28; name = codes "control-not-asked"; severity = severities.Warning; source = sources.GlobalControl; text = codes "Sync or Freeze, though no Set_Prm asked for it" }
rule_row rules.ControlWithSrd = record { number = 29; name = codes "control-with-srd"; severity = severities.Error; source = sources.GlobalControl; text = codes "Global_Control by SRD, and it has no reply" }
rule_row rules.SdnNeedsReply = record { number = 30; name = codes "sdn-needs-reply"; severity = severities.Error; source = sources.FunctionCode; text = codes "SDN, which has no reply, to a service that has one" }
rule_row rules.BroadcastNeedsReply = record { number = 31; name = codes "broadcast-needs-reply"; severity = severities.Error; source = sources.FunctionCode; text = codes "a function with a reply, to all stations" }
rule_row rules.SdaNotAllowed = record { number = 32; name = codes "sda-not-allowed"; severity = severities.Error; source = sources.FunctionCode; text = codes "SDA, and the services of DP are SRD and SDN" }
rule_row rules.UnknownPoint = record { number = 33; name = codes "unknown-point"; severity = severities.Warning; source = sources.AccessPoints; text = codes "a point that DP-V0 does not have" }
rule_row rules.SourcePoint = record { number = 34; name = codes "source-point"; severity = severities.Error; source = sources.AccessPoints; text = codes "the access point of the master is not 62" }
rule_row rules.OctetsNotAllowed = record { number = 35; name = codes "octets-not-allowed"; severity = severities.Error; source = sources.AccessPoints; text = codes "data in a request that has none: Slave_Diag, Get_Cfg, RD_Inp or RD_Outp" }
rule_row rules.TokenToSlave = record { number = 36; name = codes "token-to-slave"; severity = severities.Error; source = sources.TokenPassing; text = codes "the token to a slave: the station has answered a request, and slaves take no token" }
rule_row rules.NoRequest = record { number = 37; name = codes "no-request"; severity = severities.Warning; source = sources.FunctionCode; text = codes "the fourth of a hundred entries that is no request of this master" }

-- all rules, in the order in which an entry is judged
abbrev pub all_rules : List JudgeRule
all_rules = ALL

abbrev pub severity_name : Severity → List ℕ
severity_name severities.Error = codes "error"
severity_name severities.Warning = codes "warning"

abbrev pub source_name : Source → List ℕ
source_name sources.FrameCountBit = codes "IEC 61158-4-3, frame count bit"
source_name sources.Retry = codes "IEC 61158-4-3, retry"
source_name sources.FunctionCode = codes "IEC 61158-4-3, function code of a request"
source_name sources.TokenPassing = codes "IEC 61158-4-3, token passing"
source_name sources.AddressExtension = codes "IEC 61158-4-3, address extension"
source_name sources.BringUp = codes "IEC 61158-6-3, bring-up of a slave"
source_name sources.DataExchange = codes "IEC 61158-6-3, Data_Exchange"
source_name sources.SetPrm = codes "IEC 61158-6-3, Set_Prm request"
source_name sources.GlobalControl = codes "IEC 61158-6-3, Global_Control request"
source_name sources.AccessPoints = codes "IEC 61158-6-3, service access points"

abbrev pub rule_number : JudgeRule → ℕ
rule_number rule = (rule_row rule).number

abbrev pub rule_name : JudgeRule → List ℕ
rule_name rule = (rule_row rule).name

abbrev pub rule_severity : JudgeRule → Severity
rule_severity rule = (rule_row rule).severity

abbrev pub rule_subject : JudgeRule → List ℕ
rule_subject rule = source_name (rule_row rule).source

abbrev pub rule_text : JudgeRule → List ℕ
rule_text rule = (rule_row rule).text
