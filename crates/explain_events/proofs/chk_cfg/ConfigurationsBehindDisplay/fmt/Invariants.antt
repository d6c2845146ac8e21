use Rattle.std.proofs.Common.{take, map}
use Rattle.std.specs.List.{flat_map}
use Rattle.std.specs.Fmt.{HasWritten, IsPlainFormatter}
use Rattle.explain_events.specs.Services.{configuration_behind}
use Rattle.explain_events.proofs.chk_cfg.ConfigurationsBehindDisplay.fmt.Given as goal

abbrev pub invariant-loop-configuration : goal.invariant-loop-configuration
invariant-loop-configuration g l =
    IsPlainFormatter l.initial.f → HasWritten g.W.Write.write_str_gives l.initial.f
    (flat_map configuration_behind (map (λ configuration. configuration.items) (take l.configuration-index l.configuration-items))) l.f
