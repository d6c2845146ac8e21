use Rattle.std.proofs.Common.{◌≡◌, map, take}
use Rattle.dp_slave.proofs.slave.parsed.Given as goal

abbrev pub invariant-loop-cfg : goal.invariant-loop-cfg
invariant-loop-cfg l = l.configurations.items ≡ map (λ cfg. cfg.items) (take l.cfg-index l.cfgs)
