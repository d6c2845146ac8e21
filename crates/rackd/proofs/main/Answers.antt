use denote.Param.Send.{sendable}
use Rattle.std.proofs.Common.{refl}
use Rattle.std.proofs.Crossing.{crosses}
use Rattle.rackd.proofs.main.Goals as goal

pub invoke-requires : goal.invoke-requires
invoke-requires g c κs =
    (λ a m. m, (λ a m. m, (search (sendable, crosses), (search (sendable, crosses), (search (sendable, crosses) depth 40 fits 100000, ((refl, tt), record { at = λ a. tt }))))))
