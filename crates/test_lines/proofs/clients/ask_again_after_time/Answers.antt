use Rattle.std.proofs.Common.{refl}
use Rattle.test_lines.proofs.clients.ask_again_after_time.Goals as goal

pub returns : goal.returns
returns c = λ master octets reply rule telegram is spelt srd valid reported free. c.in_ok-answers.ensures master octets reply rule telegram is spelt srd valid reported (refl, tt) free
