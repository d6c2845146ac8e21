use Rattle.std.proofs.Common.{refl}
use Rattle.test_lines.proofs.clients.look_around.Goals as goal

pub returns-clause-recorded : goal.returns-clause-recorded
returns-clause-recorded c = λ place placed.
    rw (
      c.view.ensures,
      c.take-answer.ensures.world,
      c.each_slave_before_and_after.ensures.recorded c.args.line.now.world c.args.event.now place c.args.address (rw c.take-answer.ensures.answer at placed),
    ) refl

pub returns-clause-done : goal.returns-clause-done
returns-clause-done c = λ master octets reply telegram parts slave is spelt read at here done.
    rw (
      c.view.ensures,
      c.take-answer.ensures.world,
      is,
      at,
      c.a_request_does_its_service.ensures.reply c.args.line.now.world master octets reply telegram parts slave spelt read (rw at at here) (rw (c.take-answer.ensures.answer, is) at done),
    ) refl
