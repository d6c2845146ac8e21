use Rattle.rack_script.proofs.Readings.{sends_words}
use Rattle.rack_script.proofs.command.send.Goals as goal

pub returns : goal.returns
returns c = sends_words c.args.words.now c.next.new.self c.in_ok-next.field-0.now c.in_ok-digits.digits.now c.in_ok-master.master c.in_ok-next.ensures c.in_ok-digits.ensures c.in_ok-master.ensures
