use Rattle.std.proofs.Common.{subst, sym, ◌∙◌}
use Rattle.rack_file.specs.RackFile.{rack_in}
use Rattle.rackd_library.specs.Answers.{IsOpenedAs}
use Rattle.rackd_library.proofs.Openings.{opens_number, some_code, fails_number}
use Rattle.rackd_library.proofs.opening.rackd_open.Goals as goal

pub returns-in-Ok-clause-opened : goal.returns-in-Ok-clause-opened
returns-in-Ok-clause-opened c = λ zero. subst (IsOpenedAs c.args.endless (rack_in c.args.text.now)) (sym (c.hold.ensures.held zero)) c.in-Ok.ensures.opened

pub returns-in-Ok-clause-number : goal.returns-in-Ok-clause-number
returns-in-Ok-clause-number c = λ utf8 other. c.hold.ensures.number other ∙ opens_number c.args.endless (rack_in c.args.text.now) c.in-Ok.opened c.in-Ok.ensures.opened

pub returns-in-Err-clause-opened : goal.returns-in-Err-clause-opened
returns-in-Err-clause-opened c = λ zero. absurd (some_code c.in-Err.fault (sym c.number_of_fault.ensures ∙ zero))

pub returns-in-Err-clause-number : goal.returns-in-Err-clause-number
returns-in-Err-clause-number c = λ utf8 other. fails_number c.in-Err.fault (rack_in c.args.text.now) c.number_of_fault.result (c.in-Err.ensures.refused utf8) c.number_of_fault.ensures other
