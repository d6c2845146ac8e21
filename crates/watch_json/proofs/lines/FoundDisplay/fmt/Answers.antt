use Rattle.std.proofs.Common.{append_assoc, refl}
use Rattle.std.proofs.Output.{has_written_of_eq}
use Rattle.watch_json.specs.Lines.{found_json}
use Rattle.watch_json.proofs.lines.FoundDisplay.fmt.Goals as goal

pub returns-clause-writes : goal.returns-clause-writes
unfolding found_json
returns-clause-writes g c = λ plain ok.
    has_written_of_eq _ _ _ _ _
    (simp append_assoc
    (rw (← c.description.ensures, c.file.ensures, c.as_bytes.ensures.value, c.text_verdict_name.ensures, c.text_verdict.ensures) refl))
    (c.write.ensures.writes plain ok)
