-- A command to a rack that a script runs on, by what it leaves of the chosen line.
use Rattle.std.proofs.Common.{◌≡◌, ℕ, true, List, set, Option, Some, None, Result, Ok, Err, OnOk, OnErr, IfErr, refl, sym, ap, subst, ◌∙◌}
use Rattle.std.specs.Prelude.{is_some, slice_get, option_map, option_and_then}
use Rattle.std.specs.Io.KnownBytes.{Appends}
use Rattle.embedded_rack.specs.declared.obey_fault.ObeyFault.{ObeyFault}
use Rattle.embedded_rack.specs.declared.obey_fault.ObeyFault.TheVariants as stops
use Rattle.dp_text.specs.declared.op_line.OpLine.{OpLine}
use Rattle.rack_script.specs.Commands.{send, operate}
use Rattle.embedded_rack.specs.EmbeddedLines.{EmbeddedLine, Sent, sent, operated}
use Rattle.rack_script.specs.ScriptText.{ScriptRack, Obeyed, obeyed, obeyed_by_line}
use Rattle.dp_text.specs.Writes.{WritesPrefix}
use Rattle.embedded_rack.specs.Sends.{Sends}
use Rattle.rack_script.specs.Runs.{Obeys}
use Rattle.embedded_rack.proofs.Sending.{ends, on_ok}

by_line : (lines : List EmbeddedLine) (chosen : ℕ) (following : EmbeddedLine) (old new : Option (List ℕ)) (r : Result (Unit {0}) ObeyFault) (sending : Option Sent) → Sends sending following old new r
    → Obeys (option_map (obeyed_by_line (record { lines = lines; chosen = chosen })) sending) (record { lines = set lines chosen following; chosen = chosen }) old new r
by_line lines chosen following old new (Ok done) (Some sending) s = (ap (λ f. record { lines = set lines chosen f; chosen = chosen }) s.0, s.1)
by_line lines chosen following old new (Err stops.WriteFault) (Some sending) s = s
by_line lines chosen following old new (Err stops.NoCommand) (Some sending) s = absurd s
by_line lines chosen following old new (Ok done) None s = absurd s
by_line lines chosen following old new (Err stops.WriteFault) None s = absurd s
by_line lines chosen following old new (Err stops.NoCommand) None s = s

sent_by : (lines : List EmbeddedLine) (chosen : ℕ) (line : EmbeddedLine) (master : ℕ) (octets : Option (List ℕ)) → slice_get lines chosen ≡ Some line
    → option_map (obeyed_by_line (record { lines = lines; chosen = chosen })) (option_and_then (sent line master) octets)
    ≡ option_and_then (obeyed (record { lines = lines; chosen = chosen })) (option_map (send master) octets)
sent_by lines chosen line master None is = refl
sent_by lines chosen line master (Some octets) is =
    sym (ap (option_and_then (λ line. option_map (obeyed_by_line (record { lines = lines; chosen = chosen })) (sent line master octets))) is)

-- a master sends the octets of words to the chosen line, if they are hex digits
pub obeys_send : (lines : List EmbeddedLine) (chosen : ℕ) (line following : EmbeddedLine) (master : ℕ) (octets : Option (List ℕ)) (old new : Option (List ℕ)) (r : Result (Unit {0}) ObeyFault)
    → slice_get lines chosen ≡ Some line → Sends (option_and_then (sent line master) octets) following old new r
    → Obeys (option_and_then (obeyed (record { lines = lines; chosen = chosen })) (option_map (send master) octets)) (record { lines = set lines chosen following; chosen = chosen }) old new r
obeys_send lines chosen line following master octets old new r is s =
    subst (λ (o : Option Obeyed). Obeys o (record { lines = set lines chosen following; chosen = chosen }) old new r) (sent_by lines chosen line master octets is)
    (by_line lines chosen following old new r (option_and_then (sent line master) octets) s)

-- the line after a command, and its text written
wrote : (lines : List EmbeddedLine) (chosen : ℕ) (following : EmbeddedLine) (text : List ℕ) (sending : Sent) (old new : Option (List ℕ)) (r : Result (Unit {0}) ObeyFault)
    → record { line = following; text = text } ≡ sending
    → OnOk r (Appends old new text) → OnErr r (WritesPrefix old new text) → IfErr r (λ stop. stop ≡ stops.WriteFault)
    → Obeys (Some (obeyed_by_line (record { lines = lines; chosen = chosen }) sending)) (record { lines = set lines chosen following; chosen = chosen }) old new r
wrote lines chosen following text sending old new r is ok err fault =
    by_line lines chosen following old new r (Some sending)
    (subst (λ s. Sends (Some s) following old new r) is (ends (record { line = following; text = text }) following old new r (on_ok r refl) ok err fault))

-- a line of the operator is obeyed on the chosen line
does_op : (lines : List EmbeddedLine) (chosen : ℕ) (line following : EmbeddedLine) (said : Option OpLine) (op : OpLine) (text : List ℕ) (old new : Option (List ℕ)) (r : Result (Unit {0}) ObeyFault)
    → slice_get lines chosen ≡ Some line → said ≡ Some op → record { line = following; text = text } ≡ operated line op
    → OnOk r (Appends old new text) → OnErr r (WritesPrefix old new text) → IfErr r (λ stop. stop ≡ stops.WriteFault)
    → Obeys (option_and_then (obeyed (record { lines = lines; chosen = chosen })) (option_map operate said)) (record { lines = set lines chosen following; chosen = chosen }) old new r
does_op lines chosen line following said op text old new r is says done ok err fault =
    let script_rack : ScriptRack = record { lines = lines; chosen = chosen } in
    let here : option_and_then (obeyed script_rack) (option_map operate said) ≡ Some (obeyed_by_line script_rack (operated line op)) =
    ap (λ (o : Option OpLine). option_and_then (obeyed script_rack) (option_map operate o)) says
    ∙ ap (option_map (λ l. obeyed_by_line script_rack (operated l op))) is in
    subst (λ (o : Option Obeyed). Obeys o (record { lines = set lines chosen following; chosen = chosen }) old new r) (sym here)
    (wrote lines chosen following text (operated line op) old new r done ok err fault)

-- a line of the operator is obeyed on the chosen line after it was read
pub obeys_op : (lines : List EmbeddedLine) (chosen : ℕ) (line following : EmbeddedLine) (said : Option OpLine) (read : Option (Unit {0})) (text : List ℕ) (old new : Option (List ℕ)) (r : Result (Unit {0}) ObeyFault)
    → slice_get lines chosen ≡ Some line → is_some read ≡ true → option_map (λ (d : Unit {0}). record { line = following; text = text }) read ≡ option_map (operated line) said
    → OnOk r (Appends old new text) → OnErr r (WritesPrefix old new text) → IfErr r (λ stop. stop ≡ stops.WriteFault)
    → Obeys (option_and_then (obeyed (record { lines = lines; chosen = chosen })) (option_map operate said)) (record { lines = set lines chosen following; chosen = chosen }) old new r
obeys_op lines chosen line following said None text old new r is some done ok err fault = absurd cc
obeys_op lines chosen line following None (Some d) text old new r is some done ok err fault = absurd cc
obeys_op lines chosen line following (Some op) (Some d) text old new r is some done ok err fault =
    let left : record { line = following; text = text } ≡ operated line op = cc in
    does_op lines chosen line following (Some op) op text old new r is refl left ok err fault
