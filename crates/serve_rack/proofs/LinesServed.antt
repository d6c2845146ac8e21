-- The lines of a rack that is served, and what is written for them.
use Rattle.std.proofs.Common.{◌≡◌, ℕ, List, [], length, map, Bool, true, false, IfSome, Option, Some, None, Result, Ok, Err, inl, inr, refl, sym, ap, subst, ◌∙◌, arith}
use Rattle.std.specs.Borrow.{Bor}
use Rattle.std.specs.List.{flat_map}
use Rattle.std.specs.Io.KnownBytes.{Appends, Keeps}
use Rattle.std.proofs.lemmas.List.{append-nil, length-map}
use Rattle.std.proofs.lemmas.Slice.Zip.{AllZip-long}
use Rattle.dp_line.specs.declared.description.LineSpec.{LineSpec}
use Rattle.dp_sessions.specs.declared.port.LineAndClaims.{LineAndClaims}
use Rattle.dp_shared.specs.Claims.{Claiming}
use Rattle.dp_shared.specs.Content.{Content}
use Rattle.dp_shared.specs.declared.one_slot.OneSlot.{OneSlot}
use Rattle.audit_files.specs.AuditPaths.{IsFolderOrFileIn}
use Rattle.audit_files.specs.FileFaults.{IsRecordingFault, cause_of_break}
use Rattle.audit_files.specs.declared.audit_writer.CreateFault.{CreateFault}
use Rattle.audit_files.specs.declared.file_fault.FileFault.{FileFault}
use Rattle.audit_files.specs.declared.file_fault.FileFault.TheVariants as files
use Rattle.serve_faults.specs.declared.serve_fault.OutputFault.{OutputFault}
use Rattle.serve_faults.specs.declared.serve_fault.OutputFault.TheVariants as outputs
use Rattle.serve_faults.specs.declared.serve_fault.ServeFault.{ServeFault}
use Rattle.serve_faults.specs.declared.serve_fault.ServeFault.TheVariants as faults
use Rattle.serve_lines.specs.declared.served_line.ServedLine.{ServedLine}
use Rattle.dp_text.specs.Writes.{WritesPrefix}
use Rattle.serve_rack.specs.declared.serve.Served.{Served}
use Rattle.serve_lines.specs.ServedLines.{as_opened, line_numbers, masters_of, specs_of}
use Rattle.serve_lines.specs.MasterSessions.{AreServedAt, MasterPlace, place_at}
use Rattle.serve_lines.specs.OpenedLines.{AreOpened, IsPortOf}
use Rattle.serve_lines.specs.ReturnedPasses.{AllPaired, AreOfPort, PassList}
use Rattle.audit_trail.specs.declared.fault.TrailBreak.{TrailBreak}
use Rattle.audit_trail.specs.declared.fault.TrailBreak.TheVariants as breaks
use Rattle.serve_faults.specs.ServeFaults.{of_file_fault, of_output_fault}
use Rattle.serve_lines.specs.AuditTexts.{AreBrokenOff, AreClosed, AreWritten, IsJournalOf, WritesAudits, line_at, text_of}
use Rattle.serve_rack.specs.Serving.{HasLeft, most_reads}
use Rattle.serve_rack.specs.ServeOutput.{AreServed, AreServedInPart, AreServedTo, IsCauseOfBreak, IsIncomplete, ServesConnections, ServesLines}
use Rattle.serve_sessions.specs.Ready.{ready}
use Rattle.serve_lines.proofs.AnsweredMasters.{Fits, in_journals, lists_ours, paired_from}
use Rattle.serve_lines.proofs.Opening.{masters_at, opened_as_they_are, opened_masters, opened_numbers, opened_specs}
use Rattle.serve_lines.proofs.Writing.{appends_none, keeps_nothing, keeps_same}

-- ---- serving

-- what is served whole is also served in part
pub whole_in_part : (endless : Bool) (lines : List ServedLine) (a c : Option (List ℕ)) → AreServed endless lines a c → AreServedInPart endless lines a c
whole_in_part true lines a c said = (ready, [], sym (append-nil ready), said)
whole_in_part false lines a c (b, said, w) = inr (
  b,
  said,
  record {
    first = specs_of lines;
    later = [];
    lines_are = sym (append-nil (specs_of lines));
    journals = w.journals;
    each = w.each;
    written = (flat_map text_of w.journals, [], sym (append-nil (flat_map text_of w.journals)), w.written);
  },
)

-- a part of the audit texts is written after `ready`
pub served_in_part : (folder : Option (Bor (List ℕ))) (lines : List ServedLine) (specs : List LineSpec) (passes : List PassList) (a b c : Option (List ℕ)) (fault : OutputFault) → specs ≡ specs_of lines
    → Appends a b ready → WritesAudits specs passes b c (Err fault) → ServesLines folder false lines a c (Err (of_output_fault fault))
served_in_part folder lines specs passes a b c outputs.WriteFault same said w = inr (b, said, subst (λ ls. AreBrokenOff ls b c) same w)
served_in_part folder lines specs passes a b c outputs.OutOfMemory same said w = inr (b, said, subst (λ ls. AreBrokenOff ls b c) same w)
served_in_part folder lines specs passes a b c (outputs.CannotMakePorts cause) same said never = absurd never

-- a prefix of `ready` is a part of the output, also for endless lines
pub some_of_ready : (endless : Bool) (lines : List ServedLine) (a b : Option (List ℕ)) → WritesPrefix a b ready → AreServedInPart endless lines a b
some_of_ready true lines a b cut = cut
some_of_ready false lines a b cut = inl cut

-- `ready` is not written whole
pub served_not_at_all : (folder : Option (Bor (List ℕ))) (endless : Bool) (lines : List ServedLine) (places : List MasterPlace) (a b : Option (List ℕ)) (fault : OutputFault) → ServesConnections places a b (Err fault)
    → ServesLines folder endless lines a b (Err (of_output_fault fault))
served_not_at_all folder endless lines places a b outputs.WriteFault cut = some_of_ready endless lines a b cut
served_not_at_all folder endless lines places a b outputs.OutOfMemory same = some_of_ready endless lines a b ([], ready, refl, keeps_nothing a b same)
served_not_at_all folder endless lines places a b (outputs.CannotMakePorts cause) same = same

-- no audit text is begun for some line
pub served_unopened : (folder : Option (Bor (List ℕ))) (endless : Bool) (lines : List ServedLine) (old : Option (List ℕ)) (fault : FileFault) → IsRecordingFault folder (line_numbers lines) fault
    → ServesLines folder endless lines old old (Err (of_file_fault fault))
served_unopened folder endless lines old (files.CannotMake path cause) is = (is, keeps_same old)
served_unopened folder endless lines old files.OutOfMemory is = some_of_ready endless lines old old ([], ready, refl, appends_none old)

-- ---- sessions of masters

-- of endless lines, which are not closed
pub left_endless : {S V P : Type 0} (lines : List ServedLine) (ports : List (LineAndClaims (OneSlot S V LineSpec P) Claiming)) (served : Option Served) (passes : List PassList) (a b : Option (List ℕ))
    → AreOpened lines ports → HasLeft (map place_at ports) served passes → Appends a b ready → IfSome served (λ counts. AreServedTo true lines counts.masters a b)
left_endless lines ports (Some served) passes a b opened left said = (
  said,
  record {
    places = map place_at ports;
    of_lines = masters_at lines ports opened;
    workers = left.workers;
    sessions = left.sessions;
  },
)
left_endless lines ports None passes a b opened left said = tt

-- the passes that are left are of the lines at the ports
pub left_ours : {S V P : Type 0} (ports : List (LineAndClaims (OneSlot S V LineSpec P) Claiming)) (served : Option Served) (passes : List PassList) → HasLeft (map place_at ports) served passes
    → AllPaired AreOfPort ports passes
left_ours ports (Some served) passes left = lists_ours most_reads ports served.masters passes left
left_ours ports None passes left = subst (AllPaired AreOfPort ports) (sym left) (paired_from AreOfPort ports [] (λ i x y here there. absurd cc))

-- the audit texts of closed lines are written after `ready`
pub closed_whole : {S V P : Type 0} (lines : List ServedLine) (ports : List (LineAndClaims (OneSlot S V LineSpec P) Claiming)) (passes : List PassList) (a b c : Option (List ℕ))
    → AreOpened lines ports → Appends a b ready → AreClosed (map line_at ports) passes b c → AreServed false lines a c
closed_whole lines ports passes a b c opened said closed = (b, said, subst (λ ls. AreWritten ls b c) (opened_specs lines ports opened) closed.texts)

-- .. and the journals show what the sessions that are kept wrote
pub closed_to : {S V P : Type 0} (lines : List ServedLine) (ports : List (LineAndClaims (OneSlot S V LineSpec P) Claiming)) (served : Option Served) (passes : List PassList) (a b c : Option (List ℕ))
    → ((journal : Content) → Fits journal) → AreOpened lines ports → HasLeft (map place_at ports) served passes → Appends a b ready → AreClosed (map line_at ports) passes b c
    → IfSome served (λ counts. AreServedTo false lines counts.masters a c)
closed_to lines ports (Some served) passes a b c law opened left said closed =
    let here = subst (λ ls. AreClosed ls passes b c) (opened_specs lines ports opened) closed in
    let long = AllZip-long (λ line port. IsPortOf line.spec port) lines ports opened in
    let all = AllZip-long IsJournalOf (specs_of lines) here.texts.journals here.texts.each in (
      b,
      said,
      (
        here.texts,
        in_journals most_reads (map place_at ports) served.masters passes (masters_of lines) here.texts.journals law
            (omega (arith, long, all, length-map lines (λ (line : ServedLine). line.spec), length-map ports place_at)) (masters_at lines ports opened) left here.agree,
      ),
    )
closed_to lines ports None passes a b c law opened left said closed = tt

-- ---- results

-- the cause of a break is a cause why a file lacks an entry
pub cause_cuts : (endless : Bool) (refused : Option CreateFault) (why : TrailBreak) → IsCauseOfBreak endless (cause_of_break endless refused why)
cause_cuts true (Some fault) breaks.WriteFault = inr (inr (fault.kind, fault.number, refl))
cause_cuts true None breaks.WriteFault = inl refl
cause_cuts true (Some fault) breaks.Overtaken = inr (inl refl)
cause_cuts true None breaks.Overtaken = inr (inl refl)
cause_cuts false (Some fault) breaks.WriteFault = refl
cause_cuts false None breaks.WriteFault = refl
cause_cuts false (Some fault) breaks.Overtaken = refl
cause_cuts false None breaks.Overtaken = refl

-- endless lines with the same numbers and masters are served in the same way
same_numbers : (folder : Option (Bor (List ℕ))) (lines others : List ServedLine) (a b : Option (List ℕ)) (result : Result Served ServeFault)
    → line_numbers others ≡ line_numbers lines → masters_of others ≡ masters_of lines → ServesLines folder true others a b result → ServesLines folder true lines a b result
same_numbers folder lines others a b (Ok served) same masters (said, at) = (said, subst (AreServedAt most_reads served.masters) masters at)
same_numbers folder lines others a b (Err (faults.CannotMake path cause)) same masters is = subst (λ ns. IsFolderOrFileIn folder ns path × Keeps a b) same is
same_numbers folder lines others a b (Err (faults.CannotWrite path cause)) same masters is = subst (λ ns. IsIncomplete folder true ns path cause × Appends a b ready) same is
same_numbers folder lines others a b (Err (faults.CannotMakePorts cause)) same masters is = is
same_numbers folder lines others a b (Err faults.WriteFault) same masters is = is
same_numbers folder lines others a b (Err faults.OutOfMemory) same masters is = is
same_numbers folder lines others a b (Err (faults.Rack fault)) same masters never = absurd never
same_numbers folder lines others a b (Err (faults.CannotListen port cause)) same masters never = absurd never

-- what is served of lines as they were opened is served of these lines
pub served_as_opened : (folder : Option (Bor (List ℕ))) (endless : Bool) (lines opened : List ServedLine) (a b : Option (List ℕ)) (result : Result Served ServeFault)
    → opened ≡ map (as_opened endless) lines → ServesLines folder endless opened a b result → ServesLines folder endless lines a b result
served_as_opened folder true lines opened a b result same is =
    same_numbers folder lines opened a b result (ap line_numbers same ∙ opened_numbers true lines) (ap masters_of same ∙ opened_masters true lines) is
served_as_opened folder false lines opened a b result same is =
    subst (λ ls. ServesLines folder false ls a b result) (same ∙ opened_as_they_are lines) is
