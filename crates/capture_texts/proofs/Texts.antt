-- What is left when the capture of a text ends.
use Rattle.std.proofs.Common.{◌≡◌, ℕ, ◌+◌, Bool, true, false, List, [], ◌∷◌, ◌++◌, Option, Some, None, Result, Ok, Err, refl, sym, ap, subst, ◌∙◌}
use Rattle.std.specs.Io.KnownBytes.{Appends}
use Rattle.std.proofs.lemmas.List.{append-nil}
use Rattle.dp_line.specs.World.{Description, World}
use Rattle.dp_text.specs.Writes.{WritesPrefix}
use Rattle.dp_audit.specs.FirstWrong.{HasNoLf}
use Rattle.dp_audit.specs.declared.fault.AuditFault.{AuditFault}
use Rattle.dp_audit.specs.declared.fault.AuditFault.TheVariants.{BadLine}
use Rattle.dp_audit.specs.Check.{checked, is_accepted_header, judged_line}
use Rattle.dp_audit.proofs.Written.{appends_more, front_prefix, more_prefix}
use Rattle.capture_texts.specs.Blocks.{Block, capture_octets}
use Rattle.explain_texts.specs.declared.read_fault.ReadFault.{ReadFault}
use Rattle.explain_texts.specs.declared.read_fault.ReadFault.TheVariants as reads
use Rattle.explain_texts.specs.Followed.{FollowerView, after_row, first_wrong, verdict_by}
use Rattle.explain_texts.specs.TextRows.{TextRead, lf_if, octets_read}
use Rattle.explain_texts.proofs.CheckedRows.{judged_at_end, judged_wrong}
use Rattle.explain_texts.proofs.ReadRows.{no_header, not_whole}
use Rattle.explain_texts.proofs.RightRows.{fails, right_is_step, step_counts}
use Rattle.explain_texts.proofs.WrongRow.{any_choice}
use Rattle.rack_script.specs.declared.run_fault.RunFault.{RunFault}
use Rattle.rack_script.specs.declared.run_fault.RunFault.TheVariants as runs
use Rattle.rack_script.specs.ReadFaults.{run_fault_of_read}
use Rattle.capture_texts.specs.declared.row_fault.Cut.{Cut}
use Rattle.capture_texts.specs.declared.row_fault.Cut.TheVariants as cuts
use Rattle.capture_texts.specs.Captured.{captured_rows, captured_text}
use Rattle.capture_texts.specs.Captures.{CapturesText, Ends, run_fault_of_cut, WritesCapture}
use Rattle.capture_texts.proofs.Rows.{AreCaptured, IsRefused, IsTaken, cut_captured, end_captured, unread_captured, wrong_captured}
use Rattle.capture_texts.proofs.Deciding.{header_refused, part_refused}

-- ---- one more entry

pub counts : (number : ℕ) (follower after : FollowerView) (world : World) (row : List ℕ) (old new : Option (List ℕ)) → IsTaken number (judged_line follower.known.context.world row) follower.known after world old new
    → after.known.context.world.count ≡ follower.known.context.world.count + 1
counts number follower after world row old new is =
    ap (λ (f : FollowerView). f.known.context.world.count) is.follows
    ∙ step_counts follower.known.context.world is.event (right_is_step follower.known.context.world row is.event is.judged_so)

-- ---- without a header

nothing_appended : (old : Option (List ℕ)) → Appends old old []
nothing_appended None = tt
nothing_appended (Some octets) = sym (append-nil octets)

nothing_captured : (old : Option (List ℕ)) (blocks : List Block) → blocks ≡ [] → Appends old old (capture_octets blocks)
nothing_captured old blocks none = subst (λ (bs : List Block). Appends old old (capture_octets bs)) (sym none) (nothing_appended old)

pub headless_text : (number : ℕ) (line : Description) (text : TextRead) (old : Option (List ℕ)) → text.past ≡ [] → text.whole ≡ true → HasNoLf text.row → is_accepted_header line text.row ≡ false
    → CapturesText number line (octets_read text) old old (Ok (fails (BadLine 1)))
headless_text number line text old first whole none other =
    (sym (no_header line text first whole none other).judged, nothing_captured old (captured_text number line (octets_read text)) (header_refused number line text first whole none other))

pub part_text : (number : ℕ) (line : Description) (text : TextRead) (old : Option (List ℕ)) → text.past ≡ [] → text.whole ≡ false → HasNoLf text.row → CapturesText number line (octets_read text) old old (Ok (fails (BadLine 1)))
part_text number line text old first part none =
    (sym (not_whole line text first part none).judged, nothing_captured old (captured_text number line (octets_read text)) (part_refused number line text first part none))

-- ---- at the end

pub ended_text : (number : ℕ) (line : Description) (text row read shown : List ℕ) (count : ℕ) (verdict : Result ℕ AuditFault) (follower : FollowerView) (old now : Option (List ℕ)) → AreCaptured number line text follower old now → HasNoLf row
    → count ≡ follower.known.context.world.count → shown ≡ row → verdict ≡ verdict_by None count shown → read ≡ text ++ row → CapturesText number line read old now (Ok verdict)
ended_text number line text row read shown count verdict follower old now are none counted same is all = (
  is
      ∙ ap (λ (n : ℕ). verdict_by None n shown) counted
      ∙ ap (verdict_by None follower.known.context.world.count) same
      ∙ sym (judged_at_end any_choice line text row follower are.rows none)
      ∙ sym (ap (checked line) all),
  end_captured number line text row read follower old now are none all,
)

-- ---- at a wrong row

wrong_by : (follower : FollowerView) (row : List ℕ) (fault : AuditFault) → follower.fault ≡ None → first_wrong None follower.known.context.world.count (judged_line follower.known.context.world row) ≡ Some fault
    → (after_row follower row).fault ≡ Some fault
wrong_by follower row fault faultless is =
    ap (λ (f : Option AuditFault). first_wrong f follower.known.context.world.count (judged_line follower.known.context.world row)) faultless ∙ is

pub wrong_verdict : (number : ℕ) (line : Description) (text row read : List ℕ) (follower : FollowerView) (old now : Option (List ℕ)) (fault : AuditFault) → AreCaptured number line text follower old now → HasNoLf row
    → read ≡ text ++ (row ++ 10 ∷ []) → first_wrong None follower.known.context.world.count (judged_line follower.known.context.world row) ≡ Some fault → checked line read ≡ fails fault
wrong_verdict number line text row read follower old now fault are none all is =
    ap (checked line) all ∙ judged_wrong any_choice line text row follower fault are.rows none (wrong_by follower row fault are.rows.right_so is)

pub wrong_text : (number : ℕ) (line : Description) (text row read : List ℕ) (follower : FollowerView) (old now newer : Option (List ℕ)) (fault : AuditFault) → AreCaptured number line text follower old now → HasNoLf row
    → read ≡ text ++ (row ++ 10 ∷ []) → IsRefused (judged_line follower.known.context.world row) follower.known.context.world.count fault now newer → CapturesText number line read old newer (Ok (fails fault))
wrong_text number line text row read follower old now newer fault are none all is =
    (sym (wrong_verdict number line text row read follower old now fault are none all is.fault_is), wrong_captured number line text row read follower old now newer are none all is.wrong is.same)

-- ---- it ends early

cut_by : (number : ℕ) (line : Description) (read : List ℕ) (old new : Option (List ℕ)) (cut : Cut) → WritesPrefix old new (capture_octets (captured_text number line read)) → CapturesText number line read old new (Err (run_fault_of_cut cut))
cut_by number line read old new cuts.OutOfMemory prefix = prefix
cut_by number line read old new cuts.WriteFault prefix = prefix

pub cut_text : (number : ℕ) (line : Description) (text row read : List ℕ) (follower : FollowerView) (old now newer : Option (List ℕ)) (cut : Cut) (fault : RunFault) → fault ≡ run_fault_of_cut cut
    → AreCaptured number line text follower old now → HasNoLf row → read ≡ text ++ (row ++ 10 ∷ []) → WritesPrefix now newer (capture_octets (captured_rows number follower.known (row ∷ [])))
    → CapturesText number line read old newer (Err fault)
cut_text number line text row read follower old now newer cut fault is are none all prefix =
    subst (λ (f : RunFault). CapturesText number line read old newer (Err f)) (sym is) (cut_by number line read old newer cut (cut_captured number line text row read follower old now newer are none all prefix))

abbrev unread : ReadFault → Result Bool ReadFault
unread fault = Err fault

unread_by : (number : ℕ) (line : Description) (read : List ℕ) (old new : Option (List ℕ)) (fault : ReadFault) → (unread fault ≡ unread reads.NotText → ⊥) → WritesPrefix old new (capture_octets (captured_text number line read))
    → CapturesText number line read old new (Err (run_fault_of_read fault))
unread_by number line read old new reads.OutOfMemory named prefix = prefix
unread_by number line read old new reads.CannotRead named prefix = prefix
unread_by number line read old new reads.NotText named prefix = named refl

pub unread_text : (number : ℕ) (line : Description) (text row read : List ℕ) (whole : Bool) (follower : FollowerView) (old now : Option (List ℕ)) (fault : ReadFault) (result : RunFault) → result ≡ run_fault_of_read fault
    → AreCaptured number line text follower old now → HasNoLf row → read ≡ text ++ (row ++ lf_if whole) → (unread fault ≡ unread reads.NotText → ⊥) → CapturesText number line read old now (Err result)
unread_text number line text row read whole follower old now fault result is are none all named =
    subst (λ (f : RunFault). CapturesText number line read old now (Err f)) (sym is) (unread_by number line read old now fault named (unread_captured number line text row read whole follower old now are none all))

-- ---- the exit status

-- a text is written, and a call ends so
pub ends_so : (verdict known : Result ℕ AuditFault) (row text : List ℕ) (old new : Option (List ℕ)) (result : Result ℕ RunFault) → verdict ≡ known → Appends old new text → Ends verdict row result → WritesCapture known row text old new result
ends_so verdict known row text old new (Ok status) is written ends =
    subst (λ (v : Result ℕ AuditFault). WritesCapture v row text old new (Ok status)) is (ends.0, written, ends.1)
ends_so verdict known row text old new (Err runs.NotText) is written ends = ((text, [], sym (append-nil text), written), ends)
ends_so verdict known row text old new (Err runs.OutOfMemory) is written ends = absurd ends
ends_so verdict known row text old new (Err runs.WriteFault) is written ends = absurd ends
ends_so verdict known row text old new (Err runs.CannotRead) is written ends = absurd ends
ends_so verdict known row text old new (Err (runs.Script line)) is written ends = absurd ends
ends_so verdict known row text old new (Err (runs.Rack fault)) is written ends = absurd ends

-- the capture of a text on a line ends early
pub ends_early : (number : ℕ) (line : Description) (read row : List ℕ) (old new : Option (List ℕ)) (fault : RunFault) → CapturesText number line read old new (Err fault)
    → WritesCapture (checked line read) row (capture_octets (captured_text number line read)) old new (Err fault)
ends_early number line read row old new runs.OutOfMemory prefix = prefix
ends_early number line read row old new runs.WriteFault prefix = prefix
ends_early number line read row old new runs.CannotRead prefix = prefix
ends_early number line read row old new runs.NotText never = absurd never
ends_early number line read row old new (runs.Script at) never = absurd never
ends_early number line read row old new (runs.Rack fault) never = absurd never

-- a text is written, and then another one, whole or in part
then_cut : (old new newer : Option (List ℕ)) (text more : List ℕ) → Appends old new text → WritesPrefix new newer more → WritesPrefix old newer (text ++ more)
then_cut old new newer text more written others =
    more_prefix old new newer text more [] (text ++ more) written others (ap (λ (m : List ℕ). text ++ m) (append-nil more))

pub then_explains : (verdict : Result ℕ AuditFault) (row : List ℕ) (old new newer : Option (List ℕ)) (text more : List ℕ) (result : Result ℕ RunFault) → Appends old new text → WritesCapture verdict row more new newer result
    → WritesCapture verdict row (text ++ more) old newer result
then_explains verdict row old new newer text more (Ok status) written others = (others.0, appends_more old new newer text more written others.1, others.2)
then_explains verdict row old new newer text more (Err runs.OutOfMemory) written others = then_cut old new newer text more written others
then_explains verdict row old new newer text more (Err runs.WriteFault) written others = then_cut old new newer text more written others
then_explains verdict row old new newer text more (Err runs.CannotRead) written others = then_cut old new newer text more written others
then_explains verdict row old new newer text more (Err runs.NotText) written others = (then_cut old new newer text more written others.0, others.1)
then_explains verdict row old new newer text more (Err (runs.Script line)) written others = absurd others
then_explains verdict row old new newer text more (Err (runs.Rack fault)) written others = absurd others

-- the front of a text is written, whole or in part, and a call ends early
pub front_cut : (verdict : Result ℕ AuditFault) (row : List ℕ) (old new : Option (List ℕ)) (front text : List ℕ) (cut : Cut) (fault : RunFault) → fault ≡ run_fault_of_cut cut → WritesPrefix old new front
    → WritesCapture verdict row (front ++ text) old new (Err fault)
front_cut verdict row old new front text cuts.OutOfMemory fault is prefix =
    subst (λ (f : RunFault). WritesCapture verdict row (front ++ text) old new (Err f)) (sym is) (front_prefix old new front text (front ++ text) prefix refl)
front_cut verdict row old new front text cuts.WriteFault fault is prefix =
    subst (λ (f : RunFault). WritesCapture verdict row (front ++ text) old new (Err f)) (sym is) (front_prefix old new front text (front ++ text) prefix refl)

front_unread_by : (verdict : Result ℕ AuditFault) (row : List ℕ) (old new : Option (List ℕ)) (front text : List ℕ) (fault : ReadFault) → (unread fault ≡ unread reads.NotText → ⊥) → WritesPrefix old new front
    → WritesCapture verdict row (front ++ text) old new (Err (run_fault_of_read fault))
front_unread_by verdict row old new front text reads.OutOfMemory named prefix = front_prefix old new front text (front ++ text) prefix refl
front_unread_by verdict row old new front text reads.CannotRead named prefix = front_prefix old new front text (front ++ text) prefix refl
front_unread_by verdict row old new front text reads.NotText named prefix = absurd (named refl)

pub front_unread : (verdict : Result ℕ AuditFault) (row : List ℕ) (old new : Option (List ℕ)) (front text : List ℕ) (fault : ReadFault) (result : RunFault) → result ≡ run_fault_of_read fault → (unread fault ≡ unread reads.NotText → ⊥)
    → Appends old new front → WritesCapture verdict row (front ++ text) old new (Err result)
front_unread verdict row old new front text fault result is named written =
    subst (λ (f : RunFault). WritesCapture verdict row (front ++ text) old new (Err f)) (sym is)
    (front_unread_by verdict row old new front text fault named (front, [], sym (append-nil front), written))
