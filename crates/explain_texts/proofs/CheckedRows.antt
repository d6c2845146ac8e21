-- The check of rows that were read so far.
use Rattle.std.proofs.Common.{◌≡◌, ℕ, ◌+◌, ◌-◌, ◌<◌, true, List, [], ◌∷◌, ◌++◌, Option, Some, None, Result, Ok, Err, refl, sym, ap, subst, ◌∙◌, arith}
use Rattle.std.proofs.lemmas.List.{append-nil}
use Rattle.dp_line.specs.declared.event.Event.{Event}
use Rattle.dp_line.specs.declared.event.Step.{Step}
use Rattle.dp_line.specs.World.{Description, World}
use Rattle.dp_line.specs.Steps.{step}
use Rattle.dp_audit.specs.FirstWrong.{HasNoLf}
use Rattle.dp_audit.specs.declared.fault.AuditFault.{AuditFault}
use Rattle.dp_audit.specs.Check.{Judged, bad, not_the_policy, right, checked, is_accepted_header, judged_line, places_of_header}
use Rattle.dp_audit.specs.Checking.{TakesRow}
use Rattle.explain_texts.specs.declared.choice.Choice.{Choice}
use Rattle.explain_texts.specs.Followed.{Followed, FollowerView, after_row, event_unless, first_follower, first_wrong, judged_next, verdict_at, verdict_by}
use Rattle.explain_texts.specs.Explained.{known_behind}
use Rattle.explain_texts.specs.Known.{first_world}
use Rattle.explain_texts.specs.TextRows.{TextRead, octets_read}
use Rattle.explain_texts.proofs.ReadLines.{AreRows, followed_row, rows_followed, text_judged, with_row}
use Rattle.explain_texts.proofs.ReadRows.{behind_header}
use Rattle.explain_texts.proofs.RightRows.{fails, right_is_step, step_counts}
use Rattle.explain_texts.proofs.WrongRow.{any_choice}

-- ---- a text of whole rows, all right

pub record AreRight (choice : Choice) (line : Description) (text : List ℕ) (follower : FollowerView) : Type 0 where
  pub are : AreRows line text
  pub last : (rows_followed choice line text are).last ≡ follower
  pub right_so : follower.fault ≡ None

-- the verdict if this is the end
pub judged_at_end : (choice : Choice) (line : Description) (text row : List ℕ) (follower : FollowerView) → AreRight choice line text follower → HasNoLf row
    → checked line (text ++ row) ≡ verdict_by None follower.known.context.world.count row
judged_at_end choice line text row follower rows none =
    text_judged choice line text row rows.are none
    ∙ ap (λ (f : FollowerView). verdict_at f row) rows.last
    ∙ ap (λ (fault : Option AuditFault). verdict_by fault follower.known.context.world.count row) rows.right_so

-- with one more row
pub last_with_row : (choice : Choice) (line : Description) (text row : List ℕ) (follower : FollowerView) (rows : AreRight choice line text follower) (none : HasNoLf row)
    → (rows_followed choice line (text ++ (row ++ 10 ∷ [])) (with_row line text row rows.are none)).last ≡ after_row follower row
last_with_row choice line text row follower rows none =
    ap (λ (f : Followed). f.last) (followed_row choice _ rows.are.rows row) ∙ ap (λ (f : FollowerView). after_row f row) rows.last

pub judged_with_row : (choice : Choice) (line : Description) (text row : List ℕ) (follower : FollowerView) → AreRight choice line text follower → HasNoLf row
    → checked line (text ++ (row ++ 10 ∷ [])) ≡ verdict_at (after_row follower row) []
judged_with_row choice line text row follower rows none =
    let more = text ++ (row ++ 10 ∷ []) in
    ap (checked line) (sym (append-nil more))
    ∙ text_judged choice line more [] (with_row line text row rows.are none) tt
    ∙ ap (λ (f : FollowerView). verdict_at f []) (last_with_row choice line text row follower rows none)

-- the verdict at a wrong row
pub judged_wrong : (choice : Choice) (line : Description) (text row : List ℕ) (follower : FollowerView) (fault : AuditFault) → AreRight choice line text follower → HasNoLf row → (after_row follower row).fault ≡ Some fault
    → checked line (text ++ (row ++ 10 ∷ [])) ≡ fails fault
judged_wrong choice line text row follower fault rows none is =
    judged_with_row choice line text row follower rows none
    ∙ ap (λ (f : Option AuditFault). verdict_by f (after_row follower row).known.context.world.count []) is

abbrev pub right_with_row : (choice : Choice) (line : Description) (text row : List ℕ) (follower new : FollowerView) → AreRight choice line text follower → HasNoLf row → new ≡ after_row follower row → new.fault ≡ None
    → AreRight choice line (text ++ (row ++ 10 ∷ [])) new
right_with_row choice line text row follower new rows none is faultless = record {
  are = with_row line text row rows.are none;
  last = last_with_row choice line text row follower rows none ∙ sym is;
  right_so = faultless;
}

-- ---- a row that the check takes

abbrev result_of : Event → Result Event AuditFault
result_of event = Ok event

abbrev refusal_of : AuditFault → Result Event AuditFault
refusal_of fault = Err fault

taken_by : (follower : FollowerView) (before : Option AuditFault) (judged : Judged) (world after : World) (answer : Step) (event : Event) → before ≡ None → follower.known.context.world ≡ world
    → TakesRow judged world after answer (result_of event)
    → (first_wrong before follower.known.context.world.count judged ≡ None) × ((known_behind follower.known (event_unless before judged)).context.world ≡ after)
taken_by follower (Some fault) judged world after answer event faultless same takes = absurd cc
taken_by follower None bad world after answer event faultless same takes = absurd cc
taken_by follower None not_the_policy world after answer event faultless same takes = absurd cc
taken_by follower None (right found) world after answer event faultless same takes = (refl, ap (λ (w : World). (step w found).world) same ∙ sym takes.2)

refused_by : (before : Option AuditFault) (judged : Judged) (world after : World) (answer : Step) (fault : AuditFault) → before ≡ None → TakesRow judged world after answer (refusal_of fault)
    → first_wrong before world.count judged ≡ Some fault
refused_by (Some found) judged world after answer fault faultless takes = absurd cc
refused_by None bad world after answer fault faultless takes = cc
refused_by None not_the_policy world after answer fault faultless takes = cc
refused_by None (right found) world after answer fault faultless takes = absurd (let never : refusal_of fault ≡ result_of found = takes.0 in cc)

-- ---- the line after the rows

-- the line after the rows of a text, all right
pub record IsLineAfter (line : Description) (text : List ℕ) (world : World) : Type 0 where
  pub follower : FollowerView
  pub rows : AreRight any_choice line text follower
  pub world_is : follower.known.context.world ≡ world

pub at_header : (line : Description) (text : TextRead) (world : World) (first : text.past ≡ []) (whole : text.whole ≡ true) (none : HasNoLf text.row) (accepted : is_accepted_header line text.row ≡ true)
    → world ≡ first_world line (places_of_header line text.row) → IsLineAfter line (octets_read text) world
at_header line text world first whole none accepted opened = record {
  follower = first_follower line (text.row ∷ []);
  rows = record { are = behind_header line text first whole none accepted; last = refl; right_so = refl };
  world_is = sym opened;
}

pub end_is : (line : Description) (text row read shown : List ℕ) (count : ℕ) (world : World) (verdict : Result ℕ AuditFault) → IsLineAfter line text world → HasNoLf row → count ≡ world.count → shown ≡ row
    → verdict ≡ verdict_by None count shown → read ≡ text ++ row → verdict ≡ checked line read
end_is line text row read shown count world verdict after none counted same is all =
    is
    ∙ ap (λ (n : ℕ). verdict_by None n shown) (counted ∙ sym (ap (λ (w : World). w.count) after.world_is))
    ∙ ap (verdict_by None after.follower.known.context.world.count) same
    ∙ sym (judged_at_end any_choice line text row after.follower after.rows none)
    ∙ sym (ap (checked line) all)

pub with_event : (line : Description) (text row : List ℕ) (world new : World) (answer : Step) (event : Event) → IsLineAfter line text world → HasNoLf row
    → TakesRow (judged_line world row) world new answer (Ok event) → IsLineAfter line (text ++ (row ++ 10 ∷ [])) new
with_event line text row world new answer event after none takes =
    let self = after.follower in
    let judged : judged_next self row ≡ judged_line world row = ap (λ (w : World). judged_line w row) after.world_is in
    let taken = taken_by self self.fault (judged_next self row) world new answer event after.rows.right_so after.world_is
    (subst (λ (j : Judged). TakesRow j world new answer (Ok event)) (sym judged) takes) in
    record {
      follower = after_row self row;
      rows = right_with_row any_choice line text row self (after_row self row) after.rows none refl taken.0;
      world_is = taken.1;
    }

pub wrong_is : (line : Description) (text row : List ℕ) (world new : World) (answer : Step) (fault : AuditFault) → IsLineAfter line text world → HasNoLf row
    → TakesRow (judged_line world row) world new answer (Err fault) → checked line (text ++ (row ++ 10 ∷ [])) ≡ fails fault
wrong_is line text row world new answer fault after none takes =
    let self = after.follower in
    let judged : judged_next self row ≡ judged_line world row = ap (λ (w : World). judged_line w row) after.world_is in
    let takes_so = subst (λ (w : World). TakesRow (judged_line w row) w new answer (Err fault)) (sym after.world_is) takes in
    judged_wrong any_choice line text row self fault after.rows none
    (refused_by self.fault (judged_next self row) self.known.context.world new answer fault after.rows.right_so takes_so)

-- one more entry
pub counts : (world new : World) (row : List ℕ) (answer : Step) (event : Event) (judged : Judged) → judged_line world row ≡ judged → TakesRow judged world new answer (Ok event) → new.count ≡ world.count + 1
counts world new row answer event bad is takes = absurd cc
counts world new row answer event not_the_policy is takes = absurd cc
counts world new row answer event (right found) is takes = ap (λ (w : World). w.count) takes.2 ∙ step_counts world found (right_is_step world row found is)

-- the entries are fewer than 2^32
pub falls : (count before after : ℕ) → count ≡ before → count < 4294967296 → after ≡ before + 1 → 4294967296 - after < 4294967296 - before
falls count before after is few more = omega arith
