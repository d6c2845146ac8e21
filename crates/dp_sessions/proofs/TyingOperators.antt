-- The effects of an operator's lines, in terms of the entries of the journal.
use Rattle.std.proofs.Common.{◌≡◌, ℕ, true, false, List, [], ◌∷◌, ◌++◌, map, length, take, drop, Option, Some, None, Result, Ok, Err, if◌then◌else◌, inl, inr, refl, sym, ap, subst, ◌∙◌, append_assoc}
use Rattle.std.specs.Prelude.{IfNone, is_some}
use Rattle.std.specs.List.{AllByRecursion}
use Rattle.std.proofs.lemmas.List.{append-nil, take-append-drop}
use Rattle.dp_slave.specs.declared.view.SlaveView.{SlaveView}
use Rattle.dp_line.specs.declared.event.Event.{Event}
use Rattle.dp_line.specs.declared.event.Event.TheVariants.{Operator}
use Rattle.dp_line.specs.declared.event.Outcome.TheVariants.{Refused}
use Rattle.dp_line.specs.declared.fault.OperatorFault.{OperatorFault}
use Rattle.dp_audit.specs.declared.entry.Entry.{Entry}
use Rattle.dp_audit.specs.declared.entry.Receipt.{Receipt}
use Rattle.dp_shared.specs.Content.{Content}
use Rattle.dp_shared.specs.Numbers.{under}
use Rattle.dp_shared.specs.LineLock.{FitsLook, FitsPass, receipt_for}
use Rattle.dp_shared.specs.Passes.{look_by, with_receipt}
use Rattle.dp_shared.specs.declared.line_view.PassView.{PassView}
use Rattle.dp_shared.specs.declared.line_view.Look.{Look}
use Rattle.dp_shared.specs.declared.line_view.Question.{Question}
use Rattle.dp_shared.specs.declared.line_view.Answer.{Answer}
use Rattle.dp_text.specs.declared.op_line.OpLine.{OpLine}
use Rattle.dp_text.specs.declared.op_line.OpLine.TheVariants as asked
use Rattle.rack_devices.specs.declared.driven_slave.DrivenSlave.{DrivenSlave}
use Rattle.rack_devices.specs.DrivenSlaves.{next_input}
use Rattle.dp_text.specs.declared.operator_line.LineFault.{LineFault}
use Rattle.dp_sessions.specs.declared.session_end.SessionEnd.{SessionEnd}
use Rattle.dp_sessions.specs.declared.session_end.SessionEnd.TheVariants as ends
use Rattle.dp_sessions.specs.Sessions.{Streams}
use Rattle.dp_text.specs.OperatorLines.{command_in}
use Rattle.dp_sessions.specs.Operators.{AreAnswered, AreBrokenOff, AreFed, AreServed, HasOperatedBy, IsDone, IsFed, IsFedAsSeen, IsLook, IsOperated, IsTaken, Operates}
use Rattle.dp_sessions.specs.Tied.{entries_behind}
use Rattle.dp_sessions.specs.TiedOperators.{AnswersLines, AreAnsweredBy, AreBrokenOffBy, AreFedBy, AreServedBy, HasAnsweredLines, IsDoneBy, IsFedAsSeenBy, IsFedBy, IsOperatedBy, IsSeenIn, IsTakenBy}
use Rattle.dp_sessions.proofs.Tying.{behind, begins, behind_first}

-- ---- entries for receipts

abbrev first_or : Receipt → List Receipt → Receipt
first_or other [] = other
first_or other (r ∷ rs) = r

one_entry : (es : List Entry) (r : Receipt) → map receipt_for es ≡ r ∷ [] → (entry : Entry) × (es ≡ entry ∷ []) × (receipt_for entry ≡ r)
one_entry [] r is = absurd (let f : false ≡ true = ap begins is in cc)
one_entry (e ∷ []) r is = (e, refl, ap (first_or r) is)
one_entry (e ∷ (f ∷ fs)) r is = absurd (let g : true ≡ false = ap (λ l. begins (behind_first l)) is in cc)

no_entry : (es : List Entry) → map receipt_for es ≡ [] → es ≡ []
no_entry [] is = refl
no_entry (e ∷ es) is = absurd (let f : true ≡ false = ap begins is in cc)

front : (xs ys : List Receipt) (es : List Entry) → map receipt_for es ≡ xs ++ ys → map receipt_for (take (length xs) es) ≡ xs
front [] ys es is = refl
front (x ∷ xs) ys [] is = absurd (let f : false ≡ true = ap begins is in cc)
front (x ∷ xs) ys (e ∷ es) is = ap (λ r. r ∷ map receipt_for (take (length xs) es)) (ap (first_or x) is) ∙ ap (λ l. x ∷ l) (front xs ys es (ap behind_first is))

all_front : (P : Look → Type 0) (xs ys : List Look) → AllByRecursion P (xs ++ ys) → AllByRecursion P xs
all_front P [] ys all = tt
all_front P (x ∷ xs) ys all = (all.0, all_front P xs ys all.1)

all_back : (P : Look → Type 0) (xs ys : List Look) → AllByRecursion P (xs ++ ys) → AllByRecursion P ys
all_back P [] ys all = all
all_back P (x ∷ xs) ys all = all_back P xs ys all.1

module _ (content : Content) where
  -- a pass gained receipts and looks, and `P` holds for the entries of these receipts if the looks fit
  record Goes (P : List Entry → Type 0) (before after : PassView) : Type 0 where
    receipts : List Receipt
    looks : List Look
    gained : after.receipts ≡ before.receipts ++ receipts
    looked : after.looks ≡ before.looks ++ looks
    holds : AllByRecursion (FitsLook content) looks → (es : List Entry) → map receipt_for es ≡ receipts → P es

  stays : (P : List Entry → Type 0) (p q : PassView) → q ≡ p → P [] → Goes P p q
  stays P p q same none = record {
    receipts = [];
    looks = [];
    gained = ap (λ (w : PassView). w.receipts) same ∙ sym (append-nil p.receipts);
    looked = ap (λ (w : PassView). w.looks) same ∙ sym (append-nil p.looks);
    holds = λ fits es is. subst P (sym (no_entry es is)) none;
  }

  then_goes : (P Q R : List Entry → Type 0) (p q r : PassView) → ((first rest : List Entry) → P first → Q rest → R (first ++ rest)) → Goes P p q → Goes Q q r → Goes R p r
  then_goes P Q R p q r join a b = record {
    receipts = a.receipts ++ b.receipts;
    looks = a.looks ++ b.looks;
    gained = b.gained ∙ ap (λ l. l ++ b.receipts) a.gained ∙ append_assoc p.receipts a.receipts b.receipts;
    looked = b.looked ∙ ap (λ l. l ++ b.looks) a.looked ∙ append_assoc p.looks a.looks b.looks;
    holds = λ fits es is.
        subst R (take-append-drop (length a.receipts) es)
        (join (take (length a.receipts) es) (drop (length a.receipts) es)
        (a.holds (all_front (FitsLook content) a.looks b.looks fits) (take (length a.receipts) es) (front a.receipts b.receipts es is))
        (b.holds (all_back (FitsLook content) a.looks b.looks fits) (drop (length a.receipts) es) (behind a.receipts b.receipts es is)));
  }

  weaker : (P Q : List Entry → Type 0) (p q : PassView) → ((es : List Entry) → P es → Q es) → Goes P p q → Goes Q p q
  weaker P Q p q f a = record { receipts = a.receipts; looks = a.looks; gained = a.gained; looked = a.looked; holds = λ fits es is. f es (a.holds fits es is) }

  -- ---- one event, one look

  abbrev Taken : Event → Receipt → Option ℕ → List Entry → Type 0
  Taken event receipt place es = IsTakenBy event receipt.outcome es × ((if is_some place then 1 else 0) ≡ length es)

  taken_at : (event : Event) (p : PassView) (receipt : Receipt) (place : Option ℕ) → receipt.event ≡ event
      → IfNone place ((receipt.facts ≡ None) × (fault : OperatorFault) × (receipt.outcome ≡ Refused fault)) → Goes (Taken event receipt place) p (with_receipt p receipt place)
  taken_at event p receipt (Some k) is refused = record {
    receipts = receipt ∷ [];
    looks = [];
    gained = refl;
    looked = sym (append-nil p.looks);
    holds = λ fits es its. (let one = one_entry es receipt its in
        (inl (one.0, one.1, ap (λ (r : Receipt). r.event) one.2 ∙ is, sym (ap (λ (r : Receipt). r.outcome) one.2)), ap length (sym one.1)));
  }
  taken_at event p receipt None is refused = record {
    receipts = [];
    looks = [];
    gained = sym (append-nil p.receipts);
    looked = sym (append-nil p.looks);
    holds = λ fits es its. (let none = no_entry es its in (inr (none, refused.1, refused.2), ap length (sym none)));
  }

  taken_goes : (event : Event) (p q : PassView) (receipt : Receipt) → IsTaken event p q receipt → Goes (Taken event receipt receipt.place) p q
  taken_goes event p q receipt t = subst (Goes (Taken event receipt receipt.place) p) (sym t.gained) (taken_at event p receipt receipt.place t.event_is t.refused)

  abbrev Seen : Question → Answer → List Entry → Type 0
  Seen question answer es = (es ≡ []) × IsSeenIn content question answer

  look_goes : (question : Question) (answer : Answer) (p q : PassView) → IsLook question answer p q → Goes (Seen question answer) p q
  look_goes question answer p q look = record {
    receipts = [];
    looks = look_by p question look.0 answer ∷ [];
    gained = ap (λ (w : PassView). w.receipts) look.1 ∙ sym (append-nil p.receipts);
    looked = ap (λ (w : PassView). w.looks) look.1;
    holds = λ fits es is. (no_entry es is, (look.0, fits.0.there, fits.0.value));
  }

  -- ---- devices

  fed_as_seen : (driven : DrivenSlave) (seen : Option SlaveView) (p q : PassView) (recorded : ℕ) → IsFedAsSeen driven seen p q recorded → Goes (IsFedAsSeenBy driven seen recorded) p q
  fed_as_seen driven None p q recorded fed = stays (IsFedAsSeenBy driven None recorded) p q fed.0 (refl, fed.1)
  fed_as_seen driven (Some slave) p q recorded fed =
      weaker (Taken (Operator (next_input driven slave)) fed.0 fed.0.place) (IsFedAsSeenBy driven (Some slave) recorded) p q
      (λ es t. (fed.0.outcome, t.0, fed.2 ∙ t.1))
      (taken_goes (Operator (next_input driven slave)) p q fed.0 fed.1)

  fed_goes : (driven : DrivenSlave) (p q : PassView) (recorded : ℕ) → IsFed driven p q recorded → Goes (IsFedBy content driven recorded) p q
  fed_goes driven p q recorded fed =
      then_goes (Seen (Question.View driven.address) (Answer.View fed.seen)) (IsFedAsSeenBy driven fed.seen recorded) (IsFedBy content driven recorded) p fed.looked q
      (λ first rest a b. subst (IsFedBy content driven recorded) (sym (ap (λ l. l ++ rest) a.0)) (fed.seen, a.1, b))
      (look_goes (Question.View driven.address) (Answer.View fed.seen) p fed.looked fed.look)
      (fed_as_seen driven fed.seen fed.looked q recorded fed.fed)

  all_fed : (driven : List DrivenSlave) (p q : PassView) (recorded : ℕ) → AreFed driven p q recorded → Goes (AreFedBy content driven recorded) p q
  all_fed [] p q recorded fed = stays (AreFedBy content [] recorded) p q fed.0 (refl, fed.1)
  all_fed (one ∷ others) p q recorded fed =
      then_goes (IsFedBy content one fed.1) (AreFedBy content others fed.2) (AreFedBy content (one ∷ others) recorded) p fed.0 q
      (λ first rest a b. (first, rest, fed.1, fed.2, refl, a, b, fed.5))
      (fed_goes one p fed.0 fed.1 fed.3)
      (all_fed others fed.0 q fed.2 fed.4)

  -- ---- lines

  operated : (driven : List DrivenSlave) (op_line : OpLine) (p q : PassView) (text : List ℕ) → IsOperated driven op_line p q text → Goes (IsOperatedBy content driven op_line text) p q
  operated driven (asked.Event op) p q text x =
      weaker (Taken (Operator op) x.0 x.0.place) (IsOperatedBy content driven (asked.Event op) text) p q (λ es t. (x.0.outcome, t.0, x.2)) (taken_goes (Operator op) p q x.0 x.1)
  operated driven (asked.Owned master) p q text x =
      weaker (Seen (Question.Owned master) (Answer.Owned x.0)) (IsOperatedBy content driven (asked.Owned master) text) p q
      (λ es s. (x.0, s.1, s.0, x.2)) (look_goes (Question.Owned master) (Answer.Owned x.0) p q x.1)
  operated driven (asked.Show address) p q text x =
      weaker (Seen (Question.View address) (Answer.View x.0)) (IsOperatedBy content driven (asked.Show address) text) p q
      (λ es s. (x.0, s.1, s.0, x.2)) (look_goes (Question.View address) (Answer.View x.0) p q x.1)
  operated driven asked.Step p q text x =
      weaker (AreFedBy content driven x.0) (IsOperatedBy content driven asked.Step text) p q (λ es f. (x.0, f, x.2)) (all_fed driven p q x.0 x.1)
  operated driven asked.Nothing p q text x = stays (IsOperatedBy content driven asked.Nothing text) p q x.0 (refl, x.1)

  done : (driven : List DrivenSlave) (command : Result OpLine LineFault) (p q : PassView) (text : List ℕ) → IsDone driven command p q text → Goes (IsDoneBy content driven command text) p q
  done driven (Ok op_line) p q text x = operated driven op_line p q text x
  done driven (Err fault) p q text x = stays (IsDoneBy content driven (Err fault) text) p q x.0 (refl, x.1)

  answered : (driven : List DrivenSlave) (lines : List (List ℕ)) (p q : PassView) (texts : List (List ℕ)) → AreAnswered driven lines p q texts → Goes (AreAnsweredBy content driven lines texts) p q
  answered driven [] p q texts x = stays (AreAnsweredBy content driven [] texts) p q x.0 (refl, x.1)
  answered driven (line ∷ lines) p q texts x =
      then_goes (IsDoneBy content driven (command_in line) x.1) (AreAnsweredBy content driven lines x.2) (AreAnsweredBy content driven (line ∷ lines) texts) p x.0 q
      (λ first rest a b. (first, rest, x.1, x.2, refl, x.3, a, b))
      (done driven (command_in line) p x.0 x.1 x.4)
      (answered driven lines x.0 q x.2 x.5)

  -- ---- a session

  module _ (before after : PassView) (fits : FitsPass content after) where
    abbrev its : List Entry
    its = entries_behind content before after

    of_its : (P : List Entry → Type 0) → Goes P before after → P its
    of_its P g =
        g.holds
        (all_back (FitsLook content) before.looks g.looks (subst (AllByRecursion (FitsLook content)) g.looked fits.looks))
        its
        (behind before.receipts g.receipts (under after.number content.numbers content.book.entries) (sym fits.receipts ∙ g.gained))

    served : (driven : List DrivenSlave) (stream : List ℕ) (old new : Option (List ℕ)) → AreServed driven stream before after old new → AreServedBy content driven stream its old new
    served driven stream old new s = record {
      lines = s.lines;
      rest = s.rest;
      parted = s.parted;
      texts = s.texts;
      answered = of_its (AreAnsweredBy content driven s.lines s.texts) (answered driven s.lines before after s.texts s.answered);
      written = s.written;
    }

    broken : (driven : List DrivenSlave) (stream : List ℕ) (old new : Option (List ℕ)) → AreBrokenOff driven stream before after old new → AreBrokenOffBy content driven stream its old new
    broken driven stream old new s = record {
      lines = s.lines;
      others = s.others;
      begins = s.begins;
      texts = s.texts;
      answered = of_its (AreAnsweredBy content driven s.lines s.texts) (answered driven s.lines before after s.texts s.answered);
      written = s.written;
    }

    by_end : (end : SessionEnd) (driven : List DrivenSlave) (turns made : ℕ) (stream : List ℕ) (left old new : Option (List ℕ))
        → Operates end driven turns made stream before after left old new → AnswersLines end content driven turns made stream its left old new
    by_end ends.EndOfInput driven turns made stream left old new x = (served driven stream old new x.0, x.1)
    by_end ends.ReadFault driven turns made stream left old new x = served driven stream old new x
    by_end ends.WriteFault driven turns made stream left old new x = broken driven stream old new x
    by_end ends.AddressHeld driven turns made stream left old new x = absurd x
    by_end ends.UnknownMaster driven turns made stream left old new x = absurd x
    by_end ends.TurnLimit driven turns made stream left old new x = (served driven stream old new x.0, x.1, x.2)
    by_end ends.NoPass driven turns made stream left old new x = absurd x

pub tied_operator : (content : Content) (driven : List DrivenSlave) (turns : ℕ) (streams : Streams) (before after : PassView) (end : SessionEnd)
    → HasOperatedBy driven turns streams before after end → FitsPass content after → HasAnsweredLines content driven turns streams (entries_behind content before after) end
tied_operator content driven turns streams before after end x fits = record {
  stream = x.stream;
  read = x.read;
  made = x.made;
  most = x.most;
  answers = by_end content before after fits end driven turns x.made x.stream streams.left_after streams.written streams.written_after x.operated;
}
