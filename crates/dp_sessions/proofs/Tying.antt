-- The receipts of a session, in terms of the entries of the journal.
use Rattle.std.proofs.Common.{◌≡◌, ℕ, Bool, true, false, List, [], ◌∷◌, ◌++◌, map, length, drop, Option, Some, None, inl, inr, ⊎_elim, refl, sym, ap, subst, ◌∙◌, append_assoc}
use Rattle.std.specs.Prelude.{◌⊎◌, ◌||◌, IfNone, IfSome}
use Rattle.std.specs.List.{AllByRecursion, concat}
use Rattle.std.specs.Io.KnownBytes.{Appends}
use Rattle.std.proofs.lemmas.List.{append-nil, map-append}
use Rattle.dp_telegram.specs.declared.cutter.Cut.{Cut}
use Rattle.dp_responder.specs.declared.rule.Rule.TheVariants as rules
use Rattle.dp_line.specs.declared.event.Event.{Event}
use Rattle.dp_line.specs.declared.event.Outcome.{Outcome}
use Rattle.dp_line.specs.declared.event.Outcome.TheVariants.{Silence}
use Rattle.dp_audit.specs.declared.entry.Entry.{Entry}
use Rattle.dp_audit.specs.declared.entry.Receipt.{Receipt}
use Rattle.dp_shared.specs.Content.{Content}
use Rattle.dp_shared.specs.Numbers.{under}
use Rattle.dp_shared.specs.LineLock.{FitsPass, receipt_for, says_halted}
use Rattle.dp_shared.specs.Passes.{new_pass, with_receipt}
use Rattle.dp_shared.specs.declared.claim_view.ClaimView.{ClaimView}
use Rattle.dp_shared.specs.declared.line_view.PassView.{PassView}
use Rattle.dp_sessions.specs.declared.session_end.SessionEnd.{SessionEnd}
use Rattle.dp_sessions.specs.declared.session_end.SessionEnd.TheVariants as ends
use Rattle.dp_sessions.specs.Sessions.{AreExchanged, AreReceivedBy, Exchanges, HasExchanged, IsAccepted, IsBrokenOff, IsCutOff, IsServed, Streams, octets_of, reply_in, with_receipts}
use Rattle.dp_sessions.specs.Tied.{Answers, AreOfFrames, HasAnswered, HasAnsweredMaster, IsAnsweredBy, IsBrokenOffBy, entries_behind, reply_of}
use Rattle.dp_sessions.proofs.Exchanging.{appends_more, concat_append}

-- ---- receipts with a place come first

abbrev IsSilent : Receipt → Type 0
IsSilent receipt = reply_in receipt ≡ []

abbrev event_of : Receipt → Event
event_of receipt = receipt.event

silent_one : (receipt : Receipt) → receipt.outcome ≡ Silence rules.Halted → IsSilent receipt
silent_one receipt is = ap octets_of is

or_true : (b : Bool) → (b || true) ≡ true
or_true true = refl
or_true false = refl

seen_by : (t : Bool) (outcome : Outcome) → outcome ≡ Silence rules.Halted → (t || says_halted outcome) ≡ true
seen_by t outcome is = ap (λ o. t || says_halted o) is ∙ or_true t

-- all receipts are silent, and the pass stores none of them
record AreSilent (pass : PassView) (receipts : List Receipt) : Type 0 where
  silence : AllByRecursion IsSilent receipts
  same : (with_receipts pass receipts).receipts ≡ pass.receipts
  still : (with_receipts pass receipts).saw_halt ≡ true

silent_at : (pass : PassView) (r : Receipt) (rs : List Receipt) (place : Option ℕ) → pass.saw_halt ≡ true
    → IfNone place ((r.facts ≡ None) × (r.outcome ≡ Silence rules.Halted)) → IfSome place (λ _. pass.saw_halt ≡ false) → AreReceivedBy (with_receipt pass r place) rs
    → ((q : PassView) → q.saw_halt ≡ true → AreReceivedBy q rs → AreSilent q rs)
    → AllByRecursion IsSilent (r ∷ rs) × ((with_receipts (with_receipt pass r place) rs).receipts ≡ pass.receipts) × ((with_receipts (with_receipt pass r place) rs).saw_halt ≡ true)
silent_at pass r rs (Some k) is halted running received next = absurd (let f : true ≡ false = sym is ∙ running in cc)
silent_at pass r rs None is halted running received next =
    let n = next (with_receipt pass r None) (seen_by pass.saw_halt r.outcome halted.1) received in
    ((silent_one r halted.1, n.silence), n.same, n.still)

all_silent : (receipts : List Receipt) (pass : PassView) → pass.saw_halt ≡ true → AreReceivedBy pass receipts → AreSilent pass receipts
all_silent [] pass is received = record { silence = tt; same = refl; still = is }
all_silent (r ∷ rs) pass is received =
    let n = silent_at pass r rs r.place is received.0.halted received.0.running received.1 (λ q. all_silent rs q) in
    record { silence = n.0; same = n.1; still = n.2 }

record IsParted (before after : PassView) (receipts : List Receipt) : Type 0 where
  placed : List Receipt
  silent : List Receipt
  parts : receipts ≡ placed ++ silent
  gained : after.receipts ≡ before.receipts ++ placed
  silence : AllByRecursion IsSilent silent
  none : after.saw_halt ≡ false → silent ≡ []

parted_at : (pass : PassView) (r : Receipt) (rs : List Receipt) (place : Option ℕ)
    → IfNone place ((r.facts ≡ None) × (r.outcome ≡ Silence rules.Halted)) → AreReceivedBy (with_receipt pass r place) rs
    → ((q : PassView) → AreReceivedBy q rs → IsParted q (with_receipts q rs) rs)
    → IsParted pass (with_receipts (with_receipt pass r place) rs) (r ∷ rs)
parted_at pass r rs (Some k) halted received next =
    let n = next (with_receipt pass r (Some k)) received in record {
      placed = r ∷ n.placed;
      silent = n.silent;
      parts = ap (λ l. r ∷ l) n.parts;
      gained = n.gained ∙ append_assoc pass.receipts (r ∷ []) n.placed;
      silence = n.silence;
      none = n.none;
    }
parted_at pass r rs None halted received next =
    let s = all_silent rs (with_receipt pass r None) (seen_by pass.saw_halt r.outcome halted.1) received in record {
      placed = [];
      silent = r ∷ rs;
      parts = refl;
      gained = s.same ∙ sym (append-nil pass.receipts);
      silence = (silent_one r halted.1, s.silence);
      none = λ is. absurd (let f : true ≡ false = sym s.still ∙ is in cc);
    }

parted : (receipts : List Receipt) (pass : PassView) → AreReceivedBy pass receipts → IsParted pass (with_receipts pass receipts) receipts
parted [] pass received = record { placed = []; silent = []; parts = refl; gained = sym (append-nil pass.receipts); silence = tt; none = λ _. refl }
parted (r ∷ rs) pass received = parted_at pass r rs r.place received.0.halted received.1 (λ q. parted rs q)

-- ---- entries for receipts

abbrev pub begins : List Receipt → Bool
begins [] = false
begins (r ∷ rs) = true

abbrev pub behind_first : List Receipt → List Receipt
behind_first [] = []
behind_first (r ∷ rs) = rs

pub behind : (xs ys : List Receipt) (es : List Entry) → map receipt_for es ≡ xs ++ ys → map receipt_for (drop (length xs) es) ≡ ys
behind [] ys es is = is
behind (x ∷ xs) ys [] is = absurd (let f : false ≡ true = ap begins is in cc)
behind (x ∷ xs) ys (e ∷ es) is = behind xs ys es (ap behind_first is)

events_of : (es : List Entry) → map event_of (map receipt_for es) ≡ map (λ (e : Entry). e.event) es
events_of [] = refl
events_of (e ∷ es) = ap (λ l. e.event ∷ l) (events_of es)

replies_of : (es : List Entry) → map reply_in (map receipt_for es) ≡ map reply_of es
replies_of [] = refl
replies_of (e ∷ es) = ap (λ l. reply_of e ∷ l) (replies_of es)

no_replies : (receipts : List Receipt) → AllByRecursion IsSilent receipts → concat (map reply_in receipts) ≡ []
no_replies [] all = refl
no_replies (r ∷ rs) all = ap (λ t. t ++ concat (map reply_in rs)) all.0 ∙ no_replies rs all.1

same_replies : (receipts placed silent : List Receipt) (es : List Entry) → receipts ≡ placed ++ silent → AllByRecursion IsSilent silent → map receipt_for es ≡ placed
    → concat (map reply_in receipts) ≡ concat (map reply_of es)
same_replies receipts placed silent es parts silence are =
    ap (λ rs. concat (map reply_in rs)) parts
    ∙ ap concat (map-append reply_in placed silent)
    ∙ concat_append (map reply_in placed) (map reply_in silent)
    ∙ ap (λ t. concat (map reply_in placed) ++ t) (no_replies silent silence)
    ∙ append-nil (concat (map reply_in placed))
    ∙ ap (λ ps. concat (map reply_in ps)) (sym are)
    ∙ ap concat (replies_of es)

-- ---- a failed write of an empty text

abbrev final : List (List ℕ) → List ℕ
final [] = []
final (x ∷ []) = x
final (x ∷ (y ∷ ys)) = final (y ∷ ys)

final_last : (xs : List (List ℕ)) (x : List ℕ) → final (xs ++ x ∷ []) ≡ x
final_last [] x = refl
final_last (y ∷ []) x = refl
final_last (y ∷ (z ∷ zs)) x = final_last (z ∷ zs) x

final_silent : (s : Receipt) (ss : List Receipt) → AllByRecursion IsSilent (s ∷ ss) → final (map reply_in (s ∷ ss)) ≡ []
final_silent s [] all = all.0
final_silent s (t ∷ ts) all = final_silent t ts all.1

final_behind : (xs : List (List ℕ)) (s : Receipt) (ss : List Receipt) → AllByRecursion IsSilent (s ∷ ss) → final (xs ++ map reply_in (s ∷ ss)) ≡ []
final_behind [] s ss all = final_silent s ss all
final_behind (x ∷ []) s ss all = final_silent s ss all
final_behind (x ∷ (y ∷ ys)) s ss all = final_behind (y ∷ ys) s ss all

nothing_in : (front back : List ℕ) → [] ≡ front ++ back → front ≡ []
nothing_in [] back is = refl
nothing_in (x ∷ xs) back is = absurd cc

cut_whole : (old new : Option (List ℕ)) (texts : List (List ℕ)) (c : IsCutOff old new texts) → c.last ≡ [] → Appends old new (concat texts)
cut_whole old new texts c none =
    let front = c.failed.0 in
    let nothing : front ≡ [] = nothing_in front c.failed.1 (sym none ∙ c.failed.2) in
    let all : concat texts ≡ concat c.whole ++ front =
    ap concat c.texts_are ∙ concat_append c.whole (c.last ∷ []) ∙ ap (λ t. concat c.whole ++ (t ++ [])) none ∙ ap (λ t. concat c.whole ++ t) (sym nothing) in
    subst (Appends old new) (sym all) (appends_more old c.between new (concat c.whole) front c.written c.failed.3)

broken_by : (old new : Option (List ℕ)) (receipts placed silent : List Receipt) (es : List Entry)
    → receipts ≡ placed ++ silent → AllByRecursion IsSilent silent → map receipt_for es ≡ placed → IsCutOff old new (map reply_in receipts)
    → IsCutOff old new (map reply_of es) ⊎ Appends old new (concat (map reply_of es))
broken_by old new receipts placed [] es parts silence are cut =
    inl (subst (IsCutOff old new) (ap (map reply_in) (parts ∙ append-nil placed ∙ sym are) ∙ replies_of es) cut)
broken_by old new receipts placed (s ∷ ss) es parts silence are cut =
    let texts : map reply_in receipts ≡ map reply_in placed ++ map reply_in (s ∷ ss) = ap (map reply_in) parts ∙ map-append reply_in placed (s ∷ ss) in
    let none : cut.last ≡ [] = sym (final_last cut.whole cut.last) ∙ ap final (sym cut.texts_are ∙ texts) ∙ final_behind (map reply_in placed) s ss silence in
    inr (subst (Appends old new) (same_replies receipts placed (s ∷ ss) es parts silence are) (cut_whole old new (map reply_in receipts) cut none))

-- ---- a session

module _ (content : Content) (before after : PassView) (fits : FitsPass content after) where
  abbrev its : List Entry
  its = entries_behind content before after

  parted_in : (receipts : List Receipt) → after ≡ with_receipts before receipts → AreReceivedBy before receipts → IsParted before after receipts
  parted_in receipts gained received = subst (λ w. IsParted before w receipts) (sym gained) (parted receipts before received)

  placed_are : (placed : List Receipt) → after.receipts ≡ before.receipts ++ placed → map receipt_for its ≡ placed
  placed_are placed gained = behind before.receipts placed (under after.number content.numbers content.book.entries) (sym fits.receipts ∙ gained)

  of_frames : (master : ℕ) (cuts : List Cut) (receipts : List Receipt) → AreExchanged master cuts receipts before after → IsParted before after receipts → AreOfFrames master cuts after.saw_halt its
  of_frames master cuts receipts exchanged p = record {
    later = map event_of p.silent;
    events =
        sym exchanged.events
        ∙ ap (map event_of) p.parts
        ∙ map-append event_of p.placed p.silent
        ∙ ap (λ ps. map event_of ps ++ map event_of p.silent) (sym (placed_are p.placed p.gained))
        ∙ ap (λ l. l ++ map event_of p.silent) (events_of its);
    all = λ is. ap (map event_of) (p.none is);
  }

  answered : (master : ℕ) (stream : List ℕ) (old new : Option (List ℕ)) → IsServed master stream before after old new → IsAnsweredBy master stream after.saw_halt its old new
  answered master stream old new s =
      let p = parted_in s.receipts s.exchanged.gained s.exchanged.received in record {
        cuts = s.cuts;
        rest = s.rest;
        cut = s.cut;
        frames = of_frames master s.cuts s.receipts s.exchanged p;
        written = subst (Appends old new) (same_replies s.receipts p.placed p.silent its p.parts p.silence (placed_are p.placed p.gained)) s.written;
      }

  broken : (master : ℕ) (stream : List ℕ) (old new : Option (List ℕ)) → IsBrokenOff master stream before after old new → IsBrokenOffBy master stream after.saw_halt its old new
  broken master stream old new s =
      let p = parted_in s.receipts s.exchanged.gained s.exchanged.received in record {
        first = s.first;
        later = s.later;
        rest = s.rest;
        cut = s.cut;
        frames = of_frames master s.first s.receipts s.exchanged p;
        written = broken_by old new s.receipts p.placed p.silent its p.parts p.silence (placed_are p.placed p.gained) s.written;
      }

  pub by_end : (end : SessionEnd) (master turns made : ℕ) (stream : List ℕ) (left old new : Option (List ℕ))
      → Exchanges end master turns made stream before after left old new → Answers end master turns made stream after.saw_halt its left old new
  by_end ends.EndOfInput master turns made stream left old new x = (answered master stream old new x.0, x.1)
  by_end ends.ReadFault master turns made stream left old new x = answered master stream old new x
  by_end ends.WriteFault master turns made stream left old new x = broken master stream old new x
  by_end ends.AddressHeld master turns made stream left old new x = absurd x
  by_end ends.UnknownMaster master turns made stream left old new x = absurd x
  by_end ends.TurnLimit master turns made stream left old new x = (answered master stream old new x.0, x.1, x.2)
  by_end ends.NoPass master turns made stream left old new x = absurd x

pub tied : (content : Content) (turns : ℕ) (streams : Streams) (before after : PassView) (end : SessionEnd)
    → HasExchanged turns streams before after end → FitsPass content after → HasAnswered turns streams before.address after.saw_halt (entries_behind content before after) end
tied content turns streams before after end x fits = record {
  stream = x.stream;
  read = x.read;
  made = x.made;
  most = x.most;
  answers = by_end content before after fits end before.address turns x.made x.stream streams.left_after streams.written streams.written_after x.exchanged;
}

-- ---- a session of a master, with its address and acceptance

no_entries : (es : List Entry) → map receipt_for es ≡ [] → es ≡ []
no_entries [] is = refl
no_entries (e ∷ es) is = absurd (let f : true ≡ false = ap begins is in cc)

pub tied_master : (content : Content) (masters : List ℕ) (turns : ℕ) (streams : Streams) (before after : ClaimView) (pass : PassView) (end : SessionEnd)
    → IsAccepted masters turns streams before after pass end → FitsPass content pass
    → HasAnsweredMaster turns streams pass.saw_halt (under pass.number content.numbers content.book.entries) end
tied_master content masters turns streams before after pass end x fits = record {
  address = x.address;
  stream = x.stream;
  read = x.read;
  behind = x.behind;
  first = x.first;
  made = x.made;
  most = x.most;
  accepted = ⊎_elim
      (λ a. inl (a.0, a.1, no_entries (under pass.number content.numbers content.book.entries) (sym fits.receipts ∙ ap (λ (p : PassView). p.receipts) a.2), a.3))
      (λ a. inr (a.0, a.1, by_end content (new_pass x.number x.address) pass fits end x.address x.behind x.made x.stream streams.left_after a.0 streams.written_after a.2))
      x.accepted;
}
