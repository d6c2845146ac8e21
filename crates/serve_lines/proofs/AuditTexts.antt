-- The audit texts of lines, one after another.
use Rattle.std.proofs.Common.{◌≡◌, ◌⊎◌, ⊎_elim, ℕ, zero, suc, ◌+◌, List, [], ◌∷◌, ◌++◌, drop, length, map, Option, Some, None, Ok, Err, slice_get, refl, sym, ap, subst, ◌∙◌, append_assoc, arith}
use Rattle.std.specs.List.{flat_map}
use Rattle.std.specs.Io.KnownBytes.{Appends}
use Rattle.std.proofs.lemmas.List.{append-nil, length-map, map-append}
use Rattle.std.proofs.lemmas.List.Concat.{flat_map-append}
use Rattle.std.proofs.lemmas.Slice.Zip.{AllZip-long, all_zipped_more}
use Rattle.dp_line.specs.declared.description.LineSpec.{LineSpec}
use Rattle.dp_shared.specs.Content.{Content}
use Rattle.serve_faults.specs.declared.serve_fault.OutputFault.{OutputFault}
use Rattle.serve_faults.specs.declared.serve_fault.OutputFault.TheVariants as outputs
use Rattle.serve_lines.specs.AuditTexts.{AreClosed, AreWritten, IsJournalOf, WritesAudit, WritesAudits, text_of}
use Rattle.dp_shared.specs.Passes.{PassIn}
use Rattle.serve_lines.specs.ReturnedPasses.{AgreeWith, AllPaired, IsNextList, PassList}
use Rattle.serve_lines.proofs.Writing.{appends_more, appends_none, keeps_more}

text_more : (journals : List Content) (content : Content) → flat_map text_of (journals ++ content ∷ []) ≡ flat_map text_of journals ++ text_of content
text_more journals content = flat_map-append text_of journals (content ∷ []) ∙ ap (λ t. flat_map text_of journals ++ t) (append-nil (text_of content))

-- the writing of an audit text ends early
pub lines_break_off : (lines : List LineSpec) (line : LineSpec) (later : List LineSpec) (passes : PassList) (all : List PassList) (a b c : Option (List ℕ)) (fault : OutputFault) → AreWritten lines a b
    → WritesAudit line passes b c (Err fault) → WritesAudits (lines ++ line ∷ later) all a c (Err fault)
lines_break_off lines line later passes all a b c outputs.WriteFault w cut = record {
  first = lines ++ line ∷ [];
  later = later;
  lines_are = sym (append_assoc lines (line ∷ []) later);
  journals = w.journals ++ cut.0 ∷ [];
  each = all_zipped_more IsJournalOf lines w.journals line cut.0 w.each cut.1;
  written = (
    flat_map text_of w.journals ++ cut.2.0,
    cut.2.1,
    text_more w.journals cut.0 ∙ ap (λ t. flat_map text_of w.journals ++ t) cut.2.2 ∙ sym (append_assoc (flat_map text_of w.journals) cut.2.0 cut.2.1),
    appends_more a b c (flat_map text_of w.journals) cut.2.0 w.written cut.2.3,
  );
}
lines_break_off lines line later passes all a b c outputs.OutOfMemory w same = record {
  first = lines;
  later = line ∷ later;
  lines_are = refl;
  journals = w.journals;
  each = w.each;
  written = (flat_map text_of w.journals, [], sym (append-nil (flat_map text_of w.journals)), keeps_more a b c (flat_map text_of w.journals) w.written same);
}
lines_break_off lines line later passes all a b c (outputs.CannotMakePorts cause) w never = absurd never

-- the writing of the audit texts of lines at ports ends early, after some ports
pub ports_break_off : {P : Type 0} (f : P → LineSpec) (done : List P) (port : P) (later rest all : List P) (passes : PassList) (lists : List PassList) (a b c : Option (List ℕ)) (fault : OutputFault)
    → rest ≡ port ∷ later → done ++ rest ≡ all → AreClosed (map f done) lists a b → WritesAudit (f port) passes b c (Err fault) → WritesAudits (map f all) lists a c (Err fault)
ports_break_off f done port later rest all passes lists a b c fault here whole closed cut =
    subst (λ lines. WritesAudits lines lists a c (Err fault)) (sym (map-append f done (port ∷ later)) ∙ ap (map f) (ap (λ ps. done ++ ps) (sym here) ∙ whole))
    (lines_break_off (map f done) (f port) (map f later) passes lists a b c fault closed.texts cut)

-- ---- the passes of the lines

behind : {P : Type 0} (done : List P) (port : P) (later : List P) → slice_get (done ++ port ∷ later) (length done) ≡ Some port
behind [] port later = refl
behind (first ∷ done) port later = behind done port later

pub paired_more : {A B : Type 0} (R : A → B → Type 0) (xs : List A) (ys : List B) (x : A) → AllPaired R xs ys → ((y : B) → slice_get ys (length xs) ≡ Some y → R x y) → AllPaired R (xs ++ x ∷ []) ys
paired_more R [] [] x each here = tt
paired_more R [] (y ∷ ys) x each here = (here y refl, tt)
paired_more R (a ∷ xs) [] x each here = tt
paired_more R (a ∷ xs) (b ∷ ys) x each here = (each.0, paired_more R xs ys x each.1 here)

dropped_there : {X : Type 0} (xs : List X) (n : ℕ) (x : X) (rest : List X) → drop n xs ≡ x ∷ rest → slice_get xs n ≡ Some x
dropped_there [] zero x rest here = absurd cc
dropped_there [] (suc n) x rest here = absurd cc
dropped_there (z ∷ xs) zero x rest here = cc
dropped_there (z ∷ xs) (suc n) x rest here = dropped_there xs n x rest here

dropped_off : {X : Type 0} (xs : List X) (n : ℕ) → drop n xs ≡ [] → slice_get xs n ≡ None
dropped_off [] n here = refl
dropped_off (z ∷ xs) zero here = absurd cc
dropped_off (z ∷ xs) (suc n) here = dropped_off xs n here

dropped_next : {X : Type 0} (xs : List X) (n : ℕ) (x : X) (rest : List X) → drop n xs ≡ x ∷ rest → rest ≡ drop (suc n) xs
dropped_next [] zero x rest here = absurd cc
dropped_next [] (suc n) x rest here = absurd cc
dropped_next (z ∷ xs) zero x rest here = cc
dropped_next (z ∷ xs) (suc n) x rest here = dropped_next xs n x rest here

dropped_none : {X : Type 0} (xs : List X) (n : ℕ) → drop n xs ≡ [] → drop (suc n) xs ≡ []
dropped_none [] zero here = refl
dropped_none [] (suc n) here = refl
dropped_none (z ∷ xs) zero here = absurd cc
dropped_none (z ∷ xs) (suc n) here = dropped_none xs n here

module _ (lists before after : List PassList) (passes : PassList) (n : ℕ) (left : before ≡ drop n lists) (next : IsNextList before after passes) where
  -- the lists that are left behind it
  pub lists_left : after ≡ drop (n + 1) lists
  lists_left =
      let more : suc n ≡ n + 1 = omega arith in
      ⊎_elim
      (λ one. dropped_next lists n passes after (sym left ∙ one))
      (λ none. none.1 ∙ sym (dropped_none lists n (sym left ∙ none.0)))
      next ∙ ap (λ k. drop k lists) more

  -- no other list is at its place
  pub next_is : (list : PassList) → slice_get lists n ≡ Some list → list ≡ passes
  next_is list here = ⊎_elim
      (λ one. (let there = dropped_there lists n passes after (sym left ∙ one) in cc))
      (λ none. absurd (let off = dropped_off lists n (sym left ∙ none.0) in cc))
      next

  -- what holds of the list at this place, and of one that is empty, holds of it
  pub holds_of_next : (Q : List PassIn → Type 0) → ((list : PassList) → slice_get lists n ≡ Some list → Q list.items) → Q [] → Q passes.items
  holds_of_next Q found empty = ⊎_elim
      (λ one. found passes (dropped_there lists n passes after (sym left ∙ one)))
      (λ none. subst Q (sym none.2) empty)
      next

-- ---- lines that are closed one after another

pub none_closed : (lists : List PassList) (a : Option (List ℕ)) → AreClosed [] lists a a
none_closed lists a = record { texts = record { journals = []; each = tt; written = appends_none a }; agree = tt }

-- one more line is closed, and its audit text is written after those of others
one_more_closed : (lines : List LineSpec) (line : LineSpec) (lists before after : List PassList) (passes : PassList) (a b c : Option (List ℕ)) → before ≡ drop (length lines) lists → IsNextList before after passes
    → AreClosed lines lists a b → WritesAudit line passes b c (Ok tt) → AreClosed (lines ++ line ∷ []) lists a c
one_more_closed lines line lists before after passes a b c left next closed more = record {
  texts = record {
    journals = closed.texts.journals ++ more.0 ∷ [];
    each = all_zipped_more IsJournalOf lines closed.texts.journals line more.0 closed.texts.each more.1;
    written = subst (Appends a c) (sym (text_more closed.texts.journals more.0)) (appends_more a b c (flat_map text_of closed.texts.journals) (text_of more.0) closed.texts.written more.2);
  };
  agree = paired_more AgreeWith closed.texts.journals lists more.0 closed.agree (λ list there.
      subst (AgreeWith more.0) (sym (next_is lists before after passes (length lines) left next list
      (ap (slice_get lists) (sym (AllZip-long IsJournalOf lines closed.texts.journals closed.texts.each)) ∙ there))) more.3);
}

pub one_more_port : {P : Type 0} (f : P → LineSpec) (done : List P) (port : P) (lists before after : List PassList) (passes : PassList) (a b c : Option (List ℕ)) → before ≡ drop (length done) lists
    → IsNextList before after passes → AreClosed (map f done) lists a b → WritesAudit (f port) passes b c (Ok tt) → AreClosed (map f (done ++ port ∷ [])) lists a c
one_more_port f done port lists before after passes a b c left next closed more =
    subst (λ lines. AreClosed lines lists a c) (sym (map-append f done (port ∷ [])))
    (one_more_closed (map f done) (f port) lists before after passes a b c (left ∙ ap (λ n. drop n lists) (sym (length-map done f))) next closed more)

-- the port behind those that are done
pub port_here : {P : Type 0} (done : List P) (port : P) (later rest all : List P) → rest ≡ port ∷ later → done ++ rest ≡ all → slice_get all (length done) ≡ Some port
port_here done port later rest all here whole = subst (λ ps. slice_get ps (length done) ≡ Some port) (ap (λ ps. done ++ ps) (sym here) ∙ whole) (behind done port later)
