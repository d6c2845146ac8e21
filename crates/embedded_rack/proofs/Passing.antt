-- A master's stream: the answers so far, and those that remain.
use Rattle.std.proofs.Common.{◌≡◌, ℕ, true, eqb, List, [], ◌∷◌, ◌++◌, length, Option, refl, sym, ap, subst, ◌∙◌, append_assoc}
use Rattle.std.specs.Io.KnownBytes.{Appends}
use Rattle.std.proofs.lemmas.List.{append-nil, nil_from_length}
use Rattle.std.proofs.lemmas.Bool.{eqb-true}
use Rattle.dp_telegram.specs.declared.cutter.Cut.{Cut}
use Rattle.dp_telegram.specs.Stream.{CutStream, cuts_of, with_cut, uncut}
use Rattle.dp_audit.specs.Journal.{Journal}
use Rattle.embedded_rack.specs.EmbeddedLines.{Answered, Stream, Passed, piece_answered, pieces_answered, cut_passed, passed, then_passed}
use Rattle.dp_text.specs.Writes.{WritesPrefix}
use Rattle.embedded_rack.proofs.Writing.{appends_none, appends_more, more_prefix}

-- with the text so far before it
abbrev pub with_text : List ℕ → Passed → Passed
with_text text passing = record { journal = passing.journal; stream = passing.stream; text = text ++ passing.text }

piece_more : (journal : Journal) (master : ℕ) (text : List ℕ) (piece : Cut) (cut : CutStream)
    → with_text (text ++ (piece_answered journal master piece).text) (cut_passed (piece_answered journal master piece).journal master cut)
    ≡ with_text text (cut_passed journal master (with_cut piece cut))
piece_more journal master text piece cut =
    let behind = cut_passed (piece_answered journal master piece).journal master cut in
    ap (λ t. record { journal = behind.journal; stream = behind.stream; text = t }) (append_assoc text (piece_answered journal master piece).text behind.text)

-- this much of the answers to octets is written, and this part of the stream remains
pub record SoFar (all : Passed) (old new : Option (List ℕ)) (journal : Journal) (master : ℕ) (cut : CutStream) : Type 0 where
  pub text : List ℕ
  pub written : Appends old new text
  pub left : with_text text (cut_passed journal master cut) ≡ all

pub at_start : (journal : Journal) (stream : Stream) (octets : List ℕ) (old : Option (List ℕ))
    → SoFar (passed journal stream octets) old old journal stream.master (cuts_of (stream.held ++ octets))
at_start journal stream octets old = record { text = []; written = appends_none old; left = refl }

-- the answer to one more piece is written
pub piece_written : (all : Passed) (old new newer : Option (List ℕ)) (journal next : Journal) (master : ℕ) (piece : Cut) (more : List ℕ) (whole cut : CutStream)
    → SoFar all old new journal master whole → whole ≡ with_cut piece cut → record { journal = next; text = more } ≡ piece_answered journal master piece → Appends new newer more
    → SoFar all old newer next master cut
piece_written all old new newer journal next master piece more whole cut s handed answered written = record {
  text = s.text ++ more;
  written = appends_more old new newer s.text more s.written written;
  left =
      ap (λ (a : Answered). with_text (s.text ++ a.text) (cut_passed a.journal master cut)) answered
      ∙ piece_more journal master s.text piece cut
      ∙ ap (λ c. with_text s.text (cut_passed journal master c)) (sym handed)
      ∙ s.left;
}

-- a piece's answer is written in part
pub piece_cut_off : (all : Passed) (old new newer : Option (List ℕ)) (journal next : Journal) (master : ℕ) (piece : Cut) (more : List ℕ) (whole cut : CutStream)
    → SoFar all old new journal master whole → whole ≡ with_cut piece cut → record { journal = next; text = more } ≡ piece_answered journal master piece → WritesPrefix new newer more
    → WritesPrefix old newer all.text
piece_cut_off all old new newer journal next master piece more whole cut s handed answered written =
    more_prefix old new newer s.text more (cut_passed next master cut).text all.text s.written written
    (ap (λ (a : Answered). s.text ++ (a.text ++ (cut_passed a.journal master cut).text)) answered
    ∙ ap (λ c. s.text ++ (cut_passed journal master c).text) (sym handed)
    ∙ ap (λ (p : Passed). p.text) s.left)

-- all octets are answered
pub record IsDone (all : Passed) (old new : Option (List ℕ)) (journal : Journal) (stream : Stream) : Type 0 where
  pub journal_is : journal ≡ all.journal
  pub stream_is : stream ≡ all.stream
  pub written : Appends old new all.text

-- no octets remain, and those that are held can't be judged yet
pub all_passed : (all : Passed) (old new : Option (List ℕ)) (journal : Journal) (master : ℕ) (held left : List ℕ)
    → SoFar all old new journal master (cuts_of (held ++ left)) → eqb (length left) 0 ≡ true → cuts_of held ≡ uncut held
    → IsDone all old new journal (record { master = master; held = held })
all_passed all old new journal master held left s none uncuttable =
    let here : cuts_of (held ++ left) ≡ uncut held =
    ap (λ more. cuts_of (held ++ more)) (nil_from_length left (eqb-true (length left) 0 none)) ∙ ap cuts_of (append-nil held) ∙ uncuttable in
    let done : with_text s.text (cut_passed journal master (uncut held)) ≡ all = ap (λ c. with_text s.text (cut_passed journal master c)) (sym here) ∙ s.left in record {
      journal_is = ap (λ (p : Passed). p.journal) done;
      stream_is = ap (λ (p : Passed). p.stream) done;
      written = subst (Appends old new) (sym (append-nil s.text) ∙ ap (λ (p : Passed). p.text) done) s.written;
    }

-- ---- octets in words

-- this much is written, and these octets remain
pub record WordsSoFar (all : Passed) (old new : Option (List ℕ)) (journal : Journal) (stream : Stream) (octets : List ℕ) : Type 0 where
  pub text : List ℕ
  pub written : Appends old new text
  pub left : with_text text (passed journal stream octets) ≡ all

pub words_start : (journal : Journal) (stream : Stream) (octets : List ℕ) (old : Option (List ℕ)) → WordsSoFar (passed journal stream octets) old old journal stream octets
words_start journal stream octets old = record { text = []; written = appends_none old; left = refl }

-- the first octets are answered, and the others remain
pub words_more : (all : Passed) (old new newer : Option (List ℕ)) (journal next : Journal) (stream following : Stream) (octets part rest : List ℕ)
    → WordsSoFar all old new journal stream octets → octets ≡ part ++ rest → passed journal stream (part ++ rest) ≡ then_passed (passed journal stream part) rest
    → next ≡ (passed journal stream part).journal → following ≡ (passed journal stream part).stream → Appends new newer (passed journal stream part).text
    → WordsSoFar all old newer next following rest
words_more all old new newer journal next stream following octets part rest s split law journal_is stream_is written =
    let before = passed journal stream part in
    let behind = passed before.journal before.stream rest in record {
      text = s.text ++ before.text;
      written = appends_more old new newer s.text before.text s.written written;
      left =
          ap (λ w. with_text (s.text ++ before.text) (passed w following rest)) journal_is
          ∙ ap (λ f. with_text (s.text ++ before.text) (passed before.journal f rest)) stream_is
          ∙ ap (λ t. record { journal = behind.journal; stream = behind.stream; text = t }) (append_assoc s.text before.text behind.text)
          ∙ ap (with_text s.text) (sym law)
          ∙ ap (λ o. with_text s.text (passed journal stream o)) (sym split)
          ∙ s.left;
    }

-- an answer is written in part
pub words_cut_off : (all : Passed) (old new newer : Option (List ℕ)) (journal : Journal) (stream : Stream) (octets part rest : List ℕ)
    → WordsSoFar all old new journal stream octets → octets ≡ part ++ rest → passed journal stream (part ++ rest) ≡ then_passed (passed journal stream part) rest
    → WritesPrefix new newer (passed journal stream part).text
    → WritesPrefix old newer all.text
words_cut_off all old new newer journal stream octets part rest s split law written =
    let before = passed journal stream part in
    let behind = passed before.journal before.stream rest in
    more_prefix old new newer s.text before.text behind.text all.text s.written written
    (ap (λ (p : Passed). s.text ++ p.text) (sym law)
    ∙ ap (λ o. s.text ++ (passed journal stream o).text) (sym split)
    ∙ ap (λ (p : Passed). p.text) s.left)

-- the last octets are answered
pub words_done : (all : Passed) (old new newer : Option (List ℕ)) (journal next : Journal) (stream following : Stream) (octets part rest : List ℕ)
    → WordsSoFar all old new journal stream octets → octets ≡ part ++ rest → length rest ≡ 0
    → next ≡ (passed journal stream part).journal → following ≡ (passed journal stream part).stream → Appends new newer (passed journal stream part).text
    → IsDone all old newer next following
words_done all old new newer journal next stream following octets part rest s split none journal_is stream_is written =
    let last : octets ≡ part = split ∙ ap (λ more. part ++ more) (nil_from_length rest none) ∙ append-nil part in
    let done : with_text s.text (passed journal stream part) ≡ all = ap (λ o. with_text s.text (passed journal stream o)) (sym last) ∙ s.left in record {
      journal_is = journal_is ∙ ap (λ (p : Passed). p.journal) done;
      stream_is = stream_is ∙ ap (λ (p : Passed). p.stream) done;
      written = subst (Appends old newer) (ap (λ (p : Passed). p.text) done) (appends_more old new newer s.text (passed journal stream part).text s.written written);
    }

-- ---- a stream in pieces

answered_in_turn : (journal : Journal) (master : ℕ) (first later : List Cut) → pieces_answered journal master (first ++ later) ≡ record {
  journal = (pieces_answered (pieces_answered journal master first).journal master later).journal;
  text = (pieces_answered journal master first).text ++ (pieces_answered (pieces_answered journal master first).journal master later).text;
}
answered_in_turn journal master [] later = refl
answered_in_turn journal master (piece ∷ first) later =
    let one = piece_answered journal master piece in
    let some = pieces_answered one.journal master first in
    let rest = pieces_answered some.journal master later in
    ap (λ (a : Answered). record { journal = a.journal; text = one.text ++ a.text }) (answered_in_turn one.journal master first later)
    ∙ ap (λ t. record { journal = rest.journal; text = t }) (sym (append_assoc one.text some.text rest.text))

abbrev passed_by : ℕ → Answered → List ℕ → Passed
passed_by master answered rest = record { journal = answered.journal; stream = record { master = master; held = rest }; text = answered.text }

pub passed_in_turn : (journal : Journal) (stream : Stream) (first later : List ℕ)
    → (cuts_of ((stream.held ++ first) ++ later)).cuts ≡ (cuts_of (stream.held ++ first)).cuts ++ (cuts_of ((cuts_of (stream.held ++ first)).rest ++ later)).cuts
    → (cuts_of ((stream.held ++ first) ++ later)).rest ≡ (cuts_of ((cuts_of (stream.held ++ first)).rest ++ later)).rest
    → passed journal stream (first ++ later) ≡ then_passed (passed journal stream first) later
passed_in_turn journal stream first later cuts rest =
    let whole = cuts_of ((stream.held ++ first) ++ later) in
    let front = cuts_of (stream.held ++ first) in
    let back = cuts_of (front.rest ++ later) in
    ap (λ octets. cut_passed journal stream.master (cuts_of octets)) (sym (append_assoc stream.held first later))
    ∙ ap (λ cs. passed_by stream.master (pieces_answered journal stream.master cs) whole.rest) cuts
    ∙ ap (λ r. passed_by stream.master (pieces_answered journal stream.master (front.cuts ++ back.cuts)) r) rest
    ∙ ap (λ a. passed_by stream.master a back.rest) (answered_in_turn journal stream.master front.cuts back.cuts)
