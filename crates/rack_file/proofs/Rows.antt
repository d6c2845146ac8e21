-- The text that is shown for a rack text, in one line.
use Rattle.std.proofs.Common.{◌≡◌, ℕ, ◌/◌, ◌%◌, ◌<◌, ◌⊎◌, ◌≢◌, inl, inr, Bool, true, false, IsTrue, cond, List, [], ◌∷◌, ◌++◌, Option, Some, None, Result, Ok, Err, refl, sym, codes, All, arith}
use Rattle.std.proofs.lemmas.Bool.Decides.{nat_tests}
use Rattle.std.proofs.lemmas.List.Elements.{All-nil, All-cons, All-append, All-head, All-tail, All-from_recursion}
use Rattle.std.specs.Fmt.{digit_glyph}
use Rattle.toml.specs.Data.{Members}
use Rattle.rack_file.specs.declared.fault.RackFault.{RackFault}
use Rattle.rack_file.specs.declared.fault.RackFault.TheVariants as faults
use Rattle.rack_file.specs.declared.misread.Misread.{Misread}
use Rattle.rack_file.specs.declared.misread.Misread.TheVariants as misreads
use Rattle.rack_file.specs.Rack.{RackDescription}
use Rattle.rack_file.specs.Misreads.{stands_for_itself, shown_octet, shown}
use Rattle.rack_file.specs.RackFile.{rack_of, with_fault, rack_of_document}
use Rattle.rack_file.specs.Causes.{cause_of, ReportsCause}

-- ---- the texts for which a cause is shown

abbrev Refused : Result RackDescription RackFault → Type 0
Refused read = (read ≡ Err faults.BadKey) ⊎ (read ≡ Err faults.NotToml)

abbrev NotRefused : Result RackDescription RackFault → Type 0
NotRefused read = (read ≢ Err faults.BadKey) × (read ≢ Err faults.NotToml)

refused_file : (read : Result RackDescription Misread) (cause : List ℕ) → Some cause ≡ cause_of read → Refused (with_fault read)
refused_file (Ok rack) cause e = absurd cc
refused_file (Err misreads.OutOfMemory) cause e = absurd cc
refused_file (Err (misreads.BadKey bad)) cause e = inl refl
refused_file (Err misreads.TwiceLine) cause e = absurd cc
refused_file (Err (misreads.Open position fault)) cause e = absurd cc

pub refused : (text : List ℕ) (document : Option Members) (cause : List ℕ) → ReportsCause text document (Some cause) → Refused (rack_of_document document)
refused text None cause reports = inr refl
refused text (Some file) cause reports = refused_file (rack_of file) cause reports

not_refused_file : (read : Result RackDescription Misread) → cause_of read ≡ None → NotRefused (with_fault read)
not_refused_file (Ok rack) e = (λ h. cc, λ h. cc)
not_refused_file (Err misreads.OutOfMemory) e = (λ h. cc, λ h. cc)
not_refused_file (Err (misreads.BadKey bad)) e = absurd cc
not_refused_file (Err misreads.TwiceLine) e = (λ h. cc, λ h. cc)
not_refused_file (Err (misreads.Open position fault)) e = (λ h. cc, λ h. cc)

pub not_refused : (text : List ℕ) (document : Option Members) → ReportsCause text document None → NotRefused (rack_of_document document)
not_refused text None reports = absurd reports
not_refused text (Some file) reports = not_refused_file (rack_of file) (sym reports)

-- ---- how octets are shown

abbrev pub Stays : ℕ → Type 0
Stays octet = IsTrue (stands_for_itself octet) ⊎ (octet ≡ 0x5C)

digit_stays : (d : ℕ) → d < 16 → Stays (digit_glyph false d)
digit_stays d small = inl (grind (arith, nat_tests))

octet_by : (octet : ℕ) (itself : Bool) → stands_for_itself octet ≡ itself → octet < 256
    → All Stays (cond itself (octet ∷ []) (codes "\\x" ++ digit_glyph false (octet / 16) ∷ digit_glyph false (octet % 16) ∷ []))
octet_by octet true is small = All-cons Stays octet [] (inl is) (All-nil Stays)
octet_by octet false is small =
    All-from_recursion Stays (0x5C ∷ 0x78 ∷ digit_glyph false (octet / 16) ∷ digit_glyph false (octet % 16) ∷ [])
    (inr refl, (inl refl, (digit_stays (octet / 16) (omega arith), (digit_stays (octet % 16) (omega arith), tt))))

pub text_stays : (text : List ℕ) → All (λ octet. octet < 256) text → All Stays (shown text)
text_stays [] small = All-nil Stays
text_stays (octet ∷ text) small =
    All-append Stays (shown_octet octet) (shown text)
    (octet_by octet (stands_for_itself octet) refl (All-head (λ (x : ℕ). x < 256) octet text small))
    (text_stays text (All-tail (λ (x : ℕ). x < 256) octet text small))
