-- The contents of a writer after some writes.
use Rattle.std.proofs.Common.{ℕ, List, [], ◌++◌, Option, Result, Ok, Err, ap, ◌∙◌, append_assoc}
use Rattle.std.specs.Io.KnownBytes.{Appends}
use Rattle.std.proofs.lemmas.List.{append-nil}
use Rattle.dp_text.specs.Writes.{WritesPrefix}
use Rattle.dp_audit.proofs.Written.{appends_more, more_prefix}
use Rattle.explain_texts.specs.declared.explain_fault.ExplainFault.{ExplainFault}
use Rattle.explain_texts.specs.Explained.{Leaves}

-- a prefix of the first of two texts
pub front_cut : (old new : Option (List ℕ)) (text more : List ℕ) → WritesPrefix old new text → WritesPrefix old new (text ++ more)
front_cut old new text more cut = (cut.0, cut.1 ++ more, ap (λ (t : List ℕ). t ++ more) cut.2 ∙ append_assoc cut.0 cut.1 more, cut.3)

-- a text is written, and then another one, whole or in part
pub then_leaves : (old new newer : Option (List ℕ)) (text more : List ℕ) (result : Result (Unit {0}) ExplainFault) → Appends old new text → Leaves more new newer result
    → Leaves (text ++ more) old newer result
then_leaves old new newer text more (Ok done) written others = appends_more old new newer text more written others
then_leaves old new newer text more (Err fault) written others =
    more_prefix old new newer text more [] (text ++ more) written others (ap (λ (m : List ℕ). text ++ m) (append-nil more))
