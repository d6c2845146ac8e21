use Rattle.std.proofs.Common.{◌≡◌, ◌<◌, [], length, take, arith, ap, sym, subst, ◌∙◌}
use Rattle.std.specs.Io.KnownBytes.{Consumes, IsAtEnd, Keeps}
use Rattle.std.proofs.KnownBytes.{Keeps-refl}
use Rattle.audit_parts.specs.Filtering.{still_given, waiting_of}
use Rattle.audit_parts.proofs.StillGiven.{gives_on}
use Rattle.audit_parts.proofs.entry_rows.EntryRowsRead.read.Goals as goal
use Rattle.audit_parts.proofs.entry_rows.EntryRowsRead.read.Goals.{then-is_empty+in_ok-next_row, else-is_empty}

pub returns-clause-bytes : goal.returns-clause-bytes
returns-clause-bytes g c =
    let left = g.R.Read.remaining in
    let first = c.args.self.now in
    let start = left first.opened.value in
    let now = c.if-is_empty.self in
    let after = c.hand_on.new.self in
    let count = c.hand_on.result in
    let buf = c.hand_on.new.buf in
    elim c.if-is_empty.branch [
      | then-is_empty+in_ok-next_row w ↦
          subst (λ o. Consumes (still_given start first.filter (left first.reader)) (still_given (left o.value) after (left now.reader)) (take count buf)
          × (count ≡ 0 → 0 < length buf → IsAtEnd (still_given (left o.value) after (left now.reader))))
          (sym (ap (λ s. s.opened) w.self-is ∙ w.next_row.ensures.opened))
          (gives_on start first.filter now.filter after buf (left first.reader) (left now.reader) count
          (subst (λ s. Keeps (still_given start first.filter (left first.reader)) (still_given start s.filter (left s.reader))) (sym w.self-is) w.next_row.ensures.kept)
          (subst (λ s. waiting_of s.filter ≡ [] → IsAtEnd (still_given start s.filter (left s.reader))) (sym w.self-is) w.in_ok-next_row.ensures.end)
          c.hand_on.ensures.count c.hand_on.ensures.check c.hand_on.ensures.row c.hand_on.ensures.waiting c.hand_on.ensures.bytes)
      | else-is_empty w ↦
          subst (λ o. Consumes (still_given start first.filter (left first.reader)) (still_given (left o.value) after (left now.reader)) (take count buf)
          × (count ≡ 0 → 0 < length buf → IsAtEnd (still_given (left o.value) after (left now.reader))))
          (sym (ap (λ s. s.opened) w.self-is))
          (gives_on start first.filter now.filter after buf (left first.reader) (left now.reader) count
          (subst (λ s. Keeps (still_given start first.filter (left first.reader)) (still_given start s.filter (left s.reader))) (sym w.self-is) (Keeps-refl (still_given start first.filter (left first.reader))))
          (λ none. absurd (let some = c.is_empty.ensures.some w.if-is_empty.false in let no = ap length (sym (ap (λ s. waiting_of s.filter) w.self-is) ∙ none) in omega (arith, some, no)))
          c.hand_on.ensures.count c.hand_on.ensures.check c.hand_on.ensures.row c.hand_on.ensures.waiting c.hand_on.ensures.bytes)
    ]
