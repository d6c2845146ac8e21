use Rattle.std.proofs.Common.{List, subst}
use Rattle.dp_line.specs.World.{World, start_of}
use Rattle.dp_audit.specs.declared.entry.Entry.{Entry}
use Rattle.dp_audit.specs.Legal.{IsLegal}
use Rattle.test_lines.proofs.journal_clients.a_book_repeats_the_octets.Goals as goal

pub returns : goal.returns
returns c = λ line before between rest first again master octets reply rule telegram start all.
    c.a_repeat_has_the_same_octets.ensures line before between rest first again master octets reply rule telegram
    (subst (λ (l : List Entry). IsLegal (start_of line) l) all (subst (λ (w : World). IsLegal w c.args.book.now.entries) start c.prove_legal.ensures.legal))
