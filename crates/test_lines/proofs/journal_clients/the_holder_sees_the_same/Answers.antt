use Rattle.std.proofs.Common.{◌<◌, List, length, subst}
use Rattle.dp_line.specs.World.{World, start_of}
use Rattle.dp_audit.specs.declared.entry.Entry.{Entry}
use Rattle.dp_audit.specs.Legal.{IsLegal}
use Rattle.test_lines.proofs.journal_clients.the_holder_sees_the_same.Goals as goal

pub returns : goal.returns
returns c = λ master address line there before before_there entries entries_there start start_there all all_there few few_there agrees same.
    c.isolation_in_journals.ensures.journals master address line there before before_there entries entries_there
    (subst (λ (l : List Entry). IsLegal (start_of line) l) all (subst (λ (w : World). IsLegal w c.args.one.now.entries) start c.prove_legal.ensures.legal))
    (subst (λ (l : List Entry). IsLegal (start_of there) l) all_there (subst (λ (w : World). IsLegal w c.args.other.now.entries) start_there c.prove_legal-2.ensures.legal))
    (subst (λ (l : List Entry). length l < line.capacity) all few)
    (subst (λ (l : List Entry). length l < there.capacity) all_there few_there)
    agrees same
