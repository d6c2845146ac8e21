use Rattle.std.proofs.Common.{◌∙◌}
use Rattle.test_lines.proofs.journal_clients.a_book_is_a_run.Goals as goal

pub returns-clause-world : goal.returns-clause-world
returns-clause-world c = c.prove_legal.ensures.after ∙ c.a_legal_journal_is_a_run.ensures.world c.args.book.now.opening c.args.book.now.entries c.prove_legal.ensures.legal

pub returns-clause-answers : goal.returns-clause-answers
returns-clause-answers c = c.a_legal_journal_is_a_run.ensures.answers c.args.book.now.opening c.args.book.now.entries c.prove_legal.ensures.legal
