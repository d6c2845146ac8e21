use Rattle.std.proofs.Common.{IfSome, subst, sym}
use Rattle.audit_files.specs.AuditPaths.{IsFileIn}
use Rattle.serve_lines.specs.ServedLines.{line_numbers}
use Rattle.serve_rack.specs.ServeOutput.{AreServedTo, IsCauseOfBreak}
use Rattle.serve_rack.proofs.LinesServed.{cause_cuts, whole_in_part}
use Rattle.serve_rack.proofs.serving.result_of.Goals as goal

pub returns-in-Some-clause-serves : goal.returns-in-Some-clause-serves
returns-in-Some-clause-serves c = λ folder lines among old new all counted. (
  (
    subst (λ found. IfSome found (λ file. IsFileIn folder (line_numbers lines) file.path)) c.in-Some.is among,
    subst (IsCauseOfBreak c.args.are_endless) (sym c.cause.ensures) (cause_cuts c.args.are_endless c.in-Some.file.refused c.in-Some.file.reason),
  ),
  all,
)

pub returns-in-Some-served-clause-serves : goal.returns-in-Some-served-clause-serves
returns-in-Some-served-clause-serves c = λ folder lines among old new all counted.
    subst (λ found. IfSome found (λ counts. AreServedTo c.args.are_endless lines counts.masters old new)) c.in-Some-served.is counted

pub returns-in-None-clause-serves : goal.returns-in-None-clause-serves
returns-in-None-clause-serves c = λ folder lines among old new all counted. whole_in_part c.args.are_endless lines old new all
