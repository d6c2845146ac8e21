-- The verdict on a text, as an explanation reports it.
use Rattle.std.proofs.Common.{◌≡◌, ℕ, Bool, List, [], ◌∷◌, Result, Ok, Err, refl, sym, subst}
use Rattle.dp_audit.specs.declared.fault.AuditFault.{AuditFault}
use Rattle.explain_texts.specs.declared.explain_fault.ExplainFault.{ExplainFault}
use Rattle.explain_texts.specs.declared.explain_fault.ExplainFault.TheVariants as explains
use Rattle.explain_texts.specs.declared.read_fault.ReadFault.{ReadFault}
use Rattle.explain_texts.specs.declared.read_fault.ReadFault.TheVariants as reads
use Rattle.explain_texts.specs.declared.rows_fault.RowsFault.TheVariants as rows
use Rattle.explain_texts.specs.Explained.{verdict_status}
use Rattle.explain_texts.specs.ExplainedRows.{IsReadable, Reads}
use Rattle.explain_texts.specs.Reported.{Reported, reports_verdict}
use Rattle.explain_texts.specs.Reports.{Takes}
use Rattle.explain_texts.proofs.Reporting.{none_reported, one_taken}
use Rattle.rack_script.specs.declared.run_fault.RunFault.{RunFault}
use Rattle.rack_script.specs.declared.run_fault.RunFault.TheVariants as runs
use Rattle.rack_script.specs.ReadFaults.{run_fault_of_read, run_fault_of_rows}
use Rattle.rack_script.specs.Explanations.{Explains, ReportsVerdict}

-- ---- a verdict that is known

-- the receiver took it
pub verdict_taken : {S : Type 0} (takes : Takes S) (verdict : Result ℕ AuditFault) (old new : S) (status : ℕ) (done : Unit {0}) → status ≡ verdict_status verdict → takes old (reports_verdict verdict) (Ok done) new
    → ReportsVerdict takes verdict old new (Ok status)
verdict_taken takes verdict old new status done counted took = (counted, one_taken takes old new (reports_verdict verdict) (Ok done) took)

-- the receiver failed
pub verdict_failed : {S : Type 0} (takes : Takes S) (verdict : Result ℕ AuditFault) (old new : S) (fault : ExplainFault) → takes old (reports_verdict verdict) (Err fault) new
    → ReportsVerdict takes verdict old new (Err (run_fault_of_rows (rows.Explain fault)))
verdict_failed takes verdict old new explains.OutOfMemory took = one_taken takes old new (reports_verdict verdict) (Err explains.OutOfMemory) took
verdict_failed takes verdict old new explains.WriteFault took = one_taken takes old new (reports_verdict verdict) (Err explains.WriteFault) took

by_result : {S : Type 0} (takes : Takes S) (verdict : Result ℕ AuditFault) (row : List ℕ) (old new : S) (result : Result ℕ RunFault) → IsReadable verdict row → ReportsVerdict takes verdict old new result
    → Explains takes verdict row (reports_verdict verdict ∷ []) old new result
by_result takes verdict row old new (Ok status) readable reported = (reported.0, reported.1, readable)
by_result takes verdict row old new (Err runs.WriteFault) readable cut = cut
by_result takes verdict row old new (Err runs.OutOfMemory) readable cut = cut
by_result takes verdict row old new (Err runs.CannotRead) readable never = absurd never
by_result takes verdict row old new (Err runs.NotText) readable never = absurd never
by_result takes verdict row old new (Err (runs.Script line)) readable never = absurd never
by_result takes verdict row old new (Err (runs.Rack fault)) readable never = absurd never

-- a verdict that is known is the explanation
pub verdict_explained : {S : Type 0} (takes : Takes S) (verdict known : Result ℕ AuditFault) (row : List ℕ) (old new : S) (result : Result ℕ RunFault) → verdict ≡ known → IsReadable known row
    → ReportsVerdict takes verdict old new result → Explains takes known row (reports_verdict known ∷ []) old new result
verdict_explained takes verdict known row old new result is readable reported =
    by_result takes known row old new result readable (subst (λ (v : Result ℕ AuditFault). ReportsVerdict takes v old new result) is reported)

-- ---- one that is not known

abbrev unread : ReadFault → Result Bool ReadFault
unread fault = Err fault

by_read : {S : Type 0} (takes : Takes S) (verdict : Result ℕ AuditFault) (row : List ℕ) (facts : List Reported) (old : S) (fault : ReadFault) → (unread fault ≡ unread reads.NotText → ⊥)
    → Explains takes verdict row facts old old (Err (run_fault_of_read fault))
by_read takes verdict row facts old reads.OutOfMemory named = none_reported takes old facts
by_read takes verdict row facts old reads.CannotRead named = none_reported takes old facts
by_read takes verdict row facts old reads.NotText named = absurd (named refl)

-- a read failed before anything was reported
pub not_read : {S : Type 0} (takes : Takes S) (verdict : Result ℕ AuditFault) (row : List ℕ) (facts : List Reported) (old : S) (fault : ReadFault) (result : RunFault) → (unread fault ≡ unread reads.NotText → ⊥)
    → result ≡ run_fault_of_read fault → Explains takes verdict row facts old old (Err result)
not_read takes verdict row facts old fault result named is =
    subst (λ (r : RunFault). Explains takes verdict row facts old old (Err r)) (sym is) (by_read takes verdict row facts old fault named)

nothing_explained : {S : Type 0} (takes : Takes S) (known : Result ℕ AuditFault) (row : List ℕ) (facts : List Reported) (old : S) (fault : ReadFault) → Reads known row (Err fault)
    → Explains takes known row facts old old (Err (run_fault_of_read fault))
nothing_explained takes known row facts old reads.OutOfMemory unread = none_reported takes old facts
nothing_explained takes known row facts old reads.CannotRead unread = none_reported takes old facts
nothing_explained takes known row facts old reads.NotText unread = (none_reported takes old facts, unread)

pub unread_explained : {S : Type 0} (takes : Takes S) (known : Result ℕ AuditFault) (row : List ℕ) (facts : List Reported) (old : S) (verdict : Result (Result ℕ AuditFault) ReadFault) (fault : ReadFault) (result : RunFault)
    → verdict ≡ Err fault → result ≡ run_fault_of_read fault → Reads known row verdict → Explains takes known row facts old old (Err result)
unread_explained takes known row facts old verdict fault result is same unread =
    subst (λ (r : RunFault). Explains takes known row facts old old (Err r)) (sym same)
    (nothing_explained takes known row facts old fault (subst (λ (v : Result (Result ℕ AuditFault) ReadFault). Reads known row v) is unread))
