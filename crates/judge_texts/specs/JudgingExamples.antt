-- helper
-- Worked examples of what is judged, and of the exit status.
use Rattle.std.specs.Prelude.{codes, ◌≡◌, true, false, [], ◌∷◌, ◌++◌, Some, None, Ok, Err, refl}
use Rattle.std.specs.Fmt.{decimal}
use Rattle.dp_audit.specs.declared.fault.AuditFault.TheVariants as faults
use Rattle.judge_findings.specs.declared.tested.Least.{Least}
use Rattle.judge_texts.specs.declared.choice.Form.TheVariants as forms
use Rattle.judge_texts.specs.Judging.{ending_in, exit_status, judged_masters}

-- only master 2 of the masters 1 and 2
one_is_chosen : judged_masters (Some 2) (1 ∷ 2 ∷ []) ≡ 2 ∷ []
one_is_chosen = refl

all_are_chosen : judged_masters None (1 ∷ 2 ∷ []) ≡ 1 ∷ 2 ∷ []
all_are_chosen = refl

-- a legal text of three entries with no error, with one, and a text that is not legal
nothing_found : exit_status false (Ok 3) ≡ 0
nothing_found = refl

error_found : exit_status true (Ok 3) ≡ 1
error_found = refl

not_legal : exit_status false (Err (faults.NotThePolicy 4)) ≡ 1
not_legal = refl

-- nothing has to be sent
abbrev none_needed : Least
none_needed = record { requests = 0; exchanges = 0 }

-- what is written behind the findings of a text of three entries in which no rule was broken, and of a text with a wrong line
ending_of_rows : ending_in forms.Rows [] none_needed [] (Ok 3) ≡ Some (codes "findings\nlegal " ++ (decimal 3 ++ codes "\n"))
ending_of_rows = refl

ending_of_lines : ending_in forms.Json [] none_needed [] (Err (faults.BadLine 4)) ≡ Some (codes "{\"verdict\":\"bad line\",\"row\":" ++ (decimal 4 ++ codes "}\n"))
ending_of_lines = refl
