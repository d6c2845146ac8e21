-- A rack that is served: its lines by its description, and the result.
use Rattle.std.proofs.Common.{◌≡◌, ℕ, Bool, false, ◌&&◌, List, [], ◌∷◌, length, map, Option, Some, None, is_some, option_and_then, option_map, Result, Ok, Err, All, Contains, IsPermutation, inl, inr, refl, sym, ap, subst, ◌∙◌}
use Rattle.std.specs.Borrow.{Bor}
use Rattle.std.specs.List.{AllByRecursion, list_all}
use Rattle.std.proofs.lemmas.List.{length-map}
use Rattle.std.proofs.lemmas.List.Elements.{All-from_recursion, recursion_from_All}
use Rattle.std.proofs.lemmas.List.Sorted.{All-permutation, Contains-permutation, IsPermutation-map, IsPermutation-sym, length_permutation}
use Rattle.dp_line.specs.World.{description_of, opening_fault}
use Rattle.dp_line.specs.declared.description.LineSpec.{LineSpec}
use Rattle.rack_file.specs.Gives.{Fails}
use Rattle.rack_file.specs.Rack.{LineDescription, RackDescription, line_described}
use Rattle.rack_file.specs.declared.fault.RackFault.{RackFault}
use Rattle.rack_file.specs.declared.fault.RackFault.TheVariants as racks
use Rattle.rack_file.specs.declared.rack.RackLine.{RackLine}
use Rattle.audit_files.specs.AuditPaths.{IsFileIn, IsFolderOrFileIn}
use Rattle.audit_files.specs.declared.audit_path.AuditPath.{AuditPath}
use Rattle.serve_rack.specs.declared.serve.Served.{Served}
use Rattle.serve_faults.specs.declared.serve_fault.ServeFault.{ServeFault}
use Rattle.serve_faults.specs.declared.serve_fault.ServeFault.TheVariants as faults
use Rattle.serve_lines.specs.declared.served_line.ServedLine.{ServedLine}
use Rattle.serve_faults.specs.ServeFaults.{of_rack_fault}
use Rattle.serve_lines.specs.ServedLines.{AreInOrder, ArePutInOrder, all_served, line_numbers, served_line, with_both}
use Rattle.serve_rack.specs.ServeOutput.{AreLinesOf, Serves, ServesLines, ServesRack, described, rack_numbers}
use Rattle.serve_lines.specs.Listening.{IsListeningFault}
use Rattle.serve_faults.specs.MissingPorts.{has_ports}
use Rattle.serve_sessions.proofs.Recording.{file_grows, path_grows}
use Rattle.serve_lines.proofs.WithPorts.{same_list, some_parts}
use Rattle.serve_lines.proofs.Writing.{keeps_same}

-- ---- lines by their descriptions

abbrev one : ServedLine → Option ServedLine
one line = Some line

same_line : (x y : ServedLine) → one x ≡ one y → x ≡ y
same_line x y e = cc

described_line : (spec : LineSpec) (listen operator : Option ℕ) (line : ServedLine) → with_both spec listen operator ≡ Some line
    → described line ≡ record { line = description_of spec; listen = listen; operator = operator }
described_line spec (Some listen) (Some operator) line e =
    ap described (same_line line (record { spec = spec; listen = listen; operator = operator }) (sym e))
described_line spec (Some listen) None line e = absurd cc
described_line spec None operator line e = absurd cc

described_all : (lines : List RackLine) (all : List ServedLine) → all_served lines ≡ Some all → map described all ≡ map line_described lines
described_all [] all e = ap (map described) (same_list all [] (sym e))
described_all (x ∷ xs) all e =
    let (first, others, here, rest, whole) = some_parts (served_line x) (all_served xs) all e in
    ap (map described) (sym whole) ∙ rw (described_line x.spec x.listen x.operator first here, described_all xs others rest)

-- the lines that are put in order are those of the rack
pub lines_of_rack : (workers : ℕ) (lines : List RackLine) (all served : List ServedLine) → all_served lines ≡ Some all → AreInOrder all served
    → AreLinesOf (record { workers = workers; lines = map line_described lines }) served
lines_of_rack workers lines all served e order = record {
  same = subst (λ ls. IsPermutation ls (map described served)) (described_all lines all e) (IsPermutation-map described all served order.same);
  ascend = order.ascend;
}

-- each line of the rack is served once
pub as_many_lines : (rack : RackDescription) (served : List ServedLine) → AreLinesOf rack served → length served ≡ length rack.lines
as_many_lines rack served are = sym (length-map served described) ∙ length_permutation rack.lines (map described served) are.same

open_by_recursion : (lines : List ServedLine) → AllByRecursion (λ line. opening_fault line.line ≡ None) (map described lines)
    → AllByRecursion (λ line. opening_fault (description_of line.spec) ≡ None) lines
open_by_recursion [] all = tt
open_by_recursion (x ∷ xs) all = (all.0, open_by_recursion xs all.1)

-- if each line of the rack can be opened, so can each line that is put in order
pub served_open : (lines : List RackLine) (all served : List ServedLine) → all_served lines ≡ Some all → AreInOrder all served
    → All (λ line. opening_fault line.line ≡ None) (map line_described lines) → All (λ line. opening_fault (description_of line.spec) ≡ None) served
served_open lines all served e order fit =
    All-permutation (λ line. opening_fault (description_of line.spec) ≡ None) all served order.same
    (All-from_recursion (λ line. opening_fault (description_of line.spec) ≡ None) all
    (open_by_recursion all (recursion_from_All (λ line. opening_fault line.line ≡ None) (map described all)
    (subst (All (λ line. opening_fault line.line ≡ None)) (sym (described_all lines all e)) fit))))

one_missing : (spec : LineSpec) (listen operator : Option ℕ) (rest : Option (List ServedLine)) (others : Bool)
    → option_and_then (λ first. option_map (λ ls. first ∷ ls) rest) (with_both spec listen operator) ≡ None → (rest ≡ None → others ≡ false)
    → ((is_some listen && is_some operator) && others) ≡ false
one_missing spec (Some listen) (Some operator) (Some rest) others e later = absurd cc
one_missing spec (Some listen) (Some operator) None others e later = later refl
one_missing spec (Some listen) None rest others e later = refl
one_missing spec None operator rest others e later = refl

-- a line without a port
some_port_is_missing : (lines : List RackLine) → all_served lines ≡ None → list_all has_ports (map line_described lines) ≡ false
some_port_is_missing [] e = absurd cc
some_port_is_missing (x ∷ xs) e =
    one_missing x.spec x.listen x.operator (all_served xs) (list_all has_ports (map line_described xs)) e (some_port_is_missing xs)

-- ---- numbers

abbrev described_number : LineDescription → ℕ
described_number line = line.line.number

numbers_described : (lines : List ServedLine) → map described_number (map described lines) ≡ line_numbers lines
numbers_described [] = refl
numbers_described (x ∷ xs) = ap (λ ns. x.spec.number ∷ ns) (numbers_described xs)

-- a line that is served is a line of the rack
pub number_of_rack : (rack : RackDescription) (lines : List ServedLine) → AreLinesOf rack lines → (n : ℕ) → Contains (line_numbers lines) n → Contains (rack_numbers rack) n
number_of_rack rack lines are n among =
    Contains-permutation (map described_number (map described lines)) (rack_numbers rack) n
    (IsPermutation-sym _ _ (IsPermutation-map described_number rack.lines (map described lines) are.same))
    (subst (λ ns. Contains ns n) (sym (numbers_described lines)) among)

file_of_rack : (folder : Option (Bor (List ℕ))) (rack : RackDescription) (lines : List ServedLine) (path : AuditPath) → AreLinesOf rack lines → IsFileIn folder (line_numbers lines) path
    → IsFileIn folder (rack_numbers rack) path
file_of_rack folder rack lines path are = file_grows folder (line_numbers lines) (rack_numbers rack) (number_of_rack rack lines are) path

path_of_rack : (folder : Option (Bor (List ℕ))) (rack : RackDescription) (lines : List ServedLine) (path : AuditPath) → AreLinesOf rack lines → IsFolderOrFileIn folder (line_numbers lines) path
    → IsFolderOrFileIn folder (rack_numbers rack) path
path_of_rack folder rack lines path are = path_grows folder (line_numbers lines) (rack_numbers rack) (number_of_rack rack lines are) path

-- ---- the result

-- the text describes no rack, for this reason
refused_for : (folder : Option (Bor (List ℕ))) (endless : Bool) (read : Result RackDescription RackFault) (old : Option (List ℕ)) (fault : RackFault) → read ≡ Err fault
    → Serves folder endless read old old (Err (faults.Rack fault))
refused_for folder endless read old fault is = subst (λ r. Serves folder endless r old old (Err (faults.Rack fault))) (sym is) (refl, keeps_same old)

-- the rack is not accepted
pub refused_rack : (folder : Option (Bor (List ℕ))) (endless : Bool) (read : Result RackDescription RackFault) (old : Option (List ℕ)) (fault : RackFault) → Fails fault read
    → Serves folder endless read old old (Err (of_rack_fault fault))
refused_rack folder endless (Ok rack) old racks.OutOfMemory is = inl (keeps_same old)
refused_rack folder endless (Err other) old racks.OutOfMemory is = keeps_same old
refused_rack folder endless read old racks.NotToml is = refused_for folder endless read old racks.NotToml is
refused_rack folder endless read old racks.BadKey is = refused_for folder endless read old racks.BadKey is
refused_rack folder endless read old racks.TwiceLine is = refused_for folder endless read old racks.TwiceLine is
refused_rack folder endless read old (racks.Open position fault) is = refused_for folder endless read old (racks.Open position fault) is

-- the lines are not put in order
pub refused_lines : (folder : Option (Bor (List ℕ))) (endless : Bool) (workers : ℕ) (lines : List RackLine) (old : Option (List ℕ)) (fault : RackFault) → ArePutInOrder (all_served lines) (Err fault)
    → ServesRack folder endless (record { workers = workers; lines = map line_described lines }) old old (Err (of_rack_fault fault))
refused_lines folder endless workers lines old racks.OutOfMemory is = inl (keeps_same old)
refused_lines folder endless workers lines old racks.BadKey is = (some_port_is_missing lines is, keeps_same old)
refused_lines folder endless workers lines old racks.NotToml never = absurd never
refused_lines folder endless workers lines old racks.TwiceLine never = absurd never
refused_lines folder endless workers lines old (racks.Open position fault) never = absurd never

-- the lines are not listened at
pub refused_ports : (folder : Option (Bor (List ℕ))) (endless : Bool) (rack : RackDescription) (lines : List ServedLine) (old : Option (List ℕ)) (fault : ServeFault) → AreLinesOf rack lines → IsListeningFault lines fault
    → ServesRack folder endless rack old old (Err fault)
refused_ports folder endless rack lines old (faults.CannotListen port cause) of_rack among = (lines, of_rack, among, keeps_same old)
refused_ports folder endless rack lines old faults.OutOfMemory of_rack is = inl (keeps_same old)
refused_ports folder endless rack lines old (faults.Rack fault) of_rack never = absurd never
refused_ports folder endless rack lines old faults.WriteFault of_rack never = absurd never
refused_ports folder endless rack lines old (faults.CannotMakePorts cause) of_rack never = absurd never
refused_ports folder endless rack lines old (faults.CannotMake path cause) of_rack never = absurd never
refused_ports folder endless rack lines old (faults.CannotWrite path cause) of_rack never = absurd never

-- the lines are served in part, or an audit text is not begun or incomplete
stopped : (folder : Option (Bor (List ℕ))) (endless : Bool) (rack : RackDescription) (lines : List ServedLine) (old new : Option (List ℕ)) (fault : ServeFault) → AreLinesOf rack lines → ServesLines folder endless lines old new (Err fault)
    → ServesRack folder endless rack old new (Err fault)
stopped folder endless rack lines old new (faults.CannotMake path cause) of_rack (at, same) = (path_of_rack folder rack lines path of_rack at, same)
stopped folder endless rack lines old new (faults.CannotWrite path cause) of_rack (incomplete, served) = ((file_of_rack folder rack lines path of_rack incomplete.0, incomplete.1), (lines, of_rack, served))
stopped folder endless rack lines old new (faults.CannotMakePorts cause) of_rack same = same
stopped folder endless rack lines old new faults.OutOfMemory of_rack part = inr (lines, of_rack, part)
stopped folder endless rack lines old new faults.WriteFault of_rack part = inr (lines, of_rack, part)
stopped folder endless rack lines old new (faults.Rack fault) of_rack never = absurd never
stopped folder endless rack lines old new (faults.CannotListen port cause) of_rack never = absurd never

-- the lines are listened at
pub rack_served : (folder : Option (Bor (List ℕ))) (endless : Bool) (rack : RackDescription) (lines : List ServedLine) (old new : Option (List ℕ)) (result : Result Served ServeFault) → AreLinesOf rack lines
    → ServesLines folder endless lines old new result → ServesRack folder endless rack old new result
rack_served folder endless rack lines old new (Ok served) of_rack all = (lines, of_rack, all)
rack_served folder endless rack lines old new (Err fault) of_rack part = stopped folder endless rack lines old new fault of_rack part
