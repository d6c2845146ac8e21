-- The paths of audit texts, by the lines that they are of.
use Rattle.std.proofs.Common.{◌≡◌, ℕ, zero, suc, ◌+◌, ◌<◌, List, [], ◌∷◌, ◌++◌, length, take, slice_index_or, get_or, Option, Some, None, IfSome, Contains, sym, ap, subst, arith}
use Rattle.std.specs.Borrow.{Bor}
use Rattle.std.specs.Option.{option_or}
use Rattle.std.proofs.lemmas.List.{map-append, take_more}
use Rattle.std.proofs.lemmas.List.Elements.{Contains-append_left, Contains-append_right, Contains-push}
use Rattle.std.proofs.lemmas.Slice.Zip.{all_zipped_more}
use Rattle.audit_files.specs.AuditPaths.{IsFileIn, IsFolderOrFileIn, IsOfLine, in_part}
use Rattle.audit_files.specs.FileFaults.{IsRecordingFault}
use Rattle.audit_files.specs.declared.audit_file.IncompleteFile.{IncompleteFile}
use Rattle.audit_files.specs.declared.audit_path.AuditPath.{AuditPath}
use Rattle.audit_files.specs.declared.audit_path.AuditPath.TheVariants as paths
use Rattle.audit_files.specs.declared.file_fault.FileFault.{FileFault}
use Rattle.audit_files.specs.declared.file_fault.FileFault.TheVariants as faults
use Rattle.serve_sessions.specs.declared.recorder.Recorder.{Recorder}
use Rattle.serve_lines.specs.declared.served_line.ServedLine.{ServedLine}
use Rattle.serve_sessions.specs.Recordings.{AreRecordedIn, IsPartOfOne, paths_of}
use Rattle.serve_lines.specs.ServedLines.{line_numbers, number_of}

-- ---- the number of a line

only : (x n k : ℕ) → k < length (x ∷ []) → slice_index_or (x ∷ []) k n ≡ n → x ≡ n
only x n zero within is = is
only x n (suc k) within is = let no : ⊥ = omega arith in absurd no

one_among : (numbers : List ℕ) (line n : ℕ) → Contains numbers line → Contains (line ∷ []) n → Contains numbers n
one_among numbers line n among (k, within, is) = subst (Contains numbers) (only line n k within is) among

-- a line's number is among those of all
pub number_at : (lines : List ServedLine) (i : ℕ) (line : ServedLine) → i < length lines → line ≡ get_or lines i line → Contains (line_numbers lines) line.spec.number
number_at [] i line within is = let no : ⊥ = omega arith in absurd no
number_at (x ∷ xs) zero line within is = (0, omega arith, ap number_of (sym is))
number_at (x ∷ xs) (suc i) line within is =
    Contains-append_right (x.spec.number ∷ []) (line_numbers xs) line.spec.number (number_at xs i line (omega arith) is)

-- ---- more lines

pub file_grows : (folder : Option (Bor (List ℕ))) (few many : List ℕ) → ((n : ℕ) → Contains few n → Contains many n) → (path : AuditPath) → IsFileIn folder few path → IsFileIn folder many path
file_grows None few many grows path never = absurd never
file_grows (Some folder) few many grows (paths.Folder named) never = absurd never
file_grows (Some folder) few many grows (paths.File named line number part) is = (is.0, grows line is.1)

pub path_grows : (folder : Option (Bor (List ℕ))) (few many : List ℕ) → ((n : ℕ) → Contains few n → Contains many n) → (path : AuditPath) → IsFolderOrFileIn folder few path → IsFolderOrFileIn folder many path
path_grows None few many grows path never = absurd never
path_grows (Some folder) few many grows (paths.Folder named) is = is
path_grows (Some folder) few many grows (paths.File named line number part) is = (is.0, grows line is.1)

pub fault_grows : (folder : Option (Bor (List ℕ))) (few many : List ℕ) → ((n : ℕ) → Contains few n → Contains many n) → (fault : FileFault)
    → IsRecordingFault folder few fault → IsRecordingFault folder many fault
fault_grows folder few many grows (faults.CannotMake path cause) is = path_grows folder few many grows path is
fault_grows folder few many grows faults.OutOfMemory is = is

-- a fault of one line is a fault of lines that contain it
pub fault_among : (folder : Option (Bor (List ℕ))) (numbers : List ℕ) (line : ℕ) (fault : FileFault) → Contains numbers line → IsRecordingFault folder (line ∷ []) fault
    → IsRecordingFault folder numbers fault
fault_among folder numbers line fault among = fault_grows folder (line ∷ []) numbers (λ n. one_among numbers line n among) fault

-- ---- recorders

-- one more line is recorded
pub recorded_more : {N T : Type 0} (folder : List ℕ) (lines : List ServedLine) (i : ℕ) (line : ServedLine) (before after : List (Recorder N T)) (recorder : Recorder N T)
    → i < length lines → line ≡ get_or lines i line → AreRecordedIn folder (line_numbers (take i lines)) (paths_of before) → after ≡ before ++ recorder ∷ []
    → IsOfLine folder line.spec.number recorder.file.path → AreRecordedIn folder (line_numbers (take (i + 1) lines)) (paths_of after)
recorded_more folder lines i line before after recorder within is so_far more here =
    rw (take_more lines i line within, sym is, more, map-append number_of (take i lines) (line ∷ []), map-append (λ (r : Recorder _ _). r.file.path) before (recorder ∷ []))
    (all_zipped_more (IsOfLine folder) (line_numbers (take i lines)) (paths_of before) line.spec.number recorder.file.path so_far here)

-- each part of a line's text is a file of lines that contain the line
of_one : (folder : Bor (List ℕ)) (number : ℕ) (later : List ℕ) (text : AuditPath) (part : Option ℕ) → IsOfLine folder.now number text → IsFileIn (Some folder) (number ∷ later) (in_part text part)
of_one folder number later (paths.Folder named) part never = absurd never
of_one folder number later (paths.File named line of_text other) part (is, same) = (is, (0, omega arith, sym same))

recorded_at : (folder : Bor (List ℕ)) (numbers : List ℕ) (all : List AuditPath) (text : AuditPath) (part : Option ℕ) (k : ℕ) → AreRecordedIn folder.now numbers all → k < length all
    → slice_index_or all k text ≡ text → IsFileIn (Some folder) numbers (in_part text part)
recorded_at folder [] [] text part k each within is = let no : ⊥ = omega arith in absurd no
recorded_at folder [] (p ∷ ps) text part k each within is = absurd each
recorded_at folder (n ∷ ns) [] text part k each within is = absurd each
recorded_at folder (n ∷ ns) (p ∷ ps) text part zero each within is = of_one folder n ns text part (subst (IsOfLine folder.now n) is each.0)
recorded_at folder (n ∷ ns) (p ∷ ps) text part (suc k) each within is =
    file_grows (Some folder) ns (n ∷ ns) (λ m there. Contains-append_right (n ∷ []) ns m there) (in_part text part) (recorded_at folder ns ps text part k each.1 (omega arith) is)

-- a file of one of these texts, if one is found, is in the folder
pub incomplete_in : (folder : Bor (List ℕ)) (numbers : List ℕ) (all : List AuditPath) (found : Option IncompleteFile) → AreRecordedIn folder.now numbers all
    → IfSome found (λ file. IsPartOfOne all file.path) → IfSome found (λ file. IsFileIn (Some folder) numbers file.path)
incomplete_in folder numbers all None each among = tt
incomplete_in folder numbers all (Some file) each (text, part, (k, within, is), same) =
    subst (IsFileIn (Some folder) numbers) (sym same) (recorded_at folder numbers all text part k each within is)

-- ---- the first incomplete file

one_more_text : (done : List AuditPath) (text path : AuditPath) → IsPartOfOne done path → IsPartOfOne (done ++ text ∷ []) path
one_more_text done text path (of, part, among, same) = (of, part, Contains-append_left done (text ∷ []) of among, same)

either_file : (done : List AuditPath) (text : AuditPath) (first next : Option IncompleteFile) → IfSome first (λ file. IsPartOfOne done file.path)
    → IfSome next (λ file. (part : Option ℕ) × (file.path ≡ in_part text part)) → IfSome (option_or first next) (λ file. IsPartOfOne (done ++ text ∷ []) file.path)
either_file done text None None before here = tt
either_file done text None (Some file) before (part, same) = (text, part, Contains-push done text, same)
either_file done text (Some file) next before here = one_more_text done text file.path before

-- one more text was completed
pub first_more : {N T : Type 0} (done : List (Recorder N T)) (recorder : Recorder N T) (first next now : Option IncompleteFile) → now ≡ option_or first next
    → IfSome first (λ file. IsPartOfOne (paths_of done) file.path) → IfSome next (λ file. (part : Option ℕ) × (file.path ≡ in_part recorder.file.path part))
    → IfSome now (λ file. IsPartOfOne (paths_of (done ++ recorder ∷ [])) file.path)
first_more done recorder first next now is before here =
    subst (λ found. IfSome found (λ file. IsPartOfOne (paths_of (done ++ recorder ∷ [])) file.path)) (sym is)
    (subst (λ ps. IfSome (option_or first next) (λ file. IsPartOfOne ps file.path)) (sym (map-append (λ (r : Recorder _ _). r.file.path) done (recorder ∷ [])))
    (either_file (paths_of done) recorder.file.path first next before here))
