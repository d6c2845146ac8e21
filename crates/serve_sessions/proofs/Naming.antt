-- Recorders whose trails get names.
use Rattle.std.proofs.Common.{◌≡◌, ℕ, suc, ◌<◌, List, [], ◌∷◌, ◌++◌, map, Option, Some, None, All, Contains, slice_index_or, sym, ap, subst, ◌∙◌, arith}
use Rattle.std.specs.Prelude.{IfSome}
use Rattle.std.proofs.lemmas.List.{get_or-map, length-map, map-append}
use Rattle.audit_files.specs.declared.audit_path.AuditPath.{AuditPath}
use Rattle.serve_sessions.specs.declared.recorder.Recorder.{Recorder}
use Rattle.serve_sessions.specs.Recordings.{paths_of}

-- of all that has been taken, that is taken now, and that is left
pub one_taken : {X : Type 0} (P : X → Type 0) (done : List X) (x : X) (left : List X) → All P (done ++ x ∷ left) → P x
one_taken P [] x left all = all 0 x (omega arith)
one_taken P (d ∷ done) x left all = one_taken P done x left (λ k e within. all (suc k) e (omega arith))

-- each element gives one of these
pub each_gives : {X Y : Type 0} (f : X → Y) (xs : List X) → All (λ x. Contains (map f xs) (f x)) xs
each_gives f xs k d within = (k, subst (λ n. k < n) (sym (length-map xs f)) within, get_or-map f xs k d (f (slice_index_or xs k d)) within)

-- one more recorder, with the same path
pub paths_more : {N T U : Type 0} (all : List (Recorder N T)) (done : List (Recorder N U)) (named : Recorder N T) (recorder : Recorder N U) → paths_of all ≡ paths_of done
    → named.file.path ≡ recorder.file.path → paths_of (all ++ named ∷ []) ≡ paths_of (done ++ recorder ∷ [])
paths_more all done named recorder same path =
    map-append (λ (r : Recorder _ _). r.file.path) all (named ∷ [])
    ∙ ap (λ (ps : List AuditPath). ps ++ named.file.path ∷ []) same
    ∙ ap (λ (p : AuditPath). paths_of done ++ p ∷ []) path
    ∙ sym (map-append (λ (r : Recorder _ _). r.file.path) done (recorder ∷ []))

-- a recorder says that the place is recorded
pub by_recorder : {C : Type 0} (recorded : C → ℕ → ℕ → Type 0) (recorder : C) (line : ℕ) (place : Option ℕ) → IfSome place (recorded recorder line)
    → IfSome place (λ p. (r : C) × recorded r line p)
by_recorder recorded recorder line None kept = tt
by_recorder recorded recorder line (Some p) kept = (recorder, kept)
