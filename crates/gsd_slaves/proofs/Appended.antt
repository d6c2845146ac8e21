-- Names that are appended in quotes.
use Rattle.std.proofs.Common.{◌≡◌, ℕ, List, [], ◌∷◌, ◌++◌, ap, ◌∙◌, append_assoc, codes, Result, Ok, Err, OnOk, IfOk}
use Rattle.gsd_slaves.specs.SlaveRuns.{quoted_names, AppendsNames, several_names, several_front, IsUnknownText, near_name, unknown_text, wrong_front, IsWrongText}

one_name_more : (name : List ℕ) (names : List (List ℕ)) → quoted_names (name ∷ []) ++ quoted_names names ≡ quoted_names (name ∷ names)
one_name_more name names = ap (λ (t : List ℕ). codes " \"" ++ t) (append_assoc name (codes "\"") (quoted_names names))

name_before : (name old between new : List ℕ) → between ≡ old ++ quoted_names (name ∷ []) → AppendsNames between new → AppendsNames old new
name_before name old between new first others = (
  name ∷ others.0,
  others.1 ∙ ap (λ (t : List ℕ). t ++ quoted_names others.0) first
      ∙ append_assoc old (quoted_names (name ∷ [])) (quoted_names others.0)
      ∙ ap (λ (t : List ℕ). old ++ t) (one_name_more name others.0),
)

-- a name is appended, and then others
pub names_behind : {E : Type 0} (name old between new : List ℕ) (result : Result (Unit {0}) E) → between ≡ old ++ quoted_names (name ∷ [])
    → OnOk result (AppendsNames between new) → OnOk result (AppendsNames old new)
names_behind name old between new (Ok done) first others = name_before name old between new first others
names_behind name old between new (Err fault) first others = tt

pub several_named : (name old new : List ℕ) → old ≡ several_front name → AppendsNames old new → IsUnknownText name new
several_named name old new front names = (several_names names.0, names.1 ∙ ap (λ (t : List ℕ). t ++ quoted_names names.0) front)

pub taken_named : (number : ℕ) (slot part old new : List ℕ) → old ≡ wrong_front number slot part → AppendsNames old new → IsWrongText number new
taken_named number slot part old new front names = (slot, part, names.0, names.1 ∙ ap (λ (t : List ℕ). t ++ quoted_names names.0) front)

-- the text for a name has another one that is near
pub near_named : {E S : Type 0} (bytes_of : S → List ℕ) (name near : List ℕ) (result : Result S E) → IfOk result (λ text. bytes_of text ≡ unknown_text name (near_name near))
    → IfOk result (λ text. IsUnknownText name (bytes_of text))
near_named bytes_of name near (Ok text) same = (near_name near, same)
near_named bytes_of name near (Err fault) same = tt
