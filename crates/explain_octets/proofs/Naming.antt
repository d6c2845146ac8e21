-- Names with separators before them are the names joined by commas.
use Rattle.std.proofs.Common.{◌≡◌, codes, ℕ, Bool, true, false, List, [], ◌∷◌, ◌++◌, refl, ap, sym, ◌∙◌, append_assoc}
use Rattle.std.specs.List.{flat_map}
use Rattle.explain_octets.specs.Words.{names_of, listed}
use Rattle.explain_octets.specs.PrivateWords.{names_behind}

-- each name after a comma
abbrev with_commas : List (List ℕ) → List ℕ
with_commas names = flat_map (λ name. codes ", " ++ name) names

more_names : (behind : List ℕ) (rows : List (Bool × List ℕ)) → names_behind (codes ", ") behind behind rows ≡ with_commas (names_of rows) ++ behind
more_names behind [] = refl
more_names behind ((true, name) ∷ rows) =
    ap (λ text. codes ", " ++ name ++ text) (more_names behind rows) ∙ sym (append_assoc (codes ", " ++ name) (with_commas (names_of rows)) behind)
more_names behind ((false, name) ∷ rows) = more_names behind rows

pub names_are_listed : (none behind : List ℕ) (rows : List (Bool × List ℕ)) → names_behind [] none behind rows ≡ listed none behind rows
unfolding listed
names_are_listed none behind [] = refl
names_are_listed none behind ((true, name) ∷ rows) =
    ap (λ text. name ++ text) (more_names behind rows) ∙ sym (append_assoc name (with_commas (names_of rows)) behind)
names_are_listed none behind ((false, name) ∷ rows) = names_are_listed none behind rows
