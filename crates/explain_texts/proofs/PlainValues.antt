-- Plain octets of a string, and the values of an array.
use Rattle.std.proofs.Common.{◌≡◌, ℕ, true, codes, List, [], ◌∷◌, ◌++◌, refl, ap, ◌∙◌}
use Rattle.std.specs.List.{list_all}
use Rattle.std.proofs.Output.{has_written_append}
use Rattle.std.specs.Fmt.{HasWritten}
use Rattle.std.specs.declared.fmt.Formatter.{Formatter}
use Rattle.std.proofs.lemmas.Bool.{and_parts, cond-true}
use Rattle.explain_texts.specs.JsonValues.{array_json, each_behind, inside_json, is_plain, octet_json}

-- ---- plain octets

octet_is : (octet : ℕ) → is_plain octet ≡ true → octet_json octet ≡ octet ∷ []
octet_is octet plain = cond-true _ _ _ plain

pub plain_inside : (text : List ℕ) → list_all is_plain text ≡ true → inside_json text ≡ text
plain_inside [] e = refl
plain_inside (octet ∷ octets) e =
    let parts = and_parts (is_plain octet) (list_all is_plain octets) e in
    ap (λ (front : List ℕ). front ++ inside_json octets) (octet_is octet parts.0)
    ∙ ap (λ (rest : List ℕ). octet ∷ rest) (plain_inside octets parts.1)

-- ---- arrays

-- a bracket, the values and a bracket, written one after another
pub bracketed : {W : Type 0} (took : W → List ℕ → W → Type 0) (f f₁ f₂ f₃ : Formatter W) (values : List (List ℕ))
    → HasWritten took f (codes "[") f₁ → HasWritten took f₁ (each_behind [] values) f₂ → HasWritten took f₂ (codes "]") f₃ → HasWritten took f (array_json values) f₃
unfolding array_json
bracketed took f f₁ f₂ f₃ values opened inside closed =
    has_written_append took f _ f₂ _ f₃ (has_written_append took f _ f₁ _ f₂ opened inside) closed
