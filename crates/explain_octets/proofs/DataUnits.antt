-- The data unit of a telegram stands between FC and the check sequence.
use Rattle.std.proofs.Common.{◌≡◌, ℕ, ◌+◌, ◌-◌, List, [], ◌∷◌, ◌++◌, length, take, drop, ap, ◌∙◌, inl, inr, arith, length-append}
use Rattle.std.proofs.Math.Seq.{drop-append_seam, take-append_seam}
use Rattle.dp_telegram.specs.declared.frame.Frame.TheVariants as frames
use Rattle.dp_telegram.specs.declared.frame.Telegram.{Telegram}
use Rattle.dp_telegram.specs.FrameText.{Spells, body_of, check_sequence, ed, head_length, sd1, sd2, sd3}
use Rattle.explain_octets.specs.PrivateWords.{octets_between}

-- the check sequence and the end delimiter
abbrev end_of : Telegram → List ℕ
end_of telegram = check_sequence (body_of telegram) ∷ ed ∷ []

-- the octets between some in front and two at the end
middle : (front unit : List ℕ) (check end : ℕ) → octets_between (length front) (front ++ (unit ++ check ∷ end ∷ [])) ≡ unit
middle front unit check end =
    let last = check ∷ end ∷ [] in
    let count : length (front ++ (unit ++ last)) - 2 - length front ≡ length unit = omega (arith, length-append front (unit ++ last), length-append unit last) in
    ap (λ n. take n (drop (length front) (front ++ (unit ++ last)))) count
    ∙ ap (λ rest. take (length unit) rest) (drop-append_seam front (unit ++ last))
    ∙ take-append_seam unit last

unit_behind : (octets front : List ℕ) (telegram : Telegram) → octets ≡ front ++ (telegram.du.items ++ end_of telegram) → head_length octets + 3 ≡ length front
    → octets_between (head_length octets + 3) octets ≡ telegram.du.items
unit_behind octets front telegram text head =
    ap (λ count. octets_between count octets) head ∙ ap (λ all. octets_between (length front) all) text
    ∙ middle front telegram.du.items (check_sequence (body_of telegram)) ed

pub unit_between : (octets : List ℕ) (telegram : Telegram) → Spells octets (frames.Telegram telegram)
    → octets_between (head_length octets + 3) octets ≡ telegram.du.items
unit_between octets telegram (inl short) =
    unit_behind octets (sd1 ∷ telegram.da ∷ telegram.sa ∷ telegram.fc ∷ []) telegram short.0 (ap (λ all. head_length all + 3) short.0)
unit_between octets telegram (inr (inl variable)) =
    let size = length (body_of telegram) in
    unit_behind octets (sd2 ∷ size ∷ size ∷ sd2 ∷ telegram.da ∷ telegram.sa ∷ telegram.fc ∷ []) telegram variable.0 (ap (λ all. head_length all + 3) variable.0)
unit_between octets telegram (inr (inr eight)) =
    unit_behind octets (sd3 ∷ telegram.da ∷ telegram.sa ∷ telegram.fc ∷ []) telegram eight.0 (ap (λ all. head_length all + 3) eight.0)
