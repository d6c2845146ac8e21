use Rattle.std.proofs.Common.{◌++◌, List, ℕ, ap, ◌∙◌, append_assoc, codes}
use Rattle.hex.specs.Hex.{encode_lower}
use Rattle.gsd_slaves.proofs.slave_text.push_user_default.Goals as goal

pub returns-clause-text : goal.returns-clause-text
returns-clause-text c =
    let front : List ℕ = codes "# user_default = \"" in
    let octets : List ℕ = encode_lower c.args.octets.now in
    let back : List ℕ = codes "\"\n" in
    c.push_str-2.ensures.text
    ∙ ap (λ (t : List ℕ). t ++ back) (c.push_hex.ensures.text ∙ ap (λ (t : List ℕ). t ++ octets) c.push_str.ensures.text)
    ∙ append_assoc (c.args.text.now ++ front) octets back
    ∙ append_assoc c.args.text.now front (octets ++ back)
