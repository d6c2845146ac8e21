use Rattle.std.proofs.Common.{◌≡◌, ◌≤◌, ℕ, List, [], ◌∷◌, None, length, refl, arith}
use Rattle.std.proofs.lemmas.List.{length-map}
use Rattle.explain_events.specs.Services.{comparable_cfg}
use Rattle.explain_events.proofs.chk_cfg.comparable.Goals as goal

several : (octets : List ℕ) (own : List (List ℕ)) → 2 ≤ length own → None ≡ comparable_cfg octets own
several octets [] some = refl
several octets (single ∷ []) some = absurd (omega arith)
several octets (first ∷ second ∷ others) some = refl

pub returns-in-len2-up-clause-single : goal.returns-in-len2-up-clause-single
returns-in-len2-up-clause-single c = several c.args.octets.now _ (rw length-map c.in-len2-up.len_at_least)
