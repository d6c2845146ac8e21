use Rattle.std.proofs.Common.{◌≡◌, ℕ, zero, suc, ◌<◌, List, [], ◌∷◌, length, None, Some, refl, ap, arith}
use Rattle.std.specs.Prelude.{slice_get}
use Rattle.std.proofs.lemmas.List.{get_or-replicate}
use Rattle.dp_owners.specs.declared.links.Links.{Links}
use Rattle.dp_owners.specs.Chain.{no_links, HaveNoLinks}
use Rattle.dp_owners.proofs.owners.Owners.new.Goals as goal

no_links_at : (links : List Links) (at : ℕ) → at < length links → HaveNoLinks links → slice_get links at ≡ Some no_links
no_links_at [] at below none = absurd (omega arith)
no_links_at (own ∷ links) zero below none = ap Some none.0
no_links_at (own ∷ links) (suc at) below none = no_links_at links at (omega arith) none.1

pub returns : goal.returns
returns c links none = record {
  ends = (refl, refl);
  heads = λ m small. get_or-replicate 16 m None None small;
  tails = λ m small. get_or-replicate 16 m None None small;
  chains = λ m small. tt;
  distinct = λ m small. tt;
  home = λ at. 0;
  at_home = λ m small. tt;
  unlisted = λ at below free. no_links_at links at below none;
}
