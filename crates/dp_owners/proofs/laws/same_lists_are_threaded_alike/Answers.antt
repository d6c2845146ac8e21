use Rattle.std.proofs.Common.{None, sym, ap, subst, ◌∙◌}
use Rattle.dp_owners.specs.Positions.{first_or, last_or, NotIn, IsDistinct}
use Rattle.dp_owners.specs.Chain.{IsChain}
use Rattle.dp_owners.specs.Threaded.{AreAt}
use Rattle.dp_owners.proofs.laws.same_lists_are_threaded_alike.Goals as goal

pub returns : goal.returns
returns c owners links lists others same threaded = record {
  ends = threaded.ends;
  heads = λ m small. threaded.heads m small ∙ ap (λ list. first_or list None) (same m small);
  tails = λ m small. threaded.tails m small ∙ ap (last_or None) (same m small);
  chains = λ m small. subst (λ list. IsChain links None list None) (same m small) (threaded.chains m small);
  distinct = λ m small. subst IsDistinct (same m small) (threaded.distinct m small);
  home = threaded.home;
  at_home = λ m small. subst (AreAt threaded.home m) (same m small) (threaded.at_home m small);
  unlisted = λ at below free. threaded.unlisted at below (λ m small. subst (NotIn at) (sym (same m small)) (free m small));
}
