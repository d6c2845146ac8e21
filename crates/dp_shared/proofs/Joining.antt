-- Passes that are joined into the seat that closes a line, one after another.
use Rattle.std.proofs.Common.{◌≡◌, List, [], ◌∷◌, ◌++◌, sym, subst}
use Rattle.std.specs.List.{AllByRecursion}
use Rattle.atomic_table.specs.Seated.{TableId}
use Rattle.dp_shared.specs.Content.{Content}
use Rattle.dp_shared.specs.LineLock.{IsPassOf}
use Rattle.dp_shared.specs.Passes.{PassIn}
use Rattle.dp_shared.specs.declared.line_view.PassView.{PassView}
use Rattle.dp_shared.proofs.Sums.{each_append, each_front, each_last}

module _ {P : Type 0} (pass_of : P → PassIn) where
  pub ours_left : (table : TableId) (left rest : List P) (p : P) → left ≡ rest ++ p ∷ []
      → AllByRecursion (λ q. (pass_of q).table ≡ table) left → AllByRecursion (λ q. (pass_of q).table ≡ table) rest
  ours_left table left rest p is all =
      each_front (λ q. (pass_of q).table ≡ table) rest p (subst (AllByRecursion (λ q. (pass_of q).table ≡ table)) is all)

  -- if the joined passes fit, so do the earlier ones; and if those that are left fit too, all given passes fit
  abbrev pub Given : Content → List PassView → List PassView → List P → List P → Type 0
  Given content before joined left all =
      AllByRecursion (IsPassOf content) joined
      → AllByRecursion (IsPassOf content) before
      × (AllByRecursion (λ q. IsPassOf content (pass_of q).view) left → AllByRecursion (λ q. IsPassOf content (pass_of q).view) all)

  pub one_joined : (content : Content) (before joined after : List PassView) (left rest all : List P) (p : P) → after ≡ joined ++ (pass_of p).view ∷ [] → left ≡ rest ++ p ∷ []
      → Given content before joined left all → Given content before after rest all
  one_joined content before joined after left rest all p more is given fits =
      let each = subst (AllByRecursion (IsPassOf content)) more fits in
      let so = given (each_front (IsPassOf content) joined (pass_of p).view each) in (
        so.0,
        λ others. so.1 (subst (AllByRecursion (λ q. IsPassOf content (pass_of q).view)) (sym is)
            (each_append (λ q. IsPassOf content (pass_of q).view) rest (p ∷ []) others (each_last (IsPassOf content) joined (pass_of p).view each, tt))),
      )

  pub all_joined : (content : Content) (before joined : List PassView) (left all : List P) → left ≡ [] → Given content before joined left all
      → AllByRecursion (IsPassOf content) joined
      → AllByRecursion (IsPassOf content) before × AllByRecursion (λ q. IsPassOf content (pass_of q).view) all
  all_joined content before joined left all none given fits =
      let so = given fits in (so.0, so.1 (subst (AllByRecursion (λ q. IsPassOf content (pass_of q).view)) (sym none) tt))
