use Rattle.std.proofs.Common.{◌≡◌, ℕ, ◌≤◌, List, [], ◌∷◌, ◌++◌, map, length, ap, subst, sym, ◌∙◌, rules, arith}
use Rattle.std.specs.List.{AllByRecursion}
use Rattle.dp_shared.specs.LineLock.{FitsLook, IsPassOf}
use Rattle.dp_shared.specs.Numbers.{AllDiffer}
use Rattle.dp_shared.specs.Passes.{PassIn}
use Rattle.dp_shared.specs.declared.line_view.Look.{Look}
use Rattle.dp_shared.specs.declared.line_view.PassView.{PassView}
use Rattle.test_passes.proofs.FreePlaces.{of_look, two_have_all}
use Rattle.test_passes.proofs.hand_backs.count_around_hand_back.Goals as goal
use Rattle.test_passes.proofs.hand_backs.count_around_hand_back.Goals.{In-Ok}

pass_fits : (g : _) (c : In-Ok g) → IsPassOf c.in-Ok.closed c.entry-after.new.pass.view
pass_fits g c = (subst (AllByRecursion (λ (pass : PassIn). IsPassOf c.in-Ok.closed pass.view)) c.in_ok-listed.ensures c.in-Ok.ensures.closed.3).0

other_fits : (g : _) (c : In-Ok g) → IsPassOf c.in-Ok.closed c.hand_back-returned_pass.result.view
other_fits g c = (subst (AllByRecursion (λ (pass : PassIn). IsPassOf c.in-Ok.closed pass.view)) c.in_ok-returned_pass.ensures c.in-Ok.ensures.closed.4).0

they_differ : (g : _) (c : In-Ok g) → AllDiffer (c.entry-after.new.pass.view.number ∷ c.hand_back-returned_pass.result.view.number ∷ [])
they_differ g c =
    subst (λ (passes : List PassIn). AllDiffer (map (λ (pass : PassIn). pass.view.number) passes ++ c.hand_back-returned_pass.result.view.number ∷ [])) c.in_ok-listed.ensures
    (subst (λ (passes : List PassIn). AllDiffer (map (λ (pass : PassIn). pass.view.number) c.in_ok-listed.field-0.items ++ map (λ (pass : PassIn). pass.view.number) passes)) c.in_ok-returned_pass.ensures c.in-Ok.ensures.closed.5)

pub returns-clause-entries : goal.returns-clause-entries
returns-clause-entries g c =
    let at = (goal.at.returns-clause-entries g c).In-Ok in
    let all = two_have_all c.in-Ok.closed c.entry-after.new.pass.view c.hand_back-returned_pass.result.view (c.the_passes_have_all_entries.ensures.long c.in-Ok.closed)
    c.in-Ok.ensures.closed.1 c.in-Ok.ensures.closed.2 (pass_fits g at) (other_fits g at) (they_differ g at) (search rules) (search rules) in
    let before : c.entry-before.new.pass.view.receipts ≡ c.args.pass.view.receipts = ap (λ (view : PassView). view.receipts) c.entry-before.ensures.look in
    let after : c.entry-after.new.pass.view.receipts ≡ c.entry-before.new.pass.view.receipts = ap (λ (view : PassView). view.receipts) c.entry-after.ensures.look in
    let other : c.hand_back-returned_pass.result.view ≡ c.args.other.view = ap (λ (pass : PassIn). pass.view) c.hand_back-returned_pass.ensures in
    cc (all, before, after, other)

pub returns-clause-counts : goal.returns-clause-counts
returns-clause-counts g c =
    let at = (goal.at.returns-clause-counts g c).In-Ok in (
      of_look (λ (look : Look). look.count ≤ c.entry-after.result.count) c.args.pass.view c.entry-before.new.pass.view _ c.entry-before.ensures.look c.entry-after.ensures.later.looks,
      (of_look (FitsLook c.in-Ok.closed) c.entry-before.new.pass.view c.entry-after.new.pass.view _ c.entry-after.ensures.look (pass_fits g at).fits.looks).there,
    )
