use Rattle.std.proofs.Common.{◌≡◌, ℕ, ◌-◌, true, List, take, drop, length, rules, refl, sym, ap, ◌∙◌}
use Rattle.std.specs.Prelude.{is_some}
use Rattle.std.proofs.lemmas.List.{take_rest}
use Rattle.audit_parts.specs.Parts.{behind_row, check_of, head_row_taken}
use Rattle.audit_parts.proofs.Taking.{head_row_ok}
use Rattle.audit_parts.proofs.head_rows.HeadRows.take_head_row.Goals as goal

pub returns-clause-ok : goal.returns-clause-ok
returns-clause-ok c =
    let yes : c.begins_with_row.result ≡ true = search rules in
    let same : c.deref.result.now ≡ c.self.inside.head.items = search rules in
    let whole : take (length c.deref.result.now - c.self.inside.come) (drop c.self.inside.come c.deref.result.now) ≡ drop c.self.inside.come c.self.inside.head.items =
    take_rest c.deref.result.now c.self.inside.come ∙ ap (drop c.self.inside.come) same in
    let found : is_some (behind_row c.args.row.now (drop c.self.inside.come c.self.inside.head.items)) ≡ true =
    ap (λ (text : List ℕ). is_some (behind_row c.args.row.now text)) (sym whole) ∙ sym c.begins_with_row.ensures ∙ yes in (
      refl,
      λ number time. ap (λ (awaited : List ℕ). head_row_taken (check_of number (record { world = c.args.line.now.world; time = time }) awaited) c.args.row.now) (sym c.self.view_is)
          ∙ head_row_ok _ c.args.row.now c.self.inside.head.items c.self.inside.come refl found,
    )
