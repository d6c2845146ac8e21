-- Each form has its length octets, and then the manufacturer's.
use Rattle.std.proofs.Common.{◌≡◌, sym, ◌∙◌, arith}
use Rattle.dp_cfg.specs.Identifiers.{bits_7_6}
use Rattle.explain_octets.proofs.Splitting.{empty_behind, inputs_behind, outputs_behind, both_behind}
use Rattle.explain_octets.proofs.configurations.behind_special.Goals as goal

pub returns-in-0-default : goal.returns-in-0-default
returns-in-0-default c =
    let e : bits_7_6 c.args.head ≡ 0 = omega (arith, c.in-0-default.is-0) in
    rw e (c.behind_maker.ensures ∙ sym (empty_behind c.args.head c.args.rest.now))

pub returns-in-1-len1-up : goal.returns-in-1-len1-up
returns-in-1-len1-up c =
    let e : bits_7_6 c.args.head ≡ 1 = omega (arith, c.in-1-len1-up.is-0) in
    rw e (c.behind_maker-in-1-len1-up.ensures ∙ sym (inputs_behind c.args.head c.args.rest.now c.in-1-len1-up.len_at_least))

pub returns-in-2-len1-up : goal.returns-in-2-len1-up
returns-in-2-len1-up c =
    let e : bits_7_6 c.args.head ≡ 2 = omega (arith, c.in-2-len1-up.is-0) in
    rw e (c.behind_maker-in-2-len1-up.ensures ∙ sym (outputs_behind c.args.head c.args.rest.now c.in-2-len1-up.len_at_least))

pub returns-in-3-len2-up : goal.returns-in-3-len2-up
returns-in-3-len2-up c =
    let e : bits_7_6 c.args.head ≡ 3 = omega (arith, c.in-3-len2-up.is-0) in
    rw e (c.behind_maker-in-3-len2-up.ensures ∙ sym (both_behind c.args.head c.args.rest.now c.in-3-len2-up.len_at_least))
