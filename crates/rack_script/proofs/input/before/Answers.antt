use Rattle.std.proofs.Common.{◌++◌, ap, ◌∙◌, sym}
use Rattle.rack_script.proofs.Parting.{can_cut, front_and_end}
use Rattle.rack_script.proofs.input.before.Goals as goal

pub split_at-requires : goal.split_at-requires
split_at-requires c = can_cut c.args.text.now c.requires.0 c.args.end.now c.requires.1 c.utf8.end

pub returns : goal.returns
returns c = front_and_end c.args.text.now c.requires.0 c.args.end.now c.requires.1 ∙ ap (λ front. front ++ c.args.end.now) (sym c.split_at.ensures.front)
