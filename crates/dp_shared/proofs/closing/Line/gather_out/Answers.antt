use Rattle.std.proofs.Common.{◌≡◌, [], map, ap, ◌∙◌, refl, arith}
use Rattle.dp_shared.specs.Numbers.{times}
use Rattle.dp_shared.proofs.closing.Line.gather_out.Goals as goal

pub returns : goal.returns
returns c = let took = c.in-Some.ensures.took in
    let none : c.try_take_content.new.seat.me.0.passes ≡ [] = ap (λ m. m.0.passes) took.has ∙ ap (λ m. m.0.passes) c.sit-keeper.ensures.blank in (
      refl,
      record {
        ours = c.gather.ensures.ours ∙ c.try_take_content.ensures.ours ∙ c.sit-keeper.ensures.ours;
        note = c.gather.ensures.note ∙ ap (λ m. m.0.note) took.has;
        of_line = took.taken.of_line c.args.self.table.shared.key (ap (λ m. m.0.line) c.sit-keeper.ensures.blank);
        history = took.taken.history;
        numbered = took.taken.numbered;
        all = λ content fits. (c.gather.ensures.all content fits).1;
        numbers = λ n. (let sum = c.gather.ensures.numbers n in
            let nothing : times n (map (λ p. p.number) c.try_take_content.new.seat.me.0.passes) ≡ 0 = ap (λ ps. times n (map (λ p. p.number) ps)) none in
            omega (arith, sum, nothing));
      },
    )
