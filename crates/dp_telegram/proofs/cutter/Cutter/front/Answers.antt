use Rattle.std.proofs.Common.{◌≡◌, ◌++◌, Option, ap, sym, ◌∙◌}
use Rattle.std.specs.Prelude.{option_map}
use Rattle.dp_telegram.specs.Stream.{piece_of, cut_lent, with_handed, cuts_of, left_of}
use Rattle.dp_telegram.specs.declared.cutter.Cut.{Cut}
use Rattle.dp_telegram.proofs.Handing.{IsLent, lent_is, handed}
use Rattle.dp_telegram.proofs.cutter.Cutter.front.Goals as goal

found : (c : goal.After-lent_piece) → option_map cut_lent c.lent_piece.result ≡ piece_of c.args.self.now
found c = c.lent_piece.ensures ∙ ap piece_of c.self.view_is

facts : (c : goal.After-lent_piece) → IsLent c.args.self.now c.lent_piece.result
facts c = lent_is c.args.self.now c.lent_piece.result (found c)

pub returns-clause-left : goal.returns-clause-left
returns-clause-left c = (facts c).left

pub returns-clause-piece : goal.returns-clause-piece
returns-clause-piece c = (facts c).piece

pub returns-clause-none : goal.returns-clause-none
returns-clause-none c = (facts c).none

pub returns-clause-room : goal.returns-clause-room
returns-clause-room c = (facts c).room

pub returns-clause-some : goal.returns-clause-some
returns-clause-some c = (facts c).some

pub returns-clause-held : goal.returns-clause-held
returns-clause-held c = (facts c).within

pub returns-clause-stream : goal.returns-clause-stream
returns-clause-stream c more =
    (handed c.args.self.now).stream more ∙ ap (λ (p : Option Cut). with_handed p (cuts_of (left_of c.args.self.now ++ more))) (sym (found c))

pub returns-clause-rest : goal.returns-clause-rest
returns-clause-rest c = (facts c).rest
