use Rattle.std.proofs.Common.{◌≡◌, ℕ, ◌+◌, ◌-◌, ◌≤◌, List, length, drop, Option, Some, None, refl, ap, ◌∙◌, add-zero, arith}
use Rattle.std.specs.Prelude.{slice_range, IfSome, IfNone}
use Rattle.dp_telegram.specs.declared.cutter.Cut.{Cut}
use Rattle.dp_telegram.specs.Stream.{piece_of, left_behind, left_of, cut_length}
use Rattle.dp_telegram.proofs.Streams.{piece_counted}
use Rattle.dp_telegram.proofs.Windows.{window_later, window_length}
use Rattle.dp_telegram.proofs.Handing.{IsHanded, handed_is}
use Rattle.dp_telegram.proofs.cutter.Cutter.next.Goals as goal

-- a piece is not longer than what is held
counted : (octets : List ℕ) (count : ℕ) (piece : Option Cut) → piece_of octets ≡ piece → IfSome piece (λ cut. count ≡ cut_length cut) → IfNone piece (count ≡ 0) → count ≤ length octets
counted octets count None e some nothing = omega arith
counted octets count (Some cut) e some nothing = omega (arith, (piece_counted octets cut e).1)

-- what is held after the piece
behind : (octets buffer : List ℕ) (start end count : ℕ) (piece : Option Cut) → slice_range buffer start end ≡ octets → IfSome piece (λ cut. count ≡ cut_length cut) → IfNone piece (count ≡ 0)
    → slice_range buffer (start + count) end ≡ left_behind piece octets
behind octets buffer start end count None view some nothing = rw (nothing, add-zero) view
behind octets buffer start end count (Some cut) view some nothing =
    window_later buffer start end count ∙ ap (drop count) view ∙ ap (λ (n : ℕ). drop n octets) some

-- the octets held after the piece
abbrev new : goal.After-first_piece → List ℕ
new c = slice_range c.self.inside.buffer (c.self.inside.start + c.piece_size.result) c.self.inside.end

found : (c : goal.After-first_piece) → c.first_piece.result ≡ piece_of c.args.self.now
found c = c.first_piece.ensures ∙ ap piece_of c.self.view_is

left : (c : goal.After-first_piece) → new c ≡ left_of c.args.self.now
left c =
    let inside = c.self.inside in
    let octets = slice_range inside.buffer inside.start inside.end in
    behind octets inside.buffer inside.start inside.end c.piece_size.result (piece_of octets) refl c.piece_size.ensures.piece c.piece_size.ensures.none
    ∙ ap left_of c.self.view_is

facts : (c : goal.After-first_piece) → IsHanded c.args.self.now (new c) c.first_piece.result
facts c = handed_is c.args.self.now (new c) c.first_piece.result (found c) (left c)

pub invariant_of-self : goal.invariant_of-self
invariant_of-self c =
    let inside = c.self.inside in
    let octets = slice_range inside.buffer inside.start inside.end in
    let most = counted octets c.piece_size.result (piece_of octets) refl c.piece_size.ensures.piece c.piece_size.ensures.none in
    let held : length octets ≡ inside.end - inside.start = window_length inside.buffer inside.start inside.end (omega arith) (omega arith) in
    (omega (arith, most, held), omega arith, omega arith)

pub returns-clause-cut : goal.returns-clause-cut
returns-clause-cut c = found c

pub returns-clause-left : goal.returns-clause-left
returns-clause-left c = left c

pub returns-clause-piece : goal.returns-clause-piece
returns-clause-piece c = (facts c).piece

pub returns-clause-none : goal.returns-clause-none
returns-clause-none c = (facts c).none

pub returns-clause-room : goal.returns-clause-room
returns-clause-room c = (facts c).room

pub returns-clause-fewer : goal.returns-clause-fewer
returns-clause-fewer c = (facts c).fewer

pub returns-clause-stream : goal.returns-clause-stream
returns-clause-stream c more = (facts c).stream more

pub returns-clause-rest : goal.returns-clause-rest
returns-clause-rest c = (facts c).rest
