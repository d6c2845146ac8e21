use Rattle.std.proofs.Common.{◌≡◌, ℕ, ◌≤◌, ◌<◌, min, List, take, length, refl, ap, subst, ◌∙◌, arith, ◌++◌, length-append, length-take}
use Rattle.std.proofs.lemmas.List.{nil_from_length}
use Rattle.embedded_rack.proofs.Writing.{on_err}
use Rattle.embedded_rack.proofs.Passing.{WordsSoFar, words_more, words_cut_off, words_done}
use Rattle.embedded_rack.proofs.stream.Stream.pass_words.Goals as goal

none_left : (octets chunk rest : List ℕ) (count room : ℕ) → count ≡ min (length octets) room → count < room → room ≤ length chunk → octets ≡ take count chunk ++ rest → length rest ≡ 0
none_left octets chunk rest count room counted fewer fits split =
    let whole = ap length split ∙ length-append (take count chunk) rest in
    omega (arith, whole, length-take count chunk)

pub returns-in_err-pass-clause-err : goal.returns-in_err-pass-clause-err
returns-in_err-pass-clause-err g c =
    let part : List ℕ = take c.loop-octets.count c.loop-octets.chunk in
    on_err c.from_residual.result
    (words_cut_off _ _ (g.W.Write.contents c.loop-octets.writer) _ c.loop-octets.book c.loop-octets.self (part ++ c.loop-octets.octets) part c.loop-octets.octets
    c.loop-octets.invariant.answered refl (c.pieces_of_a_stream_do_not_matter.ensures c.loop-octets.book c.loop-octets.self part c.loop-octets.octets) c.in_err-pass.ensures.err)

pub returns-then-count-lt-CHUNK-clause-ok : goal.returns-then-count-lt-CHUNK-clause-ok
returns-then-count-lt-CHUNK-clause-ok g c =
    let part : List ℕ = take c.loop-octets.count c.loop-octets.chunk in
    let none : length c.loop-octets.octets ≡ 0 = ap length (c.loop-octets.invariant.rest c.if-count-lt-CHUNK.true) in
    (words_done _ _ (g.W.Write.contents c.loop-octets.writer) _ c.loop-octets.book c.pass.new.book c.loop-octets.self c.pass.new.self (part ++ c.loop-octets.octets) part c.loop-octets.octets
    c.loop-octets.invariant.answered refl none c.in_ok-pass.ensures.journal c.in_ok-pass.ensures.stream c.in_ok-pass.ensures.ok).written

pub loop-octets-preserved : goal.loop-octets-preserved
loop-octets-preserved g c =
    let part : List ℕ = take c.loop-octets.count c.loop-octets.chunk in
    let counted : c.fill-count.result ≡ min (length c.loop-octets.octets) 64 = omega (arith, c.fill-count.ensures.count, c.loop-octets.auto.chunk, c.requires.chunk) in
    let fits : 64 ≤ length c.fill-count.new.octets = omega (arith, c.fill-count.auto.octets, c.loop-octets.auto.chunk, c.requires.chunk) in
    record {
      answered =
          subst (WordsSoFar _ _ _ c.pass.new.book c.pass.new.self) c.fill-count.ensures.octets
          (words_more _ _ (g.W.Write.contents c.loop-octets.writer) _ c.loop-octets.book c.pass.new.book c.loop-octets.self c.pass.new.self (part ++ c.loop-octets.octets) part c.loop-octets.octets
          c.loop-octets.invariant.answered refl (c.pieces_of_a_stream_do_not_matter.ensures c.loop-octets.book c.loop-octets.self part c.loop-octets.octets)
          c.in_ok-pass.ensures.journal c.in_ok-pass.ensures.stream c.in_ok-pass.ensures.ok);
      count = omega (arith, counted);
      rest = λ fewer. nil_from_length c.fill-count.new.self (none_left c.loop-octets.octets c.fill-count.new.octets c.fill-count.new.self c.fill-count.result 64 counted fewer fits c.fill-count.ensures.octets);
    }
