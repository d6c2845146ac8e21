use Rattle.std.proofs.Common.{◌≡◌, List, ℕ, ◌++◌, take, drop, Bor, ap, sym, ◌∙◌, append_assoc}
use Rattle.std.proofs.lemmas.List.{take-append-drop}
use Rattle.dp_text.proofs.Writing.{appends_more, keeps_more}
use Rattle.dp_text.proofs.output.write_whole.Goals.{in-Ok, in-Err+else-ne}
use Rattle.dp_text.proofs.output.write_whole.Goals as goal

pub loop-preserved : goal.loop-preserved
loop-preserved g c =
    elim c.match-write.branch [
      | in-Ok w ↦
          let cut : c.match-write.rest.now ≡ drop w.in-Ok.count c.loop.rest.now = ap (λ (rest : Bor (List ℕ)). rest.now) w.rest-is ∙ w.split_at.ensures.back in (
            c.loop.invariant.0 ++ take w.in-Ok.count c.loop.rest.now,
            c.loop.invariant.1
                ∙ ap (λ (rest : List ℕ). c.loop.invariant.0 ++ rest) (sym (take-append-drop w.in-Ok.count c.loop.rest.now))
                ∙ sym (append_assoc c.loop.invariant.0 (take w.in-Ok.count c.loop.rest.now) (drop w.in-Ok.count c.loop.rest.now))
                ∙ ap (λ (rest : List ℕ). (c.loop.invariant.0 ++ take w.in-Ok.count c.loop.rest.now) ++ rest) (sym cut),
            appends_more _ _ _ c.loop.invariant.0 (take w.in-Ok.count c.loop.rest.now) c.loop.invariant.2 w.in-Ok.ensures.bytes,
          )
      | in-Err+else-ne w ↦ (
        c.loop.invariant.0,
        c.loop.invariant.1 ∙ ap (λ (rest : Bor (List ℕ)). c.loop.invariant.0 ++ rest.now) (sym w.rest-is),
        keeps_more _ _ _ c.loop.invariant.0 c.loop.invariant.2 w.in-Err.ensures.bytes,
      )
    ]
