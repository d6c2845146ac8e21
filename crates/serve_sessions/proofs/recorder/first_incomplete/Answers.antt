use Rattle.std.proofs.Common.{rules, ◌≡◌, [], ◌∷◌, ◌++◌, IfSome, sym, ap, subst, ◌∙◌, append_assoc}
use Rattle.std.proofs.lemmas.List.{append-nil, nil_from_length}
use Rattle.serve_sessions.specs.Recordings.{IsPartOfOne, paths_of}
use Rattle.serve_sessions.proofs.Recording.{first_more}
use Rattle.serve_sessions.proofs.recorder.first_incomplete.Goals as goal

pub loop-recorder-preserved : goal.loop-recorder-preserved
loop-recorder-preserved g c =
    let rest : c.loop-recorder.recorder-iterator.rest.items ≡ c.in-Some.recorder ∷ c.next.new.self.rest.items = search rules in (
      tt,
      tt,
      append_assoc c.loop-recorder.yielded (c.in-Some.recorder ∷ []) c.next.new.self.rest.items ∙ ap (λ rs. c.loop-recorder.yielded ++ rs) (sym rest) ∙ c.loop-recorder.invariant.2,
      first_more c.loop-recorder.yielded c.in-Some.recorder c.loop-recorder.first c.complete_text.result c.or-first.result c.or-first.ensures c.loop-recorder.invariant.3
          c.complete_text.ensures,
    )

pub returns : goal.returns
returns g c =
    let none : c.loop-recorder.recorder-iterator.rest.items ≡ [] = nil_from_length c.loop-recorder.recorder-iterator.rest.items (search rules) in
    let whole = sym (append-nil c.loop-recorder.yielded) ∙ ap (λ rs. c.loop-recorder.yielded ++ rs) (sym none) ∙ c.loop-recorder.invariant.2 in
    subst (λ rs. IfSome c.loop-recorder.first (λ file. IsPartOfOne (paths_of rs) file.path)) whole c.loop-recorder.invariant.3
