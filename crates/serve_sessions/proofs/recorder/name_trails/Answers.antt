use Rattle.std.proofs.Common.{rules, ◌≡◌, [], ◌∷◌, ◌++◌, All, Contains, refl, sym, ap, subst, ◌∙◌, append_assoc}
use Rattle.std.proofs.lemmas.List.{append-nil, nil_from_length}
use Rattle.audit_trail.specs.Named.{name_of}
use Rattle.serve_sessions.specs.Recordings.{paths_of}
use Rattle.serve_sessions.proofs.Naming.{one_taken, paths_more}
use Rattle.serve_sessions.proofs.recorder.name_trails.Goals as goal

pub new-trail-requires : goal.new-trail-requires
new-trail-requires g c =
    let rest : c.loop-recorder.recorder-iterator.rest.items ≡ c.in-Some.recorder ∷ c.next.new.self.rest.items = search rules in
    let whole : c.args.recorders.items ≡ c.loop-recorder.yielded ++ c.in-Some.recorder ∷ c.next.new.self.rest.items =
    sym (ap (λ rs. c.loop-recorder.yielded ++ rs) (sym rest) ∙ c.loop-recorder.invariant.2) in
    one_taken (λ recorder. Contains g.J.Naming.trails (name_of recorder.file.trail.pass)) c.loop-recorder.yielded c.in-Some.recorder c.next.new.self.rest.items
    (subst (λ rs. All (λ recorder. Contains g.J.Naming.trails (name_of recorder.file.trail.pass)) rs) whole c.requires)

pub loop-recorder-preserved : goal.loop-recorder-preserved
loop-recorder-preserved g c =
    let rest : c.loop-recorder.recorder-iterator.rest.items ≡ c.in-Some.recorder ∷ c.next.new.self.rest.items = search rules in
    let more : c.push.new.self.items ≡ c.loop-recorder.all.items ++ record { net = c.in-Some.recorder.net; serve_phase = c.in-Some.recorder.serve_phase; file = record { path = c.in-Some.recorder.file.path; trail = c.new-trail.result } } ∷ [] =
    search rules in (
      tt,
      tt,
      append_assoc c.loop-recorder.yielded (c.in-Some.recorder ∷ []) c.next.new.self.rest.items ∙ ap (λ rs. c.loop-recorder.yielded ++ rs) (sym rest) ∙ c.loop-recorder.invariant.2,
      ap paths_of more ∙ paths_more c.loop-recorder.all.items c.loop-recorder.yielded _ c.in-Some.recorder c.loop-recorder.invariant.3 refl,
    )

pub returns : goal.returns
returns g c =
    let none : c.loop-recorder.recorder-iterator.rest.items ≡ [] = nil_from_length c.loop-recorder.recorder-iterator.rest.items (search rules) in
    let whole = sym (append-nil c.loop-recorder.yielded) ∙ ap (λ rs. c.loop-recorder.yielded ++ rs) (sym none) ∙ c.loop-recorder.invariant.2 in
    c.loop-recorder.invariant.3 ∙ ap paths_of whole
