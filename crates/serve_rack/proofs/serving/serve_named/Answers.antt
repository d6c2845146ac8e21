use denote.Param.Send.{sendable}
use Rattle.std.proofs.Common.{IfSome, subst}
use Rattle.std.proofs.Crossing.{crosses}
use Rattle.audit_files.proofs.Crossings.{writer_send}
use Rattle.serve_sessions.specs.Recordings.{IsPartOfOne}
use Rattle.serve_sessions.proofs.Sharing.{recorder_sync}
use Rattle.serve_rack.proofs.serving.serve_named.Goals as goal

pub serve_with_recorders-served-requires-sync-C : goal.serve_with_recorders-served-requires-sync-C
serve_with_recorders-served-requires-sync-C g c κs within = search (sendable, crosses, recorder_sync, writer_send) depth 40 fits 100000

pub returns-in-Ok-clause-incomplete : goal.returns-in-Ok-clause-incomplete
returns-in-Ok-clause-incomplete g c =
    subst (λ ps. IfSome c.first_incomplete-incomplete.result (λ file. IsPartOfOne ps file.path)) c.in-Some.ensures c.first_incomplete-incomplete.ensures
