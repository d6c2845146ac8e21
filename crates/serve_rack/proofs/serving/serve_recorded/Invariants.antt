use Rattle.std.proofs.Common.{map}
use Rattle.audit_trail.specs.Named.{name_of}
use Rattle.serve_rack.proofs.serving.serve_recorded.Given as goal

-- the names are those of the trails that were opened
abbrev pub ghosts-serve_named : goal.ghosts-serve_named
ghosts-serve_named g a = record { trails = map (λ recorder. name_of recorder.file.trail.pass) a.recorders.items }
