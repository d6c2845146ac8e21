use Rattle.std.proofs.Common.{◌≡◌, length, take}
use Rattle.serve_sessions.specs.Recordings.{AreRecordedIn, paths_of}
use Rattle.serve_lines.specs.ServedLines.{line_numbers}
use Rattle.serve_sessions.proofs.recorder.record_lines.Given as goal

abbrev pub invariant-loop-line : goal.invariant-loop-line
invariant-loop-line g l = (length l.all.items ≡ l.line-index) × AreRecordedIn l.folder (line_numbers (take l.line-index l.lines)) (paths_of l.all.items)
