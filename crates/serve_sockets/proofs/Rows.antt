-- The rows of the first lines.
use Rattle.std.proofs.Common.{◌≡◌, ℕ, ◌+◌, ◌<◌, List, [], ◌∷◌, ◌++◌, length, take, slice_index_or, sym, ap, ◌∙◌}
use Rattle.std.proofs.lemmas.List.{append-nil, take_more}
use Rattle.std.proofs.lemmas.List.Concat.{flat_map-append}
use Rattle.serve_sockets.specs.Ports.{ports_row, ports_text}
use Rattle.serve_sockets.specs.declared.line_ports.LinePorts.{LinePorts}

-- the rows of one line more
pub one_more_row : (lines : List LinePorts) (i : ℕ) (d : LinePorts) (before after : List ℕ) → before ≡ ports_text (take i lines)
    → after ≡ before ++ ports_row (slice_index_or lines i d) → i < length lines → after ≡ ports_text (take (i + 1) lines)
one_more_row lines i d before after so_far more within =
    rw (more, so_far)
    (sym (ap ports_text (take_more lines i d within)
    ∙ flat_map-append ports_row (take i lines) (slice_index_or lines i d ∷ [])
    ∙ ap (λ t. ports_text (take i lines) ++ t) (append-nil (ports_row (slice_index_or lines i d)))))
