-- The octets held, as a part of the buffer.
use Rattle.std.proofs.Common.{◌≡◌, ℕ, ◌+◌, ◌-◌, ◌≤◌, List, ◌++◌, length, take, drop, sym, ap, ◌∙◌, arith}
use Rattle.std.specs.Prelude.{slice_range}
use Rattle.std.specs.List.{copy_within}
use Rattle.std.proofs.lemmas.List.{drop-drop, take_at, length-take, length-drop, length-take-le, drop-append-le}
use Rattle.std.proofs.lemmas.Slice.{between_is, take-put_mid}
use borrow.Rule.Slice.PartMut.{put_mid}

-- from a later octet on
pub window_later : (buffer : List ℕ) (start end count : ℕ) → slice_range buffer (start + count) end ≡ drop count (slice_range buffer start end)
window_later buffer start end count =
    between_is buffer (start + count) end ∙ sym (drop-drop count start (take end buffer)) ∙ ap (drop count) (sym (between_is buffer start end))

pub window_length : (buffer : List ℕ) (start end : ℕ) → start ≤ end → end ≤ length buffer → length (slice_range buffer start end) ≡ end - start
window_length buffer start end le room = simp (length-take, length-drop) (omega arith)

-- moved to the front
pub window_moved : (buffer : List ℕ) (start end held : ℕ) → held ≡ end - start → end ≤ length buffer → slice_range (copy_within buffer start end 0) 0 held ≡ slice_range buffer start end
window_moved buffer start end held e room =
    let same : held - 0 ≡ length (take (end - start) (drop start buffer)) = simp (length-take, length-drop) (omega arith) in
    take_at (take (end - start) (drop start buffer)) (drop (0 + (end - start)) buffer) (held - 0) (sym same)

-- with octets written after
pub window_longer : (buffer octets : List ℕ) (start end after count : ℕ) → start ≤ end → end ≤ length buffer → after ≡ end + length octets → slice_range (put_mid end count buffer octets) start after ≡ slice_range buffer start end ++ octets
window_longer buffer octets start end after count le room e =
    between_is (put_mid end count buffer octets) start after
    ∙ ap (drop start) (take-put_mid end count buffer octets after e room)
    ∙ drop-append-le start (take end buffer) octets (omega (arith, length-take-le end buffer room))
    ∙ ap (λ x. x ++ octets) (sym (between_is buffer start end))
