use Rattle.std.proofs.Common.{◌≡◌, ◌+◌, ◌-◌, ◌∙◌, length-set, sym, ap, arith}
use Rattle.std.specs.Prelude.{slice_index}
use Rattle.rack_devices.proofs.Counting.{to_count, to_count_less, to_count_done, octets_less}
use Rattle.rack_devices.proofs.devices.count_up.Goals as goal

pub returns-then-octets-index-lt255 : goal.returns-then-octets-index-lt255
returns-then-octets-index-lt255 c =
    let (left, within, are) = c.loop-index.invariant in
    let octets = c.loop-index.octets in
    let index = c.loop-index.index - 1 in
    let more : index + 1 ≡ c.loop-index.index = omega (arith, c.loop-index-test.true) in
    sym (to_count_done octets index are (omega (arith, within, c.loop-index-test.true)) c.if-octets-index-lt255.true)
    ∙ ap (λ i. to_count i octets) more
    ∙ left

pub loop-index-preserved : goal.loop-index-preserved
loop-index-preserved c =
    let (left, within, are) = c.loop-index.invariant in
    let octets = c.loop-index.octets in
    let index = c.loop-index.index - 1 in
    let more : index + 1 ≡ c.loop-index.index = omega (arith, c.loop-index-test.true) in
    let octet = are index in
    let ones : slice_index octets index ≡ 255 = omega (arith, c.if-octets-index-lt255.false, octet) in (
      sym (to_count_less octets index (omega (arith, within, c.loop-index-test.true)) ones) ∙ ap (λ i. to_count i octets) more ∙ left,
      omega (arith, within, length-set octets index 0),
      octets_less octets index are,
    )
