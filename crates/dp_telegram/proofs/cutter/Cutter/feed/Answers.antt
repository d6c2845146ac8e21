use Rattle.std.proofs.Common.{◌≡◌, ℕ, ◌+◌, ◌-◌, ◌≤◌, List, ◌++◌, length, take, refl, sym, ap, subst, ◌∙◌, arith}
use Rattle.std.specs.Prelude.{slice_range}
use Rattle.std.proofs.lemmas.List.{length-take-le}
use Rattle.dp_telegram.specs.declared.cutter.Cutter.TheInside.{Inside}
use Rattle.dp_telegram.proofs.Windows.{window_moved, window_longer}
use Rattle.dp_telegram.proofs.cutter.Cutter.feed.Goals as goal
use Rattle.dp_telegram.proofs.cutter.Cutter.feed.Goals.{then-self-taken-gt-ROOM, else-self-taken-gt-ROOM}

-- the fields hold these octets, and have room for more
record HasRoom (inside : Inside) (held : List ℕ) (taken : ℕ) : Type 0 where
  view : slice_range inside.buffer inside.start inside.end ≡ held
  order : inside.start ≤ inside.end
  room : inside.end + taken ≤ length inside.buffer

pub returns-clause-held : goal.returns-clause-held
returns-clause-held c =
    let before = c.self.inside in
    let taken = c.min-taken.result in
    let octets = c.args.octets.now in
    let length_before : length before.buffer ≡ 510 = omega arith in
    let ready : HasRoom c.if-self-taken-gt-ROOM.self-inside c.args.self.now taken = elim c.if-self-taken-gt-ROOM.branch [
      | then-self-taken-gt-ROOM w ↦ subst (λ (inside : Inside). HasRoom inside c.args.self.now taken) (sym w.self-inside-is) (record {
        view = ap (λ (b : List ℕ). slice_range b 0 (before.end - before.start)) w.copy_within.ensures.after ∙ window_moved before.buffer before.start before.end (before.end - before.start) refl (omega arith) ∙ c.self.view_is;
        order = omega arith;
        room = omega (arith, w.copy_within.ensures.len);
      })
      | else-self-taken-gt-ROOM w ↦ subst (λ (inside : Inside). HasRoom inside c.args.self.now taken) (sym w.self-inside-is) (record {
        view = c.self.view_is;
        order = omega arith;
        room = omega arith;
      })
    ] in
    let inside = c.if-self-taken-gt-ROOM.self-inside in
    let count : length (take taken octets) ≡ taken = length-take-le taken octets (omega arith) in
    let written = c.copy_from_slice.ensures.after in
    window_longer inside.buffer c.copy_from_slice.new.self inside.start inside.end _ _ ready.order (omega (arith, ready.room)) (omega (arith, count, ap length written))
    ∙ ap (λ (o : List ℕ). o ++ c.copy_from_slice.new.self) ready.view ∙ ap (λ (o : List ℕ). c.args.self.now ++ o) written
