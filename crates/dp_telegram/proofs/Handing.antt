-- The piece in front and what follows it, stated for a stream.
use Rattle.std.proofs.Common.{◌≡◌, ℕ, zero, suc, ◌≤◌, List, ◌++◌, length, drop, Option, Some, None, refl, sym, ap, arith}
use Rattle.std.specs.Prelude.{◌<◌, ◌↔◌, option_map, IsNone, IfSome, IfNone, OnSome}
use Rattle.dp_telegram.specs.declared.cutter.Cut.{Cut}
use Rattle.dp_telegram.specs.declared.cutter.Piece.{Piece}
use Rattle.dp_telegram.specs.Stream.{first_cut, piece_of, left_behind, left_of, cut_lent, cut_length, StartsWith, StartsWithNone, cut_up_to, cuts_of, uncut, with_handed}
use Rattle.dp_telegram.proofs.Fronts.{followed, first_cut_is}
use Rattle.dp_telegram.proofs.Streams.{first_starts, none_starts, none_is_short, piece_counted, rest_is_shorter, first_more, cuts_first}

pub record IsHanded (held new : List ℕ) (result : Option Cut) : Type 0 where
  pub piece : IfSome result (λ cut. StartsWith held cut new)
  pub none : IsNone result ↔ StartsWithNone held
  pub room : IfNone result (length new < 255)
  pub fewer : OnSome result (length new < length held)
  pub some : IfSome result (λ cut. 0 < cut_length cut)
  pub within : IfSome result (λ cut. cut_length cut ≤ length held)
  pub stream : (more : List ℕ) → cuts_of (held ++ more) ≡ with_handed result (cuts_of (new ++ more))
  pub rest : IfNone result (cuts_of new ≡ uncut new)

cuts_none : (held : List ℕ) (most : ℕ) → first_cut held ≡ None → cut_up_to most held ≡ uncut held
cuts_none held zero e = refl
cuts_none held (suc most) e = rw e refl

handed_by : (held : List ℕ) (result : Option Cut) → piece_of held ≡ result → IsHanded held (left_behind result held) result
handed_by held None e =
    let first : first_cut held ≡ None = ap (followed held) e in
    record {
      piece = tt;
      none = (λ nothing. none_starts held first, λ nothing. refl);
      room = none_is_short held first;
      fewer = tt;
      some = tt;
      within = tt;
      stream = λ more. refl;
      rest = cuts_none held (length held) first;
    }
handed_by held (Some cut) e =
    let new = drop (cut_length cut) held in
    let first : first_cut held ≡ Some (cut, new) = first_cut_is held cut e in
    let counted = piece_counted held cut e in
    record {
      piece = first_starts held cut new first;
      none = (λ nothing. absurd cc, λ nothing. absurd (nothing cut new (first_starts held cut new first)));
      room = tt;
      fewer = rest_is_shorter held cut new first;
      some = omega (arith, counted.0);
      within = counted.1;
      stream = λ more. cuts_first (held ++ more) cut _ (first_more held cut new more first);
      rest = tt;
    }

pub handed : (held : List ℕ) → IsHanded held (left_of held) (piece_of held)
handed held = handed_by held (piece_of held) refl

pub handed_is : (held new : List ℕ) (result : Option Cut) → result ≡ piece_of held → new ≡ left_of held → IsHanded held new result
handed_is held new result piece left = rw (piece, left) (handed held)

-- what holds for a piece whose octets are lent
pub record IsLent (held : List ℕ) (result : Option Piece) : Type 0 where
  pub left : IfSome result (λ piece. left_of held ≡ drop (cut_length (cut_lent piece)) held)
  pub piece : IfSome result (λ piece. StartsWith held (cut_lent piece) (left_of held))
  pub none : IsNone result ↔ StartsWithNone held
  pub room : IfNone result (length held < 255)
  pub some : IfSome result (λ piece. 0 < cut_length (cut_lent piece))
  pub within : IfSome result (λ piece. cut_length (cut_lent piece) ≤ length held)
  pub rest : IfNone result (cuts_of held ≡ uncut held)

pub lent_is : (held : List ℕ) (result : Option Piece) → option_map cut_lent result ≡ piece_of held → IsLent held result
lent_is held None e =
    let none : piece_of held ≡ None = sym e in
    let facts = handed_by held None none in
    record { left = tt; piece = tt; none = facts.none; room = facts.room; some = tt; within = tt; rest = facts.rest }
lent_is held (Some piece) e =
    let found : piece_of held ≡ Some (cut_lent piece) = sym e in
    let facts = handed_by held (Some (cut_lent piece)) found in
    let left : left_of held ≡ drop (cut_length (cut_lent piece)) held = ap (λ (p : Option Cut). left_behind p held) found in
    record {
      left = left;
      piece = rw left facts.piece;
      none = (λ nothing. absurd cc, λ nothing. absurd (nothing (cut_lent piece) _ facts.piece));
      room = tt;
      some = facts.some;
      within = facts.within;
      rest = tt;
    }
