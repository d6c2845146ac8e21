-- helper
-- Which parts are due to be deleted, worked out.
use Rattle.std.specs.Prelude.{◌≡◌, [], ◌∷◌}
use Rattle.std.proofs.Common.{refl}
use Rattle.audit_files.specs.DueParts.{due_parts, numbers_above}

-- two parts are to stay, and there are no more
pub none_is_due : due_parts 2 2 0 ≡ []
unfolding numbers_above
none_is_due = refl

-- part 5 has begun, and no part was handed over yet
pub three_are_due : due_parts 2 5 0 ≡ 1 ∷ 2 ∷ 3 ∷ []
unfolding numbers_above
three_are_due = refl

-- parts 1 and 2 were handed over before
pub one_is_due : due_parts 2 5 2 ≡ 3 ∷ []
unfolding numbers_above
one_is_due = refl

-- all that may be deleted were handed over before
pub none_is_due_twice : due_parts 2 5 3 ≡ []
unfolding numbers_above
none_is_due_twice = refl
