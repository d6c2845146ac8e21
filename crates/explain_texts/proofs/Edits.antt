-- Lists that are read from an index on.
use Rattle.std.proofs.Common.{◌≡◌, ℕ, suc, ◌+◌, ◌<◌, List, ◌∷◌, length, get_or, drop, sym, ap, ◌∙◌, add-one, drop-cons}

-- the element at an index, and those after it
pub drop_item : {A : Type 0} (xs : List A) (index : ℕ) (x : A) → index < length xs → x ≡ get_or xs index x → drop index xs ≡ x ∷ drop (index + 1) xs
drop_item xs index x within is =
    drop-cons xs index x within ∙ ap (λ y. y ∷ drop (suc index) xs) (sym is) ∙ ap (λ n. x ∷ drop n xs) (sym (add-one index))
