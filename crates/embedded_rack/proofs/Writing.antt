-- The contents of a writer after some writes.
use Rattle.std.proofs.Common.{◌≡◌, ℕ, List, [], ◌++◌, Option, Some, None, Result, Ok, Err, OnErr, refl, sym, ap, ◌∙◌, append_assoc}
use Rattle.std.specs.Io.KnownBytes.{Appends, Keeps}
use Rattle.std.proofs.lemmas.List.{append-nil}
use Rattle.dp_text.specs.Writes.{WritesPrefix}

pub appends_none : (old : Option (List ℕ)) → Appends old old []
appends_none None = tt
appends_none (Some xs) = sym (append-nil xs)

pub appends_more : (a b c : Option (List ℕ)) (x y : List ℕ) → Appends a b x → Appends b c y → Appends a c (x ++ y)
appends_more None b c x y first second = tt
appends_more (Some xs) None c x y first second = absurd first
appends_more (Some xs) (Some ys) None x y first second = absurd second
appends_more (Some xs) (Some ys) (Some zs) x y first second = second ∙ ap (λ bs. bs ++ y) first ∙ append_assoc xs x y

pub keeps_more : (a b c : Option (List ℕ)) (x : List ℕ) → Appends a b x → Keeps b c → Appends a c x
keeps_more None b c x first same = tt
keeps_more (Some xs) None c x first same = absurd first
keeps_more (Some xs) (Some ys) None x first same = absurd same
keeps_more (Some xs) (Some ys) (Some zs) x first same = same ∙ first

pub keeps_same : (old : Option (List ℕ)) → Keeps old old
keeps_same None = tt
keeps_same (Some xs) = refl

-- a text is written, and then a prefix of more
pub more_prefix : (old new newer : Option (List ℕ)) (text more rest all : List ℕ) → Appends old new text → WritesPrefix new newer more → text ++ (more ++ rest) ≡ all
    → WritesPrefix old newer all
more_prefix old new newer text more rest all written cut whole = (
  text ++ cut.0,
  cut.1 ++ rest,
  sym whole ∙ ap (λ (m : List ℕ). text ++ (m ++ rest)) cut.2 ∙ simp append_assoc,
  appends_more old new newer text cut.0 written cut.3,
)

pub on_err : {T E P : Type 0} (r : Result T E) → P → OnErr r P
on_err (Ok x) p = tt
on_err (Err e) p = p
