-- detail
-- Steps that may fail, one after another (own).
use Rattle.std.specs.Prelude.{Result, Ok, Err}

-- the second step, if the first one gave a value
infixl 10 ◌>>=◌
abbrev pub ◌>>=◌ : {A B E : Type 0} → Result A E → (A → Result B E) → Result B E
(Ok x) >>= f = f x
(Err fault) >>= f = Err fault

-- what a function returned, seen by view
abbrev pub seen : {A B E : Type 0} → (A → B) → Result A E → Result B E
seen view (Ok x) = Ok (view x)
seen view (Err fault) = Err fault
