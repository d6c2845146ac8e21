-- helper
-- Hosts, what a target names, methods and paths.
use Rattle.std.specs.Prelude.{◌≡◌, ℕ, true, false, List, [], ◌∷◌, codes, Some, None, refl}
use Rattle.watch_page.specs.declared.target.Target.TheVariants.{Page, State, Unknown}
use Rattle.watch_page.specs.Targets.{is_get_or_head, is_one, is_own_authority, is_own_host, is_own_scheme, target_at}

abbrev pub numbered_host : List ℕ
numbered_host = codes "127.0.0.1:7300"

abbrev pub named_host : List ℕ
named_host = codes "localhost:7300"

pub by_number : is_own_host numbered_host named_host (codes "127.0.0.1:7300" ∷ []) ≡ true
by_number = refl

pub by_name : is_own_host numbered_host named_host (codes "localhost:7300" ∷ []) ≡ true
by_name = refl

pub no_host : is_own_host numbered_host named_host [] ≡ false
no_host = refl

pub host_twice : is_own_host numbered_host named_host (codes "localhost:7300" ∷ codes "localhost:7300" ∷ []) ≡ false
host_twice = refl

pub another_port : is_own_host numbered_host named_host (codes "localhost:73000" ∷ []) ≡ false
another_port = refl

pub no_port : is_own_host numbered_host named_host (codes "localhost" ∷ []) ≡ false
no_port = refl

pub capital_letters : is_own_host numbered_host named_host (codes "LOCALHOST:7300" ∷ []) ≡ false
capital_letters = refl

pub another_server : is_own_host numbered_host named_host (codes "localhost:7300.example.org" ∷ []) ≡ false
another_server = refl

pub one_host : is_one (codes "localhost:7300" ∷ []) ≡ true
one_host = refl

pub not_one_host : is_one (codes "localhost:7300" ∷ codes "localhost:7300" ∷ []) ≡ false
not_one_host = refl

pub no_authority : is_own_authority numbered_host named_host None ≡ true
no_authority = refl

pub own_authority : is_own_authority numbered_host named_host (Some (codes "127.0.0.1:7300")) ≡ true
own_authority = refl

pub user_of_the_authority : is_own_authority numbered_host named_host (Some (codes "a@127.0.0.1:7300")) ≡ false
user_of_the_authority = refl

pub own_scheme : is_own_scheme (Some (codes "http")) ≡ true
own_scheme = refl

pub another_scheme : is_own_scheme (Some (codes "https")) ≡ false
another_scheme = refl

pub head : is_get_or_head (codes "HEAD") ≡ true
head = refl

pub small_letters : is_get_or_head (codes "get") ≡ false
small_letters = refl

pub the_page : target_at (codes "/") ≡ Page
the_page = refl

pub the_state : target_at (codes "/state.json") ≡ State
the_state = refl

pub a_file_of_the_page : target_at (codes "/page.html") ≡ Unknown
a_file_of_the_page = refl
