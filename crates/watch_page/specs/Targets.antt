-- detail
-- What a request asks for (own; Host and the forms of a target are those of RFC 9112, section 3.2).
use Rattle.std.specs.Prelude.{ℕ, Bool, true, false, not, ◌||◌, ◌&&◌, List, [], ◌∷◌, codes, bytes_eq, map, Option, Some, None, if◌then◌else◌}
use Rattle.http.specs.Request.{head_of}
use Rattle.http.specs.HeaderMap.{get_all}
use Rattle.http.specs.Uri.{uri_authority, uri_path, uri_scheme}
use Rattle.http.specs.declared.request.Request.{Request}
use Rattle.watch_page.specs.declared.target.Target.{Target}
use Rattle.watch_page.specs.declared.target.Target.TheVariants.{UnclearHost, OtherHost, OtherMethod, Page, Style, Script, State, Unknown}

-- the values of the Host fields, in order
abbrev pub hosts_of : Request (List ℕ) → List (List ℕ)
hosts_of request = map (λ value. value.bytes) (get_all (head_of request).headers (codes "host"))

-- there is one Host field, and it is exactly one of the two hosts of the server
abbrev pub is_own_host : List ℕ → List ℕ → List (List ℕ) → Bool
is_own_host numbered named [] = false
is_own_host numbered named (host ∷ []) = bytes_eq host numbered || bytes_eq host named
is_own_host numbered named (first ∷ second ∷ more) = false

-- there is exactly one Host field
abbrev pub is_one : List (List ℕ) → Bool
is_one [] = false
is_one (host ∷ []) = true
is_one (first ∷ second ∷ more) = false

-- the scheme of a target, if it names one, is that of the server
abbrev pub is_own_scheme : Option (List ℕ) → Bool
is_own_scheme None = true
is_own_scheme (Some scheme) = bytes_eq scheme (codes "http")

-- the authority of a target, if it names one, is exactly one of the two hosts of the server
abbrev pub is_own_authority : List ℕ → List ℕ → Option (List ℕ) → Bool
is_own_authority numbered named None = true
is_own_authority numbered named (Some authority) = bytes_eq authority numbered || bytes_eq authority named

-- what the target names is the server's own, and so is the Host
abbrev pub is_for_this_server : List ℕ → List ℕ → Request (List ℕ) → Bool
is_for_this_server numbered named request =
    is_own_scheme (uri_scheme (head_of request).uri)
    && is_own_authority numbered named (uri_authority (head_of request).uri)
    && is_own_host numbered named (hosts_of request)

-- methods are compared with their case
abbrev pub is_get_or_head : List ℕ → Bool
is_get_or_head method = bytes_eq method (codes "GET") || bytes_eq method (codes "HEAD")

-- what has this path
abbrev pub target_at : List ℕ → Target
target_at path =
    if bytes_eq path (codes "/") then Page
    else if bytes_eq path (codes "/page.css") then Style
    else if bytes_eq path (codes "/page.js") then Script
    else if bytes_eq path (codes "/state.json") then State
    else Unknown

-- what a request asks for at a server with these two hosts: the number of Hosts is judged first, then which server is named, then the
-- method, then the path
abbrev pub target_of : List ℕ → List ℕ → Request (List ℕ) → Target
target_of numbered named request =
    if not (is_one (hosts_of request)) then UnclearHost
    else if not (is_for_this_server numbered named request) then OtherHost
    else if not (is_get_or_head (head_of request).method) then OtherMethod
    else target_at (uri_path (head_of request).uri)
