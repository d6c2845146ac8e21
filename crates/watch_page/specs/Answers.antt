-- detail
-- The answer to a request (own; statuses and fields are those of RFC 9110).
use Rattle.std.specs.Prelude.{◌≡◌, ℕ, List, [], ◌∷◌, codes, Option}
use Rattle.http.specs.Request.{head_of}
use Rattle.http.specs.Uri.{uri_query}
use Rattle.http.specs.declared.request.Request.{Request}
use Rattle.http1.specs.Fields.{Header}
use Rattle.http_server.specs.declared.response.Response.{Response}
use Rattle.http_server.specs.Response.{IsResponse}
use Rattle.watch_page.specs.Targets.{target_of}
use Rattle.watch_page.specs.declared.target.Target.{Target}
use Rattle.watch_page.specs.declared.target.Target.TheVariants.{UnclearHost, OtherHost, OtherMethod, Page, Style, Script, State, Unknown}
use Rattle.watch_page.specs.declared.page.TheConstants.{PAGE}
use Rattle.watch_page.specs.declared.style.TheConstants.{STYLE}
use Rattle.watch_page.specs.declared.script.TheConstants.{SCRIPT}

-- the status: OK, Bad Request, Misdirected Request, Method Not Allowed or Not Found
abbrev pub status_of : Target → ℕ
status_of UnclearHost = 400
status_of OtherHost = 421
status_of OtherMethod = 405
status_of Page = 200
status_of Style = 200
status_of Script = 200
status_of State = 200
status_of Unknown = 404

-- the media type of the body
abbrev pub content_type_of : Target → List ℕ
content_type_of UnclearHost = codes "text/plain; charset=utf-8"
content_type_of OtherHost = codes "text/plain; charset=utf-8"
content_type_of OtherMethod = codes "text/plain; charset=utf-8"
content_type_of Page = codes "text/html; charset=utf-8"
content_type_of Style = codes "text/css; charset=utf-8"
content_type_of Script = codes "text/javascript; charset=utf-8"
content_type_of State = codes "application/json"
content_type_of Unknown = codes "text/plain; charset=utf-8"

-- what a browser may load for the page, and that no other page may frame it
abbrev pub content_security_policy : List ℕ
content_security_policy = codes "default-src 'none'; style-src 'self'; script-src 'self'; connect-src 'self'; img-src data:; base-uri 'none'; form-action 'none'; frame-ancestors 'none'"

-- the fields, in order
abbrev pub fields_of : Target → List Header
fields_of target =
    (codes "content-type", content_type_of target)
    ∷ (codes "allow", codes "GET, HEAD")
    ∷ (codes "cache-control", codes "no-store")
    ∷ (codes "x-content-type-options", codes "nosniff")
    ∷ (codes "referrer-policy", codes "no-referrer")
    ∷ (codes "content-security-policy", content_security_policy)
    ∷ []

-- the body; for the state, a text that may answer the query
abbrev pub IsBody : (Option (List ℕ) → List ℕ → Type 0) → Option (List ℕ) → Target → List ℕ → Type 0
IsBody MayAnswer query UnclearHost body = body ≡ codes "exactly one Host is required\n"
IsBody MayAnswer query OtherHost body = body ≡ codes "this server has another name\n"
IsBody MayAnswer query OtherMethod body = body ≡ codes "only GET and HEAD\n"
IsBody MayAnswer query Page body = body ≡ PAGE.now
IsBody MayAnswer query Style body = body ≡ STYLE.now
IsBody MayAnswer query Script body = body ≡ SCRIPT.now
IsBody MayAnswer query State body = MayAnswer query body
IsBody MayAnswer query Unknown body = body ≡ codes "no such page\n"

-- the response is the answer to the request, at a server with these two hosts
abbrev pub IsAnswer : (Option (List ℕ) → List ℕ → Type 0) → List ℕ → List ℕ → Request (List ℕ) → Response → Type 0
IsAnswer MayAnswer numbered named request response =
    IsBody MayAnswer (uri_query (head_of request).uri) (target_of numbered named request) response.body.items
    × IsResponse (status_of (target_of numbered named request)) (fields_of (target_of numbered named request)) response.body.items response
