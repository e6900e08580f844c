-- The replies to what is refused before the map is asked, and to an edit that the rules of the map refuse.
use Rattle.std.specs.Prelude.{ℕ, Bool, true, List, ◌++◌, codes, Option, Some, None}
use Rattle.ml_answer.specs.Fault.{fault_text}
use Rattle.ml_editor.specs.declared.fault.EditFault.{EditFault}
use Rattle.ml_editor.specs.declared.fault.EditFault.TheVariants as faults
use Rattle.ml_http.specs.declared.kind.Kind.TheVariants.{Json}
use Rattle.ml_request.specs.declared.request.Refusal.{Refusal}
use Rattle.ml_request.specs.declared.request.Refusal.TheVariants as refusals
use Rattle.ml_http.specs.declared.route.NoRoute.{NoRoute}
use Rattle.ml_http.specs.declared.route.NoRoute.TheVariants.{Path, Method}
use Rattle.ml_http.specs.Reply.{reply_text}

-- a reply of JSON
abbrev pub json_reply : ℕ → Bool → List ℕ → List ℕ
json_reply code closes body = reply_text code Json None closes body

-- the status of a refusal that comes before the target is looked at
abbrev pub refusal_code : Refusal → ℕ
refusal_code refusals.Head = 431
refusal_code refusals.Request = 400
refusal_code refusals.Coding = 501
refusal_code refusals.Size = 413

-- its body
abbrev pub refusal_body : Refusal → List ℕ
refusal_body refusals.Head = codes "{\"error\":\"head\"}"
refusal_body refusals.Request = codes "{\"error\":\"request\"}"
refusal_body refusals.Coding = codes "{\"error\":\"coding\"}"
refusal_body refusals.Size = codes "{\"error\":\"size\"}"

-- the reply to it closes
abbrev pub refusal_reply : Refusal → List ℕ
refusal_reply refusal = json_reply (refusal_code refusal) true (refusal_body refusal)

-- the reply where there is no such path, and where the path has other methods, which it tells
abbrev pub no_route_reply : Bool → NoRoute → List ℕ
no_route_reply closes Path = json_reply 404 closes (codes "{\"error\":\"path\"}")
no_route_reply closes (Method allow) = reply_text 405 Json (Some allow) closes (codes "{\"error\":\"method\"}")

-- the body that tells which name of the query is wrong
abbrev pub query_body : List ℕ → List ℕ
query_body name = codes "{\"error\":\"query\",\"name\":\"" ++ (name ++ codes "\"}")

-- the reply where this name of the query is missing though it is needed, stands twice, or has a wrong value
abbrev pub query_reply : Bool → List ℕ → List ℕ
query_reply closes name = json_reply 400 closes (query_body name)

-- the status of an edit that is refused; running out of memory is no refusal
abbrev pub fault_code : EditFault → Option ℕ
fault_code (faults.RevMoved now) = Some 409
fault_code faults.Memory = None
fault_code fault = Some 422

-- the reply to an edit that is refused
abbrev pub fault_reply : Bool → ℕ → EditFault → List ℕ
fault_reply closes code fault = json_reply code closes (fault_text fault)
