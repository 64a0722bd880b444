-- What the target of a request names (RFC 9112, section 3.2; RFC 3986, sections 3.3 and 3.4). Which paths there are is this server's
-- choice.
use Rattle.std.specs.Prelude.{ℕ, Bool, ◌==◌, ◌&&◌, ◌||◌, not, if◌then◌else◌, nat_eq, List, [], drop, codes}
use Rattle.std.specs.List.{before_first, list_any, starts_with}
use Rattle.std.specs.Str.{bytes_eq}
use Rattle.plain.specs.declared.target.Target.{Target}
use Rattle.plain.specs.declared.target.Target.TheVariants as targets

-- the byte is a question mark
abbrev pub is_question : ℕ → Bool
is_question c = c == 63

-- the byte is a slash
abbrev pub is_slash : ℕ → Bool
is_slash c = c == 47

-- the path, which ends where a query begins
abbrev pub path_of : List ℕ → List ℕ
path_of target = before_first is_question target

-- what a path names
pub data Resource : Type 0 where
  -- the status of the service whose name stands escaped there
  Status : List ℕ → Resource
  -- all services with their statuses
  Services : Resource
  -- what the server counts
  Metrics : Resource
  -- the page
  Page : Resource
  -- a method of gRPC's health service
  Call : Resource
  -- nothing that there is
  Nothing : Resource

-- the same, apart from where the name lies in memory
abbrev pub resource_of : Target → Resource
resource_of (targets.Status escaped) = Status escaped.now
resource_of targets.Services = Services
resource_of targets.Metrics = Metrics
resource_of targets.Page = Page
resource_of targets.Call = Call
resource_of targets.Nothing = Nothing

-- the path has one more segment behind `/status/`, which may be empty
abbrev pub is_status : List ℕ → Bool
is_status path = starts_with nat_eq path (codes "/status/") && not (list_any is_slash (drop 8 path))

-- the path is that of Check or of Watch (health.proto; doc/PROTOCOL-HTTP2.md of grpc, Path)
abbrev pub is_call : List ℕ → Bool
is_call path = bytes_eq path (codes "/grpc.health.v1.Health/Check") || bytes_eq path (codes "/grpc.health.v1.Health/Watch")

-- what the path names, byte for byte
abbrev pub resource_at : List ℕ → Resource
resource_at path =
    if bytes_eq path (codes "/") then Page
    else (if bytes_eq path (codes "/healthz") then Status []
    else (if bytes_eq path (codes "/services") then Services
    else (if bytes_eq path (codes "/metrics") then Metrics
    else (if is_call path then Call
    else (if is_status path then Status (drop 8 path) else Nothing)))))
