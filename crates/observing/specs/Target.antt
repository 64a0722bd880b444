-- How targets are written.
use Rattle.std.specs.Prelude.{ℕ, ◌≡◌, List, ◌++◌, codes, string_bytes}
use Rattle.observing.specs.declared.kind.Kind.{Kind}
use Rattle.observing.specs.declared.kind.Kind.TheVariants.{Tcp, Http, GrpcWeb}
use Rattle.observing.specs.declared.target.Target.{Target}
use Rattle.observing.specs.declared.url.Url.{Url}

-- what stands before the host
abbrev pub scheme_text : Kind → List ℕ
scheme_text Tcp = codes "tcp://"
scheme_text Http = codes "http://"
scheme_text GrpcWeb = codes "grpc-web://"

-- the text of a URL: its scheme, the host with its port, and the path
abbrev pub url_text : Url → List ℕ
url_text url = scheme_text url.kind ++ url.authority.now ++ url.path.now

-- the name of a target's service, as lines have it
abbrev pub name_of : Target → List ℕ
name_of target = string_bytes target.name

-- how a target is asked
abbrev pub kind_of : Target → Kind
kind_of target = target.kind

-- a target as it is written
abbrev pub target_text : Target → List ℕ
target_text target =
    string_bytes target.name ++ codes "=" ++ scheme_text target.kind ++ string_bytes target.authority ++ string_bytes target.path

-- its host, its port, and its path, empty where none is written
abbrev pub host_of : Target → List ℕ
host_of target = string_bytes target.host

abbrev pub port_of : Target → ℕ
port_of target = target.port

abbrev pub path_of : Target → List ℕ
path_of target = string_bytes target.path

-- the target has the parts of the URL
pub record IsTargetOf (url : Url) (target : Target) : Type 0 where
  pub kind : target.kind ≡ url.kind
  pub authority : string_bytes target.authority ≡ url.authority.now
  pub host : string_bytes target.host ≡ url.host.now
  pub port : target.port ≡ url.port
  pub path : string_bytes target.path ≡ url.path.now
