-- The text of a response (RFC 9112, sections 4 and 6.2; RFC 9110, section 9.3.2, for a HEAD).
use Rattle.std.specs.Prelude.{ℕ, List, [], ◌++◌, length, codes, decimal}
use Rattle.plain.specs.declared.response.Kind.{Kind}
use Rattle.plain.specs.declared.response.Kind.TheVariants.{Good, Unavailable, NotFound, ReadOnly, CallOnly, Json, Metrics, Page}
use Rattle.plain.specs.declared.verb.Verb.{Verb}
use Rattle.plain.specs.declared.verb.Verb.TheVariants.{Get, Head, Post, Other}

-- what is replied, apart from how it is sent
pub record Reply : Type 0 where
  pub kind : Kind
  pub body : List ℕ

-- the status line
abbrev pub status_line : Kind → List ℕ
status_line Good = codes "HTTP/1.1 200 OK\r\n"
status_line Unavailable = codes "HTTP/1.1 503 Service Unavailable\r\n"
status_line NotFound = codes "HTTP/1.1 404 Not Found\r\n"
status_line ReadOnly = codes "HTTP/1.1 405 Method Not Allowed\r\n"
status_line CallOnly = codes "HTTP/1.1 405 Method Not Allowed\r\n"
status_line Json = codes "HTTP/1.1 200 OK\r\n"
status_line Metrics = codes "HTTP/1.1 200 OK\r\n"
status_line Page = codes "HTTP/1.1 200 OK\r\n"

-- the methods that are allowed, where another was asked for (RFC 9110, section 15.5.6)
abbrev pub allow_line : Kind → List ℕ
allow_line Good = []
allow_line Unavailable = []
allow_line NotFound = []
allow_line ReadOnly = codes "allow: GET, HEAD\r\n"
allow_line CallOnly = codes "allow: POST\r\n"
allow_line Json = []
allow_line Metrics = []
allow_line Page = []

-- of what type the body is
abbrev pub type_line : Kind → List ℕ
type_line Good = codes "content-type: text/plain; charset=utf-8\r\n"
type_line Unavailable = codes "content-type: text/plain; charset=utf-8\r\n"
type_line NotFound = codes "content-type: text/plain; charset=utf-8\r\n"
type_line ReadOnly = codes "content-type: text/plain; charset=utf-8\r\n"
type_line CallOnly = codes "content-type: text/plain; charset=utf-8\r\n"
type_line Json = codes "content-type: application/json\r\n"
type_line Metrics = codes "content-type: text/plain; version=0.0.4; charset=utf-8\r\n"
type_line Page = codes "content-type: text/html; charset=utf-8\r\n"

-- what a page may load and run (Content Security Policy Level 3)
abbrev pub policy_line : Kind → List ℕ
policy_line Good = []
policy_line Unavailable = []
policy_line NotFound = []
policy_line ReadOnly = []
policy_line CallOnly = []
policy_line Json = []
policy_line Metrics = []
policy_line Page =
    codes "content-security-policy: default-src 'none'; style-src 'unsafe-inline'; script-src 'unsafe-inline'; connect-src 'self'; base-uri 'none'; form-action 'none'; frame-ancestors 'none'\r\n"

-- a head up to the length of its body
abbrev pub front : Kind → List ℕ
front kind =
    status_line kind ++ codes "connection: close\r\n" ++ allow_line kind ++ type_line kind ++ policy_line kind
    ++ codes "cache-control: no-store\r\ncontent-length: "

-- the head of a response whose body has this length
abbrev pub head_text : Kind → ℕ → List ℕ
head_text kind len = front kind ++ decimal len ++ codes "\r\n\r\n"

-- what is sent of a body: nothing in answer to a HEAD
abbrev pub body_sent : Verb → List ℕ → List ℕ
body_sent Get body = body
body_sent Head body = []
body_sent Post body = body
body_sent Other body = body

-- the text of a response to a request by this method
abbrev pub response : Verb → Reply → List ℕ
response verb reply = head_text reply.kind (length reply.body) ++ body_sent verb reply.body
