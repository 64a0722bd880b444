-- What is replied for one status, by its status code (RFC 9110, section 15) and in a word.
use Rattle.std.specs.Prelude.{Option, None, Some, codes}
use Rattle.health_wire.specs.declared.serving.Serving.{Serving}
use Rattle.health_wire.specs.declared.serving.Serving.TheVariants.{Unknown, NotServing, ServiceUnknown, Serving as IsServing}
use Rattle.plain.specs.declared.response.Kind.TheVariants.{Good, Unavailable, NotFound, ReadOnly, CallOnly}
use Rattle.plain.specs.Response.{Reply}

-- nothing is there
abbrev pub not_found : Reply
not_found = record { kind = NotFound; body = codes "not found\n" }

-- only GET and HEAD are allowed there
abbrev pub read_only : Reply
read_only = record { kind = ReadOnly; body = codes "method not allowed\n" }

-- only POST is
abbrev pub call_only : Reply
call_only = record { kind = CallOnly; body = codes "method not allowed\n" }

-- a status, or that there is none
abbrev pub status_reply : Option Serving → Reply
status_reply (Some IsServing) = record { kind = Good; body = codes "serving\n" }
status_reply (Some NotServing) = record { kind = Unavailable; body = codes "not_serving\n" }
status_reply (Some Unknown) = record { kind = Unavailable; body = codes "unknown\n" }
status_reply (Some ServiceUnknown) = not_found
status_reply None = not_found
