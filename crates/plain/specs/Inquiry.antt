-- What a request asks for that is no call, by its method (RFC 9110, section 9.1) and its target.
use Rattle.std.specs.Prelude.{ℕ, if◌then◌else◌, List, Option, None, Some, codes}
use Rattle.std.specs.Str.{bytes_eq}
use Rattle.plain.specs.declared.inquiry.Inquiry.{Inquiry}
use Rattle.plain.specs.declared.verb.Verb.{Verb}
use Rattle.plain.specs.declared.verb.Verb.TheVariants.{Get, Head, Post, Other}
use Rattle.plain.specs.Target.{Resource, Status, Services, Metrics, Page, Call, Nothing, path_of, resource_at, resource_of}

-- which method it is; names of methods are case-sensitive
abbrev pub verb_of : List ℕ → Verb
verb_of method =
    if bytes_eq method (codes "GET") then Get
    else (if bytes_eq method (codes "HEAD") then Head
    else (if bytes_eq method (codes "POST") then Post else Other))

-- a method, and what it is for
pub record Asked : Type 0 where
  pub verb : Verb
  pub resource : Resource

-- what an inquiry is, apart from where it lies in memory
abbrev pub asked_of : Inquiry → Asked
asked_of inquiry = record { verb = inquiry.verb; resource = resource_of inquiry.target }

-- a POST to a method of the health service is a call
abbrev pub asked_unless_call : Verb → Resource → Option Asked
asked_unless_call Post Call = None
asked_unless_call Post (Status escaped) = Some (record { verb = Post; resource = Status escaped })
asked_unless_call Post Services = Some (record { verb = Post; resource = Services })
asked_unless_call Post Metrics = Some (record { verb = Post; resource = Metrics })
asked_unless_call Post Page = Some (record { verb = Post; resource = Page })
asked_unless_call Post Nothing = Some (record { verb = Post; resource = Nothing })
asked_unless_call Get resource = Some (record { verb = Get; resource = resource })
asked_unless_call Head resource = Some (record { verb = Head; resource = resource })
asked_unless_call Other resource = Some (record { verb = Other; resource = resource })

-- what is asked by this method of this target; none where it is a call
abbrev pub asked_by : List ℕ → List ℕ → Option Asked
asked_by method target = asked_unless_call (verb_of method) (resource_at (path_of target))
