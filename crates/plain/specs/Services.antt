-- All services with their statuses, as JSON (RFC 8259).
use Rattle.std.specs.Prelude.{ℕ, zero, suc, List, [], ◌++◌, Option, None, Some, codes, decimal}
use Rattle.health_wire.specs.declared.serving.Serving.{Serving}
use Rattle.health_wire.specs.declared.serving.Serving.TheVariants.{Unknown, NotServing, ServiceUnknown, Serving as IsServing}
use Rattle.json.specs.Print.{quoted}
use Rattle.plain.specs.Slots.{texts_from}

-- the word of a status
abbrev pub status_word : Option Serving → List ℕ
status_word (Some IsServing) = codes "serving"
status_word (Some NotServing) = codes "not_serving"
status_word (Some Unknown) = codes "unknown"
status_word (Some ServiceUnknown) = codes "absent"
status_word None = codes "absent"

-- what parts a service from the one before it
abbrev pub separator : ℕ → List ℕ
separator zero = []
separator (suc slot) = codes ", "

-- a service
abbrev pub service_text : (ℕ → Option Serving) → ℕ → List ℕ → List ℕ
service_text statuses slot name =
    separator slot ++ codes "{\"name\": " ++ quoted name ++ codes ", \"status\": \"" ++ status_word (statuses slot) ++ codes "\"}"

-- how long the history is, and all services
abbrev pub services_text : ℕ → (ℕ → Option Serving) → List (List ℕ) → List ℕ
services_text entries statuses names =
    codes "{\"entries\": " ++ decimal entries ++ codes ", \"services\": [" ++ texts_from (service_text statuses) 0 names ++ codes "]}\n"
