-- `message HealthCheckResponse { ServingStatus status = 1; }` of health.proto
use Rattle.std.specs.Prelude.{◌≡◌, ℕ, ◌==◌, if◌then◌else◌, Option, None, Some, unwrap_or, List, [], ◌∷◌}
use Rattle.health_wire.specs.declared.serving.Serving.{Serving}
use Rattle.health_wire.specs.declared.serving.Serving.TheVariants.{Unknown}
use Rattle.health_wire.specs.Field.{Payload, WireField}
use Rattle.health_wire.specs.Field.Payload.{Varint, I64, Len, I32}
use Rattle.health_wire.specs.Message.{IsMessage, last_given}
use Rattle.health_wire.specs.Serving.{serving_number}

-- a varint field 1 gives its number, and all other fields are unknown
abbrev pub number_at_1 : ℕ → Payload → Option ℕ
number_at_1 number (Varint value) = if number == 1 then Some value else None
number_at_1 number (I64 eight) = None
number_at_1 number (Len text) = None
number_at_1 number (I32 four) = None

-- the number that a field gives
abbrev pub status_in : WireField → Option ℕ
status_in field = number_at_1 field.number field.payload

-- a response that gives no number has the status 0
abbrev pub number_of : List WireField → ℕ
number_of fields = unwrap_or (last_given status_in fields) 0

-- the bytes are a response with the status of this number
pub record IsResponse (bytes : List ℕ) (number : ℕ) : Type 0 where
  pub fields : List WireField
  pub message : IsMessage bytes fields
  pub number_is : number ≡ number_of fields

-- what a writer spells: the tag of field 1 and the number; of the default, the number 0, nothing
abbrev pub response_bytes : Serving → List ℕ
response_bytes Unknown = []
response_bytes status = 8 ∷ serving_number status ∷ []
