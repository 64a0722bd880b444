-- `message HealthCheckRequest { string service = 1; }` of health.proto
use Rattle.std.specs.Prelude.{◌≡◌, ℕ, ◌==◌, if◌then◌else◌, Option, None, Some, unwrap_or, List, [], ◌∷◌, ◌++◌, length}
use Rattle.std.specs.Str.{IsUtf8}
use Rattle.health_wire.specs.declared.fault.WireFault.{WireFault}
use Rattle.health_wire.specs.declared.fault.WireFault.TheVariants.{NotText}
use Rattle.health_wire.specs.Varint.{IsShortestVarint}
use Rattle.health_wire.specs.Field.{Payload, WireField}
use Rattle.health_wire.specs.Field.Payload.{Varint, I64, Len, I32}
use Rattle.health_wire.specs.Message.{IsMessage, IsFault, last_given}

-- a length-delimited field 1 gives its text, and all other fields are unknown
abbrev pub text_at_1 : ℕ → Payload → Option (List ℕ)
text_at_1 number (Varint value) = None
text_at_1 number (I64 eight) = None
text_at_1 number (Len text) = if number == 1 then Some text else None
text_at_1 number (I32 four) = None

-- the name that a field gives
abbrev pub service_in : WireField → Option (List ℕ)
service_in field = text_at_1 field.number field.payload

-- the name that the fields give, of which the last one wins
abbrev pub service_of : List WireField → Option (List ℕ)
service_of fields = last_given service_in fields

-- a request that gives no name asks for the empty one
abbrev pub name_of : List WireField → List ℕ
name_of fields = unwrap_or (service_of fields) []

-- the bytes are a request for the service of this name
pub record IsRequest (bytes name : List ℕ) : Type 0 where
  pub fields : List WireField
  pub message : IsMessage bytes fields
  pub name_is : name ≡ name_of fields

-- why the bytes are no request: a fault of the wire, or else a name that is no text
pub data IsRequestFault (bytes : List ℕ) : WireFault → Type 0 where
  Wire : (fault : WireFault) → IsFault bytes fault → IsRequestFault bytes fault
  Name : (name : List ℕ) → IsRequest bytes name → (IsUtf8 name → ⊥) → IsRequestFault bytes NotText

-- what a writer spells: the tag of field 1, the length in its shortest spelling and the name; of the default, the empty name, nothing
abbrev pub IsRequestBytes : List ℕ → List ℕ → Type 0
IsRequestBytes bytes [] = bytes ≡ []
IsRequestBytes bytes (byte ∷ name) = (len : List ℕ) × (bytes ≡ 10 ∷ len ++ byte ∷ name) × IsShortestVarint len (length (byte ∷ name))

-- the name that written bytes give: none where it is the default
abbrev pub written_service : List ℕ → Option (List ℕ)
written_service [] = None
written_service (byte ∷ name) = Some (byte ∷ name)
