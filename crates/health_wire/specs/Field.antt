-- Fields: the Protocol Buffers encoding guide, "Message Structure".
use Rattle.std.specs.Prelude.{◌≡◌, ◌≢◌, ℕ, ◌+◌, ◌*◌, ◌^◌, ◌<◌, ◌≤◌, List, ◌++◌, length}
use Rattle.health_wire.specs.declared.fault.WireFault.{WireFault}
use Rattle.health_wire.specs.declared.fault.WireFault.TheVariants.{Truncated, BadTag}
use Rattle.health_wire.specs.declared.field.Field.{Field}
use Rattle.health_wire.specs.declared.field.Value.{Value}
use Rattle.health_wire.specs.declared.field.Value.TheVariants.{Varint as VarintValue, Eight as EightValue, Bytes as BytesValue, Four as FourValue}
use Rattle.health_wire.specs.Parts.{Begins}
use Rattle.health_wire.specs.Varint.{IsVarint, IsVarintFault}

-- what a field holds, by the guide's names of the wire types
pub data Payload : Type 0 where
  Varint : ℕ → Payload
  I64 : List ℕ → Payload
  Len : List ℕ → Payload
  I32 : List ℕ → Payload

-- a field, apart from where it lies in memory
pub record WireField : Type 0 where
  pub number : ℕ
  pub payload : Payload

-- the number of the payload's wire type
abbrev pub wire_type : Payload → ℕ
wire_type (Varint value) = 0
wire_type (I64 eight) = 1
wire_type (Len text) = 2
wire_type (I32 four) = 5

-- a varint; eight bytes; a length as a varint, and that many bytes; four bytes
abbrev pub IsPayload : List ℕ → Payload → Type 0
IsPayload bytes (Varint value) = IsVarint bytes value
IsPayload bytes (I64 eight) = (bytes ≡ eight) × (length eight ≡ 8)
IsPayload bytes (Len text) = (len : List ℕ) × (bytes ≡ len ++ text) × IsVarint len (length text)
IsPayload bytes (I32 four) = (bytes ≡ four) × (length four ≡ 4)

-- field numbers go from 1 to 536,870,911
pub record IsFieldNumber (number : ℕ) : Type 0 where
  pub least : 1 ≤ number
  pub most : number < 2 ^ 29

-- the bytes are a field: a tag, which is a varint of its number and wire type, and its payload
pub record IsField (bytes : List ℕ) (field : WireField) : Type 0 where
  pub tag : List ℕ
  pub rest : List ℕ
  pub parts : bytes ≡ tag ++ rest
  pub tag_is : IsVarint tag (8 * field.number + wire_type field.payload)
  pub number_is : IsFieldNumber field.number
  pub payload_is : IsPayload rest field.payload

-- the bytes begin with the tag of this number and wire type
pub record BeginsWithTag (bytes : List ℕ) (number type_number : ℕ) (rest : List ℕ) : Type 0 where
  pub low_bits : type_number < 8
  pub tag : Begins (λ front. IsVarint front (8 * number + type_number)) bytes rest

-- why no payload of a wire type stands at the front: no payload has that type, its varint is wrong, or it is cut
pub data IsPayloadFault (bytes : List ℕ) : ℕ → WireFault → Type 0 where
  NoType : (type_number : ℕ) → ((payload : Payload) → wire_type payload ≢ type_number) → IsPayloadFault bytes type_number BadTag
  NoVarint : (fault : WireFault) → IsVarintFault bytes fault → IsPayloadFault bytes 0 fault
  CutI64 : length bytes < 8 → IsPayloadFault bytes 1 Truncated
  NoLen : (fault : WireFault) → IsVarintFault bytes fault → IsPayloadFault bytes 2 fault
  CutLen : (count : ℕ) (rest : List ℕ) → Begins (λ len. IsVarint len count) bytes rest → length rest < count → IsPayloadFault bytes 2 Truncated
  CutI32 : length bytes < 4 → IsPayloadFault bytes 5 Truncated

-- why no field stands at the front: there is no tag, its number is out of range, or there is no payload of its type
pub data IsFieldFault (bytes : List ℕ) : WireFault → Type 0 where
  NoTag : (fault : WireFault) → IsVarintFault bytes fault → IsFieldFault bytes fault
  NoNumber : (number type_number : ℕ) (rest : List ℕ) → BeginsWithTag bytes number type_number rest → (IsFieldNumber number → ⊥) → IsFieldFault bytes BadTag
  NoPayload : (fault : WireFault) (number type_number : ℕ) (rest : List ℕ) → BeginsWithTag bytes number type_number rest → IsFieldNumber number
      → IsPayloadFault rest type_number fault → IsFieldFault bytes fault

-- a payload that was read, apart from where it lies in memory
abbrev pub payload_of : Value → Payload
payload_of (VarintValue value) = Varint value
payload_of (EightValue eight) = I64 eight
payload_of (BytesValue text) = Len text.now
payload_of (FourValue four) = I32 four

-- a field that was read, apart from where it lies in memory
abbrev pub field_of : Field → WireField
field_of field = record { number = field.number; payload = payload_of field.value }
