use Rattle.std.proofs.Common.{◌≡◌, ℕ, ◌^◌, ◌<◌, Some, ap, List, [], ◌∷◌, ◌++◌, length, refl, sym, ◌∙◌, arith}
use Rattle.std.proofs.Math.Nat.{mod-eq_of_lt}
use Rattle.std.proofs.lemmas.List.{append-nil}
use Rattle.health_wire.specs.declared.serving.Serving.{Serving}
use Rattle.health_wire.specs.declared.serving.Serving.TheVariants.{Unknown, NotServing, ServiceUnknown, Serving as IsServing}
use Rattle.health_wire.specs.Serving.{serving_number}
use Rattle.health_wire.specs.Varint.{IsVarint, IsShortestVarint}
use Rattle.health_wire.specs.Field.{WireField, IsField}
use Rattle.health_wire.specs.Field.Payload.{Varint, Len}
use Rattle.health_wire.specs.Message.{IsMessage}
use Rattle.health_wire.specs.Request.{IsRequest, IsRequestBytes, service_of, written_service}
use Rattle.health_wire.proofs.MessageLemmas.{one_message}
use Rattle.health_wire.specs.Response.{IsResponse, response_bytes}

shortest_is_varint : (bytes : List ℕ) (value : ℕ) → value < 2 ^ 64 → IsShortestVarint bytes value → IsVarint bytes value
shortest_is_varint bytes value fits is = record { form = is.form; value_is = is.value_is ∙ sym (mod-eq_of_lt (rw (← is.value_is) fits)) }

-- a number below 128 is a varint of one byte
small_varint : (value : ℕ) → value < 128 → IsVarint (value ∷ []) value
small_varint value small = record {
  form = record { some = omega arith; most = omega arith; continues = λ k below. absurd (omega arith); ends = small };
  value_is = omega arith;
}

lone_field : (bytes : List ℕ) (field : WireField) → IsField bytes field → IsMessage bytes (field ∷ [])
lone_field bytes field is = (bytes, [], sym (append-nil bytes), is, refl)

named_message : (bytes : List ℕ) (byte : ℕ) (name : List ℕ) → length (byte ∷ name) < 2 ^ 64 → IsRequestBytes bytes (byte ∷ name)
    → IsMessage bytes (record { number = 1; payload = Len (byte ∷ name) } ∷ [])
named_message bytes byte name fits (len, parts, len_is) =
    lone_field bytes (record { number = 1; payload = Len (byte ∷ name) }) (record {
      tag = 10 ∷ [];
      rest = len ++ byte ∷ name;
      parts = parts;
      tag_is = small_varint 10 (omega arith);
      number_is = record { least = omega arith; most = omega arith };
      payload_is = (len, refl, shortest_is_varint len _ fits len_is);
    })

pub request_again : (bytes name : List ℕ) → length name < 2 ^ 64 → IsRequestBytes bytes name → IsRequest bytes name
request_again bytes [] fits empty = record { fields = []; message = empty; name_is = refl }
request_again bytes (byte ∷ name) fits written = record {
  fields = record { number = 1; payload = Len (byte ∷ name) } ∷ [];
  message = named_message bytes byte name fits written;
  name_is = refl;
}

named_again : (byte : ℕ) (name : List ℕ) (fields : List WireField) → fields ≡ record { number = 1; payload = Len (byte ∷ name) } ∷ [] → service_of fields ≡ Some (byte ∷ name)
named_again byte name fields is = ap service_of is

pub service_again : (bytes name : List ℕ) (fields : List WireField) → length name < 2 ^ 64 → IsRequestBytes bytes name → IsMessage bytes fields → service_of fields ≡ written_service name
service_again bytes [] fields fits empty is = ap service_of (one_message bytes fields [] is empty)
service_again bytes (byte ∷ name) fields fits written is =
    let field : WireField = record { number = 1; payload = Len (byte ∷ name) } in
    named_again byte name fields (one_message bytes fields (field ∷ []) is (named_message bytes byte name fits written))

status_again : (number : ℕ) → number < 128 → IsResponse (8 ∷ number ∷ []) number
status_again number small =
    let field : WireField = record { number = 1; payload = Varint number } in
    record {
      fields = field ∷ [];
      message = lone_field (8 ∷ number ∷ []) field (record {
        tag = 8 ∷ [];
        rest = number ∷ [];
        parts = refl;
        tag_is = small_varint 8 (omega arith);
        number_is = record { least = omega arith; most = omega arith };
        payload_is = small_varint number small;
      });
      number_is = refl;
    }

pub response_again : (status : Serving) → IsResponse (response_bytes status) (serving_number status)
response_again Unknown = record { fields = []; message = refl; number_is = refl }
response_again IsServing = status_again 1 (omega arith)
response_again NotServing = status_again 2 (omega arith)
response_again ServiceUnknown = status_again 3 (omega arith)
