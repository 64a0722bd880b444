-- What is read has the bytes of the format, and the bytes of the format are read again.
use Rattle.std.proofs.Common.{◌≡◌, ℕ, ◌^◌, List, [], ◌∷◌, ◌++◌, Option, Some, None, refl, sym, ap, subst, ◌∙◌, append_assoc}
use Rattle.std.specs.Prelude.{IfSome, IfNone}
use Rattle.std.specs.Int.{w16, w64, to_le_bytes}
use Rattle.desk_core.specs.declared.reply.Reply.{Reply}
use Rattle.desk_core.specs.declared.call.Call.{Call}
use Rattle.chronicle.specs.declared.who.Who.{Who}
use Rattle.entry_record.specs.declared.stored.Stored.{Stored}
use Rattle.entry_record.specs.Format.{who_bytes, reply_code, call_bytes, bytes_of}
use Rattle.entry_record.specs.Range.{IsStored}
use Rattle.entry_record.specs.Reading.{◌>>=◌, byte_at, number_at, who_at, reply_of, last_call_of, stored_of}
use Rattle.entry_record.proofs.Numbers.{IsBytes, bind_some, some_is, wide16, wide64, number_takes, number_again}
use Rattle.entry_record.proofs.Fields.{reply_takes, reply_again, byte_takes, byte_is, who_takes, who_again, last_call_takes, last_call_again}

regrouped : (m w s r c : List ℕ) → (((m ++ w) ++ s) ++ r) ++ c ≡ m ++ (w ++ (s ++ (r ++ c)))
regrouped m w s r c = simp append_assoc

joined : (bytes m a w b s c r d last : List ℕ) → bytes ≡ m ++ a → a ≡ w ++ b → b ≡ s ++ c → c ≡ r ++ d → d ≡ last → bytes ≡ (((m ++ w) ++ s) ++ r) ++ last
joined bytes m a w b s c r d last e1 e2 e3 e4 e5 = e1 ∙ rw (e2, e3, e4, e5) (sym (regrouped m w s r last))

abbrev made : ℕ → Who → ℕ → Reply → Call → Stored
made micros who seat reply call = record { entry = record { seat = seat; call = call; reply = reply }; micros = micros; who = who }

is_it : (bytes : List ℕ) (found stored : Stored) → Some found ≡ Some stored → IsStored found × (bytes ≡ bytes_of found) → IsStored stored × (bytes ≡ bytes_of stored)
is_it bytes found stored e given = subst (λ (s : Stored). IsStored s × (bytes ≡ bytes_of s)) (some_is found stored e) given

pub stored_takes : (bytes : List ℕ) (stored : Stored) → IsBytes bytes → stored_of bytes ≡ Some stored → IsStored stored × (bytes ≡ bytes_of stored)
unfolding stored_of
stored_takes bytes stored fits e =
    let a = bind_some (number_at w64 bytes) (λ micros. who_at micros.1 >>= λ who. number_at w16 who.1 >>= λ seat. byte_at seat.1 >>= λ code. reply_of code.0 >>= λ reply. last_call_of code.1 >>= λ call. Some (made micros.0 who.0 seat.0 reply call)) stored e in
    let b = bind_some (who_at a.0.1) (λ who. number_at w16 who.1 >>= λ seat. byte_at seat.1 >>= λ code. reply_of code.0 >>= λ reply. last_call_of code.1 >>= λ call. Some (made a.0.0 who.0 seat.0 reply call)) stored a.2 in
    let c = bind_some (number_at w16 b.0.1) (λ seat. byte_at seat.1 >>= λ code. reply_of code.0 >>= λ reply. last_call_of code.1 >>= λ call. Some (made a.0.0 b.0.0 seat.0 reply call)) stored b.2 in
    let d = bind_some (byte_at c.0.1) (λ code. reply_of code.0 >>= λ reply. last_call_of code.1 >>= λ call. Some (made a.0.0 b.0.0 c.0.0 reply call)) stored c.2 in
    let r = bind_some (reply_of d.0.0) (λ reply. last_call_of d.0.1 >>= λ call. Some (made a.0.0 b.0.0 c.0.0 reply call)) stored d.2 in
    let l = bind_some (last_call_of d.0.1) (λ call. Some (made a.0.0 b.0.0 c.0.0 r.0 call)) stored r.2 in
    let micros = number_takes w64 (2 ^ 64) wide64 bytes a.0.0 a.0.1 fits a.1 in
    let who = who_takes a.0.1 b.0 micros.0.rest_fits b.1 in
    let seat = number_takes w16 (2 ^ 16) wide16 b.0.1 c.0.0 c.0.1 who.0.rest_fits c.1 in
    let byte = byte_takes c.0.1 d.0 seat.0.rest_fits d.1 in
    let reply = byte_is c.0.1 d.0.0 (reply_code r.0) d.0.1 (reply_takes d.0.0 r.0 r.1) byte in
    let call = last_call_takes d.0.1 l.0 byte.rest_fits l.1 in
    let whole : bytes ≡ bytes_of (made a.0.0 b.0.0 c.0.0 r.0 l.0) = joined bytes (to_le_bytes w64 a.0.0) a.0.1 (who_bytes b.0.0) b.0.1 (to_le_bytes w16 c.0.0) c.0.1 (reply_code r.0 ∷ []) d.0.1 (call_bytes l.0) micros.0.parts who.0.parts seat.0.parts reply.parts call.0 in
    is_it bytes (made a.0.0 b.0.0 c.0.0 r.0 l.0) stored l.2 (record { micros = micros.1; who = who.1; seat = seat.1; call = call.1 }, whole)

pub stored_again : (stored : Stored) → IsStored stored → stored_of (bytes_of stored) ≡ Some stored
unfolding stored_of
stored_again stored fits =
    let call = call_bytes stored.entry.call in
    let behind_seat : List ℕ = reply_code stored.entry.reply ∷ call in
    let behind_who : List ℕ = to_le_bytes w16 stored.entry.seat ++ behind_seat in
    let behind_micros : List ℕ = who_bytes stored.who ++ behind_who in
    let whole : bytes_of stored ≡ to_le_bytes w64 stored.micros ++ behind_micros = regrouped (to_le_bytes w64 stored.micros) (who_bytes stored.who) (to_le_bytes w16 stored.entry.seat) (reply_code stored.entry.reply ∷ []) call in
    ap stored_of whole ∙ rw (number_again w64 (2 ^ 64) wide64 stored.micros behind_micros fits.micros, who_again stored.who behind_who fits.who, number_again w16 (2 ^ 16) wide16 stored.entry.seat behind_seat fits.seat, reply_again stored.entry.reply, last_call_again stored.entry.call fits.call) refl

-- two values with the same bytes are the same
pub one_value : (a b : Stored) → IsStored a → IsStored b → bytes_of a ≡ bytes_of b → a ≡ b
one_value a b a_fits b_fits e = some_is a b (sym (stored_again a a_fits) ∙ ap stored_of e ∙ stored_again b b_fits)

pub is_found : (bytes : List ℕ) (result : Option Stored) → IsBytes bytes → result ≡ stored_of bytes → IfSome result (λ stored. IsStored stored × (bytes ≡ bytes_of stored))
is_found bytes (Some stored) fits e = stored_takes bytes stored fits (sym e)
is_found bytes None fits e = tt

pub is_none : (bytes : List ℕ) (result : Option Stored) → result ≡ stored_of bytes → IfNone result ((stored : Stored) → IsStored stored → bytes ≡ bytes_of stored → ⊥)
is_none bytes (Some stored) e = tt
is_none bytes None e = λ stored fits same. let again = stored_again stored fits in let given : None ≡ Some stored = e ∙ ap stored_of same ∙ again in cc

pub is_only : (bytes : List ℕ) (result : Option Stored) → result ≡ stored_of bytes → (stored : Stored) → IsStored stored → bytes ≡ bytes_of stored → result ≡ Some stored
is_only bytes result e stored fits same = e ∙ ap stored_of same ∙ stored_again stored fits
