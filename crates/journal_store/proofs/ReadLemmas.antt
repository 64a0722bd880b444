-- What is said of records that were read.
use Rattle.std.proofs.Common.{◌≡◌, ℕ, suc, ◌+◌, ◌<◌, ◌≤◌, List, [], ◌∷◌, ◌++◌, length, get_or, take, Vec, refl, sym, ◌∙◌, ap, subst, arith, length-append}
use Rattle.std.specs.Prelude.{All}
use Rattle.std.specs.declared.alloc.Global.{Global}
use Rattle.std.specs.Int.{w16, w64, to_le_bytes}
use Rattle.std.proofs.lemmas.List.{map_more, take-map}
use Rattle.std.proofs.lemmas.List.Elements.{All-more}
use Rattle.record_log.specs.Log.{texts}
use Rattle.chronicle.specs.declared.who.Who.{Who}
use Rattle.chronicle.specs.declared.who.Who.TheVariants.{Setup, Session, Expiry}
use Rattle.probe_core.specs.declared.rule.Rule.{Rule}
use Rattle.probe_core.specs.declared.rule.Rule.TheVariants.{Threshold, Manual, Depends}
use Rattle.desk_core.specs.declared.call.Finding.TheVariants.{Pass, Fail}
use Rattle.desk_core.specs.declared.call.Setting.TheVariants.{Up, Down}
use Rattle.desk_core.specs.declared.call.Call.{Call}
use Rattle.desk_core.specs.declared.call.Call.TheVariants.{Register, Retire, Observe, Set, Shutdown, Resume}
use Rattle.entry_record.specs.Format.{bytes_of, who_bytes, rule_bytes, call_bytes, reply_code}
use Rattle.entry_record.specs.Range.{IsStored}
use Rattle.entry_record.specs.declared.stored.Stored.{Stored}
use Rattle.journal_store.specs.Read.{AreRead}
use Rattle.journal_store.specs.Record.{AreRecords, restored_of}

-- an entry takes few bytes
few_who : (who : Who) → length (who_bytes who) ≤ 5
few_who Setup = omega arith
few_who (Session number) = omega arith
few_who Expiry = omega arith

few_rule : (rule : Rule) → length (rule_bytes rule) ≤ 10
few_rule (Threshold fall rise start) = omega arith
few_rule Manual = omega arith
few_rule (Depends mask) = omega arith

few_call : (call : Call) → length (call_bytes call) ≤ 12
few_call (Register slot rule) = omega (arith, few_rule rule)
few_call (Retire slot) = omega arith
few_call (Observe slot Pass) = omega arith
few_call (Observe slot Fail) = omega arith
few_call (Set slot Up) = omega arith
few_call (Set slot Down) = omega arith
few_call Shutdown = omega arith
few_call Resume = omega arith

pub few : (stored : Stored) → length (bytes_of stored) < 256
few stored =
    let who = who_bytes stored.who in
    let seat = to_le_bytes w16 stored.entry.seat in
    let reply = reply_code stored.entry.reply ∷ [] in
    let call = call_bytes stored.entry.call in
    omega (
      arith,
      length-append (to_le_bytes w64 stored.micros ++ who ++ seat ++ reply) call,
      length-append (to_le_bytes w64 stored.micros ++ who ++ seat) reply,
      length-append (to_le_bytes w64 stored.micros ++ who) seat,
      length-append (to_le_bytes w64 stored.micros) who,
      few_who stored.who,
      few_call stored.entry.call,
    )

-- two lists
all_read : (records more : List (List ℕ)) (stored later : List Stored) → AreRead records stored → AreRead more later → AreRead (records ++ more) (stored ++ later)
all_read [] more [] later first second = second
all_read [] more (s ∷ stored) later first second = absurd first
all_read (r ∷ records) more [] later first second = absurd first
all_read (r ∷ records) more (s ∷ stored) later first second = (first.0, first.1, all_read records more stored later first.2 second)

module _ (found : List (Vec ℕ Global)) (i : ℕ) (at : Vec ℕ Global) (stored : List Stored) (one : Stored) (inside : i < length found) (is : at ≡ get_or found i at) (ranged : IsStored one) (whole : at.items ≡ bytes_of one) where
  item : (get_or found i at).items ≡ bytes_of one
  item = ap (λ e. e.items) (sym is) ∙ whole

  -- one more
  pub one_read : AreRead (take i (texts found)) stored → AreRead (take (i + 1) (texts found)) (stored ++ one ∷ [])
  one_read so_far = subst (λ l. AreRead l (stored ++ one ∷ [])) (sym more) (all_read (take i (texts found)) ((get_or found i at).items ∷ []) stored (one ∷ []) so_far (ranged, item, tt))
    where
      more : take (i + 1) (texts found) ≡ take i (texts found) ++ (get_or found i at).items ∷ []
      more = take-map (λ e. e.items) (i + 1) found ∙ map_more (λ e. e.items) found i at inside ∙ ap (λ l. l ++ (get_or found i at).items ∷ []) (sym (take-map (λ e. e.items) i found))

  pub one_short : All (λ bytes. length bytes.items < 256) (take i found) → All (λ bytes. length bytes.items < 256) (take (i + 1) found)
  one_short so_far = All-more (λ (bytes : Vec ℕ Global). length bytes.items < 256) found i at inside so_far (subst (λ l. length l < 256) (sym item) (few one))

-- as many were read as there are
pub read_many : (records : List (List ℕ)) (stored : List Stored) → AreRead records stored → length records ≡ length stored
read_many [] [] read = refl
read_many [] (s ∷ stored) read = absurd read
read_many (r ∷ records) [] read = absurd read
read_many (r ∷ records) (s ∷ stored) read = ap suc (read_many records stored read.2)

-- records that were read are of the entries that a restart makes of them
pub are_records : (records : List (List ℕ)) (stored : List Stored) → AreRead records stored → AreRecords records (restored_of stored)
are_records [] [] read = tt
are_records [] (s ∷ stored) read = absurd read
are_records (r ∷ records) [] read = absurd read
are_records (r ∷ records) (s ∷ stored) read = (record { stored = s; ranged = read.0; whole = read.1; call = refl; reply = refl }, are_records records stored read.2)
