-- Bytes that several calls of a writer took, one behind the other.
use Rattle.std.proofs.Common.{ℕ, ◌≡◌, ◌≢◌, ◌+◌, ◌-◌, ◌≤◌, Bool, Option, List, length, take, drop, refl, sym, ap, subst, inr}
use Rattle.std.proofs.KnownBytes.{Appends-trans}
use Rattle.std.proofs.Math.Seq.{take-add}
use Rattle.std.proofs.lemmas.List.{take-append-drop, take_rest}
use Rattle.std.specs.Io.KnownBytes.{Appends}
use Rattle.std.specs.Prelude.{IfErr, Result, Ok, Err}
use Rattle.web_call.specs.declared.method.Method.{Method}
use Rattle.client.specs.declared.ask_fault.AskFault.{AskFault}
use Rattle.client.specs.declared.ask_fault.AskFault.TheVariants.{Read, Write, BadResponse, Http, NoMemory}
use Rattle.client.specs.declared.told.Told.{Told}
use Rattle.client.specs.Ask.{HasWriteCause, IsSentFor}
use Rattle.client.specs.Request.{IsRequestText, WritesRequest, WritesRequestFront}

-- the front of a text was written
pub record IsSent (old new : Option (List ℕ)) (text : List ℕ) (taken : ℕ) : Type 0 where
  pub within : taken ≤ length text
  pub written : Appends old new (take taken text)

-- a write appended the first bytes of what was left
pub Appends-more : (a b c : Option (List ℕ)) (text : List ℕ) (taken count : ℕ) → Appends a b (take taken text)
    → Appends b c (take count (take (length text - taken) (drop taken text))) → Appends a c (take (taken + count) text)
Appends-more a b c text taken count written more =
    let left = ap (take count) (take_rest text taken) in
    let joined = Appends-trans a b c _ _ written (subst (Appends b c) left more) in
    subst (Appends a c) (sym (take-add taken count text)) joined

-- where a front of the request went, a front of it was written
pub front_written : (method : Method) (name text sent : List ℕ) (old new : Option (List ℕ)) (count : ℕ) → IsRequestText method name text
    → sent ≡ text → Appends old new (take count sent) → WritesRequestFront method name old new
front_written method name text sent old new count request same written = record {
  text = text;
  front = take count text;
  request = request;
  begins = record { rest = drop count text; is = sym (take-append-drop count text) };
  appended = subst (λ xs. Appends old new (take count xs)) same written;
}

-- where all of it went, the request was written
pub all_written : (method : Method) (name text sent : List ℕ) (old new : Option (List ℕ)) → IsRequestText method name text → sent ≡ text
    → Appends old new sent → WritesRequest method name old new
all_written method name text sent old new request same written = record {
  text = text;
  request = request;
  appended = subst (Appends old new) same written;
}

-- which is what an answer says that comes behind it
pub sent_for : (result : Result Told AskFault) (method : Method) (name : List ℕ) (old new : Option (List ℕ)) → IfErr result (λ fault. fault ≢ Write)
    → WritesRequest method name old new → IsSentFor result method name old new
sent_for (Ok told) method name old new other writes = writes
sent_for (Err Read) method name old new other writes = writes
sent_for (Err Write) method name old new other writes = absurd (other refl)
sent_for (Err BadResponse) method name old new other writes = writes
sent_for (Err (Http status)) method name old new other writes = writes
sent_for (Err NoMemory) method name old new other writes = inr writes

-- and no write failed for it
pub sent_cause : (result : Result Told AskFault) (failed failed_after : Bool) → IfErr result (λ fault. fault ≢ Write) → failed_after ≡ failed
    → HasWriteCause result failed failed_after
sent_cause (Ok told) failed failed_after other kept = kept
sent_cause (Err Read) failed failed_after other kept = kept
sent_cause (Err Write) failed failed_after other kept = absurd (other refl)
sent_cause (Err BadResponse) failed failed_after other kept = kept
sent_cause (Err (Http status)) failed failed_after other kept = kept
sent_cause (Err NoMemory) failed failed_after other kept = kept
