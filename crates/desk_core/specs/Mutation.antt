-- A mutation: a change that a registry is asked for, and how it is answered. Histories have their newest entry first.
use Rattle.std.specs.Prelude.{◌≡◌, ◌⊎◌, ℕ, ◌<◌, Option, Some, None, List, [], ◌∷◌, length, Result, Ok, Err}
use Rattle.probe_core.specs.declared.rule.Rule.{Rule}
use Rattle.desk_core.specs.declared.call.Call.{Call}
use Rattle.desk_core.specs.declared.call.Call.TheVariants.{Register, Retire, Observe, Set, Shutdown, Resume}
use Rattle.desk_core.specs.declared.entry.Entry.{Entry}
use Rattle.desk_core.specs.declared.refusal.Refusal.{Refusal}
use Rattle.desk_core.specs.declared.refusal.Refusal.TheVariants as refusals
use Rattle.desk_core.specs.declared.reply.Reply.{Reply}
use Rattle.desk_core.specs.Legal.{IsLawfulCall}
use Rattle.desk_core.specs.Reply.{reply_to}

-- the entry of a change
abbrev pub entry_of : ℕ → Call → Reply → Entry
entry_of seat call reply = record { seat = seat; call = call; reply = reply }

-- the rule that a change registers, if it registers one
abbrev pub rule_of : Call → Option Rule
rule_of (Register slot rule) = Some rule
rule_of (Retire slot) = None
rule_of (Observe slot finding) = None
rule_of (Set slot setting) = None
rule_of Shutdown = None
rule_of Resume = None

-- How a registry answers a mutation that a seat asks it for, where its history may have so many entries: of the history before and
-- after it, the change, which is none where its name is not listed, and its reply or refusal. A change that is taken is the newest
-- entry, with the reply that the history before it gives. A refused one leaves no entry; of its causes the first counts: the name is
-- not listed, the rule is not lawful, the journal is full, memory ran out, its entry was not stored
pub data IsAnswered (most seat : ℕ) (before after : List Entry) : Option Call → Result Reply Refusal → Type 0 where
  Taken : (call : Call) (reply : Reply) → IsLawfulCall call → length before < most → reply ≡ reply_to before call
      → after ≡ entry_of seat call reply ∷ before → IsAnswered most seat before after (Some call) (Ok reply)
  NotListed : after ≡ before → IsAnswered most seat before after None (Err refusals.NotListed)
  BadRule : (call : Call) → ¬ IsLawfulCall call → after ≡ before → IsAnswered most seat before after (Some call) (Err refusals.BadRule)
  Full : (call : Call) → IsLawfulCall call → length before ≡ most → after ≡ before → IsAnswered most seat before after (Some call) (Err refusals.Full)
  NoMemory : (call : Call) → IsLawfulCall call → length before < most → after ≡ before → IsAnswered most seat before after (Some call) (Err refusals.NoMemory)
  NotStored : (call : Call) → IsLawfulCall call → length before < most → after ≡ before → IsAnswered most seat before after (Some call) (Err refusals.NotStored)

-- a refusal for want of what no history says: memory, or room in a store
abbrev pub IsWant : Result Reply Refusal → Type 0
IsWant result = (result ≡ Err refusals.NoMemory) ⊎ (result ≡ Err refusals.NotStored)

-- changes that somebody was asked for one after the other, each with how it came out; `answers` says how one may come out
pub data AreAnswered {S : Type 0} (answers : S → S → Option Call → Result Reply Refusal → Type 0) : S → S → List (Option Call) → List (Result Reply Refusal) → Type 0 where
  Ends : (state : S) → AreAnswered answers state state [] []
  Then : (old between new : S) (call : Option Call) (result : Result Reply Refusal) (calls : List (Option Call)) (results : List (Result Reply Refusal))
      → answers old between call result → AreAnswered answers between new calls results → AreAnswered answers old new (call ∷ calls) (result ∷ results)
