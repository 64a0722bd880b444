-- What a session is held over: a console, and the server beside it.
use Rattle.std.specs.Prelude.{ℕ, ◌≡◌, ◌≢◌, ◌⊎◌, ◌-◌, List, length, Option, Result, Ok, Err, IfSome, IfNone}
use Rattle.desk_core.specs.declared.call.Call.{Call}
use Rattle.desk_core.specs.declared.entry.Entry.{Entry}
use Rattle.desk_core.specs.declared.refusal.Refusal.{Refusal}
use Rattle.desk_core.specs.declared.reply.Reply.{Reply}
use Rattle.desk_core.specs.declared.reply.Reply.TheVariants.{Done}
use Rattle.desk_core.specs.Catalogue.{slot_of}
use Rattle.desk_core.specs.Changes.{Shows}
use Rattle.script.specs.declared.expectation.Expectation.{Expectation}
use Rattle.tail.specs.Tail.{forgotten}
use Rattle.control.specs.declared.answer.Answer.{Answer}
use Rattle.control.specs.declared.answer.Answer.TheVariants.{NotASession}
use Rattle.control.specs.declared.expected.Expected.{Expected}
use Rattle.control.specs.declared.request.Request.{Request}
use Rattle.control.specs.declared.session_terms.SessionTerms.{SessionTerms}
use Rattle.control.specs.declared.stats.Counts.{Counts}
use Rattle.control.specs.declared.stats.Stats.{Stats}
use Rattle.control.specs.Known.{Asked, Known, known_of}
use Rattle.control.specs.Meeting.{IsMet, IsLineMet, expected_reply}
use Rattle.control.specs.WebLine.{IsForeign}

-- a change with this result, after which this history was seen, changed what is shown of a service
abbrev pub HasShown : Result Reply Refusal → List Entry → Type 0
HasShown (Ok reply) seen = Shows seen
HasShown (Err refusal) seen = ⊥

-- what is seen is what the console has seen
abbrev pub seen_beside : {C V : Type 0} → (C → List Entry) → C × V → List Entry
seen_beside seen held = seen held.0

-- the console looks, and the server is told nothing
pub record LooksBeside {C V : Type 0} (looks : C → C → Type 0) (old new : C × V) : Type 0 where
  pub looked : looks old.0 new.0
  pub server : new.1 ≡ old.1

-- The console makes a change, or refuses it. The server is told once that a status changed, exactly if the change shows
pub record ChangesBeside {C V : Type 0} (seen : C → List Entry) (answers : C → C → Option Call → Result Reply Refusal → Type 0) (terms : V → SessionTerms) (woken : V → V → Type 0)
    (old new : C × V) (call : Option Call) (result : Result Reply Refusal) : Type 0 where
  pub answered : answers old.0 new.0 call result
  pub wakes : HasShown result (seen new.0) → woken old.1 new.1
  pub lets_wait : ¬ HasShown result (seen new.0) → new.1 ≡ old.1
  pub terms_stay : terms new.1 ≡ terms old.1

-- what a server is told: this is expected of the service at a slot, behind so many entries
abbrev pub expected_of : ℕ → Expectation → List Entry → Expected
expected_of slot expectation seen =
    record { slot = slot; seconds = expectation.seconds; behind = length seen }

-- The console looks for the service's rule, or stays where the name is not listed. The server is told
-- once what is expected of the service, exactly if the answer is that this was done
pub record ExpectsBeside {C V : Type 0} (names : List (List ℕ)) (seen : C → List Entry)
    (looks : C → C → Type 0) (terms : V → SessionTerms) (expected : V → V → Expected → Type 0)
    (old new : C × V) (expectation : Expectation) (result : Result Reply Refusal) : Type 0 where
  pub looked : IfSome (slot_of names expectation.name) (λ slot. looks old.0 new.0)
  pub unlisted : IfNone (slot_of names expectation.name) (new.0 ≡ old.0)
  pub answered : result ≡ expected_reply names (seen new.0) expectation
  pub told : result ≡ Ok Done → IfSome (slot_of names expectation.name)
      (λ slot. expected old.1 new.1 (expected_of slot expectation (seen new.0)))
  pub not_told : result ≢ Ok Done → new.1 ≡ old.1
  pub terms_stay : terms new.1 ≡ terms old.1

-- the numbers are those of the history that the console has seen, of which so many entries are kept and to which so many may be added, and
-- those that the server counts
pub record TellsBeside {C V : Type 0} (seen : C → List Entry) (kept : Option ℕ) (terms : V → SessionTerms) (counted : V → Counts → Type 0) (held : C × V) (stats : Stats) : Type 0 where
  pub entries : stats.entries ≡ length (seen held.0)
  pub in_memory : stats.kept ≡ length (seen held.0) - forgotten kept (length (seen held.0))
  pub counts : counted held.1 stats.counts
  pub left : stats.left ≡ (terms held.1).place.most - stats.entries

-- what is known is known by the history that the console has seen, of which so many entries are kept
abbrev pub KnowsBeside : {C V : Type 0} → (C → List Entry) → Option ℕ → C × V → Asked → Known → Type 0
KnowsBeside seen kept held asked known = known ≡ known_of kept (seen held.0) asked

-- the server is told to end, and the console stays
pub record StopsBeside {C V : Type 0} (terms : V → SessionTerms) (stopped : V → V → Type 0) (old new : C × V) : Type 0 where
  pub console : new.0 ≡ old.0
  pub server : stopped old.1 new.1
  pub terms_stay : terms new.1 ≡ terms old.1

-- how a request is met over both
abbrev pub IsMetBeside : {C V : Type 0} → (C → List Entry) → Option ℕ → (C → C → Type 0) → (C → C → Option Call → Result Reply Refusal → Type 0)
    → (V → SessionTerms) → (V → Counts → Type 0) → (V → V → Type 0) → (V → V → Expected → Type 0) → (V → V → Type 0) → List (List ℕ) → C × V → C × V → Request → Answer → Type 0
IsMetBeside seen kept looks answers terms counted woken expected stopped names old new request answer =
    IsMet names (seen_beside seen) (LooksBeside looks) (ChangesBeside seen answers terms woken) (ExpectsBeside names seen looks terms expected) (TellsBeside seen kept terms counted) (KnowsBeside seen kept) (StopsBeside terms stopped) old new request answer

-- how a line is met over both, in a session with the rights of the server's terms
abbrev pub IsTextMetBeside : {C V : Type 0} → (C → List Entry) → Option ℕ → (C → C → Type 0) → (C → C → Option Call → Result Reply Refusal → Type 0)
    → (V → SessionTerms) → (V → Counts → Type 0) → (V → V → Type 0) → (V → V → Expected → Type 0) → (V → V → Type 0) → List (List ℕ) → C × V → C × V → List ℕ → Answer → Type 0
IsTextMetBeside seen kept looks answers terms counted woken expected stopped names old new line answer =
    IsLineMet (terms old.1).place.rights names (seen_beside seen) (LooksBeside looks) (ChangesBeside seen answers terms woken) (ExpectsBeside names seen looks terms expected) (TellsBeside seen kept terms counted) (KnowsBeside seen kept) (StopsBeside terms stopped) old new line answer

-- the same of any line that comes: one that is none of a session is answered so, and nothing is done
abbrev pub IsLineMetBeside : {C V : Type 0} → (C → List Entry) → Option ℕ → (C → C → Type 0) → (C → C → Option Call → Result Reply Refusal → Type 0)
    → (V → SessionTerms) → (V → Counts → Type 0) → (V → V → Type 0) → (V → V → Expected → Type 0) → (V → V → Type 0) → List (List ℕ) → C × V → C × V → List ℕ → Answer → Type 0
IsLineMetBeside seen kept looks answers terms counted woken expected stopped names old new line answer =
    (IsForeign (terms old.1) line × (answer ≡ NotASession) × (new ≡ old))
    ⊎ ((¬ IsForeign (terms old.1) line) × IsTextMetBeside seen kept looks answers terms counted woken expected stopped names old new line answer)
