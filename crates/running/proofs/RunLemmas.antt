-- What a setup leaves behind whose changes were all made.
use Rattle.std.proofs.Common.{◌≡◌, IfNone, ℕ, suc, ◌<◌, ◌≤◌, Option, None, Some, List, [], ◌∷◌, ◌++◌, length, Result, Ok, Err, refl, sym, ap, subst, ◌∙◌, arith}
use Rattle.std.specs.List.{All, slice_index_or}
use Rattle.std.proofs.lemmas.Bool.Decides.{nat_tests}
use Rattle.std.proofs.lemmas.List.Elements.{All-cons, All-head, All-map, All-push, All-tail}
use Rattle.desk_core.specs.declared.call.Call.{Call}
use Rattle.desk_core.specs.declared.entry.Entry.{Entry}
use Rattle.desk_core.specs.declared.refusal.Refusal.{Refusal}
use Rattle.desk_core.specs.declared.reply.Reply.{Reply}
use Rattle.desk_core.specs.Mutation.{AreAnswered, Ends, Then, IsAnswered, Taken, NotListed, BadRule, Full, NoMemory, NotStored, entry_of}
use Rattle.hall.specs.Seats.{SeatState, IsCarriedOut, new_seats}
use Rattle.hall.specs.CarriedOut.{replied}
use Rattle.server.specs.Again.{changes_of, replies_of}
use Rattle.server.specs.Setup.{SetUpState, AreSetUp}
use Rattle.durable.specs.Journal.{AreOfFirst}
use Rattle.running.specs.Journaled.{IsSetupOf}
use Rattle.server.proofs.OwnLemmas.{seats_dealt}
use Rattle.live_run.specs.declared.loops_fault.LoopsFault.{LoopsFault}
use Rattle.live_run.specs.declared.loops_fault.LoopsFault.TheVariants as faults
use Rattle.live_run.specs.declared.refused_line.RefusedLine.{RefusedLine}
use Rattle.live_run.specs.RefusedLine.{IsFirstRefused, IsMade}
use Rattle.script.specs.Change.{line_changes}
use Rattle.script.specs.declared.script.Mode.TheVariants.{Run}
use Rattle.script.specs.Script.{ScriptParts, IsScript}
use Rattle.live_run.specs.WholeRun.{IsLaterFault, loops_fault}
use Rattle.live_run.specs.WholeRun.IsLaterFault.{NoMemory as NoMemoryLater, SeatsMissing as SeatsMissingLater}
use Rattle.running.specs.declared.run_failure.RunFailure.{RunFailure}
use Rattle.running.specs.declared.run_failure.RunFailure.TheVariants.{Refused}
use Rattle.live_server.specs.Loop.{EventServer}
use Rattle.live_server.specs.declared.places.ServerLimits.{ServerLimits}
use Rattle.live_server.specs.Loop.{empty_table, held_by}
use Rattle.running.specs.declared.bounds.Bounds.{Bounds}
use Rattle.running.specs.Run.{AreLoopsOf, AreMadeAlone, EndsSetUp, HasReply, IsWhollySetUp, limits_in}

-- a change that got a reply has one entry
one_made : (n most seat : ℕ) (before after : List Entry) (call : Option Call) (result : Result Reply Refusal) (calls : List (Option Call)) (results : List (Result Reply Refusal))
    → IsAnswered most seat before after call result → HasReply result → length (replied n (call ∷ calls) (result ∷ results)) ≡ suc (length (replied n calls results))
one_made n most seat before after _ _ calls results (Taken call reply lawful room reply_is is) has = refl
one_made n most seat before after _ _ calls results (NotListed same) has = absurd has
one_made n most seat before after _ _ calls results (BadRule call unlawful same) has = absurd has
one_made n most seat before after _ _ calls results (Full call lawful full same) has = absurd has
one_made n most seat before after _ _ calls results (NoMemory call lawful room same) has = absurd has
one_made n most seat before after _ _ calls results (NotStored call lawful room same) has = absurd has

-- so there are as many entries as results
all_made : (n : ℕ) (old new : SeatState) (calls : List (Option Call)) (results : List (Result Reply Refusal)) → AreAnswered IsCarriedOut old new calls results
    → All HasReply results → length (replied n calls results) ≡ length results
all_made n old new calls results (Ends seat) has = refl
all_made n old new calls results (Then old' between new' call result calls' results' met rest) has =
    one_made n old.most old.number met.before between.seen call result calls' results' met.answer (All-head HasReply result results' has)
    ∙ ap suc (all_made n between new calls' results' rest (All-tail HasReply result results' has))

-- a change that was made got a reply
has_reply : (result : Result Reply Refusal) → IsMade result → HasReply result
has_reply (Ok reply) made = tt
has_reply (Err refusal) made = let no : ⊥ = cc in absurd no

-- a hall that was set up with so many entries and seats
set_up_with : (calls : List (Option Call)) (made : SetUpState) (most count : ℕ) → made.hall.most ≡ most → made.hall.seats ≡ count
    → AreSetUp calls made.results (new_seats made.hall.table most count) made.seats
    → AreSetUp calls made.results (new_seats made.hall.table made.hall.most made.hall.seats) made.seats
set_up_with calls made most count most_is seats_are set =
    subst (λ n. AreSetUp calls made.results (new_seats made.hall.table made.hall.most n) made.seats) (sym seats_are)
    (subst (λ n. AreSetUp calls made.results (new_seats made.hall.table n count) made.seats) (sym most_is) set)

-- the failure of a script whose line was refused
pub refused_line : (bytes : List ℕ) (script : ScriptParts) (made : SetUpState) (count : ℕ) (line : RefusedLine) (failure : RunFailure) → IsScript Run bytes script
    → made.hall.most ≡ script.max → made.hall.seats ≡ count
    → AreSetUp (line_changes script.names script.lines) made.results (new_seats made.hall.table script.max count) made.seats
    → ((calls : List (Option Call)) → AreSetUp calls made.results (new_seats made.hall.table made.hall.most made.hall.seats) made.seats → AreMadeAlone made.hall.most calls made.results)
    → IsFirstRefused script.numbers made.results line → failure ≡ Refused line → EndsSetUp bytes failure
refused_line bytes script made count line failure is most_is seats_are set alone first failure_is =
    let calls : List (Option Call) = line_changes script.names script.lines in
    subst (EndsSetUp bytes) (sym failure_is) (record {
      script = script;
      is = is;
      results = made.results;
      alone = subst (λ n. AreMadeAlone n calls made.results) most_is (alone calls (set_up_with calls made script.max count most_is seats_are set));
      first = first;
    })

-- a hall that a script has set up, where each change was made
pub wholly_set_up : (calls : List (Option Call)) (made : SetUpState) (most count : ℕ) → made.hall.most ≡ most → made.hall.seats ≡ count
    → AreSetUp calls made.results (new_seats made.hall.table most count) made.seats → All IsMade made.results → IsWhollySetUp calls made
wholly_set_up calls made most count most_is seats_are set changes = record {
  set_up = set_up_with calls made most count most_is seats_are set;
  replies = λ place other below. has_reply (slice_index_or made.results place other) (changes place other below);
  all = seats_dealt made.hall most count calls made.results made.seats set ∙ sym seats_are;
}

-- the journal of such a hall has an entry for each change
pub all_entries : (calls : List (Option Call)) (made : SetUpState) (journal : List Entry) → IsWhollySetUp calls made → journal ≡ replied 0 calls made.results
    → length journal ≡ length made.results
all_entries calls made journal whole is =
    let met = whole.set_up.met whole.set_up.first in
    ap length is ∙ all_made 0 _ whole.set_up.first calls made.results met.done whole.replies

-- loops that have a seat each behind the first are not refused
no_fault : (loops seats : ℕ) → 1 ≤ loops → loops < seats → loops_fault loops seats ≡ None
no_fault loops seats some enough = grind (arith, nat_tests, some, enough)

-- so that only an allocation can have failed
only_memory : (calls : List (Option Call)) (made : SetUpState) (fault : LoopsFault) → IsWhollySetUp calls made → IsLaterFault made fault → fault ≡ faults.NoMemory
only_memory calls made _ whole NoMemoryLater = refl
only_memory calls made _ whole (SeatsMissingLater missing) = absurd (missing whole.all)

-- so what holds where there is no such fault holds
no_such_fault : (X : Type 0) (loops seats : ℕ) → 1 ≤ loops → loops < seats → IfNone (loops_fault loops seats) X → X
no_such_fault X loops seats some enough holds = subst (λ (fault : Option LoopsFault). IfNone fault X) (no_fault loops seats some enough) holds

-- so that an allocation failed where loops that have seats each were not run
pub out_of_memory : (calls : List (Option Call)) (made : SetUpState) (loops : ℕ) (fault : LoopsFault) → IsWhollySetUp calls made → 1 ≤ loops → loops < made.hall.seats
    → IfNone (loops_fault loops (length made.seats)) (IsLaterFault made fault) → fault ≡ faults.NoMemory
out_of_memory calls made loops fault whole some enough failed =
    only_memory calls made fault whole (no_such_fault _ loops (length made.seats) some (omega (arith, enough, whole.all)) failed)

-- one more loop that may hold so much
pub one_loop_more : (limits : ServerLimits) (old new : List EventServer) (server : EventServer) → new ≡ old ++ server ∷ [] → AreLoopsOf limits old
    → held_by server ≡ empty_table limits → AreLoopsOf limits new
one_loop_more limits old new server pushed all empty =
    subst (AreLoopsOf limits) (sym pushed) (All-push (λ server. held_by server ≡ empty_table limits) old server all empty)

-- a hall whose first seat has made the changes of a journal's entries again
pub wholly_again : (journal : List Entry) (made : SetUpState) (count : ℕ) → made.hall.seats ≡ count
    → AreSetUp (changes_of journal) made.results (new_seats made.hall.table made.hall.most count) made.seats → made.results ≡ replies_of journal → IsWhollySetUp (changes_of journal) made
wholly_again journal made count seats_are set replies = record {
  set_up = subst (λ n. AreSetUp (changes_of journal) made.results (new_seats made.hall.table made.hall.most n) made.seats) (sym seats_are) set;
  replies = subst (All HasReply) (sym replies) (All-map HasReply (λ entry. Ok entry.reply) journal (λ place other below. tt));
  all = seats_dealt made.hall made.hall.most count (changes_of journal) made.results made.seats set ∙ sym seats_are;
}

-- the entries of a setup are of the first seat
first_replied : (calls : List (Option Call)) (results : List (Result Reply Refusal)) → AreOfFirst (replied 0 calls results)
first_replied [] results = λ place other below. absurd (omega (arith, below))
first_replied (call ∷ calls) [] = λ place other below. absurd (omega (arith, below))
first_replied (Some call ∷ calls) (Ok reply ∷ results) = All-cons (λ entry. entry.seat ≡ 0) (entry_of 0 call reply) (replied 0 calls results) refl (first_replied calls results)
first_replied (None ∷ calls) (Ok reply ∷ results) = first_replied calls results
first_replied (call ∷ calls) (Err refusal ∷ results) = first_replied calls results

pub setup_first : (bytes : List ℕ) (entries : List Entry) → IsSetupOf bytes entries → AreOfFirst entries
setup_first bytes entries is = subst AreOfFirst (sym is.entries_are) (first_replied (line_changes is.script.names is.script.lines) is.results)

-- limits whose numbers are those of bounds
pub limits_are : (limits : ServerLimits) (bounds : Bounds) → limits.connections ≡ bounds.connections → limits.watches ≡ bounds.watches → limits ≡ limits_in bounds
limits_are limits bounds connections_are watches_are =
    ap (λ n. record { connections = n; watches = limits.watches }) connections_are ∙ ap (λ n. record { connections = bounds.connections; watches = n }) watches_are
