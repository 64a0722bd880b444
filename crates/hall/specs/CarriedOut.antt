-- How a seat makes the changes that it is asked for, one after the other. Histories have their newest entry first.
use Rattle.std.specs.Prelude.{◌≡◌, ℕ, ◌≤◌, Option, Some, None, List, [], ◌∷◌, ◌++◌, length, Contains, Result, Ok, Err}
use Rattle.desk_core.specs.declared.call.Call.{Call}
use Rattle.desk_core.specs.declared.entry.Entry.{Entry}
use Rattle.desk_core.specs.declared.refusal.Refusal.{Refusal}
use Rattle.desk_core.specs.declared.refusal.Refusal.TheVariants as refusals
use Rattle.desk_core.specs.declared.reply.Reply.{Reply}
use Rattle.desk_core.specs.Mutation.{AreAnswered, entry_of}
use Rattle.desk_core.specs.Past.{past}
use Rattle.desk_core.specs.Watch.{IsOlder}
use Rattle.hall.specs.Seats.{SeatState, IsCarriedOut, own_calls, with_seen}

-- the entries of a seat that was asked for these changes, in their order: one for each that got a reply
abbrev pub replied : ℕ → List (Option Call) → List (Result Reply Refusal) → List Entry
replied seat [] results = []
replied seat (call ∷ calls) [] = []
replied seat (Some call ∷ calls) (Ok reply ∷ results) = entry_of seat call reply ∷ replied seat calls results
replied seat (None ∷ calls) (Ok reply ∷ results) = replied seat calls results
replied seat (call ∷ calls) (Err refusal ∷ results) = replied seat calls results

-- A seat was asked for these changes, with these results. It is the same seat, whose history goes on. Its own entries are those of
-- the changes that got a reply, in front of those that it had. Where one was refused for a full journal, the journal is full
pub record HasCarriedOut (old new : SeatState) (calls : List (Option Call)) (results : List (Result Reply Refusal)) : Type 0 where
  pub done : AreAnswered IsCarriedOut old new calls results
  pub same : new ≡ with_seen old new.seen
  pub begins : IsOlder old.seen new.seen
  pub own : own_calls new ≡ past (replied old.number calls results) ++ own_calls old
  pub full : Contains results (Err refusals.Full) → new.most ≤ length new.seen
