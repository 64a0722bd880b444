-- The own entries of a watchdog's seat.
use Rattle.std.proofs.Common.{◌≡◌, ℕ, Bool, true, false, List, [], ◌∷◌, ◌++◌, refl, ap, sym, ◌∙◌, append_assoc, ◌⊎◌, inl, inr, arith}
use Rattle.std.specs.Prelude.{Option, Some, Result, Ok, Err}
use Rattle.std.specs.List.{All}
use Rattle.std.proofs.lemmas.List.Elements.{All-append, All-cons}
use Rattle.desk_core.specs.declared.call.Call.TheVariants.{Observe}
use Rattle.desk_core.specs.declared.call.Finding.TheVariants.{Fail}
use Rattle.desk_core.specs.declared.entry.Entry.{Entry}
use Rattle.desk_core.specs.declared.refusal.Refusal.{Refusal}
use Rattle.desk_core.specs.declared.reply.Reply.{Reply}
use Rattle.desk_core.specs.Mutation.{Ends, Then, entry_of}
use Rattle.hall.specs.Seats.{SeatState, IsCarriedOut, own_calls}
use Rattle.hall.proofs.CarryingOut.{are_own}
use Rattle.watchdog.specs.Falling.{HaveFailed, NoFail, OneMore, HasFallen, Down, WasRefused}
use Rattle.watchdog.specs.Guard.{GuardState}
use Rattle.std.specs.Time.{instant_nanos}
use Rattle.std.specs.declared.time.Instant.{Instant}
use Rattle.watchdog.specs.Laws.{was_refused}
use Rattle.watchdog.proofs.LawLemmas.{due}
use Rattle.watchdog.specs.Watching.{HasWatched, NoRound, OneRound, Misses, HaveStepped, NoStep, OneStep, IsStep, Stays, Follows, PassesBy, Skips, Waits, Expires, IsRefused, IsFail, IsPast}

-- a seat's own entries are these fails, in front of those that it had
pub record MakesFails (old new : SeatState) : Type 0 where
  pub fails : List Entry
  pub all : All IsFail fails
  pub own : own_calls new ≡ fails ++ own_calls old

none_made : (old new : SeatState) → own_calls new ≡ own_calls old → MakesFails old new
none_made old new same = record { fails = []; all = λ k d below. absurd (omega (arith, below)); own = same }

made_then : (a b c : SeatState) → MakesFails a b → MakesFails b c → MakesFails a c
made_then a b c p q = record {
  fails = q.fails ++ p.fails;
  all = All-append IsFail q.fails p.fails q.all p.all;
  own = q.own ∙ (ap (λ own. q.fails ++ own) p.own ∙ sym (append_assoc q.fails p.fails (own_calls a)));
}

carried_fails : (slot : ℕ) (old new : SeatState) (result : Result Reply Refusal) → IsCarriedOut old new (Some (Observe slot Fail)) result → MakesFails old new
carried_fails slot old new (Ok reply) carried =
    let fail : Entry = entry_of old.number (Observe slot Fail) reply in
    record {
      fails = fail ∷ [];
      all = All-cons IsFail fail [] (slot, refl) (λ k d below. absurd (omega (arith, below)));
      own = are_own old new (Some (Observe slot Fail) ∷ []) (Ok reply ∷ []) (Then old new new (Some (Observe slot Fail)) (Ok reply) [] [] carried (Ends new));
    }
carried_fails slot old new (Err refusal) carried =
    none_made old new (are_own old new (Some (Observe slot Fail) ∷ []) (Err refusal ∷ []) (Then old new new (Some (Observe slot Fail)) (Err refusal) [] [] carried (Ends new)))

failed_fails : (kept : Option ℕ) (slot from : ℕ) (old new : SeatState) (made : Bool) → HaveFailed kept slot from old new made → MakesFails old new
failed_fails kept slot from old new made (NoFail seat) = none_made seat seat refl
failed_fails kept slot from old new made (OneMore first between last made' reply failed carried due) =
    made_then old between new (failed_fails kept slot from old between made' failed) (carried_fails slot between new (Ok reply) carried)

fallen_fails : (kept : Option ℕ) (slot from : ℕ) (old new : SeatState) (made refused : Bool) → HasFallen kept slot from old new made refused → MakesFails old new
fallen_fails kept slot from old new made refused (Down between failed looked none) =
    made_then old between new (failed_fails kept slot from old between made failed) (none_made between new looked.own)
fallen_fails kept slot from old new made refused (WasRefused between refusal failed carried) =
    made_then old between new (failed_fails kept slot from old between made failed) (carried_fails slot between new (Err refusal) carried)

step_fails : (kept : Option ℕ) (now : Instant) (guard : GuardState) (old : SeatState) (guard_now : GuardState) (new : SeatState)
    → IsStep kept now guard old guard_now new → MakesFails old new
step_fails kept now guard old guard_now new Stays = none_made old old refl
step_fails kept now guard old guard_now new (Follows entries are) = none_made old old refl
step_fails kept now guard old guard_now new (PassesBy none quiet) = none_made old old refl
step_fails kept now guard old guard_now new (Skips gone) = none_made old old refl
step_fails kept now guard old guard_now new (Waits early) = none_made old old refl
step_fails kept now guard old guard_now new (Expires last made due fell) = fallen_fails kept guard.slot guard.place old new made false fell
step_fails kept now guard old guard_now new (IsRefused last made due fell) = fallen_fails kept guard.slot guard.place old new made true fell

stepped_fails : (kept : Option ℕ) (now : Instant) (guards guards_now : List GuardState) (old new : SeatState) → HaveStepped kept now guards old guards_now new → MakesFails old new
stepped_fails kept now guards guards_now old new (NoStep gs seat) = none_made seat seat refl
stepped_fails kept now guards guards_now old new (OneStep gs between seat before last place guard other stepped below step) =
    made_then old before new (stepped_fails kept now guards between old before stepped) (step_fails kept now _ before guard new step)

pub watched_fails : (kept : Option ℕ) (guards guards_now : List GuardState) (old new : SeatState) → HasWatched kept guards old guards_now new → MakesFails old new
watched_fails kept guards guards_now old new (NoRound gs seat) = none_made seat seat refl
watched_fails kept guards guards_now old new (OneRound gs between gs_now seat before last now watched round) =
    made_then old before new (watched_fails kept guards between old before watched)
    (made_then before round.between new (none_made before round.between round.saw.own) (stepped_fails kept now round.wishing guards_now round.between new round.steps))
watched_fails kept guards guards_now old new (Misses gs between gs_now seat before last watched missed) =
    made_then old before new (watched_fails kept guards between old before watched) (none_made before new missed.saw.own)

-- a step that makes one has the period passed since the newest beginning, where none was refused since
pub step_is_due : (kept : Option ℕ) (now : Instant) (guard : GuardState) (old : SeatState) (guard_now : GuardState) (new : SeatState)
    → IsStep kept now guard old guard_now new → was_refused guard.met ≡ false → (own_calls new ≡ own_calls old) ⊎ IsPast guard.met (instant_nanos now)
step_is_due kept now guard old guard_now new Stays fresh = inl refl
step_is_due kept now guard old guard_now new (Follows entries are) fresh = inl refl
step_is_due kept now guard old guard_now new (PassesBy none quiet) fresh = inl refl
step_is_due kept now guard old guard_now new (Skips gone) fresh = inl refl
step_is_due kept now guard old guard_now new (Waits early) fresh = inl refl
step_is_due kept now guard old guard_now new (Expires last made told fell) fresh = inr (due guard.met (instant_nanos now) told fresh)
step_is_due kept now guard old guard_now new (IsRefused last made told fell) fresh = inr (due guard.met (instant_nanos now) told fresh)
