-- Rounds of a watchdog, and the seat that it makes its fails by.
use Rattle.std.proofs.Common.{ℕ, List, [], ◌∷◌, get_or, refl, sym, subst}
use Rattle.std.specs.Prelude.{Bool, true, false, Option, None, Some, Result}
use Rattle.std.specs.declared.time.Instant.{Instant}
use Rattle.desk_core.specs.declared.call.Call.{Call}
use Rattle.desk_core.specs.declared.refusal.Refusal.{Refusal}
use Rattle.desk_core.specs.declared.reply.Reply.{Reply}
use Rattle.desk_core.specs.Mutation.{Ends, Then}
use Rattle.desk_core.specs.Watch.{IsOlder}
use Rattle.hall.specs.Looking.{HasLooked}
use Rattle.hall.specs.Seats.{HallState, SeatState, IsCarriedOut, IsOf}
use Rattle.hall.proofs.CarryingOut.{has_met, looked_ours, met_ours}
use Rattle.hall.proofs.LookingLemmas.{older_on}
use Rattle.live_run.specs.Watched.{IsWatchedBy, guards_at, guards_in}
use Rattle.live_run.specs.declared.watchdog_loop.WatchdogLoop.{WatchdogLoop}
use Rattle.watchdog.specs.Falling.{HaveFailed, NoFail, OneMore, HasFallen, Down, WasRefused}
use Rattle.watchdog.specs.Guard.{GuardState}
use Rattle.watchdog.specs.Watching.{HasWatched, NoWish, NoRound, OneRound, Misses, HaveStepped, NoStep, OneStep, IsStep, Stays, Follows, PassesBy, Skips, Waits, Expires, IsRefused}

-- rounds behind rounds
pub watched_then : (kept : Option ℕ) (first second third : List GuardState) (a b c : SeatState) → HasWatched kept first a second b
    → HasWatched kept second b third c → HasWatched kept first a third c
watched_then kept first second third a b c early (NoRound guards seat) = early
watched_then kept first second third a b c early (OneRound guards between guards_now seat before seat_now now late round) =
    OneRound first between guards_now a before seat_now now (watched_then kept first second between a b before early late) round
watched_then kept first second third a b c early (Misses guards between guards_now seat before seat_now late missed) =
    Misses first between guards_now a before seat_now (watched_then kept first second between a b before early late) missed

-- a look is a round that had no clock to read, and in which nothing was expected anew
pub watched_by_look : (kept : Option ℕ) (guards : List GuardState) (seat seat_now : SeatState) → HasLooked seat seat_now → HasWatched kept guards seat guards seat_now
watched_by_look kept guards seat seat_now saw =
    Misses guards guards guards seat seat seat_now (NoRound guards seat) (record { wished = NoWish guards; saw = saw })

-- nothing was done
pub unwatched : (kept : Option ℕ) (guards : List GuardState) (seat : SeatState) → HasWatched kept guards seat guards seat
unwatched kept guards seat = NoRound guards seat

-- what holds of a look and of a change, and of one behind another, holds of all that a watchdog does by its seat
module _ (R : SeatState → SeatState → Type 0) (nothing : (a : SeatState) → R a a) (behind : (a b c : SeatState) → R a b → R b c → R a c)
    (looks : (a b : SeatState) → HasLooked a b → R a b)
    (carries : (a b : SeatState) (call : Option Call) (result : Result Reply Refusal) → IsCarriedOut a b call result → R a b) where
  failed_does : (kept : Option ℕ) (slot from : ℕ) (old new : SeatState) (made : Bool) → HaveFailed kept slot from old new made → R old new
  failed_does kept slot from old new made (NoFail seat) = nothing seat
  failed_does kept slot from old new made (OneMore first between last made' reply failed carried due) =
      behind old between new (failed_does kept slot from old between made' failed) (carries between new _ _ carried)

  fallen_does : (kept : Option ℕ) (slot from : ℕ) (old new : SeatState) (made refused : Bool) → HasFallen kept slot from old new made refused → R old new
  fallen_does kept slot from old new made refused (Down between failed looked none) =
      behind old between new (failed_does kept slot from old between made failed) (looks between new looked)
  fallen_does kept slot from old new made refused (WasRefused between refusal failed carried) =
      behind old between new (failed_does kept slot from old between made failed) (carries between new _ _ carried)

  step_does : (kept : Option ℕ) (now : Instant) (guard : GuardState) (old : SeatState) (guard_now : GuardState) (new : SeatState) → IsStep kept now guard old guard_now new → R old new
  step_does kept now guard old guard_now new Stays = nothing old
  step_does kept now guard old guard_now new (Follows entries are) = nothing old
  step_does kept now guard old guard_now new (PassesBy none quiet) = nothing old
  step_does kept now guard old guard_now new (Skips gone) = nothing old
  step_does kept now guard old guard_now new (Waits early) = nothing old
  step_does kept now guard old guard_now new (Expires last made due fell) = fallen_does kept guard.slot guard.place old new made false fell
  step_does kept now guard old guard_now new (IsRefused last made due fell) = fallen_does kept guard.slot guard.place old new made true fell

  stepped_does : (kept : Option ℕ) (now : Instant) (guards guards_now : List GuardState) (old new : SeatState) → HaveStepped kept now guards old guards_now new → R old new
  stepped_does kept now guards guards_now old new (NoStep gs seat) = nothing seat
  stepped_does kept now guards guards_now old new (OneStep gs between seat before last place guard other stepped below step) =
      behind old before new (stepped_does kept now guards between old before stepped) (step_does kept now (get_or between place other) before guard new step)

  rounds_do : (kept : Option ℕ) (guards guards_now : List GuardState) (old new : SeatState) → HasWatched kept guards old guards_now new → R old new
  rounds_do kept guards guards_now old new (NoRound gs seat) = nothing seat
  rounds_do kept guards guards_now old new (OneRound gs between gs_now seat before last now watched round) =
      behind old before new (rounds_do kept guards between old before watched)
      (behind before round.between new (looks before round.between round.saw) (stepped_does kept now round.wishing guards_now round.between new round.steps))
  rounds_do kept guards guards_now old new (Misses gs between gs_now seat before last watched missed) =
      behind old before new (rounds_do kept guards between old before watched) (looks before new missed.saw)

  watched_does : (kept : Option ℕ) (watching watching_now : Option WatchdogLoop) (old new : SeatState) → IsWatchedBy kept watching watching_now old new → R old new
  watched_does kept None watching_now old new same = subst (λ seat. R old seat) (sym same) (nothing old)
  watched_does kept (Some watching) watching_now old new watched = rounds_do kept (guards_in watching) (guards_at watching_now) old new watched

-- the seat stays the hall's
pub watched_ours : (kept : Option ℕ) (watching watching_now : Option WatchdogLoop) (hall : HallState) (old new : SeatState)
    → IsWatchedBy kept watching watching_now old new → IsOf hall old → IsOf hall new
watched_ours kept watching watching_now hall old new watched =
    watched_does (λ a b. IsOf hall a → IsOf hall b) (λ a ours. ours) (λ a b c p q ours. q (p ours)) (λ a b looked ours. looked_ours hall a b ours looked)
    (λ a b call result carried ours. met_ours hall a b call result ours carried) kept watching watching_now old new watched

-- and goes on from what it had seen
pub watched_begins : (kept : Option ℕ) (watching watching_now : Option WatchdogLoop) (old new : SeatState)
    → IsWatchedBy kept watching watching_now old new → IsOlder old.seen new.seen
watched_begins kept watching watching_now old new watched =
    watched_does (λ a b. IsOlder a.seen b.seen) (λ a. record { newer = []; is = refl }) (λ a b c p q. older_on a.seen b.seen c.seen p q) (λ a b looked. looked.begins)
    (λ a b call result carried. (has_met a b (call ∷ []) (result ∷ []) (Then a b b call result [] [] carried (Ends b))).begins) kept watching watching_now old new watched
