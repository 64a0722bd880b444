use Rattle.std.proofs.Common.{refl, ap, subst, sym}
use Rattle.desk_core.specs.Changes.{changes_of}
use Rattle.desk_core.specs.Past.{past}
use Rattle.desk_core.specs.Transcript.{IsCopyWithin}
use Rattle.desk_core.proofs.TranscriptLemmas.{within_grows}
use Rattle.hall.specs.Seats.{SeatState}
use Rattle.hall.specs.Steps.{seen_in}
use Rattle.hall.proofs.Taken.{may_leave}
use Rattle.hall.proofs.hall.Hall.copy_to.Goals as goal

pub copy_to-copied-requires : goal.copy_to-copied-requires
copy_to-copied-requires g c =
    within_grows (seen_in c.seat.inside.place.me) (past c.enter-desk.result.journal) c.enter-desk.ensures.follows.begins
    (subst (λ entries. IsCopyWithin c.args.copy.now (changes_of entries)) (sym (ap (λ (seat : SeatState). seat.seen) c.seat.view_is)) c.requires.copy)

pub leave-requires-clause-desk : goal.leave-requires-clause-desk
leave-requires-clause-desk g c =
    may_leave c.seat.inside.place.me c.enter-desk.new.place.me c.seat.inside.number c.seat.inside.made c.enter-desk.result c.enter-desk.result
    (record { seat = c.seat.invariant; limit = c.enter-desk.ensures.limit; has = c.enter-desk.ensures.desk; follows = c.enter-desk.ensures.follows }) (record { limit = refl; history = refl })
