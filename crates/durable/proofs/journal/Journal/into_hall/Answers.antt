use Rattle.std.proofs.Common.{◌∙◌, ap, length, max, refl, subst, sym}
use Rattle.std.specs.List.{slice_index_or}
use Rattle.desk_core.specs.Past.{past}
use Rattle.hall.specs.Seats.{new_seats}
use Rattle.server.specs.Again.{changes_of, replies_of}
use Rattle.server.specs.Setup.{AreSetUp, SetUpState}
use Rattle.durable.specs.Journal.{JournalState}
use Rattle.durable.proofs.JournalLemmas.{first_has_seen, has_them}
use Rattle.durable.proofs.journal.Journal.into_hall.Goals as goal

pub stored_in-requires : goal.stored_in-requires
stored_in-requires g c =
    let again = c.in_ok-again.again in
    let known = c.in_ok-again.ensures in
    let entries = c.self.inside.entries.items in
    record {
      has = has_them again again.hall.most c.args.seats entries entries refl c.self.invariant.seats refl known.hall.2 known.seats known.replies _ _ c.self.inside.store c.requires.some
          c.self.invariant.stands c.self.invariant.holds;
    }

pub returns-clause-seen : goal.returns-clause-seen
returns-clause-seen g c = λ other.
    let again = c.in_ok-again.again in
    let known = c.in_ok-again.ensures in
    let entries = c.self.inside.entries.items in
    ap (λ (made : SetUpState). (slice_index_or made.seats 0 other).seen) c.in_ok-made.ensures.same
    ∙ (first_has_seen again again.hall.most c.args.seats entries entries refl c.self.invariant.seats refl known.hall.2 known.seats known.replies c.in_ok-made.ensures.seen other
    ∙ ap (λ (journal : JournalState). past journal.entries) c.self.view_is)

pub returns-clause-hall : goal.returns-clause-hall
returns-clause-hall g c =
    let same = c.in_ok-made.ensures.same in
    let known = c.in_ok-again.ensures.hall in (
      ap (λ (made : SetUpState). made.hall.names) same ∙ (known.0 ∙ ap (λ (journal : JournalState). journal.names) c.self.view_is),
      ap (λ (made : SetUpState). made.hall.most) same
          ∙ (known.1 ∙ ap (λ (journal : JournalState). max c.args.max_entries (length journal.entries)) c.self.view_is),
      ap (λ (made : SetUpState). made.hall.seats) same ∙ known.2,
    )

pub returns-clause-seats : goal.returns-clause-seats
returns-clause-seats g c =
    let again = c.in_ok-again.again in
    subst (λ (made : SetUpState). AreSetUp (changes_of c.args.self.entries) made.results (new_seats made.hall.table made.hall.most c.args.seats) made.seats) (sym c.in_ok-made.ensures.same)
    (subst (λ (journal : JournalState). AreSetUp (changes_of journal.entries) again.results (new_seats again.hall.table again.hall.most c.args.seats) again.seats) c.self.view_is
    c.in_ok-again.ensures.seats)

pub returns-clause-replies : goal.returns-clause-replies
returns-clause-replies g c =
    ap (λ (made : SetUpState). made.results) c.in_ok-made.ensures.same
    ∙ (c.in_ok-again.ensures.replies ∙ ap (λ (journal : JournalState). replies_of journal.entries) c.self.view_is)
