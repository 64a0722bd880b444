use Rattle.std.proofs.Common.{◌<◌, ◌≤◌, [], ◌∷◌, ◌++◌, length, refl, sym, ap, subst, ◌∙◌}
use Rattle.std.proofs.lemmas.Bool.{false≢true}
use Rattle.std.proofs.Math.Nat.{le_refl}
use Rattle.tail.specs.Tail.{TailState}
use Rattle.desk_core.specs.Desk.{State, IsDesk}
use Rattle.desk_core.specs.Left.{Holds, StandsIf, left_of}
use Rattle.desk_core.specs.Marks.{HasMarks, IsRuleFor}
use Rattle.desk_core.specs.Latest.{AreLatest}
use Rattle.desk_core.proofs.LatestLemmas.{latest_more}
use Rattle.desk_core.proofs.LeftLemmas.{holds_all, holds_on, spared, stored, refused}
use Rattle.desk_core.proofs.MarkLemmas.{marks_more}
use Rattle.desk_core.specs.Mutation.{entry_of}
use Rattle.desk_core.specs.Changes.{changes_of}
use Rattle.desk_core.specs.Past.{past}
use Rattle.desk_core.specs.Reply.{reply_to}
use Rattle.desk_core.proofs.DeskLemmas.{has_answered, shows_newest, out_of_memory, not_stored, is_desk_changed, is_desk_room, takes_out}
use Rattle.desk_core.proofs.KeptLemmas.{room_left}
use Rattle.desk_core.proofs.LimitLemmas.{has_all_places, has_lists, holds_memory, holds_itself, causes_differ, grown_since, placed_since, place_of_last, few_below, few_still}
use Rattle.desk_core.proofs.desk.Desk.change.Given.{Over}
use Rattle.desk_core.proofs.desk.Desk.change.Goals as goal

pub returns-in-Some-clause-answered : goal.returns-in-Some-clause-answered
returns-in-Some-clause-answered g c = c.in-Some.ensures.some c.args.seat

pub returns-in_default-reserve-clause-answered : goal.returns-in_default-reserve-clause-answered
returns-in_default-reserve-clause-answered g c =
    let journal = ap (λ (s : State). s.journal) c.self.view_is in
    let holds = subst (λ (s : State). Holds s.left s.journal) c.self.view_is
    c.self.invariant.6 in
    out_of_memory _ _ c.args.seat c.args.call _ journal (ap (λ (s : State). s.max_entries) c.self.view_is) c.in_default.ensures.none c.reply_to-reply.ensures
    (spared _ _ _ _ (ap (λ (s : State). s.left) c.self.view_is) (ap (λ (s : State). s.is_stored) c.self.view_is) journal holds causes_differ)

pub invariant_of-self-in_default-reserve-2 : goal.invariant_of-self-in_default-reserve-2
invariant_of-self-in_default-reserve-2 g c =
    let journal = c.reserve-2.ensures.journal in (
      is_desk_room _ _ _ _ _ _ _ _ _ _ _ _ c.self.invariant.0 c.reserve.ensures.same journal c.reserve-2.ensures.changes
          (ap (λ cache. cache.statuses) c.reserve-2.ensures.cache) (ap (λ cache. cache.dependents) c.reserve-2.ensures.cache),
      c.reserve-2.ensures.kept.0 ∙ c.self.invariant.1,
      c.reserve-2.ensures.kept.1 ∙ c.self.invariant.2,
      subst (λ js. HasMarks (past js) c.self.inside.marks.shut c.self.inside.marks.slots) (sym journal) c.self.invariant.3,
      subst (λ js. AreLatest (past js) c.self.inside.latest.slots) (sym journal) c.self.invariant.4,
      subst (λ js. StandsIf g.K.Keep.stands c.self.inside.store js) (sym journal) c.self.invariant.5,
      subst (λ js. Holds (left_of g.K.Keep.left c.self.inside.store) js) (sym journal) c.self.invariant.6,
    )

pub returns-in_default-reserve-2-clause-answered : goal.returns-in_default-reserve-2-clause-answered
returns-in_default-reserve-2-clause-answered g c =
    let journal = c.reserve-2.ensures.journal ∙ ap (λ (s : State). s.journal) c.self.view_is in
    let holds = subst (λ (s : State). Holds s.left s.journal) c.self.view_is
    c.self.invariant.6 in
    out_of_memory _ _ c.args.seat c.args.call _ journal (ap (λ (s : State). s.max_entries) c.self.view_is) c.in_default.ensures.none c.reply_to-reply.ensures
    (spared _ _ _ _ (ap (λ (s : State). s.left) c.self.view_is) (ap (λ (s : State). s.is_stored) c.self.view_is) journal holds causes_differ)

pub invariant_of-self-in_default-store_entry : goal.invariant_of-self-in_default-store_entry
invariant_of-self-in_default-store_entry g c =
    let journal = c.reserve-2.ensures.journal in (
      is_desk_room _ _ _ _ _ _ _ _ _ _ _ _ c.self.invariant.0 c.reserve.ensures.same journal c.reserve-2.ensures.changes
          (ap (λ cache. cache.statuses) c.reserve-2.ensures.cache) (ap (λ cache. cache.dependents) c.reserve-2.ensures.cache),
      c.reserve-2.ensures.kept.0 ∙ c.self.invariant.1,
      c.reserve-2.ensures.kept.1 ∙ c.self.invariant.2,
      subst (λ js. HasMarks (past js) c.self.inside.marks.shut c.self.inside.marks.slots) (sym journal) c.self.invariant.3,
      subst (λ js. AreLatest (past js) c.self.inside.latest.slots) (sym journal) c.self.invariant.4,
      subst (λ js. StandsIf g.K.Keep.stands c.store_entry.new.store js) (sym journal)
          (c.in_default-store_entry.ensures.refused c.self.inside.history.journal.items c.self.invariant.5),
      subst (λ js. Holds (left_of g.K.Keep.left c.store_entry.new.store) js) (sym journal)
          (holds_on _ _ c.self.inside.history.journal.items _ c.self.invariant.6 (c.store_entry.ensures.crash c.self.inside.history.journal.items c.self.invariant.5)),
    )

pub returns-in_default-store_entry-clause-answered : goal.returns-in_default-store_entry-clause-answered
returns-in_default-store_entry-clause-answered g c =
    let was = ap (λ (s : State). s.journal) c.self.view_is in
    let journal = c.reserve-2.ensures.journal ∙ was in
    let entry = entry_of c.args.seat c.args.call c.reply_to-reply.result in
    let inside = c.self.inside.history.journal.items in
    not_stored _ _ c.args.seat c.args.call _ journal (ap (λ (s : State). s.max_entries) c.self.view_is) c.in_default.ensures.none c.reply_to-reply.ensures
    (refused g.K.Keep.left c.self.inside.store c.store_entry.new.store _ _ entry
    (sym (ap (λ (s : State). s.left) c.self.view_is)) refl (sym (ap (λ (s : State). s.is_stored) c.self.view_is)) refl c.store_entry.ensures.same
    inside was (c.store_entry.ensures.crash inside c.self.invariant.5)
    journal c.self.invariant.6
    (λ none. absurd (false≢true (c.in_default-store_entry.ensures.none none))))

pub show-shows-requires-clause-few : goal.show-shows-requires-clause-few
show-shows-requires-clause-few g c =
    room_left _ _ _ _ c.self.invariant.0.told (ap (λ (t : TailState _). t.items) c.append-at.ensures.changes ∙ c.reserve-2.ensures.changes)
    c.self.invariant.0.parts.room c.self.invariant.0.parts.limit

-- the parts behind the change
desk_now : (g : Over) (c : goal.After-note-2 g)
    → IsDesk c.apply-old.new.self.places.items c.shut_after-self-inside.result c.show-shows.new.self.journal.items c.show-shows.new.self.changes.items
    c.show-shows.new.self.cache.statuses c.show-shows.new.self.cache.dependents c.self.inside.max_entries
desk_now g c =
    let room = subst (λ state. length state.journal < state.max_entries) (sym c.self.view_is) c.in_default.ensures.none.1 in
    let entry = entry_of c.args.seat c.args.call c.reply_to-reply.result in
    let cache = c.append-at.ensures.cache ∙ c.reserve-2.ensures.cache in
    is_desk_changed _ _ _ _ _ _ _ _ _ _ _ _ _ _ _ _ _ _ _ _ c.args.call c.reply_to-reply.result c.self.invariant.0 c.reserve.ensures.same room c.in_default.ensures.none.0
    (c.reply_to-reply.ensures ∙ ap (λ state. reply_to (past state.journal) c.args.call) (sym c.self.view_is))
    (c.append-at.ensures.journal ∙ ap (λ js. js ++ entry ∷ []) c.reserve-2.ensures.journal) c.show-shows.ensures.journal
    (c.append-at.ensures.place ∙ ap length c.reserve-2.ensures.journal) (ap (λ (t : TailState _). t.items) c.append-at.ensures.changes ∙ c.reserve-2.ensures.changes)
    (ap (λ cache. cache.statuses) cache) (ap (λ cache. cache.dependents) cache)
    c.apply-old.ensures.applied c.shut_after-self-inside.ensures c.show-shows.ensures.dependents c.show-shows.ensures.statuses c.show-shows.ensures.changes

pub invariant_of-self-2 : goal.invariant_of-self-2
invariant_of-self-2 g c =
    let room : length c.self.inside.history.journal.items < c.self.inside.max_entries = subst (λ state. length state.journal < state.max_entries) (sym c.self.view_is) c.in_default.ensures.none.1 in
    let entry = entry_of c.args.seat c.args.call c.reply_to-reply.result in
    let grown = c.append-at.ensures.journal ∙ ap (λ js. js ++ entry ∷ []) c.reserve-2.ensures.journal in
    let at = c.append-at.ensures.place ∙ ap length c.reserve-2.ensures.journal in
    let cache = c.append-at.ensures.cache ∙ c.reserve-2.ensures.cache in
    let reply = c.reply_to-reply.ensures ∙ ap (λ state. reply_to (past state.journal) c.args.call) (sym c.self.view_is) in
    let desk = desk_now g c in (
      desk,
      c.show-shows.ensures.kept.0 ∙ (c.append-at.ensures.kept ∙ c.reserve-2.ensures.kept.0 ∙ c.self.invariant.1),
      c.show-shows.ensures.kept.1 ∙ (ap (λ (t : TailState _). t.keep) c.append-at.ensures.changes ∙ c.reserve-2.ensures.kept.1 ∙ c.self.invariant.2),
      marks_more c.args.seat c.append-at.result c.args.call c.reply_to-reply.result c.rule_for-rule.result c.self.inside.history.journal.items
          c.show-shows.new.self.journal.items c.self.inside.marks.shut c.note.new.self.shut c.self.inside.marks.slots c.note.new.self.slots
          at (few_below _ _ room c.self.invariant.0.parts.limit)
          (subst (λ state. IsRuleFor (past state.journal) c.args.call c.rule_for-rule.result) (sym c.self.view_is) c.rule_for-rule.ensures)
          reply (c.show-shows.ensures.journal ∙ grown) c.note.ensures.shut c.note.ensures.slots c.self.invariant.3,
      latest_more c.args.seat c.append-at.result _ _ c.args.call c.reply_to-reply.result c.self.inside.history.journal.items c.show-shows.new.self.journal.items _ _
          at (c.show-shows.ensures.journal ∙ grown)
          (c.statuses-before.ensures ∙ ap (λ cache. cache.statuses) cache ∙ c.self.invariant.0.cached) (c.statuses.ensures ∙ desk.cached)
          c.note-2.ensures c.self.invariant.4,
      subst (λ js. StandsIf g.K.Keep.stands c.store_entry.new.store js) (sym (c.show-shows.ensures.journal ∙ grown))
          (c.in-Ok-store_entry.ensures.stored c.self.inside.history.journal.items c.self.invariant.5),
      subst (λ js. Holds (left_of g.K.Keep.left c.store_entry.new.store) js) (sym (c.show-shows.ensures.journal ∙ grown))
          (holds_all _ (left_of g.K.Keep.left c.store_entry.new.store) c.self.inside.history.journal.items _ c.self.invariant.6
          (c.store_entry.ensures.crash c.self.inside.history.journal.items c.self.invariant.5)
          (c.in-Ok-store_entry.ensures.durable c.self.inside.history.journal.items c.self.invariant.5)),
    )

pub returns-clause-answered : goal.returns-clause-answered
returns-clause-answered g c =
    let was = ap (λ (s : State). s.journal) c.self.view_is in
    let entry = entry_of c.args.seat c.args.call c.reply_to-reply.result in
    let inside = c.self.inside.history.journal.items in
    let grown = c.show-shows.ensures.journal ∙ c.append-at.ensures.journal ∙ ap (λ js. js ++ entry ∷ []) (c.reserve-2.ensures.journal ∙ was) in
    has_answered _ _ c.args.seat c.args.call _ c.in_default.ensures.none.0 c.in_default.ensures.none.1 c.reply_to-reply.ensures
    grown (ap (λ state. state.max_entries) c.self.view_is)
    (stored g.K.Keep.left c.self.inside.store c.store_entry.new.store _ _ entry
    (sym (ap (λ (s : State). s.left) c.self.view_is)) refl (sym (ap (λ (s : State). s.is_stored) c.self.view_is)) refl c.store_entry.ensures.same
    inside was (c.store_entry.ensures.crash inside c.self.invariant.5)
    c.reply_to-reply.result grown c.self.invariant.6 (c.in-Ok-store_entry.ensures.durable inside c.self.invariant.5))

pub returns-clause-shows : goal.returns-clause-shows
returns-clause-shows g c =
    shows_newest _ _ _ _ _ _ (c.show-shows.ensures.journal ∙ c.append-at.ensures.journal)
    (ap (λ (t : TailState _). t.items) c.append-at.ensures.changes ∙ c.reserve-2.ensures.changes ∙ c.self.invariant.0.told ∙ ap (λ js. changes_of (past js)) (sym c.reserve-2.ensures.journal)) (desk_now g c).told
    c.show-shows.ensures.shows

pub returns-clause-old : goal.returns-clause-old
returns-clause-old g c =
    c.apply-old.ensures.old ∙ takes_out _ _ _ _ _ _ c.args.call c.reserve.ensures.same c.self.invariant.0.parts (ap (λ (s : State). s.journal) c.self.view_is) c.apply-old.ensures.from

pub returns-in-Some-clause-full : goal.returns-in-Some-clause-full
returns-in-Some-clause-full g c limit = c.in-Some.ensures.other.0

pub returns-in-Some-clause-holds : goal.returns-in-Some-clause-holds
returns-in-Some-clause-holds g c = holds_itself c.args.self.now

pub invariant_of-self : goal.invariant_of-self
invariant_of-self g c = (
  is_desk_room _ _ _ _ _ _ _ _ _ _ _ _ c.self.invariant.0 c.reserve.ensures.same refl refl refl refl,
  c.self.invariant.1,
  c.self.invariant.2,
  c.self.invariant.3,
  c.self.invariant.4,
  c.self.invariant.5,
  c.self.invariant.6,
)

pub returns-in_default-reserve-clause-full : goal.returns-in_default-reserve-clause-full
returns-in_default-reserve-clause-full g c limit =
    absurd (false≢true (c.in_default-reserve.ensures.full (has_all_places _ _ _ (ap (λ (s : State). s.places) c.self.view_is) limit)))

pub returns-in_default-reserve-clause-holds : goal.returns-in_default-reserve-clause-holds
returns-in_default-reserve-clause-holds g c = holds_memory _ _ _ c.self.view_is (le_refl _) (le_refl _) c.reserve.ensures.grows

pub returns-in_default-reserve-2-clause-full : goal.returns-in_default-reserve-2-clause-full
returns-in_default-reserve-2-clause-full g c limit =
    has_lists _ _ limit (λ most kept entries changes.
    absurd (false≢true (c.in_default-reserve-2.ensures.full most (c.self.invariant.1 ∙ kept) (c.self.invariant.2 ∙ kept)
    (ap (λ (s : State). s.capacity.entries) c.self.view_is ∙ entries) (ap (λ (s : State). s.capacity.changes) c.self.view_is ∙ changes))))

pub returns-in_default-reserve-2-clause-holds : goal.returns-in_default-reserve-2-clause-holds
returns-in_default-reserve-2-clause-holds g c =
    holds_memory _ _ _ c.self.view_is c.reserve-2.ensures.grows.0 c.reserve-2.ensures.grows.1 c.reserve.ensures.grows

pub returns-in_default-store_entry-clause-full : goal.returns-in_default-store_entry-clause-full
returns-in_default-store_entry-clause-full g c limit is = causes_differ (sym is)

pub returns-in_default-store_entry-clause-holds : goal.returns-in_default-store_entry-clause-holds
returns-in_default-store_entry-clause-holds g c =
    holds_memory _ _ _ c.self.view_is c.reserve-2.ensures.grows.0 c.reserve-2.ensures.grows.1 c.reserve.ensures.grows

pub append-at-requires-clause-room : goal.append-at-requires-clause-room
append-at-requires-clause-room g c = c.in-Ok-reserve.ensures.room.0

pub append-at-requires-clause-few : goal.append-at-requires-clause-few
append-at-requires-clause-few g c =
    few_still _ _ _ _ _ (ap length c.reserve-2.ensures.journal) (ap (λ (s : State). length s.journal) c.self.view_is)
    (ap (λ (s : State). s.max_entries) c.self.view_is) c.in_default.ensures.none.1 c.self.invariant.0.parts.limit

pub apply-old-requires-clause-room : goal.apply-old-requires-clause-room
apply-old-requires-clause-room g c = c.in-Ok.ensures.room

pub apply-old-requires-clause-ruled : goal.apply-old-requires-clause-ruled
apply-old-requires-clause-ruled g c = c.requires.ruled

pub show-shows-requires-clause-room : goal.show-shows-requires-clause-room
show-shows-requires-clause-room g c = subst (λ (t : TailState _). 16 ≤ t.room) (sym c.append-at.ensures.changes) c.in-Ok-reserve.ensures.room.1

pub returns-clause-placed : goal.returns-clause-placed
returns-clause-placed g c = (
  placed_since _ _ c.in-Ok.ensures.room c.apply-old.ensures.places,
  place_of_last c.reserve-2.new.self.journal.items c.show-shows.new.self.journal.items _ c.append-at.result (c.show-shows.ensures.journal ∙ c.append-at.ensures.journal)
      c.append-at.ensures.place,
)

pub returns-clause-holds : goal.returns-clause-holds
returns-clause-holds g c =
    holds_memory _ _ _ c.self.view_is (grown_since _ _ _ _ c.reserve-2.ensures.grows.0 c.append-at.ensures.capacity c.show-shows.ensures.capacity.0)
    (grown_since _ _ _ _ c.reserve-2.ensures.grows.1 (ap (λ (t : TailState _). t.capacity) c.append-at.ensures.changes) c.show-shows.ensures.capacity.1)
    (grown_since _ _ _ _ c.reserve.ensures.grows c.apply-old.ensures.places refl)
