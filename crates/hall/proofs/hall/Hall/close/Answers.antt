use Rattle.std.proofs.Common.{◌≡◌, ◌<◌, ℕ, Bool, false, List, get_or, set, length, map, ap, refl, sym, subst, arith, ◌∙◌}
use Rattle.std.specs.Prelude.{Option, IsSome, unwrap_or}
use Rattle.std.proofs.lemmas.List.{get_or-set_same, length-map, length-reverse}
use Rattle.desk_core.specs.Desk.{State}
use Rattle.desk_core.specs.Legal.{IsLegal}
use Rattle.desk_core.specs.Past.{past}
use Rattle.hall.specs.Seats.{HallState, held_of}
use Rattle.hall.specs.Steps.{AllBegin}
use Rattle.hall.specs.Views.{made_by}
use Rattle.hall.proofs.Ends.{IsWhole, found_desk}
use Rattle.hall.proofs.Gathered.{end_in, made_in}
use Rattle.hall.proofs.StoreLemmas.{nothing_taken}
use Rattle.std.specs.Slots.{slots_len, slots_filled, slots_counts}
use Rattle.atomic_table.specs.Seated.{TableId}
use Rattle.hall.proofs.hall.Hall.close.Goals as goal

pub unwrap-desk-requires : goal.unwrap-desk-requires
unwrap-desk-requires g c =
    let key = c.into_parts-table.result.0.shared.key in
    let place = c.gather-place.result in
    let final = c.close_with-closed.ensures.values.2 in
    let all : length place.me.0.seats ≡ key.seats =
    omega (arith, ap length c.gather-place.ensures.seats, length-map c.args.seats.items held_of, c.len.ensures, c.if-len-self.false, c.into_parts-table.ensures.seats, ap (λ (h : HallState). h.seats) c.self.view_is) in
    let found = found_desk key final.0 place.id place.me.0 _ c.take-slot.result final.1 c.gather-place.ensures.idle.0 all final.4 c.take-slot.ensures.value in
    subst IsSome (sym found.1) refl

-- the desk that was taken out of the slot is that of the whole hall
closing : (g : _) (c : goal.After-is_stored-is_stored g)
    → (whole : IsWhole c.into_parts-table.result.0.shared.key.most c.close_with-closed.ensures.values.2.0 c.gather-place.result.me.0.seats) × (c.unwrap-desk.result ≡ whole.desk)
closing g c =
    let key = c.into_parts-table.result.0.shared.key in
    let place = c.gather-place.result in
    let final = c.close_with-closed.ensures.values.2 in
    let all : length place.me.0.seats ≡ key.seats =
    omega (arith, ap length c.gather-place.ensures.seats, length-map c.args.seats.items held_of, c.len.ensures, c.if-len-self.false, c.into_parts-table.ensures.seats, ap (λ (h : HallState). h.seats) c.self.view_is) in
    let found = found_desk key final.0 place.id place.me.0 _ c.take-slot.result final.1 c.gather-place.ensures.idle.0 all final.4 c.take-slot.ensures.value in
    (found.0, ap (λ (d : Option State). unwrap_or d c.unwrap-desk.result) (sym c.unwrap-desk.ensures ∙ found.1))

pub returns-clause-kept : goal.returns-clause-kept
returns-clause-kept g c =
    let done = closing g c in (
      c.into_parts-table.ensures.names,
      ap (λ (d : State). d.max_entries) done.1 ∙ (done.0.limit ∙ c.into_parts-table.ensures.most),
    )

pub returns-clause-legal : goal.returns-clause-legal
returns-clause-legal g c =
    let done = closing g c in
    subst (λ (d : State). IsLegal (past d.journal)) (sym done.1) done.0.legal

pub returns-clause-seats : goal.returns-clause-seats
returns-clause-seats g c =
    let done = closing g c in
    let begin : AllBegin (past c.unwrap-desk.result.journal) (map held_of c.args.seats.items) =
    subst (λ (d : State). AllBegin (past d.journal) (map held_of c.args.seats.items)) (sym done.1) (subst (AllBegin (past done.0.desk.journal)) c.gather-place.ensures.seats done.0.begin) in
    end_in (past c.unwrap-desk.result.journal) c.args.seats.items begin

pub returns-clause-counted : goal.returns-clause-counted
returns-clause-counted g c =
    let done = closing g c in
    omega (
      arith,
      ap (λ (d : State). length d.journal) done.1,
      length-reverse done.0.desk.journal,
      done.0.counted,
      ap made_by c.gather-place.ensures.seats,
      made_in c.args.seats.items,
    )

pub returns-clause-taken_back : goal.returns-clause-taken_back
returns-clause-taken_back g c = nothing_taken c.unwrap-desk.result c.args.seats.items c.is_stored-is_stored.ensures.kept (returns-clause-seats g c)

-- a hall has one slot
one_slot : (many : ℕ) (table parted inside : TableId) → many ≡ parted.slots → parted ≡ table → inside ≡ table → inside.slots ≡ 1 → many ≡ 1
one_slot many table parted inside counted parts view one = counted ∙ (ap (λ t. t.slots) parts ∙ (sym (ap (λ t. t.slots) view) ∙ one))

-- one that was emptied holds nothing
all_empty : (before after : List Bool) (many many' : ℕ) → many ≡ length before → many ≡ 1 → after ≡ set before 0 false → many' ≡ many → (k : ℕ) → k < many' → get_or after k false ≡ false
all_empty before after many many' long one emptied same k below =
    let first : k ≡ 0 = omega arith in
    ap (λ f. get_or f k false) emptied ∙ (ap (λ n. get_or (set before 0 false) n false) first ∙ get_or-set_same before 0 false false (omega arith))

pub take-slot-requires : goal.take-slot-requires
take-slot-requires g c =
    let values = c.close_with-closed.ensures.values in
    let one =
    one_slot _ c.args.self.table c.into_parts-table.result.0.shared.table_id _ c.close_with-closed.ensures.counts.1 c.into_parts-table.ensures.table (ap (λ (h : HallState). h.table) c.self.view_is) c.self.invariant.0.1 in
    (subst (λ n. 0 < n) (sym one) (omega arith), values.1 0 (omega arith) (omega (arith, one)))

pub free-requires : goal.free-requires
free-requires g c =
    let others = c.take-slot.ensures.others in
    let slots = c.close_with-closed.result.slots in
    all_empty (slots_filled slots) (slots_filled c.take-slot.new.self.slots) (slots_len slots) (slots_len c.take-slot.new.self.slots) (slots_counts slots).1
    (one_slot _ c.args.self.table c.into_parts-table.result.0.shared.table_id _ c.close_with-closed.ensures.counts.1 c.into_parts-table.ensures.table (ap (λ (h : HallState). h.table) c.self.view_is) c.self.invariant.0.1) others.1 others.2

pub returns-clause-closed : goal.returns-clause-closed
returns-clause-closed g c =
    sym c.args.seats.ok.0 ∙ (sym c.len.ensures ∙ (c.if-len-self.false ∙ ap (λ (h : HallState). h.seats) c.self.view_is))
