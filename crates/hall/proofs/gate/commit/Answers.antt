use Rattle.std.proofs.Common.{◌≡◌, ◌<◌, ◌∷◌, length, sym, refl, ap, subst, arith, ℕ}
use Rattle.std.proofs.lemmas.List.{length-reverse}
use Rattle.atomic_table.specs.Table.{Allows}
use Rattle.desk_core.specs.declared.entry.Entry.{Entry}
use Rattle.desk_core.specs.Board.{board_of}
use Rattle.desk_core.specs.Legal.{IsLegal}
use Rattle.desk_core.specs.Past.{past}
use Rattle.hall.specs.Gates.{IsGated}
use Rattle.hall.specs.Steps.{Seated, Committed, seen_in}
use Rattle.hall.specs.declared.view.HallLimits.{HallLimits}
use Rattle.hall.proofs.Commits.{commits}
use Rattle.hall.proofs.gate.commit.Goals as goal

-- a value may be stored that is the board of the history with the entry in front
stored : (key : HallLimits) (slots id : ℕ) (me held : Seated) (made entry : Entry) (board value : ℕ) → made ≡ entry → me ≡ held → value ≡ board
    → Allows (IsGated key) slots id held 0 (λ found. board) (λ found. Committed entry held board)
    → Allows (IsGated key) slots id me 0 (λ found. value) (λ found. Committed made me value)
stored key slots id me held made entry board value making holding is step =
    let F : Seated → ℕ → Entry → Type 0 = λ me value made. Allows (IsGated key) slots id me 0 (λ found. value) (λ found. Committed made me value) in
    subst (F me value) (sym making) (subst (λ value. F me value entry) (sym is) (subst (λ me. F me board entry) (sym holding) step))

pub store-requires : goal.store-requires
store-requires g c =
    let shared = c.args.shared.now in
    let place = c.args.place.now in
    let desk = c.args.desk.now in
    let entry = c.args.entry in
    let history = seen_in place.me in
    let whole : past desk.journal ≡ entry ∷ history = c.requires.made in
    let legal : IsLegal (entry ∷ history) = subst IsLegal whole c.board.ensures.legal in
    let room : length history < desk.max_entries = omega (arith, c.board.ensures.room, ap length whole, length-reverse desk.journal) in
    let step = commits shared.key shared.table_id.slots place.id entry.seat desk.max_entries c.requires.desk.0 history entry refl legal.1 legal.2 room in (
      c.requires.table.1,
      omega (arith, c.requires.table.0),
      stored shared.key shared.table_id.slots place.id place.me _ _ entry _ _ c.requires.entry c.requires.desk.1
          (omega (arith, c.board.ensures.word, ap board_of whole)) step,
    )
