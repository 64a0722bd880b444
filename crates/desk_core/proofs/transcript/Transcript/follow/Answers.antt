use Rattle.std.proofs.Common.{◌≡◌, ◌+◌, ◌++◌, length, take, drop, ap, sym, ◌∙◌, subst, arith}
use Rattle.std.proofs.lemmas.Grind.{common_steps}
use Rattle.desk_core.specs.Transcript.{TranscriptState, IsCopy, IsCopyWithin}
use Rattle.tail.specs.Tail.{forgotten}
use Rattle.desk_core.proofs.TranscriptLemmas.{copied_on}
use Rattle.desk_core.proofs.transcript.Transcript.follow.Goals as goal

pub returns-clause-copy : goal.returns-clause-copy
returns-clause-copy g c =
    let changes = c.args.changes.now.items in
    let was = c.args.self.now in
    let copy = c.make_room.new.self in
    let made = c.make_room.ensures in
    let within : IsCopyWithin copy changes = record {
      few = omega (arith, c.requires.copy.few, made.count);
      copies = subst (IsCopy copy) (ap (λ n. take n changes) (sym made.count)) (made.copy (take (was.gone + length was.held) changes) c.requires.copy.copies);
    } in
    let place : c.len.result ≡ copy.gone + length copy.held = c.len.ensures.count ∙ sym made.count in
    let held : c.put_all.new.held.items ≡ copy.held ++ drop (copy.gone + length copy.held) changes =
    c.put_all.ensures.items ∙ ap (λ (view : TranscriptState). view.held ++ c.in-Some.rest.now) c.self.view_is
    ∙ ap (λ rest. copy.held ++ rest) (c.in-Some.ensures.items ∙ ap (λ n. drop n changes) place) in
    let on = copied_on copy changes c.put_all.new.held.items within held in
    record {
      rest = on.0 ∙ ap (λ (view : TranscriptState). drop view.gone changes) (sym c.self.view_is);
      last = omega (arith, on.1, ap (λ (view : TranscriptState). view.gone) c.self.view_is, ap (λ (view : TranscriptState). forgotten view.kept (length changes)) c.self.view_is);
    }

pub make_room-requires : goal.make_room-requires
make_room-requires g c = grind (arith, common_steps)

pub put_all-requires : goal.put_all-requires
put_all-requires g c = grind (arith, common_steps)

pub returns-in_err-make_room-clause-left : goal.returns-in_err-make_room-clause-left
returns-in_err-make_room-clause-left g c = grind (arith, common_steps)
