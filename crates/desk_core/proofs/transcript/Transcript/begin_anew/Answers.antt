use Rattle.std.proofs.Common.{◌≡◌, ◌++◌, length, ap, ◌∙◌, arith, length-drop}
use Rattle.tail.specs.Tail.{forgotten, kept_of}
use Rattle.desk_core.proofs.TranscriptLemmas.{forgotten_within, room_anew}
use Rattle.desk_core.proofs.transcript.Transcript.begin_anew.Goals as goal

pub invariant_of-self-2 : goal.invariant_of-self-2
invariant_of-self-2 g c =
    let changes = c.args.changes.now.items in
    let gone = forgotten c.args.changes.now.keep (length changes) in
    let held : c.put_all.new.held.items ≡ c.kept-kept.result.now = c.put_all.ensures.items ∙ ap (λ front. front ++ c.kept-kept.result.now) c.clear.ensures.items in (
      omega (arith, ap length held, ap length c.kept-kept.ensures, length-drop gone changes, c.forgotten-self-inside.ensures, forgotten_within c.args.changes.now.keep (length changes), c.requires.few),
      room_anew g.K.Keep.kept changes _ _ c.self.invariant.1
          (omega (arith, c.put_all.ensures.capacity, c.clear.ensures.capacity, c.fit.ensures.exact, ap length c.kept-kept.ensures, ap (λ kept. length (kept_of kept changes)) c.requires.kept)),
    )
