use Rattle.std.proofs.Common.{◌≡◌, ◌∙◌, true, false, refl, subst, sym, [], ◌∷◌, arith}
use Rattle.desk_core.specs.Changes.{changes_of}
use Rattle.web_call.specs.Past.{StandsAt, with_asked}
use Rattle.web_call.specs.Answer.{Source}
use Rattle.web_call.proofs.CallLemmas.{left_behind, looked, rests_past}
use Rattle.web_call.proofs.call.Call.look.Goals as goal

told_nothing : false ≡ true → ⊥
told_nothing e = absurd (grind (arith, e))

pub returns-in-Ok-clause-looked : goal.returns-in-Ok-clause-looked
returns-in-Ok-clause-looked g c = λ past stands.
    let source : Source = record { names = g.D.Door.names c.args.door.now; kept = g.D.Door.kept; is_plain = g.D.Door.is_plain } in
    let s = subst (λ stage. StandsAt source past stage c.args.self.now.outgoing) c.in-Watching.is stands in
    looked source past c.in-Watching.watch c.step.new.watch c.args.self.now.outgoing c.follow.new.self c.told.result (g.D.Door.seen c.step.new.self) c.in-Ok.answer
    (λ behind. told_nothing (c.in-Ok.ensures.behind.1 behind)) c.in-Ok.ensures.status c.in-Ok.ensures.watch c.follow.ensures.goes c.told.ensures s

pub returns-in-Ok-clause-rests : goal.returns-in-Ok-clause-rests
returns-in-Ok-clause-rests g c = λ watching none.
    rests_past (changes_of (g.D.Door.seen c.step.new.self)) c.in-Watching.watch c.step.new.watch c.in-Ok.answer c.told.result c.in-Ok.ensures.status c.in-Ok.ensures.watch c.told.ensures
    (sym c.follow.ensures.left ∙ none)

pub returns-in-Err-clause-looked : goal.returns-in-Err-clause-looked
returns-in-Err-clause-looked g c = λ past stands.
    let source : Source = record { names = g.D.Door.names c.args.door.now; kept = g.D.Door.kept; is_plain = g.D.Door.is_plain } in
    let s = subst (λ stage. StandsAt source past stage c.args.self.now.outgoing) c.in-Watching.is stands in
    subst (λ stage. StandsAt source (with_asked (g.D.Door.seen c.step.new.self ∷ []) past) stage c.close.new.self.outgoing) (sym c.close.ensures.stage)
    (left_behind source past c.in-Watching.watch c.args.self.now.outgoing c.close.new.self.outgoing (g.D.Door.seen c.step.new.self) c.frames-messages.result
    (c.in-Err.ensures.behind.0 refl) c.requires.1 c.frames-messages.ensures c.close.ensures.goes s)
