use Rattle.std.proofs.Common.{[], ◌∷◌, refl, inl}
use Rattle.web_call.specs.declared.outcome.Outcome.TheVariants as outcomes
use Rattle.web_call.specs.Answer.Sends.{ToldPlainly}
use Rattle.web_call.specs.Pieces.{plain}
use Rattle.web_call.proofs.CallLemmas.{ends, starves_plainly, starves_so}
use Rattle.web_call.proofs.call.asking.answer_plainly.Goals as goal

pub returns-in-Ok-clause-stands : goal.returns-in-Ok-clause-stands
returns-in-Ok-clause-stands g c =
    let seen = g.D.Door.seen c.tell.new.self in
    λ head received asked within requested.
    ends _ received head [] (seen ∷ []) (plain c.in-Ok.text.items ∷ []) outcomes.Plain _ requested
    (ToldPlainly seen c.in-Ok.text.items
    (record { is_plain = c.requires; within = within; is_told = c.in-Ok.ensures.told head asked }) refl refl)
    (starves_plainly head received _ seen c.requires requested within asked)
    (inl (refl, c.new.ensures.goes _ c.plain.ensures))

pub returns-in-Err-clause-stands : goal.returns-in-Err-clause-stands
returns-in-Err-clause-stands g c =
    let seen = g.D.Door.seen c.tell.new.self in
    λ head received asked within requested.
    starves_so _ received (seen ∷ []) c.starved.result
    (starves_plainly head received _ seen c.requires requested within asked) c.starved.ensures.stage
    c.starved.ensures.goes
