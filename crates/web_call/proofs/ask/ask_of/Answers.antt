use Rattle.web_call.specs.Ask.IsAsked.{BadFrame, BadMessage, Asks}
use Rattle.web_call.proofs.ask.ask_of.Goals as goal

pub returns-in-Err-clause-asked : goal.returns-in-Err-clause-asked
returns-in-Err-clause-asked c = rw c.refusal_of.ensures.refused (BadFrame _ c.in-Err.ensures.fault)

pub returns-in-Ok-Check-clause-asked : goal.returns-in-Ok-Check-clause-asked
returns-in-Ok-Check-clause-asked c = rw c.in-Ok-Check.is-1 (Asks _ _ c.in-Ok.ensures.message c.in-Ok-Check.ensures.ok c.in-Ok-Check.ensures.text)

pub returns-in-Ok-Watch-clause-asked : goal.returns-in-Ok-Watch-clause-asked
returns-in-Ok-Watch-clause-asked c = rw c.in-Ok-Watch.is-1 (Asks _ _ c.in-Ok.ensures.message c.in-Ok-Watch.ensures.ok c.in-Ok-Watch.ensures.text)

pub returns-in-Err-default-clause-asked : goal.returns-in-Err-default-clause-asked
returns-in-Err-default-clause-asked c = BadMessage _ _ c.in-Ok.ensures.message c.in-Err-default.ensures.err
