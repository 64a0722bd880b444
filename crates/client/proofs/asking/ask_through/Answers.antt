use Rattle.std.proofs.Common.{[], refl, inl, inr}
use Rattle.std.proofs.KnownBytes.{Consumes-nil}
use Rattle.client.proofs.AskingLemmas.{is_answer}
use Rattle.client.proofs.TransferLemmas.{all_written, front_written, sent_cause, sent_for}
use Rattle.client.proofs.asking.ask_through.Goals as goal

pub returns-in_default-clause-response : goal.returns-in_default-clause-response
returns-in_default-clause-response g c = ([], Consumes-nil _, inl refl)

pub returns-in_default-clause-no_memory : goal.returns-in_default-clause-no_memory
returns-in_default-clause-no_memory g c = λ is. inl (refl, refl)

pub returns-in-Ok-send-clause-request : goal.returns-in-Ok-send-clause-request
returns-in-Ok-send-clause-request g c =
    sent_for c.read_told.result c.args.method c.args.name.now _ _ c.read_told.ensures.no_write
    (all_written c.args.method c.args.name.now c.in-Ok.request.items c.deref.result.now _ _ c.in-Ok.ensures c.deref.ensures.value c.in-Ok-send.ensures.ok)

pub returns-in-Ok-send-clause-no_memory : goal.returns-in-Ok-send-clause-no_memory
returns-in-Ok-send-clause-no_memory g c = λ is.
    inr (all_written c.args.method c.args.name.now c.in-Ok.request.items c.deref.result.now _ _ c.in-Ok.ensures c.deref.ensures.value c.in-Ok-send.ensures.ok)

pub returns-in-Ok-send-clause-write : goal.returns-in-Ok-send-clause-write
returns-in-Ok-send-clause-write g c = sent_cause c.read_told.result _ _ c.read_told.ensures.no_write c.in-Ok-send.ensures.kept

pub returns-clause-response : goal.returns-clause-response
returns-clause-response g c = ([], Consumes-nil _, refl)

pub returns-clause-request : goal.returns-clause-request
returns-clause-request g c =
    front_written c.args.method c.args.name.now c.in-Ok.request.items c.deref.result.now _ _
    c.in-Err.ensures.front.0 c.in-Ok.ensures c.deref.ensures.value c.in-Err.ensures.front.1

pub returns-in-Ok-send-clause-answer : goal.returns-in-Ok-send-clause-answer
returns-in-Ok-send-clause-answer g c = is_answer c.read_told.result c.args.method c.args.most _ _ c.read_told.ensures.response c.requires.most
