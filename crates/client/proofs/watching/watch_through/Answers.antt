use Rattle.std.proofs.Common.{[], refl, inl, inr}
use Rattle.std.proofs.KnownBytes.{Consumes-nil}
use Rattle.web_call.specs.declared.method.Method.TheVariants.{Watch}
use Rattle.client.proofs.TransferLemmas.{all_written, front_written, sent_cause, sent_for}
use Rattle.client.proofs.WatchingLemmas.{no_memory_heard, unwritten_heard}
use Rattle.client.proofs.watching.watch_through.Goals as goal

pub returns-in_default-clause-response : goal.returns-in_default-clause-response
returns-in_default-clause-response g c = ([], Consumes-nil _, inl refl)

pub returns-in_default-clause-no_memory : goal.returns-in_default-clause-no_memory
returns-in_default-clause-no_memory g c = λ is. inl (refl, refl)

pub returns-in-Ok-send-clause-request : goal.returns-in-Ok-send-clause-request
returns-in-Ok-send-clause-request g c =
    sent_for c.read_aloud.result Watch c.args.name.now _ _ c.read_aloud.ensures.no_write
    (all_written Watch c.args.name.now c.in-Ok.request.items c.deref.result.now _ _ c.in-Ok.ensures c.deref.ensures.value c.in-Ok-send.ensures.ok)

pub returns-in-Ok-send-clause-no_memory : goal.returns-in-Ok-send-clause-no_memory
returns-in-Ok-send-clause-no_memory g c = λ is.
    inr (all_written Watch c.args.name.now c.in-Ok.request.items c.deref.result.now _ _ c.in-Ok.ensures c.deref.ensures.value c.in-Ok-send.ensures.ok)

pub returns-in-Ok-send-clause-write : goal.returns-in-Ok-send-clause-write
returns-in-Ok-send-clause-write g c = sent_cause c.read_aloud.result _ _ c.read_aloud.ensures.no_write c.in-Ok-send.ensures.kept

pub returns-clause-response : goal.returns-clause-response
returns-clause-response g c = ([], Consumes-nil _, refl)

pub returns-in_default-clause-heard : goal.returns-in_default-clause-heard
returns-in_default-clause-heard g c = no_memory_heard _ _

pub returns-clause-heard : goal.returns-clause-heard
returns-clause-heard g c = unwritten_heard _ _

pub returns-clause-request : goal.returns-clause-request
returns-clause-request g c =
    front_written Watch c.args.name.now c.in-Ok.request.items c.deref.result.now _ _
    c.in-Err.ensures.front.0 c.in-Ok.ensures c.deref.ensures.value c.in-Err.ensures.front.1
