use Rattle.std.proofs.Common.{◌≢◌, ◌<◌, ℕ, [], ◌++◌, Err, ◌∙◌, refl, sym, subst, inl, inr, arith}
use Rattle.std.proofs.KnownBytes.{Consumes-nil, Consumes-trans}
use Rattle.std.specs.Prelude.{IfErr, Result}
use Rattle.web_call.specs.declared.method.Method.{Method}
use Rattle.client.specs.declared.ask_fault.AskFault.{AskFault}
use Rattle.client.specs.declared.ask_fault.AskFault.TheVariants.{Write}
use Rattle.client.specs.declared.reply.Reply.{Reply}
use Rattle.client.specs.declared.told.Told.{Told}
use Rattle.client.specs.Ask.{HasReadCause, IsFaultAt, Says}
use Rattle.client.specs.Lent.{lent_failed}
use Rattle.client.specs.Reply.{IsOpen, IsTold, WasOpen}
use Rattle.client.specs.Stages.{method_of, most_of, wanted_of}
use Rattle.client.proofs.AskingLemmas.{asked_for, cause_of, fault_says, is_no_memory, open_at, told_earliest}
use Rattle.client.proofs.asking.read_told.Goals as goal

pub loop-piece-init : goal.loop-piece-init
loop-piece-init g c = record {
  received = ([], Consumes-nil _, c.in_ok-reply.ensures.begun, inl refl);
  method = c.in_ok-reply.ensures.call.0;
  most = c.in_ok-reply.ensures.call.1;
  same = refl;
  kept = refl;
}

pub loop-piece-preserved : goal.loop-piece-preserved
loop-piece-preserved g c =
    let before = c.loop-piece.invariant in
    let read = c.in-Ok.ensures.ok in
    let reply = c.loop-piece.reply in
    let gives = read.2 before.received.0 before.received.2 in record {
      received = (
        before.received.0 ++ read.0,
        Consumes-trans _ _ _ before.received.0 read.0 before.received.1 read.1,
        gives.holds,
        inr (asked_for (λ (method : Method) (most : ℕ). WasOpen method most (before.received.0 ++ read.0)) (method_of reply) c.args.method (most_of reply) c.args.most before.method before.most gives.was_open),
      );
      method = c.in-Ok.ensures.call.0 ∙ before.method;
      most = c.in-Ok.ensures.call.1 ∙ before.most;
      same = c.in-Ok.ensures.reference ∙ before.same;
      kept = c.in-Ok.ensures.read ∙ before.kept;
    }

pub returns-then-is_err-clause-response : goal.returns-then-is_err-clause-response
returns-then-is_err-clause-response g c =
    let before = c.loop-piece.invariant in (before.received.0, before.received.1, before.received.3)

pub returns-in-Err-clause-response : goal.returns-in-Err-clause-response
returns-in-Err-clause-response g c =
    let before = c.loop-piece.invariant in
    let read = c.in-Err.ensures.err in
    let reply = c.loop-piece.reply in
    let is_open : IsOpen (method_of reply) (most_of reply) before.received.0 =
    open_at (method_of reply) (most_of reply) before.received.0 reply.head.items reply.stage (let wants : 0 < wanted_of reply = omega arith in wants) before.received.2 in (
      before.received.0 ++ read.0,
      Consumes-trans _ _ _ before.received.0 read.0 before.received.1 read.1,
      asked_for (λ (method : Method) (most : ℕ). Says (Err c.in-Err.fault) method most (before.received.0 ++ read.0)) (method_of reply) c.args.method (most_of reply) c.args.most before.method before.most
          (fault_says c.in-Err.fault (method_of reply) (most_of reply) before.received.0 read.0 is_open (read.2 before.received.0 before.received.2)),
    )

pub returns-clause-response : goal.returns-clause-response
returns-clause-response g c =
    let before = c.loop-piece.invariant in
    let told = c.into_told.result in
    let says = asked_for (λ (method : Method) (most : ℕ). IsTold method most before.received.0 told.statuses.items told.end) _ c.args.method _ c.args.most before.method before.most
    (c.into_told.ensures.told before.received.0 before.received.2) in (
      before.received.0,
      before.received.1,
      (says, told_earliest c.args.method c.args.most before.received.0 told.statuses.items told.end before.received.3 says),
    )

pub returns-in-Err-clause-no_write : goal.returns-in-Err-clause-no_write
returns-in-Err-clause-no_write g c = λ is.
    let before = c.loop-piece.invariant in
    let read = c.in-Err.ensures.err in
    let reply = c.loop-piece.reply in
    subst (λ (fault : AskFault). IsFaultAt fault (method_of reply) (most_of reply) before.received.0 read.0) is (read.2 before.received.0 before.received.2)

pub returns-in_err-reply-clause-response : goal.returns-in_err-reply-clause-response
returns-in_err-reply-clause-response g c =
    let is = is_no_memory c.from_residual.result c.from_residual.ensures.1 in
    ([], Consumes-nil _, subst (λ (result : Result Told AskFault). Says result c.args.method c.args.most []) (sym is) (inl refl))

pub returns-in_err-reply-clause-read : goal.returns-in_err-reply-clause-read
returns-in_err-reply-clause-read g c =
    let is = is_no_memory c.from_residual.result c.from_residual.ensures.1 in
    subst (λ (result : Result Told AskFault). HasReadCause result (lent_failed c.args.reader.now) (lent_failed c.args.reader.now)) (sym is) refl

pub returns-in_err-reply-clause-no_write : goal.returns-in_err-reply-clause-no_write
returns-in_err-reply-clause-no_write g c =
    let is = is_no_memory c.from_residual.result c.from_residual.ensures.1 in
    subst (λ (result : Result Told AskFault). IfErr result (λ fault. fault ≢ Write)) (sym is) (λ never. cc)

pub returns-in-Err-clause-read : goal.returns-in-Err-clause-read
returns-in-Err-clause-read g c = cause_of Reply Told c.in-Err.fault _ _ _ c.loop-piece.invariant.kept c.in-Err.ensures.read
