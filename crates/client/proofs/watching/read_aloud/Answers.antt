use Rattle.std.proofs.Common.{◌≢◌, ◌<◌, ◌≤◌, ℕ, List, [], ◌++◌, Err, ◌∙◌, ap, sym, refl, subst, inl, inr, arith, length}
use Rattle.std.proofs.KnownBytes.{Appends-nil, Consumes-nil, Consumes-trans}
use Rattle.std.specs.Io.KnownBytes.{Appends}
use Rattle.std.specs.Prelude.{IfErr, IfOk, Result}
use Rattle.web_call.specs.declared.method.Method.{Method}
use Rattle.web_call.specs.declared.method.Method.TheVariants.{Watch}
use Rattle.client.specs.declared.ask_fault.AskFault.{AskFault}
use Rattle.client.specs.declared.ask_fault.AskFault.TheVariants.{Write}
use Rattle.client.specs.declared.reply.Reply.{Reply}
use Rattle.client.specs.declared.told.Told.{Told}
use Rattle.client.specs.Ask.{HasReadCause, IsAnswerTo, IsFaultAt, Says}
use Rattle.client.specs.Growth.{Grows}
use Rattle.client.specs.Heard.{IsHeardFor, wanted_by_end}
use Rattle.client.specs.Lent.{lent_failed, lent_inner}
use Rattle.client.specs.Reply.{IsOpen, IsTold, WasOpen}
use Rattle.client.specs.Stages.{StandsAt, method_of, most_of, statuses_of, wanted_of}
use Rattle.client.proofs.AskingLemmas.{answer_of_told, asked_for, cause_of, fault_says, is_no_memory, open_at, told_earliest}
use Rattle.client.proofs.WatchingLemmas.{all_told, fault_heard, few_so_far, heard_on, left_says, newly_enough, no_memory_heard, told_so_far, wanted_enough, wanted_most, watch_answer, watch_open}
use Rattle.client.proofs.watching.read_aloud.Goals as goal

pub loop-piece-init : goal.loop-piece-init
loop-piece-init g c = record {
  received = ([], Consumes-nil _, c.in_ok-reply.ensures.begun, inl refl);
  method = c.in_ok-reply.ensures.call.0;
  most = c.in_ok-reply.ensures.call.1;
  same = refl;
  kept = refl;
  heard = subst (Appends _ _) (sym c.in_ok-reply.ensures.none) (Appends-nil _);
  wants = c.requires.wants;
}

pub loop-piece-preserved : goal.loop-piece-preserved
loop-piece-preserved g c =
    let before = c.loop-piece.invariant in
    let read = c.in-Ok.ensures.ok in
    let reply = c.loop-piece.reply in
    let gives = read.2 before.received.0 before.received.2 in record {
      received = (
        before.received.0 ++ read.0,
        Consumes-trans _ _ _ before.received.0 read.0 before.received.1 read.1,
        gives.holds,
        inr (asked_for (λ (method : Method) (most : ℕ). WasOpen method most (before.received.0 ++ read.0)) (method_of reply) Watch (most_of reply) c.args.most before.method before.most gives.was_open),
      );
      method = c.in-Ok.ensures.call.0 ∙ before.method;
      most = c.in-Ok.ensures.call.1 ∙ before.most;
      same = c.in-Ok.ensures.reference ∙ before.same;
      kept = c.in-Ok.ensures.read ∙ before.kept;
      heard = heard_on (method_of reply) _ _ _ _ _ _ c.statuses.result.now (length c.statuses-told.result.now) before.heard gives.grows c.statuses.ensures
          (ap length c.statuses-told.ensures) (λ few. ap g.L.Listener.heard (c.tell_newest.ensures.none few)) c.tell_newest.ensures.told;
      wants = sym c.tell_newest.ensures.enough ∙ c.if-tell_newest.false;
    }

pub returns-then-is_err-clause-response : goal.returns-then-is_err-clause-response
returns-then-is_err-clause-response g c =
    let before = c.loop-piece.invariant in (before.received.0, before.received.1, before.received.3)

pub returns-then-is_err-clause-heard : goal.returns-then-is_err-clause-heard
returns-then-is_err-clause-heard g c =
    let before = c.loop-piece.invariant in
    let reply = c.loop-piece.reply in
    let tell = told_so_far (method_of reply) (most_of reply) before.received.0 reply.head.items reply.stage before.method (let wants : 0 < wanted_of reply = omega arith in wants) before.received.2 in
    (before.received.0, statuses_of reply, before.received.1, before.heard, all_told before.received.0 (statuses_of reply) tell)

pub returns-in-Err-clause-response : goal.returns-in-Err-clause-response
returns-in-Err-clause-response g c =
    let before = c.loop-piece.invariant in
    let read = c.in-Err.ensures.err in
    let reply = c.loop-piece.reply in
    let is_open : IsOpen (method_of reply) (most_of reply) before.received.0 =
    open_at (method_of reply) (most_of reply) before.received.0 reply.head.items reply.stage (let wants : 0 < wanted_of reply = omega arith in wants) before.received.2 in (
      before.received.0 ++ read.0,
      Consumes-trans _ _ _ before.received.0 read.0 before.received.1 read.1,
      asked_for (λ (method : Method) (most : ℕ). Says (Err c.in-Err.fault) method most (before.received.0 ++ read.0)) (method_of reply) Watch (most_of reply) c.args.most before.method before.most
          (fault_says c.in-Err.fault (method_of reply) (most_of reply) before.received.0 read.0 is_open (read.2 before.received.0 before.received.2)),
    )

pub returns-in-Err-clause-no_write : goal.returns-in-Err-clause-no_write
returns-in-Err-clause-no_write g c = λ is.
    let before = c.loop-piece.invariant in
    let read = c.in-Err.ensures.err in
    let reply = c.loop-piece.reply in
    subst (λ (fault : AskFault). IsFaultAt fault (method_of reply) (most_of reply) before.received.0 read.0) is (read.2 before.received.0 before.received.2)

pub returns-in-Err-clause-heard : goal.returns-in-Err-clause-heard
returns-in-Err-clause-heard g c =
    let before = c.loop-piece.invariant in
    let read = c.in-Err.ensures.err in
    let reply = c.loop-piece.reply in
    let tell = told_so_far (method_of reply) (most_of reply) before.received.0 reply.head.items reply.stage before.method (let wants : 0 < wanted_of reply = omega arith in wants) before.received.2 in (
      before.received.0 ++ read.0,
      statuses_of reply,
      Consumes-trans _ _ _ before.received.0 read.0 before.received.1 read.1,
      before.heard,
      fault_heard c.in-Err.fault (method_of reply) (most_of reply) before.received.0 read.0 (statuses_of reply) (read.2 before.received.0 before.received.2) tell,
    )

pub returns-then-tell_newest-clause-response : goal.returns-then-tell_newest-clause-response
returns-then-tell_newest-clause-response g c =
    let before = c.loop-piece.invariant in
    let read = c.in-Ok.ensures.ok in
    let reply = c.loop-piece.reply in
    let gives = read.2 before.received.0 before.received.2 in
    let bytes = before.received.0 ++ read.0 in
    let enough = sym c.tell_newest.ensures.enough ∙ c.if-tell_newest.true in
    let ends = newly_enough bytes (statuses_of reply) (statuses_of c.in-Ok.after) c.statuses.result.now (length c.statuses-told.result.now)
    (g.L.Listener.has_enough c.loop-piece.listener) (g.L.Listener.has_enough c.tell_newest.new.listener)
    (subst (λ (method : Method). Grows method bytes (statuses_of reply) (statuses_of c.in-Ok.after)) before.method gives.grows) c.statuses.ensures
    (ap length c.statuses-told.ensures) (λ few. ap g.L.Listener.has_enough (c.tell_newest.ensures.none few)) before.wants enough in
    let was = watch_open (method_of reply) bytes (statuses_of reply) (statuses_of c.in-Ok.after) before.method gives.was_open_for ends in
    let told = c.leave.result in (
      bytes,
      Consumes-trans _ _ _ before.received.0 read.0 before.received.1 read.1,
      wanted_enough told bytes c.args.most (g.L.Listener.has_enough c.tell_newest.new.listener) enough
          (left_says told bytes (statuses_of reply) (statuses_of c.in-Ok.after) c.leave.ensures.statuses c.leave.ensures.end ends was),
    )

pub returns-then-tell_newest-clause-answer : goal.returns-then-tell_newest-clause-answer
returns-then-tell_newest-clause-answer g c =
    let before = c.loop-piece.invariant in
    let read = c.in-Ok.ensures.ok in
    let after = c.in-Ok.after in
    let gives = read.2 before.received.0 before.received.2 in
    let stands = asked_for (λ (method : Method) (most : ℕ). StandsAt method most (before.received.0 ++ read.0) after.head.items after.stage) (method_of after) Watch (most_of after) c.args.most
    (c.in-Ok.ensures.call.0 ∙ before.method) (c.in-Ok.ensures.call.1 ∙ before.most) gives.holds in
    let few = few_so_far c.args.most (before.received.0 ++ read.0) after.head.items after.stage c.requires.most stands in
    watch_answer c.leave.result c.args.most (subst (λ (all : List ℕ). length all ≤ c.args.most) (sym c.leave.ensures.statuses) few)

pub returns-then-tell_newest-clause-heard : goal.returns-then-tell_newest-clause-heard
returns-then-tell_newest-clause-heard g c =
    let before = c.loop-piece.invariant in
    let read = c.in-Ok.ensures.ok in
    let reply = c.loop-piece.reply in
    let gives = read.2 before.received.0 before.received.2 in (
      before.received.0 ++ read.0,
      statuses_of c.in-Ok.after,
      Consumes-trans _ _ _ before.received.0 read.0 before.received.1 read.1,
      heard_on (method_of reply) _ _ _ _ _ _ c.statuses.result.now (length c.statuses-told.result.now) before.heard gives.grows c.statuses.ensures
          (ap length c.statuses-told.ensures) (λ few. ap g.L.Listener.heard (c.tell_newest.ensures.none few)) c.tell_newest.ensures.told,
      sym c.leave.ensures.statuses,
    )

pub returns-clause-response : goal.returns-clause-response
returns-clause-response g c =
    let before = c.loop-piece.invariant in
    let told = c.into_told.result in
    let says = asked_for (λ (method : Method) (most : ℕ). IsTold method most before.received.0 told.statuses.items told.end) _ Watch _ c.args.most before.method before.most
    (c.into_told.ensures.told before.received.0 before.received.2) in (
      before.received.0,
      before.received.1,
      wanted_most told before.received.0 c.args.most (g.L.Listener.has_enough c.loop-piece.listener) before.wants
          (says, told_earliest Watch c.args.most before.received.0 told.statuses.items told.end before.received.3 says),
    )

pub returns-in_err-reply-clause-response : goal.returns-in_err-reply-clause-response
returns-in_err-reply-clause-response g c =
    let is = is_no_memory c.from_residual.result c.from_residual.ensures.1 in
    ([], Consumes-nil _, subst (λ (result : Result Told AskFault). Says result Watch (wanted_by_end result c.args.most (g.L.Listener.has_enough c.args.listener.now)) []) (sym is) (inl refl))

pub returns-in_err-reply-clause-read : goal.returns-in_err-reply-clause-read
returns-in_err-reply-clause-read g c =
    let is = is_no_memory c.from_residual.result c.from_residual.ensures.1 in
    subst (λ (result : Result Told AskFault). HasReadCause result (lent_failed c.args.reader.now) (lent_failed c.args.reader.now)) (sym is) refl

pub returns-in_err-reply-clause-no_write : goal.returns-in_err-reply-clause-no_write
returns-in_err-reply-clause-no_write g c =
    let is = is_no_memory c.from_residual.result c.from_residual.ensures.1 in
    subst (λ (result : Result Told AskFault). IfErr result (λ fault. fault ≢ Write)) (sym is) (λ never. cc)

pub returns-in-Err-clause-read : goal.returns-in-Err-clause-read
returns-in-Err-clause-read g c = cause_of Reply Told c.in-Err.fault _ _ _ c.loop-piece.invariant.kept c.in-Err.ensures.read

pub returns-in_err-reply-clause-answer : goal.returns-in_err-reply-clause-answer
returns-in_err-reply-clause-answer g c =
    let is = is_no_memory c.from_residual.result c.from_residual.ensures.1 in
    subst (λ (result : Result Told AskFault). IfOk result (IsAnswerTo Watch c.args.most)) (sym is) tt

pub returns-in_err-reply-clause-heard : goal.returns-in_err-reply-clause-heard
returns-in_err-reply-clause-heard g c =
    let is = is_no_memory c.from_residual.result c.from_residual.ensures.1 in
    let remaining = g.R.Read.remaining (lent_inner c.args.reader.now) in
    let heard = g.L.Listener.heard c.args.listener.now in
    subst (λ (result : Result Told AskFault). IsHeardFor result remaining remaining heard heard) (sym is) (no_memory_heard remaining heard)

pub returns-clause-answer : goal.returns-clause-answer
returns-clause-answer g c =
    let before = c.loop-piece.invariant in
    let told = c.into_told.result in
    let says = asked_for (λ (method : Method) (most : ℕ). IsTold method most before.received.0 told.statuses.items told.end) _ Watch _ c.args.most before.method before.most
    (c.into_told.ensures.told before.received.0 before.received.2) in
    answer_of_told told Watch c.args.most before.received.0 says c.requires.most

pub returns-clause-heard : goal.returns-clause-heard
returns-clause-heard g c =
    let before = c.loop-piece.invariant in
    (before.received.0, statuses_of c.loop-piece.reply, before.received.1, before.heard, sym c.into_told.ensures.statuses)
