use Rattle.std.proofs.Common.{[], ◌∷◌, map, inl, subst, sym, ap, length, length-append, ◌∙◌, arith}
use Rattle.std.proofs.lemmas.List.{length-map}
use Rattle.record_log.specs.Log.{IsBeforeOrAfter, IsClosed, blocks, texts}
use Rattle.record_log.specs.Gate.{IsTornBehind}
use Rattle.record_log.proofs.DeviceLemmas.{started, widened}
use Rattle.record_log.proofs.LogLemmas.{gate_inside, torn_batch, written, new_end}
use Rattle.record_log.proofs.record_log.RecordLog.append.Goals as goal

pub returns-in_err-text-clause-any_moment : goal.returns-in_err-text-clause-any_moment
returns-in_err-text-clause-any_moment g c = λ entries r.
    let device = c.args.self.now.device in
    started g.D.Device.moment g.D.Device.left_since device (IsBeforeOrAfter entries (texts c.args.batch.now))
    (λ f left. inl (inl (subst (λ l. IsClosed l entries) (sym (r.durable f (g.met.D.Device.only_now device f left))) r.file)))

pub write_gated-requires-clause-some : goal.write_gated-requires-clause-some
write_gated-requires-clause-some g c =
    omega (arith, ap length (c.deref.ensures.value ∙ c.in_ok-text.ensures), length-append (blocks (texts c.args.batch.now)) (0 ∷ []))

pub write_gated-requires-clause-gate : goal.write_gated-requires-clause-gate
write_gated-requires-clause-gate g c =
    let ready = c.requires.ready.1 in
    gate_inside _ _ c.requires.ready.0 ready.file ready.end

pub write_gated-requires-clause-durable : goal.write_gated-requires-clause-durable
write_gated-requires-clause-durable g c = c.requires.ready.1.durable

pub returns-in_err-write_gated-clause-any_moment : goal.returns-in_err-write_gated-clause-any_moment
returns-in_err-write_gated-clause-any_moment g c = λ entries r.
    let batch = map (λ entry. entry.items) c.args.batch.now in
    let is = c.deref.ensures.value ∙ c.in_ok-text.ensures in
    let device = c.args.self.now.device in
    widened g.D.Device.moment g.D.Device.left_since device c.write_gated.new.device (IsTornBehind (g.D.Device.contents device) c.args.self.now.end c.deref.result.now) (IsBeforeOrAfter entries batch) c.write_gated.ensures.any_moment
    (λ f left. torn_batch (g.D.Device.contents device) c.args.self.now.end entries r.file r.end batch c.deref.result.now f (omega (arith, c.requires.some, length-map c.args.batch.now (λ entry. entry.items))) is left)

pub overflow_sub-self : goal.overflow_sub-self
overflow_sub-self g c =
    omega (arith, c.len.ensures, ap length c.in_ok-text.ensures, length-append (blocks (texts c.args.batch.now)) (0 ∷ []))

pub overflow_add-self : goal.overflow_add-self
overflow_add-self g c =
    let ready = c.requires.ready.1 in
    let inside = gate_inside _ _ c.requires.ready.0 ready.file ready.end in
    omega (arith, inside, g.met.D.Device.bounded c.args.self.now.device, c.len.ensures, c.in_ok-text.text.small, c.in_ok-text.text.ok)

pub returns-clause-acknowledged : goal.returns-clause-acknowledged
returns-clause-acknowledged g c = λ entries r.
    let batch = map (λ entry. entry.items) c.args.batch.now in
    let is = c.deref.ensures.value ∙ c.in_ok-text.ensures in
    record {
      file = written _ _ entries r.file r.end batch _ _ is c.in_ok-write_gated.ensures.written;
      end = omega (arith, c.len.ensures, new_end _ _ entries r.file r.end batch _ is);
      durable = c.in_ok-write_gated.ensures.durable;
    }

pub returns-clause-any_moment : goal.returns-clause-any_moment
returns-clause-any_moment g c = λ entries r.
    let batch = map (λ entry. entry.items) c.args.batch.now in
    let is = c.deref.ensures.value ∙ c.in_ok-text.ensures in
    let device = c.args.self.now.device in
    widened g.D.Device.moment g.D.Device.left_since device c.write_gated.new.device (IsTornBehind (g.D.Device.contents device) c.args.self.now.end c.deref.result.now) (IsBeforeOrAfter entries batch) c.write_gated.ensures.any_moment
    (λ f left. torn_batch (g.D.Device.contents device) c.args.self.now.end entries r.file r.end batch c.deref.result.now f (omega (arith, c.requires.some, length-map c.args.batch.now (λ entry. entry.items))) is left)
