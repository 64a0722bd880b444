use Rattle.std.proofs.Common.{inl, inr, length, sym, subst, ◌∙◌, ap, arith}
use Rattle.std.proofs.lemmas.Result.{IfOk-from_err}
use Rattle.record_log.specs.Device.{IsTorn, LeavesOnly}
use Rattle.record_log.specs.Log.{IsReady, IsAsBefore, StandsFor, texts}
use Rattle.record_log.proofs.DeviceLemmas.{started, goes_on, two_calls, then, no_error}
use Rattle.record_log.proofs.OpeningLemmas.{closed, first_gate, not_begun}
use Rattle.record_log.proofs.record_log.RecordLog.open.Goals.{then-len-lt2+in_ok-write_synced, else-len-lt2}
use Rattle.record_log.proofs.record_log.RecordLog.open.Goals as goal

pub returns-in_err-sync-clause-stands : goal.returns-in_err-sync-clause-stands
returns-in_err-sync-clause-stands g c = IfOk-from_err _ _ c.from_residual.ensures.0

pub returns-in_err-sync-clause-ready : goal.returns-in_err-sync-clause-ready
returns-in_err-sync-clause-ready g c = IfOk-from_err _ _ c.from_residual.ensures.0

pub returns-in_err-sync-clause-any_moment : goal.returns-in_err-sync-clause-any_moment
returns-in_err-sync-clause-any_moment g c =
    let D = g.D.Device in
    let device = c.args.self.now.device in
    let P = IsAsBefore (D.may_leave device) (D.contents device) in
    let start = started D.moment D.left_since device P (λ f left. inl (g.met.D.Device.only_now device f left)) in
    goes_on D.moment D.left_since device device c.sync.new.self P (D.may_leave c.sync.new.self) start c.sync.ensures.time (λ f left. inl (c.sync.ensures.crash f left))

pub returns-in_err-sync-clause-kept : goal.returns-in_err-sync-clause-kept
returns-in_err-sync-clause-kept g c = λ at is. c.sync.ensures.contents

pub returns-in_err-bytes-clause-stands : goal.returns-in_err-bytes-clause-stands
returns-in_err-bytes-clause-stands g c = IfOk-from_err _ _ c.from_residual-in_err-bytes.ensures.0

pub returns-in_err-bytes-clause-ready : goal.returns-in_err-bytes-clause-ready
returns-in_err-bytes-clause-ready g c = IfOk-from_err _ _ c.from_residual-in_err-bytes.ensures.0

pub returns-in_err-bytes-clause-any_moment : goal.returns-in_err-bytes-clause-any_moment
returns-in_err-bytes-clause-any_moment g c =
    let D = g.D.Device in
    let device = c.args.self.now.device in
    two_calls D.moment D.left_since device c.sync.new.self c.read.new.self (IsAsBefore (D.may_leave device) (D.contents device)) (D.may_leave c.sync.new.self) (D.may_leave c.read.new.self)
    (λ f left. inl (g.met.D.Device.only_now device f left)) c.sync.ensures.time (λ f left. inl (c.sync.ensures.crash f left)) c.read.ensures.time c.read.ensures.crash

pub returns-in_err-bytes-clause-kept : goal.returns-in_err-bytes-clause-kept
returns-in_err-bytes-clause-kept g c = λ at is. c.read.ensures.contents ∙ c.sync.ensures.contents

pub returns-in_err-entries-clause-stands : goal.returns-in_err-entries-clause-stands
returns-in_err-entries-clause-stands g c = IfOk-from_err _ _ c.from_residual-in_err-entries.ensures.0

pub returns-in_err-entries-clause-ready : goal.returns-in_err-entries-clause-ready
returns-in_err-entries-clause-ready g c = IfOk-from_err _ _ c.from_residual-in_err-entries.ensures.0

pub returns-in_err-entries-clause-any_moment : goal.returns-in_err-entries-clause-any_moment
returns-in_err-entries-clause-any_moment g c =
    let D = g.D.Device in
    let device = c.args.self.now.device in
    two_calls D.moment D.left_since device c.sync.new.self c.read.new.self (IsAsBefore (D.may_leave device) (D.contents device)) (D.may_leave c.sync.new.self) (D.may_leave c.read.new.self)
    (λ f left. inl (g.met.D.Device.only_now device f left)) c.sync.ensures.time (λ f left. inl (c.sync.ensures.crash f left)) c.read.ensures.time c.read.ensures.crash

pub returns-in_err-entries-clause-kept : goal.returns-in_err-entries-clause-kept
returns-in_err-entries-clause-kept g c = λ at is. c.read.ensures.contents ∙ c.sync.ensures.contents

pub write_synced-requires-clause-place : goal.write_synced-requires-clause-place
write_synced-requires-clause-place g c = omega arith

pub write_synced-requires-clause-durable : goal.write_synced-requires-clause-durable
write_synced-requires-clause-durable g c = λ file left.
    c.in_ok-sync.ensures.durable file (c.read.ensures.crash file left) ∙ sym (c.read.ensures.contents ∙ c.sync.ensures.contents)

pub returns-in_err-write_synced-clause-stands : goal.returns-in_err-write_synced-clause-stands
returns-in_err-write_synced-clause-stands g c = IfOk-from_err _ _ c.from_residual-in_err-write_synced.ensures.0

pub returns-in_err-write_synced-clause-ready : goal.returns-in_err-write_synced-clause-ready
returns-in_err-write_synced-clause-ready g c = IfOk-from_err _ _ c.from_residual-in_err-write_synced.ensures.0

pub returns-in_err-write_synced-clause-any_moment : goal.returns-in_err-write_synced-clause-any_moment
returns-in_err-write_synced-clause-any_moment g c =
    let D = g.D.Device in
    let device = c.args.self.now.device in
    let P = IsAsBefore (D.may_leave device) (D.contents device) in
    let was_read =
    two_calls D.moment D.left_since device c.sync.new.self c.read.new.self P (D.may_leave c.sync.new.self) (D.may_leave c.read.new.self)
    (λ f left. inl (g.met.D.Device.only_now device f left)) c.sync.ensures.time (λ f left. inl (c.sync.ensures.crash f left)) c.read.ensures.time c.read.ensures.crash in
    let len = ap length (c.in_ok-bytes.ensures.bytes ∙ sym c.read.ensures.contents) in
    then D.moment D.left_since device c.read.new.self c.write_synced.new.device P (IsTorn 0 1 (D.contents c.read.new.self)) P was_read c.write_synced.ensures.any_moment
    (λ f p. p)
    (λ f torn. inr (not_begun (D.contents device) _ f (c.read.ensures.contents ∙ c.sync.ensures.contents) (omega (arith, len, c.len.ensures, c.if-len-lt2.true)) torn))

pub returns-clause-stands : goal.returns-clause-stands
returns-clause-stands g c =
    subst (λ l. StandsFor l (texts c.in_ok-entries.entries.items)) (c.deref.ensures.value ∙ c.in_ok-bytes.ensures.bytes ∙ c.sync.ensures.contents) c.in_ok-entries.ensures.stands

pub returns-clause-ready : goal.returns-clause-ready
returns-clause-ready g c =
    let contents = g.D.Device.contents in
    let found = texts c.in_ok-entries.entries.items in
    let was_read = c.deref.ensures.value ∙ c.in_ok-bytes.ensures.bytes ∙ sym c.read.ensures.contents in
    let stands = subst (λ l. StandsFor l found) was_read c.in_ok-entries.ensures.stands in
    let len = ap length (c.in_ok-bytes.ensures.bytes ∙ sym c.read.ensures.contents) in
    elim c.if-len-lt2.branch [
      | then-len-lt2+in_ok-write_synced w ↦
          subst (λ s. IsReady contents g.D.Device.may_leave (record { device = s.device; end = c.in_ok-entries.end }) found) (sym w.self-is) (record {
            file = first_gate (contents c.read.new.self) found _ stands (omega (arith, len, c.len.ensures, w.if-len-lt2.true)) w.in_ok-write_synced.ensures.written;
            end = c.in_ok-entries.ensures.end;
            durable = w.in_ok-write_synced.ensures.durable;
          })
      | else-len-lt2 w ↦
          subst (λ s. IsReady contents g.D.Device.may_leave (record { device = s.device; end = c.in_ok-entries.end }) found) (sym w.self-is) (record {
            file = closed (contents c.read.new.self) found stands (omega (arith, len, c.len.ensures, w.if-len-lt2.false));
            end = c.in_ok-entries.ensures.end;
            durable = λ file left. c.in_ok-sync.ensures.durable file (c.read.ensures.crash file left) ∙ sym (c.read.ensures.contents ∙ c.sync.ensures.contents);
          })
    ]

pub returns-clause-damaged : goal.returns-clause-damaged
returns-clause-damaged g c = λ at is. no_error _ _ is

pub returns-clause-kept : goal.returns-clause-kept
returns-clause-kept g c = λ at is. no_error _ _ is

pub returns-clause-failed : goal.returns-clause-failed
returns-clause-failed g c = λ is. no_error _ _ is

pub returns-clause-any_moment : goal.returns-clause-any_moment
returns-clause-any_moment g c =
    let D = g.D.Device in
    let device = c.args.self.now.device in
    let P = IsAsBefore (D.may_leave device) (D.contents device) in
    let was_read =
    two_calls D.moment D.left_since device c.sync.new.self c.read.new.self P (D.may_leave c.sync.new.self) (D.may_leave c.read.new.self)
    (λ f left. inl (g.met.D.Device.only_now device f left)) c.sync.ensures.time (λ f left. inl (c.sync.ensures.crash f left)) c.read.ensures.time c.read.ensures.crash in
    let len = ap length (c.in_ok-bytes.ensures.bytes ∙ sym c.read.ensures.contents) in
    elim c.if-len-lt2.branch [
      | then-len-lt2+in_ok-write_synced w ↦
          subst (λ s. LeavesOnly D.moment D.left_since device s.device P) (sym w.self-is)
          (then D.moment D.left_since device c.read.new.self w.write_synced.new.device P (IsTorn 0 1 (D.contents c.read.new.self)) P was_read w.in_ok-write_synced.ensures.any_moment
          (λ f p. p)
          (λ f torn. inr (not_begun (D.contents device) _ f (c.read.ensures.contents ∙ c.sync.ensures.contents) (omega (arith, len, c.len.ensures, w.if-len-lt2.true)) torn)))
      | else-len-lt2 w ↦ subst (λ s. LeavesOnly D.moment D.left_since device s.device P) (sym w.self-is) was_read
    ]
