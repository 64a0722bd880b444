use Rattle.std.proofs.Common.{◌++◌, inl, inr, subst, sym}
use Rattle.record_log.specs.Device.{IsTorn, LeavesOnly}
use Rattle.record_log.specs.Log.{IsReady, IsClosed, IsBeforeOrAfter}
use Rattle.record_log.proofs.DeviceLemmas.{started, widened}
use Rattle.record_log.proofs.TakenBackLemmas.{torn, closed, none}
use Rattle.record_log.proofs.record_log.RecordLog.take_back.Goals.{then-end-self+in_ok-write_synced, else-end-self}
use Rattle.record_log.proofs.record_log.RecordLog.take_back.Goals as goal

pub returns-in_err-write_synced-clause-any_moment : goal.returns-in_err-write_synced-clause-any_moment
returns-in_err-write_synced-clause-any_moment g c = λ entries more here r.
    let D = g.D.Device in
    let log = c.args.self.now in
    widened D.moment D.left_since log.device c.write_synced.new.device (IsTorn c.args.end 1 (D.contents log.device)) (IsBeforeOrAfter entries more) c.write_synced.ensures.any_moment
    (λ f left. torn (D.contents log.device) c.args.end log.end entries more r.file here r.end f c.if-end-self.true left)

pub returns-clause-taken_back : goal.returns-clause-taken_back
returns-clause-taken_back g c = λ entries more here r.
    let D = g.D.Device in
    let log = c.args.self.now in
    elim c.if-end-self.branch [
      | then-end-self+in_ok-write_synced w ↦
          subst (λ s. IsReady D.contents D.may_leave (record { device = s.device; end = c.args.end }) entries) (sym w.self-is) (record {
            file = closed (D.contents log.device) c.args.end log.end entries more r.file here r.end _ w.if-end-self.true w.in_ok-write_synced.ensures.written;
            end = here;
            durable = w.in_ok-write_synced.ensures.durable;
          })
      | else-end-self w ↦
          subst (λ s. IsReady D.contents D.may_leave (record { device = s.device; end = c.args.end }) entries) (sym w.self-is) (record {
            file = subst (λ l. IsClosed (D.contents log.device) l) (sym (none (D.contents log.device) c.args.end log.end entries more r.file here r.end w.if-end-self.false)) r.file;
            end = here;
            durable = r.durable;
          })
    ]

pub returns-clause-any_moment : goal.returns-clause-any_moment
returns-clause-any_moment g c = λ entries more here r.
    let D = g.D.Device in
    let log = c.args.self.now in
    elim c.if-end-self.branch [
      | then-end-self+in_ok-write_synced w ↦
          subst (λ s. LeavesOnly D.moment D.left_since log.device s.device (IsBeforeOrAfter entries more)) (sym w.self-is) (widened D.moment D.left_since log.device w.write_synced.new.device (IsTorn c.args.end 1 (D.contents log.device)) (IsBeforeOrAfter entries more) w.in_ok-write_synced.ensures.any_moment
          (λ f left. torn (D.contents log.device) c.args.end log.end entries more r.file here r.end f w.if-end-self.true left))
      | else-end-self w ↦
          subst (λ s. LeavesOnly D.moment D.left_since log.device s.device (IsBeforeOrAfter entries more)) (sym w.self-is) (started D.moment D.left_since log.device (IsBeforeOrAfter entries more) (λ f left.
          let is = r.durable f (g.met.D.Device.only_now log.device f left) in
          inr (inl (subst (λ l. IsClosed l (entries ++ more)) (sym is) r.file))))
    ]
