use Rattle.std.proofs.Common.{[], refl, ap, ◌∙◌, rules}
use Rattle.reactor.specs.declared.connection.Left.TheVariants.{Waits}
use Rattle.reactor.specs.Connection.{ConnectionState}
use Rattle.reactor.specs.Moved.{nothing_moved}
use Rattle.reactor.proofs.ConnectionLemmas.{served_none, thrown_from, thrown_none}
use Rattle.reactor.proofs.connection.Connection.turn.Goals as goal

pub returns-then-not-waits_for-clause-served : goal.returns-then-not-waits_for-clause-served
returns-then-not-waits_for-clause-served g c talks = (
  nothing_moved,
  [],
  served_none Waits [] (g.met.H.Host.goes_nowhere c.args.occasion.then c.args.host.now c.args.self.now.machine) refl refl (thrown_none refl refl) (λ over. search rules) talks,
)

pub returns-then-eq-clause-served : goal.returns-then-eq-clause-served
returns-then-eq-clause-served g c talks =
    let thrown = c.rest.ensures.thrown in (
      nothing_moved,
      thrown.0,
      served_none c.rest.result thrown.0 (g.met.H.Host.goes_nowhere c.args.occasion.then c.args.host.now c.args.self.now.machine)
          (ap (λ (s : ConnectionState g.row.M.Denot). s.machine) c.rest.ensures.state) (ap (λ (s : ConnectionState g.row.M.Denot). s.past) c.rest.ensures.state) (thrown_from refl refl thrown.1) c.rest.ensures.undone
          (ap (λ (s : ConnectionState g.row.M.Denot). s.is_draining) c.rest.ensures.state ∙ talks),
    )
