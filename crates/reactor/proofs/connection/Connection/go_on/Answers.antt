use Rattle.std.proofs.Common.{[], refl, ap, sym, subst, ◌∙◌, true≢false}
use Rattle.std.proofs.Math.Logic.{∥∥₁_map}
use Rattle.reactor.specs.declared.connection.End.TheVariants.{GivenUp}
use Rattle.reactor.specs.declared.connection.Left.TheVariants.{Over, Ready}
use Rattle.reactor.specs.Connection.{ConnectionState, state_of}
use Rattle.reactor.proofs.ConnectionLemmas.{draining_looks_not, given_up_undone, ready_undone, served_done, served_so, thrown_none, time_given}
use Rattle.reactor.proofs.connection.Connection.go_on.Goals as goal

pub invariant_of-self : goal.invariant_of-self
invariant_of-self g c =
    let turned = c.turn-turned.ensures.turned in
    record {
      stands = ∥∥₁_map c.args.self.now.stands (λ stood. subst (λ past. g.M.Machine.stands past c.turn-turned.new.machine) (sym turned.1.grows)
          (g.met.H.Host.goes_stands c.args.occasion.then c.args.host.now c.turn-turned.new.host c.args.self.now.machine c.turn-turned.new.machine c.args.self.now.past.moved turned.0 stood turned.1.goes));
    }

pub returns-in-Rests-clause-served : goal.returns-in-Rests-clause-served
returns-in-Rests-clause-served g c =
    let turned = c.turn-turned.ensures.turned in
    let thrown = c.rest.ensures.thrown in
    let renewed = c.renew-in-Rests.ensures in
    let hastened = c.note_turn.ensures in (
      turned.0,
      thrown.0,
      served_so c.rest.result thrown.0 c.renew.ensures.stream turned.1
          (ap (λ (s : ConnectionState g.row.M.Denot). s.machine) c.rest.ensures.state ∙ (renewed.machine ∙ ap (λ (s : ConnectionState g.row.M.Denot). s.machine) hastened.state))
          (ap (λ (s : ConnectionState g.row.M.Denot). s.past) c.rest.ensures.state ∙ (renewed.past ∙ ap (λ (s : ConnectionState g.row.M.Denot). s.past) hastened.state))
          (ap g.S.Stream.remaining renewed.stream ∙ hastened.remaining) (ap g.S.Stream.contents renewed.stream ∙ hastened.contents) thrown.1 c.rest.ensures.undone
          (ap (λ (s : ConnectionState g.row.M.Denot). s.is_draining) c.rest.ensures.state
          ∙ (renewed.draining ∙ (ap (λ (s : ConnectionState g.row.M.Denot). s.is_draining) hastened.state ∙ c.requires.talks))),
    )

pub returns-in-GoesOn-clause-served : goal.returns-in-GoesOn-clause-served
returns-in-GoesOn-clause-served g c =
    let turned = c.turn-turned.ensures.turned in
    let renewed = c.renew-in-GoesOn.ensures in
    let hastened = c.note_turn.ensures in (
      turned.0,
      [],
      served_so {mid = c.renew-in-GoesOn.new.self} Ready [] c.renew.ensures.stream turned.1 (renewed.machine ∙ ap (λ (s : ConnectionState g.row.M.Denot). s.machine) hastened.state)
          (renewed.past ∙ ap (λ (s : ConnectionState g.row.M.Denot). s.past) hastened.state)
          (ap g.S.Stream.remaining renewed.stream ∙ hastened.remaining) (ap g.S.Stream.contents renewed.stream ∙ hastened.contents) (thrown_none refl refl) ready_undone
          (renewed.draining ∙ (ap (λ (s : ConnectionState g.row.M.Denot). s.is_draining) hastened.state ∙ c.requires.talks)),
    )

pub returns-in-GivenUp-clause-served : goal.returns-in-GivenUp-clause-served
returns-in-GivenUp-clause-served g c =
    let turned = c.turn-turned.ensures.turned in
    let hastened = c.note_turn.ensures in (
      turned.0,
      [],
      served_so {mid = c.note_turn.new.self} (Over (GivenUp c.in-GivenUp.why)) [] c.renew.ensures.stream turned.1 (ap (λ (s : ConnectionState g.row.M.Denot). s.machine) hastened.state)
          (ap (λ (s : ConnectionState g.row.M.Denot). s.past) hastened.state) hastened.remaining hastened.contents (thrown_none refl refl) (given_up_undone c.in-GivenUp.why)
          (ap (λ (s : ConnectionState g.row.M.Denot). s.is_draining) hastened.state ∙ c.requires.talks),
    )

pub returns-in-Done-clause-served : goal.returns-in-Done-clause-served
returns-in-Done-clause-served g c =
    let turned = c.turn-turned.ensures.turned in
    let finished = c.finish.ensures in
    let thrown = finished.thrown in
    let hastened = c.note_turn.ensures in (
      turned.0,
      thrown.0,
      served_done c.finish.result thrown.0 c.renew.ensures.stream turned.1 (finished.machine ∙ ap (λ (s : ConnectionState g.row.M.Denot). s.machine) hastened.state)
          (finished.past ∙ ap (λ (s : ConnectionState g.row.M.Denot). s.past) hastened.state) hastened.remaining hastened.contents thrown.1 (rw c.in-Done.is at turned.2),
    )

pub returns-in-Done-clause-admitted : goal.returns-in-Done-clause-admitted
returns-in-Done-clause-admitted g c = λ ends goes. draining_looks_not g.M.Machine.watches g.M.Machine.waiting (state_of c.finish.new.self) (c.finish.ensures.draining goes)

pub returns-in-Done-clause-time : goal.returns-in-Done-clause-time
returns-in-Done-clause-time g c = λ goes talks. absurd (true≢false (sym (c.finish.ensures.draining goes) ∙ talks))

pub returns-in-GivenUp-clause-admitted : goal.returns-in-GivenUp-clause-admitted
returns-in-GivenUp-clause-admitted g c = λ ends goes. absurd (true≢false goes)

pub returns-in-GivenUp-clause-time : goal.returns-in-GivenUp-clause-time
returns-in-GivenUp-clause-time g c = λ goes talks. absurd (true≢false goes)

pub returns-in-Rests-clause-time : goal.returns-in-Rests-clause-time
returns-in-Rests-clause-time g c = λ goes talks.
    let renewed = c.renew-in-Rests.ensures in
    time_given (state_of c.note_turn.new.self) (state_of c.renew-in-Rests.new.self) (state_of c.rest.new.self)
    (ap (λ (s : ConnectionState g.row.M.Denot). s.until) c.note_turn.ensures.state) renewed.time renewed.machine c.rest.ensures.state

pub returns-in-GoesOn-clause-time : goal.returns-in-GoesOn-clause-time
returns-in-GoesOn-clause-time g c = λ goes talks.
    let renewed = c.renew-in-GoesOn.ensures in
    let after = state_of c.renew-in-GoesOn.new.self in
    time_given (state_of c.note_turn.new.self) after after (ap (λ (s : ConnectionState g.row.M.Denot). s.until) c.note_turn.ensures.state) renewed.time renewed.machine refl
