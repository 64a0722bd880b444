use Rattle.std.proofs.Common.{rules, ◌∙◌, sym}
use Rattle.script.specs.Change.{line_changes}
use Rattle.live_run.proofs.SetupLines.{results_in_place}
use Rattle.running.proofs.RunLemmas.{refused_line, wholly_set_up}
use Rattle.server.proofs.OwnLemmas.{seats_dealt}
use Rattle.running.proofs.ScriptFailureLemmas.{script_ends}
use Rattle.running.proofs.run.set_up.Goals as goal

-- src/run.rt:108:11
pub first_refused-requires : goal.first_refused-requires
first_refused-requires g c =
    let place = results_in_place _ c.args.bytes.now c.in-Ok.script c.in_ok-made.made.results _ c.in_ok-made.made.seats (λ same. let no : ⊥ = cc in absurd no)
    c.in-Ok.ensures.ok c.in_ok-made.ensures.seats in
    search rules

-- src/run.rt:91:1
pub returns-clause-ok : goal.returns-clause-ok
returns-clause-ok g c =
    let hall = c.in_ok-made.ensures.hall in
    let changes = c.in-None.ensures.none in
    record {
      script = c.in-Ok.script;
      is = c.in-Ok.ensures.ok;
      names = hall.0;
      most = hall.1;
      seats_are = hall.2;
      whole = wholly_set_up (line_changes c.in-Ok.script.names c.in-Ok.script.lines) c.in_ok-made.made c.in-Ok.script.max
          c.args.seats hall.1 hall.2 c.in_ok-made.ensures.seats (search rules);
      changes = search rules;
    }

pub refused-requires-clause-whole : goal.refused-requires-clause-whole
refused-requires-clause-whole g c =
    seats_dealt c.in_ok-made.made.hall c.in-Ok.script.max c.args.seats _ c.in_ok-made.made.results c.in_ok-made.made.seats c.in_ok-made.ensures.seats
    ∙ sym c.in_ok-made.ensures.hall.2

pub returns-in-Some-clause-failure : goal.returns-in-Some-clause-failure
returns-in-Some-clause-failure g c =
    refused_line c.args.bytes.now c.in-Ok.script c.in_ok-made.made c.args.seats c.in-Some.line c.refused.result c.in-Ok.ensures.ok
    c.in_ok-made.ensures.hall.1 c.in_ok-made.ensures.hall.2 c.in_ok-made.ensures.seats c.refused.ensures.alone (search rules) c.refused.ensures.value

pub returns-in-Err-clause-failure : goal.returns-in-Err-clause-failure
returns-in-Err-clause-failure g c = script_ends c.args.bytes.now _ _ c.in-Err.ensures.fault c.script_failure.ensures
