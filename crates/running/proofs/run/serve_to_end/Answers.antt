use Rattle.std.proofs.Common.{vec_len}
use Rattle.running.proofs.RunLemmas.{all_entries, out_of_memory}
use Rattle.running.proofs.run.serve_to_end.Goals as goal

pub failure_to_run-requires : goal.failure_to_run-requires
failure_to_run-requires g c =
    out_of_memory c.requires.set_up.0 c.args.made (vec_len c.args.servers) c.in-Err.fault c.requires.set_up.1 c.requires.some c.requires.enough c.in-Err.ensures.failed

pub returns-in-Ok-clause-entries : goal.returns-in-Ok-clause-entries
returns-in-Ok-clause-entries g c = λ none.
    let whole = c.requires.set_up.1 in
    all_entries c.requires.set_up.0 c.args.made c.in-Ok.ran.desk.journal whole (c.in-Ok.ensures.setup none c.requires.set_up.0 whole.set_up)
