use Rattle.std.proofs.Common.{rules, ◌≡◌, ◌+◌, [], ◌∷◌, ◌++◌, length}
use Rattle.live_server.specs.Loop.{empty_table, held_by}
use Rattle.running.proofs.RunLemmas.{one_loop_more}
use Rattle.running.proofs.loops.loops_with.Goals as goal

pub loop-preserved : goal.loop-preserved
loop-preserved g c =
    let pushed : c.push-in-loop.new.self.items ≡ c.loop.servers.items ++ c.in_ok-server.server ∷ [] = search rules in
    let count : length c.push-in-loop.new.self.items ≡ c.loop.counter + 1 = search rules in
    let empty : held_by c.in_ok-server.server ≡ empty_table c.args.limits = search rules in
    (count, one_loop_more c.args.limits c.loop.servers.items _ c.in_ok-server.server pushed c.loop.invariant.1 empty)
