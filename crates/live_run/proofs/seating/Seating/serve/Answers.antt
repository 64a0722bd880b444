use Rattle.std.proofs.Common.{sym, subst, map, vec_len, get_or, ◌∙◌, ◌++◌}
use Rattle.live_run.specs.Loops.{AllEndedEmpty, SeatsHaveLooked, SeatsAfterRun}
use Rattle.live_run.specs.Seating.{seats_of, servers_of}
use Rattle.live_run.specs.Watched.{IsWatchedBy}
use Rattle.live_run.specs.declared.ran.SessionPlaces.{SessionPlaces}
use Rattle.live_run.proofs.LoopLemmas.{all_ours, control_ours, first_ours, loops_ours, one_stays, report_ours, seats_looked_by, seats_served, servers_served}
use Rattle.live_run.proofs.seating.Seating.serve.Goals as goal

pub returns-clause-served : goal.returns-clause-served
returns-clause-served g c =
    let hall = c.args.hall.now in
    let loops = vec_len c.args.self.loops in
    let controlled = vec_len c.args.self.control in
    subst (λ seats. SeatsAfterRun g.K.Keep.kept c.args.places.watchdog c.give_back.result.places.watchdog hall.most hall.names loops controlled (seats_of c.args.self) seats)
    (sym c.give_back.ensures.seats)
    (subst (λ (places : SessionPlaces). SeatsAfterRun g.K.Keep.kept c.args.places.watchdog places.watchdog hall.most hall.names loops controlled (seats_of c.args.self) (c.serve_watched-watched.result.0.seats.items ++ (map (λ seated. seated.seat) c.serve_watched-watched.result.1.1.1.items ++ (c.serve_watched-watched.result.1.1.0.seats.items ++ c.serve_watched-watched.result.1.0.seats.items))))
    (sym c.give_back.ensures.places)
    (seats_served g.K.Keep.kept c.args.places.watchdog c.serve_watched-watched.result.0.watchdog hall.most hall.names c.args.self.back.seats.items c.serve_watched-watched.result.0.seats.items
    c.args.self.control.items c.serve_watched-watched.result.1.1.0.seats.items c.args.self.report.items c.serve_watched-watched.result.1.0.seats.items c.args.self.loops.items
    c.serve_watched-watched.result.1.1.1.items loops controlled c.requires.room.first c.serve_watched-watched.ensures.watched.count c.serve_watched-watched.ensures.watched.first
    (sym c.args.self.loops.ok.0) (sym c.serve_watched-watched.result.1.1.1.ok.0 ∙ (c.serve_watched-watched.ensures.len ∙ c.args.self.loops.ok.0)) (sym c.args.self.control.ok.0)
    c.serve_watched-watched.ensures.served c.serve_watched-watched.ensures.sat.met c.serve_watched-watched.ensures.reported.met))

pub returns-clause-ours : goal.returns-clause-ours
returns-clause-ours g c = all_ours _ _ _ _ _ _ _ _ _ _ (returns-clause-served g c) c.requires.ours

pub serve_watched-watched-requires-clause-first : goal.serve_watched-watched-requires-clause-first
serve_watched-watched-requires-clause-first g c κs within =
    first_ours (λ seated. seated.seat) c.args.hall.now c.args.self.back.seats.items (c.args.self.control.items ++ c.args.self.report.items) c.args.self.loops.items c.requires.ours

pub serve_watched-watched-requires-clause-reporters : goal.serve_watched-watched-requires-clause-reporters
serve_watched-watched-requires-clause-reporters g c κs within =
    report_ours (λ seated. seated.seat) c.args.hall.now c.args.self.back.seats.items c.args.self.control.items c.args.self.report.items c.args.self.loops.items c.requires.room.first c.requires.ours

pub serve_watched-watched-requires-clause-seats : goal.serve_watched-watched-requires-clause-seats
serve_watched-watched-requires-clause-seats g c κs within =
    control_ours (λ seated. seated.seat) c.args.hall.now c.args.self.back.seats.items c.args.self.control.items c.args.self.report.items c.args.self.loops.items c.requires.room.first c.requires.ours

pub serve_watched-watched-requires-clause-loops : goal.serve_watched-watched-requires-clause-loops
serve_watched-watched-requires-clause-loops g c κs within =
    loops_ours c.args.hall.now c.args.self.back.seats.items (c.args.self.control.items ++ c.args.self.report.items) c.args.self.loops.items c.requires.room.first c.requires.ours

pub returns-clause-looked : goal.returns-clause-looked
returns-clause-looked g c = λ none.
    subst (λ seats. SeatsHaveLooked (vec_len c.args.self.loops) (seats_of c.args.self) seats) (sym c.give_back.ensures.seats)
    (seats_looked_by c.args.self.back.seats.items c.serve_watched-watched.result.0.seats.items c.args.self.control.items c.serve_watched-watched.result.1.1.0.seats.items
    c.args.self.report.items c.serve_watched-watched.result.1.0.seats.items c.args.self.loops.items c.serve_watched-watched.result.1.1.1.items
    (vec_len c.args.self.loops) c.requires.room.first (sym c.args.self.loops.ok.0)
    (sym c.serve_watched-watched.result.1.1.1.ok.0 ∙ (c.serve_watched-watched.ensures.len ∙ c.args.self.loops.ok.0))
    c.serve_watched-watched.ensures.served
    (one_stays c.args.self.back.seats.items c.serve_watched-watched.result.0.seats.items c.requires.room.first c.serve_watched-watched.ensures.watched.count
    (λ other. subst (λ watching. IsWatchedBy g.K.Keep.kept watching c.serve_watched-watched.result.0.watchdog (get_or c.args.self.back.seats.items 0 other) (get_or c.serve_watched-watched.result.0.seats.items 0 other))
    none.watchdog (c.serve_watched-watched.ensures.watched.first other)))
    (c.serve_watched-watched.ensures.sat.still none.control) (c.serve_watched-watched.ensures.reported.still none.report))

pub returns-clause-servers : goal.returns-clause-servers
returns-clause-servers g c =
    subst (λ servers. AllEndedEmpty (servers_of c.args.self) servers) (sym c.give_back.ensures.servers)
    (servers_served c.args.self.loops.items c.serve_watched-watched.result.1.1.1.items
    (sym c.serve_watched-watched.result.1.1.1.ok.0 ∙ (c.serve_watched-watched.ensures.len ∙ c.args.self.loops.ok.0)) c.serve_watched-watched.ensures.served)
