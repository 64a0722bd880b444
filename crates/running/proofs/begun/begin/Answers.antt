use Rattle.std.proofs.Common.{◌≡◌, sym, subst, ◌∙◌}
use Rattle.std.specs.Prelude.{IfSome, IsSome}
use Rattle.control.specs.declared.rights.Rights.TheVariants as rights
use Rattle.control_server.specs.Server.{terms_of}
use Rattle.live_run.specs.Sitting.{terms_by}
use Rattle.running.specs.Run.{AreLoopsOf, limits_in}
use Rattle.running.proofs.begun.begin.Goals as goal

pub returns-clause-limits : goal.returns-clause-limits
returns-clause-limits g c =
    subst (λ servers. AreLoopsOf (limits_in c.args.setting.options.bounds) servers.items) (sym (c.notifying.ensures.servers ∙ c.in_ok-begun.ensures.servers))
    c.in_ok-loops.ensures.limits

pub returns-clause-controlled : goal.returns-clause-controlled
returns-clause-controlled g c =
    let told = c.notifying.ensures.control in
    let is = c.in_ok-begun.ensures.control in
    let held = c.in_ok-loops.ensures.controlled in
    (λ some. held.0 (subst (λ server. IsSome server) is (told.0 some)), λ some. told.1 (subst (λ server. IsSome server) (sym is) (held.1 some)))

pub returns-clause-reported : goal.returns-clause-reported
returns-clause-reported g c =
    let is = c.notifying.ensures.report ∙ c.in_ok-begun.ensures.report in
    let held = c.in_ok-loops.ensures.reported in
    (λ some. held.0 (subst (λ server. IsSome server) is some), λ some. subst (λ server. IsSome server) (sym is) (held.1 some))

pub returns-clause-terms : goal.returns-clause-terms
returns-clause-terms g c = c.notifying.ensures.terms c.args.made.now.hall.most (record {
  control = subst (λ server. IfSome server (λ one. terms_of one ≡ terms_by rights.All c.args.made.now.hall.most)) (sym c.in_ok-begun.ensures.control)
      c.in_ok-loops.ensures.all;
  report = subst (λ server. IfSome server (λ one. terms_of one ≡ terms_by rights.Reports c.args.made.now.hall.most)) (sym c.in_ok-begun.ensures.report)
      c.in_ok-loops.ensures.reports;
})
