use Rattle.std.proofs.Common.{◌≡◌, subst}
use Rattle.std.specs.Prelude.{IfSome}
use Rattle.control.specs.declared.rights.Rights.TheVariants as rights
use Rattle.control_server.specs.Server.{terms_of}
use Rattle.live_run.specs.Sitting.{terms_by}
use Rattle.running.specs.Run.{AreLoopsOf}
use Rattle.running.proofs.RunLemmas.{limits_are}
use Rattle.running.proofs.begun.listen.Goals as goal

pub returns-clause-limits : goal.returns-clause-limits
returns-clause-limits g c =
    subst (λ limits. AreLoopsOf limits c.in_ok-loops.loops.servers.items) (limits_are c.limits.result c.args.setting.options.bounds c.limits.ensures.connections c.limits.ensures.watches)
    c.in_ok-loops.ensures.limits

pub returns-clause-controlled : goal.returns-clause-controlled
returns-clause-controlled g c =
    let held = c.in_ok-loops.ensures.controlled in
    let bound = c.in_ok-listening.ensures.controlled in
    (λ some. bound.0 (held.0 some), λ some. held.1 (bound.1 some))

pub returns-clause-reported : goal.returns-clause-reported
returns-clause-reported g c =
    let held = c.in_ok-loops.ensures.reported in
    let bound = c.in_ok-listening.ensures.reported in
    (λ some. bound.0 (held.0 some), λ some. held.1 (bound.1 some))

pub returns-clause-all : goal.returns-clause-all
returns-clause-all g c =
    subst (λ most. IfSome c.in_ok-loops.loops.control (λ one. terms_of one ≡ terms_by rights.All most)) c.most.ensures c.in_ok-loops.ensures.all

pub returns-clause-reports : goal.returns-clause-reports
returns-clause-reports g c =
    subst (λ most. IfSome c.in_ok-loops.loops.report (λ one. terms_of one ≡ terms_by rights.Reports most)) c.most.ensures c.in_ok-loops.ensures.reports
