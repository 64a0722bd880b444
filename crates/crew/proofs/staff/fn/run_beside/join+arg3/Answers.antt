use Rattle.std.proofs.Common.{refl, sym, subst}
use Rattle.crew.specs.CommandRun.{HaveRun}
use Rattle.crew.proofs.WrittenBack.{written_back}
use Rattle.crew.proofs.staff.fn.run_beside.join+arg3.Goals as goal

pub returns : goal.returns
returns g c =
    let runs = c.captures.runs in
    let names = c.captures.place.now.hall.now.names in record {
      len = refl;
      ran = subst (HaveRun names runs.items) (sym (written_back runs.items _ c.run_all.new.runs runs.len runs.ok.0 c.as_mut_slice.ensures.value c.run_all.auto.runs))
          (subst (λ old. HaveRun names old c.run_all.new.runs) c.as_mut_slice.ensures.value c.run_all.ensures);
    }
