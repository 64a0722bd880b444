use Rattle.std.proofs.Common.{refl, sym, subst}
use Rattle.crew.specs.Worker.{HaveLooked}
use Rattle.crew.proofs.WrittenBack.{written_back}
use Rattle.crew.proofs.staff.fn.run_beside.join+arg2.Goals as goal

pub returns : goal.returns
returns g c =
    let workers = c.captures.workers in record {
      len = refl;
      looked = subst (HaveLooked workers.items) (sym (written_back workers.items _ c.work_all.new.workers workers.len workers.ok.0 c.as_mut_slice.ensures.value c.work_all.auto.workers))
          (subst (λ old. HaveLooked old c.work_all.new.workers) c.as_mut_slice.ensures.value c.work_all.ensures);
    }
