use Rattle.std.proofs.Common.{ap}
use Rattle.crew.specs.Answering.{end_of}
use Rattle.crew.proofs.worker.answer.Goals as goal

pub returns-in-Err-clause-end : goal.returns-in-Err-clause-end
returns-in-Err-clause-end g c =
    record {
      read = λ is.
          let why = c.in-Err.ensures.read is in
          record {
            frames = why.0;
            cause = why.1;
            cut = why.2;
            output = ap (end_of g.O.Write.contents) why.3;
            door = why.4;
            bell = why.5;
          };
      no_memory = λ is.
          let why = c.in-Err.ensures.no_memory is in
          record {
            frames = why.0;
            starves = why.1;
            output = ap (end_of g.O.Write.contents) why.2;
            bell = why.3;
            reads = why.4;
          };
      write = λ is.
          let why = c.in-Err.ensures.write is in
          let cut = why.2 in
          record {
            cause = why.0;
            reads = why.1;
            head = cut.0;
            body = cut.1;
            asked = cut.2;
            done = cut.3;
            part = cut.4;
            ending = cut.5;
            is_head = cut.6;
            read = cut.7;
            meets = cut.8;
            sends = cut.9;
            some = cut.10;
            cut = cut.11;
          };
    }
