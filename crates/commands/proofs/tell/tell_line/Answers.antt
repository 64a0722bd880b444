use Rattle.commands.proofs.TellLemmas.{answer_read, last_read, told_by_print}
use Rattle.commands.proofs.tell.tell_line.Goals as goal

pub returns-in-Ok-Some : goal.returns-in-Ok-Some
returns-in-Ok-Some g c =
    let read = g.R.Read.remaining in
    let answer = c.in-Ok-Some.answer.items in
    let consumed = answer_read c.args.line.now answer (read c.args.reader.now) (read c.tell.new.reader) (rw c.in-Ok-Some.field-0-is at c.in-Ok-Some.ensures.answered) in
    let printed = rw c.in-Ok-Some.field-0-is at c.print_answer.ensures in
    record { told = told_by_print c.print_answer.result _ _ _ _ answer consumed printed.status printed.one_of_two printed.printed }

pub returns-in-Some : goal.returns-in-Some
returns-in-Some g c =
    let read = g.R.Read.remaining in
    let written = g.W.Write.contents in
    let answer = c.in-Some.answer.items in
    let printed = c.print_answer-in-Some in
    let consumed = last_read c.args.line.now answer (written c.args.writer.now) (written c.tell.new.writer) (read c.args.reader.now) (read c.tell.new.reader) (read c.last_answer.new.reader)
    c.in-Err-Write.error (rw c.in-Err-Write.field-0-is at c.in-Err-Write.ensures.fault) c.in-Some.ensures in
    record { told = told_by_print printed.result _ _ _ _ answer consumed printed.ensures.status printed.ensures.one_of_two printed.ensures.printed }
