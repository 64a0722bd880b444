use Rattle.reactor.specs.TalkingLaws.{said_nothing, said_then}
use Rattle.control_server.proofs.SaidLemmas.{said_to_its_end}
use Rattle.control_server.proofs.laws.turns_make_a_session.Goals as goal

pub returns-clause-begins : goal.returns-clause-begins
returns-clause-begins c = λ kept terms names seat session. said_nothing seat session

pub returns-clause-goes_on : goal.returns-clause-goes_on
returns-clause-goes_on c = λ kept terms names first now later session mid session_now moved more before after. said_then before after

pub returns-clause-ends : goal.returns-clause-ends
returns-clause-ends c = λ kept terms names first now session_now moved said done all_sent. said_to_its_end kept terms said done all_sent
