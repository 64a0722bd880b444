use Rattle.web_call.proofs.WholeCallLemmas.{cut_of, read_cut, silent_of, starved_at, turn_of, unasked_of, waiting_of, whole_of}
use Rattle.web_call.proofs.laws.whole_calls.Goals as goal

pub returns : goal.returns
returns c = record {
  whole = λ source past call outcome stands is. (whole_of source past call outcome is stands).1;
  front = λ source past call stands is. (cut_of source past call is stands).0;
  silent = λ source past call stands is. silent_of source past call is stands;
  wanting = λ source past call stands is. (read_cut source past call is stands, unasked_of source past call is stands);
  waiting = λ source past call stands is. waiting_of source past call is stands;
  starved = λ source past call stands is. starved_at source past call is stands;
  turns = λ call. turn_of call;
}
