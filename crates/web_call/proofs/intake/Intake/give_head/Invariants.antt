use Rattle.std.proofs.Common.{◌≡◌, ◌≤◌, ◌+◌, ◌-◌, ◌++◌, ℕ, List, length, take, vec_len}
use Rattle.web_call.specs.Intake.{HasRead}
use Rattle.web_call.specs.Reading.{head_wanted, owed}
use Rattle.web_call.proofs.intake.Intake.give_head.Given as goal

abbrev pub invariant-loop-taken : goal.invariant-loop-taken
invariant-loop-taken l = record {
  within : l.taken ≤ length l.bytes;
  read : (received : List ℕ) → HasRead l.initial.self received → HasRead l.self (received ++ take l.taken l.bytes);
  owes : owed l.self.reading (vec_len l.self.head) + l.taken ≤ owed l.initial.self.reading (vec_len l.initial.self.head);
  first : l.taken ≡ 0 → l.self ≡ l.initial.self;
  closed : head_wanted l.initial.self.reading ≡ 0 → l.taken ≡ 0;
}

abbrev pub decreases-loop-taken : goal.decreases-loop-taken
decreases-loop-taken l = length l.bytes - l.taken
