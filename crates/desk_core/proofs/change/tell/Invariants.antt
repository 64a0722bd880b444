use Rattle.std.proofs.Common.{◌≡◌, ◌+◌, ◌-◌, ◌/◌, ◌^◌, ◌≤◌, ◌<◌, ◌++◌, length}
use Rattle.desk_core.specs.Changes.{changed}
use Rattle.desk_core.specs.Slots.{shown_in}
use Rattle.desk_core.proofs.change.tell.Given as goal

abbrev pub invariant-loop-old : goal.invariant-loop-old
invariant-loop-old l = record {
  range : l.number ≤ 16;
  old_is : l.old ≡ l.fn.before / 4 ^ l.number;
  new_is : l.new ≡ l.fn.after / 4 ^ l.number;
  room : 16 ≤ l.changes.room + l.number;
  few : length l.changes.items + 16 < 9223372036854775808 + l.number;
  kept : l.changes.keep ≡ l.fn.changes.keep;
  capacity : l.changes.capacity ≡ l.fn.changes.capacity;
  told : l.changes.items ≡ l.fn.changes.items ++ changed l.at (shown_in l.fn.before) (shown_in l.fn.after) l.number;
}

abbrev pub decreases-loop-old : goal.decreases-loop-old
decreases-loop-old l = 16 - l.number
