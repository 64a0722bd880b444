-- How a desk keeps which entries made the services what they are, and no part of its promise.
use Rattle.std.specs.Prelude.{◌≡◌, ℕ, ◌+◌, ◌<◌, ◌==◌, ◌&&◌, min, nat_le, if◌then◌else◌, Option, None, Some, List, slice_index_or}
use Rattle.probe_core.specs.declared.rule.Rule.{Rule}
use Rattle.probe_core.specs.declared.rule.Rule.TheVariants.{Threshold, Manual, Depends}
use Rattle.desk_core.specs.declared.call.Call.{Call}
use Rattle.desk_core.specs.declared.call.Call.TheVariants.{Register, Retire, Observe, Set, Shutdown, Resume}
use Rattle.desk_core.specs.declared.call.Finding.{Finding}
use Rattle.desk_core.specs.declared.call.Finding.TheVariants.{Pass, Fail}
use Rattle.desk_core.specs.declared.call.Setting.{Setting}
use Rattle.desk_core.specs.declared.call.Setting.TheVariants.{Up, Down}
use Rattle.desk_core.specs.declared.entry.Entry.{Entry}
use Rattle.desk_core.specs.declared.marks.Mark.{Mark}
use Rattle.desk_core.specs.declared.reply.Reply.{Reply}
use Rattle.desk_core.specs.Present.{rule_at}
use Rattle.desk_core.specs.Silence.{is_done}
use Rattle.desk_core.specs.Reason.{down_since, fails_in_row, forgets_all, newest, passes_in_row, retires, shuts}

-- the mark of a slot that was never registered
abbrev pub unmarked : Mark
unmarked = record { retired = None; forgot = None; down = None; fails = 0; passes = 0 }

-- a mark behind an entry that had its slot forget what it heard
abbrev pub begun : ℕ → Mark → Mark
begun at mark = record { retired = mark.retired; forgot = Some at; down = None; fails = 0; passes = 0 }

-- a mark behind a finding that its slot heard
abbrev pub found : Finding → ℕ → ℕ → Mark → Mark
found Pass fall at mark = record { retired = mark.retired; forgot = mark.forgot; down = mark.down; fails = 0; passes = min (mark.passes + 1) 4294967295 }
found Fail fall at mark = record {
  retired = mark.retired;
  forgot = mark.forgot;
  down = if nat_le fall (min (mark.fails + 1) 4294967295) then Some at else mark.down;
  fails = min (mark.fails + 1) 4294967295;
  passes = 0;
}

-- a mark behind a setting that its slot heard
abbrev pub set_to : Setting → ℕ → Mark → Mark
set_to Up at mark = record { retired = mark.retired; forgot = mark.forgot; down = mark.down; fails = 0; passes = 0 }
set_to Down at mark = record { retired = mark.retired; forgot = mark.forgot; down = Some at; fails = 0; passes = 0 }

-- how many failures in a row take a slot of this rule down; 0 where none do
abbrev pub fall_of : Option Rule → ℕ
fall_of None = 0
fall_of (Some (Threshold fall rise start)) = fall
fall_of (Some Manual) = 0
fall_of (Some (Depends mask)) = 0

-- the rule is that of the slot that a report is of
abbrev pub IsRuleFor : List Entry → Call → Option Rule → Type 0
IsRuleFor entries (Register slot rule') rule = Unit {0}
IsRuleFor entries (Retire slot) rule = Unit {0}
IsRuleFor entries (Observe slot finding) rule = rule ≡ rule_at entries slot
IsRuleFor entries (Set slot setting) rule = Unit {0}
IsRuleFor entries Shutdown rule = Unit {0}
IsRuleFor entries Resume rule = Unit {0}

-- the mark of slot i behind an entry at this place, where a report is of a slot of this rule
abbrev pub next_mark : ℕ → Call → Reply → Option Rule → ℕ → Mark → Mark
next_mark i (Register slot rule') reply rule at mark = if slot == i then begun at mark else mark
next_mark i (Retire slot) reply rule at mark =
    if slot == i && is_done reply then record { retired = Some at; forgot = mark.forgot; down = mark.down; fails = mark.fails; passes = mark.passes } else mark
next_mark i (Observe slot finding) reply rule at mark = if slot == i && is_done reply then found finding (fall_of rule) at mark else mark
next_mark i (Set slot setting) reply rule at mark = if slot == i && is_done reply then set_to setting at mark else mark
next_mark i Shutdown reply rule at mark = mark
next_mark i Resume reply rule at mark = begun at mark

-- the newest entry that shut the server down, behind an entry at this place
abbrev pub next_shut : Call → ℕ → Option ℕ → Option ℕ
next_shut (Register slot rule) at shut = shut
next_shut (Retire slot) at shut = shut
next_shut (Observe slot finding) at shut = shut
next_shut (Set slot setting) at shut = shut
next_shut Shutdown at shut = Some at
next_shut Resume at shut = shut

-- a mark says of a registered slot what it heard last
pub record HasHeard (entries : List Entry) (i : ℕ) (mark : Mark) (rule : Rule) : Type 0 where
  pub down : mark.down ≡ down_since entries i rule
  pub fails : mark.fails ≡ fails_in_row entries i rule
  pub passes : mark.passes ≡ passes_in_row entries i rule

-- a mark is a slot's
pub record IsMark (entries : List Entry) (i : ℕ) (mark : Mark) : Type 0 where
  pub retired : mark.retired ≡ newest (retires i) entries
  pub forgot : mark.forgot ≡ newest (forgets_all i) entries
  pub heard : (rule : Rule) → rule_at entries i ≡ Some rule → HasHeard entries i mark rule

-- the marks of all slots, and of the server
pub record HasMarks (entries : List Entry) (shut : Option ℕ) (marks : List Mark) : Type 0 where
  pub shut_by : shut ≡ newest shuts entries
  pub each : (i : ℕ) (other : Mark) → i < 16 → IsMark entries i (slice_index_or marks i other)
