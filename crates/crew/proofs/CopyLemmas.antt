-- A door that tells from a copy: what its copy is of.
use Rattle.std.proofs.Common.{◌≡◌, ◌+◌, List, Result, Ok, Err, OnOk, OnErr, true, length, take, ap, sym, arith}
use Rattle.std.specs.Result.{is_ok}
use Rattle.desk_core.specs.declared.change.Change.{Change}
use Rattle.desk_core.specs.declared.entry.Entry.{Entry}
use Rattle.desk_core.specs.Changes.{changes_of}
use Rattle.desk_core.specs.Transcript.{TranscriptState, IsCopy, IsCopyWithin}
use Rattle.desk_core.specs.Watch.{IsOlder}
use Rattle.desk_core.proofs.TranscriptLemmas.{copied_len, within_grows, within_itself, within_more}

-- a copy that is of the same changes still
left : {copy copy_now : TranscriptState} {changes : List Change} → ((of : List Change) → IsCopy copy of → IsCopy copy_now of) → IsCopyWithin copy changes → IsCopyWithin copy_now changes
left {copy} {copy_now} {changes} stays within =
    let n = copy.gone + length copy.held in
    let front : List Change = take n changes in
    within_more {changes = front} (ap (λ m. take m changes) (sym (copied_len within.copies))) (within_itself (stays front within.copies))

-- a copy that took over what had changed by then, or could not
pub taken_over : {T E : Type 0} (result : Result T E) {copy copy_now : TranscriptState} (seen seen_now : List Entry) → IsOlder seen seen_now → IsCopyWithin copy (changes_of seen)
    → OnOk result (IsCopy copy_now (changes_of seen_now)) → ((of : List Change) → IsCopy copy of → OnErr result (IsCopy copy_now of)) → IsCopyWithin copy_now (changes_of seen_now)
taken_over (Ok value) seen seen_now begins within copied stays = within_itself copied
taken_over (Err error) seen seen_now begins within copied stays = within_grows seen seen_now begins (left stays within)

pub is_taken_over : {T E : Type 0} (result : Result T E) {X : Type 0} → OnOk result X → is_ok result ≡ true → X
is_taken_over (Ok value) copied is = copied
is_taken_over (Err error) copied is = absurd (grind (arith, is))
