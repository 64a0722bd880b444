-- Copies of status changes.
use Rattle.std.proofs.Common.{ℕ, ◌≡◌, ◌+◌, ◌≤◌, Option, None, Some, List, ◌++◌, length, take, drop, sym, ap, ◌∙◌, subst, arith, max, IfSome, length-drop}
use Rattle.std.proofs.lemmas.List.{take-append-drop, drop-append-le, length-take, take-take}
use Rattle.std.proofs.Math.Seq.{take-length}
use Rattle.desk_core.specs.declared.change.Change.{Change}
use Rattle.desk_core.specs.declared.entry.Entry.{Entry}
use Rattle.desk_core.specs.Changes.{changes_of}
use Rattle.desk_core.specs.Transcript.{TranscriptState, IsCopy, IsCopyWithin}
use Rattle.desk_core.specs.Watch.{IsOlder}
use Rattle.desk_core.proofs.WatchLemmas.{front_stays}
use Rattle.tail.specs.Tail.{forgotten, kept_of, most_held}

-- of a list that goes on at least as many are forgotten, and never more than there are
pub forgotten_within : (kept : Option ℕ) (n : ℕ) → forgotten kept n ≤ n
forgotten_within None n = omega arith
forgotten_within (Some kept) n = omega arith

pub forgotten_grows : (kept : Option ℕ) (m n : ℕ) → m ≤ n → forgotten kept m ≤ forgotten kept n
forgotten_grows None m n more = omega arith
forgotten_grows (Some kept) m n more = omega (arith, more)

-- how many a copy's changes are
pub copied_len : {copy : TranscriptState} {changes : List Change} → IsCopy copy changes → copy.gone + length copy.held ≡ length changes
copied_len {copy} {changes} is =
    omega (arith, ap length is.rest, length-drop copy.gone changes, is.last, forgotten_within copy.kept (length changes))

-- a copy of some changes is one of a front of them, and so it is as they go on
pub within_itself : {copy : TranscriptState} {changes : List Change} → IsCopy copy changes → IsCopyWithin copy changes
within_itself {copy} {changes} is =
    let len = copied_len is in
    record { few = omega (arith, len); copies = subst (IsCopy copy) (sym (ap (λ n. take n changes) len ∙ take-length changes)) is }

pub within_more : {copy : TranscriptState} {changes more : List Change} → take (length changes) more ≡ changes → IsCopyWithin copy changes → IsCopyWithin copy more
within_more {copy} {changes} {more} front within =
    let n = copy.gone + length copy.held in
    let shorter : length changes ≤ length more = omega (arith, ap length front, length-take (length changes) more) in
    let same : take n changes ≡ take n more = ap (take n) (sym front) ∙ take-take n (length changes) more within.few in
    record { few = omega (arith, within.few, shorter); copies = subst (IsCopy copy) same within.copies }

pub within_grows : {copy : TranscriptState} (older entries : List Entry) → IsOlder older entries → IsCopyWithin copy (changes_of older) → IsCopyWithin copy (changes_of entries)
within_grows older entries is_older = within_more (front_stays older entries is_older)

-- what a copy holds and the changes behind it
pub copied_on : (copy : TranscriptState) (changes held : List Change) → IsCopyWithin copy changes → held ≡ copy.held ++ drop (copy.gone + length copy.held) changes
    → (held ≡ drop copy.gone changes) × (copy.gone ≤ forgotten copy.kept (length changes))
copied_on copy changes held within all =
    let n = copy.gone + length copy.held in
    let front : List Change = take n changes in
    let len : length front ≡ n = omega (arith, within.few, length-take n changes) in (
      all ∙ ap (λ xs. xs ++ drop n changes) within.copies.rest
          ∙ sym (drop-append-le copy.gone front (drop n changes) (omega (arith, len))) ∙ ap (drop copy.gone) (take-append-drop n changes),
      omega (arith, within.copies.last, within.few, forgotten_grows copy.kept (length front) (length changes) (omega (arith, len, within.few))),
    )

-- memory for the changes that are kept
pub room_anew : (kept : Option ℕ) (changes : List Change) (old new : ℕ) → IfSome kept (λ k. old ≤ most_held k) → new ≤ max old (length (kept_of kept changes))
    → IfSome kept (λ k. new ≤ most_held k)
room_anew None changes old new bound is = tt
room_anew (Some kept) changes old new bound is = omega (arith, bound, is, length-drop (forgotten (Some kept) (length changes)) changes)
