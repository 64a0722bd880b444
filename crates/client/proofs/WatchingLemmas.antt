-- A listener that hears the statuses of a response while it comes.
use Rattle.std.proofs.Common.{ℕ, ◌≡◌, ◌+◌, take, ◌<◌, ◌≤◌, Bool, true, false, List, [], ◌∷◌, ◌++◌, Option, length, refl, sym, ap, ◌∙◌, subst, inl, inr, arith, length-append}
use Rattle.std.proofs.KnownBytes.{Appends-nil, Appends-trans, Consumes-nil}
use Rattle.std.proofs.lemmas.List.{append-nil}
use Rattle.std.proofs.lemmas.Bool.Decides.{nat_tests}
use Rattle.std.specs.Prelude.{None, Ok, Err}
use Rattle.std.specs.Io.KnownBytes.{Appends}
use Rattle.web_call.specs.InputHead.{ends_blank}
use Rattle.web_call.specs.declared.method.Method.{Method}
use Rattle.web_call.specs.declared.method.Method.TheVariants.{Check, Watch}
use Rattle.client.specs.declared.ask_fault.AskFault.{AskFault}
use Rattle.client.specs.declared.ask_fault.AskFault.TheVariants.{Read, Write, BadResponse, Http, NoMemory}
use Rattle.client.specs.declared.reply.ReplyStage.{ReplyStage}
use Rattle.client.specs.declared.reply.ReplyStage.TheVariants.{Head, Body, Told}
use Rattle.client.specs.declared.told.Told.{Told as Answered}
use Rattle.client.specs.Ask.{IsAnswerTo, IsFaultAt, Says}
use Rattle.client.specs.Growth.{EndsInStatus, Grows}
use Rattle.client.specs.Heard.{HaveTold, Hears, IsHeardFor, TellSoFar, InHead, InBody, wanted_by_end}
use Rattle.client.specs.Reply.{IsTold, ByCount, WasOpen, is_enough}
use Rattle.client.specs.Stages.{StandsAt, statuses_at, wanted_at}
use Rattle.client.proofs.AskingLemmas.{few_told}

-- what a response of which more has to come has told so far
pub told_so_far : (method : Method) (most : ℕ) (bytes head : List ℕ) (stage : ReplyStage) → method ≡ Watch → 0 < wanted_at stage → StandsAt method most bytes head stage
    → TellSoFar bytes (statuses_at stage)
told_so_far method most bytes head Head is wants stands = InHead stands.1 refl
told_so_far Watch most bytes head (Body reading) is wants stands = InBody reading.body.next reading.body.more reading.heard.splitter stands.reply
told_so_far Check most bytes head (Body reading) is wants stands = cc
told_so_far method most bytes head (Told told) is wants stands = absurd (omega arith)

-- it is what a front of all bytes has told
pub front_told : (bytes piece statuses : List ℕ) → TellSoFar bytes statuses → HaveTold (bytes ++ piece) statuses
front_told bytes piece statuses tell = record { front = bytes; is_front = record { rest = piece; is = refl }; tell = tell }

-- the same of all bytes
pub all_told : (bytes statuses : List ℕ) → TellSoFar bytes statuses → HaveTold bytes statuses
all_told bytes statuses tell = record { front = bytes; is_front = record { rest = []; is = sym (append-nil bytes) }; tell = tell }

-- a Watch has at most as many statuses as it asks for
pub few_so_far : (most : ℕ) (bytes head : List ℕ) (stage : ReplyStage) → 1 ≤ most → StandsAt Watch most bytes head stage → length (statuses_at stage) ≤ most
few_so_far most bytes head Head some stands = omega (arith, some)
few_so_far most bytes head (Body reading) some stands = let unfinished = stands.unfinished in grind (arith, nat_tests, unfinished)
few_so_far most bytes head (Told told) some stands = few_told Watch most bytes told.statuses.items told.end refl some stands

-- one status more is one that was not reached, and then all that was asked for
pub one_short : (before after : List ℕ) (status : ℕ) → after ≡ before ++ status ∷ [] → is_enough Watch (length after) (length before) ≡ false
one_short before after status is =
    let len : length after ≡ length before + 1 = ap length is ∙ length-append before (status ∷ []) in grind (arith, nat_tests, len)

-- so bytes that end in a status tell it to a Watch of as many statuses as there are then
pub told_here : (bytes before after : List ℕ) → EndsInStatus Watch bytes before after → IsTold Watch (length after) bytes after None
told_here bytes before after ends =
    ByCount ends.next ends.more before ends.message ends.status ends.ends ends.fits (one_short before after ends.status ends.after_is)
    ends.response ends.after_is (grind (arith, nat_tests)) refl

-- the answer of a Watch that was left there
pub left_says : (told : Answered) (bytes before after : List ℕ) → told.statuses.items ≡ after → told.end ≡ None → EndsInStatus Watch bytes before after
    → WasOpen Watch (length after) bytes → Says (Ok told) Watch (length told.statuses.items) bytes
left_says told bytes before after is none ends was =
    let here : IsTold Watch (length after) bytes after told.end = subst (IsTold Watch (length after) bytes after) (sym none) (told_here bytes before after ends) in (
      subst (λ (all : List ℕ). IsTold Watch (length all) bytes all told.end) (sym is) here,
      subst (λ (all : List ℕ). WasOpen Watch (length all) bytes) (sym is) was,
    )

-- where the listener has enough, that many statuses are wanted
pub wanted_enough : (told : Answered) (bytes : List ℕ) (most : ℕ) (enough : Bool) → enough ≡ true → Says (Ok told) Watch (length told.statuses.items) bytes
    → Says (Ok told) Watch (wanted_by_end (Ok told) most enough) bytes
wanted_enough told bytes most true is says = says
wanted_enough told bytes most false is says = cc

-- and else as many as were asked for
pub wanted_most : (told : Answered) (bytes : List ℕ) (most : ℕ) (enough : Bool) → enough ≡ false → Says (Ok told) Watch most bytes
    → Says (Ok told) Watch (wanted_by_end (Ok told) most enough) bytes
wanted_most told bytes most true is says = cc
wanted_most told bytes most false is says = says

-- an answer of a Watch that has few enough statuses
pub watch_answer : (told : Answered) (most : ℕ) → length told.statuses.items ≤ most → IsAnswerTo Watch most told
watch_answer told most few = record {
  check = λ is. (let never : Watch ≡ Check = is in cc);
  watch = λ is. omega (arith, told.statuses.ok.0, few);
}

-- what a listener has heard once it was told what is new
pub heard_on : (method : Method) (first old new : Option (List ℕ)) (bytes before after shown : List ℕ) (told : ℕ) → Appends first old before → Grows method bytes before after
    → shown ≡ after → told ≡ length before → (length shown ≤ told → new ≡ old)
    → ((front : List ℕ) (status : ℕ) → shown ≡ front ++ status ∷ [] → length front ≡ told → Appends old new (status ∷ [])) → Appends first new after
heard_on method first old new bytes before after shown told heard (inl same) is len none one =
    let unchanged : new ≡ old = none (omega (arith, ap length is, ap length same, len)) in
    subst (Appends first new) (sym same) (subst (λ (known : Option (List ℕ)). Appends first known before) (sym unchanged) heard)
heard_on method first old new bytes before after shown told heard (inr ends) is len none one =
    subst (Appends first new) (sym ends.after_is)
    (Appends-trans first old new before (ends.status ∷ []) heard (one before ends.status (is ∙ ends.after_is) (sym len)))

-- a listener that has enough only now was told a status
pub newly_enough : (bytes before after shown : List ℕ) (told : ℕ) (old new : Bool) → Grows Watch bytes before after → shown ≡ after → told ≡ length before
    → (length shown ≤ told → new ≡ old) → old ≡ false → new ≡ true → EndsInStatus Watch bytes before after
newly_enough bytes before after shown told old new (inl same) is len none wants enough =
    let unchanged : new ≡ old = none (omega (arith, ap length is, ap length same, len)) in cc
newly_enough bytes before after shown told old new (inr ends) is len none wants enough = ends

-- a Watch of as many statuses as there are then was open before
pub watch_open : (method : Method) (bytes before after : List ℕ) → method ≡ Watch
    → ((most : ℕ) → is_enough method most (length before) ≡ false → WasOpen method most bytes) → EndsInStatus Watch bytes before after
    → WasOpen Watch (length after) bytes
watch_open Watch bytes before after is opened ends = opened (length after) (one_short before after ends.status ends.after_is)
watch_open Check bytes before after is opened ends = cc

-- what was heard where the last bytes show a fault
pub fault_heard : (fault : AskFault) (method : Method) (most : ℕ) (front piece statuses : List ℕ) → IsFaultAt fault method most front piece
    → TellSoFar front statuses → Hears (Err fault) (front ++ piece) statuses
fault_heard Read method most front piece statuses none tell =
    subst (λ (all : List ℕ). TellSoFar all statuses) (sym (ap (λ (all : List ℕ). front ++ all) none ∙ append-nil front)) tell
fault_heard Write method most front piece statuses none tell = absurd none
fault_heard BadResponse method most front piece statuses bad tell = front_told front piece statuses tell
fault_heard (Http status) method most front piece statuses refused tell = front_told front piece statuses tell
fault_heard NoMemory method most front piece statuses was tell = front_told front piece statuses tell

-- no bytes tell nothing
pub nothing_told_yet : TellSoFar [] []
nothing_told_yet = InHead (record {
  ends_nowhere = λ k within. (let none : k ≡ 0 = omega (arith, within) in ap (λ (n : ℕ). ends_blank (take n [])) none);
  within = omega arith;
}) refl

-- where nothing was read nothing was heard
pub no_memory_heard : (remaining heard : Option (List ℕ)) → IsHeardFor (Err NoMemory) remaining remaining heard heard
no_memory_heard remaining heard = ([], [], Consumes-nil remaining, Appends-nil heard, all_told [] [] nothing_told_yet)

pub unwritten_heard : (remaining heard : Option (List ℕ)) → IsHeardFor (Err Write) remaining remaining heard heard
unwritten_heard remaining heard = ([], [], Consumes-nil remaining, Appends-nil heard, refl)
