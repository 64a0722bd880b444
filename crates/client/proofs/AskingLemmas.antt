-- A response that is read in pieces.
use Rattle.std.proofs.Common.{ℕ, ◌≡◌, ◌≢◌, ◌+◌, ◌<◌, ◌≤◌, Bool, true, false, ◌||◌, List, [], ◌∷◌, ◌++◌, Option, length, take, refl, sym, ap, ◌∙◌, subst, inl, inr, arith, length-append}
use Rattle.std.proofs.KnownBytes.{Consumes-nil, Consumes-kept}
use Rattle.std.proofs.lemmas.List.{append-nil, length-take-le}
use Rattle.std.proofs.lemmas.Bool.Decides.{nat_tests}
use Rattle.std.specs.Prelude.{IfOk, IfErr, IsErrAnd, IsSome, Result, Ok, Err}
use Rattle.std.specs.Io.KnownBytes.{Consumes, Keeps}
use Rattle.client.specs.declared.ask_fault.AskFault.{AskFault}
use Rattle.client.specs.declared.ask_fault.AskFault.TheVariants.{Read, Write, BadResponse, Http, NoMemory}
use Rattle.client.specs.declared.reply.Reply.{Reply}
use Rattle.client.specs.declared.told.Ended.{Ended}
use Rattle.client.specs.declared.told.Told.{Told as Answered}
use Rattle.client.specs.Ask.{HasReadCause, IsAnswerTo, IsFaultAt, IsReadFor, IsWithin, Says}
use Rattle.web_call.specs.declared.method.Method.{Method}
use Rattle.web_call.specs.declared.method.Method.TheVariants.{Check, Watch}
use Rattle.client.specs.declared.reply.ReplyStage.{ReplyStage}
use Rattle.client.specs.declared.reply.ReplyStage.TheVariants.{Head, Body, Told}
use Rattle.client.specs.Reply.{IsBad, IsOfResponse, IsOpen, IsRefused, IsTold, WasOpen, InHead, InBody, ByTrailers, ByCount, ByEnd}
use Rattle.client.specs.Stages.{Holds, StandsAt, method_of, most_of, wanted_at}
use Rattle.web_call.specs.InputHead.{IsHead}

-- a response that wants bytes is open
pub open_at : (method : Method) (most : ℕ) (bytes head : List ℕ) (stage : ReplyStage) → 0 < wanted_at stage → StandsAt method most bytes head stage
    → IsOpen method most bytes
open_at method most bytes head Head wants stands = InHead stands.1
open_at method most bytes head (Body reading) wants stands =
    InBody reading.body.next reading.body.more reading.heard.statuses.items reading.heard.splitter stands reading.comes
open_at method most bytes head (Told told) wants stands = absurd (omega arith)

-- what is true of a call is true of the one that was asked for
pub asked_for : (P : Method → ℕ → Type 0) (method asked : Method) (most wanted : ℕ) → method ≡ asked → most ≡ wanted → P method most → P asked wanted
asked_for P method asked most wanted same as_many holds =
    subst (λ (n : ℕ). P asked n) as_many (subst (λ (m : Method). P m most) same holds)

-- no byte came where the known bytes are kept
pub Consumes-none : (old new : Option (List ℕ)) → Keeps old new → Consumes old new []
Consumes-none old new kept = Consumes-kept old old new [] (Consumes-nil old) kept

-- a fault that the last bytes show is the answer of all of them
pub fault_says : (fault : AskFault) (method : Method) (most : ℕ) (front piece : List ℕ) → IsOpen method most front
    → IsFaultAt fault method most front piece → Says (Err fault) method most (front ++ piece)
fault_says Read method most front piece front_open none =
    subst (λ (all : List ℕ). IsOpen method most all) (sym (ap (λ (all : List ℕ). front ++ all) none ∙ append-nil front)) front_open
fault_says Write method most front piece front_open none = absurd none
fault_says BadResponse method most front piece front_open bad = bad
fault_says (Http status) method most front piece front_open refused = refused
fault_says NoMemory method most front piece front_open was = inr was

-- what a response answers to bytes that were read for it
pub given_fault : (result : Result Reply AskFault) (old new : Option (List ℕ)) (piece : List ℕ) (reply : Reply) → Consumes old new piece
    → ((bytes : List ℕ) → Holds bytes reply → WasOpen (method_of reply) (most_of reply) (bytes ++ piece))
    → (result ≡ Err BadResponse → (bytes : List ℕ) → Holds bytes reply → IsBad (method_of reply) (most_of reply) (bytes ++ piece))
    → ((status : ℕ) → result ≡ Err (Http status) → (bytes : List ℕ) → Holds bytes reply → IsRefused (bytes ++ piece) status)
    → IfErr result IsOfResponse
    → IfErr result (λ fault. (bytes : List ℕ) × Consumes old new bytes
    × ((front : List ℕ) → Holds front reply → IsFaultAt fault (method_of reply) (most_of reply) front bytes))
given_fault (Ok after) old new piece reply read opened bad refused faults = tt
given_fault (Err Read) old new piece reply read opened bad refused faults = absurd (faults.0 refl)
given_fault (Err Write) old new piece reply read opened bad refused faults = absurd (faults.1 refl)
given_fault (Err BadResponse) old new piece reply read opened bad refused faults = (piece, read, λ front holds. (bad refl front holds, opened front holds))
given_fault (Err (Http status)) old new piece reply read opened bad refused faults = (piece, read, λ front holds. (refused status refl front holds, opened front holds))
given_fault (Err NoMemory) old new piece reply read opened bad refused faults = (piece, read, opened)

-- no read failed where the fault is one of the response
pub given_cause : {T : Type 0} (result : Result T AskFault) (failed failed_after : Bool) → IfErr result IsOfResponse → failed_after ≡ failed
    → HasReadCause result failed failed_after
given_cause (Ok value) failed failed_after faults kept = kept
given_cause (Err Read) failed failed_after faults kept = absurd (faults.0 refl)
given_cause (Err Write) failed failed_after faults kept = absurd (faults.1 refl)
given_cause (Err BadResponse) failed failed_after faults kept = kept
given_cause (Err (Http status)) failed failed_after faults kept = kept
given_cause (Err NoMemory) failed failed_after faults kept = kept

-- a Watch's bytes tell as many statuses as it asks for, at most
pub few_told : (method : Method) (most : ℕ) (bytes told : List ℕ) (end : Option Ended) → method ≡ Watch → 1 ≤ most → IsTold method most bytes told end → length told ≤ most
few_told Watch most bytes told end is some (ByTrailers next more block ended ends fits unfinished none trailers same) = grind (arith, nat_tests)
few_told Watch most bytes told end is some (ByCount next more statuses message status ends fits unfinished response push enough none) =
    let len : length told ≡ length statuses + 1 = ap length push ∙ length-append statuses (status ∷ []) in grind (arith, nat_tests, len)
few_told Watch most bytes told end is some (ByEnd more watch reply unfinished none) = grind (arith, nat_tests)
few_told Check most bytes told end is some says = cc

-- no bytes have no head in them
no_head : (head body : List ℕ) → [] ≡ head ++ body → ¬ IsHead head
no_head [] body parts is = elim is.ends [ inl blank ↦ (let never : false ≡ true = blank in cc) | inr long ↦ omega (arith, long) ]
no_head (byte ∷ head) body parts is = cc

-- so they tell nothing
nothing_told : (method : Method) (most : ℕ) (told : List ℕ) (end : Option Ended) → ¬ IsTold method most [] told end
nothing_told method most told end (ByTrailers next more block ended ends fits unfinished none trailers same) =
    no_head ends.reply.head ends.reply.body ends.reply.parts ends.reply.is_head
nothing_told method most told end (ByCount next more statuses message status ends fits unfinished response push enough none) =
    no_head ends.reply.head ends.reply.body ends.reply.parts ends.reply.is_head
nothing_told method most told end (ByEnd more watch reply unfinished none) = no_head reply.head reply.body reply.parts reply.is_head

-- before the last of the bytes that tell something came, more had to be read
pub told_earliest : (method : Method) (most : ℕ) (bytes told : List ℕ) (end : Option Ended) → IsWithin method most bytes → IsTold method most bytes told end
    → WasOpen method most bytes
told_earliest method most bytes told end (inl none) says = absurd (nothing_told method most told end (subst (λ (all : List ℕ). IsTold method most all told end) none says))
told_earliest method most bytes told end (inr was) says = was

-- a Check's bytes tell an end
end_told : (method : Method) (most : ℕ) (bytes told : List ℕ) (end : Option Ended) → method ≡ Check → IsTold method most bytes told end → IsSome end
end_told Check most bytes told end is (ByTrailers next more block ended ends fits unfinished none trailers same) = subst IsSome (sym same) refl
end_told Check most bytes told end is (ByCount next more statuses message status ends fits unfinished response push enough none) = cc
end_told Check most bytes told end is (ByEnd more watch reply unfinished none) = cc
end_told Watch most bytes told end is says = cc

-- so what a call tells is an answer to it
pub answer_of_told : (told : Answered) (method : Method) (most : ℕ) (bytes : List ℕ) → IsTold method most bytes told.statuses.items told.end → 1 ≤ most
    → IsAnswerTo method most told
answer_of_told told method most bytes says some = record {
  check = λ is. end_told method most bytes told.statuses.items told.end is says;
  watch = λ is. let few = few_told method most bytes told.statuses.items told.end is some says in omega (arith, told.statuses.ok.0, few);
}

pub is_answer : (result : Result Answered AskFault) (method : Method) (most : ℕ) (remaining after : Option (List ℕ)) → IsReadFor result method most remaining after
    → 1 ≤ most → IfOk result (IsAnswerTo method most)
is_answer (Ok told) method most remaining after read some = answer_of_told told method most read.0 read.2.0 some
is_answer (Err fault) method most remaining after read some = tt

-- a reader has failed where it stopped
pub stopped_fails : (old new stopped : Bool) → new ≡ (old || stopped) → stopped ≡ true → new ≡ true
stopped_fails true new stopped is stops = is
stopped_fails false new stopped is stops = is ∙ stops

-- and has not where it did not
pub going_keeps : (old new stopped : Bool) → new ≡ (old || stopped) → stopped ≡ false → new ≡ old
going_keeps true new stopped is goes = is
going_keeps false new stopped is goes = is ∙ goes

-- a read of no byte consumed none
pub none_read : (old new : Option (List ℕ)) (buf : List ℕ) (count : ℕ) → count ≡ 0 → Consumes old new (take count buf) → Consumes old new []
none_read old new buf count none read = subst (λ (n : ℕ). Consumes old new (take n buf)) none read

-- what was read is some bytes, and no more than were wanted
pub some_read : (buf : List ℕ) (count : ℕ) → count ≤ length buf → count ≢ 0 → 0 < length (take count buf)
some_read buf count within some = subst (λ (n : ℕ). 0 < n) (sym (length-take-le count buf within)) (omega (arith, some))

pub few_read : (buf : List ℕ) (count room wanted : ℕ) → count ≤ length buf → length buf ≡ room → room ≤ wanted → length (take count buf) ≤ wanted
few_read buf count room wanted within same fits = omega (arith, within, same, fits, length-take-le count buf within)

-- a fault has its cause whatever is answered else
pub cause_of : (S T : Type 0) (fault : AskFault) (first failed failed_after : Bool) → failed ≡ first
    → (let result : Result S AskFault = Err fault in HasReadCause result failed failed_after) → let result : Result T AskFault = Err fault in HasReadCause result first failed_after
cause_of S T Read first failed failed_after same cause = cause
cause_of S T Write first failed failed_after same cause = cause ∙ same
cause_of S T BadResponse first failed failed_after same cause = cause ∙ same
cause_of S T (Http status) first failed failed_after same cause = cause ∙ same
cause_of S T NoMemory first failed failed_after same cause = cause ∙ same

-- an answer that has this fault is it
pub is_no_memory : {T : Type 0} (result : Result T AskFault) → IsErrAnd result (λ fault. fault ≡ NoMemory) → result ≡ Err NoMemory
is_no_memory (Ok value) never = absurd never
is_no_memory (Err fault) is = ap Err is
