-- What a call has sent for what it was given, by how it stands.
use Rattle.std.proofs.Common.{◌≡◌, ◌+◌, ◌<◌, ℕ, Bool, Option, true, false, nat_eq, if◌then◌else◌, Some, None, List, [], ◌∷◌, ◌++◌, length, refl, ap, sym}
use Rattle.std.proofs.Common.{◌∙◌, subst, append-nil, inl, inr, is_some, ◌⊎◌, arith, rules}
use Rattle.std.specs.Io.KnownBytes.{Appends}
use Rattle.desk_core.specs.declared.entry.Entry.{Entry}
use Rattle.web_call.specs.declared.call.Call.{Call}
use Rattle.web_call.specs.declared.call.CallStage.{CallStage}
use Rattle.web_call.specs.declared.call.CallStage.TheVariants.{Reading, Watching, Ending, Starved}
use Rattle.web_call.specs.declared.intake.Reading.{Reading as HowFar}
use Rattle.web_call.specs.declared.intake.Reading.TheVariants as readings
use Rattle.web_call.specs.declared.outcome.Outcome.{Outcome}
use Rattle.web_call.specs.declared.outgoing.Outgoing.{Outgoing}
use Rattle.web_call.specs.Answer.{IsStarvedAt, Sends, Source}
use Rattle.web_call.specs.Answer.IsStarvedAt.{Head}
use Rattle.web_call.specs.Answer.Sends.{Watch}
use Rattle.web_call.specs.HeadAnswer.{HeadAnswer, Refused, Ended, Asked}
use Rattle.web_call.specs.Head.{IsHeaded}
use Rattle.web_call.specs.InputHead.{IsHead, IsOpenHead}
use Rattle.web_call.specs.Intake.{AreRead, body_len}
use Rattle.web_call.specs.Outgoing.{GoesOut, frames_out, left_of}
use Rattle.web_call.specs.Past.{Past, IsSilent, asking_of, Stands, StandsAt}
use Rattle.web_call.specs.Pieces.{Piece, text_of, frames_within, counted, IsCut}
use Rattle.web_call.specs.Reading as reading
use Rattle.web_call.specs.Request.{IsCutRequest, IsRequested}
use Rattle.web_call.specs.Request.IsCutRequest.{InHead, InBody}
use Rattle.web_call.specs.Stages.{answers, opens, starves, waits, watches, ends_with, is_answered, is_open, is_starved, is_watching, is_whole, ending_of, outcome_of, frames_of, to_send}
use Rattle.web_call.specs.Text.{text_bytes}
use Rattle.web_call.specs.WholeCall.{IsWholeCall, IsWholeRequest, IsCutCall}
use Rattle.web_call.proofs.CallLemmas.{silent_left, whole_head}
use Rattle.web_call.proofs.OutgoingLemmas.{all_sent, frames_sent}
use Rattle.web_call.proofs.PieceLemmas.{frames_within-nil}

-- bytes that are read and are not a whole request
cut_body : (answer : HeadAnswer) (head body bytes : List ℕ) (left : ℕ) → bytes ≡ head ++ body → IsHead head → IsHeaded head answer
    → length body + left ≡ body_len answer → 0 < left → IsCutRequest bytes
cut_body (Refused http) head body bytes left is is_head is_headed len some = absurd (omega (arith, len, some))
cut_body (Ended code text) head body bytes left is is_head is_headed len some = absurd (omega (arith, len, some))
cut_body (Asked method all) head body bytes left is is_head is_headed len some = InBody head body method all is is_head is_headed (omega (arith, len, some))

cut_read : (r : HowFar) (head body bytes : List ℕ) → reading.is_open r ≡ true → bytes ≡ head ++ body → AreRead r head body → IsCutRequest bytes
cut_read readings.Head head body bytes o is read =
    InHead (subst IsOpenHead (sym (is ∙ ap (λ rest. head ++ rest) read.1 ∙ append-nil head)) read.0)
cut_read (readings.Body left) head body bytes o is read = cut_body read.0.answer head body bytes left is read.0.is_head read.0.is_headed read.0.len read.1
cut_read readings.Whole head body bytes o is read = absurd (grind arith)
cut_read readings.Starved head body bytes o is read = absurd (grind arith)

cut_at : (source : Source) (past : Past) (stage : CallStage) (outgoing : Outgoing) → opens stage ≡ true → StandsAt source past stage outgoing → IsCutRequest past.received
cut_at source past (Reading intake) outgoing o h = cut_read intake.reading intake.head.items intake.body.items past.received o h.has_read.is h.has_read.read
cut_at source past (Watching watch) outgoing o h = absurd (grind arith)
cut_at source past (Ending outcome) outgoing o h = absurd (grind arith)
cut_at source past Starved outgoing o h = absurd (grind arith)

-- a call that is still read was given a cut request
pub read_cut : (source : Source) (past : Past) (call : Call) → is_open call ≡ true → Stands source past call → IsCutRequest past.received
read_cut source past call o h = cut_at source past call.stage call.outgoing o h

-- a call for which an allocation failed
starved_read : {is_plain : Bool} (r : HowFar) (head body bytes : List ℕ) (asked : List (List Entry)) → reading.starves r ≡ true → bytes ≡ head ++ body → AreRead r head body → asked ≡ []
    → IsStarvedAt is_plain asked bytes
starved_read readings.Head head body bytes asked s is read none = absurd (grind arith)
starved_read (readings.Body left) head body bytes asked s is read none = absurd (grind arith)
starved_read readings.Whole head body bytes asked s is read none = absurd (grind arith)
starved_read readings.Starved head body bytes asked s is read none =
    Head (subst IsHead (sym (is ∙ ap (λ rest. head ++ rest) read.1 ∙ append-nil head)) read.0.1.is_head) none

starved_stage : (source : Source) (past : Past) (stage : CallStage) (outgoing : Outgoing) → starves stage ≡ true → StandsAt source past stage outgoing
    → IsStarvedAt source.is_plain past.asked past.received
starved_stage source past (Reading intake) outgoing s h = starved_read intake.reading intake.head.items intake.body.items past.received past.asked s h.has_read.is h.has_read.read h.none_asked
starved_stage source past (Watching watch) outgoing s h = absurd (grind arith)
starved_stage source past (Ending outcome) outgoing s h = absurd (grind arith)
starved_stage source past Starved outgoing s h = h.starved

pub starved_at : (source : Source) (past : Past) (call : Call) → is_starved call ≡ true → Stands source past call → IsStarvedAt source.is_plain past.asked past.received
starved_at source past call s h = starved_stage source past call.stage call.outgoing s h

-- a call that has ended
ended_by : (left : List ℕ) (ending : Option Outcome) (outcome : Outcome) → (if nat_eq (length left) 0 then ending else None) ≡ Some outcome
    → (left ≡ []) × (ending ≡ Some outcome)
ended_by [] ending outcome is = (refl, is)
ended_by (byte ∷ left) ending outcome is = absurd (grind (arith, is))

whole_at : (source : Source) (past : Past) (stage : CallStage) (outgoing : Outgoing) (outcome : Outcome) → ends_with stage ≡ Some outcome → left_of outgoing ≡ []
    → StandsAt source past stage outgoing → IsWholeCall source past outcome
whole_at source past (Reading intake) outgoing outcome e none h = absurd (no_outcome e)
  where
    no_outcome : None ≡ Some outcome → ⊥
    no_outcome e = search rules
whole_at source past (Watching watch) outgoing outcome e none h = absurd (no_outcome e)
  where
    no_outcome : None ≡ Some outcome → ⊥
    no_outcome e = search rules
whole_at source past (Ending other) outgoing outcome e none h = record {
  head = h.head;
  body = h.body;
  pieces = h.done ++ h.part;
  requested = h.requested;
  answered = record { done = h.done; part = h.part; all = refl; sends = subst (λ ending. Sends (asking_of source past h.head h.body) h.done h.part ending) e h.sends };
  all_sent = all_sent none h.goes_out;
}
whole_at source past Starved outgoing outcome e none h = absurd (no_outcome e)
  where
    no_outcome : None ≡ Some outcome → ⊥
    no_outcome e = search rules

pub whole_of : (source : Source) (past : Past) (call : Call) (outcome : Outcome) → outcome_of call ≡ Some outcome → Stands source past call
    → (ending_of call ≡ Some outcome) × IsWholeCall source past outcome
whole_of source past call outcome is h =
    let e = ended_by (to_send call) (ending_of call) outcome is in
    (e.1, whole_at source past call.stage call.outgoing outcome e.1 e.0 h)

-- a call whose answer is being sent
abbrev pub Cut : Source → Past → Option Outcome → Outgoing → Type 0
Cut source past ending outgoing = (cut : IsCutCall source past ending (left_of outgoing) (frames_out outgoing)) × (text_bytes outgoing.text ≡ text_of cut.part)

sending : (source : Source) (past : Past) (ending : Option Outcome) (outgoing : Outgoing) (head body : List ℕ) (done part : List Piece)
    → IsRequested head body past.received → Sends (asking_of source past head body) done part ending → GoesOut outgoing done part past.sent → Cut source past ending outgoing
sending source past ending outgoing head body done part requested sends goes = (
  record {
    head = head;
    body = body;
    done = done;
    part = part;
    front = goes.front;
    requested = requested;
    sends = sends;
    is_left = goes.is_left;
    was_sent = goes.was_sent;
    whole = frames_sent goes;
  },
  goes.is_text.bytes,
)

sending_at : (source : Source) (past : Past) (stage : CallStage) (outgoing : Outgoing) → answers stage ≡ true → StandsAt source past stage outgoing
    → Cut source past (ends_with stage) outgoing
sending_at source past (Reading intake) outgoing a h = absurd (grind arith)
sending_at source past (Watching watch) outgoing a h =
    let w = h.sends in
    sending source past None outgoing h.head h.body h.done h.part h.requested (Watch w.name w.first w.later h.done h.part w.is_watch w.asked_is w.tells) h.goes_out
sending_at source past (Ending outcome) outgoing a h = sending source past (Some outcome) outgoing h.head h.body h.done h.part h.requested h.sends h.goes_out
sending_at source past Starved outgoing a h = absurd (grind arith)

pub cut_of : (source : Source) (past : Past) (call : Call) → is_answered call ≡ true → Stands source past call → Cut source past (ending_of call) call.outgoing
cut_of source past call a h = sending_at source past call.stage call.outgoing a h

-- and what of it was written
pub cut_written : {source : Source} {past : Past} {ending : Option Outcome} {left : List ℕ} {frames told : ℕ} {contents contents_after : Option (List ℕ)}
    (cut : IsCutCall source past ending left frames) → Appends contents contents_after past.sent → told ≡ frames → IsCut cut.done cut.part contents contents_after told
cut_written {left = left} {contents = contents} {contents_after = contents_after} cut wrote same = record {
  front = cut.front;
  of_part = record { rest = left; is = cut.is_left };
  appended = subst (Appends contents contents_after) cut.was_sent wrote;
  whole = same ∙ cut.whole ∙ ap (λ bytes. counted (frames_within (cut.done ++ cut.part) (length bytes))) cut.was_sent;
}

-- a call that is not answered has sent nothing, and has nothing to send
silent : (outgoing : Outgoing) (sent : List ℕ) → IsSilent outgoing sent → (sent ≡ []) × (left_of outgoing ≡ []) × (frames_out outgoing ≡ 0)
silent outgoing sent s =
    (s.none_sent, silent_left outgoing sent s, frames_sent s.goes_out ∙ ap (λ bytes. counted (frames_within [] (length bytes))) s.none_sent ∙ omega (arith, frames_within-nil 0))

silent_at : (source : Source) (past : Past) (stage : CallStage) (outgoing : Outgoing) → answers stage ≡ false → StandsAt source past stage outgoing
    → (past.sent ≡ []) × (left_of outgoing ≡ []) × (frames_out outgoing ≡ 0)
silent_at source past (Reading intake) outgoing a h = silent outgoing past.sent h.silent
silent_at source past (Watching watch) outgoing a h = absurd (grind arith)
silent_at source past (Ending outcome) outgoing a h = absurd (grind arith)
silent_at source past Starved outgoing a h = silent outgoing past.sent h.silent

pub silent_of : (source : Source) (past : Past) (call : Call) → is_answered call ≡ false → Stands source past call
    → (past.sent ≡ []) × (to_send call ≡ []) × (frames_of call ≡ 0)
silent_of source past call a h = silent_at source past call.stage call.outgoing a h

-- a call that is still read has asked nobody
unasked_at : (source : Source) (past : Past) (stage : CallStage) (outgoing : Outgoing) → opens stage ≡ true → StandsAt source past stage outgoing → past.asked ≡ []
unasked_at source past (Reading intake) outgoing o h = h.none_asked
unasked_at source past (Watching watch) outgoing o h = absurd (grind arith)
unasked_at source past (Ending outcome) outgoing o h = absurd (grind arith)
unasked_at source past Starved outgoing o h = absurd (grind arith)

pub unasked_of : (source : Source) (past : Past) (call : Call) → is_open call ≡ true → Stands source past call → past.asked ≡ []
unasked_of source past call o h = unasked_at source past call.stage call.outgoing o h

-- a call that waits to be answered
waiting_at : (source : Source) (past : Past) (stage : CallStage) (outgoing : Outgoing) → waits stage ≡ true → StandsAt source past stage outgoing → IsWholeRequest past
waiting_at source past (Reading intake) outgoing w h =
    let whole = whole_head intake.reading intake.head.items intake.body.items w h.has_read.read in record {
      head = intake.head.items;
      body = intake.body.items;
      answer = whole.answer;
      requested = record { is_head = whole.is_head; is = h.has_read.is };
      is_headed = whole.is_headed;
      len = omega (arith, whole.len);
      unasked = h.none_asked;
    }
waiting_at source past (Watching watch) outgoing w h = absurd (grind arith)
waiting_at source past (Ending outcome) outgoing w h = absurd (grind arith)
waiting_at source past Starved outgoing w h = absurd (grind arith)

pub waiting_of : (source : Source) (past : Past) (call : Call) → is_whole call ≡ true → Stands source past call → IsWholeRequest past
waiting_of source past call w h = waiting_at source past call.stage call.outgoing w h

-- a call is read, waits to be answered, watches, has starved, or sends the last of its answer
reading_turn : (r : HowFar) → (reading.is_open r ≡ true) ⊎ (reading.is_whole r ≡ true) ⊎ (reading.starves r ≡ true)
reading_turn readings.Head = inl refl
reading_turn (readings.Body left) = inl refl
reading_turn readings.Whole = inr (inl refl)
reading_turn readings.Starved = inr (inr refl)

stage_turn : (stage : CallStage) → (opens stage ≡ true) ⊎ (waits stage ≡ true) ⊎ (watches stage ≡ true) ⊎ (starves stage ≡ true) ⊎ (is_some (ends_with stage) ≡ true)
stage_turn (Reading intake) = elim (reading_turn intake.reading) [
  | inl opens ↦ inl opens
  | inr (inl whole) ↦ inr (inl whole)
  | inr (inr starves) ↦ inr (inr (inr (inl starves)))
]
stage_turn (Watching watch) = inr (inr (inl refl))
stage_turn (Ending outcome) = inr (inr (inr (inr refl)))
stage_turn Starved = inr (inr (inr (inl refl)))

pub turn_of : (call : Call) → (is_open call ≡ true) ⊎ (is_whole call ≡ true) ⊎ (is_watching call ≡ true) ⊎ (is_starved call ≡ true) ⊎ (is_some (ending_of call) ≡ true)
turn_of call = stage_turn call.stage
