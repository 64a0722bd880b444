-- How a call stands after a step.
use Rattle.std.proofs.Common.{◌≡◌, ◌≤◌, ◌⊎◌, ℕ, Bool, Option, Some, None, false, List, [], ◌∷◌, ◌++◌, length, flat_map, refl, ap, sym, ◌∙◌, subst, true, append-nil, inl, inr, arith}
use Rattle.std.specs.Fmt.{digits}
use Rattle.grpc_frame.specs.declared.code.Code.{Code}
use Rattle.health_wire.specs.declared.serving.Serving.{Serving}
use Rattle.desk_core.specs.declared.entry.Entry.{Entry}
use Rattle.desk_core.specs.declared.change.Change.{Change}
use Rattle.desk_core.specs.Catalogue.{slot_of}
use Rattle.desk_core.specs.Changes.{changes_of}
use Rattle.desk_core.specs.Status.{shown, status_map}
use Rattle.desk_core.specs.Watch.{IsBehind, WatchState, answer_of, opened, stepped, told}
use Rattle.plain.specs.Answer.{IsInquiryOf}
use Rattle.plain.specs.Inquiry.{Asked as AskedPlainly}
use Rattle.web_call.specs.declared.call.Call.{Call}
use Rattle.web_call.specs.declared.call.CallStage.{CallStage}
use Rattle.web_call.specs.declared.call.CallStage.TheVariants.{Reading, Watching, Ending, Starved}
use Rattle.web_call.specs.declared.intake.Intake.{Intake}
use Rattle.web_call.specs.declared.intake.Reading.TheVariants as readings
use Rattle.web_call.specs.declared.intake.Reading.{Reading as HowFar}
use Rattle.web_call.specs.declared.method.Method.{Method}
use Rattle.web_call.specs.declared.outcome.Outcome.{Outcome}
use Rattle.web_call.specs.declared.outcome.Outcome.TheVariants.{Status, Watched, Behind}
use Rattle.web_call.specs.declared.outgoing.Outgoing.{Outgoing}
use Rattle.web_call.specs.declared.text.Text.{Text}
use Rattle.web_call.specs.Answer.{Asking, Asks, IsOfCall, IsWatch, Sends, Source, Tells, IsStarvedAt, check_code, told_pieces}
use Rattle.web_call.specs.Answer.IsStarvedAt.{Plain as StarvedPlain}
use Rattle.web_call.specs.Answer.Sends.{Check, WatchBehind, WatchEnd}
use Rattle.web_call.specs.Answer.Tells.{First, Step}
use Rattle.web_call.specs.Ask.{Asked as WhatIsAsked, IsAsked, Checked, Watched as WatchesName}
use Rattle.web_call.specs.Head.{IsHeaded, is_too_large}
use Rattle.web_call.specs.HeadAnswer.{HeadAnswer, Asked}
use Rattle.web_call.specs.InputHead.{IsHead}
use Rattle.web_call.specs.Intake.{HasHead, HasRead, body_len}
use Rattle.web_call.specs.Outgoing.{GoesOut, frames_out, left_of}
use Rattle.web_call.specs.Past.{Past, asking_of, Stands, StandsAt, IsReading, IsSending, IsSilent, with_asked, with_received, with_sent}
use Rattle.web_call.specs.Pieces.{Piece, plain, text_of, frames_within, counted}
use Rattle.web_call.specs.Reading.{is_whole}
use Rattle.web_call.specs.Request.{IsRequested}
use Rattle.web_call.specs.Stages.{watches}
use Rattle.web_call.specs.Text.{text_bytes, IsTextOf}
use Rattle.web_call.specs.ResponseTexts.{check_pieces, crlf, message_chunk, message_frame, watch_end, watch_head_text}
use Rattle.web_call.specs.Walk.{told_by, watch_after}
use Rattle.desk_core.proofs.WatchLemmas.{step_tells}
use Rattle.web_call.proofs.HeadLemmas.{one_answer, plain_asks_no_body}
use Rattle.web_call.proofs.OutgoingLemmas.{all_sent, frames_sent, frames_whole}
use Rattle.web_call.proofs.PieceLemmas.{frames_of}
use Rattle.web_call.proofs.WalkLemmas.{KeepsUp-snoc, frames_of-told, tells_all, watch_after-snoc}

-- a call that is given no byte
pub given_none : (source : Source) (past : Past) (call : Call) → Stands source past call → Stands source (with_received [] past) call
given_none source past call stands = subst (λ bytes. Stands source (record past { received = bytes }) call) (sym (append-nil past.received)) stands

-- where no byte is left, none is sent
pub silent_left : (outgoing : Outgoing) (sent : List ℕ) → IsSilent outgoing sent → left_of outgoing ≡ []
silent_left outgoing sent silent = empty_behind silent.goes_out.front (left_of outgoing) (sym silent.goes_out.is_left)
  where
    empty_behind : (a b : List ℕ) → a ++ b ≡ [] → b ≡ []
    empty_behind [] b none = none
    empty_behind (x ∷ a) b none = absurd (omega (arith, ap length none))

-- more of a text was sent
silent_on : (old new : Outgoing) (sent bytes : List ℕ) → (left_of old ≡ [] → bytes ≡ [])
    → ((done part : List Piece) (before : List ℕ) → GoesOut old done part before → GoesOut new done part (before ++ bytes))
    → IsSilent old sent → IsSilent new (sent ++ bytes)
silent_on old new sent bytes none goes silent = record {
  none_sent = ap (λ before. before ++ bytes) silent.none_sent ∙ none (silent_left old sent silent);
  goes_out = goes [] [] sent silent.goes_out;
}

sending_on : (source : Source) (past : Past) (stage : CallStage) (old new : Outgoing) (bytes : List ℕ)
    → ((done part : List Piece) (before : List ℕ) → GoesOut old done part before → GoesOut new done part (before ++ bytes))
    → IsSending source past stage old → IsSending source (with_sent bytes past) stage new
sending_on source past stage old new bytes goes s = record {
  head = s.head;
  body = s.body;
  done = s.done;
  part = s.part;
  requested = s.requested;
  sends = s.sends;
  goes_out = goes s.done s.part past.sent s.goes_out;
}

pub sent_on : (source : Source) (past : Past) (stage : CallStage) (old new : Outgoing) (bytes : List ℕ) → (left_of old ≡ [] → bytes ≡ [])
    → ((done part : List Piece) (before : List ℕ) → GoesOut old done part before → GoesOut new done part (before ++ bytes))
    → StandsAt source past stage old → StandsAt source (with_sent bytes past) stage new
sent_on source past (Reading intake) old new bytes none goes h =
    record { silent = silent_on old new past.sent bytes none goes h.silent; none_asked = h.none_asked; has_read = h.has_read }
sent_on source past (Watching watch) old new bytes none goes h = sending_on source past (Watching watch) old new bytes goes h
sent_on source past (Ending outcome) old new bytes none goes h = sending_on source past (Ending outcome) old new bytes goes h
sent_on source past Starved old new bytes none goes h = record { silent = silent_on old new past.sent bytes none goes h.silent; starved = h.starved }

-- a watch that took a step, by what it answered
tells_more : {slot : Option ℕ} {first : List Entry} {later : List (List Entry)} {done part : List Piece} (next : List Entry) (answer : Option Serving)
    → Tells slot first later done part → answer_of (changes_of next) (watch_after (opened (changes_of first) slot) later) ≡ answer
    → Tells slot first (later ++ next ∷ []) (done ++ part) (flat_map message_chunk (told answer))
tells_more {slot} {first} {later} {done} {part} next answer tells is =
    subst (λ a. Tells slot first (later ++ next ∷ []) (done ++ part) (flat_map message_chunk (told a))) is
    (subst (λ pieces. Tells slot first (later ++ next ∷ []) pieces (flat_map message_chunk (told (answer_of (changes_of next) (watch_after (opened (changes_of first) slot) later)))))
    (sym (tells_all tells)) (Step later next))

same_asks : (asking other : Asking) → asking.source ≡ other.source → asking.head ≡ other.head → asking.body ≡ other.body → {what : WhatIsAsked} → Asks asking what → Asks other what
same_asks asking other source head body {what} asks = record {
  is_of_call = subst (λ s. IsOfCall s.is_plain other.head) source (subst (λ h. IsOfCall asking.source.is_plain h) head asks.is_of_call);
  method = asks.method;
  is_headed = subst (λ h. IsHeaded h (Asked asks.method (length other.body))) head (subst (λ b. IsHeaded asking.head (Asked asks.method (length b))) body asks.is_headed);
  is_asked = subst (λ b. IsAsked asks.method b what) body asks.is_asked;
}

pub looked : (source : Source) (past : Past) (watch after : WatchState) (old new : Outgoing) (given : Text) (next : List Entry) (answer : Option Serving)
    → (IsBehind source.kept (changes_of next) watch → ⊥) → answer ≡ (stepped (changes_of next) watch).0 → after ≡ (stepped (changes_of next) watch).1
    → ((done part more : List Piece) (sent : List ℕ) → GoesOut old done part sent → IsTextOf given more → GoesOut new (done ++ part) more sent)
    → IsTextOf given (flat_map message_chunk (told answer)) → IsSending source past (Watching watch) old
    → IsSending source (with_asked (next ∷ []) past) (Watching after) new
looked source past watch after old new given next answer up is moved goes text s =
    let w = s.sends in record {
      head = s.head;
      body = s.body;
      done = s.done ++ s.part;
      part = flat_map message_chunk (told answer);
      requested = s.requested;
      sends = record {
        name = w.name;
        first = w.first;
        later = w.later ++ next ∷ [];
        is_watch = record {
          asks = same_asks (asking_of source past s.head s.body) (asking_of source (with_asked (next ∷ []) past) s.head s.body) refl refl refl w.is_watch.asks;
          keeps_up = KeepsUp-snoc source.kept (opened (changes_of w.first) (slot_of source.names w.name)) w.later next w.is_watch.keeps_up
              (subst (λ x. IsBehind source.kept (changes_of next) x → ⊥) w.watch_is up);
        };
        asked_is = ap (λ asked. asked ++ next ∷ []) w.asked_is;
        tells = tells_more next answer w.tells (sym (ap (answer_of (changes_of next)) w.watch_is) ∙ sym is);
        watch_is = moved ∙ ap (λ x. (stepped (changes_of next) x).1) w.watch_is ∙ sym (watch_after-snoc (opened (changes_of w.first) (slot_of source.names w.name)) w.later next);
      };
      goes_out = goes s.done s.part (flat_map message_chunk (told answer)) past.sent s.goes_out text;
    }

-- a watch that has ended; its messages are the frames that went out
frames_told : (statuses : List Serving) {done part : List Piece} (outgoing : Outgoing) (sent : List ℕ) → done ++ part ≡ told_pieces statuses
    → left_of outgoing ≡ [] → GoesOut outgoing done part sent → frames_out outgoing ≡ counted (length statuses)
frames_told statuses {done} {part} outgoing sent all none goes =
    frames_sent goes ∙ ap (λ bytes. counted (frames_within (done ++ part) (length bytes))) (all_sent none goes)
    ∙ ap counted (frames_whole (done ++ part) ∙ ap frames_of all ∙ frames_of-told statuses)

-- a watch that ends so, once this was asked
ends_as : (source : Source) (past : Past) (asked : List (List Entry)) (watch : WatchState) (old new : Outgoing) (outcome : ℕ → Outcome) (messages : ℕ)
    → left_of old ≡ [] → messages ≡ frames_out old → (s : IsSending source past (Watching watch) old)
    → Sends (asking_of source (record past { asked = asked }) s.head s.body) (told_pieces (told_by (slot_of source.names s.sends.name) s.sends.first s.sends.later)) watch_end
    (Some (outcome (counted (length (told_by (slot_of source.names s.sends.name) s.sends.first s.sends.later)))))
    → ((done part : List Piece) (sent : List ℕ) → GoesOut old done part sent → GoesOut new (done ++ part) watch_end sent)
    → IsSending source (record past { asked = asked }) (Ending (outcome messages)) new
ends_as source past asked watch old new outcome messages none count s sends goes =
    let w = s.sends in
    let statuses = told_by (slot_of source.names w.name) w.first w.later in
    let all = tells_all w.tells in
    let is = count ∙ frames_told statuses old past.sent all none s.goes_out in record {
      head = s.head;
      body = s.body;
      done = s.done ++ s.part;
      part = watch_end;
      requested = s.requested;
      sends = subst (λ pieces. Sends (asking_of source (record past { asked = asked }) s.head s.body) pieces watch_end (Some (outcome messages))) (sym all)
          (subst (λ n. Sends (asking_of source (record past { asked = asked }) s.head s.body) (told_pieces statuses) watch_end (Some (outcome n))) (sym is) sends);
      goes_out = goes s.done s.part past.sent s.goes_out;
    }

-- a watch that was ended
ended : (source : Source) (past : Past) (watch : WatchState) (old new : Outgoing) (messages : ℕ) → left_of old ≡ [] → messages ≡ frames_out old
    → ((done part : List Piece) (sent : List ℕ) → GoesOut old done part sent → GoesOut new (done ++ part) watch_end sent)
    → IsSending source past (Watching watch) old → IsSending source past (Ending (Watched messages)) new
ended source past watch old new messages none count goes s =
    ends_as source past past.asked watch old new (λ n. Watched n) messages none count s
    (WatchEnd s.sends.name s.sends.first s.sends.later s.sends.is_watch s.sends.asked_is) goes

pub ended_at : (source : Source) (past : Past) (stage : CallStage) (old new : Outgoing) (messages : ℕ) → watches stage ≡ true → left_of old ≡ []
    → messages ≡ frames_out old → ((done part : List Piece) (sent : List ℕ) → GoesOut old done part sent → GoesOut new (done ++ part) watch_end sent)
    → StandsAt source past stage old → IsSending source past (Ending (Watched messages)) new
ended_at source past (Reading intake) old new messages is none count goes h = absurd (grind arith)
ended_at source past (Watching watch) old new messages is none count goes h = ended source past watch old new messages none count goes h
ended_at source past (Ending outcome) old new messages is none count goes h = absurd (grind arith)
ended_at source past Starved old new messages is none count goes h = absurd (grind arith)

-- a watch that was behind
pub left_behind : (source : Source) (past : Past) (watch : WatchState) (old new : Outgoing) (next : List Entry) (messages : ℕ)
    → IsBehind source.kept (changes_of next) watch → left_of old ≡ [] → messages ≡ frames_out old
    → ((done part : List Piece) (sent : List ℕ) → GoesOut old done part sent → GoesOut new (done ++ part) watch_end sent)
    → IsSending source past (Watching watch) old → IsSending source (with_asked (next ∷ []) past) (Ending (Behind messages)) new
left_behind source past watch old new next messages behind none count goes s =
    let w = s.sends in
    let watches : IsWatch (asking_of source (with_asked (next ∷ []) past) s.head s.body) w.name w.first w.later = record {
      asks = same_asks (asking_of source past s.head s.body) (asking_of source (with_asked (next ∷ []) past) s.head s.body) refl refl refl w.is_watch.asks;
      keeps_up = w.is_watch.keeps_up;
    } in
    ends_as source past (past.asked ++ next ∷ []) watch old new (λ n. Behind n) messages none count s
    (WatchBehind w.name w.first w.later next watches (ap (λ asked. asked ++ next ∷ []) w.asked_is) (subst (IsBehind source.kept (changes_of next)) w.watch_is behind)) goes

-- a call that ends with this text, or for which an allocation failed
pub ends : (source : Source) (received head body : List ℕ) (asked : List (List Entry)) (part : List Piece) (outcome : Outcome) (call : Call)
    → IsRequested head body received → Sends (record { source = source; asked = asked; head = head; body = body }) [] part (Some outcome) → IsStarvedAt source.is_plain asked received
    → ((call.stage ≡ Ending outcome) × GoesOut call.outgoing [] part []) ⊎ ((call.stage ≡ Starved) × GoesOut call.outgoing [] [] [])
    → Stands source (record { received = received; sent = []; asked = asked }) call
ends source received head body asked part outcome call requested sends starved (inl (is, goes)) =
    subst (λ stage. StandsAt source (record { received = received; sent = []; asked = asked }) stage call.outgoing) (sym is)
    (record { head = head; body = body; done = []; part = part; requested = requested; sends = sends; goes_out = goes })
ends source received head body asked part outcome call requested sends starved (inr (is, goes)) =
    subst (λ stage. StandsAt source (record { received = received; sent = []; asked = asked }) stage call.outgoing) (sym is)
    (record { silent = record { none_sent = refl; goes_out = goes }; starved = starved })

-- a call for which an allocation failed
pub starves_so : (source : Source) (received : List ℕ) (asked : List (List Entry)) (call : Call) → IsStarvedAt source.is_plain asked received → call.stage ≡ Starved
    → GoesOut call.outgoing [] [] [] → Stands source (record { received = received; sent = []; asked = asked }) call
starves_so source received asked call starved is goes =
    subst (λ stage. StandsAt source (record { received = received; sent = []; asked = asked }) stage call.outgoing) (sym is)
    (record { silent = record { none_sent = refl; goes_out = goes }; starved = starved })

-- a plain request for whose answer an allocation failed
pub starves_plainly : {is_plain : Bool} (head received : List ℕ) (what : AskedPlainly) (seen : List Entry)
    → is_plain ≡ true → IsRequested head [] received → is_too_large head ≡ false → IsInquiryOf head what
    → IsStarvedAt is_plain (seen ∷ []) received
starves_plainly {is_plain} head received what seen answers requested within asked =
    subst (λ bytes. IsStarvedAt is_plain (seen ∷ []) bytes) (sym (requested.is ∙ append-nil head))
    (StarvedPlain what seen answers requested.is_head within asked refl)

-- a call that was not answered before
pub answers_first : (source : Source) (past : Past) (intake : Intake) (outgoing : Outgoing) (asked : List (List Entry)) (call : Call)
    → IsReading past intake outgoing → Stands source (record { received = past.received; sent = []; asked = asked }) call
    → Stands source (with_asked asked past) call
answers_first source past intake outgoing asked call reads stands =
    subst (λ sent. Stands source (record { received = past.received; sent = sent; asked = past.asked ++ asked }) call) (sym reads.silent.none_sent)
    (subst (λ before. Stands source (record { received = past.received; sent = []; asked = before ++ asked }) call) (sym reads.none_asked) stands)

-- the head of a whole request
pub whole_head : (reading : HowFar) (head body : List ℕ) → is_whole reading ≡ true → Rattle.web_call.specs.Intake.AreRead reading head body → HasHead head (length body) 0
whole_head readings.Head head body is read = absurd (grind arith)
whole_head (readings.Body left) head body is read = absurd (grind arith)
whole_head readings.Whole head body is read = read
whole_head readings.Starved head body is read = absurd (grind arith)

-- a whole request, by what its head is answered
pub requested : (past : Past) (intake : Intake) (outgoing : Outgoing) → is_whole intake.reading ≡ true → IsReading past intake outgoing
    → IsRequested intake.head.items intake.body.items past.received
requested past intake outgoing whole reads =
    record { is_head = (whole_head intake.reading intake.head.items intake.body.items whole reads.has_read.read).is_head; is = reads.has_read.is }

pub body_is : (past : Past) (intake : Intake) (outgoing : Outgoing) (answer : HeadAnswer) → is_whole intake.reading ≡ true → IsReading past intake outgoing
    → IsHeaded intake.head.items answer → length intake.body.items ≡ body_len answer
body_is past intake outgoing answer whole reads headed =
    let head = whole_head intake.reading intake.head.items intake.body.items whole reads.has_read.read in
    omega (arith, head.len, ap body_len (one_answer _ intake.head.items head.answer answer head.is_headed headed))

-- what a Check is answered
pub checks : {asking : Asking} (name : List ℕ) (seen : List Entry) (status : Option Serving) (code : Code)
    → Asks asking (Checked name) → asking.asked ≡ seen ∷ [] → status ≡ status_map asking.source.names seen name → code ≡ check_code status
    → Sends asking [] (check_pieces status) (Some (Status code))
checks {asking} name seen status code asks asked is codes =
    subst (λ c. Sends asking [] (check_pieces status) (Some (Status c))) (sym codes)
    (subst (λ s. Sends asking [] (check_pieces s) (Some (Status (check_code s)))) (sym is) (Check name seen asks asked))

-- a watch that was opened
pub opens : (source : Source) (received head body : List ℕ) (method : Method) (name : List ℕ) (seen : List Entry) (watch : WatchState) (status : Serving) (outgoing : Outgoing)
    → IsOfCall source.is_plain head → IsRequested head body received → IsHeaded head (Asked method (length body)) → IsAsked method body (WatchesName name)
    → watch ≡ opened (changes_of seen) (slot_of source.names name) → status ≡ shown seen (slot_of source.names name)
    → GoesOut outgoing [] (plain watch_head_text ∷ message_chunk status) []
    → IsSending source (record { received = received; sent = []; asked = seen ∷ [] }) (Watching watch) outgoing
opens source received head body method name seen watch status outgoing of_call requested headed asked is shows goes = record {
  head = head;
  body = body;
  done = [];
  part = plain watch_head_text ∷ message_chunk (shown seen (slot_of source.names name));
  requested = requested;
  sends = record {
    name = name;
    first = seen;
    later = [];
    is_watch = record { asks = record { is_of_call = of_call; method = method; is_headed = headed; is_asked = asked }; keeps_up = tt };
    asked_is = refl;
    tells = First;
    watch_is = is;
  };
  goes_out = subst (λ s. GoesOut outgoing [] (plain watch_head_text ∷ message_chunk s) []) shows goes;
}

-- a whole request whose head asks for no body
pub no_body : (past : Past) (intake : Intake) (outgoing : Outgoing) (answer : HeadAnswer) → is_whole intake.reading ≡ true → body_len answer ≡ 0
    → IsReading past intake outgoing → IsHeaded intake.head.items answer → IsHead past.received × IsRequested intake.head.items [] past.received
no_body past intake outgoing answer whole none reads headed =
    let empty = nothing intake.body.items (body_is past intake outgoing answer whole reads headed ∙ none) in
    let r = requested past intake outgoing whole reads in
    let is = r.is ∙ ap (λ body. intake.head.items ++ body) empty in
    (subst IsHead (sym (is ∙ append-nil intake.head.items)) r.is_head, record { is_head = r.is_head; is = is })
  where
    nothing : (bytes : List ℕ) → length bytes ≡ 0 → bytes ≡ []
    nothing [] is = refl
    nothing (x ∷ bytes) is = absurd (omega (arith, is))

-- a whole request that is plain
pub plain_alone : (past : Past) (intake : Intake) (outgoing : Outgoing) (what : AskedPlainly)
    → is_whole intake.reading ≡ true → IsReading past intake outgoing
    → is_too_large intake.head.items ≡ false → IsInquiryOf intake.head.items what
    → IsRequested intake.head.items [] past.received
plain_alone past intake outgoing what whole reads within asked =
    let bytes = intake.head.items in
    let head = whole_head intake.reading bytes intake.body.items whole reads.has_read.read in
    let none = plain_asks_no_body bytes what head.answer within asked head.is_headed in
    (no_body past intake outgoing head.answer whole none reads head.is_headed).1

-- a chunk has bytes
has_bytes : {X : Type 0} (front back : List ℕ) → (front ++ crlf) ++ back ≡ [] → X
has_bytes [] back none = absurd (omega (arith, ap length none))
has_bytes (byte ∷ front) back none = absurd (omega (arith, ap length none))

tells_nothing : (answer : Option Serving) → text_of (flat_map message_chunk (told answer)) ≡ [] → answer ≡ None
tells_nothing None none = refl
tells_nothing (Some status) none = has_bytes (digits 16 false (length (message_frame status))) _ none

-- a step of which nothing is to be told moves past every change
pub rests_past : (changes : List Change) (watch watch_now : WatchState) (answer : Option Serving) (text : Text) → answer ≡ (stepped changes watch).0
    → watch_now ≡ (stepped changes watch).1 → IsTextOf text (flat_map message_chunk (told answer)) → text_bytes text ≡ [] → length changes ≤ watch_now.cursor
rests_past changes watch watch_now answer text is now tells none =
    subst (λ w. length changes ≤ w.cursor) (sym now)
    ((step_tells changes watch.slot watch.start watch.cursor).none (sym is ∙ tells_nothing answer (sym tells.bytes ∙ none)))
