-- What lines make of a door's seat.
use Rattle.std.proofs.Common.{◌≡◌, ◌⊎◌, inl, inr, ℕ, ◌-◌, List, ap, refl, subst, ◌∙◌}
use Rattle.std.specs.Prelude.{[], ◌∷◌, Option, None, Some, IfNone, IfSome}
use Rattle.crew.specs.declared.door.HallDoor.{HallDoor}
use Rattle.crew.specs.HallDoor.{CarriesOut, StaysAt, door_hall, door_seat, stays_same}
use Rattle.desk_core.specs.declared.entry.Entry.{Entry}
use Rattle.desk_core.specs.Catalogue.{slot_of}
use Rattle.hall.specs.Seats.{SeatState}
use Rattle.control.proofs.TalkLemmas.{met_then}
use Rattle.control.specs.declared.answer.Answer.{Answer}
use Rattle.control.specs.declared.answer.Answer.TheVariants.{NotASession}
use Rattle.control.specs.declared.expected.Expected.{Expected}
use Rattle.control.specs.declared.request.Request.{Request}
use Rattle.control.specs.declared.stats.Counts.{Counts}
use Rattle.script.specs.TextLines.{without_cr}
use Rattle.control.specs.declared.session_terms.SessionTerms.{SessionTerms}
use Rattle.control.specs.declared.terms.Terms.{Terms}
use Rattle.control.specs.Beside.{IsLineMetBeside, IsMetBeside, IsTextMetBeside, LooksBeside}
use Rattle.control.specs.Request.{IsRequest}
use Rattle.control.specs.Rights.{IsAllowed}
use Rattle.control.specs.Meeting.{IsSaid}
use Rattle.control.specs.Meeting.IsMet.{Changes, Expects, Checks, Packs, Lists, Tells, Answers, AnswersNone, Stops, Starves, StarvesTold}
use Rattle.control.specs.Meeting.IsLineMet.{IsTooLong, IsSkipped, IsNoText, IsNoRequest, IsUnread, IsDenied, IsAsked}
use Rattle.control.specs.Talk.{AreMet, nobody}
use Rattle.control.specs.WebLine.{IsWebLine}
use Rattle.control.specs.Talk.AreMet.{Ends, Then, Moves}
use Rattle.control_server.specs.SeatLines.{HasMet, IsTextMetBySeat}

-- one line that is met
met_one : (kept : Option ℕ) (terms : Terms) (names : List (List ℕ)) (old new : SeatState) (line : List ℕ) (answer : Answer) → IsTextMetBySeat kept terms names old new line answer → HasMet kept terms names old new (line ∷ []) (answer ∷ [])
met_one kept terms names old new line answer met = Then old new new line answer [] [] (inr met) (Ends new)

-- one line that is none of a session
told_one : (kept : Option ℕ) (terms : Terms) (names : List (List ℕ)) (old new : SeatState) (line : List ℕ) (answer : Answer) → IsWebLine line → answer ≡ NotASession → new ≡ old
    → HasMet kept terms names old new (line ∷ []) (answer ∷ [])
told_one kept terms names old new line answer web told same = Then old new new line answer [] [] (inl (web, told, same)) (Ends new)

module _ {R P K V : Type 0} where
  abbrev pub seat_of : HallDoor R P K × V → SeatState
  seat_of held = door_seat held.0

  -- the door is over the same hall and the same seat, and the same terms hold
  pub record IsSame (terms : V → SessionTerms) (old new : HallDoor R P K × V) : Type 0 where
    pub reference : new.0.seat.ghost_name ≡ old.0.seat.ghost_name
    pub hall : door_hall new.0 ≡ door_hall old.0
    pub by_terms : terms new.1 ≡ terms old.1

  same_self : (terms : V → SessionTerms) (held : HallDoor R P K × V) → IsSame terms held held
  same_self terms held = record { reference = refl; hall = refl; by_terms = refl }

  same_still : (terms : V → SessionTerms) (old new : HallDoor R P K × V) → new.0 ≡ old.0 → terms new.1 ≡ terms old.1 → IsSame terms old new
  same_still terms old new same still = record {
    reference = ap (λ (door : HallDoor R P K). door.seat.ghost_name) same;
    hall = ap (λ (door : HallDoor R P K). door_hall door) same;
    by_terms = still;
  }

  same_on : (terms : V → SessionTerms) (a b c : HallDoor R P K × V) → IsSame terms a b → IsSame terms b c → IsSame terms a c
  same_on terms a b c p q = record { reference = q.reference ∙ p.reference; hall = q.hall ∙ p.hall; by_terms = q.by_terms ∙ p.by_terms }

  same_looks : (terms : V → SessionTerms) (old new : HallDoor R P K × V) → LooksBeside StaysAt old new → IsSame terms old new
  same_looks terms old new looks = record { reference = looks.looked.reference; hall = looks.looked.hall; by_terms = ap terms looks.server }

  -- nothing was done at all
  pub same_whole : (terms : V → SessionTerms) (old new : HallDoor R P K × V) → new ≡ old → IsSame terms old new
  same_whole terms old new same = same_still terms old new (ap (λ (held : HallDoor R P K × V). held.0) same) (ap (λ (held : HallDoor R P K × V). terms held.1) same)

  first_of : (old new : HallDoor R P K × V) → new ≡ old → new.0 ≡ old.0
  first_of old new same = ap (λ (held : HallDoor R P K × V). held.0) same

  same_seat : (old new : HallDoor R P K × V) → new.0 ≡ old.0 → seat_of new ≡ seat_of old
  same_seat old new same = ap (λ (door : HallDoor R P K). door_seat door) same

-- a door that has looked for a slot, or did nothing where there is none
stays_by : {R P K : Type 0} (slot : Option ℕ) (old new : HallDoor R P K) → IfSome slot (λ found. StaysAt old new) → IfNone slot (new ≡ old) → StaysAt old new
stays_by (Some found) old new looked same = looked
stays_by {R} {P} {K} None old new looked same = subst (λ (door : HallDoor R P K). StaysAt door new) same (stays_same new)

abbrev pub seen_by : {R P K : Type 0} → HallDoor R P K → List Entry
seen_by door = (door_seat door).seen

module _ {R P K V : Type 0} (kept : Option ℕ) (terms : V → SessionTerms) (counted : V → Counts → Type 0) (woken : V → V → Type 0) (expected : V → V → Expected → Type 0) (stopped : V → V → Type 0) where
  -- a line whose request is met over the door is met by its seat
  request_met : (names : List (List ℕ)) (old new : HallDoor R P K × V) (line : List ℕ) (request : Request) (answer : Answer) → IsSaid line → IsRequest names (without_cr line) request → IsAllowed (terms old.1).place.rights request
      → IsMetBeside seen_by kept StaysAt CarriesOut terms counted woken expected stopped names old new request answer → IsSame terms old new × HasMet kept (terms old.1).place names (seat_of old) (seat_of new) (line ∷ []) (answer ∷ [])
  request_met names old new line _ _ said is may (Changes asked call result change changes) = (
    record { reference = changes.answered.reference; hall = changes.answered.hall; by_terms = changes.terms_stay },
    met_one kept (terms old.1).place names (seat_of old) (seat_of new) line _ (IsAsked said _ _ is may (Changes asked call result change changes.answered.carried)),
  )
  request_met names old new line _ _ said is may (Expects expectation result expects) =
      let stays = stays_by (slot_of names expectation.name) old.0 new.0 expects.looked expects.unlisted in (
        record { reference = stays.reference; hall = stays.hall; by_terms = expects.terms_stay },
        met_one kept (terms old.1).place names (seat_of old) (seat_of new) line _
            (IsAsked said _ _ is may (Expects expectation result (record { looked = stays.looked; answered = expects.answered }))),
      )
  request_met names old new line _ _ said is may (Checks name looks) =
      (same_looks terms old new looks, met_one kept (terms old.1).place names (seat_of old) (seat_of new) line _ (IsAsked said _ _ is may (Checks name looks.looked.looked)))
  request_met names old new line _ _ said is may (Packs looks) =
      (same_looks terms old new looks, met_one kept (terms old.1).place names (seat_of old) (seat_of new) line _ (IsAsked said _ _ is may (Packs looks.looked.looked)))
  request_met names old new line _ _ said is may (Lists looks) =
      (same_looks terms old new looks, met_one kept (terms old.1).place names (seat_of old) (seat_of new) line _ (IsAsked said _ _ is may (Lists looks.looked.looked)))
  request_met names old new line _ _ said is may (Tells stats looks counts) = (
    same_looks terms old new looks,
    met_one kept (terms old.1).place names (seat_of old) (seat_of new) line _ (IsAsked said _ _ is may (Tells stats looks.looked.looked (record {
      entries = counts.entries;
      in_memory = counts.in_memory;
      left = counts.left
          ∙ (ap (λ (v : V). (terms v).place.most - stats.entries) looks.server ∙ ap (λ (n : ℕ). (terms old.1).place.most - n) counts.entries);
    }))),
  )
  request_met names old new line _ _ said is may (Answers question answer looks told) = (
    same_looks terms old new looks,
    met_one kept (terms old.1).place names (seat_of old) (seat_of new) line _
        (IsAsked said _ _ is may (Answers question answer looks.looked.looked told)),
  )
  request_met names old new line _ _ said is may (AnswersNone question none same) =
      (same_whole terms old new same, met_one kept (terms old.1).place names (seat_of old) (seat_of new) line _ (IsAsked said _ _ is may (AnswersNone question none (same_seat old new (first_of old new same)))))
  request_met names old new line _ _ said is may (Stops stops) =
      (same_still terms old new stops.console stops.terms_stay, met_one kept (terms old.1).place names (seat_of old) (seat_of new) line _ (IsAsked said _ _ is may (Stops (same_seat old new stops.console))))
  request_met names old new line _ _ said is may (Starves request same) =
      (same_whole terms old new same, met_one kept (terms old.1).place names (seat_of old) (seat_of new) line _ (IsAsked said _ _ is may (Starves request (same_seat old new (first_of old new same)))))
  request_met names old new line _ _ said is may (StarvesTold request looks) =
      (same_looks terms old new looks, met_one kept (terms old.1).place names (seat_of old) (seat_of new) line _ (IsAsked said _ _ is may (StarvesTold request looks.looked.looked)))

  -- so is any line that is text of a session
  text_met : (names : List (List ℕ)) (old new : HallDoor R P K × V) (line : List ℕ) (answer : Answer) → IsTextMetBeside seen_by kept StaysAt CarriesOut terms counted woken expected stopped names old new line answer
      → IsSame terms old new × HasMet kept (terms old.1).place names (seat_of old) (seat_of new) (line ∷ []) (answer ∷ [])
  text_met names old new line _ (IsTooLong long same) =
      (same_whole terms old new same, met_one kept (terms old.1).place names (seat_of old) (seat_of new) line _ (IsTooLong long (same_seat old new (first_of old new same))))
  text_met names old new line _ (IsSkipped short empty same) =
      (same_whole terms old new same, met_one kept (terms old.1).place names (seat_of old) (seat_of new) line _ (IsSkipped short empty (same_seat old new (first_of old new same))))
  text_met names old new line _ (IsNoText short not_text answer told same) =
      (same_whole terms old new same, met_one kept (terms old.1).place names (seat_of old) (seat_of new) line _ (IsNoText short not_text answer told (same_seat old new (first_of old new same))))
  text_met names old new line _ (IsNoRequest said not_request answer told same) =
      (same_whole terms old new same, met_one kept (terms old.1).place names (seat_of old) (seat_of new) line _ (IsNoRequest said not_request answer told (same_seat old new (first_of old new same))))
  text_met names old new line _ (IsUnread said same) =
      (same_whole terms old new same, met_one kept (terms old.1).place names (seat_of old) (seat_of new) line _ (IsUnread said (same_seat old new (first_of old new same))))
  text_met names old new line _ (IsDenied said request is may_not same) =
      (same_whole terms old new same, met_one kept (terms old.1).place names (seat_of old) (seat_of new) line _ (IsDenied said request is may_not (same_seat old new (first_of old new same))))
  text_met names old new line _ (IsAsked said request answer is may met) = request_met names old new line request answer said is may met

  -- and so is one that is none of a session
  line_met : (names : List (List ℕ)) (old new : HallDoor R P K × V) (line : List ℕ) (answer : Answer) → IsLineMetBeside seen_by kept StaysAt CarriesOut terms counted woken expected stopped names old new line answer
      → IsSame terms old new × HasMet kept (terms old.1).place names (seat_of old) (seat_of new) (line ∷ []) (answer ∷ [])
  line_met names old new line answer (inl told) =
      (same_whole terms old new told.2, told_one kept (terms old.1).place names (seat_of old) (seat_of new) line answer told.0.1 told.1 (same_seat old new (first_of old new told.2)))
  line_met names old new line answer (inr met) = text_met names old new line answer met.1

  -- and so are lines, one after the other
  pub lines_met : (names : List (List ℕ)) (old new : HallDoor R P K × V) (lines : List (List ℕ)) (answers : List Answer)
      → AreMet nobody (IsLineMetBeside seen_by kept StaysAt CarriesOut terms counted woken expected stopped names) old new lines answers → IsSame terms old new × HasMet kept (terms old.1).place names (seat_of old) (seat_of new) lines answers
  lines_met names _ _ _ _ (Ends held) = (same_self terms held, Ends (seat_of held))
  lines_met names _ _ _ _ (Then old between new line answer lines answers met are) =
      let first = line_met names old between line answer met in
      let later = lines_met names between new lines answers are in (
        same_on terms old between new first.0 later.0,
        met_then first.1 (subst (λ (held : SessionTerms). HasMet kept held.place names (seat_of between) (seat_of new) lines answers) first.0.by_terms later.1),
      )
  lines_met names _ _ _ _ (Moves old between new lines answers moves are) = absurd moves
