-- What is said in a session, by its seat.
use Rattle.std.proofs.Common.{◌≡◌, ◌⊎◌, ℕ, inl, Bool, true, false, List, [], ◌++◌, refl, ap, sym, ◌∙◌, subst, append-nil, true≢false}
use Rattle.std.specs.Prelude.{Option}
use Rattle.crew.specs.declared.door.HallDoor.{HallDoor}
use Rattle.crew.specs.HallDoor.{CarriesOut, StaysAt}
use Rattle.control.specs.declared.expected.Expected.{Expected}
use Rattle.control.specs.declared.stats.Counts.{Counts}
use Rattle.control.specs.declared.session_terms.SessionTerms.{SessionTerms}
use Rattle.control.specs.declared.terms.Terms.{Terms}
use Rattle.control.specs.Beside.{IsLineMetBeside}
use Rattle.control.specs.Session.{SessionState, begun}
use Rattle.control.specs.Talk.{AreLines, answer_texts, nobody}
use Rattle.hall.specs.Seats.{SeatState}
use Rattle.reactor.specs.Moved.{Moved, nothing_moved}
use Rattle.reactor.specs.Talking.{HasSaid, IsDone}
use Rattle.reactor.specs.TalkingLaws.{said_nothing}
use Rattle.reactor.proofs.TalkingLemmas.{done_by_end}
use Rattle.control_server.specs.Connection.{SpeaksBy}
use Rattle.control_server.proofs.ConsoleLemmas.{IsSame, lines_met, same_whole, seat_of, seen_by}

pub by_draining : {X : Type 0} (draining : Bool) → (draining ≡ false → X) → (draining ≡ true → X) → X
by_draining false talks drains = talks refl
by_draining true talks drains = drains refl

module _ {R P K V : Type 0} (kept : Option ℕ) (terms : V → SessionTerms) (counted : V → Counts → Type 0) (woken : V → V → Type 0) (expected : V → V → Expected → Type 0) (stopped : V → V → Type 0) where
  -- what was said over a door was said by its seat
  pub said_by_seat : (names : List (List ℕ)) (old new : HallDoor R P K × V) {session session_now : SessionState} {moved : Moved}
      → HasSaid nobody (IsLineMetBeside seen_by kept StaysAt CarriesOut terms counted woken expected stopped names) names old new session session_now moved
      → IsSame terms old new × SpeaksBy kept (terms old.1).place names (seat_of old) (seat_of new) session session_now moved
  said_by_seat names old new said =
      let met = lines_met kept terms counted woken expected stopped names old new said.lines said.answers said.are_met in (
        met.0,
        record { closing = said.closing; lines = said.lines; answers = said.answers; talked = said.talked; are_met = met.1 },
      )

  -- a connection's turn, be its session over or not
  pub speaks_by_turn : (names : List (List ℕ)) (old new : HallDoor R P K × V) (session session_now : SessionState) (draining : Bool)
      → (draining ≡ false → (moved : Moved)
      × HasSaid nobody (IsLineMetBeside seen_by kept StaysAt CarriesOut terms counted woken expected stopped names) names old new session session_now moved)
      → (draining ≡ true → (new ≡ old) × (session_now ≡ session)) → IsSame terms old new × ((moved : Moved) × SpeaksBy kept (terms old.1).place names (seat_of old) (seat_of new) session session_now moved)
  speaks_by_turn names old new session session_now false goes stays =
      let said = goes refl in
      let by_seat = said_by_seat names old new said.1 in
      (by_seat.0, (said.0, by_seat.1))
  speaks_by_turn names old new session session_now true goes stays =
      let same = stays refl in (
        same_whole terms old new same.0,
        (
          nothing_moved,
          subst (λ (s : SessionState). SpeaksBy kept (terms old.1).place names (seat_of old) (seat_of new) session s nothing_moved) (sym same.1)
              (subst (λ (seat : SeatState). SpeaksBy kept (terms old.1).place names (seat_of old) seat session session nothing_moved) (sym (ap (λ (held : HallDoor R P K × V). seat_of held) same.0))
              (said_nothing (seat_of old) session)),
        ),
      )

-- a session that began in these turns and is done
pub said_to_its_end : (kept : Option ℕ) (terms : Terms) {names : List (List ℕ)} {first now : SeatState} {session_now : SessionState} {moved : Moved} (said : SpeaksBy kept terms names first now begun session_now moved)
    → IsDone session_now → session_now.waiting ≡ []
    → (moved.sent ≡ answer_texts names said.answers) × ((session_now.is_over ≡ true) ⊎ AreLines (moved.read ++ said.closing) said.lines [])
said_to_its_end kept terms {session_now = session_now} {moved = moved} said done all_sent = (
  sym (said.talked.texts ∙ (ap (λ l. moved.sent ++ l) all_sent ∙ append-nil moved.sent)),
  done_by_end session_now.is_over (moved.read ++ said.closing) session_now.unread said.lines session_now.is_over session_now.has_ended refl said.talked.are_lines
      (λ open_ has. done.no_line (open_, inl has)) (said.talked.whole (λ ends. absurd (true≢false (sym ends)))) done.ends,
)
