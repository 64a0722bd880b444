-- The sessions of a control place, whatever turns they have had.
use Rattle.std.specs.Prelude.{◌≡◌, ℕ, List, Option, ◌++◌}
use Rattle.std.proofs.Common.{[], get_or, refl, subst, ◌∙◌, arith}
use Rattle.control.proofs.TalkLemmas.{met_then}
use Rattle.control.specs.declared.terms.Terms.{Terms}
use Rattle.control.specs.Talk.AreMet.{Ends}
use Rattle.hall.specs.Seats.{SeatState}
use Rattle.control_server.specs.declared.sessions.Sessions.{Sessions}
use Rattle.control_server.specs.Seats.{MetLines, SeatsHaveMet}

-- they are held over the same server, the same seats and by the same terms, and by each seat some lines were met; so many entries are kept
pub record HaveMet {R P K M : Type 0} (kept : Option ℕ) (old new : Sessions R P K M) : Type 0 where
  pub context : new.context ≡ old.context
  pub terms : new.terms ≡ old.terms
  pub reference : new.seats.ghost_name ≡ old.seats.ghost_name
  pub met : SeatsHaveMet kept old.terms old.context.now.hall.now.names old.seats.now new.seats.now

-- a seat that was not used
pub unused : (kept : Option ℕ) (terms : Terms) (names : List (List ℕ)) (seat : SeatState) → MetLines kept terms names seat seat
unused kept terms names seat = record { lines = []; answers = []; met = Ends seat }

met_on : (kept : Option ℕ) (terms : Terms) (names : List (List ℕ)) (a b c : SeatState) → MetLines kept terms names a b → MetLines kept terms names b c → MetLines kept terms names a c
met_on kept terms names a b c p q = record { lines = p.lines ++ q.lines; answers = p.answers ++ q.answers; met = met_then p.met q.met }

pub seats_unused : (kept : Option ℕ) (terms : Terms) (names : List (List ℕ)) (seats : List SeatState) → SeatsHaveMet kept terms names seats seats
seats_unused kept terms names seats = record { count = refl; each = λ place other below. unused kept terms names (get_or seats place other) }

pub seats_on : (kept : Option ℕ) (terms : Terms) (names : List (List ℕ)) (a b c : List SeatState) → SeatsHaveMet kept terms names a b → SeatsHaveMet kept terms names b c → SeatsHaveMet kept terms names a c
seats_on kept terms names a b c p q = record {
  count = q.count ∙ p.count;
  each = λ place other below. met_on kept terms names (get_or a place other) (get_or b place other) (get_or c place other) (p.each place other below)
      (q.each place other (omega (arith, below, p.count)));
}

-- no turn was had
pub met_none : {R P K M : Type 0} (kept : Option ℕ) (sessions : Sessions R P K M) → HaveMet kept sessions sessions
met_none kept sessions = record { context = refl; terms = refl; reference = refl; met = seats_unused kept sessions.terms sessions.context.now.hall.now.names sessions.seats.now }

-- turns, and then others
pub met_further : {R P K M : Type 0} (kept : Option ℕ) (a b c : Sessions R P K M) → HaveMet kept a b → HaveMet kept b c → HaveMet kept a c
met_further kept a b c p q = record {
  context = q.context ∙ p.context;
  terms = q.terms ∙ p.terms;
  reference = q.reference ∙ p.reference;
  met = seats_on kept a.terms a.context.now.hall.now.names a.seats.now b.seats.now c.seats.now p.met
      (subst (λ terms. SeatsHaveMet kept terms a.context.now.hall.now.names b.seats.now c.seats.now) p.terms
      (subst (λ context. SeatsHaveMet kept b.terms context.now.hall.now.names b.seats.now c.seats.now) p.context q.met));
}
