-- Sessions: what one step and another, and one turn and another, come to.
use Rattle.std.proofs.Common.{◌≡◌, ◌+◌, ◌-◌, ◌⊎◌, ℕ, inl, inr, Bool, true, false, List, [], ◌∷◌, ◌++◌, length, refl, ap, sym, ◌∙◌, subst, append_assoc, append-nil, length-append, arith, ⊎_elim, true≢false, if◌then◌else◌}
use Rattle.std.specs.Prelude.{All, codes}
use Rattle.web_call.specs.Answer.{Source}
use Rattle.control.specs.declared.answer.Answer.{Answer}
use Rattle.control.specs.Session.{SessionState, begun}
use Rattle.control.specs.Talk.{AreLines, AreMet, answer_texts, nobody}
use Rattle.control.specs.Talk.AreLines.{NoMore}
use Rattle.control.specs.Talk.AreMet.{Ends, Moves, Then}
use Rattle.control.specs.Text.{answer_text}
use Rattle.std.proofs.lemmas.List.Elements.{All-append, All-head, All-nil, All-tail}
use Rattle.control.proofs.TalkLemmas.{lines_more, lines_then, over_then, texts_then}
use Rattle.reactor.specs.Moved.{Moved, followed_by, nothing_moved}
use Rattle.reactor.specs.Talking.{HasSaid, HasTaken, HasTalked, IsSessionOf, taken_by, told_texts}

-- the lines of bytes that are said in another way
pub lines_of : {bytes same : List ℕ} {lines : List (List ℕ)} {rest : List ℕ} → bytes ≡ same → AreLines bytes lines rest → AreLines same lines rest
lines_of {lines = lines} {rest = rest} is are = subst (λ l. AreLines l lines rest) is are

-- nothing was moved
talked_none : (names : List (List ℕ)) (session : SessionState) → HasTalked names session session nothing_moved [] [] []
talked_none names session = record {
  are_lines = lines_of (sym (append-nil session.unread)) (NoMore session.unread);
  texts = append-nil session.waiting;
  over = refl;
  each = refl;
  by = All-nil (λ (source : Source). source.names ≡ names);
  all_taken = refl;
  ends_once = λ is. (refl, refl, refl, is);
  ends = λ comes ends. absurd (true≢false (sym ends ∙ comes));
  comes = λ is. refl;
  closes = inl refl;
  whole = λ is. is;
}

-- the bytes of two pieces of work, where nothing closes in the first or nothing is read in the second
in_order : (received closing more later : List ℕ) → (closing ≡ []) ⊎ (more ≡ []) → (received ++ closing) ++ (more ++ later) ≡ (received ++ more) ++ (closing ++ later)
in_order received closing more later none = ⊎_elim
    (λ e. subst (λ b. (received ++ b) ++ (more ++ later) ≡ (received ++ more) ++ (b ++ later)) (sym e)
    (ap (λ l. l ++ (more ++ later)) (append-nil received) ∙ sym (append_assoc received more later)))
    (λ e. subst (λ m. (received ++ closing) ++ (m ++ later) ≡ (received ++ m) ++ (closing ++ later)) (sym e)
    (append_assoc received closing later ∙ sym (ap (λ l. l ++ (closing ++ later)) (append-nil received))))
    none

-- answers of two pieces of work
texts_in_order : (names : List (List ℕ)) (answers later : List Answer) (waiting between now sent more : List ℕ) → waiting ++ answer_texts names answers ≡ sent ++ between
    → between ++ answer_texts names later ≡ more ++ now → waiting ++ answer_texts names (answers ++ later) ≡ (sent ++ more) ++ now
texts_in_order names answers later waiting between now sent more first second =
    ap (λ l. waiting ++ l) (texts_then names answers later) ∙ (sym (append_assoc waiting (answer_texts names answers) (answer_texts names later))
    ∙ (ap (λ l. l ++ answer_texts names later) first ∙ (append_assoc sent between (answer_texts names later)
    ∙ (ap (λ l. sent ++ l) second ∙ sym (append_assoc sent more now)))))

-- LF is put once
one_closing : (closing later : List ℕ) (ends ends_now : Bool) → (closing ≡ []) ⊎ ((closing ≡ codes "\n") × (ends ≡ true)) → (ends ≡ true → (later ≡ []) × (ends_now ≡ true))
    → (later ≡ []) ⊎ ((later ≡ codes "\n") × (ends_now ≡ true)) → (closing ++ later ≡ []) ⊎ ((closing ++ later ≡ codes "\n") × (ends_now ≡ true))
one_closing closing later ends ends_now first once second = ⊎_elim
    (λ none. subst (λ l. (l ++ later ≡ []) ⊎ ((l ++ later ≡ codes "\n") × (ends_now ≡ true))) (sym none) second)
    (λ put. inr (ap (λ l. closing ++ l) (once put.1).0 ∙ (append-nil closing ∙ put.0), (once put.1).1))
    first

-- the input ends in one of two pieces of work
one_end : (a b : ℕ) (mid ends_now : Bool) → ends_now ≡ true → (mid ≡ true → a ≡ 1) → (mid ≡ true → b ≡ 0) → (mid ≡ false → a ≡ 0) → (mid ≡ false → ends_now ≡ true → b ≡ 1) → a + b ≡ 1
one_end a b true ends_now is first none before second = omega (arith, first refl, none refl)
one_end a b false ends_now is first none before second = omega (arith, before refl, second refl is)

no_end : (a b : ℕ) (mid ends_now : Bool) → ends_now ≡ false → (mid ≡ true → ends_now ≡ true) → (mid ≡ false → a ≡ 0) → b ≡ 0 → a + b ≡ 0
no_end a b true ends_now is stays before second = absurd (true≢false (sym (stays refl) ∙ is))
no_end a b false ends_now is stays before second = omega (arith, before refl, second)

pub talked_then : {names : List (List ℕ)} {session mid session_now : SessionState} {x y : Moved} {closing later : List ℕ} {lines more : List (List ℕ)} {answers others : List Answer}
    → HasTalked names session mid x closing lines answers → HasTalked names mid session_now y later more others
    → HasTalked names session session_now (followed_by x y) (closing ++ later) (lines ++ more) (answers ++ others)
talked_then {names} {session} {mid} {session_now} {x} {y} {closing} {later} {lines} {more} {answers} {others} first second = record {
  are_lines = lines_of
      (append_assoc session.unread (x.read ++ closing) (y.read ++ later)
      ∙ ap (λ l. session.unread ++ l) (in_order x.read closing y.read later
      (⊎_elim (λ (none : closing ≡ []). inl none)
      (λ (put : (closing ≡ codes "\n") × (mid.has_ended ≡ true)). inr (second.ends_once put.1).0) first.closes)))
      (lines_then (lines_more (y.read ++ later) first.are_lines) second.are_lines);
  texts = texts_in_order names answers others session.waiting mid.waiting session_now.waiting x.sent y.sent first.texts second.texts;
  over = over_then session.is_over mid.is_over session_now.is_over answers others first.over second.over;
  each = omega (arith, first.each, second.each, length-append lines more, length-append x.steps y.steps);
  by = All-append (λ (source : Source). source.names ≡ names) x.steps y.steps first.by second.by;
  all_taken = omega (arith, first.all_taken, second.all_taken);
  ends_once = λ was.
      let once = first.ends_once was in
      let again = second.ends_once once.3 in
      (ap (λ l. l ++ y.read) once.0 ∙ again.0, ap (λ l. l ++ later) once.1 ∙ again.1, omega (arith, once.2, again.2), again.3);
  ends = λ comes is. one_end x.ends y.ends mid.has_ended session_now.has_ended is (first.ends comes) (λ was. (second.ends_once was).2) first.comes second.ends;
  comes = λ is. no_end x.ends y.ends mid.has_ended session_now.has_ended is (λ was. (second.ends_once was).3) first.comes (second.comes is);
  closes = one_closing closing later mid.has_ended session_now.has_ended first.closes (λ is. ((second.ends_once is).1, (second.ends_once is).3)) second.closes;
  whole = λ was. second.whole (first.whole was);
}

module _ {S : Type 0} {meets : S → S → List ℕ → Answer → Type 0} where
  pub met_then : {others : S → S → Type 0} {old between new : S} {lines more : List (List ℕ)} {answers later : List Answer} → AreMet others meets old between lines answers
      → AreMet others meets between new more later → AreMet others meets old new (lines ++ more) (answers ++ later)
  met_then (Ends state) second = second
  met_then (Then old between new line answer lines answers met rest) second = Then old between _ line answer _ _ met (met_then rest second)
  met_then (Moves old between new lines answers moves rest) second = Moves old between _ _ _ moves (met_then rest second)

  pub met_beside : {others : S → S → Type 0} {old new : S} {lines : List (List ℕ)} {answers : List Answer} → AreMet nobody meets old new lines answers
      → AreMet others meets old new lines answers
  met_beside (Ends state) = Ends state
  met_beside (Then old between new line answer lines answers met rest) = Then old between new line answer lines answers met (met_beside rest)
  met_beside (Moves old between new lines answers moves rest) = absurd moves

module _ {S : Type 0} {meets : S → S → List ℕ → Answer → Type 0} {names : List (List ℕ)} where
  pub said_nothing : {others : S → S → Type 0} (state : S) (session : SessionState) → HasSaid others meets names state state session session nothing_moved
  said_nothing state session = record { closing = []; lines = []; answers = []; talked = talked_none names session; are_met = Ends state }

  pub said_alone : {others : S → S → Type 0} (state : S) {session session_now : SessionState} {moved : Moved} → HasTaken session session_now moved
      → HasSaid others meets names state state session session_now moved
  said_alone state taken = record { closing = taken.closing; lines = []; answers = []; talked = taken.talked names; are_met = Ends state }

  pub said_then : {others : S → S → Type 0} {state between state_now : S} {session mid session_now : SessionState} {x y : Moved} → HasSaid others meets names state between session mid x
      → HasSaid others meets names between state_now mid session_now y → HasSaid others meets names state state_now session session_now (followed_by x y)
  said_then first second = record {
    closing = first.closing ++ second.closing;
    lines = first.lines ++ second.lines;
    answers = first.answers ++ second.answers;
    talked = talked_then first.talked second.talked;
    are_met = met_then first.are_met second.are_met;
  }

  pub said_beside : {others : S → S → Type 0} {state state_now : S} {session session_now : SessionState} {moved : Moved} → HasSaid nobody meets names state state_now session session_now moved
      → HasSaid others meets names state state_now session session_now moved
  said_beside said = record { closing = said.closing; lines = said.lines; answers = said.answers; talked = said.talked; are_met = met_beside said.are_met }

  pub said_still : {others : S → S → Type 0} {state between state_now : S} {session session_now : SessionState} {moved : Moved} → HasSaid others meets names state between session session_now moved
      → others between state_now → HasSaid others meets names state state_now session session_now moved
  said_still {others} {state} {between} {state_now} said moves = record {
    closing = said.closing;
    lines = said.lines;
    answers = said.answers;
    talked = said.talked;
    are_met = subst (λ l. AreMet others meets state state_now l said.answers) (append-nil said.lines)
        (subst (λ a. AreMet others meets state state_now (said.lines ++ []) a) (append-nil said.answers)
        (met_then said.are_met (Moves between state_now state_now [] [] moves (Ends state_now))));
  }

  pub closed_stays : {others : S → S → Type 0} {state state_now : S} {session session_now : SessionState} {moved : Moved} → session.has_ended ≡ true
      → HasSaid others meets names state state_now session session_now moved → (moved.read ≡ []) × (moved.behind ≡ 0) × (session_now.has_ended ≡ true)
  closed_stays is said = let once = said.talked.ends_once is in (once.0, said.talked.all_taken, once.3)

-- a session that begins, by what it is then
pub session_begins : (session : SessionState) → session ≡ begun → IsSessionOf nothing_moved session
session_begins session is = subst (λ s. IsSessionOf nothing_moved s) (sym is) record {
  closing = [];
  lines = [];
  answers = [];
  are_lines = NoMore [];
  texts = refl;
  as_many = refl;
  over = refl;
  each = refl;
  all_taken = refl;
  ends = λ ends. absurd (true≢false (sym ends));
  comes = λ is. refl;
  closes = inl refl;
  whole = λ ends. absurd (true≢false (sym ends));
}

-- a step for each answer, of hosts with these names
texts_by : (names : List (List ℕ)) (steps : List Source) (answers : List Answer) → length answers ≡ length steps → All (λ (source : Source). source.names ≡ names) steps
    → told_texts steps answers ≡ answer_texts names answers
texts_by names [] [] same by = refl
texts_by names [] (answer ∷ answers) same by = absurd (omega (arith, same))
texts_by names (source ∷ steps) [] same by = absurd (omega (arith, same))
texts_by names (source ∷ steps) (answer ∷ answers) same by =
    ap (λ n. answer_text n answer ++ told_texts steps answers) (All-head (λ (s : Source). s.names ≡ names) source steps by)
    ∙ ap (λ l. answer_text names answer ++ l) (texts_by names steps answers (omega (arith, same)) (All-tail (λ (s : Source). s.names ≡ names) source steps by))

told_then : (steps more : List Source) (answers later : List Answer) → length answers ≡ length steps
    → told_texts (steps ++ more) (answers ++ later) ≡ told_texts steps answers ++ told_texts more later
told_then [] more [] later same = refl
told_then [] more (answer ∷ answers) later same = absurd (omega (arith, same))
told_then (source ∷ steps) more [] later same = absurd (omega (arith, same))
told_then (source ∷ steps) more (answer ∷ answers) later same =
    ap (λ l. answer_text source.names answer ++ l) (told_then steps more answers later (omega (arith, same)))
    ∙ sym (append_assoc (answer_text source.names answer) (told_texts steps answers) (told_texts more later))

-- as many lines are met as answers are given
pub as_many_met : {S : Type 0} {others : S → S → Type 0} {meets : S → S → List ℕ → Answer → Type 0} {old new : S} {lines : List (List ℕ)} {answers : List Answer}
    → AreMet others meets old new lines answers → length answers ≡ length lines
as_many_met (Ends state) = refl
as_many_met (Then old between new line answer lines answers met rest) = omega (arith, as_many_met rest)
as_many_met (Moves old between new lines answers moves rest) = as_many_met rest

-- a session of a past goes on
pub session_goes_on : {names : List (List ℕ)} {mid session : SessionState} {past y : Moved} {later : List ℕ} {more : List (List ℕ)} {others : List Answer} → IsSessionOf past mid
    → HasTalked names mid session y later more others → length others ≡ length more → IsSessionOf (followed_by past y) session
session_goes_on {names} {mid} {session} {past} {y} {later} {more} {others} first second many = record {
  closing = first.closing ++ later;
  lines = first.lines ++ more;
  answers = first.answers ++ others;
  are_lines = lines_of
      (in_order past.read first.closing y.read later
      (⊎_elim (λ (none : first.closing ≡ []). inl none)
      (λ (put : (first.closing ≡ codes "\n") × (mid.has_ended ≡ true)). inr (second.ends_once put.1).0) first.closes))
      (lines_then (lines_more (y.read ++ later) first.are_lines) second.are_lines);
  texts = told_then past.steps y.steps first.answers others (omega (arith, first.as_many, first.each))
      ∙ (ap (λ l. l ++ told_texts y.steps others) first.texts
      ∙ (append_assoc past.sent mid.waiting (told_texts y.steps others)
      ∙ (ap (λ l. past.sent ++ (mid.waiting ++ l)) (texts_by names y.steps others (omega (arith, many, second.each)) second.by)
      ∙ (ap (λ l. past.sent ++ l) second.texts ∙ sym (append_assoc past.sent y.sent session.waiting)))));
  as_many = omega (arith, first.as_many, many, length-append first.answers others, length-append first.lines more);
  over = over_then false mid.is_over session.is_over first.answers others first.over second.over;
  each = omega (arith, first.each, second.each, length-append first.lines more, length-append past.steps y.steps);
  all_taken = omega (arith, first.all_taken, second.all_taken);
  ends = λ is. one_end past.ends y.ends mid.has_ended session.has_ended is first.ends (λ was. (second.ends_once was).2) first.comes second.ends;
  comes = λ is. no_end past.ends y.ends mid.has_ended session.has_ended is (λ was. (second.ends_once was).3) first.comes (second.comes is);
  closes = one_closing first.closing later mid.has_ended session.has_ended first.closes (λ is. ((second.ends_once is).1, (second.ends_once is).3)) second.closes;
  whole = second.whole first.whole;
}

-- a session whose input is at its end takes nothing
pub taken_none : (session : SessionState) → session.has_ended ≡ true → taken_by session ≡ 0
taken_none session is = ap (λ (b : Bool). if b then 0 else 1025 - length session.unread) is
