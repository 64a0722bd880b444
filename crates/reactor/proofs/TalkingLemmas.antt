-- What a session makes of bytes, and of a line that is met.
use Rattle.std.proofs.Common.{◌≡◌, ◌≤◌, ◌<◌, ◌-◌, ◌⊎◌, ◌==◌, ℕ, suc, inl, inr, Bool, true, false, List, [], ◌∷◌, ◌++◌, length, take, refl, ap, sym, ◌∙◌, subst, append-nil, arith, rules, ⊎_elim, true≢false, if◌then◌else◌}
use Rattle.std.proofs.lemmas.List.{take_all}
use Rattle.std.proofs.lemmas.Bool.{eqb-true}
use Rattle.std.specs.Prelude.{Contains, codes, min, nat_lt, not, ◌&&◌, drop}
use Rattle.std.proofs.lemmas.List.{take-append-drop}
use Rattle.std.proofs.lemmas.List.Elements.{All-cons, All-nil}
use Rattle.web_call.specs.Answer.{Source}
use Rattle.control.specs.declared.answer.Answer.{Answer}
use Rattle.control.specs.Session.{SessionState, at_end, behind_line, ended, ends_open, first_line, with_unread, with_waiting}
use Rattle.control.specs.Talk.{AreLines, IsCut}
use Rattle.control.specs.Talk.AreLines.{NoMore}
use Rattle.control.specs.Talk.AreMet.{Ends, Then}
use Rattle.control.specs.Text.{answer_text, ends_session}
use Rattle.control.proofs.LineLemmas.{line_within}
use Rattle.control.proofs.TalkLemmas.{one_line, stays_closed}
use Rattle.reactor.specs.Moved.{Moved, only_ended, only_read, only_sent, only_stepped}
use Rattle.reactor.specs.Talking.{HasSaid, HasTaken, IsDone, IsSessionOf, taken_by, told_texts}
use Rattle.reactor.specs.TalkingLaws.{lines_of}

-- a session that takes bytes is open, and has room
pub takes_some : (session : SessionState) → 0 < taken_by session → (session.has_ended ≡ false) × (length session.unread < 1025)
takes_some session some = by_end session.has_ended refl
  where
    by_end : (e : Bool) → session.has_ended ≡ e → (session.has_ended ≡ false) × (length session.unread < 1025)
    by_end true is = absurd (omega (arith, some, ap (λ (b : Bool). if b then 0 else 1025 - length session.unread) is))
    by_end false is = (is, omega (arith, some, ap (λ (b : Bool). if b then 0 else 1025 - length session.unread) is))

-- bytes were given
given_some : (session session_now : SessionState) (bytes : List ℕ) → session.has_ended ≡ false → session_now ≡ with_unread (session.unread ++ bytes) session
    → HasTaken session session_now (only_read bytes 0)
given_some session session_now bytes comes is = subst (λ now. HasTaken session now (only_read bytes 0)) (sym is) record {
  closing = [];
  talked = λ names. record {
    are_lines = lines_of (ap (λ l. session.unread ++ l) (sym (append-nil bytes))) (NoMore (session.unread ++ bytes));
    texts = append-nil session.waiting;
    over = refl;
    each = refl;
    by = All-nil (λ (source : Source). source.names ≡ names);
    all_taken = refl;
    ends_once = λ ends. absurd (true≢false (sym ends ∙ comes));
    ends = λ _ ends. absurd (true≢false (sym ends ∙ comes));
    comes = λ _. refl;
    closes = inl refl;
    whole = λ was ends. absurd (true≢false (sym ends ∙ comes));
  };
}

given_none : (session session_now : SessionState) → session_now ≡ with_unread (session.unread ++ []) session → HasTaken session session_now (only_read [] 0)
given_none session session_now is = subst (λ now. HasTaken session now (only_read [] 0)) (sym (is ∙ ap (λ l. with_unread l session) (append-nil session.unread))) record {
  closing = [];
  talked = λ names. record {
    are_lines = lines_of (sym (append-nil session.unread)) (NoMore session.unread);
    texts = append-nil session.waiting;
    over = refl;
    each = refl;
    by = All-nil (λ (source : Source). source.names ≡ names);
    all_taken = refl;
    ends_once = λ is. (refl, refl, refl, is);
    ends = λ comes ends. absurd (true≢false (sym ends ∙ comes));
    comes = λ _. refl;
    closes = inl refl;
    whole = λ is. is;
  };
}

pub given : (session session_now : SessionState) (bytes : List ℕ) (n : ℕ) → length bytes ≤ taken_by session → n ≡ min (length bytes) (1025 - length session.unread)
    → session_now ≡ with_unread (session.unread ++ take n bytes) session → HasTaken session session_now (only_read bytes (length bytes - n))
given session session_now bytes n room count is = by_end session.has_ended refl
  where
    takes : (e : Bool) → session.has_ended ≡ e → taken_by session ≡ (if e then 0 else 1025 - length session.unread)
    takes e same = ap (λ (b : Bool). if b then 0 else 1025 - length session.unread) same

    none_left : (m : ℕ) → length bytes ≤ m → length bytes - m ≡ 0
    none_left m all = omega (arith, all)

    no_bytes : (bytes : List ℕ) → length bytes ≤ 0 → bytes ≡ []
    no_bytes [] few = refl
    no_bytes (c ∷ bytes) few = absurd (omega (arith, few))

    all_taken : length bytes ≤ 1025 - length session.unread → n ≡ length bytes
    all_taken fits = omega (arith, count, fits)

    so : length bytes ≤ 1025 - length session.unread → HasTaken session session_now (only_read bytes 0) → HasTaken session session_now (only_read bytes (length bytes - n))
    so fits taken = subst (λ m. HasTaken session session_now (only_read bytes m)) (sym (none_left n (omega (arith, all_taken fits)))) taken

    now : length bytes ≤ 1025 - length session.unread → session_now ≡ with_unread (session.unread ++ bytes) session
    now fits = is ∙ ap (λ l. with_unread (session.unread ++ l) session) (take_all n bytes (omega (arith, all_taken fits)))

    by_end : (e : Bool) → session.has_ended ≡ e → HasTaken session session_now (only_read bytes (length bytes - n))
    by_end true same =
        let none = no_bytes bytes (omega (arith, room, takes true same)) in
        let fits : length bytes ≤ 1025 - length session.unread = omega (arith, ap length none) in
        so fits (subst (λ l. HasTaken session session_now (only_read l 0)) (sym none) (given_none session session_now (now fits ∙ ap (λ l. with_unread (session.unread ++ l) session) none)))
    by_end false same = let fits : length bytes ≤ 1025 - length session.unread = omega (arith, room, takes false same) in so fits (given_some session session_now bytes same (now fits))

-- bytes were sent
pub was_sent : (session session_now : SessionState) (count : ℕ) → session_now ≡ with_waiting (drop count session.waiting) session
    → HasTaken session session_now (only_sent (take count session.waiting))
was_sent session session_now count is = subst (λ now. HasTaken session now (only_sent (take count session.waiting))) (sym is) record {
  closing = [];
  talked = λ names. record {
    are_lines = lines_of (sym (append-nil session.unread)) (NoMore session.unread);
    texts = append-nil session.waiting ∙ sym (take-append-drop count session.waiting);
    over = refl;
    each = refl;
    by = All-nil (λ (source : Source). source.names ≡ names);
    all_taken = refl;
    ends_once = λ is. (refl, refl, refl, is);
    ends = λ comes ends. absurd (true≢false (sym ends ∙ comes));
    comes = λ _. refl;
    closes = inl refl;
    whole = λ is. is;
  };
}

-- the LF that closes bytes that end open
abbrev pub closing_by : Bool → List ℕ
closing_by true = codes "\n"
closing_by false = []

abbrev pub closing_of : List ℕ → List ℕ
closing_of bytes = closing_by (ends_open bytes)

ended_by : (open_ fits : Bool) (bytes : List ℕ) → fits ≡ true → (if open_ && fits then bytes ++ codes "\n" else bytes) ≡ bytes ++ closing_by open_
ended_by true fits bytes is = ap (λ (b : Bool). if b then bytes ++ codes "\n" else bytes) is
ended_by false fits bytes is = sym (append-nil bytes)

ended_is : (bytes : List ℕ) → length bytes < 1025 → ended bytes ≡ bytes ++ closing_of bytes
ended_is bytes less =
    let short : length (first_line bytes) < 1025 = omega (arith, less, line_within bytes) in
    ended_by (ends_open bytes) (nat_lt (length (first_line bytes)) 1025) bytes (grind (arith, short))

closed_with : (bytes : List ℕ) → ends_open (bytes ++ codes "\n") ≡ false
closed_with [] = refl
closed_with (c ∷ []) = refl
closed_with (c ∷ d ∷ rest) = closed_with (d ∷ rest)

closed_so : (open_ : Bool) (bytes : List ℕ) → ends_open bytes ≡ open_ → ends_open (bytes ++ closing_by open_) ≡ false
closed_so true bytes is = closed_with bytes
closed_so false bytes is = ap ends_open (append-nil bytes) ∙ is

closes_so : (open_ : Bool) → (closing_by open_ ≡ []) ⊎ ((closing_by open_ ≡ codes "\n") × (true ≡ true))
closes_so true = inr (refl, refl)
closes_so false = inl refl

-- the input is at its end
pub has_ended : (session session_now : SessionState) → 0 < taken_by session → session_now ≡ at_end session → HasTaken session session_now only_ended
has_ended session session_now some is =
    let open_ = takes_some session some in
    subst (λ now. HasTaken session now only_ended) (sym is) record {
      closing = closing_of session.unread;
      talked = λ names. record {
        are_lines = lines_of (ended_is session.unread open_.1) (NoMore (ended session.unread));
        texts = append-nil session.waiting;
        over = refl;
        each = refl;
        by = All-nil (λ (source : Source). source.names ≡ names);
        all_taken = refl;
        ends_once = λ ends. absurd (true≢false (sym ends ∙ open_.0));
        ends = λ _ _. refl;
        comes = λ still. absurd (true≢false still);
        closes = closes_so (ends_open session.unread);
        whole = λ was ends. ap ends_open (ended_is session.unread open_.1) ∙ closed_so (ends_open session.unread) session.unread refl;
      };
    }

-- a line was met
pub was_met : {S : Type 0} {others : S → S → Type 0} {meets : S → S → List ℕ → Answer → Type 0} {names : List (List ℕ)} (state state_now : S) (session session_now : SessionState) (answer : Answer)
    → meets state state_now (first_line session.unread) answer → IsCut session.unread (first_line session.unread) (behind_line session.unread) → session.waiting ≡ []
    → session.is_over ≡ false → session_now.unread ≡ behind_line session.unread → session_now.waiting ≡ answer_text names answer → session_now.is_over ≡ ends_session answer
    → session_now.has_ended ≡ session.has_ended → (source : Source) → source.names ≡ names → HasSaid others meets names state state_now session session_now (only_stepped source)
was_met {names = names} state state_now session session_now answer met cut all_sent open_ unread waiting over ends source by = record {
  closing = [];
  lines = first_line session.unread ∷ [];
  answers = answer ∷ [];
  talked = record {
    are_lines = lines_of (sym (append-nil session.unread)) (subst (λ l. AreLines session.unread (first_line session.unread ∷ []) l) (sym unread) (one_line cut));
    texts = ap (λ l. l ++ (answer_text names answer ++ [])) all_sent ∙ (append-nil (answer_text names answer) ∙ sym waiting);
    over = (open_, sym over);
    each = refl;
    by = All-cons (λ (s : Source). s.names ≡ names) source [] by (All-nil (λ (s : Source). s.names ≡ names));
    all_taken = refl;
    ends_once = λ was. (refl, refl, refl, ends ∙ was);
    ends = λ comes is. absurd (true≢false (sym is ∙ (ends ∙ comes)));
    comes = λ _. refl;
    closes = inl refl;
    whole = λ was is. ap ends_open unread ∙ stays_closed session.unread (was (sym ends ∙ is));
  };
  are_met = Then state state_now state_now (first_line session.unread) answer [] [] met (Ends state_now);
}

-- bytes without LF that do not end open
lf_first : (c : ℕ) (b : Bool) → (c == 10) ≡ b → not b ≡ false → c ≡ 10
lf_first c true is closed = eqb-true c 10 is
lf_first c false is closed = absurd (true≢false closed)

none_left : (bytes : List ℕ) → ends_open bytes ≡ false → ¬ Contains bytes 10 → bytes ≡ []
none_left [] closed none = refl
none_left (c ∷ []) closed none = absurd (none (0, omega arith, lf_first c (c == 10) refl closed))
none_left (c ∷ d ∷ rest) closed none = absurd (no_item (none_left (d ∷ rest) closed (λ has. none (suc has.0, omega (arith, has.1), has.2))))
  where
    no_item : d ∷ rest ≡ [] → ⊥
    no_item e = search rules

-- a session that is over, or whose input is at its end with no line left
pub done_by_end : (over : Bool) (bytes unread : List ℕ) (lines : List (List ℕ)) (over_now ended : Bool) → over ≡ over_now → AreLines bytes lines unread
    → (over_now ≡ false → ¬ Contains unread 10) → (ended ≡ true → ends_open unread ≡ false) → (over_now ≡ true) ⊎ (ended ≡ true) → (over_now ≡ true) ⊎ AreLines bytes lines []
done_by_end true bytes unread lines over_now ended same are none whole ends = inl (sym same)
done_by_end false bytes unread lines over_now ended same are none whole ends = ⊎_elim (λ is. inl is)
    (λ is. inr (subst (λ l. AreLines bytes lines l) (none_left unread (whole is) (none (sym same))) are)) ends

-- a session that has moved this since it began, and is done
pub session_ends : (past : Moved) (session : SessionState) (stood : IsSessionOf past session) → IsDone session → session.waiting ≡ []
    → (past.sent ≡ told_texts past.steps stood.answers) × ((session.is_over ≡ true) ⊎ AreLines (past.read ++ stood.closing) stood.lines [])
session_ends past session stood done all_sent = (
  sym (stood.texts ∙ (ap (λ l. past.sent ++ l) all_sent ∙ append-nil past.sent)),
  done_by_end session.is_over (past.read ++ stood.closing) session.unread stood.lines session.is_over session.has_ended refl stood.are_lines
      (λ open_ has. done.no_line (open_, inl has)) stood.whole done.ends,
)
