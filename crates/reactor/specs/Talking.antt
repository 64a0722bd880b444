-- A session as a machine, held over a console and the server beside it.
use Rattle.std.specs.Prelude.{ℕ, ◌≡◌, ◌-◌, ◌⊎◌, ◌++◌, true, false, codes, if◌then◌else◌, List, [], ◌∷◌, length, All}
use Rattle.web_call.specs.Answer.{Source}
use Rattle.web_call.specs.declared.bell.Turn.{Turn}
use Rattle.web_call.specs.declared.bell.Turn.TheVariants.{End}
use Rattle.control.specs.declared.answer.Answer.{Answer}
use Rattle.control.specs.Session.{SessionState, HasLine, ends_open}
use Rattle.control.specs.Talk.{AreLines, AreMet, IsOverAfter, answer_texts}
use Rattle.control.specs.Text.{answer_text}
use Rattle.reactor.specs.Moved.{Moved}

-- how many bytes a session takes: those of a line and its LF that are not there yet, until its input is at its end
abbrev pub taken_by : SessionState → ℕ
taken_by session = if session.has_ended then 0 else 1025 - length session.unread

-- where no more bytes come, the last line has its LF
abbrev pub IsWhole : SessionState → Type 0
IsWhole session = session.has_ended ≡ true → ends_open session.unread ≡ false

-- a session has taken what was read, and the LF that was put behind a last line without one; its lines are those of its bytes, and what it
-- sent are the lines of their answers, in their order
pub record HasTalked (names : List (List ℕ)) (session session_now : SessionState) (moved : Moved) (closing : List ℕ) (lines : List (List ℕ)) (answers : List Answer) : Type 0 where
  pub are_lines : AreLines (session.unread ++ (moved.read ++ closing)) lines session_now.unread
  pub texts : session.waiting ++ answer_texts names answers ≡ moved.sent ++ session_now.waiting
  pub over : IsOverAfter session.is_over answers session_now.is_over
  pub each : length moved.steps ≡ length lines
  pub by : All (λ (source : Source). source.names ≡ names) moved.steps
  pub all_taken : moved.behind ≡ 0
  -- behind the end of its input it takes nothing, and is not told of it again
  pub ends_once : session.has_ended ≡ true → (moved.read ≡ []) × (closing ≡ []) × (moved.ends ≡ 0) × (session_now.has_ended ≡ true)
  pub ends : session.has_ended ≡ false → session_now.has_ended ≡ true → moved.ends ≡ 1
  pub comes : session_now.has_ended ≡ false → moved.ends ≡ 0
  pub closes : (closing ≡ []) ⊎ ((closing ≡ codes "\n") × (session_now.has_ended ≡ true))
  pub whole : IsWhole session → IsWhole session_now

-- what a session makes of bytes by itself
pub record HasTaken (session session_now : SessionState) (moved : Moved) : Type 0 where
  pub closing : List ℕ
  pub talked : (names : List (List ℕ)) → HasTalked names session session_now moved closing [] []

-- what was said in a turn, or in many: each line was met with its answer, while others may have moved the state on
pub record HasSaid {S : Type 0} (others : S → S → Type 0) (meets : S → S → List ℕ → Answer → Type 0) (names : List (List ℕ)) (state state_now : S)
    (session session_now : SessionState) (moved : Moved) : Type 0 where
  pub closing : List ℕ
  pub lines : List (List ℕ)
  pub answers : List Answer
  pub talked : HasTalked names session session_now moved closing lines answers
  pub are_met : AreMet others meets state state_now lines answers

-- the lines of the answers, one after the other, each answered in one of these steps
abbrev pub told_texts : List Source → List Answer → List ℕ
told_texts [] answers = []
told_texts (source ∷ steps) [] = []
told_texts (source ∷ steps) (answer ∷ answers) = answer_text source.names answer ++ told_texts steps answers

-- a session that has moved this since it began, whatever it was held over: its lines are those of what was read, and of the LF that was put
-- behind a last line without one; and what it sent, with what waits, are the lines of their answers, in their order
pub record IsSessionOf (past : Moved) (session : SessionState) : Type 0 where
  pub closing : List ℕ
  pub lines : List (List ℕ)
  pub answers : List Answer
  pub are_lines : AreLines (past.read ++ closing) lines session.unread
  pub texts : told_texts past.steps answers ≡ past.sent ++ session.waiting
  pub as_many : length answers ≡ length lines
  pub over : IsOverAfter false answers session.is_over
  pub each : length past.steps ≡ length lines
  pub all_taken : past.behind ≡ 0
  pub ends : session.has_ended ≡ true → past.ends ≡ 1
  pub comes : session.has_ended ≡ false → past.ends ≡ 0
  pub closes : (closing ≡ []) ⊎ ((closing ≡ codes "\n") × (session.has_ended ≡ true))
  pub whole : IsWhole session

-- no line is left to answer, and more may come
pub record IsIdle (session : SessionState) : Type 0 where
  pub no_line : ¬ HasLine session
  pub is_open : session.is_over ≡ false
  pub comes : session.has_ended ≡ false

-- all is answered, and no more lines come
pub record IsDone (session : SessionState) : Type 0 where
  pub no_line : ¬ HasLine session
  pub ends : (session.is_over ≡ true) ⊎ (session.has_ended ≡ true)

-- the session is done, or is to end
abbrev pub IsOver : Turn → SessionState → Type 0
IsOver turn session = IsDone session ⊎ (turn ≡ End)
