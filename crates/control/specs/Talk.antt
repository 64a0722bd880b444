-- What is said in a session: the lines of its bytes, and how they are met one after the other.
use Rattle.std.specs.Prelude.{Bool, false, ℕ, ◌≡◌, ◌≤◌, List, [], ◌∷◌, ◌++◌, length, All, ◌≢◌}
use Rattle.std.specs.List.{flat_map}
use Rattle.control.specs.declared.answer.Answer.{Answer}
use Rattle.control.specs.Text.{answer_text, ends_session}

-- these bytes begin with this line, behind which there are more: the bytes before the first LF, at most 1,024 of them, or else the first
-- 1,025 bytes, which is too long
pub data IsCut (bytes line more : List ℕ) : Type 0 where
  AtLf : bytes ≡ line ++ 10 ∷ more → All (λ byte. byte ≢ 10) line → length line ≤ 1024 → IsCut bytes line more
  TooLong : bytes ≡ line ++ more → All (λ byte. byte ≢ 10) line → length line ≡ 1025 → IsCut bytes line more

-- the bytes begin with these lines, and the rest stands behind the last of them
pub data AreLines : List ℕ → List (List ℕ) → List ℕ → Type 0 where
  NoMore : (rest : List ℕ) → AreLines rest [] rest
  OneMore : (bytes line more : List ℕ) (lines : List (List ℕ)) (rest : List ℕ) → IsCut bytes line more → AreLines more lines rest → AreLines bytes (line ∷ lines) rest

-- the lines are met with these answers, one after the other, each as `meets` says; in between `others` may have moved the state on
pub data AreMet {S : Type 0} (others : S → S → Type 0) (meets : S → S → List ℕ → Answer → Type 0) : S → S → List (List ℕ) → List Answer → Type 0 where
  Ends : (state : S) → AreMet others meets state state [] []
  Then : (old between new : S) (line : List ℕ) (answer : Answer) (lines : List (List ℕ)) (answers : List Answer) → meets old between line answer
      → AreMet others meets between new lines answers → AreMet others meets old new (line ∷ lines) (answer ∷ answers)
  Moves : (old between new : S) (lines : List (List ℕ)) (answers : List Answer) → others old between
      → AreMet others meets between new lines answers → AreMet others meets old new lines answers

-- nobody else moves the state on
abbrev pub nobody : {S : Type 0} → S → S → Type 0
nobody old new = ⊥

-- A session that was over before these answers, or was not, is over after them, or is not. None is given behind one that ends the session
abbrev pub IsOverAfter : Bool → List Answer → Bool → Type 0
IsOverAfter before [] after = before ≡ after
IsOverAfter before (answer ∷ answers) after = (before ≡ false) × IsOverAfter (ends_session answer) answers after

-- the lines of the answers, one after the other
abbrev pub answer_texts : List (List ℕ) → List Answer → List ℕ
answer_texts names answers = flat_map (answer_text names) answers
