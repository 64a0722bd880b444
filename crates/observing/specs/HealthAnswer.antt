-- What the bytes at the front of a response to a Check tell a look (doc/PROTOCOL-WEB.md of grpc; health.proto). What responses are is the
-- client's: `client` has it.
use Rattle.std.specs.Prelude.{ℕ, ◌≡◌, ◌<◌, ◌≤◌, nat_eq, if◌then◌else◌, List, [], ◌∷◌, ◌++◌, length, Option, Some, None}
use Rattle.client.specs.Reply.{IsBad, IsOpen, IsRefused, IsTold}
use Rattle.client.specs.declared.told.Ended.{Ended}
use Rattle.client.specs.declared.told.Told.{Told as Heard}
use Rattle.web_call.specs.declared.method.Method.TheVariants.{Check}
use Rattle.observing.specs.declared.answer.Answer.{Answer}
use Rattle.observing.specs.declared.answer.Answer.TheVariants.{Open, Told}
use Rattle.observing.specs.declared.http.TheConstants.{MAX_ANSWER_LEN}
use Rattle.observing.specs.declared.verdict.Verdict.{Verdict}
use Rattle.observing.specs.declared.verdict.Verdict.TheVariants.{Pass, Fail}
use Rattle.observing.specs.declared.verdict.Why.TheVariants.{Code, Malformed, NotServing, Status, TooLong}

-- a Check has one status: 1, which is SERVING, is a pass
abbrev pub by_statuses : List ℕ → Verdict
by_statuses [] = Fail (NotServing None)
by_statuses (status ∷ []) = if nat_eq status 1 then Pass else Fail (NotServing (Some status))
by_statuses (status ∷ next ∷ more) = Fail (NotServing None)

-- what the end of a call says comes first: its code has to be 0, which is OK
abbrev pub by_end : List ℕ → Option Ended → Verdict
by_end statuses None = Fail (NotServing None)
by_end statuses (Some ended) = if nat_eq ended.code 0 then by_statuses statuses else Fail (Code ended.code)

abbrev pub by_told : Heard → Verdict
by_told told = by_end told.statuses.items told.end

-- the bytes that came tell what a front of them does, if a client needs no more; else more have to come, up to the limit
pub data HealthTells (bytes : List ℕ) (answer : Answer) : Type 0 where
  NotYet : IsOpen Check 1 bytes → length bytes < MAX_ANSWER_LEN → answer ≡ Open → HealthTells bytes answer
  Endless : IsOpen Check 1 bytes → MAX_ANSWER_LEN ≤ length bytes → answer ≡ Told (Fail TooLong) → HealthTells bytes answer
  ByTold : (front rest : List ℕ) (told : Heard) → bytes ≡ front ++ rest → IsTold Check 1 front told.statuses.items told.end → answer ≡ Told (by_told told)
      → HealthTells bytes answer
  Bad : (front rest : List ℕ) → bytes ≡ front ++ rest → IsBad Check 1 front → answer ≡ Told (Fail Malformed) → HealthTells bytes answer
  Refused : (front rest : List ℕ) (status : ℕ) → bytes ≡ front ++ rest → IsRefused front status → answer ≡ Told (Fail (Status status))
      → HealthTells bytes answer
