-- What the bytes at the front of a response of HTTP tell a look: its status line does (RFC 9112, section 4). That a status from 200 to 399
-- is a pass, and how much is read, is a look's choice.
use Rattle.std.specs.Prelude.{ℕ, ◌≡◌, ◌<◌, ◌≤◌, ◌==◌, ◌&&◌, nat_le, Bool, if◌then◌else◌, Some, None, List, [], ◌++◌, length, take, codes}
use Rattle.std.specs.List.{position}
use Rattle.httparse.specs.Grammar.{ResponseHead, ReadsResponse, status_code}
use Rattle.observing.specs.declared.answer.Answer.{Answer}
use Rattle.observing.specs.declared.answer.Answer.TheVariants.{Open, Told}
use Rattle.observing.specs.declared.http.TheConstants.{MAX_ANSWER_LEN}
use Rattle.observing.specs.declared.verdict.Verdict.{Verdict}
use Rattle.observing.specs.declared.verdict.Verdict.TheVariants.{Pass, Fail}
use Rattle.observing.specs.declared.verdict.Why.TheVariants.{Malformed, Status, TooLong}

-- a GET for a path of a server, up to the host (RFC 9112, section 3)
abbrev pub request_front : List ℕ → List ℕ
request_front path = codes "GET " ++ path ++ codes " HTTP/1.1\r\nhost: "

-- a GET for a path of the server at this host and port: the connection is closed behind its answer
abbrev pub http_request_text : List ℕ → List ℕ → List ℕ
http_request_text authority path =
    request_front path ++ authority ++ codes "\r\nuser-agent: healthd\r\nconnection: close\r\n\r\n"

abbrev pub is_line_feed : ℕ → Bool
is_line_feed byte = byte == 10

-- the line is a status line with this code: with its line feed, and an empty line, it is the head of a response that has no field
pub record IsStatusLine (line : List ℕ) (code : ℕ) : Type 0 where
  pub head : ResponseHead
  pub reads : ReadsResponse (line ++ codes "\n\r\n") head []
  pub none : head.fields ≡ []
  pub code_is : code ≡ status_code head

-- a status code from 200 to 399 is a pass
abbrev pub verdict_on : ℕ → Verdict
verdict_on code = if nat_le 200 code && nat_le code 399 then Pass else Fail (Status code)

-- a line tells what the code of a status line does, and any other line is no answer
pub data LineTells (line : List ℕ) (verdict : Verdict) : Type 0 where
  ByStatus : (code : ℕ) → IsStatusLine line code → verdict ≡ verdict_on code → LineTells line verdict
  NoStatus : ((code : ℕ) → ¬ (IsStatusLine line code)) → verdict ≡ Fail Malformed → LineTells line verdict

-- the bytes that came tell what their first line does, which ends before their first line feed; until that has come more have to come, up
-- to the limit
pub data HttpTells (bytes : List ℕ) (answer : Answer) : Type 0 where
  NotYet : position is_line_feed bytes ≡ None → length bytes < MAX_ANSWER_LEN → answer ≡ Open → HttpTells bytes answer
  Endless : position is_line_feed bytes ≡ None → MAX_ANSWER_LEN ≤ length bytes → answer ≡ Told (Fail TooLong) → HttpTells bytes answer
  ByLine : (end : ℕ) (verdict : Verdict) → position is_line_feed bytes ≡ Some end → LineTells (take end bytes) verdict → answer ≡ Told verdict
      → HttpTells bytes answer
