-- How far a response has been read.
use Rattle.std.specs.Prelude.{ℕ, ◌≡◌, ◌+◌, ◌-◌, min, false, if◌then◌else◌, List, [], length}
use Rattle.web_call.specs.InputHead.{IsOpenHead}
use Rattle.web_call.specs.declared.method.Method.{Method}
use Rattle.client.specs.declared.reply.Reply.{Reply}
use Rattle.client.specs.declared.reply.ReplyStage.{ReplyStage}
use Rattle.client.specs.declared.reply.ReplyStage.TheVariants.{Head, Body, Told}
use Rattle.client.specs.declared.response_body.Next.{Next}
use Rattle.client.specs.GrpcFrames.{missing_in}
use Rattle.client.specs.Growth.{Grows}
use Rattle.client.specs.Reply.{EndsWith, IsGoingOn, IsTold, WasOpen, is_enough}
use Rattle.client.specs.ResponseBody.{is_content, owed_by, wanted_by}

-- the last byte that came is the last one of this rest of the content, before which more had to be known
pub record IsEnding (method : Method) (most : ℕ) (bytes : List ℕ) (next : Next) (more : ℕ) (statuses rest : List ℕ) : Type 0 where
  pub ends : EndsWith method bytes next more statuses rest
  pub unfinished : is_enough method most (length statuses) ≡ false

-- a call whose head is these bytes so far stands so where these bytes have come
abbrev pub StandsAt : Method → ℕ → List ℕ → List ℕ → ReplyStage → Type 0
StandsAt method most bytes head Head = (bytes ≡ head) × IsOpenHead bytes
StandsAt method most bytes head (Body reading) =
    IsGoingOn method most bytes reading.body.next reading.body.more reading.heard.statuses.items reading.heard.splitter
StandsAt method most bytes head (Told told) = IsTold method most bytes told.statuses.items told.end

-- how many bytes of a body are taken at once, at most, where a frame misses so many bytes of content
abbrev pub wanted_with : Next → ℕ → ℕ
wanted_with next missing = if is_content next then min (wanted_by next) missing else wanted_by next

-- how many bytes are taken at once, at most
abbrev pub wanted_at : ReplyStage → ℕ
wanted_at Head = 1
wanted_at (Body reading) = wanted_with reading.body.next (missing_in reading.heard.splitter)
wanted_at (Told told) = 0

-- at most so many bytes may come yet, where the head has so many
abbrev pub owed_at : ℕ → ReplyStage → ℕ
owed_at len Head = 73014444165 + (8192 - len)
owed_at len (Body reading) = owed_by reading.body.next reading.body.more
owed_at len (Told told) = 0

-- where these bytes have come, the response stands so
abbrev pub Holds : List ℕ → Reply → Type 0
Holds bytes reply = StandsAt reply.call.method reply.call.most bytes reply.head.items reply.stage

-- how many bytes it takes at once, at most
abbrev pub wanted_of : Reply → ℕ
wanted_of reply = wanted_at reply.stage

-- how many bytes may come yet, at most
abbrev pub owed_of : Reply → ℕ
owed_of reply = owed_at (length reply.head.items) reply.stage

-- what was asked for
abbrev pub method_of : Reply → Method
method_of reply = reply.call.method

abbrev pub most_of : Reply → ℕ
most_of reply = reply.call.most

-- which statuses have been told so far
abbrev pub statuses_at : ReplyStage → List ℕ
statuses_at Head = []
statuses_at (Body reading) = reading.heard.statuses.items
statuses_at (Told told) = told.statuses.items

abbrev pub statuses_of : Reply → List ℕ
statuses_of reply = statuses_at reply.stage

-- with more bytes, all these in all, a response stands so. Before the last of them came more had to come, also for any other number of
-- statuses that was not reached; and at most one status came
pub record GoesTo (bytes : List ℕ) (reply after : Reply) : Type 0 where
  pub holds : Holds bytes after
  pub was_open : WasOpen (method_of reply) (most_of reply) bytes
  pub was_open_for : (most : ℕ) → is_enough (method_of reply) most (length (statuses_of reply)) ≡ false → WasOpen (method_of reply) most bytes
  pub grows : Grows (method_of reply) bytes (statuses_of reply) (statuses_of after)
