-- What has happened to a call so far, and how it stands then. It is not stored: each step says what it makes of every past.
use Rattle.std.specs.Prelude.{ℕ, ◌≡◌, Bool, Some, List, [], ◌∷◌, ◌++◌}
use Rattle.desk_core.specs.declared.entry.Entry.{Entry}
use Rattle.desk_core.specs.declared.watch.Watch.{Watch}
use Rattle.desk_core.specs.Catalogue.{slot_of}
use Rattle.desk_core.specs.Changes.{changes_of}
use Rattle.desk_core.specs.Watch.{opened}
use Rattle.web_call.specs.declared.call.Call.{Call}
use Rattle.web_call.specs.declared.call.CallStage.{CallStage}
use Rattle.web_call.specs.declared.call.CallStage.TheVariants.{Reading, Watching, Ending, Starved}
use Rattle.web_call.specs.declared.intake.Intake.{Intake}
use Rattle.web_call.specs.declared.outgoing.Outgoing.{Outgoing}
use Rattle.web_call.specs.Answer.{Asking, IsWatch, Sends, Source, Tells, IsStarvedAt}
use Rattle.web_call.specs.Intake.{HasRead}
use Rattle.web_call.specs.Outgoing.{GoesOut}
use Rattle.web_call.specs.Pieces.{Piece}
use Rattle.web_call.specs.Request.{IsRequested}
use Rattle.web_call.specs.Walk.{watch_after}

-- the bytes that a call took, and those of its answer that were sent, in whatever cuts; and the histories that the door had at each
-- asking
pub record Past : Type 0 where
  pub received : List ℕ
  pub sent : List ℕ
  pub asked : List (List Entry)

-- nothing has happened yet
abbrev pub begun : Past
begun = record { received = []; sent = []; asked = [] }

abbrev pub with_received : List ℕ → Past → Past
with_received bytes past = record past { received = past.received ++ bytes }

abbrev pub with_sent : List ℕ → Past → Past
with_sent bytes past = record past { sent = past.sent ++ bytes }

abbrev pub with_asked : List (List Entry) → Past → Past
with_asked asked past = record past { asked = past.asked ++ asked }

-- a watch that was opened at the first history that was asked, and stepped at the later ones: what is done, and what is being sent
pub record IsWatching (asking : Asking) (watch : Watch) (done part : List Piece) : Type 0 where
  pub name : List ℕ
  pub first : List Entry
  pub later : List (List Entry)
  pub is_watch : IsWatch asking name first later
  pub asked_is : asking.asked ≡ first ∷ later
  pub tells : Tells (slot_of asking.source.names name) first later done part
  pub watch_is : watch ≡ watch_after (opened (changes_of first) (slot_of asking.source.names name)) later

-- what is sent at this stage
abbrev pub SendsAt : Asking → CallStage → List Piece → List Piece → Type 0
SendsAt asking (Reading intake) done part = ⊥
SendsAt asking (Watching watch) done part = IsWatching asking watch done part
SendsAt asking (Ending outcome) done part = Sends asking done part (Some outcome)
SendsAt asking Starved done part = ⊥

-- what is answered by a call with this past
abbrev pub asking_of : Source → Past → List ℕ → List ℕ → Asking
asking_of source past head body = record { source = source; asked = past.asked; head = head; body = body }

-- a request was received and is being answered
pub record IsSending (source : Source) (past : Past) (stage : CallStage) (outgoing : Outgoing) : Type 0 where
  pub head : List ℕ
  pub body : List ℕ
  pub done : List Piece
  pub part : List Piece
  pub requested : IsRequested head body past.received
  pub sends : SendsAt (asking_of source past head body) stage done part
  pub goes_out : GoesOut outgoing done part past.sent

-- no byte was sent, and none is left
pub record IsSilent (outgoing : Outgoing) (sent : List ℕ) : Type 0 where
  pub none_sent : sent ≡ []
  pub goes_out : GoesOut outgoing [] [] sent

-- a request that is being read, or is whole and waits to be answered
pub record IsReading (past : Past) (intake : Intake) (outgoing : Outgoing) : Type 0 where
  pub silent : IsSilent outgoing past.sent
  pub none_asked : past.asked ≡ []
  pub has_read : HasRead intake past.received

-- the allocation for the answer failed. The flag says whether plain requests are answered
pub record HasStarved (is_plain : Bool) (past : Past) (outgoing : Outgoing) : Type 0 where
  pub silent : IsSilent outgoing past.sent
  pub starved : IsStarvedAt is_plain past.asked past.received

abbrev pub StandsAt : Source → Past → CallStage → Outgoing → Type 0
StandsAt source past (Reading intake) outgoing = IsReading past intake outgoing
StandsAt source past (Watching watch) outgoing = IsSending source past (Watching watch) outgoing
StandsAt source past (Ending outcome) outgoing = IsSending source past (Ending outcome) outgoing
StandsAt source past Starved outgoing = HasStarved source.is_plain past outgoing

-- with this past the call stands so, over a door with this source
abbrev pub Stands : Source → Past → Call → Type 0
Stands source past call = StandsAt source past call.stage call.outgoing

-- whatever its past was, it has grown by this, over a door with this source
abbrev pub CarriesFor : Source → Call → Call → (Past → Past) → Type 0
CarriesFor source old new more = (past : Past) → Stands source past old → Stands source (more past) new

-- the same over any door
abbrev pub Carries : Call → Call → (Past → Past) → Type 0
Carries old new more = (source : Source) → CarriesFor source old new more
