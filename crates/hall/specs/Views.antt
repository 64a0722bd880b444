-- What a thread knows of a hall that it shares with others. Histories have their newest entry first.
use Rattle.std.specs.Prelude.{ℕ, false, true, List, [], ◌∷◌, ◌++◌, map, length}
use Rattle.std.specs.List.{sum_by}
use Rattle.desk_core.specs.declared.entry.Entry.{Entry}
use Rattle.desk_core.specs.Seats.{calls_by}
use Rattle.hall.specs.declared.view.Held.{Held}
use Rattle.hall.specs.declared.view.GateStage.{GateStage}
use Rattle.hall.specs.declared.view.GateStage.TheVariants.{Idle, Queued, Served}
use Rattle.hall.specs.declared.view.View.{View}

-- a seat that has seen this history
abbrev pub held : ℕ → List Entry → Held
held number seen = record { number = number; seen = seen }

-- what a seat knows while it asks for nothing
abbrev pub seat_view : ℕ → List Entry → ℕ → View
seat_view number seen most = record {
  seats = held number seen ∷ [];
  told = [];
  stage = Idle;
  deals = false;
  dealt = 0;
  most = most;
}

-- a seat whose ticket is served, with a desk of this history in hand
abbrev pub desk_view : ℕ → List Entry → ℕ → ℕ → List Entry → View
desk_view number seen most ticket history = record {
  seats = held number seen ∷ [];
  told = [];
  stage = Served ticket history;
  deals = false;
  dealt = 0;
  most = most;
}

-- what a note knows: the history that the seat had seen that wrote it
abbrev pub note_view : List Entry → View
note_view seen = record {
  seats = [];
  told = seen;
  stage = Idle;
  deals = false;
  dealt = 0;
  most = 0;
}

-- the first view, which has dealt out so many seats
abbrev pub dealer : ℕ → ℕ → View
dealer dealt most = record {
  seats = [];
  told = [];
  stage = Idle;
  deals = true;
  dealt = dealt;
  most = most;
}

-- the same view at another stage
abbrev pub at_stage : View → GateStage → View
at_stage view stage = record {
  seats = view.seats;
  told = view.told;
  stage = stage;
  deals = view.deals;
  dealt = view.dealt;
  most = view.most;
}

-- the seats have seen this history, and what a note told is in it
abbrev pub after_look : List Entry → View → View
after_look history view = record {
  seats = map (λ seat. held seat.number history) view.seats;
  told = [];
  stage = view.stage;
  deals = view.deals;
  dealt = view.dealt;
  most = view.most;
}

-- a desk in hand has one more entry
abbrev pub appended : Entry → GateStage → GateStage
appended entry Idle = Idle
appended entry (Queued ticket) = Queued ticket
appended entry (Served ticket history) = Served ticket (entry ∷ history)

-- the seat made one more change, and has seen it
abbrev pub after_commit : Entry → View → View
after_commit entry view = record {
  seats = map (λ seat. held seat.number (entry ∷ seat.seen)) view.seats;
  told = view.told;
  stage = appended entry view.stage;
  deals = view.deals;
  dealt = view.dealt;
  most = view.most;
}

-- a view that was told what another was
abbrev pub after_note : View → View → View
after_note view other = record {
  seats = view.seats;
  told = other.told;
  stage = view.stage;
  deals = view.deals;
  dealt = view.dealt;
  most = view.most;
}

-- a view that has another's seats too
abbrev pub with_seats : View → View → View
with_seats view other = record {
  seats = view.seats ++ other.seats;
  told = view.told;
  stage = view.stage;
  deals = view.deals;
  dealt = view.dealt;
  most = view.most;
}

-- what the first of the seats has seen
abbrev pub seen_of : List Held → List Entry
seen_of [] = []
seen_of (seat ∷ seats) = seat.seen

-- 1 for a view that holds a ticket
abbrev pub waits : GateStage → ℕ
waits Idle = 0
waits (Queued ticket) = 1
waits (Served ticket history) = 1

-- 1 for a view whose ticket is served
abbrev pub serves : GateStage → ℕ
serves Idle = 0
serves (Queued ticket) = 0
serves (Served ticket history) = 1

-- how many entries of their own the seats have seen
abbrev pub made_by : List Held → ℕ
made_by seats = sum_by (λ seat. length (calls_by seat.seen seat.number)) seats
