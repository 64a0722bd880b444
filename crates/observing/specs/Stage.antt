-- How far a look is, and what comes of an event that is in time.
use Rattle.std.specs.Prelude.{ℕ, ◌≡◌, ◌+◌, ◌-◌, ◌/◌, ◌<◌, ◌≤◌, nat_le, Bool, true, false, MatchBool}
use Rattle.observing.specs.declared.kind.Kind.{Kind}
use Rattle.observing.specs.declared.kind.Kind.TheVariants.{Tcp, Http, GrpcWeb}
use Rattle.observing.specs.declared.stage.Stage.{Stage}
use Rattle.observing.specs.declared.stage.Stage.TheVariants.{Naming, Dialling, Reading, Over}
use Rattle.observing.specs.declared.stage.Step.{Step}
use Rattle.observing.specs.declared.stage.Step.TheVariants.{Stays, Goes, Reports}
use Rattle.observing.specs.declared.verdict.Verdict.TheVariants.{Pass, Fail}
use Rattle.observing.specs.declared.verdict.Why.{Why}
use Rattle.observing.specs.declared.verdict.Why.TheVariants.{Closed, NoAddress, Refused}

abbrev pub is_over : Stage → Bool
is_over Naming = false
is_over (Dialling dial) = false
is_over Reading = false
is_over Over = true

-- the stage is a connection to this address of so many, which has an equal share of the time that is left
abbrev pub IsDial : (ends at place count : ℕ) → Stage → Type 0
IsDial ends at place count (Dialling dial) = (dial.place ≡ place) × (dial.count ≡ count) × (dial.until ≡ at + (ends - at) / (count - place))
IsDial ends at place count Naming = ⊥
IsDial ends at place count Reading = ⊥
IsDial ends at place count Over = ⊥

-- the address of this place is tried next; where there are not so many, the look fails
abbrev pub Dials : (ends at place count : ℕ) → Why → Step → Type 0
Dials ends at place count why (Goes stage) = (place < count) × IsDial ends at place count stage
Dials ends at place count why (Reports verdict) = (count ≤ place) × (verdict ≡ Fail why)
Dials ends at place count why Stays = ⊥

-- the name of the host has so many addresses
abbrev pub OnResolved : Stage → (ends at count : ℕ) → Step → Type 0
OnResolved Naming ends at count step = Dials ends at 0 count NoAddress step
OnResolved (Dialling dial) ends at count step = step ≡ Stays
OnResolved Reading ends at count step = step ≡ Stays
OnResolved Over ends at count step = step ≡ Stays

-- a connection is the answer of a target of tcp; any other is asked over it
abbrev pub asked : Kind → Step
asked Tcp = Reports Pass
asked Http = Goes Reading
asked GrpcWeb = Goes Reading

-- the connection stands
abbrev pub on_connected : Stage → Kind → Step
on_connected Naming kind = Stays
on_connected (Dialling dial) kind = asked kind
on_connected Reading kind = Stays
on_connected Over kind = Stays

-- the connection could not be made
abbrev pub OnRefused : Stage → (ends at : ℕ) → Step → Type 0
OnRefused Naming ends at step = step ≡ Stays
OnRefused (Dialling dial) ends at step = Dials ends at (dial.place + 1) dial.count Refused step
OnRefused Reading ends at step = step ≡ Stays
OnRefused Over ends at step = step ≡ Stays

-- time passed: a connection whose time is up counts as refused
abbrev pub OnWaited : Stage → (ends at : ℕ) → Step → Type 0
OnWaited Naming ends at step = step ≡ Stays
OnWaited (Dialling dial) ends at step = MatchBool (nat_le dial.until at) (OnRefused (Dialling dial) ends at step) (step ≡ Stays)
OnWaited Reading ends at step = step ≡ Stays
OnWaited Over ends at step = step ≡ Stays

-- nothing more comes, and there was no whole answer
abbrev pub on_closed : Stage → Step
on_closed Naming = Stays
on_closed (Dialling dial) = Stays
on_closed Reading = Reports (Fail Closed)
on_closed Over = Stays
