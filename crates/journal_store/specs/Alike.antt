-- Histories that no later change and no look at a status can tell apart. A history has its newest entry first.
use Rattle.std.specs.Prelude.{◌≡◌, ℕ, ◌+◌, Option, Result, List, length}
use Rattle.desk_core.specs.declared.call.Call.{Call}
use Rattle.desk_core.specs.declared.entry.Entry.{Entry}
use Rattle.desk_core.specs.declared.refusal.Refusal.{Refusal}
use Rattle.desk_core.specs.declared.reply.Reply.{Reply}
use Rattle.desk_core.specs.Shut.{is_shut}
use Rattle.desk_core.specs.Legal.{IsLegal}
use Rattle.desk_core.specs.Mutation.{IsAnswered}
use Rattle.desk_core.specs.Desk.{probe_at}

-- each slot has the same rule and the same memory of what it heard, or none in both, and the server is shut down in both or in neither
pub record AreAlike (one other : List Entry) : Type 0 where
  pub probes : (i : ℕ) → probe_at one i ≡ probe_at other i
  pub shut : is_shut one ≡ is_shut other

-- two registries, of which each may have so many entries: their histories are legal and alike, and they have room for as many more
pub record StandAlike (most : ℕ) (one : List Entry) (size : ℕ) (other : List Entry) : Type 0 where
  pub alike : AreAlike one other
  pub legal : IsLegal one × IsLegal other
  pub room : most + length other ≡ size + length one

-- a registry that may have so many entries answers a mutation that some seat asks it for
abbrev pub Answers : ℕ → List Entry → List Entry → Option Call → Result Reply Refusal → Type 0
Answers most before after call result = (seat : ℕ) × IsAnswered most seat before after call result
