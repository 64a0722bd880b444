-- Which slots are registered, and under which rule.
use Rattle.std.specs.Prelude.{ℕ, ◌≡◌, ◌^◌, ◌==◌, ◌&&◌, nat_lt, Bool, true, if◌then◌else◌, Option, None, Some, unwrap_or, is_some, List}
use Rattle.probe_core.specs.declared.rule.Rule.{Rule}
use Rattle.probe_core.specs.Rule.{relied_on, is_in_range}
use Rattle.desk_core.specs.declared.call.Call.{Call}
use Rattle.desk_core.specs.declared.call.Call.TheVariants.{Register, Retire, Observe, Set, Shutdown, Resume}
use Rattle.desk_core.specs.declared.entry.Entry.{Entry}
use Rattle.desk_core.specs.Past.{last_said}

-- what a call says of a slot's rule: a Register of the slot its rule, and a Retire of it that there is none
abbrev pub says_rule : ℕ → Call → Option (Option Rule)
says_rule i (Register slot rule) = if slot == i then Some (Some rule) else None
says_rule i (Retire slot) = if slot == i then Some None else None
says_rule i (Observe slot finding) = None
says_rule i (Set slot setting) = None
says_rule i Shutdown = None
says_rule i Resume = None

-- the rule in force: the slot's last Register or Retire says it
abbrev pub rule_at : List Entry → ℕ → Option Rule
rule_at entries i = unwrap_or (last_said (says_rule i) entries) None

-- the slot is registered
abbrev pub is_present : List Entry → ℕ → Bool
is_present entries i = is_some (rule_at entries i)

-- what the rule counts to is in range, and it relies on no slot at its own place or above it
abbrev pub is_lawful : ℕ → Rule → Bool
is_lawful i rule = is_in_range rule && nat_lt (relied_on rule) (2 ^ i)

-- the rule may be registered there
abbrev pub IsLawful : ℕ → Rule → Type 0
IsLawful i rule = is_lawful i rule ≡ true
