-- What a registered probe keeps beside its rule and its memory.
use Rattle.std.specs.Prelude.{ℕ, ◌≡◌, ◌≤◌, nat_lt, Bool, false}
use Rattle.probe_core.specs.declared.rule.Rule.{Rule}
use Rattle.probe_core.specs.declared.rule.Rule.TheVariants.{Threshold, Manual, Depends}
use Rattle.probe_core.specs.Rule.{is_unknown_at}

-- of a threshold that is down it is known whether passes stand behind its failures
abbrev pub TellsPasses : Rule → ℕ → Bool → Type 0
TellsPasses (Threshold fall rise start) memory passed =
    1 ≤ fall → is_unknown_at (Threshold fall rise start) memory ≡ false → fall ≤ memory → passed ≡ nat_lt fall memory
TellsPasses Manual memory passed = Unit {0}
TellsPasses (Depends mask) memory passed = Unit {0}
