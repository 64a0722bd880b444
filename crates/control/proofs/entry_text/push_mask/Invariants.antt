use Rattle.std.proofs.Common.{◌≡◌, ◌++◌, string_bytes}
use Rattle.control.specs.EntryText.{mask_text}
use Rattle.control.proofs.entry_text.push_mask.Given as goal

abbrev pub invariant-loop-number : goal.invariant-loop-number
invariant-loop-number l = string_bytes l.text ≡ string_bytes l.fn.text ++ mask_text l.catalogue l.mask l.number
