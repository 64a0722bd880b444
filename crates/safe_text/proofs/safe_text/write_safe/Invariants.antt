use Rattle.std.proofs.Common.{◌≡◌, ℕ, List, ◌++◌, length, chars, IsUtf8}
use Rattle.std.specs.Fmt.{HasWritten, IsPlainFormatter}
use Rattle.std.specs.Str.Iter.{chars_rest}
use Rattle.safe_text.specs.Safe.{safe}
use Rattle.safe_text.proofs.safe_text.write_safe.Given as goal

abbrev pub invariant-shown : goal.invariant-shown
invariant-shown g l =
    IsUtf8 (chars_rest l.rest)
    × (IsPlainFormatter l.fn.f
    → (done : List ℕ) × HasWritten g.W.Write.write_str_gives l.fn.f done l.f
    × (done ++ safe (chars (chars_rest l.rest)) ≡ safe (chars l.fn.text)))

abbrev pub decreases-shown : goal.decreases-shown
decreases-shown g l = length (chars_rest l.rest)
