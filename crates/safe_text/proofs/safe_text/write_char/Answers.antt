use Rattle.std.proofs.Common.{rules, ◌≡◌, true, false, sym, ◌∙◌}
use Rattle.safe_text.specs.Safe.{is_unsafe}
use Rattle.safe_text.proofs.safe_text.write_char.Goals as goal

pub returns-then-is_unsafe : goal.returns-then-is_unsafe
returns-then-is_unsafe g c =
    let yes : is_unsafe c.args.c ≡ true = sym c.is_unsafe.ensures ∙ c.if-is_unsafe.true in
    rw yes (search rules)

pub returns-else-is_unsafe : goal.returns-else-is_unsafe
returns-else-is_unsafe g c =
    let no : is_unsafe c.args.c ≡ false = sym c.is_unsafe.ensures ∙ c.if-is_unsafe.false in
    rw no c.write_char.ensures.writes
