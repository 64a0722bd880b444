use Rattle.std.proofs.Common.{rules, ◌≡◌, true, false, sym, ◌∙◌}
use Rattle.std.specs.Char.{is_control}
use Rattle.script.proofs.quoted.write_char.Goals as goal

pub returns-then-is_control : goal.returns-then-is_control
returns-then-is_control g c =
    let yes : is_control c.args.c ≡ true = sym c.is_control.ensures ∙ c.if-is_control.true in
    rw yes (search rules)

pub returns-else-is_control : goal.returns-else-is_control
returns-else-is_control g c =
    let no : is_control c.args.c ≡ false = sym c.is_control.ensures ∙ c.if-is_control.false in
    rw no c.write_char.ensures.writes
