use Rattle.std.proofs.Common.{◌≡◌, ◌++◌, ◌<◌, rules, subst, List, ℕ}
use Rattle.std.specs.Fmt.{HasWritten}
use Rattle.std.proofs.Output.{has_written_append}
use Rattle.std.proofs.lemmas.Str.{chars_past_char, IsUtf8-past_char}
use Rattle.script.specs.Quoted.{shown_char}
use Rattle.script.proofs.QuotedLemmas.{next, full, all_shown}
use Rattle.script.proofs.quoted.write_shown.Goals as goal

pub shown-preserved : goal.shown-preserved
shown-preserved g c =
    let taken = c.in-Some.ensures.steps.0 in
    let some : 0 < c.shown.room = search rules in (
      IsUtf8-past_char _ _ _ c.shown.invariant.0 taken,
      λ plain.
          let now = c.shown.invariant.1 plain in (
            now.0 ++ shown_char c.in-Some.c,
            has_written_append _ _ _ _ _ _ now.1 (search rules),
            next now.0 _ _ _ _ _ some (chars_past_char _ _ _ c.shown.invariant.0 taken) now.2,
          ),
    )

pub returns-then-room-eq0 : goal.returns-then-room-eq0
returns-then-room-eq0 g c = λ plain ok.
    let now = c.shown.invariant.1 plain in
    let none : c.shown.room ≡ 0 = search rules in
    subst (λ (text : List ℕ). HasWritten g.W.Write.write_str_gives c.args.f.now text c.write_str.new.self)
    (full now.0 _ _ _ _ _ none (chars_past_char _ _ _ c.shown.invariant.0 c.in-Some.ensures.steps.0) now.2)
    (has_written_append _ _ _ _ _ _ now.1 (search rules))

pub returns : goal.returns
returns g c = λ plain ok.
    let now = c.shown.invariant.1 plain in
    subst (λ (text : List ℕ). HasWritten g.W.Write.write_str_gives c.args.f.now text c.shown.f) (all_shown now.0 _ _ _ c.in_default.ensures.steps.0.0 now.2) now.1
