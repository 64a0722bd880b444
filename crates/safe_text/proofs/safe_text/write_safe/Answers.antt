use Rattle.std.proofs.Common.{◌++◌, rules, subst, List, ℕ}
use Rattle.std.specs.Fmt.{HasWritten}
use Rattle.std.proofs.Output.{has_written_append}
use Rattle.std.proofs.lemmas.Str.{chars_past_char, IsUtf8-past_char}
use Rattle.safe_text.specs.Safe.{safe_char}
use Rattle.safe_text.proofs.SafeLemmas.{next, all_written}
use Rattle.safe_text.proofs.safe_text.write_safe.Goals as goal

pub shown-preserved : goal.shown-preserved
shown-preserved g c =
    let taken = c.in-Some.ensures.steps.0 in (
      IsUtf8-past_char _ _ _ c.shown.invariant.0 taken,
      λ plain.
          let now = c.shown.invariant.1 plain in (
            now.0 ++ safe_char c.in-Some.c,
            has_written_append _ _ _ _ _ _ now.1 (search rules),
            next now.0 _ _ _ _ (chars_past_char _ _ _ c.shown.invariant.0 taken) now.2,
          ),
    )

pub returns : goal.returns
returns g c = λ plain ok.
    let now = c.shown.invariant.1 plain in
    subst (λ (text : List ℕ). HasWritten g.W.Write.write_str_gives c.args.f.now text c.shown.f) (all_written now.0 _ _ c.in_default.ensures.steps.0.0 now.2) now.1
