-- What a look comes to.
use Rattle.std.specs.Prelude.{ℕ, Bool, true, false, List, if◌then◌else◌}
use Rattle.std.specs.List.{list_all}
use Rattle.observing.specs.declared.verdict.Verdict.{Verdict}
use Rattle.observing.specs.declared.verdict.Verdict.TheVariants.{Pass, Fail}

-- whether the look passed
abbrev pub is_pass : Verdict → Bool
is_pass Pass = true
is_pass (Fail why) = false

-- the exit status of one look at each target: 0 if all passed, 3 if one failed, and 1 if one could not be told
abbrev pub exit_status_of : List Verdict → Bool → ℕ
exit_status_of verdicts false = 1
exit_status_of verdicts true = if list_all is_pass verdicts then 0 else 3
