-- What a script to run expects behind its last line, where every line was made.
use Rattle.std.specs.Prelude.{ℕ, zero, suc, ◌<◌, ◌≤◌, ◌==◌, ◌++◌, not, Bool, true, false, if◌then◌else◌, List, [], ◌∷◌, take, drop, All, is_some, Option, None, Some, Result, Ok, Err}
use Rattle.std.specs.List.{list_all}
use Rattle.std.specs.Option.{option_map, option_or, option_to_list}
use Rattle.std.specs.Str.{bytes_eq}
use Rattle.probe_core.specs.declared.rule.Rule.{Rule}
use Rattle.probe_core.specs.declared.rule.Rule.TheVariants.{Threshold, Manual, Depends}
use Rattle.desk_core.specs.declared.refusal.Refusal.{Refusal}
use Rattle.desk_core.specs.declared.refusal.Refusal.TheVariants.{NotListed}
use Rattle.desk_core.specs.declared.reply.Reply.{Reply}
use Rattle.desk_core.specs.declared.reply.Reply.TheVariants.{Missing, WrongKind}
use Rattle.desk_core.specs.Catalogue.{name_at, slot_of}
use Rattle.script.specs.declared.expectation.ScriptExpectation.{ScriptExpectation}
use Rattle.script.specs.declared.expected.Expected.{Expected}
use Rattle.script.specs.declared.expected.RefusedExpectation.{RefusedExpectation}
use Rattle.script.specs.declared.line.Line.{Line}
use Rattle.script.specs.declared.line.Line.TheVariants.{Register, Retire, Order, Check, Open, Step, Board}

-- the rule of a name after a line, where it had this one before, or none: the one that the line registers, and none where it is retired
abbrev pub rule_after : List ℕ → Line → Option Rule → Option Rule
rule_after name (Register other rule) before = if bytes_eq other name then Some rule else before
rule_after name (Retire other) before = if bytes_eq other name then None else before
rule_after name (Order order) before = before
rule_after name (Check other) before = before
rule_after name (Open other) before = before
rule_after name (Step number) before = before
rule_after name Board before = before

-- the rule of a name behind lines, where it had this one before them
abbrev pub rule_behind : List ℕ → List Line → Option Rule → Option Rule
rule_behind name [] before = before
rule_behind name (line ∷ lines) before = rule_behind name lines (rule_after name line before)

-- how an expectation of a name with this rule, or none, is answered; nothing where it stands
abbrev pub rule_answer : Option Rule → Option (Result Reply Refusal)
rule_answer None = Some (Ok Missing)
rule_answer (Some (Threshold fall rise start)) = None
rule_answer (Some Manual) = Some (Ok WrongKind)
rule_answer (Some (Depends mask)) = Some (Ok WrongKind)

-- how an expectation of a script is answered at its place; nothing where it stands
abbrev pub answer_to : List (List ℕ) → List Line → ScriptExpectation → Option (Result Reply Refusal)
answer_to names lines one =
    if is_some (slot_of names one.expectation.name) then rule_answer (rule_behind one.expectation.name (take one.behind lines) None) else Some (Err NotListed)

-- an expectation that does not stand, with the number of its line
abbrev pub refused_at : ℕ → Result Reply Refusal → RefusedExpectation
refused_at number answer = record { number = number; answer = answer }

-- the first expectation that does not stand
abbrev pub first_refused : List (List ℕ) → List Line → List ScriptExpectation → Option RefusedExpectation
first_refused names lines [] = None
first_refused names lines (one ∷ others) = option_or (option_map (refused_at one.number) (answer_to names lines one)) (first_refused names lines others)

-- the rule is a threshold
abbrev pub is_threshold : Rule → Bool
is_threshold (Threshold fall rise start) = true
is_threshold Manual = false
is_threshold (Depends mask) = false

-- a line keeps what is expected of a name: it neither retires the name nor registers it by a rule that is no threshold
abbrev pub keeps : List ℕ → Line → Bool
keeps name (Register other rule) = if bytes_eq other name then is_threshold rule else true
keeps name (Retire other) = not (bytes_eq other name)
keeps name (Order order) = true
keeps name (Check other) = true
keeps name (Open other) = true
keeps name (Step number) = true
keeps name Board = true

-- the seconds of an expectation behind the last line: 0 where a line behind it does not keep it
abbrev pub seconds_kept : List ℕ → List Line → ScriptExpectation → ℕ
seconds_kept name lines one = if list_all (keeps name) (drop one.behind lines) then one.expectation.seconds else 0

-- the seconds of a name behind the last line: those of its last expectation, and so many where it has none
abbrev pub seconds_of : List ℕ → List Line → List ScriptExpectation → ℕ → ℕ
seconds_of name lines [] before = before
seconds_of name lines (one ∷ others) before =
    seconds_of name lines others (if bytes_eq one.expectation.name name then seconds_kept name lines one else before)

-- a slot is expected every so many seconds, and not at all where they are 0
abbrev pub every : ℕ → ℕ → Option Expected
every slot seconds = if seconds == 0 then None else Some (record { slot = slot; seconds = seconds })

-- what is expected of the slot with this name, or of one without
abbrev pub expected_of_name : List Line → List ScriptExpectation → ℕ → Option (List ℕ) → Option Expected
expected_of_name lines expectations slot None = None
expected_of_name lines expectations slot (Some name) = every slot (seconds_of name lines expectations 0)

-- what is expected of the first slots, so many
abbrev pub expected_first : List (List ℕ) → List Line → List ScriptExpectation → ℕ → List Expected
expected_first names lines expectations zero = []
expected_first names lines expectations (suc slot) =
    expected_first names lines expectations slot ++ option_to_list (expected_of_name lines expectations slot (name_at names slot))

-- the slots rise, so that none stands twice
abbrev pub AreRising : List Expected → Type 0
AreRising [] = Unit {0}
AreRising (one ∷ others) = All (λ other. one.slot < other.slot) others × AreRising others

-- each slot stands once, with 1 second or more
pub record AreEachOnce (expected : List Expected) : Type 0 where
  pub once : AreRising expected
  pub some : All (λ one. 1 ≤ one.seconds) expected
