-- What a complaint says of words, with other words before them.
use Rattle.std.proofs.Common.{Bool, true, false, IsTrue, ◌↔◌, ◌≡◌, refl, Option, None, Some, is_some, ℕ, ◌<◌, ◌≤◌, ◌-◌, take, drop, suc, List, [], ◌∷◌, length, get_or, Contains, arith, Bor}
use Rattle.std.proofs.lemmas.List.{get_or-map, length-map}
use Rattle.script.specs.declared.complaint.Complaint.{Complaint}
use Rattle.script.specs.declared.complaint.Complaint.TheVariants.{NeedsCatalogue, EmptyWord, UnknownLine, OfOtherScripts, NeedsRule, UnknownRule, NeedsCounts, NeedsNames, NotListed, NoNumber, NeedsName, StandsAlone, NeedsMax, MaxTooLate, NeedsSeconds}
use Rattle.script.specs.declared.expectation.Expectation.{Expectation}
use Rattle.script.specs.declared.line.Line.{Line}
use Rattle.script.specs.declared.script.Mode.TheVariants.{Run}
use Rattle.script.specs.Complaint.{IsSo}
use Rattle.script.specs.Reading.{IsReading}
use Rattle.script.specs.Script.{IsNextLine, IsNextExpectation, MayRun}
use Rattle.script.specs.Script.MayRun.{RunsLine, RunsExpectation}
use Rattle.script.specs.TextLines.{texts}
use Rattle.script.proofs.WordLemmas.{all_of}

-- a word among others is one with one more in front
more : (first word : List ℕ) (words : List (List ℕ)) → Contains words word → Contains (first ∷ words) word
more first word words has = (suc has.0, omega (arith, has.1), has.2)

-- a word at a place is one of the words
pub at_place : (words : List (Bor (List ℕ))) (place : ℕ) (default : Bor (List ℕ)) → place < length words → Contains (texts words) (get_or words place default).now
at_place words place default below =
    (place, rw length-map below, get_or-map (λ (word : Bor (List ℕ)). word.now) words place default (get_or words place default).now below)

-- a complaint about words is one about all of a line
pub behind : (names words : List (List ℕ)) (first : List ℕ) (complaint : Complaint) → IsSo names words complaint → IsSo names (first ∷ words) complaint
behind names words first NeedsCatalogue so = tt
behind names words first EmptyWord so = tt
behind names words first UnknownLine so = tt
behind names words first OfOtherScripts so = tt
behind names words first NeedsRule so = tt
behind names words first UnknownRule so = tt
behind names words first NeedsCounts so = tt
behind names words first NeedsNames so = tt
behind names words first (NotListed word) so = (more first word.now words so.0, so.1)
behind names words first (NoNumber word) so = (more first word.now words so.0, so.1)
behind names words first (NeedsName word) so = more first word.now words so
behind names words first (StandsAlone word) so = more first word.now words so
behind names words first NeedsMax so = tt
behind names words first MaxTooLate so = tt
behind names words first NeedsSeconds so = tt

-- one about the words behind the first
pub behind_first : (names : List (List ℕ)) (words : List (Bor (List ℕ))) (complaint : Complaint) → 1 ≤ length words
    → IsSo names (texts (take (length words - 1) (drop 1 words))) complaint → IsSo names (texts words) complaint
behind_first names [] complaint least so = absurd (omega arith)
behind_first names (word ∷ words) complaint least so =
    behind names (texts words) word.now complaint (rw (all_of words (length (word ∷ words) - 1) (omega arith)) so)

-- one about the first word, whatever stands behind it
pub of_first : (names : List (List ℕ)) (words : List (Bor (List ℕ))) (default : Bor (List ℕ)) (complaint : Complaint) → 1 ≤ length words
    → ((all others : List (List ℕ)) → IsSo all ((get_or words 0 default).now ∷ others) complaint) → IsSo names (texts words) complaint
of_first names [] default complaint least so = absurd (omega arith)
of_first names (word ∷ words) default complaint least so = so names (texts words)

-- a text that gives an expectation may stand in a script to run
pub expectation_runs : (names : List (List ℕ)) (text : List ℕ) (found : Option Expectation) (test : Bool) → IsReading (IsNextExpectation Run) text found → test ≡ is_some found → test ≡ true
    → IsTrue true ↔ MayRun names text
expectation_runs names text None test is tells so = cc
expectation_runs names text (Some expectation) test is tells so = (λ any. RunsExpectation expectation is, λ may. refl)

-- and any other where it gives a line
pub line_runs : (names : List (List ℕ)) (text : List ℕ) (found : Option Expectation) (line : Option Line) (test last : Bool) → IsReading (IsNextExpectation Run) text found
    → test ≡ is_some found → test ≡ false → IsReading (IsNextLine Run names 0) text line → last ≡ is_some line → IsTrue last ↔ MayRun names text
line_runs names text (Some expectation) line test last none tells so is counts = cc
line_runs names text None (Some line) test last none tells so is counts = (λ any. RunsLine line is, λ may. counts)
line_runs names text None None test last none tells so is counts = (λ any. cc, λ may. absurd (neither may))
  where
    neither : MayRun names text → ⊥
    neither (RunsLine line next) = is line next
    neither (RunsExpectation expectation next) = none expectation next

-- what may stand there has no complaint, and what may not has one
pub no_complaint : {P : Type 0} (may : Bool) → (IsTrue may ↔ P) → may ≡ true → false ≡ false ↔ P
no_complaint may tells so = (λ none. tells.0 so, λ holds. refl)

pub some_complaint : {P : Type 0} (may : Bool) → (IsTrue may ↔ P) → may ≡ false → true ≡ false ↔ P
some_complaint may tells so = (λ none. cc, λ holds. (let also : may ≡ true = tells.1 holds in cc))
