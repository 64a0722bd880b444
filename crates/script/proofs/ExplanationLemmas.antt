-- What is said of a line, and of the names of a catalogue, where the lines of a script lie so.
use Rattle.std.proofs.Common.{ℕ, ◌≡◌, ◌≢◌, ◌↔◌, List, [], ◌∷◌, ◌++◌, codes, decimal, Option, Some, None, IsNone, IfSome, refl, sym, ap, ◌∙◌, subst, append_assoc, Result, Ok, Err, IfOk}
use Rattle.std.proofs.lemmas.Bool.{ne_eqb, eq-eqb}
use Rattle.desk_core.specs.declared.catalogue.CatalogueFault.{CatalogueFault}
use Rattle.desk_core.specs.Fault.{fault_in}
use Rattle.script.specs.declared.complaint.Complaint.{Complaint}
use Rattle.script.specs.Complaint.{IsSoOf}
use Rattle.script.specs.Explanation.{found_told, line_at, line_told, IsFound, ExplainsLine, ExplainsNames}
use Rattle.script.specs.Explanation.IsFoundAt.{OfFirst, OfOther}
use Rattle.script.specs.Opening.{IsCatalogueLine}
use Rattle.script.specs.Quoted.{quoted}
use Rattle.script.specs.Script.{MayRun}
use Rattle.script.specs.TextLines.{Left, with_line, AreWords}
use Rattle.script.proofs.OneScript.{one_names, one_next, none_left}

-- the first line is the one with its own number
first_at : (number : ℕ) (line : List ℕ) (others : List (ℕ × List ℕ)) → line_at number ((number, line) ∷ others) ≡ Some line
first_at number line others = rw (eq-eqb number number refl) refl

-- the first line is told
pub explains_first : (script others : Left) (first number : ℕ) (line told : List ℕ) (found : Option Complaint) → script ≡ with_line (first, line) others → first ≡ number
    → (IsNone found ↔ (names : List (List ℕ)) × IsCatalogueLine line names) → told ≡ line_told number line found
    → ExplainsLine script number told
explains_first script others first number line told found parts same is text =
    let here : script ≡ with_line (number, line) others = parts ∙ ap (λ (n : ℕ). with_line (n, line) others) same in
    let at : line_at number script.lines ≡ Some line = rw here (first_at number line others.lines) in
    record {
      empty = λ none. absurd (none_left script script others (number, line) refl here none);
      line = rw at (record { found = found; is_found = OfFirst others here is; is = text });
    }

-- another line is told
pub explains_other : (script others : Left) (first number : ℕ) (opening line told : List ℕ) (found : Option Complaint) → script ≡ with_line (first, opening) others → first ≢ number
    → Some line ≡ line_at number others.lines
    → ((names : List (List ℕ)) → IsCatalogueLine opening names → fault_in names ≡ None → IsFound names line found) → told ≡ line_told number line found
    → ExplainsLine script number told
explains_other script others first number opening line told found parts other behind is text =
    let at : line_at number script.lines ≡ Some line = rw (parts, ne_eqb first number other) (sym behind) in
    record {
      empty = λ none. absurd (none_left script script others (first, opening) refl parts none);
      line = rw at (record { found = found; is_found = OfOther first opening others parts other is; is = text });
    }

-- a first line that lists no names
pub explains_no_names : (script others : Left) (number : ℕ) (line text : List ℕ) (fault : CatalogueFault) → script ≡ with_line (number, line) others
    → ((words : List (List ℕ)) → ¬ AreWords line (codes "catalogue" ∷ words)) → ExplainsNames script fault text
explains_no_names script others number line text fault parts none = record {
  names = λ n other rest words is are.
      let same = one_next script script others rest number n line other refl parts is in
      absurd (none words (subst (λ (l : List ℕ). AreWords l (codes "catalogue" ∷ words)) (sym same.1) are));
}

-- the texts that are written one after the other
pub told : (number : ℕ) (line empty start all : List ℕ) (found : Option Complaint) → empty ≡ []
    → start ≡ empty ++ (codes "script line " ++ (decimal number ++ (codes ": " ++ quoted line))) → all ≡ start ++ found_told found
    → all ≡ line_told number line found
told number line empty start all found none begins is =
    let words = codes "script line " in
    let digits = decimal number in
    let rest = codes ": " ++ quoted line in
    let begun : start ≡ words ++ (digits ++ rest) = begins ∙ ap (λ (text : List ℕ). text ++ (words ++ (digits ++ rest))) none in
    let flat : words ++ (digits ++ rest) ≡ words ++ digits ++ codes ": " ++ quoted line =
    sym (append_assoc (words ++ digits) (codes ": ") (quoted line) ∙ append_assoc words digits rest) in
    is ∙ ap (λ (text : List ℕ). text ++ found_told found) (begun ∙ flat)

-- what follows of each value that there is
pub each_ok : {A E : Type 0} {P Q : A → Type 0} (result : Result A E) → ((value : A) → P value → Q value) → IfOk result P → IfOk result Q
each_ok (Ok value) follows is = follows value is
each_ok (Err error) follows is = tt

-- what was found by the names that the first line lists
pub found_behind : {E : Type 0} (opening line : List ℕ) (own seen : List (List ℕ)) (result : Result (Option Complaint) E) → IsCatalogueLine opening own → seen ≡ own
    → IfOk result (λ found. IsNone found ↔ MayRun seen line) → IfOk result (λ found. IfSome found (IsSoOf seen line))
    → IfOk result (λ found. (names : List (List ℕ)) → IsCatalogueLine opening names → fault_in names ≡ None → IsFound names line found)
found_behind opening line own seen (Ok found) lists same none so = λ names is faultless.
    subst (λ (all : List (List ℕ)). IsFound all line found) (same ∙ one_names opening own names lists is) (record { none = none; so = so })
found_behind opening line own seen (Err error) lists same none so = tt
