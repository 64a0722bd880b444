-- The opening of a script, line by line.
use Rattle.std.proofs.Common.{ℕ, ◌≡◌, ◌≢◌, ◌==◌, Bool, false, List, [], ◌∷◌, length, map, codes, Option, None, Some, Result, Ok, Err, IfOk, IfErr, Bor, refl, sym, ap, ◌∙◌, subst, unwrap_or}
use Rattle.std.specs.Option.{option_map}
use Rattle.desk_core.specs.declared.catalogue.CatalogueFault.{CatalogueFault}
use Rattle.desk_core.specs.Fault.{fault_in}
use Rattle.script.specs.declared.script_fault.ScriptFault.{ScriptFault}
use Rattle.script.specs.declared.script_fault.ScriptFault.TheVariants.{BadLine, Catalogue, NoMemory}
use Rattle.script.specs.TextLines.{Left, with_line, AreWords, texts}
use Rattle.script.specs.declared.script.Mode.{Mode}
use Rattle.script.specs.declared.script.Mode.TheVariants.{Run}
use Rattle.script.specs.Opening.{IsCatalogueLine, IsMaxLine, IsCatalogueFault, IsMaxFault, TakesMax, TakesMaxLine, HasNoMaxLine, IsMaxSaid}
use Rattle.script.specs.Opening.TakesMax.{SaysMax, LeavesMaxOut}
use Rattle.script.specs.Opening.IsCatalogueFault.{NoLine, OtherLine, BadNames}
use Rattle.script.specs.Opening.IsMaxFault.{NoMaxLine, OtherMaxLine}
use Rattle.script.specs.Reading.{IsReading}
use Rattle.script.specs.Word.{name_of, IsNumber}

-- a line without words lists no names, and says no number
pub no_names : (line : List ℕ) → ((words : List (List ℕ)) → ¬ AreWords line words) → (names : List (List ℕ)) → ¬ IsCatalogueLine line names
no_names line none names is = none (codes "catalogue" ∷ is.words) is.are

pub no_max : (line : List ℕ) → ((words : List (List ℕ)) → ¬ AreWords line words) → (max : ℕ) → ¬ IsMaxLine line max
no_max line none max is = none (codes "max" ∷ is.word ∷ []) is.are

-- the number behind `max` is what the line says
pub max_line : (line : List ℕ) (items words : List (Bor (List ℕ))) (word : List ℕ) (found : Option ℕ) → AreWords line (texts items) → words ≡ items → texts words ≡ codes "max" ∷ word ∷ []
    → IsReading IsNumber word found → IsReading IsMaxLine line found
max_line line items words word None are view cut none = λ max is.
    let whole : texts items ≡ codes "max" ∷ word ∷ [] = rw (← view) cut in
    let same : codes "max" ∷ is.word ∷ [] ≡ codes "max" ∷ word ∷ [] = is.are.parted ∙ sym are.parted ∙ whole in
    let one : is.word ≡ word = cc in
    none max (subst (λ (text : List ℕ). IsNumber text max) one is.number)
max_line line items words word (Some max) are view cut is =
    let whole : texts items ≡ codes "max" ∷ word ∷ [] = rw (← view) cut in
    record { word = word; are = subst (λ (all : List (List ℕ)). AreWords line all) whole are; number = is }

-- the names behind `catalogue` are what the line lists, where there is one
pub lists_names : (line : List ℕ) (items words behind : List (Bor (List ℕ))) (names : List (List ℕ)) (empty : Bool) → AreWords line (texts items) → words ≡ items
    → texts words ≡ codes "catalogue" ∷ texts behind → empty ≡ (length behind == 0) → empty ≡ false → names ≡ map name_of (texts behind) → IsCatalogueLine line names
lists_names line items words [] names empty are view cut is some same = cc
lists_names line items words (first ∷ others) names empty are view cut is some same =
    let whole : texts items ≡ codes "catalogue" ∷ texts (first ∷ others) = rw (← view) cut in
    record { words = texts (first ∷ others); are = subst (λ (all : List (List ℕ)). AreWords line all) whole are; some = λ none. cc; names_are = same }

-- no line is left
pub no_line : (left : Left) (end : ℕ) → left.lines ≡ [] → end ≡ left.end → IsCatalogueFault left (BadLine end)
no_line left end none is = rw is (NoLine left none)

pub no_max_line : (left : Left) (end : ℕ) → left.lines ≡ [] → end ≡ left.end → IsMaxFault left (BadLine end)
no_max_line left end none is = rw is (NoMaxLine left none)

-- another line comes
pub other_line : (left rest : Left) (number : ℕ) (line : List ℕ) → left ≡ with_line (number, line) rest
    → ((names : List (List ℕ)) → ¬ IsCatalogueLine line names) → IsCatalogueFault left (BadLine number)
other_line left rest number line parts none = subst (λ (all : Left). IsCatalogueFault all (BadLine number)) (sym parts) (OtherLine number line rest none)

pub other_max_line : (left rest : Left) (number : ℕ) (line : List ℕ) → left ≡ with_line (number, line) rest → ((max : ℕ) → ¬ IsMaxLine line max) → IsMaxFault left (BadLine number)
other_max_line left rest number line parts none = subst (λ (all : Left). IsMaxFault all (BadLine number)) (sym parts) (OtherMaxLine number line rest none)

-- the names have a fault
bad_names : (left rest : Left) (number : ℕ) (line : List ℕ) (names : List (List ℕ)) (fault : ScriptFault) (found : Option CatalogueFault) → left ≡ with_line (number, line) rest
    → IsCatalogueLine line names → fault_in names ≡ found → option_map Catalogue found ≡ Some fault → IsCatalogueFault left fault
bad_names left rest number line names fault None parts is found none = cc
bad_names left rest number line names fault (Some first) parts is found told =
    let same : fault ≡ Catalogue first = cc in
    rw (same, parts) (BadNames number line rest names first is found)

pub names_fault : {A : Type 0} (left rest : Left) (number : ℕ) (line : List ℕ) (names : List (List ℕ)) (result : Result A ScriptFault)
    → left ≡ with_line (number, line) rest → IsCatalogueLine line names
    → IfErr result (λ fault. fault ≢ NoMemory → option_map Catalogue (fault_in names) ≡ Some fault) → IfErr result (λ fault. fault ≢ NoMemory → IsCatalogueFault left fault)
names_fault left rest number line names (Ok value) parts is told = told
names_fault left rest number line names (Err fault) parts is told = λ other. bad_names left rest number line names fault (fault_in names) parts is refl (told other)

-- what a script to run says, or 2 ^ 32 - 1
pub said_or_all : (left rest : Left) (found : Option ℕ) → IsMaxSaid left found rest → TakesMax Run left (unwrap_or found 4294967295) rest
said_or_all left rest None is = rw is.1 (LeavesMaxOut refl is.0)
said_or_all left rest (Some max) is = SaysMax max rest is

-- where no line is left none says a number
pub none_says_max : (left : Left) → left.lines ≡ [] → HasNoMaxLine left
none_says_max left none = λ max rest is.
    let all : left.lines ≡ (is.number, is.line) ∷ rest.lines = ap (λ (all : Left). all.lines) is.parts in
    let both : [] ≡ (is.number, is.line) ∷ rest.lines = sym none ∙ all in
    cc

-- another line says none
pub other_says_no_max : (left rest : Left) (number : ℕ) (line : List ℕ) → left ≡ with_line (number, line) rest → ((max : ℕ) → ¬ IsMaxLine line max) → HasNoMaxLine left
other_says_no_max left rest number line parts none = λ max behind is.
    let all : (number, line) ∷ rest.lines ≡ (is.number, is.line) ∷ behind.lines = ap (λ (all : Left). all.lines) (sym parts ∙ is.parts) in
    let pairs : (is.number, is.line) ≡ (number, line) = cc in
    none max (subst (λ (text : List ℕ). IsMaxLine text max) (ap (λ (pair : ℕ × List ℕ). pair.1) pairs) is.is)

-- a line that has to say the number is taken, in a script of any mode
pub needed_ok : (mode : Mode) (left rest : Left) (result : Result ℕ ScriptFault) → IfOk result (λ max. TakesMaxLine left max rest) → IfOk result (λ max. TakesMax mode left max rest)
needed_ok mode left rest (Ok max) is = SaysMax max rest is
needed_ok mode left rest (Err fault) is = is

-- and its fault is one where the script is not one to run
pub needed_fault : (mode : Mode) (left : Left) (result : Result ℕ ScriptFault) → mode ≢ Run → IfErr result (λ fault. fault ≢ NoMemory → IsMaxFault left fault)
    → IfErr result (λ fault. fault ≢ NoMemory → (mode ≢ Run) × IsMaxFault left fault)
needed_fault mode left (Ok max) needed is = is
needed_fault mode left (Err fault) needed is = λ other. (needed, is other)
