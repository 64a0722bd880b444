-- Bytes are one script, or have one fault.
use Rattle.std.proofs.Common.{ℕ, ◌≡◌, ◌≢◌, ◌==◌, List, [], ◌∷◌, suc, codes, map, None, Some, refl, sym, ap, ◌∙◌, subst, ◌<◌, ◌≤◌, length, arith}
use Rattle.std.specs.List.{slice_split}
use Rattle.desk_core.specs.declared.order.Order.{Order as OrderOf}
use Rattle.desk_core.specs.Fault.{fault_in}
use Rattle.script.specs.declared.expectation.Expectation.{Expectation}
use Rattle.script.specs.declared.expectation.ScriptExpectation.{ScriptExpectation}
use Rattle.script.specs.declared.line.Line.{Line}
use Rattle.script.specs.declared.script.Mode.{Mode}
use Rattle.script.specs.declared.script.Mode.TheVariants.{Run}
use Rattle.script.specs.declared.script_fault.ScriptFault.{ScriptFault}
use Rattle.script.specs.declared.script_fault.ScriptFault.TheVariants.{BadLine, Catalogue}
use Rattle.script.specs.Line.{IsLine}
use Rattle.script.specs.Line.IsLine.{OrderLine}
use Rattle.script.specs.TextLines.{Left, left_from, with_line, first_numbers}
use Rattle.script.specs.Opening.{IsCatalogueLine, IsMaxLine, TakesCatalogue, TakesMax, TakesMaxLine, IsCatalogueFault, IsMaxFault}
use Rattle.script.specs.Opening.IsCatalogueFault.{NoLine, OtherLine, BadNames}
use Rattle.script.specs.Opening.IsMaxFault.{NoMaxLine, OtherMaxLine}
use Rattle.script.specs.Opening.TakesMax.{SaysMax, LeavesMaxOut}
use Rattle.script.specs.Script.{ScriptParts, watches_after, IsNextLine, IsNextExpectation, IsGo, standing, PartsLines, Parts, TakesLines, IsLinesFault, AreOrders, IsOrdersFault, IsText, Opens, IsScript, IsScriptFault}
use Rattle.script.specs.Script.TakesLines.{AtEnd, AtGo, NextLine}
use Rattle.script.specs.Script.PartsLines.{NoneLeft, IsOne, IsOther}
use Rattle.script.specs.Script.IsLinesFault.{BadHere, BadLater, BadBehind}
use Rattle.script.specs.Script.AreOrders.{NoOrder, NextOrder}
use Rattle.script.specs.Script.IsOrdersFault.{NotHere, NotLater}
use Rattle.script.specs.Script.IsScriptFault.{Long, NoText, InCatalogue, InMax, InLines, InOrders}
use Rattle.script.specs.Word.{name_of, IsNumber}
use Rattle.script.proofs.OneLine.{one_number, one_line_text, one_order_text, one_expectation_text, line_or_expectation}

-- what is left is one where its parts are
same_left : (a b : Left) → a.lines ≡ b.lines → a.end ≡ b.end → a ≡ b
same_left a b lines end =
    let first : a ≡ record { lines = b.lines; end = a.end } = ap (λ (all : List (ℕ × List ℕ)). let left : Left = record { lines = all; end = a.end } in left) lines in
    first ∙ ap (λ (number : ℕ). let left : Left = record { lines = b.lines; end = number } in left) end

-- lists that are one have one head
same_head : {A : Type 0} (x y : A) (xs ys : List A) → x ∷ xs ≡ y ∷ ys → x ≡ y
same_head x y xs ys same = cc

-- the next line is one, and so is the rest
pub one_next : (left right rest more : Left) (m n : ℕ) (line other : List ℕ) → left ≡ right → left ≡ with_line (m, line) rest → right ≡ with_line (n, other) more → (m ≡ n) × (line ≡ other) × (rest ≡ more)
one_next left right rest more m n line other same parts others =
    let all : with_line (m, line) rest ≡ with_line (n, other) more = sym parts ∙ same ∙ others in
    let lines : (m, line) ∷ rest.lines ≡ (n, other) ∷ more.lines = ap (λ (left : Left). left.lines) all in
    let end : rest.end ≡ more.end = ap (λ (left : Left). left.end) all in
    let head = same_head (m, line) (n, other) rest.lines more.lines lines in
    let tail : rest.lines ≡ more.lines = cc in
    (ap (λ (pair : ℕ × List ℕ). pair.0) head, ap (λ (pair : ℕ × List ℕ). pair.1) head, same_left rest more tail end)

pub one_names : (line : List ℕ) (a b : List (List ℕ)) → IsCatalogueLine line a → IsCatalogueLine line b → a ≡ b
one_names line a b is_a is_b =
    let all : codes "catalogue" ∷ is_a.words ≡ codes "catalogue" ∷ is_b.words = is_a.are.parted ∙ sym is_b.are.parted in
    let words : is_a.words ≡ is_b.words = cc in
    is_a.names_are ∙ ap (λ (all : List (List ℕ)). map name_of all) words ∙ sym is_b.names_are

one_max : (line : List ℕ) (m n : ℕ) → IsMaxLine line m → IsMaxLine line n → m ≡ n
one_max line m n is_m is_n =
    let all : codes "max" ∷ is_m.word ∷ [] ≡ codes "max" ∷ is_n.word ∷ [] = is_m.are.parted ∙ sym is_n.are.parted in
    let word : is_n.word ≡ is_m.word = cc in
    one_number is_m.word m n is_m.number (subst (λ (text : List ℕ). IsNumber text n) word is_n.number)

one_catalogue : (left : Left) (a b : List (List ℕ)) (rest more : Left) → TakesCatalogue left a rest → TakesCatalogue left b more → (a ≡ b) × (rest ≡ more)
one_catalogue left a b rest more is_a is_b =
    let same = one_next left left rest more is_a.number is_b.number is_a.line is_b.line refl is_a.parts is_b.parts in
    (one_names is_a.line a b is_a.is (subst (λ (line : List ℕ). IsCatalogueLine line b) (sym same.1) is_b.is), same.2)

one_said : (left : Left) (m n : ℕ) (rest more : Left) → TakesMaxLine left m rest → TakesMaxLine left n more → (m ≡ n) × (rest ≡ more)
one_said left m n rest more is_m is_n =
    let same = one_next left left rest more is_m.number is_n.number is_m.line is_n.line refl is_m.parts is_n.parts in
    (one_max is_m.line m n is_m.is (subst (λ (line : List ℕ). IsMaxLine line n) (sym same.1) is_n.is), same.2)

one_most : (mode : Mode) (left : Left) (m n : ℕ) (rest more : Left) → TakesMax mode left m rest → TakesMax mode left n more → (m ≡ n) × (rest ≡ more)
one_most mode left m n rest more (SaysMax k others is) (SaysMax l ends is_n) = one_said left m n rest more is is_n
one_most mode left m n rest more (SaysMax k others is) (LeavesMaxOut runs none) = absurd (none m rest is)
one_most mode left m n rest more (LeavesMaxOut runs none) (SaysMax l ends is) = absurd (none n more is)
one_most mode left m n rest more (LeavesMaxOut runs none) (LeavesMaxOut runs_n none_n) = (refl, refl)

-- a line that is there
pub none_left : (left right rest : Left) (line : ℕ × List ℕ) → left ≡ right → right ≡ with_line line rest → left.lines ≡ [] → ⊥
none_left left right rest line same parts none =
    let all : left.lines ≡ line ∷ rest.lines = ap (λ (left : Left). left.lines) (same ∙ parts) in
    let both : [] ≡ line ∷ rest.lines = sym none ∙ all in
    cc

catalogue_or_fault : (left right rest : Left) (names : List (List ℕ)) (fault : ScriptFault) → left ≡ right → TakesCatalogue right names rest → IsCatalogueFault left fault → ⊥
catalogue_or_fault left right rest names fault same is (NoLine l none) = none_left left right rest (is.number, is.line) same is.parts none
catalogue_or_fault left right rest names fault same is (OtherLine n line more none) =
    let one = one_next left right more rest n is.number line is.line same refl is.parts in
    none names (subst (λ (text : List ℕ). IsCatalogueLine text names) (sym one.1) is.is)
catalogue_or_fault left right rest names fault same is (BadNames n line more others f is_o found) =
    let one = one_next left right more rest n is.number line is.line same refl is.parts in
    let equal : others ≡ names = one_names line others names is_o (subst (λ (text : List ℕ). IsCatalogueLine text names) (sym one.1) is.is) in
    let both : Some f ≡ None = sym found ∙ ap fault_in equal ∙ is.faultless in
    cc

said_or_fault : (left right rest : Left) (max : ℕ) (fault : ScriptFault) → left ≡ right → TakesMaxLine right max rest → IsMaxFault left fault → ⊥
said_or_fault left right rest max fault same is (NoMaxLine l none) = none_left left right rest (is.number, is.line) same is.parts none
said_or_fault left right rest max fault same is (OtherMaxLine n line more none) =
    let one = one_next left right more rest n is.number line is.line same refl is.parts in
    none max (subst (λ (text : List ℕ). IsMaxLine text max) (sym one.1) is.is)

max_or_fault : (mode : Mode) (left right rest : Left) (max : ℕ) (fault : ScriptFault) → left ≡ right → TakesMax mode right max rest → mode ≢ Run → IsMaxFault left fault → ⊥
max_or_fault mode left right rest max fault same (SaysMax m others is) needed wrong = said_or_fault left right rest max fault same is wrong
max_or_fault mode left right rest max fault same (LeavesMaxOut runs none) needed wrong = needed runs

one_catalogue_fault : (left right : Left) (f g : ScriptFault) → left ≡ right → IsCatalogueFault left f → IsCatalogueFault right g → f ≡ g
one_catalogue_fault left right f g same (NoLine l none) (NoLine r other) = ap (λ (left : Left). BadLine left.end) same
one_catalogue_fault left right f g same (NoLine l none) (OtherLine n line more not) = absurd (none_left left right more (n, line) same refl none)
one_catalogue_fault left right f g same (NoLine l none) (BadNames n line more names h is found) = absurd (none_left left right more (n, line) same refl none)
one_catalogue_fault left right f g same (OtherLine n line more not) (NoLine r none) = absurd (none_left right left more (n, line) (sym same) refl none)
one_catalogue_fault left right f g same (OtherLine m line rest not) (OtherLine n other more not_n) = ap BadLine (one_next left right rest more m n line other same refl refl).0
one_catalogue_fault left right f g same (OtherLine m line rest not) (BadNames n other more names h is found) =
    let one = one_next left right rest more m n line other same refl refl in
    absurd (not names (subst (λ (text : List ℕ). IsCatalogueLine text names) (sym one.1) is))
one_catalogue_fault left right f g same (BadNames m line rest names h is found) (NoLine r none) = absurd (none_left right left rest (m, line) (sym same) refl none)
one_catalogue_fault left right f g same (BadNames m line rest names h is found) (OtherLine n other more not) =
    let one = one_next left right rest more m n line other same refl refl in
    absurd (not names (subst (λ (text : List ℕ). IsCatalogueLine text names) one.1 is))
one_catalogue_fault left right f g same (BadNames m line rest names h is found) (BadNames n other more others k is_o found_o) =
    let one = one_next left right rest more m n line other same refl refl in
    let equal : names ≡ others = one_names line names others is (subst (λ (text : List ℕ). IsCatalogueLine text others) (sym one.1) is_o) in
    let both : Some h ≡ Some k = sym found ∙ ap fault_in equal ∙ found_o in
    let first : h ≡ k = cc in
    ap Catalogue first

one_max_fault : (left right : Left) (f g : ScriptFault) → left ≡ right → IsMaxFault left f → IsMaxFault right g → f ≡ g
one_max_fault left right f g same (NoMaxLine l none) (NoMaxLine r other) = ap (λ (left : Left). BadLine left.end) same
one_max_fault left right f g same (NoMaxLine l none) (OtherMaxLine n line more not) = absurd (none_left left right more (n, line) same refl none)
one_max_fault left right f g same (OtherMaxLine n line more not) (NoMaxLine r none) = absurd (none_left right left more (n, line) (sym same) refl none)
one_max_fault left right f g same (OtherMaxLine m line rest not) (OtherMaxLine n other more not_n) = ap BadLine (one_next left right rest more m n line other same refl refl).0

-- `go` gives no line
no_line_go : (names words : List (List ℕ)) (line : Line) → words ≡ slice_split (λ c. c == 32) (codes "go") → ¬ IsLine names words line
no_line_go names words line are is = go_alone names line (subst (λ (all : List (List ℕ)). IsLine names all line) are is)
  where
    go_alone : (names : List (List ℕ)) (line : Line) → IsLine names (codes "go" ∷ []) line → ⊥
    go_alone names line (OrderLine words order is) = elim is [ ]

go_or_next : (mode : Mode) (names : List (List ℕ)) (watches : ℕ) (text : List ℕ) (line : Line) → IsGo mode text → IsNextLine mode names watches text line → ⊥
go_or_next mode names watches text line go next =
    no_line_go names next.is.words line (next.is.are.parted ∙ ap (slice_split (λ c. c == 32)) go.is) next.is.is

-- the lines behind one line are counted alike
same_line : (mode : Mode) (names : List (List ℕ)) (watches : ℕ) (text : List ℕ) (line other : Line) → IsNextLine mode names watches text line → IsNextLine mode names watches text other → other ≡ line
same_line mode names watches text line other is is_o = one_line_text names text other line is_o.is is.is

one_lines : (mode : Mode) (names : List (List ℕ)) (watches : ℕ) (body : List (ℕ × List ℕ)) (a b : List Line) (rest more : List (ℕ × List ℕ))
    → TakesLines mode names watches body a rest → TakesLines mode names watches body b more
    → (a ≡ b) × (rest ≡ more)
one_lines mode names watches body a b rest more (AtEnd w) (AtEnd v) = (refl, refl)
one_lines mode names watches body a b rest more (AtGo w n text behind go) (AtGo v m other left go_o) = (refl, refl)
one_lines mode names watches body a b rest more (AtGo w n text behind go) (NextLine v m other line others left lines is takes) = absurd (go_or_next mode names w text line go is)
one_lines mode names watches body a b rest more (NextLine v m other line others left lines is takes) (AtGo w n text behind go) = absurd (go_or_next mode names v other line go is)
one_lines mode names watches body a b rest more (NextLine w n text line others left lines is takes) (NextLine v m same other behind last found is_o takes_o) =
    let equal : other ≡ line = same_line mode names w text line other is is_o in
    let both = one_lines mode names (watches_after line w) others lines found left last takes (subst (λ (one : Line). TakesLines mode names (watches_after one w) others found last) equal takes_o) in
    (ap (λ (all : List Line). line ∷ all) both.0 ∙ ap (λ (one : Line). one ∷ found) (sym equal), both.1)

-- a text is not both of these
line_or_next : (mode : Mode) (names : List (List ℕ)) (watches : ℕ) (text : List ℕ) (line : Line) (expectation : Expectation) → IsNextLine mode names watches text line
    → ¬ IsNextExpectation mode text expectation
line_or_next mode names watches text line expectation is next = line_or_expectation names text line expectation is.is next.is

-- lines come apart in one way
one_parting : (mode : Mode) (behind : ℕ) (body others more : List (ℕ × List ℕ)) (a b : List ScriptExpectation) → PartsLines mode behind body a others → PartsLines mode behind body b more
    → (a ≡ b) × (others ≡ more)
one_parting mode behind body others more a b (NoneLeft n) (NoneLeft m) = (refl, refl)
one_parting mode behind body others more a b (IsOne n number text one rest left later is parts) (IsOne m same also other behind_it left_o later_o is_o parts_o) =
    let equal : one ≡ other = one_expectation_text text one other is.is is_o.is in
    let both = one_parting mode n rest left left_o later later_o parts parts_o in
    (ap (λ (all : List ScriptExpectation). standing number n one ∷ all) both.0 ∙ ap (λ (e : Expectation). standing number n e ∷ later_o) equal, both.1)
one_parting mode behind body others more a b (IsOne n number text one rest left later is parts) (IsOther m same also behind_it left_o later_o none parts_o) = absurd (none one is)
one_parting mode behind body others more a b (IsOther n number text rest left later none parts) (IsOne m same also other behind_it left_o later_o is_o parts_o) = absurd (none other is_o)
one_parting mode behind body others more a b (IsOther n number text rest left later none parts) (IsOther m same also behind_it left_o later_o none_o parts_o) =
    let both = one_parting mode (suc n) rest left left_o later later_o parts parts_o in
    (both.0, ap (λ (all : List (ℕ × List ℕ)). (number, text) ∷ all) both.1)

-- lines that come apart, and are taken, have no fault
lines_or_fault : (mode : Mode) (names : List (List ℕ)) (behind watches : ℕ) (body others : List (ℕ × List ℕ)) (expectations : List ScriptExpectation) (a : List Line)
    (rest : List (ℕ × List ℕ)) (fault : ScriptFault) → PartsLines mode behind body expectations others → TakesLines mode names watches others a rest
    → IsLinesFault mode names watches body fault → ⊥
lines_or_fault mode names behind watches body others expectations a rest fault (NoneLeft n) takes is = elim is [ ]
lines_or_fault mode names behind watches body others expectations a rest fault (IsOne n number text one left more later is parts) takes (BadHere v m same ahead not unexpected none) =
    unexpected one is
lines_or_fault mode names behind watches body others expectations a rest fault (IsOne n number text one left more later is parts) takes (BadLater v m same line ahead f is_line wrong) =
    line_or_next mode names v text line one is_line is
lines_or_fault mode names behind watches body others expectations a rest fault (IsOne n number text one left more later is parts) takes (BadBehind v m same other ahead f is_o wrong) =
    lines_or_fault mode names n v left more later a rest f parts takes wrong
lines_or_fault mode names behind watches body others expectations a rest fault (IsOther n number text left more later none_e parts) takes (BadBehind v m same other ahead f is_o wrong) =
    none_e other is_o
lines_or_fault mode names behind watches body others expectations a rest fault (IsOther n number text left more later none_e parts) (AtGo w k also ends go) (BadHere v m same ahead not unexpected none) =
    not go
lines_or_fault mode names behind watches body others expectations a rest fault (IsOther n number text left more later none_e parts) (AtGo w k also ends go) (BadLater v m same line ahead f is_line wrong) =
    go_or_next mode names w text line go is_line
lines_or_fault mode names behind watches body others expectations a rest fault (IsOther n number text left more later none_e parts) (NextLine w k also line beyond ends lines is takes) (BadHere v m same ahead not unexpected none) =
    none line is
lines_or_fault mode names behind watches body others expectations a rest fault (IsOther n number text left more later none_e parts) (NextLine w k also line beyond ends lines is takes) (BadLater v m same other ahead f is_o wrong) =
    let equal : other ≡ line = same_line mode names w text line other is is_o in
    lines_or_fault mode names (suc n) (watches_after line w) left more later lines ends f parts takes (subst (λ (one : Line). IsLinesFault mode names (watches_after one w) left f) equal wrong)

one_lines_fault : (mode : Mode) (names : List (List ℕ)) (watches : ℕ) (body : List (ℕ × List ℕ)) (f g : ScriptFault)
    → IsLinesFault mode names watches body f → IsLinesFault mode names watches body g → f ≡ g
one_lines_fault mode names watches body f g (BadHere w n text rest not none_e none) (BadHere v m same behind not_o none_oe none_o) = refl
one_lines_fault mode names watches body f g (BadHere w n text rest not none_e none) (BadLater v m same line behind h is later) = absurd (none line is)
one_lines_fault mode names watches body f g (BadHere w n text rest not none_e none) (BadBehind v m same one behind h is later) = absurd (none_e one is)
one_lines_fault mode names watches body f g (BadLater w n text line rest h is later) (BadHere v m same behind not none_e none) = absurd (none line is)
one_lines_fault mode names watches body f g (BadLater w n text line rest h is later) (BadBehind v m same one behind k is_o later_o) = absurd (line_or_next mode names w text line one is is_o)
one_lines_fault mode names watches body f g (BadBehind w n text one rest h is later) (BadHere v m same behind not none_e none) = absurd (none_e one is)
one_lines_fault mode names watches body f g (BadBehind w n text one rest h is later) (BadLater v m same line behind k is_o later_o) = absurd (line_or_next mode names w text line one is_o is)
one_lines_fault mode names watches body f g (BadBehind w n text one rest h is later) (BadBehind v m same other behind k is_o later_o) = one_lines_fault mode names w rest h k later later_o
one_lines_fault mode names watches body f g (BadLater w n text line rest h is later) (BadLater v m same other behind k is_o later_o) =
    let equal : other ≡ line = same_line mode names w text line other is is_o in
    one_lines_fault mode names (watches_after line w) rest h k later (subst (λ (one : Line). IsLinesFault mode names (watches_after one w) rest k) equal later_o)

one_orders : (body : List (ℕ × List ℕ)) (a b : List OrderOf) → AreOrders body a → AreOrders body b → a ≡ b
one_orders body a b NoOrder NoOrder = refl
one_orders body a b (NextOrder n text order rest orders is are) (NextOrder m same other behind others is_o are_o) =
    ap (λ (one : OrderOf). one ∷ orders) (one_order_text text order other is is_o) ∙ ap (λ (all : List OrderOf). other ∷ all) (one_orders rest orders others are are_o)

orders_or_fault : (body : List (ℕ × List ℕ)) (a : List OrderOf) (fault : ScriptFault) → AreOrders body a → IsOrdersFault body fault → ⊥
orders_or_fault body a fault NoOrder is = elim is [ ]
orders_or_fault body a fault (NextOrder n text order rest orders is are) (NotHere m same behind none) = none order is
orders_or_fault body a fault (NextOrder n text order rest orders is are) (NotLater m same other behind f is_o later) = orders_or_fault rest orders f are later

one_orders_fault : (body : List (ℕ × List ℕ)) (f g : ScriptFault) → IsOrdersFault body f → IsOrdersFault body g → f ≡ g
one_orders_fault body f g (NotHere n text rest none) (NotHere m same behind none_o) = refl
one_orders_fault body f g (NotHere n text rest none) (NotLater m same order behind h is later) = absurd (none order is)
one_orders_fault body f g (NotLater n text order rest h is later) (NotHere m same behind none) = absurd (none order is)
one_orders_fault body f g (NotLater n text order rest h is later) (NotLater m same other behind k is_o later_o) = one_orders_fault rest h k later later_o

-- a script opens in one way
one_opening : (mode : Mode) (bytes : List ℕ) (a b : List (List ℕ)) (m n : ℕ) (body other : Left) → Opens mode bytes a m body → Opens mode bytes b n other → (a ≡ b) × (m ≡ n) × (body ≡ other)
one_opening mode bytes a b m n body other is_a is_b =
    let names = one_catalogue (left_from mode 1 bytes) a b is_a.behind_catalogue is_b.behind_catalogue is_a.catalogue is_b.catalogue in
    let most = one_most mode is_a.behind_catalogue m n body other is_a.most (subst (λ (left : Left). TakesMax mode left n other) (sym names.1) is_b.most) in
    (names.0, most.0, most.1)

-- and comes apart in one way behind its opening
one_body : (mode : Mode) (bytes : List ℕ) (a b : List (List ℕ)) (m n : ℕ) (opened other body more : Left) (expectations expected : List ScriptExpectation)
    → Opens mode bytes a m opened → Opens mode bytes b n other → Parts mode opened expectations body → Parts mode other expected more
    → (expectations ≡ expected) × (body.lines ≡ more.lines)
one_body mode bytes a b m n opened other body more expectations expected is_a is_b parts parts_o =
    let same = one_opening mode bytes a b m n opened other is_a is_b in
    one_parting mode 0 opened.lines body.lines more.lines expectations expected parts.lines
    (subst (λ (left : Left). PartsLines mode 0 left.lines expected more.lines) (sym same.2) parts_o.lines)

-- the lines of an opened script
same_body : (mode : Mode) (bytes : List ℕ) (a b : List (List ℕ)) (m n : ℕ) (opened other body more : Left) (expectations expected : List ScriptExpectation)
    (lines : List Line) (rest : List (ℕ × List ℕ)) → Opens mode bytes a m opened → Opens mode bytes b n other → Parts mode opened expectations body
    → Parts mode other expected more → TakesLines mode b 0 more.lines lines rest → TakesLines mode a 0 body.lines lines rest
same_body mode bytes a b m n opened other body more expectations expected lines rest is_a is_b parts parts_o takes =
    let names = (one_opening mode bytes a b m n opened other is_a is_b).0 in
    let same = (one_body mode bytes a b m n opened other body more expectations expected is_a is_b parts parts_o).1 in
    let left : TakesLines mode b 0 body.lines lines rest = subst (λ (all : List (ℕ × List ℕ)). TakesLines mode b 0 all lines rest) (sym same) takes in
    subst (λ (all : List (List ℕ)). TakesLines mode all 0 body.lines lines rest) (sym names) left

same_fault : (mode : Mode) (bytes : List ℕ) (a b : List (List ℕ)) (m n : ℕ) (body other : Left) (fault : ScriptFault) → Opens mode bytes a m body
    → Opens mode bytes b n other → IsLinesFault mode b 0 other.lines fault
    → IsLinesFault mode a 0 body.lines fault
same_fault mode bytes a b m n body other fault is_a is_b takes =
    let same = one_opening mode bytes a b m n body other is_a is_b in
    let left : IsLinesFault mode b 0 body.lines fault = subst (λ (all : Left). IsLinesFault mode b 0 all.lines fault) (sym same.2) takes in
    subst (λ (names : List (List ℕ)). IsLinesFault mode names 0 body.lines fault) (sym same.0) left

-- a script of these parts
parts_of : List (List ℕ) → ℕ → List Line → List ℕ → List ScriptExpectation → List OrderOf → ScriptParts
parts_of names max lines numbers expectations orders =
    record { names = names; max = max; lines = lines; numbers = numbers; expectations = expectations; orders = orders }

same_parts : (a b : List (List ℕ)) (m n : ℕ) (lines others : List Line) (numbers counts : List ℕ) (expectations expected : List ScriptExpectation) (orders more : List OrderOf)
    → a ≡ b → m ≡ n → lines ≡ others → numbers ≡ counts → expectations ≡ expected → orders ≡ more
    → parts_of a m lines numbers expectations orders ≡ parts_of b n others counts expected more
same_parts a b m n lines others numbers counts expectations expected orders more names max line number expectation order =
    ap (λ (all : List (List ℕ)). parts_of all m lines numbers expectations orders) names ∙ ap (λ (one : ℕ). parts_of b one lines numbers expectations orders) max
    ∙ ap (λ (all : List Line). parts_of b n all numbers expectations orders) line ∙ ap (λ (all : List ℕ). parts_of b n others all expectations orders) number
    ∙ ap (λ (all : List ScriptExpectation). parts_of b n others counts all orders) expectation ∙ ap (λ (all : List OrderOf). parts_of b n others counts expected all) order

pub one_script : (mode : Mode) (bytes : List ℕ) (a b : ScriptParts) → IsScript mode bytes a → IsScript mode bytes b → a ≡ b
unfolding parts_of
one_script mode bytes a b is_a is_b =
    let opening = one_opening mode bytes a.names b.names a.max b.max is_a.opened is_b.opened is_a.opens is_b.opens in
    let body = one_body mode bytes a.names b.names a.max b.max is_a.opened is_b.opened is_a.body is_b.body a.expectations b.expectations is_a.opens is_b.opens is_a.parts is_b.parts in
    let lines = one_lines mode a.names 0 is_a.body.lines a.lines b.lines is_a.behind_go is_b.behind_go is_a.lines
    (same_body mode bytes a.names b.names a.max b.max is_a.opened is_b.opened is_a.body is_b.body a.expectations b.expectations b.lines is_b.behind_go
    is_a.opens is_b.opens is_a.parts is_b.parts is_b.lines) in
    let orders = one_orders is_a.behind_go a.orders b.orders is_a.orders (subst (λ (left : List (ℕ × List ℕ)). AreOrders left b.orders) (sym lines.1) is_b.orders) in
    let counts = is_a.numbers ∙ ap (λ (all : List Line). first_numbers (length all) is_a.body.lines) lines.0
    ∙ ap (λ (left : List (ℕ × List ℕ)). first_numbers (length b.lines) left) body.1 ∙ sym is_b.numbers in
    same_parts a.names b.names a.max b.max a.lines b.lines a.numbers b.numbers a.expectations b.expectations a.orders b.orders opening.0 opening.1 lines.0 counts body.0 orders

-- an opened script has no fault in its opening
opens_or_catalogue : (mode : Mode) (bytes : List ℕ) (names : List (List ℕ)) (max : ℕ) (body : Left) (fault : ScriptFault)
    → Opens mode bytes names max body → IsCatalogueFault (left_from mode 1 bytes) fault → ⊥
opens_or_catalogue mode bytes names max body fault is wrong = catalogue_or_fault (left_from mode 1 bytes) (left_from mode 1 bytes) is.behind_catalogue names fault refl is.catalogue wrong

opens_or_max : (mode : Mode) (bytes : List ℕ) (names others : List (List ℕ)) (max : ℕ) (body rest : Left) (fault : ScriptFault)
    → Opens mode bytes names max body → TakesCatalogue (left_from mode 1 bytes) others rest → mode ≢ Run → IsMaxFault rest fault → ⊥
opens_or_max mode bytes names others max body rest fault is takes needed wrong =
    let same = one_catalogue (left_from mode 1 bytes) others names rest is.behind_catalogue takes is.catalogue in
    max_or_fault mode rest is.behind_catalogue body max fault same.1 is.most needed wrong

pub script_or_fault : (mode : Mode) (bytes : List ℕ) (a : ScriptParts) (fault : ScriptFault) → IsScript mode bytes a → ¬ IsScriptFault mode bytes fault
script_or_fault mode bytes a fault is (Long long) = let short : length bytes ≤ 65536 = is.opens.is_text.short in omega arith
script_or_fault mode bytes a fault is (NoText short not) = not is.opens.is_text.text
script_or_fault mode bytes a fault is (InCatalogue f text wrong) = opens_or_catalogue mode bytes a.names a.max is.opened f is.opens wrong
script_or_fault mode bytes a fault is (InMax names rest f text takes needed wrong) = opens_or_max mode bytes a.names names a.max is.opened rest f is.opens takes needed wrong
script_or_fault mode bytes a fault is (InLines names max opened f opens wrong) =
    lines_or_fault mode a.names 0 0 is.opened.lines is.body.lines a.expectations a.lines is.behind_go f is.parts.lines is.lines
    (same_fault mode bytes a.names names a.max max is.opened opened f is.opens opens wrong)
script_or_fault mode bytes a fault is (InOrders names max opened body expectations lines rest f opens parts takes wrong) =
    let same = one_lines mode a.names 0 is.body.lines a.lines lines is.behind_go rest is.lines
    (same_body mode bytes a.names names a.max max is.opened opened is.body body a.expectations expectations lines rest is.opens opens is.parts parts takes) in
    orders_or_fault rest a.orders f (subst (λ (left : List (ℕ × List ℕ)). AreOrders left a.orders) same.1 is.orders) wrong

-- a text is short, and is text
long_or_text : (bytes : List ℕ) → 65536 < length bytes → IsText bytes → ⊥
long_or_text bytes long text = let short : length bytes ≤ 65536 = text.short in omega arith

pub one_fault : (mode : Mode) (bytes : List ℕ) (f g : ScriptFault) → IsScriptFault mode bytes f → IsScriptFault mode bytes g → f ≡ g
one_fault mode bytes f g (Long long) (Long other) = refl
one_fault mode bytes f g (Long long) (NoText short not) = absurd (omega arith)
one_fault mode bytes f g (Long long) (InCatalogue k text wrong) = absurd (long_or_text bytes long text)
one_fault mode bytes f g (Long long) (InMax names rest k text takes needed wrong) = absurd (long_or_text bytes long text)
one_fault mode bytes f g (Long long) (InLines names max body k opens wrong) = absurd (long_or_text bytes long opens.is_text)
one_fault mode bytes f g (Long long) (InOrders names max opened body expectations lines rest k opens parts takes wrong) = absurd (long_or_text bytes long opens.is_text)
one_fault mode bytes f g (NoText short not) (Long long) = absurd (omega arith)
one_fault mode bytes f g (NoText short not) (NoText other none) = refl
one_fault mode bytes f g (NoText short not) (InCatalogue k text wrong) = absurd (not text.text)
one_fault mode bytes f g (NoText short not) (InMax names rest k text takes needed wrong) = absurd (not text.text)
one_fault mode bytes f g (NoText short not) (InLines names max body k opens wrong) = absurd (not opens.is_text.text)
one_fault mode bytes f g (NoText short not) (InOrders names max opened body expectations lines rest k opens parts takes wrong) = absurd (not opens.is_text.text)
one_fault mode bytes f g (InCatalogue h text wrong) (Long long) = absurd (long_or_text bytes long text)
one_fault mode bytes f g (InCatalogue h text wrong) (NoText short not) = absurd (not text.text)
one_fault mode bytes f g (InCatalogue h text wrong) (InCatalogue k other bad) = one_catalogue_fault (left_from mode 1 bytes) (left_from mode 1 bytes) h k refl wrong bad
one_fault mode bytes f g (InCatalogue h text wrong) (InMax names rest k other takes needed bad) = absurd (catalogue_or_fault (left_from mode 1 bytes) (left_from mode 1 bytes) rest names h refl takes wrong)
one_fault mode bytes f g (InCatalogue h text wrong) (InLines names max body k opens bad) = absurd (opens_or_catalogue mode bytes names max body h opens wrong)
one_fault mode bytes f g (InCatalogue h text wrong) (InOrders names max opened body expectations lines rest k opens parts takes bad) = absurd (opens_or_catalogue mode bytes names max opened h opens wrong)
one_fault mode bytes f g (InMax names rest h text takes needed wrong) (Long long) = absurd (long_or_text bytes long text)
one_fault mode bytes f g (InMax names rest h text takes needed wrong) (NoText short not) = absurd (not text.text)
one_fault mode bytes f g (InMax names rest h text takes needed wrong) (InCatalogue k other bad) = absurd (catalogue_or_fault (left_from mode 1 bytes) (left_from mode 1 bytes) rest names k refl takes bad)
one_fault mode bytes f g (InMax names rest h text takes needed wrong) (InMax others more k other takes_o needed_o bad) =
    one_max_fault rest more h k (one_catalogue (left_from mode 1 bytes) names others rest more takes takes_o).1 wrong bad
one_fault mode bytes f g (InMax names rest h text takes needed wrong) (InLines others max body k opens bad) = absurd (opens_or_max mode bytes others names max body rest h opens takes needed wrong)
one_fault mode bytes f g (InMax names rest h text takes needed wrong) (InOrders others max opened body expectations lines behind k opens parts found bad) =
    absurd (opens_or_max mode bytes others names max opened rest h opens takes needed wrong)
one_fault mode bytes f g (InLines names max body h opens wrong) (Long long) = absurd (long_or_text bytes long opens.is_text)
one_fault mode bytes f g (InLines names max body h opens wrong) (NoText short not) = absurd (not opens.is_text.text)
one_fault mode bytes f g (InLines names max body h opens wrong) (InCatalogue k text bad) = absurd (opens_or_catalogue mode bytes names max body k opens bad)
one_fault mode bytes f g (InLines names max body h opens wrong) (InMax others rest k text takes needed bad) = absurd (opens_or_max mode bytes names others max body rest k opens takes needed bad)
one_fault mode bytes f g (InLines names max body h opens wrong) (InLines others most left k opens_o bad) =
    one_lines_fault mode names 0 body.lines h k wrong (same_fault mode bytes names others max most body left k opens opens_o bad)
one_fault mode bytes f g (InLines names max body h opens wrong) (InOrders others most left body_o expectations lines rest k opens_o parts takes bad) =
    absurd (lines_or_fault mode others 0 0 left.lines body_o.lines expectations lines rest h parts.lines takes (same_fault mode bytes others names most max left body h opens_o opens wrong))
one_fault mode bytes f g (InOrders names max opened body expectations lines rest h opens parts takes wrong) (Long long) = absurd (long_or_text bytes long opens.is_text)
one_fault mode bytes f g (InOrders names max opened body expectations lines rest h opens parts takes wrong) (NoText short not) = absurd (not opens.is_text.text)
one_fault mode bytes f g (InOrders names max opened body expectations lines rest h opens parts takes wrong) (InCatalogue k text bad) = absurd (opens_or_catalogue mode bytes names max opened k opens bad)
one_fault mode bytes f g (InOrders names max opened body expectations lines rest h opens parts takes wrong) (InMax others behind k text found needed bad) =
    absurd (opens_or_max mode bytes names others max opened behind k opens found needed bad)
one_fault mode bytes f g (InOrders names max opened body expectations lines rest h opens parts takes wrong) (InLines others most left k opens_o bad) =
    absurd (lines_or_fault mode names 0 0 opened.lines body.lines expectations lines rest k parts.lines takes (same_fault mode bytes names others max most opened left k opens opens_o bad))
one_fault mode bytes f g (InOrders names max opened body expectations lines rest h opens parts takes wrong) (InOrders others most left body_o expected found behind k opens_o parts_o takes_o bad) =
    let same = one_lines mode names 0 body.lines lines found rest behind takes
    (same_body mode bytes names others max most opened left body body_o expectations expected found behind opens opens_o parts parts_o takes_o) in
    one_orders_fault rest h k wrong (subst (λ (left : List (ℕ × List ℕ)). IsOrdersFault left k) (sym same.1) bad)
