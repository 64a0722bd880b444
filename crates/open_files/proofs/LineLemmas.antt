-- A line, and the text that it stands in.
use Rattle.std.proofs.Common.{ℕ, ◌≡◌, ◌==◌, nat_eq, List, ◌++◌, length, take, drop, true, false, find, Option, Some, None, Bor, refl, ap, sym, ◌∙◌, ◌+◌, arith}
use Rattle.std.proofs.lemmas.Bool.Decides.{Decides-eqb}
use Rattle.std.proofs.lemmas.List.{append_cancel_left}
use Rattle.std.proofs.lemmas.Slice.Eq.{strip_prefix_is}
use Rattle.std.specs.Cmp.Lexicographic.{pointwise}
use Rattle.std.specs.List.{slice_split, starts_with}
use Rattle.std.specs.Option.{IfSome, IfNone, MatchOption}
use Rattle.open_files.specs.declared.limits.OpenFiles.{OpenFiles}
use Rattle.open_files.specs.declared.limits.OpenFiles.TheVariants.{AtMost, Unlimited}
use Rattle.open_files.specs.Limits.{IsFirstWord, IsLimit, IsOpenFilesIn, IsOpenFilesLine, name}
use Rattle.open_files.proofs.WordLemmas.{same_word}

-- what is left of a line behind its name
pub behind_name : (line : List ℕ) (r : Option (Bor (List ℕ))) (columns : Bor (List ℕ))
    → MatchOption r (pointwise nat_eq (take (length name) line) name ≡ false)
    (λ x. (pointwise nat_eq (take (length name) line) name ≡ true) × (x.now ≡ drop (length name) line) × (length x.now + length name ≡ length line))
    → r ≡ Some columns → line ≡ name ++ columns.now
behind_name line r columns cases is = rw is at (strip_prefix_is Decides-eqb line name r cases)

same_columns : (line columns : List ℕ) → line ≡ name ++ columns → (limit : OpenFiles) → (is : IsOpenFilesLine line limit) → is.columns ≡ columns
same_columns line columns parts limit is = append_cancel_left name is.columns columns (sym is.parts ∙ parts)

-- a line without a word has no limit
pub no_word : (line columns : List ℕ) → line ≡ name ++ columns → ((word : List ℕ) → ¬ IsFirstWord columns word)
    → (limit : OpenFiles) → ¬ IsOpenFilesLine line limit
no_word line columns parts none limit is = none is.word (rw (same_columns line columns parts limit is) at is.first)

-- its first word says its limit, if it says one
pub limit_by : (line columns word : List ℕ) → line ≡ name ++ columns → IsFirstWord columns word → (r : Option OpenFiles)
    → IfSome r (λ limit. IsLimit word limit) → IfSome r (λ limit. IsOpenFilesLine line limit)
limit_by line columns word parts first (Some limit) says = record { columns = columns; word = word; parts = parts; first = first; is = says }
limit_by line columns word parts first None says = says

pub no_limit_by : (line columns word : List ℕ) → line ≡ name ++ columns → IsFirstWord columns word → (r : Option OpenFiles)
    → IfNone r ((limit : OpenFiles) → ¬ IsLimit word limit) → IfNone r ((limit : OpenFiles) → ¬ IsOpenFilesLine line limit)
no_limit_by line columns word parts first (Some limit) says = says
no_limit_by line columns word parts first None says = λ limit is.
    let other : IsFirstWord columns is.word = rw (same_columns line columns parts limit is) at is.first in
    says limit (rw (same_word columns is.word word other first) at is.is)

-- a text has no limit if its line has none
pub no_limit_in : (text line : List ℕ) → Some line ≡ find (λ line. starts_with nat_eq line name) (slice_split (λ byte. byte == 10) text)
    → (r : Option OpenFiles) → IfNone r ((limit : OpenFiles) → ¬ IsOpenFilesLine line limit) → IfNone r ((limit : OpenFiles) → ¬ IsOpenFilesIn text limit)
no_limit_in text line first (Some limit) says = says
no_limit_in text line first None says = λ limit is.
    let same : is.line ≡ line = cc (first, is.first) in
    says limit (rw same at is.is)

-- a word says one limit
one_limit_of : (word : List ℕ) (a b : OpenFiles) → IsLimit word a → IsLimit word b → a ≡ b
one_limit_of word (AtMost a) (AtMost b) first second = ap AtMost (first.value_is ∙ sym second.value_is)
one_limit_of word (AtMost a) Unlimited first second = let digits = rw second at first.digits.1 in absurd (omega (arith, digits.0))
one_limit_of word Unlimited (AtMost b) first second = let digits = rw first at second.digits.1 in absurd (omega (arith, digits.0))
one_limit_of word Unlimited Unlimited first second = refl

one_limit_of_line : (line : List ℕ) (a b : OpenFiles) → IsOpenFilesLine line a → IsOpenFilesLine line b → a ≡ b
one_limit_of_line line a b first second =
    let other : IsFirstWord first.columns second.word = rw (same_columns line first.columns first.parts b second) at second.first in
    one_limit_of first.word a b first.is (rw (same_word first.columns second.word first.word other first.first) at second.is)

-- a text says one limit
pub one_limit_in : (text : List ℕ) (a b : OpenFiles) → IsOpenFilesIn text a → IsOpenFilesIn text b → a ≡ b
one_limit_in text a b first second =
    let same : second.line ≡ first.line = cc (first.first, second.first) in
    one_limit_of_line first.line a b first.is (rw same at second.is)
