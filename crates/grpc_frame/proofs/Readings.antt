-- Written trailers are read as their status.
use Rattle.std.proofs.Common.{ℕ, ◌≡◌, true, List, [], ◌∷◌, ◌++◌, codes, refl, sym, ap, ◌∙◌, arith, Ok, decimal, ◌+◌, ◌/◌, ◌%◌, ◌<◌, ◌≤◌}
use Rattle.std.proofs.lemmas.Fmt.{decimal_digit, decimal_step}
use Rattle.std.proofs.lemmas.List.{append-nil}
use Rattle.std.specs.List.{list_all}
use Rattle.grpc_frame.specs.declared.code.Code.{Code}
use Rattle.grpc_frame.specs.declared.code.Code.TheVariants.{Ok as ok, NotFound, ResourceExhausted, Unimplemented, Internal, Unavailable}
use Rattle.grpc_frame.specs.Code.{code_number}
use Rattle.grpc_frame.specs.Lines.{lines, trim, HasNoEnd}
use Rattle.grpc_frame.specs.Trailers.{header_line, block, is_unencoded, IsStatusText, written_text, trailers_in}
use Rattle.grpc_frame.proofs.Cuts.{no_end_before, no_end_empty, line_first}
use Rattle.grpc_frame.proofs.Digits.{both}

-- a byte that needs no encoding is no CR
pub not_cr : (c : ℕ) → is_unencoded c ≡ true → c ≡ 13 → ⊥
not_cr c is cr = let no : is_unencoded 13 ≡ true = rw cr at is in cc

-- no CR LF stands in a status text
pub no_end_text : (text : List ℕ) → list_all is_unencoded text ≡ true → HasNoEnd text
no_end_text [] each = no_end_empty
no_end_text (c ∷ text) each =
    let parts : (is_unencoded c ≡ true) × (list_all is_unencoded text ≡ true) = both (is_unencoded c) (list_all is_unencoded text) each in
    no_end_before c text (no_end_text text parts.1) (λ cr lf. not_cr c parts.0 cr)

-- the line of a text is one line
pub text_line : (text : List ℕ) → list_all is_unencoded text ≡ true → lines (header_line (codes "grpc-message:") text) ≡ (codes "grpc-message:" ++ text) ∷ []
text_line text each =
    ap lines (sym (append-nil (header_line (codes "grpc-message:") text))) ∙ line_first (codes "grpc-message:" ++ text) [] (no_end_text (codes "grpc-message:" ++ text) each)

-- a number of two digits
pub two_digits : (n : ℕ) → 10 ≤ n → n < 100 → decimal n ≡ (48 + n / 10) ∷ (48 + n % 10) ∷ []
two_digits n least most = rw (decimal_step n least (omega arith), decimal_digit (n / 10) (omega arith)) refl

-- what is told of a status and a text
pub read_back : (code : Code) (text : List ℕ) → IsStatusText text → trim text ≡ text → trailers_in (lines (block code text)) ≡ Ok (code_number code, written_text code text)
read_back ok text is ends = rw (decimal_digit 0 (omega arith)) refl
read_back NotFound text is ends = rw (decimal_digit 5 (omega arith), text_line text is.unencoded, ends) refl
read_back ResourceExhausted text is ends = rw (decimal_digit 8 (omega arith), text_line text is.unencoded, ends) refl
read_back Unimplemented text is ends = rw (two_digits 12 (omega arith) (omega arith), text_line text is.unencoded, ends) refl
read_back Internal text is ends = rw (two_digits 13 (omega arith) (omega arith), text_line text is.unencoded, ends) refl
read_back Unavailable text is ends = rw (two_digits 14 (omega arith) (omega arith), text_line text is.unencoded, ends) refl
