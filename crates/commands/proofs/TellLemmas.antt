-- What the command `tell` comes to, line by line.
use Rattle.std.proofs.Common.{◌≡◌, ◌⊎◌, ◌↔◌, ℕ, max, inl, inr, Option, List, [], ◌∷◌, ◌++◌, refl, sym, ap, subst, ◌∙◌, append_assoc, append-nil, arith, ⊎_elim}
use Rattle.std.proofs.KnownBytes.{Appends-trans, Consumes-trans}
use Rattle.std.specs.Io.KnownBytes.{Appends, Consumes, Keeps}
use Rattle.std.specs.Prelude.{IfOk, OnOk, Result, Ok, Err, Some, None}
use Rattle.control.specs.Answer.{IsRefused}
use Rattle.control.specs.Line.{ended}
use Rattle.control.specs.Tell.{IsAnswered, IsAnswerFault}
use Rattle.control.specs.declared.answer_fault.AnswerFault.TheVariants.{Write}
use Rattle.commands.specs.Tell.{HasRefused, HasTold, lines_text}

lines_then : (first later : List (List ℕ)) → lines_text (first ++ later) ≡ lines_text first ++ lines_text later
lines_then [] later = refl
lines_then (line ∷ first) later = ap (λ l. ended line ++ l) (lines_then first later) ∙ sym (append_assoc (ended line) (lines_text first) (lines_text later))

refused_then : (first later : List (List ℕ)) → HasRefused (first ++ later) → HasRefused first ⊎ HasRefused later
refused_then [] later is = inr is
refused_then (answer ∷ first) later is = ⊎_elim (λ one. inl (inl one)) (λ rest. ⊎_elim (λ a. inl (inr a)) (λ b. inr b) (refused_then first later rest)) is

refused_first : (first later : List (List ℕ)) → HasRefused first → HasRefused (first ++ later)
refused_first [] later is = absurd is
refused_first (answer ∷ first) later is = ⊎_elim (λ one. inl one) (λ rest. inr (refused_first first later rest)) is

refused_later : (first later : List (List ℕ)) → HasRefused later → HasRefused (first ++ later)
refused_later [] later is = is
refused_later (answer ∷ first) later is = inr (refused_later first later is)

-- no line was answered
pub told_none : (read printed : Option (List ℕ)) → Consumes read read [] → Appends printed printed [] → HasTold read read printed printed 0
told_none read printed consumed appended = record {
  answers = [];
  has_read = consumed;
  has_printed = appended;
  refused = ((λ is. absurd (omega (arith, is))), (λ none. absurd none));
  one_of_two = inl refl;
}

-- one line was answered
pub told_one : (read read_now printed printed_now : Option (List ℕ)) (answer : List ℕ) (status : ℕ) → Consumes read read_now (ended answer) → Appends printed printed_now (ended answer)
    → (status ≡ 3) ↔ IsRefused answer → (status ≡ 0) ⊎ (status ≡ 3) → HasTold read read_now printed printed_now status
told_one read read_now printed printed_now answer status consumed appended refused one_of_two = record {
  answers = answer ∷ [];
  has_read = subst (Consumes read read_now) (sym (append-nil (ended answer))) consumed;
  has_printed = subst (Appends printed printed_now) (sym (append-nil (ended answer))) appended;
  refused = ((λ is. inl (refused.0 is)), (λ is. ⊎_elim refused.1 (λ none. absurd none) is));
  one_of_two = one_of_two;
}

-- an answer was printed, if that did not fail
pub told_by_print : {E : Type 0} (result : Result ℕ E) (read read_now printed printed_now : Option (List ℕ)) (answer : List ℕ) → Consumes read read_now (ended answer)
    → IfOk result (λ status. (status ≡ 3) ↔ IsRefused answer) → IfOk result (λ status. (status ≡ 0) ⊎ (status ≡ 3)) → OnOk result (Appends printed printed_now (ended answer))
    → IfOk result (HasTold read read_now printed printed_now)
told_by_print (Ok status) read read_now printed printed_now answer consumed refused one_of_two appended =
    told_one read read_now printed printed_now answer status consumed appended refused one_of_two
told_by_print (Err fault) read read_now printed printed_now answer consumed refused one_of_two appended = tt

-- what was read as the answer to a line
pub answer_read : (line answer : List ℕ) (read read_now : Option (List ℕ)) → IsAnswered line read read_now (Some answer) → Consumes read read_now (ended answer)
answer_read line answer read read_now answered = answered.1.consumed

kept_first : (a b c : Option (List ℕ)) (bs : List ℕ) → Keeps a b → Consumes b c bs → Consumes a c bs
kept_first None b c bs kept consumed = tt
kept_first (Some x) None c bs kept consumed = absurd kept
kept_first (Some x) (Some y) None bs kept consumed = absurd consumed
kept_first (Some x) (Some y) (Some z) bs kept consumed = sym kept ∙ consumed

-- the answer that was read where a write had failed
pub last_read : (line answer : List ℕ) (written written_now read between read_now : Option (List ℕ)) (error : _) → IsAnswerFault line written written_now read between (Write error)
    → Consumes between read_now (ended answer) → Consumes read read_now (ended answer)
last_read line answer written written_now read between read_now error fault consumed = kept_first read between read_now (ended answer) fault.1 consumed

greater : (a b : ℕ) → (a ≡ 0) ⊎ (a ≡ 3) → (b ≡ 0) ⊎ (b ≡ 3) → ((max a b ≡ 0) ⊎ (max a b ≡ 3)) × (max a b ≡ 3 → (a ≡ 3) ⊎ (b ≡ 3)) × (a ≡ 3 → max a b ≡ 3) × (b ≡ 3 → max a b ≡ 3)
greater a b p q = search (arith, p, q)

-- some lines were answered, and then others
pub told_then : (a b c x y z : Option (List ℕ)) (status later : ℕ) → HasTold a b x y status → HasTold b c y z later → HasTold a c x z (max status later)
told_then a b c x y z status later p q =
    let both = lines_then p.answers q.answers in
    let greatest = greater status later p.one_of_two q.one_of_two in
    record {
      answers = p.answers ++ q.answers;
      has_read = subst (Consumes a c) (sym both) (Consumes-trans a b c _ _ p.has_read q.has_read);
      has_printed = subst (Appends x z) (sym both) (Appends-trans x y z _ _ p.has_printed q.has_printed);
      refused = (
        (λ is. ⊎_elim (λ one. refused_first p.answers q.answers (p.refused.0 one)) (λ one. refused_later p.answers q.answers (q.refused.0 one)) (greatest.1 is)),
        (λ is. ⊎_elim (λ one. greatest.2 (p.refused.1 one)) (λ one. greatest.3 (q.refused.1 one)) (refused_then p.answers q.answers is)),
      );
      one_of_two = greatest.0;
    }
