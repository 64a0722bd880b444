-- Requests as they come in.
use Rattle.std.proofs.Common.{◌≡◌, ◌≤◌, ◌<◌, ◌-◌, ◌⊎◌, ◌++◌, ◌∷◌, [], ℕ, List, length, take, true, inl, inr, arith, ap, sym, subst, ◌∙◌, append_assoc, append-nil, length-append, take_all}
use Rattle.std.proofs.lemmas.Grind.{common_steps}
use Rattle.std.proofs.lemmas.List.{length-take, take-append-le, take-take}
use Rattle.web_call.specs.declared.intake.Intake.{Intake}
use Rattle.web_call.specs.declared.intake.Reading.TheVariants.{Head, Body}
use Rattle.web_call.specs.Head.{IsHeaded}
use Rattle.web_call.specs.HeadAnswer.{HeadAnswer}
use Rattle.web_call.specs.InputHead.{IsHead, IsOpenHead, ends_blank, max_head_len}
use Rattle.web_call.specs.Intake.{AreRead, HasHead, HasRead, body_len}

-- a head that is whole with its last byte
pub head_of_open : (bytes : List ℕ) → 0 < length bytes → length bytes ≤ max_head_len → (ends_blank bytes ≡ true) ⊎ (max_head_len ≤ length bytes)
    → IsOpenHead (take (length bytes - 1) bytes) → IsHead bytes
head_of_open bytes some within ends open_head = record {
  ends = elim ends [ inl blank ↦ inl blank | inr long ↦ inr (omega (arith, long, within)) ];
  first = λ k below. grind (arith, common_steps, open_head.ends_nowhere k, take-take k (length bytes - 1) bytes, length-take (length bytes - 1) bytes);
  within = within;
}

-- a head that asks for no body
pub without_body : (head body : List ℕ) (answer : HeadAnswer) → IsHead head → IsHeaded head answer → body_len answer ≡ 0 → body ≡ []
    → HasHead head (length body) 0
without_body head body answer is_head is_headed asks none =
    record { answer = answer; is_head = is_head; is_headed = is_headed; len = omega (arith, asks, ap length none) }

-- one byte more of a head
pub front_of : (head : List ℕ) (byte : ℕ) → take (length (head ++ byte ∷ []) - 1) (head ++ byte ∷ []) ≡ head
front_of head byte =
    let short : length (head ++ byte ∷ []) - 1 ≡ length head = omega (arith, length-append head (byte ∷ [])) in
    ap (λ n. take n (head ++ byte ∷ [])) short ∙ take-append-le (length head) head (byte ∷ []) (omega arith) ∙ take_all (length head) head (omega arith)

pub head_grows : (old new : Intake) (received : List ℕ) (byte : ℕ) → old.reading ≡ Head → new.head.items ≡ old.head.items ++ byte ∷ []
    → (IsOpenHead (take (length new.head.items - 1) new.head.items) → old.body.items ≡ [] → AreRead new.reading new.head.items new.body.items)
    → (old.body.items ≡ [] → new.body.items ≡ []) → HasRead old received → HasRead new (received ++ byte ∷ [])
head_grows old new received byte reads grows after empty had =
    let was = subst (λ reading. AreRead reading old.head.items old.body.items) reads had.read in
    let begun = ap (λ bytes. take (length bytes - 1) bytes) grows ∙ front_of old.head.items byte in record {
      is = ap (λ bytes. bytes ++ byte ∷ []) (had.is ∙ ap (λ body. old.head.items ++ body) was.1 ∙ append-nil old.head.items)
          ∙ sym grows ∙ sym (append-nil new.head.items) ∙ ap (λ body. new.head.items ++ body) (sym (empty was.1));
      read = after (subst IsOpenHead (sym begun) was.0) was.1;
    }

-- more bytes of a body
pub body_grows : (old new : Intake) (received bytes : List ℕ) (left count : ℕ) → old.reading ≡ Body left → new.head.items ≡ old.head.items
    → new.body.items ≡ old.body.items ++ bytes → length bytes ≡ count → count ≤ left
    → (HasHead new.head.items (length new.body.items) (left - count) → AreRead new.reading new.head.items new.body.items)
    → HasRead old received → HasRead new (received ++ bytes)
body_grows old new received bytes left count reads same grows as_many fits after had =
    let was = subst (λ reading. AreRead reading old.head.items old.body.items) reads had.read in record {
      is = ap (λ all. all ++ bytes) had.is ∙ append_assoc old.head.items old.body.items bytes ∙ ap (λ body. old.head.items ++ body) (sym grows)
          ∙ ap (λ head. head ++ new.body.items) (sym same);
      read = after (rw same (record {
        answer = was.0.answer;
        is_head = was.0.is_head;
        is_headed = was.0.is_headed;
        len = omega (arith, was.0.len, ap length grows, length-append old.body.items bytes, as_many, fits);
      }));
    }
