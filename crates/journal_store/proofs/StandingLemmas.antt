-- A file that is written anew goes on standing for the journal.
use Rattle.std.proofs.Common.{◌≡◌, ◌≤◌, List, [], ◌∷◌, ◌++◌, length, take, drop, refl, sym, ◌∙◌, ap, subst, arith, append_assoc, length-append}
use Rattle.std.proofs.lemmas.List.{reverse-append, take-append-drop, length-take}
use Rattle.desk_core.specs.declared.entry.Entry.{Entry}
use Rattle.desk_core.specs.Legal.{IsLegal}
use Rattle.desk_core.specs.Past.{past}
use Rattle.journal_store.specs.Alike.{AreAlike}
use Rattle.journal_store.proofs.AlikeLemmas.{alike_itself, alike_joined, alike_later}
use Rattle.journal_store.specs.Preface.{Front}
use Rattle.journal_store.specs.Standing.{StandFor, IsNext}

-- before it is written anew
pub begins : (start : Front) (entries : List Entry) → start.condensed ≤ length entries → StandFor start start entries entries
begins start entries enough = record {
  names = refl;
  older = take start.condensed entries;
  short = take start.condensed entries;
  newer = drop start.condensed entries;
  whole = sym (take-append-drop start.condensed entries);
  file = sym (take-append-drop start.condensed entries);
  alike = alike_itself (past (take start.condensed entries));
  legal = λ is. is;
  condensed = omega (arith, enough, length-take start.condensed entries);
  base = refl;
}

-- with more entries behind
pub grows : (start front : Front) (entries journal more : List Entry) → StandFor start front entries journal → StandFor start front (entries ++ more) (journal ++ more)
grows start front entries journal more known = record {
  names = known.names;
  older = known.older;
  short = known.short;
  newer = known.newer ++ more;
  whole = ap (λ (l : List Entry). l ++ more) known.whole ∙ append_assoc known.older known.newer more;
  file = ap (λ (l : List Entry). l ++ more) known.file ∙ append_assoc known.short known.newer more;
  alike = known.alike;
  legal = known.legal;
  condensed = known.condensed;
  base = known.base;
}

-- the older part of a legal history is legal
pub older_legal : (newer older : List Entry) → IsLegal (newer ++ older) → IsLegal older
older_legal [] older legal = legal
older_legal (entry ∷ newer) older legal = older_legal newer older legal.0

-- the past of two parts
pub past_of : (first second whole : List Entry) → whole ≡ first ++ second → past whole ≡ past second ++ past first
past_of first second whole is = ap past is ∙ reverse-append first second

-- what stands behind short entries stands behind the older ones
behind : (short older more : List Entry) → AreAlike (past short) (past older) → (IsLegal (past short) → IsLegal (past older)) → IsLegal (past (short ++ more))
    → IsLegal (past (older ++ more)) × AreAlike (past (short ++ more)) (past (older ++ more))
behind short older more alike legal is =
    let split : IsLegal (past more ++ past short) = subst IsLegal (past_of short more (short ++ more) refl) is in
    let both = alike_later (past more) (past short) (past older) alike split (legal (older_legal (past more) (past short) split)) in (
      subst IsLegal (sym (past_of older more (older ++ more) refl)) both.0,
      subst (λ (l : List Entry). AreAlike l (past (older ++ more))) (sym (past_of short more (short ++ more) refl))
          (subst (λ (l : List Entry). AreAlike (past more ++ past short) l) (sym (past_of older more (older ++ more) refl)) both.1),
    )

-- a list that ends in two ways
record Longer (a b c d : List Entry) : Type 0 where
  pub more : List Entry
  pub first : a ≡ c ++ more
  pub second : d ≡ more ++ b

head_is : (x y : Entry) (l m : List Entry) → x ∷ l ≡ y ∷ m → x ≡ y
head_is x y l m is = cc

tail_is : (x y : Entry) (l m : List Entry) → x ∷ l ≡ y ∷ m → l ≡ m
tail_is x y l m is = cc

longer : (a b c d : List Entry) → a ++ b ≡ c ++ d → length c ≤ length a → Longer a b c d
longer a b [] d is less = record { more = a; first = refl; second = sym is }
longer [] b (y ∷ c) d is less = absurd (omega (arith, less))
longer (x ∷ a) b (y ∷ c) d is less =
    let rest = longer a b c d (tail_is x y (a ++ b) (c ++ d) is) (omega (arith, less)) in
    let first : x ∷ a ≡ y ∷ (c ++ rest.more) = ap (λ (e : Entry). e ∷ a) (head_is x y (a ++ b) (c ++ d) is) ∙ ap (λ (l : List Entry). y ∷ l) rest.first in
    record { more = rest.more; first = first; second = rest.second }

-- short entries in place of those that were taken into a digest
pub rewritten : (start front next : Front) (taken rest short journal : List Entry) → StandFor start front (taken ++ rest) journal → front.condensed ≤ length taken
    → IsLegal (past taken) → AreAlike (past short) (past taken) → IsNext front next taken short → StandFor start next (short ++ rest) journal
rewritten start front next taken rest short journal known enough legal alike is =
    let parts = longer taken rest known.short known.newer known.file (omega (arith, enough, known.condensed)) in
    let both = behind known.short known.older parts.more known.alike known.legal (subst (λ (l : List Entry). IsLegal (past l)) parts.first legal) in
    record {
      names = is.names ∙ known.names;
      older = known.older ++ parts.more;
      short = short;
      newer = rest;
      whole = known.whole ∙ ap (λ (l : List Entry). known.older ++ l) parts.second ∙ sym (append_assoc known.older parts.more rest);
      file = refl;
      alike = alike_joined (past short) (past taken) (past (known.older ++ parts.more)) alike
          (subst (λ (l : List Entry). AreAlike (past l) (past (known.older ++ parts.more))) (sym parts.first) both.1);
      legal = λ _. both.0;
      condensed = is.condensed;
      base = omega (arith, is.base, known.base, ap length parts.first, length-append known.short parts.more, length-append known.older parts.more);
    }

-- entries that are legal and stand for a journal: it is legal, and no later change can tell them apart
pub as_one : (start front : Front) (entries journal : List Entry) → StandFor start front entries journal → IsLegal (past entries) → IsLegal (past journal) × AreAlike (past entries) (past journal)
as_one start front entries journal known legal =
    let both = behind known.short known.older known.newer known.alike known.legal (subst (λ (l : List Entry). IsLegal (past l)) known.file legal) in (
      subst (λ (l : List Entry). IsLegal (past l)) (sym known.whole) both.0,
      subst (λ (l : List Entry). AreAlike (past l) (past journal)) (sym known.file)
          (subst (λ (l : List Entry). AreAlike (past (known.short ++ known.newer)) (past l)) (sym known.whole) both.1),
    )
