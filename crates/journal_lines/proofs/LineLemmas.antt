-- The lines that were printed, one entry more at a time.
use Rattle.std.proofs.Common.{◌≡◌, ℕ, suc, ◌+◌, ◌<◌, ◌≤◌, Option, List, [], ◌∷◌, ◌++◌, length, drop, get_or, refl, sym, ap, subst, ◌∙◌, arith, add-one, append_assoc, append-nil}
use Rattle.std.proofs.KnownBytes.{Appends-nil, Appends-trans}
use Rattle.std.proofs.lemmas.List.{drop_all}
use Rattle.std.proofs.Math.Seq.{drop-cons}
use Rattle.std.specs.Io.KnownBytes.{Appends}
use Rattle.control.specs.Line.{ended}
use Rattle.entry_record.specs.declared.stored.Stored.{Stored}
use Rattle.record_log.specs.Log.{StandsFor}
use Rattle.journal_store.specs.Preface.{Front, new_of}
use Rattle.journal_lines.specs.Journal.{number_at}
use Rattle.journal_lines.specs.Lines.{AreLines, IsLine, IsPrinted}

-- the entries before a place were printed: with the lines of the others behind, it is all that there is to print
pub record ArePrintedTo (front : Front) (stored : List Stored) (place : ℕ) (old new : Option (List ℕ)) : Type 0 where
  pub text : List ℕ
  pub appended : Appends old new text
  pub whole : (rest : List ℕ) → AreLines front place (drop place stored) rest → AreLines front 0 stored (text ++ rest)

pub none_printed : (front : Front) (stored : List Stored) (old : Option (List ℕ)) → ArePrintedTo front stored 0 old old
none_printed front stored old = record {
  text = [];
  appended = Appends-nil old;
  whole = λ rest lines. lines;
}

-- one more was printed
pub one_printed : (front : Front) (stored : List Stored) (place : ℕ) (old mid new : Option (List ℕ)) (one : Stored) (line : List ℕ)
    → place < length stored → one ≡ get_or stored place one → ArePrintedTo front stored place old mid → IsLine front.names (number_at front place) one line
    → Appends mid new (ended line) → ArePrintedTo front stored (place + 1) old new
one_printed front stored place old mid new one line less is known is_line appended = record {
  text = known.text ++ ended line;
  appended = Appends-trans old mid new known.text (ended line) known.appended appended;
  whole = λ rest lines.
      let split : drop place stored ≡ one ∷ drop (place + 1) stored = rw add-one (drop-cons stored place one less ∙ ap (λ (o : Stored). o ∷ drop (suc place) stored) (sym is)) in
      subst (AreLines front 0 stored) (sym (append_assoc known.text (ended line) rest))
      (known.whole (ended line ++ rest) (subst (λ (l : List Stored). AreLines front place l (ended line ++ rest)) (sym split) (line, rest, is_line, lines, refl)));
}

-- all were printed
pub all_printed : (front : Front) (stored : List Stored) (place : ℕ) (old new : Option (List ℕ)) → length stored ≤ place → ArePrintedTo front stored place old new
    → (text : List ℕ) × AreLines front 0 stored text × Appends old new text
all_printed front stored place old new past known = (
  known.text,
  subst (AreLines front 0 stored) (append-nil known.text) (known.whole [] (subst (λ (l : List Stored). AreLines front place l []) (sym (drop_all place stored past)) refl)),
  known.appended,
)

-- of a file that has no entry nothing is printed
pub nothing_printed : (file : List ℕ) → StandsFor file [] → IsPrinted file []
nothing_printed file stands = record {
  front = new_of [];
  stored = [];
  journal = record {
    records = [];
    stands = stands;
    found = refl;
    condensed = omega arith;
    few = omega arith;
    named = λ k d less. absurd (omega (arith, less));
  };
  lines = refl;
}
