-- What is said of records that stand behind a preface.
use Rattle.std.proofs.Common.{◌≡◌, ℕ, ◌+◌, ◌<◌, ◌≤◌, ◌==◌, false, true, true≢false, refl, List, [], ◌∷◌, ◌++◌, length, length-append, get_or, take, drop, Vec, sym, ◌∙◌, ap, subst, arith}
use Rattle.std.specs.Prelude.{All}
use Rattle.std.specs.declared.alloc.Global.{Global}
use Rattle.std.proofs.lemmas.Bool.{eqb-true}
use Rattle.std.proofs.lemmas.List.{drop_at, drop-drop, drop-map, length-drop, length-map, get_or-drop, get_or-map}
use Rattle.std.proofs.lemmas.List.Elements.{All-append, All-cons, All-drop, All-nil, All-take}
use Rattle.record_log.specs.Log.{texts}
use Rattle.entry_record.specs.Format.{bytes_of}
use Rattle.entry_record.specs.Range.{IsStored}
use Rattle.entry_record.specs.declared.stored.Stored.{Stored}
use Rattle.journal_store.specs.Preface.{Front, BeginsWith, preface_of, title_of}
use Rattle.journal_store.specs.Read.{AreFound, AreRead, HasTooFew, IsNoEntry}
use Rattle.journal_store.proofs.PrefaceLemmas.{short_texts, texts_short}

module _ (front : Front) (found : List (Vec ℕ Global)) (taken : ℕ) where
  -- what is behind a preface
  behind_is : (begins : BeginsWith front (texts found) taken) → texts (drop taken found) ≡ begins.behind
  behind_is begins = sym (drop-map (λ (e : Vec ℕ Global). e.items) taken found) ∙ ap (λ (l : List (List ℕ)). drop taken l) begins.whole
      ∙ drop_at (preface_of front) begins.behind taken (omega (arith, begins.count))

  pub found_read : (stored : List Stored) → BeginsWith front (texts found) taken → AreRead (texts (drop taken found)) stored → AreFound front (texts found) stored
  found_read stored begins read = of (texts found) begins.whole
    where
      of : (records : List (List ℕ)) → records ≡ preface_of front ++ begins.behind → AreFound front records stored
      of [] is = let no : [] ≡ preface_of front ++ begins.behind = is in absurd cc
      of (first ∷ records) is = (begins.behind, is, subst (λ (l : List (List ℕ)). AreRead l stored) (behind_is begins) read)

  pub found_short : BeginsWith front (texts found) taken → All (λ bytes. length bytes.items < 256) (drop taken found) → All (λ bytes. length bytes.items < 256) found
  found_short begins short = texts_short found (subst (All (λ name. length name < 256)) (sym begins.whole)
      (All-append (λ (name : List ℕ). length name < 256) (preface_of front) begins.behind
      (All-cons (λ (name : List ℕ). length name < 256) (title_of front.base front.condensed (length front.names)) front.names (omega arith) begins.is.short)
      (subst (All (λ name. length name < 256)) (behind_is begins) (short_texts (drop taken found) short))))

-- a record behind so many others
pub none_behind : (found : List (Vec ℕ Global)) (taken number : ℕ) → IsNoEntry (texts (drop taken found)) number → IsNoEntry (texts found) (taken + number)
none_behind found taken number none = of (texts found) (subst (λ (l : List (List ℕ)). IsNoEntry l number) (sym (drop-map (λ (e : Vec ℕ Global). e.items) taken found)) none)
  where
    of : (records : List (List ℕ)) → IsNoEntry (drop taken records) number → IsNoEntry records (taken + number)
    of records known = record {
      inside = omega (arith, known.inside, length-drop taken records);
      none = λ stored ranged is. known.none stored ranged (get_or-drop taken records number [] ∙ is);
    }

-- records in front of copies of those that stand behind so many
pub copied_short : (found batch new : List (Vec ℕ Global)) (taken n k : ℕ) → All (λ bytes. length bytes.items < 256) batch → All (λ bytes. length bytes.items < 256) (drop taken found)
    → texts new ≡ texts batch ++ texts (take k (drop (taken + n) found)) → All (λ bytes. length bytes.items < 256) new
copied_short found batch new taken n k first behind whole =
    let P : List ℕ → Type 0 = λ name. length name < 256 in
    let Q : Vec ℕ Global → Type 0 = λ bytes. length bytes.items < 256 in
    texts_short new (subst (All P) (sym whole) (All-append P (texts batch) (texts (take k (drop (taken + n) found))) (short_texts batch first)
    (short_texts (take k (drop (taken + n) found)) (All-take Q k (drop (taken + n) found) (subst (All Q) (drop-drop n taken found) (All-drop Q n (drop taken found) behind))))))

-- a preface that says that more of the entries stand for older ones than there are
pub too_few : (front : Front) (found : List (Vec ℕ Global)) (taken : ℕ) (stored : List Stored) → BeginsWith front (texts found) taken → AreRead (texts (drop taken found)) stored → length stored < front.condensed
    → HasTooFew (texts found)
too_few front found taken stored begins read missing =
    record { front = front; behind = begins.behind; stored = stored; whole = begins.whole; read = subst (λ (l : List (List ℕ)). AreRead l stored) (behind_is front found taken begins) read; missing = missing }

-- the record that is no entry's
pub no_entry_at : (found : List (Vec ℕ Global)) (i n : ℕ) (at : Vec ℕ Global) (bytes : List ℕ) → i < length found → at ≡ get_or found i at → bytes ≡ at.items → i ≡ n
    → ((stored : Stored) → IsStored stored → bytes ≡ bytes_of stored → ⊥) → IsNoEntry (texts found) n
no_entry_at found i n at bytes inside is whole same none = subst (IsNoEntry (texts found)) same (record {
  inside = omega (arith, inside, length-map found (λ (e : Vec ℕ Global). e.items));
  none = λ stored ranged says. none stored ranged (whole ∙ ap (λ (e : Vec ℕ Global). e.items) is ∙ sym (get_or-map (λ (e : Vec ℕ Global). e.items) found i at [] inside) ∙ says);
})

-- a preface takes no more records than were found
pub within_found : (front : Front) (found : List (Vec ℕ Global)) (taken : ℕ) → BeginsWith front (texts found) taken → taken ≤ length found
within_found front found taken begins =
    omega (arith, begins.count, ap length begins.whole, length-append (preface_of front) begins.behind, length-map found (λ (e : Vec ℕ Global). e.items))

-- there is nothing in a list
pub is_nothing : {X : Type 0} (found : List X) → true ≡ (length found == 0) → found ≡ []
is_nothing [] tells = refl
is_nothing (f ∷ found) tells = absurd (omega (arith, eqb-true (length (f ∷ found)) 0 (sym tells)))

module _ (found : List (Vec ℕ Global)) where
  pub is_something : false ≡ (length found == 0) → found ≡ [] → ⊥
  is_something tells none = true≢false (sym (tells ∙ ap (λ (f : List (Vec ℕ Global)). length f == 0) none))

  pub nothing_read : (front : Front) (stored : List Stored) → true ≡ (length found == 0) → stored ≡ [] → AreFound front (texts found) stored
  nothing_read front stored tells none = subst (λ (f : List (Vec ℕ Global)). AreFound front (texts f) stored) (sym (is_nothing found tells)) none

  pub nothing_short : true ≡ (length found == 0) → All (λ bytes. length bytes.items < 256) found
  nothing_short tells = subst (All (λ (bytes : Vec ℕ Global). length bytes.items < 256)) (sym (is_nothing found tells)) (All-nil (λ (bytes : Vec ℕ Global). length bytes.items < 256))
