-- What a crash leaves of a store that is asked to keep entries.
use Rattle.std.proofs.Common.{◌≡◌, ◌⊎◌, inl, inr, ℕ, List, [], ◌∷◌, ◌++◌, length, refl, sym, ◌∙◌, ap, subst, append_assoc}
use Rattle.std.specs.Prelude.{All, Contains, Result, Ok, Err, OnErr}
use Rattle.std.proofs.lemmas.List.{append-nil}
use Rattle.std.proofs.lemmas.List.Elements.{All-nil, All-cons, All-weaker, All-append, All-map, All-contains, All-contains_itself, Contains-append_left, Contains-append_right}
use Rattle.desk_core.specs.declared.entry.Entry.{Entry}
use Rattle.desk_core.specs.Left.{Left, Moment, Begins, Holds, IsKept, IsOneOf, IsBetween, HasLeft, LeavesJournal}
use Rattle.journal_store.specs.Bound.{IsNextLimit}
use Rattle.journal_store.specs.Held.{Held}
use Rattle.journal_store.specs.Preface.{Front}
use Rattle.journal_store.specs.Kept.{Kept, possible, moments, asked, begun_at, opened_at, settled, lefts, IsLeftOf}

-- nothing was done
pub untouched : (left : Left) (before after : List Entry) → HasLeft left left before after
untouched left before after = record {
  more = [];
  ever = refl;
  each = All-nil (IsBetween left before after);
  now = All-weaker (Contains left.now) (IsOneOf left before after) (λ j has. inl has) left.now (All-contains_itself left.now);
}

-- of a store that is the same
pub behind_same : (now old : Kept) (left : Left) (journal entries : List Entry) → now ≡ old → old.journal ≡ journal → HasLeft now.left left now.journal (now.journal ++ entries)
    → HasLeft old.left left journal (journal ++ entries)
behind_same now old left journal entries same is has =
    subst (λ j. HasLeft old.left left j (j ++ entries)) is (subst (λ (k : Kept). HasLeft k.left left k.journal (k.journal ++ entries)) same has)

module _ (kept : Kept) (entries : List Entry) where
  abbrev after : List Entry
  after = kept.journal ++ entries

  abbrev one : List Entry → Type 0
  one = IsOneOf kept.left kept.journal after

  all_possible : All one (possible kept entries)
  all_possible = All-cons one kept.journal (after ∷ kept.left.now) (inr (inl refl)) (All-cons one after kept.left.now (inr (inr refl))
      (All-weaker (Contains kept.left.now) one (λ j has. inl has) kept.left.now (All-contains_itself kept.left.now)))

  all_moments : All (IsBetween kept.left kept.journal after) (moments kept.journal (possible kept entries))
  all_moments = All-map (IsBetween kept.left kept.journal after) (λ (j : List Entry). record { told = kept.journal; left = j }) (possible kept entries)
      (All-weaker one (λ j. IsBetween kept.left kept.journal after (record { told = kept.journal; left = j })) (λ j is. record { told = refl; left = is }) (possible kept entries) all_possible)

  -- entries were asked for
  pub of_asked : HasLeft kept.left (asked kept entries).left kept.journal after
  of_asked = record { more = moments kept.journal (possible kept entries); ever = refl; each = all_moments; now = all_possible }

  -- and stored
  pub of_settled : HasLeft kept.left (settled (asked kept entries) entries).left kept.journal after
  of_settled = record { more = moments kept.journal (possible kept entries); ever = refl; each = all_moments; now = All-cons one after [] (inr (inr refl)) (All-nil one) }

-- no entries were asked for, and then some
module _ (old mid new : Left) (before after : List Entry) (first : HasLeft old mid before (before ++ [])) (second : HasLeft mid new before after) where
  from_now : (j : List Entry) → IsOneOf old before (before ++ []) j → IsOneOf old before after j
  from_now j (inl has) = inl has
  from_now j (inr (inl is)) = inr (inl is)
  from_now j (inr (inr is)) = inr (inl (is ∙ append-nil before))

  from_mid : (j : List Entry) → IsOneOf mid before after j → IsOneOf old before after j
  from_mid j (inl has) = from_now j (All-contains (IsOneOf old before (before ++ [])) mid.now j first.now has)
  from_mid j (inr is) = inr is

  pub in_two : HasLeft old new before after
  in_two = record {
    more = second.more ++ first.more;
    ever = second.ever ∙ ap (λ l. second.more ++ l) first.ever ∙ sym (append_assoc second.more first.more old.ever);
    each = All-append (IsBetween old before after) second.more first.more
        (All-weaker (IsBetween mid before after) (IsBetween old before after) (λ m is. record { told = is.told; left = from_mid m.left is.left }) second.more second.each)
        (All-weaker (IsBetween old before (before ++ [])) (IsBetween old before after) (λ m is. record { told = is.told; left = from_now m.left is.left }) first.more first.each);
    now = All-weaker (IsOneOf mid before after) (IsOneOf old before after) from_mid new.now second.now;
  }

-- a file that was opened anew, or was open
abbrev pub IsReopened : Kept → Kept → Type 0
IsReopened old new = (new ≡ old) ⊎ ((moment : ℕ) × (new ≡ opened_at (settled (asked old []) []) moment))

-- entries were stored, or may have been
abbrev pub IsStored : Kept → List Entry → Kept → Type 0
IsStored old entries new = (new ≡ old) ⊎ (new ≡ asked old entries) ⊎ (new ≡ settled (asked old entries) entries)

pub of_reopened : (old new : Kept) → IsReopened old new → HasLeft old.left new.left old.journal (old.journal ++ [])
of_reopened old new (inl is) = subst (λ k. HasLeft old.left k.left old.journal (old.journal ++ [])) (sym is) (untouched old.left old.journal (old.journal ++ []))
of_reopened old new (inr (moment, is)) = subst (λ k. HasLeft old.left k.left old.journal (old.journal ++ [])) (sym is) (of_settled old [])

pub of_stored : (old new : Kept) (entries : List Entry) → IsStored old entries new → HasLeft old.left new.left old.journal (old.journal ++ entries)
of_stored old new entries (inl is) = subst (λ k. HasLeft old.left k.left old.journal (old.journal ++ entries)) (sym is) (untouched old.left old.journal (old.journal ++ entries))
of_stored old new entries (inr (inl is)) = subst (λ k. HasLeft old.left k.left old.journal (old.journal ++ entries)) (sym is) (of_asked old entries)
of_stored old new entries (inr (inr is)) = subst (λ k. HasLeft old.left k.left old.journal (old.journal ++ entries)) (sym is) (of_settled old entries)

-- a file that could not be opened anew
pub of_failed : (old new : Kept) (entries : List Entry) → new ≡ asked old [] → HasLeft old.left new.left old.journal (old.journal ++ entries)
of_failed old new entries is = in_two old.left new.left new.left old.journal (old.journal ++ entries) (subst (λ k. HasLeft old.left k.left old.journal (old.journal ++ [])) (sym is) (of_asked old []))
    (untouched new.left old.journal (old.journal ++ entries))

-- the journal stays while a file is opened anew
pub same_journal : (old new : Kept) → IsReopened old new → new.journal ≡ old.journal
same_journal old new (inl is) = ap (λ k. k.journal) is
same_journal old new (inr (moment, is)) = ap (λ k. k.journal) is ∙ append-nil old.journal

-- what a crash leaves stays while a file is written anew
pub same_left : (old new : Kept) → (new ≡ old) ⊎ ((moment : ℕ) × (new ≡ opened_at old moment)) → new.left ≡ old.left
same_left old new (inl is) = ap (λ k. k.left) is
same_left old new (inr (moment, is)) = ap (λ k. k.left) is

-- a file that was opened, and entries that were stored in it
pub of_both : (old mid new : Kept) (entries : List Entry) → IsReopened old mid → IsStored mid entries new → HasLeft old.left new.left old.journal (old.journal ++ entries)
of_both old mid new entries first second =
    in_two old.left mid.left new.left old.journal (old.journal ++ entries) (of_reopened old mid first)
    (subst (λ j. HasLeft mid.left new.left j (j ++ entries)) (same_journal old mid first) (of_stored mid new entries second))

lefts_of_moments : (told : List Entry) (journals : List (List Entry)) (ever : List Moment) → lefts (moments told journals ++ ever) ≡ journals ++ lefts ever
lefts_of_moments told [] ever = refl
lefts_of_moments told (j ∷ journals) ever = ap (λ l. j ∷ l) (lefts_of_moments told journals ever)

-- what a crash might have left it might still have left once entries are asked for
pub still_left : (kept : Kept) (entries j : List Entry) → IsLeftOf kept.left j → IsLeftOf (asked kept entries).left j
still_left kept entries j (inl has) = inl (Contains-append_right (kept.journal ∷ (kept.journal ++ entries) ∷ []) kept.left.now j has)
still_left kept entries j (inr has) = inr (subst (λ l. Contains l j) (sym (lefts_of_moments kept.journal (possible kept entries) kept.left.ever)) (Contains-append_right (possible kept entries) (lefts kept.left.ever) j has))

-- and once they are stored
pub left_behind : (kept : Kept) (entries j : List Entry) → IsLeftOf (asked kept entries).left j → IsLeftOf (settled (asked kept entries) entries).left j
left_behind kept entries j (inl has) = inr (subst (λ l. Contains l j) (sym (lefts_of_moments kept.journal (possible kept entries) kept.left.ever)) (Contains-append_left (possible kept entries) (lefts kept.left.ever) j has))
left_behind kept entries j (inr has) = inr has

-- what holds whether a call failed or not
pub on_err : {V E P : Type 0} (r : Result V E) → P → OnErr r P
on_err (Ok v) holds = tt
on_err (Err e) holds = holds

-- the journal and the moment stay where entries were asked for, and may not have been
pub journal_asked : (old new : Kept) (entries : List Entry) → (new ≡ old) ⊎ (new ≡ asked old entries) → new.journal ≡ old.journal
journal_asked old new entries (inl is) = ap (λ k. k.journal) is
journal_asked old new entries (inr is) = ap (λ k. k.journal) is

pub opened_asked : (old new : Kept) (entries : List Entry) → (new ≡ old) ⊎ (new ≡ asked old entries) → new.opened ≡ old.opened
opened_asked old new entries (inl is) = ap (λ k. k.opened) is
opened_asked old new entries (inr is) = ap (λ k. k.opened) is

-- a crash leaves the journal alone
pub leaves_alone : (new : Kept) (journal : List Entry) → new.left.now ≡ new.journal ∷ [] → new.journal ≡ journal → LeavesJournal new.left journal
leaves_alone new journal now is = record {
  each = subst (All (λ j. j ≡ journal)) (sym now) (All-cons (λ j. j ≡ journal) new.journal [] is (All-nil (λ j. j ≡ journal)));
}

-- a file that was written anew, or was not
abbrev pub IsWrittenAnew : Kept → Kept → Type 0
IsWrittenAnew old new = (new ≡ old) ⊎ ((moment : ℕ) × (new ≡ opened_at old moment))

written_journal : (old new : Kept) → IsWrittenAnew old new → new.journal ≡ old.journal
written_journal old new (inl is) = ap (λ k. k.journal) is
written_journal old new (inr (moment, is)) = ap (λ k. k.journal) is

-- a store that was open, or was opened anew
module _ (start old mid : Kept) (journal entries : List Entry) (same : old ≡ start) (is : start.journal ≡ journal) (first : IsReopened old mid) where
  pub stays : mid.journal ≡ journal
  stays = same_journal old mid first ∙ ap (λ k. k.journal) same ∙ is

  -- no entries stand behind it
  pub nothing_behind : entries ≡ [] → mid.journal ≡ journal ++ entries
  nothing_behind none = stays ∙ sym (append-nil journal) ∙ ap (λ e. journal ++ e) (sym none)

  module _ (appended new : Kept) (stored : appended ≡ settled (asked mid entries) entries) (anew : IsWrittenAnew appended new) where
    -- entries that were stored do
    pub stands_behind : new.journal ≡ journal ++ entries
    stands_behind = written_journal appended new anew ∙ ap (λ k. k.journal) stored ∙ ap (λ j. j ++ entries) stays

    pub leaves_both : LeavesJournal new.left (journal ++ entries)
    leaves_both = leaves_alone new (journal ++ entries)
        (ap (λ l. l.now) (same_left appended new anew) ∙ ap (λ k. k.left.now) stored ∙ sym (ap (λ j. j ∷ []) (written_journal appended new anew ∙ ap (λ k. k.journal) stored))) stands_behind

-- how long a file may be that was open
pub next_limit : (start mid appended new : Held) → mid ≡ start → appended.limit ≡ mid.limit → appended.least ≡ mid.least → IsNextLimit appended.limit appended.least (length new.written) new.limit
    → IsNextLimit start.limit start.least (length new.written) new.limit
next_limit start mid appended new same limit least is =
    subst (λ (n : ℕ). IsNextLimit n start.least (length new.written) new.limit) (limit ∙ ap (λ (h : Held). h.limit) same)
    (subst (λ (n : ℕ). IsNextLimit appended.limit n (length new.written) new.limit) (least ∙ ap (λ (h : Held). h.least) same) is)

-- a store that begins takes nothing of its journal back
pub holds_at : (moment : ℕ) (front : Front) (journal : List Entry) (kept : Kept) → kept ≡ begun_at moment front journal → Holds kept.left journal
holds_at moment front journal kept is = subst (λ (k : Kept). Holds k.left journal) (sym is) (record {
  now = All-cons (Begins journal) journal [] ([], sym (append-nil journal)) (All-nil (Begins journal));
  ever = All-nil (IsKept journal);
})
