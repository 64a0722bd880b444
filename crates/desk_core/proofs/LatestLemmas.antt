-- Since when services have their status, one entry more at a time.
use Rattle.std.proofs.Common.{◌≡◌, ℕ, ◌<◌, not, Bool, true, false, if◌then◌else◌, Option, Some, unwrap_or, List, [], ◌∷◌, ◌++◌, length, get_or, refl, sym, ap, subst, ◌∙◌}
use Rattle.std.proofs.lemmas.List.{length-reverse}
use Rattle.health_wire.specs.declared.serving.Serving.TheVariants.{ServiceUnknown}
use Rattle.desk_core.specs.declared.call.Call.{Call}
use Rattle.desk_core.specs.declared.entry.Entry.{Entry}
use Rattle.desk_core.specs.declared.latest.Latest.{Latest}
use Rattle.desk_core.specs.declared.reply.Reply.{Reply}
use Rattle.desk_core.specs.Board.{packed}
use Rattle.desk_core.specs.Changes.{is_same, shown_at}
use Rattle.desk_core.specs.Latest.{AreLatest, IsLatest, next_latest}
use Rattle.desk_core.specs.Mutation.{entry_of}
use Rattle.desk_core.specs.Past.{past}
use Rattle.desk_core.specs.Slots.{shown_in}
use Rattle.desk_core.specs.Standing.{flips, reports}
use Rattle.desk_core.specs.Status.{status_at}
use Rattle.desk_core.proofs.DeskLemmas.{read_status}
use Rattle.desk_core.proofs.HistoryLemmas.{past_more}

-- one of two places, by what is the same
turned : (b : Bool) (at : ℕ) (place : Option ℕ) → (if b then place else Some at) ≡ (if not b then Some at else place)
turned true at place = refl
turned false at place = refl

-- what is kept of a slot behind one entry more
latest_next : (i at before after : ℕ) (entry : Entry) (older : List Entry) (latest : Latest) → i < 16 → length older ≡ at → before ≡ packed (status_at older) 16
    → after ≡ packed (status_at (entry ∷ older)) 16 → IsLatest older i latest
    → IsLatest (entry ∷ older) i (next_latest i entry at before after latest)
latest_next i at before after entry older latest below long before_is after_is is =
    let was : shown_in before i ≡ shown_at older i = ap (λ status. unwrap_or status ServiceUnknown) (read_status older before i before_is below) in
    let now : shown_in after i ≡ shown_at (entry ∷ older) i = ap (λ status. unwrap_or status ServiceUnknown) (read_status (entry ∷ older) after i after_is below) in record {
      shown = ap (λ s. if is_same s (shown_in after i) then latest.shown else Some at) was
          ∙ ap (λ s. if is_same (shown_at older i) s then latest.shown else Some at) now
          ∙ turned (is_same (shown_at older i) (shown_at (entry ∷ older) i)) at latest.shown
          ∙ ap (λ n. if flips i entry older then Some n else latest.shown) (sym long)
          ∙ ap (λ place. if flips i entry older then Some (length older) else place) is.shown;
      reported = ap (λ n. if reports i entry older then Some n else latest.reported) (sym long)
          ∙ ap (λ place. if reports i entry older then Some (length older) else place) is.reported;
    }

-- and of all slots
pub latest_more : (seat at before after : ℕ) (call : Call) (reply : Reply) (journal new : List Entry) (slots slots' : List Latest)
    → at ≡ length journal → new ≡ journal ++ entry_of seat call reply ∷ [] → before ≡ packed (status_at (past journal)) 16 → after ≡ packed (status_at (past new)) 16
    → ((i : ℕ) (other : Latest) → i < 16 → get_or slots' i other ≡ next_latest i (entry_of seat call reply) at before after (get_or slots i other))
    → AreLatest (past journal) slots → AreLatest (past new) slots'
latest_more seat at before after call reply journal new slots slots' at_is new_is before_is after_is each are i other below =
    let older : List Entry = past journal in
    let entry = entry_of seat call reply in
    let later : past new ≡ entry ∷ older = ap past new_is ∙ past_more journal entry in
    subst (λ entries. IsLatest entries i (get_or slots' i other)) (sym later)
    (subst (IsLatest (entry ∷ older) i) (sym (each i other below))
    (latest_next i at before after entry older (get_or slots i other) below (length-reverse journal ∙ sym at_is) before_is
    (after_is ∙ ap (λ entries. packed (status_at entries) 16) later) (are i other below)))
