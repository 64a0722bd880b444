-- What views keep when the history grows or is looked at.
use Rattle.std.proofs.Common.{◌≡◌, ℕ, zero, suc, ◌<◌, ◌≤◌, ◌≢◌, List, [], ◌∷◌, ◌++◌, map, length, set, sym, refl, ap, ◌∙◌, subst, inl, inr, ⊎_elim, arith, eq-eqb, ne_eqb}
use mathlib.Core.Option.{some, some-injective, some-ne-none}
use mathlib.Core.Logic.{dite}
use native.Mathlib.Decide.{ℕ_discrete}
use lib.ListN.{get_elem?}
use Rattle.atomic_table.proofs.Lists.{set_here, set_else, at_longer}
use Rattle.std.proofs.lemmas.List.{append-nil}
use Rattle.std.proofs.lemmas.List.Sums.{sum_by-cons}
use Rattle.desk_core.specs.declared.entry.Entry.{Entry}
use Rattle.desk_core.specs.Seats.{calls_by}
use Rattle.desk_core.specs.Watch.{IsOlder}
use Rattle.hall.specs.declared.view.Held.{Held}
use Rattle.hall.specs.declared.view.GateStage.{GateStage}
use Rattle.hall.specs.declared.view.GateStage.TheVariants.{Idle, Queued, Served}
use Rattle.hall.specs.declared.view.View.{View}
use Rattle.hall.specs.Views.{held, made_by, seen_of, waits, serves}
use Rattle.hall.specs.Gates.{Moment, AreHeld, IsStage, HasNumber, IsPlaced}
use Rattle.hall.specs.Steps.{AllBegin, HasOut}

-- a history is a beginning of itself
pub older_self : (history : List Entry) → IsOlder history history
older_self history = record { newer = []; is = refl }

-- a beginning of a history is one of the history with one more entry
pub older_cons : (entry : Entry) (older history : List Entry) → IsOlder older history → IsOlder older (entry ∷ history)
older_cons entry older history begins = record { newer = entry ∷ begins.newer; is = ap (λ es. entry ∷ es) begins.is }

-- the empty history begins each
pub older_nil : (history : List Entry) → IsOlder [] history
older_nil history = record { newer = history; is = sym (append-nil history) }

-- an entry of another seat is none of this one's
pub others_call : (entry : Entry) (history : List Entry) (number : ℕ) → entry.seat ≢ number → calls_by (entry ∷ history) number ≡ calls_by history number
others_call entry history number other = rw (ne_eqb entry.seat number other) refl

pub own_call : (entry : Entry) (history : List Entry) (number : ℕ) → entry.seat ≡ number → calls_by (entry ∷ history) number ≡ entry ∷ calls_by history number
own_call entry history number own = rw (eq-eqb entry.seat number own) refl

-- seats that have looked have seen the history
pub looked_held : (history : List Entry) (dealt : ℕ) (owner : ℕ → ℕ) (view : ℕ) (seats : List Held) → AreHeld history dealt owner view seats
    → AreHeld history dealt owner view (map (λ seat. held seat.number history) seats)
looked_held history dealt owner view [] are = tt
looked_held history dealt owner view (seat ∷ seats) are =
    (record { older = older_self history; own = refl; dealt = are.0.dealt; owned = are.0.owned }, looked_held history dealt owner view seats are.1)

-- they have made as many changes as before
pub looked_made : (history : List Entry) (dealt : ℕ) (owner : ℕ → ℕ) (view : ℕ) (seats : List Held) → AreHeld history dealt owner view seats
    → made_by (map (λ seat. held seat.number history) seats) ≡ made_by seats
looked_made history dealt owner view [] are = refl
looked_made history dealt owner view (seat ∷ seats) are =
    let made : Held → ℕ = λ seat. length (calls_by seat.seen seat.number) in
    omega (
      arith,
      sum_by-cons made (held seat.number history) (map (λ seat. held seat.number history) seats),
      sum_by-cons made seat seats,
      ap length are.0.own,
      looked_made history dealt owner view seats are.1,
    )

-- what they had seen begins it
pub held_begin : (history : List Entry) (dealt : ℕ) (owner : ℕ → ℕ) (view : ℕ) (seats : List Held) → AreHeld history dealt owner view seats → AllBegin history seats
held_begin history dealt owner view [] are = tt
held_begin history dealt owner view (seat ∷ seats) are = (are.0.older, are.0.own, held_begin history dealt owner view seats are.1)

-- the first of them has seen a beginning of it
pub seen_older : (history : List Entry) (dealt : ℕ) (owner : ℕ → ℕ) (view : ℕ) (seats : List Held) → AreHeld history dealt owner view seats
    → IsOlder (seen_of seats) history
seen_older history dealt owner view [] are = older_nil history
seen_older history dealt owner view (seat ∷ seats) are = are.0.older

-- seats of another view keep what they know when a seat of this one makes a change
pub others_held : (entry : Entry) (history : List Entry) (dealt : ℕ) (owner : ℕ → ℕ) (view : ℕ) (seats : List Held) → owner entry.seat ≢ view
    → AreHeld history dealt owner view seats → AreHeld (entry ∷ history) dealt owner view seats
others_held entry history dealt owner view [] other are = tt
others_held entry history dealt owner view (seat ∷ seats) other are =
    let apart : entry.seat ≢ seat.number = λ same. other (ap owner same ∙ are.0.owned) in (
      record {
        older = older_cons entry seat.seen history are.0.older;
        own = others_call entry history seat.number apart ∙ are.0.own;
        dealt = are.0.dealt;
        owned = are.0.owned;
      },
      others_held entry history dealt owner view seats other are.1,
    )

-- seats stay with their view where numbers of others are dealt out or change hands
pub owned_held : (history : List Entry) (dealt more : ℕ) (owner later : ℕ → ℕ) (view next : ℕ) (seats : List Held) → dealt ≤ more
    → ((number : ℕ) → number < dealt → owner number ≡ view → later number ≡ next) → AreHeld history dealt owner view seats → AreHeld history more later next seats
owned_held history dealt more owner later view next [] longer moves are = tt
owned_held history dealt more owner later view next (seat ∷ seats) longer moves are = (
  record { older = are.0.older; own = are.0.own; dealt = omega (arith, are.0.dealt, longer); owned = moves seat.number are.0.dealt are.0.owned },
  owned_held history dealt more owner later view next seats longer moves are.1,
)

-- the seats of two views
pub joined_held : (history : List Entry) (dealt : ℕ) (owner : ℕ → ℕ) (view : ℕ) (seats more : List Held) → AreHeld history dealt owner view seats
    → AreHeld history dealt owner view more → AreHeld history dealt owner view (seats ++ more)
joined_held history dealt owner view [] more are also = also
joined_held history dealt owner view (seat ∷ seats) more are also = (are.0, joined_held history dealt owner view seats more are.1 also)

-- a desk that is out has the whole history
pub stage_out : (moment : Moment) (view : ℕ) (stage : GateStage) → IsStage moment view stage → HasOut moment.history stage
stage_out moment view Idle is = tt
stage_out moment view (Queued ticket) is = tt
stage_out moment view (Served ticket history) is = is.4

-- what is served waits
pub serves_waits : (stage : GateStage) → serves stage ≤ waits stage
serves_waits Idle = omega arith
serves_waits (Queued ticket) = omega arith
serves_waits (Served ticket history) = omega arith

-- the number of a seat that has looked, or made a change, is what it was
pub mapped_number : (f : Held → Held) → ((seat : Held) → (f seat).number ≡ seat.number) → (number : ℕ) (seats : List Held) → HasNumber number seats → HasNumber number (map f seats)
mapped_number f same number [] has = has
mapped_number f same number (seat ∷ seats) has = ⊎_elim (λ is. inl (same seat ∙ is)) (λ later. inr (mapped_number f same number seats later)) has

-- numbers among the seats of two views
pub number_first : (number : ℕ) (seats more : List Held) → HasNumber number seats → HasNumber number (seats ++ more)
number_first number [] more has = absurd has
number_first number (seat ∷ seats) more has = ⊎_elim inl (λ later. inr (number_first number seats more later)) has

pub number_second : (number : ℕ) (seats more : List Held) → HasNumber number more → HasNumber number (seats ++ more)
number_second number [] more has = has
number_second number (seat ∷ seats) more has = inr (number_second number seats more has)

there_is : {A : Type 0} (xs : List A) (i : ℕ) (a : A) → get_elem? xs i ≡ some a → i < length xs
there_is [] i a at = absurd (some-ne-none a (sym at))
there_is (x ∷ xs) zero a at = omega arith
there_is (x ∷ xs) (suc i) a at = omega (arith, there_is xs i a at)

-- a number keeps its place where a view is replaced by one that has all of its seats
pub placed_set : (views : List View) (id : ℕ) (v w : View) (number : ℕ) → get_elem? views id ≡ some v → (HasNumber number v.seats → HasNumber number w.seats)
    → IsPlaced views number → IsPlaced (set views id w) number
placed_set views id v w number at keeps placed =
    dite (ℕ_discrete placed.place id)
    (λ same.
    let is : v ≡ placed.view = some-injective v placed.view (sym at ∙ (ap (λ (i : ℕ). get_elem? views i) (sym same) ∙ placed.at)) in
    record { place = id; view = w; at = set_here views id w (there_is views id v at); has = keeps (subst (λ (x : View). HasNumber number x.seats) (sym is) placed.has) })
    (λ other. record { place = placed.place; view = placed.view; at = set_else views id placed.place w other ∙ placed.at; has = placed.has })

-- or where it takes over another's seats
pub placed_joined : (views : List View) (id : ℕ) (v : View) (other : ℕ) (u w spent : View) (number : ℕ) → get_elem? views id ≡ some v → get_elem? views other ≡ some u → other ≢ id
    → (HasNumber number v.seats → HasNumber number w.seats) → (HasNumber number u.seats → HasNumber number w.seats) → IsPlaced views number → IsPlaced (set (set views id w) other spent) number
placed_joined views id v other u w spent number at there apart keeps takes placed =
    let here : get_elem? (set (set views id w) other spent) id ≡ some w = set_else (set views id w) other id spent (λ same. apart (sym same)) ∙ set_here views id w (there_is views id v at) in
    let view_at : (i : ℕ) (x : View) → get_elem? views i ≡ some x → placed.place ≡ i → HasNumber number x.seats =
    λ i x found same. subst (λ (y : View). HasNumber number y.seats) (some-injective placed.view x (sym placed.at ∙ (ap (λ (k : ℕ). get_elem? views k) same ∙ found))) placed.has in
    dite (ℕ_discrete placed.place id)
    (λ same. record { place = id; view = w; at = here; has = keeps (view_at id v at same) })
    (λ away. dite (ℕ_discrete placed.place other)
    (λ same. record { place = id; view = w; at = here; has = takes (view_at other u there same) })
    (λ else. record {
      place = placed.place;
      view = placed.view;
      at = set_else (set views id w) other placed.place spent else ∙ (set_else views id placed.place w away ∙ placed.at);
      has = placed.has;
    }))

-- or where one more view comes
pub placed_more : (views : List View) (w : View) (number : ℕ) → IsPlaced views number → IsPlaced (views ++ w ∷ []) number
placed_more views w number placed =
    record { place = placed.place; view = placed.view; at = at_longer views (w ∷ []) placed.place placed.view placed.at; has = placed.has }
