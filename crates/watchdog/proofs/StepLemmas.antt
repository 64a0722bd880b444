-- Steps of guards, one more at a time.
use Rattle.std.proofs.Common.{◌≡◌, ℕ, ◌+◌, ◌-◌, ◌<◌, ◌≤◌, Bool, true, false, List, [], ◌∷◌, ◌++◌, length, take, drop, get_or, set, refl, ap, sym, subst, ◌∙◌, ◌⊎◌, inl, inr, arith}
use Rattle.std.specs.Prelude.{Option}
use Rattle.std.specs.Time.{instant_nanos}
use Rattle.std.specs.declared.time.Instant.{Instant}
use Rattle.std.specs.List.{All}
use Rattle.std.proofs.lemmas.Bool.{cases_lt}
use Rattle.std.proofs.Math.Seq.{get_or-append_seam}
use Rattle.std.proofs.lemmas.List.{drop-drop, drop-take, get_or_append_left, length-drop, take_more_set}
use Rattle.std.proofs.lemmas.List.Elements.{All-append, All-cons}
use Rattle.desk_core.specs.declared.entry.Entry.{Entry}
use Rattle.desk_core.specs.Past.{past}
use Rattle.hall.specs.Seats.{SeatState}
use Rattle.watchdog.specs.Timer.{is_overdue}
use Rattle.watchdog.specs.declared.met.Met.{Met}
use Rattle.watchdog.specs.declared.met.Met.TheVariants.{Looked, Refused}
use Rattle.watchdog.specs.declared.wish.Wish.{Wish}
use Rattle.watchdog.specs.Falling.{HasFallen}
use Rattle.watchdog.specs.Guard.{GuardState, followed, fresh, looked, refused, wishing}
use Rattle.watchdog.specs.Watching.{HaveStepped, NoStep, OneStep, HaveWished, OneWish, IsStep, Expires, Follows, IsRefused, WasLooked}

-- of the next entries of a list, those behind some are the next there
next_behind : {X : Type 0} (items entries : List X) (place seen : ℕ) → seen ≤ length entries → entries ≡ take (length entries) (drop place items)
    → drop seen entries ≡ take (length (drop seen entries)) (drop (place + seen) items)
next_behind items entries place seen within are =
    let rest : ℕ = length entries - seen in
    let whole : length entries ≡ seen + rest = omega (arith, within) in
    ap (drop seen) (are ∙ ap (λ (n : ℕ). take n (drop place items)) whole)
    ∙ (drop-take seen rest (drop place items)
    ∙ (ap (take rest) (drop-drop seen place items) ∙ ap (λ (n : ℕ). take n (drop (place + seen) items)) (sym (length-drop seen entries))))

-- a guard that has seen so many of the next entries has seen the others
pub follows_so : (kept : Option ℕ) (guard guard_now : GuardState) (seat : SeatState) (number : ℕ) (now : Instant) (place seen : ℕ) (entries : List Entry)
    → guard.place ≡ place + seen → seen ≤ length entries → guard_now ≡ followed number now (drop seen entries) guard → seat.number ≡ number
    → entries ≡ take (length entries) (drop place (past seat.seen)) → IsStep kept now guard seat guard_now seat
follows_so kept guard guard_now seat number now place seen entries there within is same are =
    subst (λ g. IsStep kept now guard seat g seat) (sym (is ∙ ap (λ n. followed n now (drop seen entries) guard) (sym same)))
    (Follows (drop seen entries)
    (next_behind (past seat.seen) entries place seen within are ∙ ap (λ p. take (length (drop seen entries)) (drop p (past seat.seen))) (sym there)))

-- a guard has brought its service down, or was refused
pub falls_so : (kept : Option ℕ) (guard guard_now : GuardState) (seat seat_now : SeatState) (now : Instant) (made is_refused : Bool)
    → is_overdue guard.met (instant_nanos now) ≡ true → HasFallen kept guard.slot guard.place seat seat_now made is_refused
    → (is_refused ≡ false → guard_now ≡ looked now guard) → (is_refused ≡ true → guard_now ≡ refused now (looked now guard))
    → IsStep kept now guard seat guard_now seat_now
falls_so kept guard guard_now seat seat_now now made false due fell down none =
    subst (λ g. IsStep kept now guard seat g seat_now) (sym (down refl)) (Expires seat_now made due fell)
falls_so kept guard guard_now seat seat_now now made true due fell none was =
    subst (λ g. IsStep kept now guard seat g seat_now) (sym (was refl)) (IsRefused seat_now made due fell)

pub looked_so : (guard guard_now : GuardState) (now : Instant) (is_refused : Bool) → (is_refused ≡ false → guard_now ≡ looked now guard)
    → (is_refused ≡ true → guard_now ≡ refused now (looked now guard)) → WasLooked now guard_now
looked_so guard guard_now now false down none = (guard.met, inl (ap (λ (g : GuardState). g.met) (down refl)))
looked_so guard guard_now now true none was = (guard.met, inr (ap (λ (g : GuardState). g.met) (was refl)))

-- one guard's step more
pub stepped_more : (kept : Option ℕ) (now : Instant) (guards between : List GuardState) (seat before seat_now : SeatState) (index : ℕ) (guard guard_now : GuardState)
    → HaveStepped kept now guards seat between before → index < length between → guard ≡ get_or between index guard → IsStep kept now guard before guard_now seat_now
    → HaveStepped kept now guards seat (set between index guard_now) seat_now
stepped_more kept now guards between seat before seat_now index guard guard_now stepped below is step =
    OneStep guards between seat before seat_now index guard_now guard stepped below (subst (λ g. IsStep kept now g before guard_now seat_now) is step)

-- one after the other
pub stepped_then : (kept : Option ℕ) (now : Instant) (first second third : List GuardState) (a b c : SeatState) → HaveStepped kept now first a second b
    → HaveStepped kept now second b third c → HaveStepped kept now first a third c
stepped_then kept now first second third a b c early (NoStep guards seat) = early
stepped_then kept now first second third a b c early (OneStep guards between seat before seat_now place guard other late below step) =
    OneStep first between a before seat_now place guard other (stepped_then kept now first second between a b before early late) below step

-- of one guard more something is expected
pub wished_more : (guards between : List GuardState) (index : ℕ) (wish : Wish) (guard guard_now : GuardState)
    → HaveWished guards between → index < length between → guard ≡ get_or between index guard → guard_now ≡ wishing wish guard
    → HaveWished guards (set between index guard_now)
wished_more guards between index wish guard guard_now wished below is same =
    subst (λ g. HaveWished guards (set between index g)) (sym (same ∙ ap (wishing wish) is)) (OneWish guards between index wish guard wished below)

-- one guard more has looked
pub looked_more : (now : Instant) (guards : List GuardState) (index : ℕ) (guard : GuardState) → index < length guards → All (WasLooked now) (take index guards) → WasLooked now guard
    → All (WasLooked now) (take (index + 1) (set guards index guard))
looked_more now guards index guard below before is =
    subst (All (WasLooked now)) (sym (take_more_set guards index guard below)) (All-append (WasLooked now) (take index guards) (guard ∷ []) before (All-cons (WasLooked now) guard [] is (λ k d below. absurd (omega (arith, below)))))

-- a guard of these parts
abbrev of_parts : ℕ → Option Wish → ℕ → List Met → GuardState
of_parts slot wish place met = record { slot = slot; met = met; wish = wish; place = place }

-- a guard of which all but the timer stayed has looked
pub looked_view : (now : Instant) (slot : ℕ) (wish : Option Wish) (place : ℕ) (before after : List Met) (guard : GuardState)
    → record { slot = slot; met = before; wish = wish; place = place } ≡ guard → after ≡ Looked now ∷ before
    → record { slot = slot; met = after; wish = wish; place = place } ≡ looked now guard
looked_view now slot wish place before after guard is more = ap (of_parts slot wish place) more ∙ ap (looked now) is

-- and was refused then
pub refused_view : (now : Instant) (slot : ℕ) (wish : Option Wish) (place : ℕ) (before between after : List Met) (guard : GuardState)
    → record { slot = slot; met = before; wish = wish; place = place } ≡ guard → between ≡ Looked now ∷ before → after ≡ Refused now ∷ between
    → record { slot = slot; met = after; wish = wish; place = place } ≡ refused now (looked now guard)
refused_view now slot wish place before between after guard is more last =
    ap (of_parts slot wish place) (last ∙ ap (λ met. Refused now ∷ met) more) ∙ ap (λ g. refused now (looked now g)) is

last_place : (i number : ℕ) → i < number + 1 → number ≤ i → i ≡ number
last_place i number below late = omega arith

-- one fresh guard more
pub fresh_more : (guards more : List GuardState) (guard : GuardState) (number slot : ℕ) → length guards ≡ number → more ≡ guards ++ guard ∷ [] → guard ≡ fresh slot
    → slot ≡ number → ((i : ℕ) (other : GuardState) → i < number → get_or guards i other ≡ fresh i)
    → (i : ℕ) (other : GuardState) → i < number + 1 → get_or more i other ≡ fresh i
fresh_more guards more guard number slot count is new same before i other below = ap (λ g. get_or g i other) is ∙ by_place (cases_lt i number)
  where
    by_place : (i < number) ⊎ (number ≤ i) → get_or (guards ++ guard ∷ []) i other ≡ fresh i
    by_place (inl early) = get_or_append_left guards (guard ∷ []) other i (subst (λ n. i < n) (sym count) early) ∙ before i other early
    by_place (inr late) =
        let here = last_place i number below late in
        ap (λ n. get_or (guards ++ guard ∷ []) n other) (here ∙ sym count) ∙ (get_or-append_seam guards guard [] other ∙ (new ∙ ap fresh (same ∙ sym here)))
