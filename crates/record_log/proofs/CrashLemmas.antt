-- What a device that keeps its states owes to the rule of devices.
use Rattle.std.proofs.Common.{◌≡◌, inl, inr, ⊎_elim, ℕ, ◌+◌, ◌-◌, ◌<◌, ◌≤◌, List, [], ◌∷◌, ◌++◌, length, take, drop, None, Some, refl, sym, ◌∙◌, ap, subst, arith, append_assoc, length-append}
use Rattle.std.proofs.lemmas.List.{take_at, length-take-le, length-drop}
use Rattle.std.proofs.lemmas.Slice.{drop-append-drop}
use Rattle.record_log.specs.Device.{IsWritten, IsTorn, Follows, Elapses}
use Rattle.record_log.specs.Noted.{after}
use Rattle.record_log.specs.Crashes.{State, contents_of, TornOf, MayLeave, LeftSince}

-- what is there is left by a crash, if nothing was torn
pub contents_stay : (states : List State) → MayLeave states (contents_of states)
contents_stay [] = refl
contents_stay (state ∷ past) = inl refl

-- a write that is made is one of its tears, with as many bytes or fewer
module _ (at n : ℕ) (old bytes new : List ℕ) (place : at ≤ length old) (few : length bytes ≤ n) (written : IsWritten old at bytes new) where
  start : length (take at old) ≡ at
  start = length-take-le at old place

  front : length (take at old ++ bytes) ≡ at + length bytes
  front = length-append (take at old) bytes ∙ ap (λ k. k + length bytes) start

  whole : length new ≡ at + length bytes + (length old - (at + length bytes))
  whole = ap length written ∙ length-append (take at old ++ bytes) (drop (at + length bytes) old) ∙ ap (λ k. k + length (drop (at + length bytes) old)) front
      ∙ ap (λ k. at + length bytes + k) (length-drop (at + length bytes) old)

  pub is_torn : IsTorn at n old new
  is_torn = record {
    before = ap (λ l. take at l) (written ∙ append_assoc (take at old) bytes (drop (at + length bytes) old)) ∙ take_at (take at old) (bytes ++ drop (at + length bytes) old) at start;
    after = ap (λ l. drop (at + n) l) written ∙ drop-append-drop (at + length bytes) old (take at old ++ bytes) (at + n) (omega (arith, few)) front;
    no_shorter = omega (arith, whole, place);
    no_longer = omega (arith, whole, few, place);
  }

-- so a crash may leave it
pub tear_left : (past : List State) (at n : ℕ) (bytes new : List ℕ) → at ≤ length (contents_of past) → length bytes ≤ n → IsWritten (contents_of past) at bytes new
    → TornOf (Some (at, n)) (MayLeave past) new
tear_left past at n bytes new place few written = (contents_of past, contents_stay past, is_torn at n (contents_of past) bytes new place few written)

-- and all that it may leave after a write is left of what it might have left before
pub write_crash : (past : List State) (state : State) (at : ℕ) (bytes : List ℕ) → state.write ≡ Some (at, length bytes) → at ≤ length (contents_of past)
    → IsWritten (contents_of past) at bytes state.bytes → Follows (IsTorn at (length bytes)) (MayLeave past) (MayLeave (state ∷ past))
write_crash past state at bytes write place written c (inl now) =
    (contents_of past, contents_stay past, subst (IsTorn at (length bytes) (contents_of past)) (sym now) (is_torn at (length bytes) (contents_of past) bytes state.bytes place (omega arith) written))
write_crash past state at bytes write place written c (inr torn) = subst (λ w. TornOf w (MayLeave past) c) write torn

-- and what a crash leaves of the newest write is among it
pub torn_now : (states past : List State) (state : State) (at n : ℕ) (bytes new : List ℕ) → states ≡ state ∷ past → state.write ≡ Some (at, n) → at ≤ length (contents_of past) → length bytes ≤ n
    → IsWritten (contents_of past) at bytes new → MayLeave states new
torn_now states past state at n bytes new are write place few written =
    subst (λ l. MayLeave l new) (sym are) (inr (subst (λ w. TornOf w (MayLeave past) new) (sym write) (tear_left past at n bytes new place few written)))

-- where nothing was written, nothing more is left
pub not_written : (at n : ℕ) (may_leave : List ℕ → Type 0) → Follows (IsTorn at n) may_leave may_leave
not_written at n may_leave c left = (c, left, record { before = refl; after = refl; no_shorter = omega arith; no_longer = omega arith })

-- so also after a write that was noted
pub noted_crash : (past : List State) (at : ℕ) (bytes : List ℕ) → at ≤ length (contents_of past) → Follows (IsTorn at (length bytes)) (MayLeave past) (MayLeave (after (at ∷ []) bytes past))
noted_crash past at bytes place = write_crash past (record { bytes = take at (contents_of past) ++ bytes ++ drop (at + length bytes) (contents_of past); write = Some (at, length bytes) }) at bytes refl place refl

-- a call that notes nothing goes by
pub unnoted : (states : List State) → Elapses (length states) (length states) (LeftSince states) (LeftSince states) (MayLeave states)
unnoted states = record { later = omega arith; nothing_else = λ t c le left. inl left; keeps = λ t c le left. left }

-- and so does one that notes a state
pub noted : (past : List State) (state : State) → Elapses (length past) (length (state ∷ past)) (LeftSince past) (LeftSince (state ∷ past)) (MayLeave (state ∷ past))
noted past state = record {
  later = omega arith;
  nothing_else = λ t c le left. ⊎_elim inr (λ was. inl was.1) left;
  keeps = λ t c le left. inr (le, left);
}

-- so also where the state is noted of a file
pub noted_after : (past states : List State) (place bytes : List ℕ) → states ≡ after place bytes past → Elapses (length past) (length states) (LeftSince past) (LeftSince states) (MayLeave states)
noted_after past states [] bytes is =
    subst (λ l. Elapses (length past) (length l) (LeftSince past) (LeftSince l) (MayLeave l)) (sym is) (noted past (record { bytes = contents_of past; write = None }))
noted_after past states (at ∷ more) bytes is =
    subst (λ l. Elapses (length past) (length l) (LeftSince past) (LeftSince l) (MayLeave l)) (sym is)
    (noted past (record { bytes = take at (contents_of past) ++ bytes ++ drop (at + length bytes) (contents_of past); write = Some (at, length bytes) }))

-- and its bytes are fewer than a limit, as those before it and the end of the write are
pub bounded_after : (past states : List State) (at limit : ℕ) (bytes : List ℕ) → states ≡ after (at ∷ []) bytes past → at ≤ length (contents_of past) → length (contents_of past) < limit → at + length bytes < limit
    → length (contents_of states) < limit
bounded_after past states at limit bytes is place before end =
    let long : length (contents_of states) ≡ at + length bytes + (length (contents_of past) - (at + length bytes)) =
    whole at (length bytes) (contents_of past) bytes (contents_of states) place (omega arith) (ap contents_of is) in
    omega (arith, long, before, end)
