-- How a piece of work and a turn leave their machine.
use Rattle.std.proofs.KnownBytes.{Appends-nil, Consumes-nil}
use Rattle.std.proofs.Common.{◌≡◌, ◌≢◌, ◌≤◌, ◌<◌, ◌+◌, ◌⊎◌, inl, inr, ℕ, zero, suc, Bool, Option, true, false, List, [], refl, ap, sym, ◌∙◌, subst, length-append, arith, rules, true≢false}
use Rattle.std.specs.Io.KnownBytes.{Appends, Consumes}
use Rattle.std.specs.Prelude.{◌↔◌}
use Rattle.web_call.specs.declared.exchanging.Why.TheVariants as whys
use Rattle.reactor.specs.declared.link.Last.{Last}
use Rattle.reactor.specs.declared.link.Last.TheVariants.{Went, Waits, Interrupted, Ended, Failed}
use Rattle.reactor.specs.declared.link.Link.{Link}
use Rattle.reactor.specs.declared.turning.Fate.{Fate}
use Rattle.reactor.specs.declared.turning.Fate.TheVariants as fates
use Rattle.reactor.specs.declared.turning.Piece.{Piece}
use Rattle.reactor.specs.declared.turning.Piece.TheVariants as pieces
use Rattle.reactor.specs.Link.{has_stopped, link_reads, link_stream, link_writes}
use Rattle.reactor.specs.Moved.{Moved, done_by, followed_by, nothing_moved, only_ended}
use Rattle.reactor.specs.Turn.{FindsEnd, HasMoved, HasWorked, Leaves, fate_of}
use Rattle.reactor.proofs.MovedLemmas.{moved_behind, moved_ended, moved_none, moved_then}

-- a number that is above 0 only where something holds that does not
pub is_none : (n : ℕ) (holds : Bool) → holds ≡ false → (0 < n → holds ≡ true) → n ≡ 0
is_none zero holds not some = refl
is_none (suc n) holds not some = absurd (true≢false (sym (some (omega arith)) ∙ not))

module _ {M : Type 0} (takes : M → ℕ) (waiting : M → List ℕ) (idle rests is_done is_starved : M → Type 0) where
  -- bytes are left to send, and the last write has stopped
  pub owes : (into out : Last) (machine : M) (moved : Moved) → waiting machine ≢ [] → has_stopped out ≡ true
      → Leaves takes waiting idle rests is_done is_starved into out machine moved (fate_of whys.Write out)
  owes into Went machine moved left stopped = absurd (true≢false (sym stopped))
  owes into Waits machine moved left stopped = inr (inl (record { left = left; ends = refl }))
  owes into Interrupted machine moved left stopped = inr (inl (record { left = left; ends = refl }))
  owes into Ended machine moved left stopped = inl (record { left = left; ends = refl })
  owes into Failed machine moved left stopped = inr (record { left = left; ends = refl })

  -- bytes are wanted, and the last read has stopped
  pub wants : (into out : Last) (machine : M) (moved : Moved) → idle machine × (0 < takes machine) × (waiting machine ≡ []) → has_stopped into ≡ true
      → Leaves takes waiting idle rests is_done is_starved into out machine moved (fate_of whys.Read into)
  wants Went out machine moved wanted stopped = absurd (true≢false (sym stopped))
  wants Waits out machine moved wanted stopped = inl (record { is_idle = wanted.0; wanted = wanted.1; all_sent = wanted.2; ends = refl })
  wants Interrupted out machine moved wanted stopped = inl (record { is_idle = wanted.0; wanted = wanted.1; all_sent = wanted.2; ends = refl })
  wants Ended out machine moved wanted stopped = inl (record { is_idle = wanted.0; wanted = wanted.1; all_sent = wanted.2; ends = refl })
  wants Failed out machine moved wanted stopped = inr (record { is_idle = wanted.0; wanted = wanted.1; all_sent = wanted.2; ends = refl })

  -- how a turn leaves its machine does not hang on what was moved before, but that it grows
  pub leaves_more : (into out : Last) (machine : M) (first later : Moved) (fate : Fate)
      → Leaves takes waiting idle rests is_done is_starved into out machine later fate
      → Leaves takes waiting idle rests is_done is_starved into out machine (followed_by first later) fate
  leaves_more into out machine first later fates.Rests left = left
  leaves_more into out machine first later fates.GoesOn (inl left) = inl left
  leaves_more into out machine first later fates.GoesOn (inr (inl left)) = inr (inl left)
  leaves_more into out machine first later fates.GoesOn (inr (inr some)) = inr (inr (more first later some))
    where
      more : (first later : Moved) → 64 ≤ done_by later → 64 ≤ done_by (followed_by first later)
      more first later some =
          omega (arith, some, length-append first.read later.read, length-append first.sent later.sent, length-append first.steps later.steps)
  leaves_more into out machine first later fates.Done left = left
  leaves_more into out machine first later (fates.GivenUp why) left = gives_up why left
    where
      gives_up : (why : _) → Leaves takes waiting idle rests is_done is_starved into out machine later (fates.GivenUp why)
          → Leaves takes waiting idle rests is_done is_starved into out machine (followed_by first later) (fates.GivenUp why)
      gives_up whys.Read left = left
      gives_up whys.Write left = left
      gives_up whys.NoMemory left = left

module _ {S H M : Type 0} {remaining contents : S → Option (List ℕ)} {moves : H → H → M → M → Moved → Type 0} where
  -- no byte was taken
  pub stopped_writing : {link link_now : Link S} {host : H} {machine machine_now : M} {past past_now : Moved} → machine_now ≡ machine → past_now ≡ past
      → remaining (link_stream link_now) ≡ remaining (link_stream link) → Appends (contents (link_stream link)) (contents (link_stream link_now)) []
      → moves host host machine machine nothing_moved → HasMoved remaining contents moves link link_now host host machine machine_now past past_now nothing_moved
  stopped_writing {link} {link_now} {host} {machine} {past = past} {past_now = past_now} same stays kept wrote goes =
      subst (λ m. HasMoved remaining contents moves link link_now host host machine m past past_now nothing_moved) (sym same)
      (moved_none (subst (λ r. Consumes (remaining (link_stream link)) r []) (sym kept) (Consumes-nil (remaining (link_stream link)))) wrote goes stays)

  -- no byte was read where the machine wanted some: it goes on without them, or the turn stops
  pub reads_to_its_end : (takes : M → ℕ) (waiting : M → List ℕ) (idle rests is_done is_starved : M → Type 0) (is_closed : M → Bool) {machine_moves : M → M → Moved → Type 0}
      {link link_now : Link S} {host host_now : H} {machine wanting wants_still machine_now : M} {past past_wanting past_still past_now : Moved} {len : ℕ}
      (piece : Piece) (last : Last) → last ≡ link_reads link_now → moves host host_now machine wanting nothing_moved → past_wanting ≡ followed_by past nothing_moved → idle wanting × (0 < takes wanting) × (waiting wanting ≡ [])
      → wants_still ≡ wanting → past_still ≡ past_wanting → has_stopped (link_reads link_now) ≡ true → Consumes (remaining (link_stream link)) (remaining (link_stream link_now)) []
      → FindsEnd remaining link_now → contents (link_stream link_now) ≡ contents (link_stream link)
      → (piece ≡ pieces.Went → (last ≡ Ended) × machine_moves wants_still machine_now only_ended × (past_now ≡ followed_by past_still only_ended))
      → (piece ≢ pieces.Went → (machine_now ≡ wants_still) × (past_now ≡ past_still) × (piece ≡ pieces.Stops (fate_of whys.Read last)))
      → (alone : (m n : M) (x : Moved) → machine_moves m n x → moves host_now host_now m n x)
      → (on : (m n o : M) (x y : Moved) → moves host host_now m n x → moves host_now host_now n o y → moves host host_now m o (followed_by x y))
      → (moved : Moved) × HasMoved remaining contents moves link link_now host host_now machine machine_now past past_now moved
      × HasWorked takes waiting idle rests is_done is_starved is_closed piece (link_reads link_now) (link_writes link_now) machine_now moved × (moved.behind ≤ len)
  reads_to_its_end takes waiting idle rests is_done is_starved is_closed {machine_moves} {link} {link_now} {host} {host_now} {machine} {wanting} {wants_still} {machine_now} {past} {past_wanting} {past_still} {past_now} {len}
      piece last is wanted grown some same stays_so stopped has_read end kept went stops alone on = by_piece piece refl
    where
      wrote : Appends (contents (link_stream link)) (contents (link_stream link_now)) []
      wrote = subst (λ r. Appends (contents (link_stream link)) r []) (sym kept) (Appends-nil (contents (link_stream link)))

      Answer : Piece → Type 0
      Answer p = (moved : Moved) × HasMoved remaining contents moves link link_now host host_now machine machine_now past past_now moved
          × HasWorked takes waiting idle rests is_done is_starved is_closed p (link_reads link_now) (link_writes link_now) machine_now moved × (moved.behind ≤ len)

      ended : (last ≡ Ended) × machine_moves wants_still machine_now only_ended × (past_now ≡ followed_by past_still only_ended) → Answer pieces.Went
      ended found = (
        only_ended,
        moved_behind (on machine wanting machine_now nothing_moved only_ended) wanted grown
            (moved_ended has_read (end (sym is ∙ found.0)) wrote (alone wanting machine_now only_ended (subst (λ m. machine_moves m machine_now only_ended) same found.1))
            (found.2 ∙ ap (λ p. followed_by p only_ended) stays_so)),
        (omega arith, refl),
        omega arith,
      )

      stays : machine_now ≡ wants_still → past_now ≡ past_still → Answer (pieces.Stops (fate_of whys.Read last))
      stays left kept_so = (
        nothing_moved,
        subst (λ m. HasMoved remaining contents moves link link_now host host_now machine m past past_now nothing_moved) (sym (left ∙ same))
            (record { has_read = has_read; wrote = wrote; goes = wanted; grows = kept_so ∙ (stays_so ∙ grown); at_end = λ is. absurd (omega (arith, is)) }),
        (
          subst (λ l. Leaves takes waiting idle rests is_done is_starved (link_reads link_now) (link_writes link_now) machine_now nothing_moved (fate_of whys.Read l)) (sym is)
              (wants takes waiting idle rests is_done is_starved (link_reads link_now) (link_writes link_now) machine_now nothing_moved
              (subst (λ m. idle m × (0 < takes m) × (waiting m ≡ [])) (sym (left ∙ same)) some) stopped),
          refl,
        ),
        omega arith,
      )

      stops_so : (p : Piece) → piece ≡ p → (piece ≢ pieces.Went) → Answer p
      stops_so p e not = let found = stops not in subst Answer (sym found.2 ∙ e) (stays found.0 found.1)

      not_went : (fate : Fate) → piece ≡ pieces.Stops fate → piece ≢ pieces.Went
      not_went fate e f = search rules

      not_went_either : piece ≡ pieces.Followed → piece ≢ pieces.Went
      not_went_either e f = search rules

      by_piece : (p : Piece) → piece ≡ p → Answer p
      by_piece pieces.Went e = ended (went e)
      by_piece pieces.Followed e = stops_so pieces.Followed e (not_went_either e)
      by_piece (pieces.Stops fate) e = stops_so (pieces.Stops fate) e (not_went fate e)

-- more was done
pub done_more : (n : ℕ) (first later : Moved) → n ≤ done_by first → 0 < done_by later → n + 1 ≤ done_by (followed_by first later)
done_more n first later before some =
    omega (arith, before, some, length-append first.read later.read, length-append first.sent later.sent, length-append first.steps later.steps)

-- bytes come behind what is taken in one piece of work of a turn at most
pub behind_once : (a b len : ℕ) (flag flag_now closed closed_now : Bool) → a ≤ len → b ≤ len → ((flag ≡ true) ↔ (0 < a)) → (0 < a → closed ≡ true)
    → (closed ≡ true → (b ≡ 0) × (closed_now ≡ true)) → ((b ≡ 0) × (flag_now ≡ flag)) ⊎ ((0 < b) × (closed_now ≡ true) × (flag_now ≡ true))
    → (a + b ≤ len) × ((flag_now ≡ true) ↔ (0 < a + b)) × (0 < a + b → closed_now ≡ true)
behind_once a b len flag flag_now closed closed_now most more is before stays (inl none) = (
  omega (arith, most, none.0),
  (λ set. omega (arith, is.0 (sym none.1 ∙ set)), λ some. none.1 ∙ is.1 (omega (arith, some, none.0))),
  λ some. (stays (before (omega (arith, some, none.0)))).1,
)
behind_once zero b len flag flag_now closed closed_now most more is before stays (inr some) =
    (omega (arith, more), (λ set. omega (arith, some.0), λ sum. some.2), λ sum. some.1)
behind_once (suc a) b len flag flag_now closed closed_now most more is before stays (inr some) =
    absurd (omega (arith, some.0, (stays (before (omega arith))).0))

module _ {S H M : Type 0} {remaining contents : S → Option (List ℕ)} {moves : H → H → M → M → Moved → Type 0} (is_closed : M → Bool) where
  -- a turn goes on with one more piece of work
  pub turns_on : {link mid link_now : Link S} {host between host_now : H} {machine part machine_now : M} {past past_mid past_now : Moved} (pieces len len_now : ℕ) (flag flag_now : Bool) (first later : Moved)
      → (moves host between machine part first → moves between host_now part machine_now later → moves host host_now machine machine_now (followed_by first later))
      → (is_closed part ≡ true → moves between host_now part machine_now later → (later.read ≡ []) × (later.behind ≡ 0) × (is_closed machine_now ≡ true)) → len_now ≡ len
      → HasMoved remaining contents moves link mid host between machine part past past_mid first × (pieces ≤ done_by first) × (first.behind ≤ len) × ((flag ≡ true) ↔ (0 < first.behind))
      × (0 < first.behind → is_closed part ≡ true)
      → HasMoved remaining contents moves mid link_now between host_now part machine_now past_mid past_now later → later.behind ≤ len → 0 < done_by later
      → ((later.behind ≡ 0) × (flag_now ≡ flag)) ⊎ ((0 < later.behind) × (is_closed machine_now ≡ true) × (flag_now ≡ true))
      → (moved : Moved) × HasMoved remaining contents moves link link_now host host_now machine machine_now past past_now moved × (pieces + 1 ≤ done_by moved) × (moved.behind ≤ len_now)
      × ((flag_now ≡ true) ↔ (0 < moved.behind)) × (0 < moved.behind → is_closed machine_now ≡ true)
  turns_on {part = part} {machine_now = machine_now} pieces len len_now flag flag_now first later on closes same before more bound some adds =
      let behind = behind_once first.behind later.behind len flag flag_now (is_closed part) (is_closed machine_now) before.2 bound before.3 before.4
      (λ is. ((closes is more.goes).1, (closes is more.goes).2)) adds in (
        followed_by first later,
        moved_then on before.0 more,
        done_more pieces first later before.1 some,
        omega (arith, behind.0, same),
        behind.1,
        behind.2,
      )
