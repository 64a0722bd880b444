-- What went over a link, one piece of work after another.
use Rattle.std.proofs.Common.{◌≡◌, ◌<◌, ◌+◌, ℕ, zero, suc, Option, Some, None, List, [], ◌∷◌, ◌++◌, length, refl, ap, sym, ◌∙◌, subst, append_assoc, append-nil, length-append, arith}
use Rattle.std.proofs.KnownBytes.{Appends-nil, Appends-trans, Consumes-nil, Consumes-trans}
use Rattle.std.specs.Io.KnownBytes.{Appends, Consumes, IsAtEnd}
use Rattle.std.specs.Prelude.{IfSome}
use Rattle.web_call.specs.Answer.{Source}
use Rattle.reactor.specs.declared.link.Link.{Link}
use Rattle.reactor.specs.Link.{link_stream}
use Rattle.reactor.specs.Moved.{Moved, followed_by, nothing_moved, only_ended, only_read, only_sent}
use Rattle.reactor.specs.Turn.{HasMoved}

-- a list that is as long behind more is followed by none
none_more : (xs more : List ℕ) → xs ≡ xs ++ more → more ≡ []
none_more xs [] same = refl
none_more xs (c ∷ more) same = absurd (omega (arith, ap length same, length-append xs (c ∷ more)))

none_first : (xs more : List ℕ) → [] ≡ xs ++ more → xs ≡ []
none_first [] more none = refl
none_first (c ∷ xs) more none = absurd (omega (arith, ap length none))

-- what comes behind an end is nothing
none_behind_end : (b c : Option (List ℕ)) (rest ys : List ℕ) → b ≡ Some rest → rest ≡ [] → Consumes b c ys → ys ≡ []
none_behind_end None c rest ys is none has_read = absurd (no_some is)
  where
    no_some : None ≡ Some rest → ⊥
    no_some e = grind (arith, e)
none_behind_end (Some bytes) None rest ys is none has_read = absurd has_read
none_behind_end (Some bytes) (Some left) rest ys is none has_read = none_first ys left (sym (the_bytes is ∙ none) ∙ has_read)
  where
    the_bytes : Some bytes ≡ Some rest → bytes ≡ rest
    the_bytes e = grind (arith, e)

-- all bytes were read in two pieces of work
all_in_two : (a b c : Option (List ℕ)) (xs ys : List ℕ) (first second : ℕ) → 0 < first + second → Consumes a b xs → Consumes b c ys
    → (0 < first → IfSome a (λ bytes. bytes ≡ xs)) → (0 < second → IfSome b (λ bytes. bytes ≡ ys)) → IfSome a (λ bytes. bytes ≡ xs ++ ys)
all_in_two None b c xs ys first second is read more all later = tt
all_in_two (Some bytes) None c xs ys first second is read more all later = absurd read
all_in_two (Some bytes) (Some rest) c xs ys (suc first) second is read more all later =
    let ended = all (omega arith) in
    let none = none_behind_end (Some rest) c rest ys refl (none_more xs rest (sym ended ∙ read)) more in
    ended ∙ (sym (append-nil xs) ∙ ap (λ l. xs ++ l) (sym none))
all_in_two (Some bytes) (Some rest) c xs ys zero second is read more all later = read ∙ ap (λ l. xs ++ l) (later (omega (arith, is)))

-- nothing was read at an end, so that all was
pub all_read : (a b : Option (List ℕ)) → Consumes a b [] → IsAtEnd b → IfSome a (λ bytes. bytes ≡ [])
all_read None b has_read end = tt
all_read (Some bytes) None has_read end = absurd has_read
all_read (Some bytes) (Some rest) has_read end = has_read ∙ end

-- what is moved behind nothing, before nothing, and in three parts
plus_none : (n : ℕ) → 0 + n ≡ n
plus_none n = omega arith

moved_as : {read read_now sent sent_now : List ℕ} {behind behind_now ends ends_now : ℕ} {steps steps_now : List Source} → read ≡ read_now → behind ≡ behind_now
    → sent ≡ sent_now → steps ≡ steps_now → ends ≡ ends_now
    → ◌≡◌ {A = Moved} (record { read = read; behind = behind; sent = sent; steps = steps; ends = ends })
    (record { read = read_now; behind = behind_now; sent = sent_now; steps = steps_now; ends = ends_now })
moved_as {read} {read_now} {sent} {sent_now} {behind} {behind_now} {ends} {ends_now} {steps} {steps_now} a b c d e =
    ap (λ l. record { read = l; behind = behind; sent = sent; steps = steps; ends = ends }) a
    ∙ (ap (λ n. record { read = read_now; behind = n; sent = sent; steps = steps; ends = ends }) b
    ∙ (ap (λ l. record { read = read_now; behind = behind_now; sent = l; steps = steps; ends = ends }) c
    ∙ (ap (λ l. record { read = read_now; behind = behind_now; sent = sent_now; steps = l; ends = ends }) d
    ∙ ap (λ n. record { read = read_now; behind = behind_now; sent = sent_now; steps = steps_now; ends = n }) e)))

pub nothing_first : (moved : Moved) → followed_by nothing_moved moved ≡ moved
nothing_first moved = moved_as refl (plus_none moved.behind) refl refl (plus_none moved.ends)

pub nothing_last : (moved : Moved) → followed_by moved nothing_moved ≡ moved
nothing_last moved = moved_as (append-nil moved.read) (omega arith) (append-nil moved.sent) (append-nil moved.steps) (omega arith)

pub in_parts : (first mid later : Moved) → followed_by (followed_by first mid) later ≡ followed_by first (followed_by mid later)
in_parts first mid later =
    moved_as (append_assoc first.read mid.read later.read) (omega arith) (append_assoc first.sent mid.sent later.sent) (append_assoc first.steps mid.steps later.steps) (omega arith)

-- a past that grows, and grows again
pub grows_again : (past mid now first later : Moved) → mid ≡ followed_by past first → now ≡ followed_by mid later → now ≡ followed_by past (followed_by first later)
grows_again past mid now first later one two = two ∙ (ap (λ p. followed_by p later) one ∙ in_parts past first later)

-- a past that stays
pub grows_none : {past now : Moved} → now ≡ past → now ≡ followed_by past nothing_moved
grows_none {past} same = same ∙ sym (nothing_last past)

module _ {S H M : Type 0} {remaining contents : S → Option (List ℕ)} {moves : H → H → M → M → Moved → Type 0} where
  -- nothing went over the link
  pub moved_still : {link : Link S} {host host_now : H} {machine machine_now : M} {past past_now : Moved} (steps : List Source)
      → moves host host_now machine machine_now (record { read = []; behind = 0; sent = []; steps = steps; ends = 0 })
      → past_now ≡ followed_by past (record { read = []; behind = 0; sent = []; steps = steps; ends = 0 })
      → HasMoved remaining contents moves link link host host_now machine machine_now past past_now (record { read = []; behind = 0; sent = []; steps = steps; ends = 0 })
  moved_still {link = link} steps goes grows = record {
    has_read = Consumes-nil (remaining (link_stream link));
    wrote = Appends-nil (contents (link_stream link));
    goes = goes;
    grows = grows;
    at_end = λ is. absurd (omega (arith, is));
  }

  -- bytes were sent
  pub moved_sent : {link link_now : Link S} {host : H} {machine machine_now : M} {past past_now : Moved} (sent : List ℕ)
      → Appends (contents (link_stream link)) (contents (link_stream link_now)) sent → remaining (link_stream link_now) ≡ remaining (link_stream link)
      → moves host host machine machine_now (only_sent sent) → past_now ≡ followed_by past (only_sent sent)
      → HasMoved remaining contents moves link link_now host host machine machine_now past past_now (only_sent sent)
  moved_sent {link = link} sent wrote same goes grows = record {
    has_read = subst (λ r. Consumes (remaining (link_stream link)) r []) (sym same) (Consumes-nil (remaining (link_stream link)));
    wrote = wrote;
    goes = goes;
    grows = grows;
    at_end = λ is. absurd (omega (arith, is));
  }

  -- a call over the link has stopped
  pub moved_none : {link link_now : Link S} {host host_now : H} {machine machine_now : M} {past past_now : Moved} → Consumes (remaining (link_stream link)) (remaining (link_stream link_now)) []
      → Appends (contents (link_stream link)) (contents (link_stream link_now)) [] → moves host host_now machine machine_now nothing_moved → past_now ≡ past
      → HasMoved remaining contents moves link link_now host host_now machine machine_now past past_now nothing_moved
  moved_none has_read wrote goes same = record { has_read = has_read; wrote = wrote; goes = goes; grows = grows_none same; at_end = λ is. absurd (omega (arith, is)) }

  -- bytes were read
  pub moved_read : {link link_now : Link S} {host : H} {machine machine_now : M} {past past_now : Moved} (bytes : List ℕ) (behind : ℕ)
      → Consumes (remaining (link_stream link)) (remaining (link_stream link_now)) bytes → contents (link_stream link_now) ≡ contents (link_stream link)
      → moves host host machine machine_now (only_read bytes behind) → past_now ≡ followed_by past (only_read bytes behind)
      → HasMoved remaining contents moves link link_now host host machine machine_now past past_now (only_read bytes behind)
  moved_read {link = link} bytes behind has_read same goes grows = record {
    has_read = has_read;
    wrote = subst (λ r. Appends (contents (link_stream link)) r []) (sym same) (Appends-nil (contents (link_stream link)));
    goes = goes;
    grows = grows;
    at_end = λ is. absurd (omega (arith, is));
  }

  -- the end of the input was found
  pub moved_ended : {link link_now : Link S} {host : H} {machine machine_now : M} {past past_now : Moved} → Consumes (remaining (link_stream link)) (remaining (link_stream link_now)) []
      → IsAtEnd (remaining (link_stream link_now)) → Appends (contents (link_stream link)) (contents (link_stream link_now)) []
      → moves host host machine machine_now only_ended → past_now ≡ followed_by past only_ended
      → HasMoved remaining contents moves link link_now host host machine machine_now past past_now only_ended
  moved_ended has_read end wrote goes grows = record { has_read = has_read; wrote = wrote; goes = goes; grows = grows; at_end = λ is. all_read _ _ has_read end }

  -- one piece of work after another
  pub moved_then : {link mid link_now : Link S} {host between host_now : H} {machine part machine_now : M} {past past_mid past_now moved more : Moved}
      (on : moves host between machine part moved → moves between host_now part machine_now more → moves host host_now machine machine_now (followed_by moved more))
      → HasMoved remaining contents moves link mid host between machine part past past_mid moved
      → HasMoved remaining contents moves mid link_now between host_now part machine_now past_mid past_now more
      → HasMoved remaining contents moves link link_now host host_now machine machine_now past past_now (followed_by moved more)
  moved_then {past = past} {past_mid = past_mid} {past_now = past_now} {moved = moved} {more = more} on first second = record {
    has_read = Consumes-trans _ _ _ moved.read more.read first.has_read second.has_read;
    wrote = Appends-trans _ _ _ moved.sent more.sent first.wrote second.wrote;
    goes = on first.goes second.goes;
    grows = grows_again past past_mid past_now moved more first.grows second.grows;
    at_end = λ is. all_in_two _ _ _ moved.read more.read moved.ends more.ends is first.has_read second.has_read first.at_end second.at_end;
  }

  -- a piece of work behind a step that moved nothing
  pub moved_behind : {link link_now : Link S} {host host_now : H} {machine part machine_now : M} {past past_mid past_now moved : Moved}
      (on : moves host host_now machine part nothing_moved → moves host_now host_now part machine_now moved
      → moves host host_now machine machine_now (followed_by nothing_moved moved)) → moves host host_now machine part nothing_moved
      → past_mid ≡ followed_by past nothing_moved
      → HasMoved remaining contents moves link link_now host_now host_now part machine_now past_mid past_now moved
      → HasMoved remaining contents moves link link_now host host_now machine machine_now past past_now moved
  moved_behind {host = host} {host_now = host_now} {machine = machine} {machine_now = machine_now} {past = past} {moved = moved} on stepped same later = record {
    has_read = later.has_read;
    wrote = later.wrote;
    goes = subst (moves host host_now machine machine_now) (nothing_first moved) (on stepped later.goes);
    grows = later.grows ∙ ap (λ p. followed_by p moved) (same ∙ nothing_last past);
    at_end = later.at_end;
  }
