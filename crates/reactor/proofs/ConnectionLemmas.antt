-- What is thrown away of what comes in, and what a turn of a connection comes to.
use Rattle.std.proofs.Common.{◌≡◌, ℕ, List, [], ◌++◌, Bool, Option, false, true, refl, sym, ◌∙◌, subst, true≢false}
use Rattle.std.proofs.KnownBytes.{Appends-nil, Consumes-nil, Consumes-trans}
use Rattle.std.specs.Io.KnownBytes.{Appends, Consumes}
use Rattle.std.specs.declared.time.Instant.{Instant}
use Rattle.web_call.specs.declared.exchanging.Why.{Why}
use Rattle.reactor.specs.declared.connection.Connection.{Connection}
use Rattle.reactor.specs.declared.connection.End.TheVariants as ends
use Rattle.reactor.specs.declared.connection.Left.{Left}
use Rattle.reactor.specs.declared.connection.Left.TheVariants as lefts
use Rattle.reactor.specs.declared.link.Link.{Link}
use Rattle.reactor.specs.Connection.{ConnectionHasServed, ConnectionState, HasThrown, may_look_at, stream_of}
use Rattle.reactor.specs.Link.{link_stream}
use Rattle.reactor.specs.Moved.{Moved, nothing_moved}
use Rattle.reactor.specs.Times.{HasTime}
use Rattle.reactor.specs.Turn.{HasMoved}
use Rattle.reactor.proofs.MovedLemmas.{grows_none}

module _ {S M : Type 0} {remaining contents : S → Option (List ℕ)} where
  pub thrown_none : {g : _} {old new : Connection S M g} → remaining (stream_of new) ≡ remaining (stream_of old) → contents (stream_of new) ≡ contents (stream_of old)
      → HasThrown remaining contents old new []
  thrown_none {old} input output = record {
    has_read = subst (λ r. Consumes (remaining (stream_of old)) r []) (sym input) (Consumes-nil (remaining (stream_of old)));
    kept = output;
  }

  pub thrown_then : {g : _} {old mid new : Connection S M g} {thrown more : List ℕ} → HasThrown remaining contents old mid thrown → HasThrown remaining contents mid new more
      → HasThrown remaining contents old new (thrown ++ more)
  thrown_then {thrown = thrown} {more = more} first second = record {
    has_read = Consumes-trans _ _ _ thrown more first.has_read second.has_read;
    kept = second.kept ∙ first.kept;
  }

  pub thrown_from : {g : _} {old mid new : Connection S M g} {thrown : List ℕ} → remaining (stream_of mid) ≡ remaining (stream_of old) → contents (stream_of mid) ≡ contents (stream_of old)
      → HasThrown remaining contents mid new thrown → HasThrown remaining contents old new thrown
  thrown_from {new = new} {thrown = thrown} input output later = record {
    has_read = subst (λ r. Consumes r (remaining (stream_of new)) thrown) input later.has_read;
    kept = later.kept ∙ output;
  }

module _ {S H M : Type 0} {remaining contents : S → Option (List ℕ)} {moves : H → H → M → M → Moved → Type 0} {is_done : M → Type 0} {waiting : M → List ℕ} where
  -- the machine had a turn, and then bytes were thrown away
  pub served_so : {g : _} {old mid new : Connection S M g} {link link_now : Link S} {host host_now : H} {machine_now : M} {past_now moved : Moved} (left : Left) (thrown : List ℕ)
      → link_stream link ≡ stream_of old → HasMoved remaining contents moves link link_now host host_now old.machine machine_now old.past.moved past_now moved → new.machine ≡ machine_now
      → new.past.moved ≡ past_now
      → remaining (stream_of mid) ≡ remaining (link_stream link_now) → contents (stream_of mid) ≡ contents (link_stream link_now)
      → HasThrown remaining contents mid new thrown → (left ≡ lefts.Over ends.Done → ⊥) → new.is_draining ≡ false
      → ConnectionHasServed remaining contents moves is_done waiting old new host host_now left moved thrown
  served_so {old = old} {new = new} {link_now = link_now} {host = host} {host_now = host_now} {moved = moved} left thrown same turned is grown input output more undone talks = record {
    has_read = Consumes-trans _ (remaining (link_stream link_now)) _ moved.read thrown
        (subst (λ s. Consumes (remaining s) (remaining (link_stream link_now)) moved.read) same turned.has_read)
        (subst (λ r. Consumes r (remaining (stream_of new)) thrown) input more.has_read);
    wrote = subst (λ r. Appends (contents (stream_of old)) r moved.sent) (sym (more.kept ∙ output))
        (subst (λ s. Appends (contents s) (contents (link_stream link_now)) moved.sent) same turned.wrote);
    goes = subst (λ m. moves host host_now old.machine m moved) (sym is) turned.goes;
    grows = grown ∙ turned.grows;
    done = λ over. absurd (undone over);
    drains = λ drained. absurd (true≢false (sym drained ∙ talks));
  }

  -- the machine had its last turn
  pub served_done : {g : _} {old mid new : Connection S M g} {link link_now : Link S} {host host_now : H} {machine_now : M} {past_now moved : Moved} (left : Left) (thrown : List ℕ)
      → link_stream link ≡ stream_of old → HasMoved remaining contents moves link link_now host host_now old.machine machine_now old.past.moved past_now moved → new.machine ≡ machine_now
      → new.past.moved ≡ past_now
      → remaining (stream_of mid) ≡ remaining (link_stream link_now) → contents (stream_of mid) ≡ contents (link_stream link_now)
      → HasThrown remaining contents mid new thrown → is_done machine_now × (waiting machine_now ≡ [])
      → ConnectionHasServed remaining contents moves is_done waiting old new host host_now left moved thrown
  served_done {old = old} {new = new} {link_now = link_now} {host = host} {host_now = host_now} {moved = moved} left thrown same turned is grown input output more finished = record {
    has_read = Consumes-trans _ (remaining (link_stream link_now)) _ moved.read thrown
        (subst (λ s. Consumes (remaining s) (remaining (link_stream link_now)) moved.read) same turned.has_read)
        (subst (λ r. Consumes r (remaining (stream_of new)) thrown) input more.has_read);
    wrote = subst (λ r. Appends (contents (stream_of old)) r moved.sent) (sym (more.kept ∙ output))
        (subst (λ s. Appends (contents s) (contents (link_stream link_now)) moved.sent) same turned.wrote);
    goes = subst (λ m. moves host host_now old.machine m moved) (sym is) turned.goes;
    grows = grown ∙ turned.grows;
    done = λ over. subst (λ m. is_done m × (waiting m ≡ [])) (sym is) finished;
    drains = λ drained. subst (λ m. is_done m × (waiting m ≡ [])) (sym is) finished;
  }

  -- the machine had no turn
  pub served_none : {g : _} {old new : Connection S M g} {host : H} (left : Left) (thrown : List ℕ) → moves host host old.machine old.machine nothing_moved → new.machine ≡ old.machine
      → new.past.moved ≡ old.past.moved
      → HasThrown remaining contents old new thrown → (left ≡ lefts.Over ends.Done → ⊥) → new.is_draining ≡ false
      → ConnectionHasServed remaining contents moves is_done waiting old new host host left nothing_moved thrown
  served_none {old = old} {host = host} left thrown stays is same more undone talks = record {
    has_read = more.has_read;
    wrote = subst (λ r. Appends (contents (stream_of old)) r []) (sym more.kept) (Appends-nil (contents (stream_of old)));
    goes = subst (λ m. moves host host old.machine m nothing_moved) (sym is) stays;
    grows = grows_none same;
    done = λ over. absurd (undone over);
    drains = λ drained. absurd (true≢false (sym drained ∙ talks));
  }

-- a connection that goes on, or is given up, is not done
pub ready_undone : lefts.Ready ≡ lefts.Over ends.Done → ⊥
ready_undone over = cc

pub given_up_undone : (why : Why) → lefts.Over (ends.GivenUp why) ≡ lefts.Over ends.Done → ⊥
given_up_undone why over = cc

-- one whose end was reached is told no change
pub draining_looks_not : {M : Type 0} (watches : M → Bool) (waiting : M → List ℕ) (state : ConnectionState M) → state.is_draining ≡ true → may_look_at watches waiting state ≡ false
draining_looks_not watches waiting state drains = rw drains refl

-- the time that a machine was given is what it has, where only the stream is used behind that
pub time_given : {M : Type 0} {takes : M → ℕ} {waiting : M → List ℕ} {hurries : Bool} {now : Instant} {before : Option Instant} (noted renewed new : ConnectionState M)
    → noted.until ≡ before → HasTime takes waiting hurries now noted.machine noted.until renewed.until → renewed.machine ≡ noted.machine → new ≡ renewed
    → HasTime takes waiting hurries now new.machine before new.until
time_given {takes} {waiting} {hurries} {now} {before} noted renewed new same time kept is =
    let from_before = subst (λ b. HasTime takes waiting hurries now noted.machine b renewed.until) same time in
    let of_machine = subst (λ m. HasTime takes waiting hurries now m before renewed.until) (sym kept) from_before in
    subst (λ s. HasTime takes waiting hurries now s.machine before s.until) (sym is) of_machine
