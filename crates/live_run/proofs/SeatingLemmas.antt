-- Counting the seats of loops, and of the places beside them.
use Rattle.std.proofs.Common.{◌≡◌, ℕ, ◌+◌, ◌-◌, ◌≤◌, ◌++◌, List, map, length, sym, ap, ◌∙◌, arith}
use Rattle.std.specs.Prelude.{min, Vec, vec_len, vec_capacity}
use Rattle.std.specs.Global.{Global}
use Rattle.std.proofs.lemmas.List.{length-map, length-append}
use Rattle.hall.specs.Seats.{SeatState}
use Rattle.live_server.specs.Loop.{EventServer}
use Rattle.live_run.specs.declared.seating.Seating.{Seating}
use Rattle.live_run.specs.Seating.{AreDivided, IsSeatingOf, IsUndivided}

-- where one seat is the first, and each loop has one, the others are those beside the loops'
others : {S L E : Type 0} (seat : L → S) (server : L → E) (first spare all : List S) (loops : List L) (given : List E) → all ≡ first ++ (map seat loops ++ spare)
    → map server loops ≡ given → length first ≡ 1 → length spare ≡ length all - (1 + length given)
others seat server first spare all loops given whole served one =
    let lengths : length all ≡ length first + (length loops + length spare) =
    ap length whole ∙ (length-append first _ ∙ ap (λ (n : ℕ). length first + n) (length-append (map seat loops) spare ∙ ap (λ (n : ℕ). n + length spare) (length-map loops seat))) in
    let looping : length loops ≡ length given = sym (length-map loops server) ∙ ap length served in
    omega (arith, lengths, looping, one)

parted_count : {S L E : Type 0} (seat : L → S) (server : L → E) (first spare all : List S) (loops : List L) (given : List E) (controlled most : ℕ) → all ≡ first ++ (map seat loops ++ spare)
    → map server loops ≡ given → length first ≡ 1 → controlled ≡ min most (length spare) → controlled ≡ min most (length all - (1 + length given))
parted_count seat server first spare all loops given controlled most whole served one are =
    are ∙ ap (λ (n : ℕ). min most n) (others seat server first spare all loops given whole served one)

parted_room : {S L : Type 0} (seat : L → S) (first spare all control report : List S) (loops : List L) (room : ℕ) → all ≡ first ++ (map seat loops ++ spare)
    → control ++ report ≡ spare → length all ≤ room → length first + (length loops + (length control + length report)) ≤ room
parted_room seat first spare all control report loops room whole parts enough =
    let lengths : length all ≡ length first + (length loops + length spare) =
    ap length whole ∙ (length-append first _ ∙ ap (λ (n : ℕ). length first + n) (length-append (map seat loops) spare ∙ ap (λ (n : ℕ). n + length spare) (length-map loops seat))) in
    let both : length control + length report ≡ length spare = sym (length-append control report) ∙ ap length parts in
    omega (arith, lengths, both, enough)

-- so loops are seated where the seats behind theirs are divided
pub parted : {P K : Type 0} (given : List EventServer) (places : List SeatState) (seating : Seating P K) (both : Vec SeatState Global × Vec SeatState Global) → IsUndivided given places seating
    → AreDivided seating.report.items both → IsSeatingOf given places (record { loops = seating.loops; control = both.0; report = both.1; back = seating.back })
parted given places seating both are parts =
    let first : List SeatState = seating.back.seats.items in
    let looped : List SeatState = map (λ seated. seated.seat) seating.loops.items in
    record {
      seats = ap (λ (spare : List SeatState). first ++ (looped ++ spare)) parts.all ∙ are.seats;
      servers = are.servers;
      room = record {
        first = are.first;
        seats = room_for_seats;
        no_servers = are.no_servers;
        servers = are.room_for_servers;
      };
      control_are = parted_count (λ seated. seated.seat) (λ seated. seated.server) first seating.report.items places seating.loops.items given _ 32 (sym are.seats) are.servers are.first parts.first;
    }
  where
    room_for_seats : vec_len seating.back.seats + (vec_len seating.loops + (vec_len both.0 + vec_len both.1)) ≤ vec_capacity seating.back.seats
    room_for_seats = omega (
      arith,
      parted_room (λ seated. seated.seat) seating.back.seats.items seating.report.items places both.0.items both.1.items seating.loops.items (vec_capacity seating.back.seats)
          (sym are.seats) parts.all are.room,
      seating.back.seats.ok.0,
      seating.loops.ok.0,
      both.0.ok.0,
      both.1.ok.0,
    )
