-- Seats that only look, one look after the other.
use Rattle.std.proofs.Common.{List, ◌++◌, ap, sym, ◌∙◌}
use Rattle.std.proofs.lemmas.List.{append_assoc}
use Rattle.desk_core.specs.declared.entry.Entry.{Entry}
use Rattle.desk_core.specs.Watch.{IsOlder}
use Rattle.hall.specs.Seats.{SeatState, with_seen}
use Rattle.hall.specs.Looking.{HasLooked}

-- what begins a beginning of a history begins the history
pub older_on : (first second third : List Entry) → IsOlder first second → IsOlder second third → IsOlder first third
older_on first second third p q =
    record { newer = q.newer ++ p.newer; is = q.is ∙ (ap (λ (es : List Entry). q.newer ++ es) p.is ∙ sym (append_assoc q.newer p.newer first)) }

-- a seat that looked twice has looked
pub looked_on : (a b c : SeatState) → HasLooked a b → HasLooked b c → HasLooked a c
looked_on a b c p q = record {
  same = q.same ∙ ap (λ (x : SeatState). with_seen x c.seen) p.same;
  begins = older_on a.seen b.seen c.seen p.begins q.begins;
  own = q.own ∙ p.own;
}
