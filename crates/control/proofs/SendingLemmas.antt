-- Bytes that several calls of a writer took, one behind the other.
use Rattle.std.proofs.Common.{ℕ, ◌+◌, ◌-◌, ◌≤◌, Option, List, length, take, drop, sym, ap, subst, length-take, length-drop, take_all, arith}
use Rattle.std.specs.Prelude.{Result, Ok, Err, OnOk, OnErr}
use Rattle.std.proofs.KnownBytes.{Appends-trans, Appends-kept}
use Rattle.std.proofs.Math.Seq.{take-add}
use Rattle.std.proofs.lemmas.List.{take-append-drop, take_rest}
use Rattle.std.specs.Io.KnownBytes.{Appends, Keeps}
use Rattle.control.specs.Tell.{AppendsFront}

-- the front of a text was written
pub record IsSent (old new : Option (List ℕ)) (text : List ℕ) (taken : ℕ) : Type 0 where
  pub within : taken ≤ length text
  pub written : Appends old new (take taken text)

-- a write appended the first bytes of what was left
pub Appends-more : (a b c : Option (List ℕ)) (text : List ℕ) (taken count : ℕ) → Appends a b (take taken text)
    → Appends b c (take count (take (length text - taken) (drop taken text))) → Appends a c (take (taken + count) text)
Appends-more a b c text taken count written more =
    let left = ap (take count) (take_rest text taken) in
    let joined = Appends-trans a b c _ _ written (subst (Appends b c) left more) in
    subst (Appends a c) (sym (take-add taken count text)) joined

-- what was sent is a front of the text
pub sent_front : (a b c : Option (List ℕ)) (text : List ℕ) (taken : ℕ) → Appends a b (take taken text) → Keeps b c → AppendsFront a c text
sent_front a b c text taken written kept = record {
  front = take taken text;
  rest = drop taken text;
  parts = sym (take-append-drop taken text);
  appended = Appends-kept a b c (take taken text) written kept;
}

-- what was written is a front of the text
pub front_of : (a c : Option (List ℕ)) (text : List ℕ) (taken : ℕ) → Appends a c (take taken text) → AppendsFront a c text
front_of a c text taken written = record {
  front = take taken text;
  rest = drop taken text;
  parts = sym (take-append-drop taken text);
  appended = written;
}

-- a write took no more than was left
pub within_more : (text : List ℕ) (taken count : ℕ) → taken ≤ length text → count ≤ length (take (length text - taken) (drop taken text)) → taken + count ≤ length text
within_more text taken count within bound =
    omega (arith, within, simp (length-take, length-drop) at bound)

-- a call that failed appended nothing to what was sent
pub failed_front : {V E : Type 0} (r : Result V E) (a b c : Option (List ℕ)) (text : List ℕ) (taken : ℕ) → Appends a b (take taken text) → Keeps b c
    → OnErr r (AppendsFront a c text)
failed_front (Ok v) a b c text taken written kept = tt
failed_front (Err e) a b c text taken written kept = sent_front a b c text taken written kept

-- the whole text was sent
pub sent_whole : {V E : Type 0} (r : Result V E) (a b c : Option (List ℕ)) (text : List ℕ) (taken : ℕ) → Appends a b (take taken text) → Keeps b c
    → length text ≤ taken → OnOk r (Appends a c text)
sent_whole (Ok v) a b c text taken written kept whole = Appends-kept a b c text (subst (Appends a b) (take_all taken text whole) written) kept
sent_whole (Err e) a b c text taken written kept whole = tt
