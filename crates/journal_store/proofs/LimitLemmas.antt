-- How long a file may be.
use Rattle.std.proofs.Common.{◌≡◌, ℕ, ◌+◌, ◌*◌, ◌<◌, ◌≤◌, List, length, ap, arith}
use Rattle.std.specs.Prelude.{max}
use Rattle.journal_store.specs.Held.{Held}
use Rattle.journal_store.specs.Preface.{Front}

-- a file that has grown long is not a short one
pub not_short : {P : Type 0} (store : Held) (text : List ℕ) (len limit : ℕ) → text ≡ store.written → limit ≡ store.limit → len ≡ length text → limit < len → length store.written ≤ store.limit → P
not_short store text len limit same bound all long short = absurd (omega (arith, ap length same, bound, all, long, short))

-- where it was put off to write it anew
pub below_later : (old new : List ℕ) (limit : ℕ) → new ≡ old → limit ≡ length old + 1048576 → length new ≤ limit
below_later old new limit same later = omega (arith, ap length same, later)

-- where it was written anew
pub below_twice : (len least limit : ℕ) → limit ≡ max (2 * len) least → len ≤ limit
below_twice len least limit is = omega (arith, is)

-- it has another preface then
pub another_front : {P : Type 0} (start old put renewed new : Front) → old ≡ start → put ≡ old → new ≡ renewed → put.base < renewed.base → new ≡ start → P
another_front start old put renewed new was same is more stays =
    let base = λ (front : Front). front.base in absurd (omega (arith, ap base was, ap base same, ap base is, more, ap base stays))
