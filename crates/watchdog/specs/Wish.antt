-- What is expected of a service, as one word that threads hand over.
use Rattle.std.specs.Prelude.{ℕ, ◌+◌, ◌-◌, ◌*◌, ◌/◌, ◌%◌, ◌^◌, nat_eq, Option, Some, None, if◌then◌else◌}
use Rattle.watchdog.specs.declared.wish.Wish.{Wish}

-- the word of a wish: one more than its seconds, in front of the 32 bits of its place
abbrev pub word_of : Wish → ℕ
word_of wish = (wish.seconds + 1) * 2 ^ 32 + wish.behind

-- the wish of a word; none where nothing was handed over
abbrev pub wish_in : ℕ → Option Wish
wish_in word = if nat_eq word 0 then None else Some (record { seconds = word / 2 ^ 32 - 1; behind = word % 2 ^ 32 })
