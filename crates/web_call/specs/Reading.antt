-- How far a request has been read, apart from its bytes.
use Rattle.std.specs.Prelude.{ℕ, ◌+◌, ◌-◌, Bool, true, false}
use Rattle.web_call.specs.declared.intake.Reading.{Reading}
use Rattle.web_call.specs.declared.intake.Reading.TheVariants.{Head, Body, Whole, Starved}
use Rattle.web_call.specs.HeadAnswer.{max_body_len}
use Rattle.web_call.specs.InputHead.{max_head_len}

-- bytes are wanted
abbrev pub is_open : Reading → Bool
is_open Head = true
is_open (Body left) = true
is_open Whole = false
is_open Starved = false

-- how many bytes are wanted at least
abbrev pub wanted : Reading → ℕ
wanted Head = 1
wanted (Body left) = left
wanted Whole = 0
wanted Starved = 0

-- the same, and 1 where none is
abbrev pub some_wanted : Reading → ℕ
some_wanted Head = 1
some_wanted (Body left) = left
some_wanted Whole = 1
some_wanted Starved = 1

-- how many bytes of the head are wanted at least
abbrev pub head_wanted : Reading → ℕ
head_wanted Head = 1
head_wanted (Body left) = 0
head_wanted Whole = 0
head_wanted Starved = 0

-- how many bytes of the body are to come, once the head is whole
abbrev pub body_left : Reading → ℕ
body_left Head = 0
body_left (Body left) = left
body_left Whole = 0
body_left Starved = 0

-- how many bytes may come yet at most, where the head has so many
abbrev pub owed : Reading → ℕ → ℕ
owed Head len = (max_head_len - len) + max_body_len
owed (Body left) len = left
owed Whole len = 0
owed Starved len = 0

-- the request is whole
abbrev pub is_whole : Reading → Bool
is_whole Head = false
is_whole (Body left) = false
is_whole Whole = true
is_whole Starved = false

-- the allocation for the body failed
abbrev pub starves : Reading → Bool
starves Head = false
starves (Body left) = false
starves Whole = false
starves Starved = true
