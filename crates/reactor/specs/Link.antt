-- A link: a stream that does not wait, and how its last read and its last write ended (read and write of std, where a call that would
-- wait returns an error of the kind WouldBlock).
use Rattle.std.specs.Prelude.{Bool, true, false}
use Rattle.reactor.specs.declared.link.Last.{Last}
use Rattle.reactor.specs.declared.link.Last.TheVariants.{Went, Waits, Interrupted, Ended, Failed}
use Rattle.reactor.specs.declared.link.Link.{Link}

-- the stream behind the link
abbrev pub link_stream : {S : Type 0} → Link S → S
link_stream link = link.stream

-- how the last read ended
abbrev pub link_reads : {S : Type 0} → Link S → Last
link_reads link = link.reads

-- how the last write ended
abbrev pub link_writes : {S : Type 0} → Link S → Last
link_writes link = link.writes

-- a read has given bytes
abbrev pub link_has_read : {S : Type 0} → Link S → Bool
link_has_read link = link.has_read

-- the last call moved no byte
abbrev pub has_stopped : Last → Bool
has_stopped Went = false
has_stopped Waits = true
has_stopped Interrupted = true
has_stopped Ended = true
has_stopped Failed = true
