-- What a conversation has moved.
use Rattle.reactor.specs.declared.past.Part.{Part}
use Rattle.reactor.specs.declared.past.Part.TheVariants as parts
use Rattle.reactor.specs.Moved.{Moved, only_ended, only_read, only_sent}

-- what is moved at once
abbrev pub part_of : Part → Moved
part_of (parts.Read bytes behind) = only_read bytes.now behind
part_of (parts.Sent bytes) = only_sent bytes.now
part_of parts.Ended = only_ended
