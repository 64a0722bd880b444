-- How far the body of a response has come, and the content that has come with it (RFC 9112, sections 6 and 7.1).
use Rattle.std.specs.Prelude.{ℕ, ◌≡◌, ◌≢◌, ◌+◌, ◌-◌, ◌*◌, ◌<◌, ◌≤◌, Bool, true, false, List, [], ◌++◌, length, codes}
use Rattle.httparse.specs.Grammar.{ChunkLine, IsChunkLine, print_chunk_line, chunk_size, HasNoChunkLine, NeverHasChunkLine, MayBecomeChunkLine}
use Rattle.client.specs.declared.http_framing.Framing.{Framing}
use Rattle.client.specs.declared.http_framing.Framing.TheVariants.{Chunked, Length}
use Rattle.client.specs.declared.response_body.Next.{Next}
use Rattle.client.specs.declared.response_body.Next.TheVariants.{Line, Data, End, Last}
use Rattle.client.specs.Chunks.{AreChunks}

-- the longest line of a chunk, with its CR LF, which is this client's limit
abbrev pub max_line_len : ℕ
max_line_len = 64

-- the most bytes of content that a body may have
abbrev pub most_content : Framing → ℕ
most_content (Chunked most) = most
most_content (Length len) = len

-- chunks have come, and of the next one's line these bytes, with which it may still become one
pub record IsInLine (bytes content part : List ℕ) : Type 0 where
  pub chunks : AreChunks bytes content part
  pub none : HasNoChunkLine part
  pub may : MayBecomeChunkLine part
  pub short : length part < max_line_len

-- chunks have come, and of the next one the line, all data but so many bytes, and what comes behind
pub record IsInChunk (bytes content : List ℕ) (left : ℕ) (behind : List ℕ) : Type 0 where
  pub before : List ℕ
  pub line : ChunkLine
  pub payload : List ℕ
  pub chunks : AreChunks bytes before (print_chunk_line line ++ payload ++ behind)
  pub is_line : IsChunkLine line
  pub size : length payload + left ≡ chunk_size line
  pub some : 0 < chunk_size line
  pub content_is : content ≡ before ++ payload

-- behind all data of a chunk fewer than two bytes have come
pub record IsBehindData (bytes content part : List ℕ) : Type 0 where
  pub chunk : IsInChunk bytes content 0 part
  pub short : length part < 2

-- chunks have come, and the line of the last one, which has no data
pub record IsAtLastChunk (bytes content : List ℕ) (left : ℕ) : Type 0 where
  pub line : ChunkLine
  pub chunks : AreChunks bytes content (print_chunk_line line)
  pub is_line : IsChunkLine line
  pub none : chunk_size line ≡ 0
  pub no_more : left ≡ 0

-- all bytes are content, and so many are left
pub record IsWithinLength (len : ℕ) (bytes content : List ℕ) (left : ℕ) : Type 0 where
  pub content_is : content ≡ bytes
  pub size : length bytes + left ≡ len

-- of a body with this framing these bytes have come, and with them this content; then comes what is next
abbrev pub Comes : Framing → List ℕ → List ℕ → Next → Type 0
Comes (Chunked most) bytes content (Line part) = IsInLine bytes content part
Comes (Chunked most) bytes content (Data left) = IsInChunk bytes content left [] × (0 < left)
Comes (Chunked most) bytes content (End part) = IsBehindData bytes content part
Comes (Chunked most) bytes content (Last left) = IsAtLastChunk bytes content left
Comes (Length len) bytes content (Line part) = ⊥
Comes (Length len) bytes content (Data left) = ⊥
Comes (Length len) bytes content (End part) = ⊥
Comes (Length len) bytes content (Last left) = IsWithinLength len bytes content left

-- how many bytes of the chunk, or of the body by its length, are still to come
abbrev pub left_of : Next → ℕ
left_of (Line part) = 0
left_of (Data left) = left
left_of (End part) = 0
left_of (Last left) = left

-- the same, and so many bytes of content may still come at most, among them those of the chunk that has begun
pub record Stands (framing : Framing) (bytes content : List ℕ) (next : Next) (more : ℕ) : Type 0 where
  pub comes : Comes framing bytes content next
  pub most : length content + more ≡ most_content framing
  pub room : left_of next ≤ more

-- a chunk's bytes that nothing can make right: by a line that is none, whatever follows; by a line that has no end within the limit; by
-- a chunk that makes the content longer than so many bytes; by two other bytes than CR LF behind the data
pub data IsBadChunk (most : ℕ) (bytes : List ℕ) : Type 0 where
  NoLine : (content part : List ℕ) → AreChunks bytes content part → NeverHasChunkLine part → IsBadChunk most bytes
  LongLine : (content part : List ℕ) → AreChunks bytes content part → HasNoChunkLine part → max_line_len ≤ length part → IsBadChunk most bytes
  TooMuch : (content : List ℕ) (line : ChunkLine) → AreChunks bytes content (print_chunk_line line) → IsChunkLine line
      → most < length content + chunk_size line → IsBadChunk most bytes
  NoEnd : (content two : List ℕ) → IsInChunk bytes content 0 two → length two ≡ 2 → two ≢ codes "\r\n" → IsBadChunk most bytes

-- a body by its length is no bad one, whatever its bytes
abbrev pub IsBadBody : Framing → List ℕ → Type 0
IsBadBody (Chunked most) bytes = IsBadChunk most bytes
IsBadBody (Length len) bytes = ⊥

-- the next bytes are content
abbrev pub is_content : Next → Bool
is_content (Line part) = false
is_content (Data left) = true
is_content (End part) = false
is_content (Last left) = true

-- what of the next bytes is content
abbrev pub content_of : Next → List ℕ → List ℕ
content_of (Line part) piece = []
content_of (Data left) piece = piece
content_of (End part) piece = []
content_of (Last left) piece = piece

-- how many bytes are taken at once, at most
abbrev pub wanted_by : Next → ℕ
wanted_by (Line part) = 1
wanted_by (Data left) = left
wanted_by (End part) = 2 - length part
wanted_by (Last left) = left

-- how much more is kept of a line or of the end of a chunk, and otherwise some number that is not 0
abbrev pub spare_in : Next → ℕ
spare_in (Line part) = 64 - length part
spare_in (Data left) = left
spare_in (End part) = 2 - length part
spare_in (Last left) = 1

-- at most so many bytes may come yet: of each byte of content a whole line and CR LF
abbrev pub owed_by : Next → ℕ → ℕ
owed_by (Line part) more = 68 * more + (64 - length part)
owed_by (Data left) more = 68 * more
owed_by (End part) more = 68 * more + (67 - length part)
owed_by (Last left) more = 68 * more

-- from one place and with these bytes a body of any framing goes on to another place
abbrev pub GoesOn : Next → ℕ → List ℕ → Next → ℕ → Type 0
GoesOn next more piece next_after more_after =
    (framing : Framing) (bytes content : List ℕ) → Stands framing bytes content next more
    → Stands framing (bytes ++ piece) (content ++ content_of next piece) next_after more_after
