-- A body in chunks (RFC 9112, section 7.1).
use Rattle.std.specs.Prelude.{ℕ, ◌≡◌, ◌<◌, List, ◌++◌, length, codes, All}
use Rattle.std.specs.List.{flat_map}
use Rattle.httparse.specs.Grammar.{ChunkLine, IsChunkLine, print_chunk_line, chunk_size}

-- a chunk: its line, and its data
pub record Chunk : Type 0 where
  pub line : ChunkLine
  pub payload : List ℕ

-- a line of the grammar tells the length of the data, and there is some: a chunk of size 0 would be the last one
pub record IsChunk (chunk : Chunk) : Type 0 where
  pub is_line : IsChunkLine chunk.line
  pub size : chunk_size chunk.line ≡ length chunk.payload
  pub some : 0 < length chunk.payload

-- the bytes of a chunk: its line, which ends in CR LF, its data, and CR LF
abbrev pub chunk_text : Chunk → List ℕ
chunk_text chunk = print_chunk_line chunk.line ++ chunk.payload ++ codes "\r\n"

-- the bytes are whole chunks with this data in them, one behind the other, and then the rest
pub record AreChunks (bytes content rest : List ℕ) : Type 0 where
  pub chunks : List Chunk
  pub each : All IsChunk chunks
  pub parts : bytes ≡ flat_map chunk_text chunks ++ rest
  pub content_is : content ≡ flat_map (λ chunk. chunk.payload) chunks
