-- How the body of a response goes on.
use Rattle.std.proofs.Common.{ℕ, ◌≡◌, ◌≢◌, ◌+◌, ◌-◌, ◌<◌, ◌≤◌, List, [], ◌∷◌, ◌++◌, length, take, drop, codes, refl, sym, ap, ◌∙◌, subst, arith}
use Rattle.std.proofs.Common.{append_assoc, length-append, add-zero, zero-add, IsTrue, None, inl, inr}
use Rattle.std.proofs.Math.Seq.{take-append_seam, take-append-add}
use Rattle.std.specs.Char.{is_ascii_hexdigit}
use Rattle.std.proofs.lemmas.List.{append-nil, nil_from_length}
use Rattle.std.proofs.lemmas.List.Elements.{All-nil, All-cons, All-append}
use Rattle.std.proofs.lemmas.Grind.{flat_map-append}
use Rattle.std.proofs.Math.Nat.{eq-or-lt_of_le}
use Rattle.std.proofs.Common.{◌⊎◌, zero, suc, Bool, true, false, not, Decides}
use Rattle.std.proofs.lemmas.Slice.Eq.{bytes_eq-Decides}
use Rattle.std.specs.Str.{bytes_eq}
use Rattle.std.specs.List.{flat_map}
use Rattle.httparse.specs.Grammar.{AllPass, is_ows, ChunkLine, IsChunkLine, print_chunk_line, HasNoChunkLine, NeverHasChunkLine, MayBecomeChunkLine}
use Rattle.httparse.specs.Spans.{IsChunkLineAt}
use Rattle.client.specs.declared.http_framing.Framing.{Framing}
use Rattle.client.specs.declared.http_framing.Framing.TheVariants.{Chunked, Length}
use Rattle.client.specs.declared.response_body.Next.{Next}
use Rattle.client.specs.declared.response_body.Next.TheVariants.{Line, Data, End, Last}
use Rattle.client.specs.Chunks.{Chunk, IsChunk, chunk_text, AreChunks}
use Rattle.client.specs.ResponseBody.{IsInChunk, Stands, NoLine, LongLine, TooMuch, NoEnd, IsBadBody, max_line_len}

-- more bytes behind chunks
pub AreChunks-more : (bytes content rest more : List ℕ) → AreChunks bytes content rest → AreChunks (bytes ++ more) content (rest ++ more)
AreChunks-more bytes content rest more are = record {
  chunks = are.chunks;
  each = are.each;
  parts = ap (λ (all : List ℕ). all ++ more) are.parts ∙ append_assoc (flat_map chunk_text are.chunks) rest more;
  content_is = are.content_is;
}

-- the same where the rest is told otherwise
pub AreChunks-rest : (bytes content rest other : List ℕ) → rest ≡ other → AreChunks bytes content rest → AreChunks bytes content other
AreChunks-rest bytes content rest other same are = subst (AreChunks bytes content) same are

-- one chunk more
pub AreChunks-next : (bytes content : List ℕ) (chunk : Chunk) → IsChunk chunk → AreChunks bytes content (chunk_text chunk)
    → AreChunks bytes (content ++ chunk.payload) []
AreChunks-next bytes content chunk is are = record {
  chunks = are.chunks ++ chunk ∷ [];
  each = All-append IsChunk are.chunks (chunk ∷ []) are.each (All-cons IsChunk chunk [] is (All-nil IsChunk));
  parts = are.parts
      ∙ ap (λ (all : List ℕ). flat_map chunk_text are.chunks ++ all) (sym (append-nil (chunk_text chunk)))
      ∙ sym (flat_map-append chunk_text are.chunks (chunk ∷ []))
      ∙ sym (append-nil (flat_map chunk_text (are.chunks ++ chunk ∷ [])));
  content_is = ap (λ (all : List ℕ). all ++ chunk.payload) are.content_is
      ∙ ap (λ (all : List ℕ). flat_map (λ (c : Chunk). c.payload) are.chunks ++ all) (sym (append-nil chunk.payload))
      ∙ sym (flat_map-append (λ (c : Chunk). c.payload) are.chunks (chunk ∷ []));
}

-- bytes that are no content leave the content
content_stays : (framing : Framing) (bytes content : List ℕ) (next : Next) (more : ℕ) → Stands framing bytes content next more
    → Stands framing bytes (content ++ []) next more
content_stays framing bytes content next more stands =
    subst (λ (all : List ℕ). Stands framing bytes all next more) (sym (append-nil content)) stands

-- no bytes are no line of a chunk
no_line : HasNoChunkLine []
unfolding print_chunk_line
no_line line rest reads =
    let some : 0 < length line.digits = reads.0.digits.0 in
    let none : 0 ≡ length (print_chunk_line line ++ rest) = ap length reads.1 in
    omega (arith, simp length-append at none)

-- they may become the line of the last chunk
may_come : MayBecomeChunkLine []
may_come =
    let line : ChunkLine = record { digits = 48 ∷ []; pad = []; extension = None } in
    let digits : AllPass is_ascii_hexdigit (48 ∷ []) = All-cons (λ (b : ℕ). IsTrue (is_ascii_hexdigit b)) 48 [] refl (All-nil (λ (b : ℕ). IsTrue (is_ascii_hexdigit b))) in
    let is_line : IsChunkLine line = record { digits = (omega arith, omega arith, digits); pad = All-nil (λ (b : ℕ). IsTrue (is_ows b)); extension = tt } in
    (print_chunk_line line, line, (is_line, sym (append-nil (print_chunk_line line))))

-- before the first chunk
pub begun_chunks : (most : ℕ) → Stands (Chunked most) [] [] (Line []) most
begun_chunks most = record {
  comes = record {
    chunks = record { chunks = []; each = All-nil IsChunk; parts = refl; content_is = refl };
    none = no_line;
    may = may_come;
    short = omega arith;
  };
  most = zero-add most;
  room = omega arith;
}

-- one number is at most another, or above it
pub at_most : (a b : ℕ) → (a ≤ b) ⊎ (b < a)
at_most zero b = inl (omega arith)
at_most (suc a) b = elim (at_most a b) [
  | inl within ↦ elim (eq-or-lt_of_le within) [ inl same ↦ inr (omega arith) | inr below ↦ inl (omega arith) ]
  | inr over ↦ inr (omega arith)
]

-- a text that stands at the front of two parts, and is no longer than the first, stands at the front of that
pub front_of : (first second text rest : List ℕ) → first ++ second ≡ text ++ rest → length text ≤ length first
    → first ≡ text ++ take (length first - length text) rest
front_of first second text rest same within =
    sym (take-append_seam first second)
    ∙ ap (take (length first)) same
    ∙ ap (λ (n : ℕ). take n (text ++ rest)) (let sum : length first ≡ length text + (length first - length text) = omega arith in sum)
    ∙ take-append-add text rest (length first - length text)

-- a line's bytes are all of the line, where those without the last one were none
whole_line : (part : List ℕ) (byte len size : ℕ) (line : ChunkLine) → HasNoChunkLine part
    → IsChunkLineAt (part ++ byte ∷ []) len size line → part ++ byte ∷ [] ≡ print_chunk_line line
whole_line part byte len size line none at =
    let text = print_chunk_line line in
    let rest = drop len (part ++ byte ∷ []) in
    let reads : part ++ byte ∷ [] ≡ text ++ rest = at.reads.1 in
    let lens : length part + 1 ≡ length text + length rest = omega (arith, length-append part (byte ∷ []), length-append text rest, ap length reads) in
    elim (at_most (length text) (length part)) [
      | inl within ↦ absurd (none line (take (length part - length text) rest) (at.reads.0, front_of part (byte ∷ []) text rest reads within))
      | inr over ↦ reads ∙ ap (λ (all : List ℕ). text ++ all) (nil_from_length rest (omega arith)) ∙ append-nil text
    ]

-- a line that is whole
pub line_data : (framing : Framing) (bytes content part : List ℕ) (byte more len size : ℕ) (line : ChunkLine) → IsChunkLineAt (part ++ byte ∷ []) len size line
    → 0 < size → size ≤ more → Stands framing bytes content (Line part) more
    → Stands framing (bytes ++ byte ∷ []) (content ++ []) (Data size) more
line_data (Chunked most) bytes content part byte more len size line at some room stands =
    let came = AreChunks-more bytes content part (byte ∷ []) stands.comes.chunks in
    let whole = whole_line part byte len size line stands.comes.none at in
    content_stays (Chunked most) _ content _ more (record {
      comes = (
        record {
          before = content;
          line = line;
          payload = [];
          chunks = AreChunks-rest _ content _ _ (whole ∙ sym (append-nil (print_chunk_line line)) ∙ sym (append-nil (print_chunk_line line ++ []))) came;
          is_line = at.reads.0;
          size = zero-add size ∙ at.size_is;
          some = subst (λ (n : ℕ). 0 < n) at.size_is some;
          content_is = sym (append-nil content);
        },
        some,
      );
      most = stands.most;
      room = room;
    })
line_data (Length len) bytes content part byte more to size line at some room stands = absurd stands.comes

-- the line of the last chunk
pub line_last : (framing : Framing) (bytes content part : List ℕ) (byte more len size : ℕ) (line : ChunkLine) → IsChunkLineAt (part ++ byte ∷ []) len size line
    → size ≡ 0 → Stands framing bytes content (Line part) more
    → Stands framing (bytes ++ byte ∷ []) (content ++ []) (Last 0) more
line_last (Chunked most) bytes content part byte more len size line at none stands =
    let came = AreChunks-more bytes content part (byte ∷ []) stands.comes.chunks in
    let whole = whole_line part byte len size line stands.comes.none at in
    content_stays (Chunked most) _ content _ more (record {
      comes = record {
        line = line;
        chunks = AreChunks-rest _ content _ _ whole came;
        is_line = at.reads.0;
        none = sym at.size_is ∙ none;
        no_more = refl;
      };
      most = stands.most;
      room = omega arith;
    })
line_last (Length len) bytes content part byte more to size line at none stands = absurd stands.comes

-- a chunk that is too much
pub line_too_much : (framing : Framing) (bytes content part : List ℕ) (byte more len size : ℕ) (line : ChunkLine) → IsChunkLineAt (part ++ byte ∷ []) len size line
    → more < size → Stands framing bytes content (Line part) more → IsBadBody framing (bytes ++ byte ∷ [])
line_too_much (Chunked most) bytes content part byte more len size line at over stands =
    let came = AreChunks-more bytes content part (byte ∷ []) stands.comes.chunks in
    let whole = whole_line part byte len size line stands.comes.none at in
    TooMuch content line (AreChunks-rest _ content _ _ whole came) at.reads.0 (omega (arith, stands.most, at.size_is))
line_too_much (Length len) bytes content part byte more to size line at over stands = absurd stands.comes

-- bytes that are never a line
pub line_never : (framing : Framing) (bytes content part : List ℕ) (byte more : ℕ) → NeverHasChunkLine (part ++ byte ∷ [])
    → Stands framing bytes content (Line part) more → IsBadBody framing (bytes ++ byte ∷ [])
line_never (Chunked most) bytes content part byte more never stands =
    NoLine content (part ++ byte ∷ []) (AreChunks-more bytes content part (byte ∷ []) stands.comes.chunks) never
line_never (Length len) bytes content part byte more never stands = absurd stands.comes

-- a line that is too long
pub line_long : (framing : Framing) (bytes content part : List ℕ) (byte more : ℕ) → HasNoChunkLine (part ++ byte ∷ [])
    → max_line_len ≤ length (part ++ byte ∷ []) → Stands framing bytes content (Line part) more → IsBadBody framing (bytes ++ byte ∷ [])
line_long (Chunked most) bytes content part byte more none over stands =
    LongLine content (part ++ byte ∷ []) (AreChunks-more bytes content part (byte ∷ []) stands.comes.chunks) none over
line_long (Length len) bytes content part byte more none over stands = absurd stands.comes

-- a chunk with more data, or with other bytes behind it
chunk_more : (bytes content piece : List ℕ) (left left_after : ℕ) → length piece + left_after ≡ left → IsInChunk bytes content left []
    → IsInChunk (bytes ++ piece) (content ++ piece) left_after []
chunk_more bytes content piece left left_after counts chunk = record {
  before = chunk.before;
  line = chunk.line;
  payload = chunk.payload ++ piece;
  chunks = AreChunks-rest _ chunk.before _ _
      (ap (λ (all : List ℕ). all ++ piece) (append-nil (print_chunk_line chunk.line ++ chunk.payload))
      ∙ append_assoc (print_chunk_line chunk.line) chunk.payload piece
      ∙ sym (append-nil (print_chunk_line chunk.line ++ (chunk.payload ++ piece))))
      (AreChunks-more bytes chunk.before _ piece chunk.chunks);
  is_line = chunk.is_line;
  size = omega (arith, length-append chunk.payload piece, chunk.size, counts);
  some = chunk.some;
  content_is = ap (λ (all : List ℕ). all ++ piece) chunk.content_is ∙ append_assoc chunk.before chunk.payload piece;
}

chunk_behind : (bytes content part piece : List ℕ) → IsInChunk bytes content 0 part → IsInChunk (bytes ++ piece) content 0 (part ++ piece)
chunk_behind bytes content part piece chunk = record {
  before = chunk.before;
  line = chunk.line;
  payload = chunk.payload;
  chunks = AreChunks-rest _ chunk.before _ _ (append_assoc (print_chunk_line chunk.line ++ chunk.payload) part piece) (AreChunks-more bytes chunk.before _ piece chunk.chunks);
  is_line = chunk.is_line;
  size = chunk.size;
  some = chunk.some;
  content_is = chunk.content_is;
}

-- some data of a chunk
pub data_more : (framing : Framing) (bytes content piece : List ℕ) (left more : ℕ) → length piece < left → length piece ≤ more
    → Stands framing bytes content (Data left) more
    → Stands framing (bytes ++ piece) (content ++ piece) (Data (left - length piece)) (more - length piece)
data_more (Chunked most) bytes content piece left more fewer room stands = record {
  comes = (chunk_more bytes content piece left (left - length piece) (omega arith) stands.comes.0, omega arith);
  most = omega (arith, length-append content piece, stands.most);
  room = omega (arith, stands.room);
}
data_more (Length len) bytes content piece left more fewer room stands = absurd stands.comes

-- all data of a chunk
pub data_end : (framing : Framing) (bytes content piece : List ℕ) (left more : ℕ) → length piece ≡ left → length piece ≤ more
    → Stands framing bytes content (Data left) more
    → Stands framing (bytes ++ piece) (content ++ piece) (End []) (more - length piece)
data_end (Chunked most) bytes content piece left more all room stands = record {
  comes = record { chunk = chunk_more bytes content piece left 0 (add-zero (length piece) ∙ all) stands.comes.0; short = omega arith };
  most = omega (arith, length-append content piece, stands.most);
  room = omega (arith, stands.room);
}
data_end (Length len) bytes content piece left more all room stands = absurd stands.comes

-- bytes of a body by its length
pub last_more : (framing : Framing) (bytes content piece : List ℕ) (left more : ℕ) → 0 < left → length piece ≤ left → length piece ≤ more
    → Stands framing bytes content (Last left) more
    → Stands framing (bytes ++ piece) (content ++ piece) (Last (left - length piece)) (more - length piece)
last_more (Chunked most) bytes content piece left more some within room stands = absurd (omega (arith, stands.comes.no_more))
last_more (Length len) bytes content piece left more some within room stands = record {
  comes = record {
    content_is = ap (λ (all : List ℕ). all ++ piece) stands.comes.content_is;
    size = omega (arith, length-append bytes piece, stands.comes.size);
  };
  most = omega (arith, length-append content piece, stands.most);
  room = omega (arith, stands.room);
}

-- one byte behind the data of a chunk
pub end_more : (framing : Framing) (bytes content part piece : List ℕ) (more : ℕ) → length (part ++ piece) < 2
    → Stands framing bytes content (End part) more → Stands framing (bytes ++ piece) (content ++ []) (End (part ++ piece)) more
end_more (Chunked most) bytes content part piece more short stands =
    content_stays (Chunked most) _ content _ more (record {
      comes = record { chunk = chunk_behind bytes content part piece stands.comes.chunk; short = short };
      most = stands.most;
      room = omega arith;
    })
end_more (Length len) bytes content part piece more short stands = absurd stands.comes

-- two other bytes behind the data of a chunk
pub end_bad : (framing : Framing) (bytes content part piece : List ℕ) (more : ℕ) → length (part ++ piece) ≡ 2 → part ++ piece ≢ codes "\r\n"
    → Stands framing bytes content (End part) more → IsBadBody framing (bytes ++ piece)
end_bad (Chunked most) bytes content part piece more two other stands =
    NoEnd content (part ++ piece) (chunk_behind bytes content part piece stands.comes.chunk) two other
end_bad (Length len) bytes content part piece more two other stands = absurd stands.comes

-- CR LF behind the data of a chunk
pub end_line : (framing : Framing) (bytes content part piece : List ℕ) (more : ℕ) → part ++ piece ≡ codes "\r\n"
    → Stands framing bytes content (End part) more → Stands framing (bytes ++ piece) (content ++ []) (Line []) more
end_line (Chunked most) bytes content part piece more is stands =
    let chunk = chunk_behind bytes content part piece stands.comes.chunk in
    let one : Chunk = record { line = chunk.line; payload = chunk.payload } in
    let is_one : IsChunk one = record { is_line = chunk.is_line; size = sym chunk.size ∙ add-zero (length chunk.payload); some = omega (arith, chunk.size, chunk.some) } in
    let came = AreChunks-next (bytes ++ piece) chunk.before one is_one
    (AreChunks-rest _ chunk.before _ _ (ap (λ (all : List ℕ). print_chunk_line chunk.line ++ chunk.payload ++ all) is) chunk.chunks) in
    content_stays (Chunked most) _ content _ more (record {
      comes = record {
        chunks = subst (λ (all : List ℕ). AreChunks (bytes ++ piece) all []) (sym chunk.content_is) came;
        none = no_line;
        may = may_come;
        short = omega arith;
      };
      most = stands.most;
      room = omega arith;
    })
end_line (Length len) bytes content part piece more is stands = absurd stands.comes

-- what a test of bytes tells
told_other : {P : Type 0} (same r : Bool) → Decides same P → r ≡ not same → (r ≡ false → P) × (r ≡ true → ¬ P)
told_other true r decides is = (λ no. decides.0 refl, λ yes. absurd (cc))
told_other false r decides is = (λ no. absurd (cc), λ yes p. let never : false ≡ true = decides.1 p in absurd (cc))

pub differ : (xs ys : List ℕ) (r : Bool) → r ≡ not (bytes_eq xs ys) → (r ≡ false → xs ≡ ys) × (r ≡ true → xs ≢ ys)
differ xs ys r is = told_other (bytes_eq xs ys) r (bytes_eq-Decides xs ys) is
