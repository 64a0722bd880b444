-- The bytes of a body have one content at most, and one place where they end.
use Rattle.std.proofs.Common.{ℕ, zero, suc, ◌≡◌, ◌≢◌, ◌+◌, ◌<◌, ◌≤◌, ◌⊎◌, List, [], ◌∷◌, ◌++◌, length, take, drop, codes, refl, sym, ap, ◌∙◌, subst, inl, inr, arith, append_assoc, length-append, zero-add}
use Rattle.std.proofs.lemmas.List.{append-nil, nil_from_length}
use Rattle.std.proofs.lemmas.List.Elements.{All-head, All-tail}
use Rattle.std.proofs.Math.Seq.{take-append_seam, drop-append_seam}
use Rattle.std.specs.Prelude.{All}
use Rattle.std.specs.List.{flat_map}
use Rattle.httparse.specs.Grammar.{ChunkLine, IsChunkLine, print_chunk_line, chunk_size, HasNoChunkLine, ReadsChunkLine}
use Rattle.httparse.proofs.ChunkLemmas.{chunk_line_unique}
use Rattle.client.specs.declared.http_framing.Framing.{Framing}
use Rattle.client.specs.declared.http_framing.Framing.TheVariants.{Chunked, Length}
use Rattle.client.specs.declared.response_body.Next.{Next}
use Rattle.client.specs.declared.response_body.Next.TheVariants.{Line, Data, End, Last}
use Rattle.client.specs.Chunks.{AreChunks, Chunk, IsChunk, chunk_text}
use Rattle.client.specs.ResponseBody.{Comes, IsBadBody, IsInChunk, IsInLine, LongLine, NoEnd, NoLine, Stands, TooMuch, left_of}

-- two parts of equal length at the front are the same, and so are those behind
pub parts_same : (a b c d : List ℕ) → length a ≡ length c → a ++ b ≡ c ++ d → (a ≡ c) × (b ≡ d)
parts_same a b c d len same = (
  sym (take-append_seam a b) ∙ ap (take (length a)) same ∙ ap (λ (n : ℕ). take n (c ++ d)) len ∙ take-append_seam c d,
  sym (drop-append_seam a b) ∙ ap (drop (length a)) same ∙ ap (λ (n : ℕ). drop n (c ++ d)) len ∙ drop-append_seam c d,
)

-- the bytes begin with no whole chunk
abbrev pub BeginsWithNoChunk : List ℕ → Type 0
BeginsWithNoChunk bytes = (chunk : Chunk) (rest : List ℕ) → IsChunk chunk → bytes ≢ chunk_text chunk ++ rest

-- a chunk's text, its parts one by one
text_parts : (chunk : Chunk) (rest : List ℕ) → chunk_text chunk ++ rest ≡ print_chunk_line chunk.line ++ (chunk.payload ++ (codes "\r\n" ++ rest))
text_parts chunk rest =
    append_assoc (print_chunk_line chunk.line ++ chunk.payload) (codes "\r\n") rest
    ∙ append_assoc (print_chunk_line chunk.line) chunk.payload (codes "\r\n" ++ rest)

-- two chunks at the front have the same data, and the same behind them
one_chunk : (a b : Chunk) (r q : List ℕ) → IsChunk a → IsChunk b → chunk_text a ++ r ≡ chunk_text b ++ q → (a.payload ≡ b.payload) × (r ≡ q)
one_chunk a b r q is also same =
    let line = chunk_line_unique (print_chunk_line a.line ++ (a.payload ++ (codes "\r\n" ++ r))) a.line b.line (a.payload ++ (codes "\r\n" ++ r)) (b.payload ++ (codes "\r\n" ++ q))
    (is.is_line, refl) (also.is_line, sym (text_parts a r) ∙ same ∙ text_parts b q) in
    let data_same = parts_same a.payload (codes "\r\n" ++ r) b.payload (codes "\r\n" ++ q) (sym is.size ∙ ap chunk_size line.0 ∙ also.size) line.1 in
    (data_same.0, ap (drop 2) data_same.1)

-- two lists of chunks, each up to a part that begins with none, have the same content and the same part
same_chunks : (xs ys : List Chunk) (p q : List ℕ) → All IsChunk xs → All IsChunk ys → BeginsWithNoChunk p → BeginsWithNoChunk q
    → flat_map chunk_text xs ++ p ≡ flat_map chunk_text ys ++ q
    → (flat_map (λ (c : Chunk). c.payload) xs ≡ flat_map (λ (c : Chunk). c.payload) ys) × (p ≡ q)
same_chunks [] [] p q are also none never same = (refl, same)
same_chunks [] (y ∷ ys) p q are also none never same =
    absurd (none y (flat_map chunk_text ys ++ q) (All-head IsChunk y ys also) (same ∙ append_assoc (chunk_text y) (flat_map chunk_text ys) q))
same_chunks (x ∷ xs) [] p q are also none never same =
    absurd (never x (flat_map chunk_text xs ++ p) (All-head IsChunk x xs are) (sym same ∙ append_assoc (chunk_text x) (flat_map chunk_text xs) p))
same_chunks (x ∷ xs) (y ∷ ys) p q are also none never same =
    let first = one_chunk x y (flat_map chunk_text xs ++ p) (flat_map chunk_text ys ++ q) (All-head IsChunk x xs are) (All-head IsChunk y ys also)
    (sym (append_assoc (chunk_text x) (flat_map chunk_text xs) p) ∙ same ∙ append_assoc (chunk_text y) (flat_map chunk_text ys) q) in
    let rest = same_chunks xs ys p q (All-tail IsChunk x xs are) (All-tail IsChunk y ys also) none never first.1 in
    (λ i. first.0 i ++ rest.0 i, rest.1)

-- so bytes are chunks in one way, up to a part that begins with none
pub one_chunks : (bytes content other p q : List ℕ) → AreChunks bytes content p → AreChunks bytes other q → BeginsWithNoChunk p → BeginsWithNoChunk q
    → (content ≡ other) × (p ≡ q)
one_chunks bytes content other p q are also none never =
    let same = same_chunks are.chunks also.chunks p q are.each also.each none never (sym are.parts ∙ also.parts) in
    (are.content_is ∙ same.0 ∙ sym also.content_is, same.1)

-- without a line there is no chunk
line_first : (part : List ℕ) → HasNoChunkLine part → BeginsWithNoChunk part
line_first part none chunk rest is same =
    none chunk.line (chunk.payload ++ (codes "\r\n" ++ rest)) (is.is_line, same ∙ text_parts chunk rest)

-- chunks have come, and the line of the next one, with some of its data and so many bytes left, or all of it and these bytes behind
pub record InPart (bytes content : List ℕ) (size left : ℕ) (behind : List ℕ) : Type 0 where
  pub before : List ℕ
  pub line : ChunkLine
  pub payload : List ℕ
  pub chunks : AreChunks bytes before (print_chunk_line line ++ (payload ++ behind))
  pub is_line : IsChunkLine line
  pub size_is : chunk_size line ≡ size
  pub count : length payload + left ≡ size
  pub ends : (length behind ≡ 0) ⊎ (left ≡ 0)
  pub other : (rest : List ℕ) → behind ≢ codes "\r\n" ++ rest
  pub content_is : content ≡ before ++ payload

-- the part is no whole chunk
part_cut : (bytes content : List ℕ) (size left : ℕ) (behind : List ℕ) (part : InPart bytes content size left behind)
    → BeginsWithNoChunk (print_chunk_line part.line ++ (part.payload ++ behind))
part_cut bytes content size left behind part chunk rest is same =
    let line = chunk_line_unique (print_chunk_line part.line ++ (part.payload ++ behind)) part.line chunk.line (part.payload ++ behind) (chunk.payload ++ (codes "\r\n" ++ rest))
    (part.is_line, refl) (is.is_line, same ∙ text_parts chunk rest) in
    let as_long : size ≡ length chunk.payload = sym part.size_is ∙ ap chunk_size line.0 ∙ is.size in
    let lens : length part.payload + length behind ≡ length chunk.payload + (2 + length rest) =
    sym (length-append part.payload behind) ∙ ap length line.1 ∙ length-append chunk.payload (codes "\r\n" ++ rest)
    ∙ ap (λ (n : ℕ). length chunk.payload + n) (length-append (codes "\r\n") rest) in
    elim part.ends [
      | inl none ↦ omega (arith, part.count, as_long, lens, none)
      | inr all ↦
          part.other rest
          (parts_same part.payload behind chunk.payload (codes "\r\n" ++ rest) (let len : length part.payload ≡ length chunk.payload = omega (arith, part.count, all, as_long) in len) line.1).1
    ]

-- it has a line
part_line : (bytes content : List ℕ) (size left : ℕ) (behind all : List ℕ) (part : InPart bytes content size left behind)
    → all ≡ print_chunk_line part.line ++ (part.payload ++ behind) → ¬ HasNoChunkLine all
part_line bytes content size left behind all part same none = none part.line (part.payload ++ behind) (part.is_line, same)

-- what is the same of two such parts
record SamePart (content other : List ℕ) (size size_too left left_too : ℕ) (behind behind_too : List ℕ) : Type 0 where
  contents : content ≡ other
  sizes : size ≡ size_too
  lefts : left ≡ left_too
  behinds : behind ≡ behind_too

-- how long the data is, by four numbers
as_much : (p b l q c m : ℕ) → p + b ≡ q + c → p + l ≡ q + m → (b ≡ 0) ⊎ (l ≡ 0) → (c ≡ 0) ⊎ (m ≡ 0) → p ≡ q
as_much p b l q c m lens sizes (inl none) (inl never) = omega (arith, lens, sizes, none, never)
as_much p b l q c m lens sizes (inl none) (inr all) = omega (arith, lens, sizes, none, all)
as_much p b l q c m lens sizes (inr whole) (inl never) = omega (arith, lens, sizes, whole, never)
as_much p b l q c m lens sizes (inr whole) (inr all) = omega (arith, lens, sizes, whole, all)

same_part : (bytes content other : List ℕ) (size size_too left left_too : ℕ) (behind behind_too : List ℕ) → InPart bytes content size left behind
    → InPart bytes other size_too left_too behind_too → SamePart content other size size_too left left_too behind behind_too
same_part bytes content other size size_too left left_too behind behind_too a b =
    let parts = one_chunks bytes a.before b.before (print_chunk_line a.line ++ (a.payload ++ behind)) (print_chunk_line b.line ++ (b.payload ++ behind_too)) a.chunks b.chunks
    (part_cut bytes content size left behind a) (part_cut bytes other size_too left_too behind_too b) in
    let line = chunk_line_unique (print_chunk_line a.line ++ (a.payload ++ behind)) a.line b.line (a.payload ++ behind) (b.payload ++ behind_too)
    (a.is_line, refl) (b.is_line, parts.1) in
    let sizes : size ≡ size_too = sym a.size_is ∙ ap chunk_size line.0 ∙ b.size_is in
    let lens : length a.payload + length behind ≡ length b.payload + length behind_too =
    sym (length-append a.payload behind) ∙ ap length line.1 ∙ length-append b.payload behind_too in
    let len = as_much (length a.payload) (length behind) left (length b.payload) (length behind_too) left_too lens (a.count ∙ sizes ∙ sym b.count) a.ends b.ends in
    let same = parts_same a.payload behind b.payload behind_too len line.1 in record {
      contents = a.content_is ∙ (λ i. parts.0 i ++ same.0 i) ∙ sym b.content_is;
      sizes = sizes;
      lefts = omega (arith, a.count, b.count, sizes, len);
      behinds = same.1;
    }

-- what comes next in such a part
abbrev place : ℕ → ℕ → List ℕ → Next
place zero left behind = Last 0
place (suc size) zero behind = End behind
place (suc size) (suc left) behind = Data (suc left)

place_data : (size left : ℕ) (behind : List ℕ) → 0 < size → 0 < left → Data left ≡ place size left behind
place_data zero left behind some more = absurd (omega (arith, some))
place_data (suc size) zero behind some more = absurd (omega (arith, more))
place_data (suc size) (suc left) behind some more = refl

place_end : (size : ℕ) (behind : List ℕ) → 0 < size → End behind ≡ place size 0 behind
place_end zero behind some = absurd (omega (arith, some))
place_end (suc size) behind some = refl

place_left : (size left : ℕ) (behind : List ℕ) → left ≤ size → left_of (place size left behind) ≡ left
place_left zero zero behind within = refl
place_left zero (suc left) behind within = absurd (omega (arith, within))
place_left (suc size) zero behind within = refl
place_left (suc size) (suc left) behind within = refl

-- a body in chunks ends within a line, or in a part
data Found (bytes content : List ℕ) (next : Next) : Type 0 where
  AtLine : (part : List ℕ) → IsInLine bytes content part → next ≡ Line part → Found bytes content next
  AtPart : (size left : ℕ) (behind : List ℕ) → InPart bytes content size left behind → length behind < 2 → next ≡ place size left behind → Found bytes content next

-- fewer than two bytes are no CR LF
few_other : (behind rest : List ℕ) → length behind < 2 → behind ≢ codes "\r\n" ++ rest
few_other behind rest few same = let len : length behind ≡ 2 + length rest = ap length same ∙ length-append (codes "\r\n") rest in omega (arith, few, len)

in_chunk : (bytes content : List ℕ) (left : ℕ) (behind : List ℕ) → (length behind ≡ 0) ⊎ (left ≡ 0) → ((rest : List ℕ) → behind ≢ codes "\r\n" ++ rest)
    → (chunk : IsInChunk bytes content left behind) → InPart bytes content (chunk_size chunk.line) left behind
in_chunk bytes content left behind ends other chunk = record {
  before = chunk.before;
  line = chunk.line;
  payload = chunk.payload;
  chunks = subst (AreChunks bytes chunk.before) (append_assoc (print_chunk_line chunk.line) chunk.payload behind) chunk.chunks;
  is_line = chunk.is_line;
  size_is = refl;
  count = chunk.size;
  ends = ends;
  other = other;
  content_is = chunk.content_is;
}

-- a line and nothing behind it
at_line : (bytes content : List ℕ) (line : ChunkLine) → AreChunks bytes content (print_chunk_line line) → IsChunkLine line
    → InPart bytes content (chunk_size line) (chunk_size line) []
at_line bytes content line chunks is = record {
  before = content;
  line = line;
  payload = [];
  chunks = subst (AreChunks bytes content) (sym (append-nil (print_chunk_line line))) chunks;
  is_line = is;
  size_is = refl;
  count = zero-add (chunk_size line);
  ends = inl refl;
  other = λ rest. few_other [] rest (omega arith);
  content_is = sym (append-nil content);
}

found : (most : ℕ) (bytes content : List ℕ) (next : Next) → Comes (Chunked most) bytes content next → Found bytes content next
found most bytes content (Line part) comes = AtLine part comes refl
found most bytes content (Data left) comes =
    AtPart (chunk_size comes.0.line) left [] (in_chunk bytes content left [] (inl refl) (λ rest. few_other [] rest (omega arith)) comes.0) (omega arith)
    (place_data (chunk_size comes.0.line) left [] comes.0.some comes.1)
found most bytes content (End part) comes =
    AtPart (chunk_size comes.chunk.line) 0 part (in_chunk bytes content 0 part (inr refl) (λ rest. few_other part rest comes.short) comes.chunk) comes.short
    (place_end (chunk_size comes.chunk.line) part comes.chunk.some)
found most bytes content (Last left) comes =
    AtPart (chunk_size comes.line) (chunk_size comes.line) [] (at_line bytes content comes.line comes.chunks comes.is_line) (omega arith)
    (ap Last comes.no_more ∙ ap (λ (n : ℕ). place n n []) (sym comes.none))

-- the content and what comes next are one
found_one : (bytes content other : List ℕ) (next after : Next) → Found bytes content next → Found bytes other after → (content ≡ other) × (next ≡ after)
found_one bytes content other next after (AtLine part is same) (AtLine more also said) =
    let parts = one_chunks bytes content other part more is.chunks also.chunks (line_first part is.none) (line_first more also.none) in
    (parts.0, same ∙ ap Line parts.1 ∙ sym said)
found_one bytes content other next after (AtLine part is same) (AtPart size left behind also short said) =
    let parts = one_chunks bytes content also.before part _ is.chunks also.chunks (line_first part is.none) (part_cut bytes other size left behind also) in
    absurd (part_line bytes other size left behind part also parts.1 is.none)
found_one bytes content other next after (AtPart size left behind is short same) (AtLine more also said) =
    let parts = one_chunks bytes other is.before more _ also.chunks is.chunks (line_first more also.none) (part_cut bytes content size left behind is) in
    absurd (part_line bytes content size left behind more is parts.1 also.none)
found_one bytes content other next after (AtPart size left behind is short same) (AtPart more rest last also few said) =
    let one = same_part bytes content other size more left rest behind last is also in
    (one.contents, same ∙ (λ i. place (one.sizes i) (one.lefts i) (one.behinds i)) ∙ sym said)

-- the same for a body by its length
length_found : (len : ℕ) (bytes content : List ℕ) (next : Next) → Comes (Length len) bytes content next
    → (left : ℕ) × (content ≡ bytes) × (next ≡ Last left) × (length bytes + left ≡ len)
length_found len bytes content (Line part) comes = absurd comes
length_found len bytes content (Data left) comes = absurd comes
length_found len bytes content (End part) comes = absurd comes
length_found len bytes content (Last left) comes = (left, comes.content_is, refl, comes.size)

comes_one : (framing : Framing) (bytes content other : List ℕ) (next after : Next) → Comes framing bytes content next → Comes framing bytes other after
    → (content ≡ other) × (next ≡ after)
comes_one (Chunked most) bytes content other next after comes also =
    found_one bytes content other next after (found most bytes content next comes) (found most bytes other after also)
comes_one (Length len) bytes content other next after comes also =
    let one = length_found len bytes content next comes in
    let two = length_found len bytes other after also in
    (one.1 ∙ sym two.1, one.2 ∙ ap Last (let lefts : one.0 ≡ two.0 = omega (arith, one.3, two.3) in lefts) ∙ sym two.2)

-- what is the same of two places in a body
pub record SamePlace (content other : List ℕ) (next after : Next) (more left : ℕ) : Type 0 where
  pub contents : content ≡ other
  pub nexts : next ≡ after
  pub mores : more ≡ left

pub one_place : (framing : Framing) (bytes content other : List ℕ) (next after : Next) (more left : ℕ) → Stands framing bytes content next more
    → Stands framing bytes other after left → SamePlace content other next after more left
one_place framing bytes content other next after more left a b =
    let one = comes_one framing bytes content other next after a.comes b.comes in
    let len : length content ≡ length other = ap length one.0 in record {
      contents = one.0;
      nexts = one.1;
      mores = omega (arith, a.most, b.most, len);
    }

-- two bytes that begin with CR LF are CR LF
two_bytes : (two rest : List ℕ) → length two ≡ 2 → two ≡ codes "\r\n" ++ rest → two ≡ codes "\r\n"
two_bytes two rest both same =
    let len : length two ≡ 2 + length rest = ap length same ∙ length-append (codes "\r\n") rest in
    same ∙ ap (λ (all : List ℕ). codes "\r\n" ++ all) (nil_from_length rest (omega (arith, both, len))) ∙ append-nil (codes "\r\n")

-- bytes that no body has stand nowhere
never_found : (most : ℕ) (bytes content : List ℕ) (next : Next) (more : ℕ) → IsBadBody (Chunked most) bytes → Stands (Chunked most) bytes content next more
    → ¬ Found bytes content next
never_found most bytes content next more (NoLine before part chunks never) stands (AtLine line is same) =
    let none = subst HasNoChunkLine (append-nil part) (never []) in
    let parts = one_chunks bytes before content part line chunks is.chunks (line_first part none) (line_first line is.none) in
    never is.may.0 is.may.1 [] (subst (λ (all : List ℕ). ReadsChunkLine (all ++ is.may.0) is.may.1 []) (sym parts.1) is.may.2)
never_found most bytes content next more (NoLine before part chunks never) stands (AtPart size left behind is short same) =
    let none = subst HasNoChunkLine (append-nil part) (never []) in
    let parts = one_chunks bytes before is.before part _ chunks is.chunks (line_first part none) (part_cut bytes content size left behind is) in
    part_line bytes content size left behind part is parts.1 none
never_found most bytes content next more (LongLine before part chunks none over) stands (AtLine line is same) =
    let parts = one_chunks bytes before content part line chunks is.chunks (line_first part none) (line_first line is.none) in
    let len : length part ≡ length line = ap length parts.1 in omega (arith, over, is.short, len)
never_found most bytes content next more (LongLine before part chunks none over) stands (AtPart size left behind is short same) =
    let parts = one_chunks bytes before is.before part _ chunks is.chunks (line_first part none) (part_cut bytes content size left behind is) in
    part_line bytes content size left behind part is parts.1 none
never_found most bytes content next more (TooMuch before line chunks is_line over) stands (AtLine part is same) =
    let at = at_line bytes before line chunks is_line in
    let parts = one_chunks bytes content at.before part _ is.chunks at.chunks (line_first part is.none) (part_cut bytes before (chunk_size line) (chunk_size line) [] at) in
    part_line bytes before (chunk_size line) (chunk_size line) [] part at parts.1 is.none
never_found most bytes content next more (TooMuch before line chunks is_line over) stands (AtPart size left behind is short same) =
    let at = at_line bytes before line chunks is_line in
    let one = same_part bytes before content (chunk_size line) size (chunk_size line) left [] behind at is in
    let len : length before ≡ length content = ap length one.contents in
    let room : left ≤ more = subst (λ (n : ℕ). n ≤ more) (ap left_of same ∙ place_left size left behind (omega (arith, is.count))) stands.room in
    omega (arith, over, len, one.lefts, room, stands.most)
never_found most bytes content next more (NoEnd before two chunk both other) stands (AtLine part is same) =
    let at = in_chunk bytes before 0 two (inr refl) (λ rest is_end. other (two_bytes two rest both is_end)) chunk in
    let parts = one_chunks bytes content at.before part _ is.chunks at.chunks (line_first part is.none) (part_cut bytes before (chunk_size chunk.line) 0 two at) in
    part_line bytes before (chunk_size chunk.line) 0 two part at parts.1 is.none
never_found most bytes content next more (NoEnd before two chunk both other) stands (AtPart size left behind is short same) =
    let at = in_chunk bytes before 0 two (inr refl) (λ rest is_end. other (two_bytes two rest both is_end)) chunk in
    let one = same_part bytes before content (chunk_size chunk.line) size 0 left two behind at is in
    let len : length two ≡ length behind = ap length one.behinds in omega (arith, both, short, len)

pub bad_nowhere : (framing : Framing) (bytes content : List ℕ) (next : Next) (more : ℕ) → IsBadBody framing bytes → ¬ Stands framing bytes content next more
bad_nowhere (Chunked most) bytes content next more bad stands = never_found most bytes content next more bad stands (found most bytes content next stands.comes)
bad_nowhere (Length len) bytes content next more bad stands = bad
