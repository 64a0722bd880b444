-- Runs of a splitter: what was fed is what was taken, and the rest.
use Rattle.std.proofs.Common.{ℕ, ◌≡◌, ◌^◌, ◌<◌, ◌≤◌, List, [], ◌∷◌, ◌++◌, length, take, drop, refl, sym, ap, ◌∙◌, subst, arith, append_assoc}
use Rattle.std.proofs.lemmas.List.{append-nil}
use Rattle.std.proofs.lemmas.List.Elements.{All-nil, All-cons, All-head, All-tail}
use Rattle.std.specs.Int.{w32, to_be_bytes}
use Rattle.grpc_frame.specs.Frame.{frame}
use Rattle.grpc_frame.specs.Split.{max_content_len, BeginsWithFrame, BeginsWithNoFrame, BeginsTooLong, bytes_of, AreFrames, Step, Fed, Took, Stayed}
use Rattle.grpc_frame.specs.Split.{Run, fed_bytes, taken_frames, HasOneFirst, HasOneSplit}
use Rattle.grpc_frame.proofs.Fronts.{same_parts, same_length}

-- one more frame before the others
pub frame_first : (bytes content rest behind more : List ℕ) (frames : List (ℕ × List ℕ)) (flag : ℕ) → BeginsWithFrame bytes flag content rest
    → AreFrames (rest ++ more) frames behind → AreFrames (bytes ++ more) ((flag, content) ∷ frames) behind
frame_first bytes content rest behind more frames flag front are =
    record {
      fit = All-cons (λ (one : ℕ × List ℕ). length one.1 ≤ max_content_len) (flag, content) frames front.fits are.fit;
      parts = ap (λ (all : List ℕ). all ++ more) front.parts
          ∙ append_assoc (frame flag content) rest more
          ∙ ap (λ (all : List ℕ). frame flag content ++ all) are.parts
          ∙ sym (append_assoc (frame flag content) (bytes_of frames) behind);
    }

-- whatever the steps, the bytes there were and those that were fed are the frames that were taken, and the rest
pub run_from : (steps : List Step) (old new : List ℕ) → Run old steps new → AreFrames (old ++ fed_bytes steps) (taken_frames steps) new
run_from [] old new run = record { fit = All-nil (λ (one : ℕ × List ℕ). length one.1 ≤ max_content_len); parts = append-nil old ∙ sym run }
run_from (Fed piece ∷ steps) old new run =
    rw (sym (append_assoc old piece (fed_bytes steps)), ← run.1) (run_from steps run.0 new run.2)
run_from (Took flag content ∷ steps) old new run =
    frame_first old content run.0 new (fed_bytes steps) (taken_frames steps) flag run.1 (run_from steps run.0 new run.2)
run_from (Stayed ∷ steps) old new run = rw (← run.1) (run_from steps run.0 new run.2)

-- the same from no bytes
pub run_whole : (steps : List Step) (rest : List ℕ) → Run [] steps rest → AreFrames (fed_bytes steps) (taken_frames steps) rest
run_whole steps rest run = run_from steps [] rest run

-- the frame at the front is the only one there
pub one_frame : (bytes content rest other more : List ℕ) (flag mark : ℕ) → BeginsWithFrame bytes flag content rest
    → BeginsWithFrame bytes mark other more → (flag ≡ mark) × (content ≡ other) × (rest ≡ more)
one_frame bytes content rest other more flag mark one two =
    let same : frame flag content ++ rest ≡ frame mark other ++ more = sym one.parts ∙ two.parts in
    let flags : flag ≡ mark = cc in
    let lengths : to_be_bytes w32 (length content) ≡ to_be_bytes w32 (length other) = ap (λ (all : List ℕ). take 4 (drop 1 all)) same in
    let behind : content ++ rest ≡ other ++ more = ap (λ (all : List ℕ). drop 5 all) same in
    let one_fits : length content < 2 ^ 32 = omega (arith, one.fits) in
    let two_fits : length other < 2 ^ 32 = omega (arith, two.fits) in
    let parts : (content ≡ other) × (rest ≡ more) = same_parts content rest other more (same_length (length content) (length other) one_fits two_fits lengths) behind in
    (flags, parts.0, parts.1)

-- the same for all frames at the front
pub one_first : (bytes : List ℕ) → HasOneFirst bytes
one_first bytes flag mark content other rest more one two = one_frame bytes content rest other more flag mark one two

-- the frames behind the first
pub frames_behind : (bytes content rest : List ℕ) (frames : List (ℕ × List ℕ)) (flag : ℕ) → AreFrames bytes ((flag, content) ∷ frames) rest
    → BeginsWithFrame bytes flag content (bytes_of frames ++ rest) × AreFrames (bytes_of frames ++ rest) frames rest
frames_behind bytes content rest frames flag are = (
  record {
    fits = All-head (λ (one : ℕ × List ℕ). length one.1 ≤ max_content_len) (flag, content) frames are.fit;
    parts = are.parts ∙ append_assoc (frame flag content) (bytes_of frames) rest;
  },
  record { fit = All-tail (λ (one : ℕ × List ℕ). length one.1 ≤ max_content_len) (flag, content) frames are.fit; parts = refl },
)

-- bytes that begin with no frame are no list of frames but the empty one
pub none_behind : (bytes rest more : List ℕ) (other : ℕ × List ℕ) (others : List (ℕ × List ℕ)) → BeginsWithNoFrame rest → bytes ≡ rest → AreFrames bytes (other ∷ others) more → ⊥
none_behind bytes rest more other others ends same are =
    ends other.0 other.1 (bytes_of others ++ more) (rw (← same) (frames_behind bytes other.1 more others other.0 are).0)

-- two lists of frames, each up to a rest that begins with none, are one
pub one_split : (bytes : List ℕ) → HasOneSplit bytes
one_split bytes [] [] rest more one two = (refl, sym one.are.parts ∙ two.are.parts)
one_split bytes [] (other ∷ others) rest more one two = absurd (none_behind bytes rest more other others one.ends one.are.parts two.are)
one_split bytes (first ∷ frames) [] rest more one two = absurd (none_behind bytes more rest first frames two.ends two.are.parts one.are)
one_split bytes (first ∷ frames) (other ∷ others) rest more one two =
    let here : BeginsWithFrame bytes first.0 first.1 (bytes_of frames ++ rest) × AreFrames (bytes_of frames ++ rest) frames rest = frames_behind bytes first.1 rest frames first.0 one.are in
    let there : BeginsWithFrame bytes other.0 other.1 (bytes_of others ++ more) × AreFrames (bytes_of others ++ more) others more = frames_behind bytes other.1 more others other.0 two.are in
    let same = one_frame bytes first.1 (bytes_of frames ++ rest) other.1 (bytes_of others ++ more) first.0 other.0 here.0 there.0 in
    let behind = one_split (bytes_of frames ++ rest) frames others rest more (record { are = here.1; ends = one.ends })
    (record { are = subst (λ (all : List ℕ). AreFrames all others more) (sym same.2) there.1; ends = two.ends }) in
    (λ i. (same.0 i, same.1 i) ∷ behind.0 i, behind.1)

-- two runs that were fed the same, each up to a rest that begins with no frame, took the same
pub same_split : (steps others : List Step) (rest more : List ℕ) → Run [] steps rest → Run [] others more → fed_bytes steps ≡ fed_bytes others
    → BeginsWithNoFrame rest → BeginsWithNoFrame more → (taken_frames steps ≡ taken_frames others) × (rest ≡ more)
same_split steps others rest more run other same ends other_ends =
    one_split (fed_bytes others) (taken_frames steps) (taken_frames others) rest more
    (record { are = subst (λ (all : List ℕ). AreFrames all (taken_frames steps) rest) same (run_whole steps rest run); ends = ends })
    (record { are = run_whole others more other; ends = other_ends })

-- no frame is at the front of what begins too long
pub too_long_whole : (bytes content rest : List ℕ) (flag : ℕ) → BeginsTooLong bytes → BeginsWithFrame bytes flag content rest → ⊥
too_long_whole bytes content rest flag long front =
    let same : frame flag content ++ rest ≡ long.flag ∷ to_be_bytes w32 long.len ++ long.rest = sym front.parts ∙ long.parts in
    let lengths : to_be_bytes w32 (length content) ≡ to_be_bytes w32 long.len = ap (λ (all : List ℕ). take 4 (drop 1 all)) same in
    let fits : length content < 2 ^ 32 = omega (arith, front.fits) in
    let equal : length content ≡ long.len = same_length (length content) long.len fits long.fits lengths in
    omega (arith, long.over, front.fits)

-- what begins too long begins with no frame
pub too_long_none : (bytes : List ℕ) → BeginsTooLong bytes → BeginsWithNoFrame bytes
too_long_none bytes long flag content rest front = too_long_whole bytes content rest flag long front

-- what begins too long does so whatever is done
pub stays_too_long : (steps : List Step) (old new : List ℕ) → BeginsTooLong old → Run old steps new → BeginsTooLong new
stays_too_long [] old new long run = rw run long
stays_too_long (Fed piece ∷ steps) old new long run =
    let grown : BeginsTooLong (old ++ piece) = record {
      flag = long.flag;
      len = long.len;
      rest = long.rest ++ piece;
      over = long.over;
      fits = long.fits;
      parts = ap (λ (all : List ℕ). all ++ piece) long.parts ∙ append_assoc (long.flag ∷ to_be_bytes w32 long.len) long.rest piece;
    } in
    stays_too_long steps run.0 new (rw run.1 grown) run.2
stays_too_long (Took flag content ∷ steps) old new long run = absurd (too_long_whole old content run.0 flag long run.1)
stays_too_long (Stayed ∷ steps) old new long run = stays_too_long steps run.0 new (rw run.1 long) run.2
