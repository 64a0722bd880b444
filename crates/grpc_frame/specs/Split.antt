-- Frames taken one by one off a stream that comes in pieces (doc/PROTOCOL-WEB.md of grpc).
use Rattle.std.specs.Prelude.{ℕ, ◌≡◌, ◌^◌, ◌<◌, ◌≤◌, List, [], ◌∷◌, ◌++◌, length, All}
use Rattle.std.specs.List.{flat_map}
use Rattle.std.specs.Int.{w32, to_be_bytes}
use Rattle.grpc_frame.specs.Frame.{frame}

-- the longest content of a frame that is taken, in bytes, which is this reader's limit
abbrev pub max_content_len : ℕ
max_content_len = 1048576

-- the bytes begin with this frame, whose content is within the limit, and the rest comes behind it
pub record BeginsWithFrame (bytes : List ℕ) (flag : ℕ) (content rest : List ℕ) : Type 0 where
  pub fits : length content ≤ max_content_len
  pub parts : bytes ≡ frame flag content ++ rest

-- the bytes begin with a whole such frame
pub record BeginsWhole (bytes : List ℕ) : Type 0 where
  pub flag : ℕ
  pub content : List ℕ
  pub rest : List ℕ
  pub front : BeginsWithFrame bytes flag content rest

-- the bytes begin with no such frame
abbrev pub BeginsWithNoFrame : List ℕ → Type 0
BeginsWithNoFrame bytes = (flag : ℕ) (content rest : List ℕ) → ¬ BeginsWithFrame bytes flag content rest

-- the bytes begin with one such frame at most
abbrev pub HasOneFirst : List ℕ → Type 0
HasOneFirst bytes =
    (flag mark : ℕ) (content other rest more : List ℕ) → BeginsWithFrame bytes flag content rest → BeginsWithFrame bytes mark other more
    → (flag ≡ mark) × (content ≡ other) × (rest ≡ more)

-- the bytes begin with all five bytes of a header, whose length is over the limit
pub record BeginsTooLong (bytes : List ℕ) : Type 0 where
  pub flag : ℕ
  pub len : ℕ
  pub rest : List ℕ
  pub over : max_content_len < len
  pub fits : len < 2 ^ 32
  pub parts : bytes ≡ flag ∷ to_be_bytes w32 len ++ rest

-- flags and contents, written as frames one behind the other
abbrev pub bytes_of : List (ℕ × List ℕ) → List ℕ
bytes_of frames = flat_map (λ one. frame one.0 one.1) frames

-- the bytes are these frames, and then the rest
pub record AreFrames (bytes : List ℕ) (frames : List (ℕ × List ℕ)) (rest : List ℕ) : Type 0 where
  pub fit : All (λ one. length one.1 ≤ max_content_len) frames
  pub parts : bytes ≡ bytes_of frames ++ rest

-- the bytes are these frames, and then a rest that begins with no frame
pub record AreAllFrames (bytes : List ℕ) (frames : List (ℕ × List ℕ)) (rest : List ℕ) : Type 0 where
  pub are : AreFrames bytes frames rest
  pub ends : BeginsWithNoFrame rest

-- what happens to a splitter: a piece is fed, a frame is taken, or a call answers no frame, or a fault
pub data Step : Type 0 where
  Fed : (piece : List ℕ) → Step
  Took : (flag : ℕ) (content : List ℕ) → Step
  Stayed : Step

-- the rest after a step, as `feed` and `take` say it
abbrev pub Goes : List ℕ → Step → List ℕ → Type 0
Goes old (Fed piece) new = new ≡ old ++ piece
Goes old (Took flag content) new = BeginsWithFrame old flag content new
Goes old Stayed new = new ≡ old

-- the rest after these steps, one after the other
abbrev pub Run : List ℕ → List Step → List ℕ → Type 0
Run old [] new = new ≡ old
Run old (step ∷ steps) new = (between : List ℕ) × Goes old step between × Run between steps new

-- all that was fed
abbrev pub fed_bytes : List Step → List ℕ
fed_bytes [] = []
fed_bytes (Fed piece ∷ steps) = piece ++ fed_bytes steps
fed_bytes (Took flag content ∷ steps) = fed_bytes steps
fed_bytes (Stayed ∷ steps) = fed_bytes steps

-- all frames that were taken
abbrev pub taken_frames : List Step → List (ℕ × List ℕ)
taken_frames [] = []
taken_frames (Fed piece ∷ steps) = taken_frames steps
taken_frames (Took flag content ∷ steps) = (flag, content) ∷ taken_frames steps
taken_frames (Stayed ∷ steps) = taken_frames steps

-- the bytes are one list of frames at most, up to a rest that begins with no frame
abbrev pub HasOneSplit : List ℕ → Type 0
HasOneSplit bytes =
    (frames others : List (ℕ × List ℕ)) (rest more : List ℕ) → AreAllFrames bytes frames rest → AreAllFrames bytes others more
    → (frames ≡ others) × (rest ≡ more)
