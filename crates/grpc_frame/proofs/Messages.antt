-- The rules of IsOneMessage, as the exits of `one_message` meet them.
use Rattle.std.proofs.Common.{ℕ, ◌≡◌, ◌≢◌, ◌^◌, ◌<◌, List, [], ◌∷◌, ◌++◌, length, Ok, Err, refl, sym, ap, subst, arith}
use Rattle.std.proofs.lemmas.List.{append-nil}
use Rattle.grpc_frame.specs.declared.fault.FrameFault.{FrameFault}
use Rattle.grpc_frame.specs.declared.fault.FrameFault.TheVariants.{MoreThanOne}
use Rattle.grpc_frame.specs.Message.{BeginsWith, BeginsWithNone, BeginsWithTwo, IsOneMessage, Whole, Two, NoFirst, NoSecond, HasOneAnswer, fault_at}
use Rattle.grpc_frame.specs.Frame.{frame}
use Rattle.grpc_frame.proofs.Fronts.{one_front}

-- one frame, and behind it no bytes
pub whole : (body message rest : List ℕ) → BeginsWith body message rest → length rest ≡ 0 → IsOneMessage body (Ok message)
whole body message [] front none = Whole message front
whole body message (byte ∷ more) front none = absurd (omega arith)

-- one frame, and behind it another
pub two : (body first between second rest : List ℕ) → BeginsWith body first between → BeginsWith between second rest → IsOneMessage body (Err MoreThanOne)
two body first between second rest front next =
    Two (record { first = first; second = second; between = between; rest = rest; front = front; next = next })

-- the fault of the body, which begins with no frame
pub no_first : (body : List ℕ) (fault : FrameFault) → fault ≡ fault_at body → BeginsWithNone body → IsOneMessage body (Err fault)
no_first body fault is none = rw is (NoFirst none)

-- the fault of the bytes behind the first frame, which begin with no second one
pub no_second : (body message rest : List ℕ) (fault : FrameFault) → fault ≡ fault_at rest → BeginsWith body message rest → rest ≢ [] → BeginsWithNone rest → IsOneMessage body (Err fault)
no_second body message rest fault is front more none = rw is (NoSecond message rest front more none)

pub ruleset exits = (whole, no_first, no_second)

-- a written frame alone is read as its message
pub alone : (message : List ℕ) → length message < 2 ^ 32 → IsOneMessage (frame 0 message) (Ok message)
alone message fits = Whole message (record { fits = fits; parts = sym (append-nil (frame 0 message)) })

-- where there are no bytes no frame begins
pub empty_begins_none : (message rest : List ℕ) → BeginsWith [] message rest → ⊥
empty_begins_none message rest front = let parts : [] ≡ frame 0 message ++ rest = front.parts in cc

-- with nothing behind the first frame there are not two
pub whole_two : (body message : List ℕ) → BeginsWith body message [] → BeginsWithTwo body → ⊥
whole_two body message front two =
    let parts : (two.first ≡ message) × (two.between ≡ []) = one_front body two.first two.between message [] two.front front in
    empty_begins_none two.second two.rest (subst (λ (bytes : List ℕ). BeginsWith bytes two.second two.rest) parts.1 two.next)

-- nothing and something do not both stand behind the first frame
pub whole_second : (body message other rest : List ℕ) → BeginsWith body message [] → BeginsWith body other rest → rest ≢ [] → ⊥
whole_second body message other rest front next more = more (one_front body other rest message [] next front).1

-- a second frame does not both begin and not begin behind the first
pub two_second : (body message rest : List ℕ) → BeginsWithTwo body → BeginsWith body message rest → BeginsWithNone rest → ⊥
two_second body message rest two front none =
    let parts : (two.first ≡ message) × (two.between ≡ rest) = one_front body two.first two.between message rest two.front front in
    none two.second two.rest (subst (λ (bytes : List ℕ). BeginsWith bytes two.second two.rest) parts.1 two.next)

-- each pair of rules: the same answer, or no body that both apply to
pub one_answer : (body : List ℕ) → HasOneAnswer body
one_answer body answer other (Whole m f) (Whole n g) = ap Ok (one_front body m [] n [] f g).0
one_answer body answer other (Whole m f) (Two two) = absurd (whole_two body m f two)
one_answer body answer other (Whole m f) (NoFirst none) = absurd (none m [] f)
one_answer body answer other (Whole m f) (NoSecond n rest g more none) = absurd (whole_second body m n rest f g more)
one_answer body answer other (Two two) (Whole n g) = absurd (whole_two body n g two)
one_answer body answer other (Two two) (Two two') = refl
one_answer body answer other (Two two) (NoFirst none) = absurd (none two.first two.between two.front)
one_answer body answer other (Two two) (NoSecond n rest g more none) = absurd (two_second body n rest two g none)
one_answer body answer other (NoFirst none) (Whole n g) = absurd (none n [] g)
one_answer body answer other (NoFirst none) (Two two) = absurd (none two.first two.between two.front)
one_answer body answer other (NoFirst none) (NoFirst none') = refl
one_answer body answer other (NoFirst none) (NoSecond n rest g more none') = absurd (none n rest g)
one_answer body answer other (NoSecond m left f more none) (Whole n g) = absurd (whole_second body n m left g f more)
one_answer body answer other (NoSecond m left f more none) (Two two) = absurd (two_second body m left two f none)
one_answer body answer other (NoSecond m left f more none) (NoFirst none') = absurd (none' m left f)
one_answer body answer other (NoSecond m left f more none) (NoSecond n rest g more' none') =
    ap (λ (behind : List ℕ). Err (fault_at behind)) (one_front body m left n rest f g).1
