-- How many lines are written in a second, and what becomes of each.
use Rattle.std.proofs.Common.{◌≡◌, ℕ, ◌+◌, ◌-◌, ◌^◌, ◌<◌, ◌≤◌, List, [], ◌∷◌, length, unwrap_or, if◌then◌else◌, refl, arith}
use Rattle.std.proofs.Math.Nat.{min-eq_left}
use Rattle.std.proofs.lemmas.Bool.Decides.{nat_tests}
use Rattle.log_lines.specs.declared.met.Met.{Met}
use Rattle.log_lines.specs.declared.met.Met.TheVariants.{Asked, Looked}
use Rattle.log_lines.specs.declared.second.Second.{Second}
use Rattle.log_lines.specs.Laws.{asked, told, untold, written}
use Rattle.log_lines.specs.Paced.{second_after}
use Rattle.log_lines.specs.Second.{after_ask, after_look, has_room, sum_within, told_by, turned}

-- a second of another reading has no more lines
pub few_turned : (now : ℕ) (second : Second) → second.taken ≤ 100 → (turned now second).taken ≤ 100
few_turned now second few = grind (arith, nat_tests)

pub few_asked : (now : ℕ) (second : Second) → second.taken ≤ 100 → (after_ask now second).taken ≤ 100
few_asked now second few = grind (arith, nat_tests)

pub few_looked : (now : ℕ) (second : Second) → second.taken ≤ 100 → (after_look now second).taken ≤ 100
few_looked now second few = grind (arith, nat_tests)

-- at most 100 lines are written in a second
pub most : (past : List Met) → (second_after past).taken ≤ 100
most [] = omega arith
most (Asked now ∷ past) = few_asked now (turned now (second_after past)) (few_turned now (second_after past) (most past))
most (Looked now ∷ past) = few_looked now (turned now (second_after past)) (few_turned now (second_after past) (most past))

-- a sum that is small is not cut
sum_within-small : (a b : ℕ) → a + b < 2 ^ 64 → sum_within a b ≡ a + b
sum_within-small a b small = min-eq_left {n = a + b} {m = 2 ^ 64 - 1} (omega arith)

-- a second that is over leaves as many lines to be told
untold_turned : (now : ℕ) (second : Second) → second.over + second.left < 2 ^ 64 →
    (turned now second).over + (turned now second).left ≡ second.over + second.left
untold_turned now second small =
    let sum = sum_within-small second.over second.left small in grind (arith, nat_tests)

-- a line is written, or is still to be told
one_asked : (now count : ℕ) (second : Second) → second.over + second.left + 1 < 2 ^ 64 →
    (if has_room second then count + 1 else count) + ((after_ask now second).over + (after_ask now second).left)
    ≡ count + (second.over + second.left) + 1
one_asked now count second small =
    let sum = sum_within-small second.left 1 (omega arith) in grind (arith, nat_tests)

-- what is told is no longer to be told
one_looked : (now : ℕ) (second : Second) →
    unwrap_or (told_by second) 0 + ((after_look now second).over + (after_look now second).left)
    ≡ second.over + second.left
one_looked now second = grind (arith, nat_tests)

-- somebody asked for no more lines than there were questions
asked_few : (past : List Met) → asked past ≤ length past
asked_few [] = omega arith
asked_few (Asked now ∷ past) = let before = asked_few past in omega arith
asked_few (Looked now ∷ past) = let before = asked_few past in omega arith

-- each line that was asked for is written, told or still to be told
pub counted : (past : List Met) → length past < 2 ^ 64 → asked past ≡ written past + told past + untold past
counted [] small = refl
counted (Asked now ∷ past) small =
    let before = counted past (omega arith) in
    let few = asked_few past in
    let same = untold_turned now (second_after past) (omega arith) in
    let one = one_asked now (written past) (turned now (second_after past)) (omega arith) in
    omega arith
counted (Looked now ∷ past) small =
    let before = counted past (omega arith) in
    let few = asked_few past in
    let same = untold_turned now (second_after past) (omega arith) in
    let one = one_looked now (turned now (second_after past)) in
    omega arith
