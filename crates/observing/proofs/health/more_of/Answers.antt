use Rattle.std.proofs.Common.{rules, ◌<◌, ◌≤◌, length, refl}
use Rattle.std.proofs.lemmas.Bool.Decides.{nat_tests}
use Rattle.observing.specs.HealthAnswer.HealthTells.{NotYet, Endless}
use Rattle.observing.proofs.health.more_of.Goals as goal

pub returns-then-bytes-lt-MAX_ANSWER_LEN : goal.returns-then-bytes-lt-MAX_ANSWER_LEN
returns-then-bytes-lt-MAX_ANSWER_LEN c =
    let short : length c.args.bytes.now < 8192 = search (rules, nat_tests) in λ open_yet. NotYet open_yet short refl

pub returns-else-bytes-lt-MAX_ANSWER_LEN : goal.returns-else-bytes-lt-MAX_ANSWER_LEN
returns-else-bytes-lt-MAX_ANSWER_LEN c =
    let long : 8192 ≤ length c.args.bytes.now = search (rules, nat_tests) in λ open_yet. Endless open_yet long refl
