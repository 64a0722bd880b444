-- What the bytes that came over a connection to a target tell.
use Rattle.std.specs.Prelude.{ℕ, ◌≡◌, ◌⊎◌, List}
use Rattle.observing.specs.HealthAnswer.{HealthTells}
use Rattle.observing.specs.HttpAnswer.{HttpTells}
use Rattle.observing.specs.declared.answer.Answer.{Answer}
use Rattle.observing.specs.declared.answer.Answer.TheVariants.{Told}
use Rattle.observing.specs.declared.kind.Kind.{Kind}
use Rattle.observing.specs.declared.kind.Kind.TheVariants.{Tcp, Http, GrpcWeb}
use Rattle.observing.specs.declared.verdict.Verdict.TheVariants.{Pass, Fail}
use Rattle.observing.specs.declared.verdict.Why.TheVariants.{OutOfMemory}

-- a connection is all that is asked of a target of tcp
abbrev pub TellsBy : Kind → List ℕ → Answer → Type 0
TellsBy Tcp bytes answer = answer ≡ Told Pass
TellsBy Http bytes answer = HttpTells bytes answer
TellsBy GrpcWeb bytes answer = HealthTells bytes answer

-- where memory runs out, the look fails
abbrev pub Tells : Kind → List ℕ → Answer → Type 0
Tells kind bytes answer = TellsBy kind bytes answer ⊎ (answer ≡ Told (Fail OutOfMemory))
