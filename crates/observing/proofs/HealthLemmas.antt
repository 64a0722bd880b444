-- What the end of a client's call says of the bytes that it was given.
use Rattle.std.proofs.Common.{ℕ, ◌≡◌, List, [], ◌++◌, refl, sym, ap, ◌∙◌, subst}
use Rattle.std.proofs.lemmas.List.{append-nil}
use Rattle.std.specs.Prelude.{Some, Ok, Err}
use Rattle.client.specs.Ask.{IsReadFor}
use Rattle.client.specs.Reply.{IsOpen}
use Rattle.client.specs.declared.ask_fault.AskFault.TheVariants.{Read, BadResponse, Http}
use Rattle.client.specs.declared.told.Told.{Told as Heard}
use Rattle.web_call.specs.declared.method.Method.TheVariants.{Check}
use Rattle.observing.specs.HealthAnswer.{HealthTells, by_told}
use Rattle.observing.specs.HealthAnswer.HealthTells.{ByTold, Bad, Refused}
use Rattle.observing.specs.declared.answer.Answer.TheVariants.{Told}
use Rattle.observing.specs.declared.verdict.Verdict.TheVariants.{Fail}
use Rattle.observing.specs.declared.verdict.Why.TheVariants.{Malformed, Status}

pub told : (bytes unread : List ℕ) (heard : Heard) → IsReadFor (Ok heard) Check 1 (Some bytes) (Some unread) → HealthTells bytes (Told (by_told heard))
told bytes unread heard read = ByTold read.0 unread heard read.1 read.2.0 refl

pub bad : (bytes unread : List ℕ) → IsReadFor (Err BadResponse) Check 1 (Some bytes) (Some unread) → HealthTells bytes (Told (Fail Malformed))
bad bytes unread read = Bad read.0 unread read.1 read.2.0 refl

pub refused : (bytes unread : List ℕ) (status : ℕ) → IsReadFor (Err (Http status)) Check 1 (Some bytes) (Some unread)
    → HealthTells bytes (Told (Fail (Status status)))
refused bytes unread status read = Refused read.0 unread status read.1 read.2.0 refl

pub open_to_the_end : (bytes unread : List ℕ) → IsReadFor (Err Read) Check 1 (Some bytes) (Some unread) → unread ≡ [] → IsOpen Check 1 bytes
open_to_the_end bytes unread read none =
    subst (λ (all : List ℕ). IsOpen Check 1 all) (sym (read.1 ∙ ap (λ (rest : List ℕ). read.0 ++ rest) none ∙ append-nil read.0)) read.2
