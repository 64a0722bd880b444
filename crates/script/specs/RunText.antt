-- The texts of what the lines of a script come to, as a run prints them.
use Rattle.std.specs.Prelude.{ℕ, List, ◌++◌, codes, decimal, Option, None, Some, Result, Ok, Err}
use Rattle.health_wire.specs.declared.serving.Serving.{Serving}
use Rattle.health_wire.specs.declared.serving.Serving.TheVariants.{Unknown, NotServing, ServiceUnknown, Serving as IsServing}
use Rattle.desk_core.specs.declared.refusal.Refusal.{Refusal}
use Rattle.desk_core.specs.declared.refusal.Refusal.TheVariants.{BadRule, Full, NoMemory, NotListed, NotStored}
use Rattle.desk_core.specs.declared.reply.Reply.{Reply}
use Rattle.desk_core.specs.declared.reply.Reply.TheVariants.{Done, Replaced, Missing, WrongKind, Ignored}
use Rattle.script.specs.declared.outcome.Outcome.{Outcome}
use Rattle.script.specs.declared.outcome.Outcome.TheVariants.{Changed, Checked, Opened, Stepped, Board}

-- a status
abbrev pub serving_text : Serving → List ℕ
serving_text Unknown = codes "unknown"
serving_text IsServing = codes "serving"
serving_text NotServing = codes "not serving"
serving_text ServiceUnknown = codes "service unknown"

-- the reply to a change
abbrev pub reply_text : Reply → List ℕ
reply_text Done = codes "done"
reply_text Replaced = codes "replaced"
reply_text Missing = codes "missing"
reply_text WrongKind = codes "wrong kind"
reply_text Ignored = codes "ignored"

-- the refusal of a change
abbrev pub refused_text : Refusal → List ℕ
refused_text BadRule = codes "refused bad rule"
refused_text Full = codes "refused full"
refused_text NoMemory = codes "refused no memory"
refused_text NotListed = codes "refused not listed"
refused_text NotStored = codes "refused not stored"

-- a change that was taken or refused
abbrev pub changed_text : Result Reply Refusal → List ℕ
changed_text (Ok reply) = reply_text reply
changed_text (Err refusal) = refused_text refusal

-- what Check answers: a status, or that the service is not there
abbrev pub checked_text : Option Serving → List ℕ
checked_text None = codes "not found"
checked_text (Some status) = serving_text status

-- what a step of a watch shows: a status, or that nothing changed
abbrev pub stepped_text : Option Serving → List ℕ
stepped_text None = codes "none"
stepped_text (Some status) = serving_text status

-- what a line comes to
abbrev pub outcome_text : Outcome → List ℕ
outcome_text (Changed taken) = changed_text taken
outcome_text (Checked status) = checked_text status
outcome_text (Opened number status) = codes "watch " ++ decimal number ++ codes " " ++ serving_text status
outcome_text (Stepped status) = stepped_text status
outcome_text (Board word) = decimal word
