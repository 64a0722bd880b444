-- The reply that a digest knows is that of its history.
use Rattle.std.proofs.Common.{◌≡◌, ℕ, Bool, Option, None, Some, List, slice_index_or, refl, ap, ◌∙◌}
use Rattle.std.specs.Prelude.{is_some, option_map, if◌then◌else◌}
use Rattle.probe_core.specs.declared.event.Event.{Event}
use Rattle.probe_core.specs.declared.rule.Rule.{Rule}
use Rattle.probe_core.specs.Events.{memory_after}
use Rattle.desk_core.specs.declared.call.Call.{Call}
use Rattle.desk_core.specs.declared.call.Call.TheVariants.{Register, Retire, Observe, Set, Shutdown, Resume}
use Rattle.desk_core.specs.declared.entry.Entry.{Entry}
use Rattle.desk_core.specs.declared.reply.Reply.TheVariants.{Done, Replaced, Missing}
use Rattle.desk_core.specs.Heard.{heard, event_of_finding, event_of_setting}
use Rattle.desk_core.specs.Present.{rule_at}
use Rattle.desk_core.specs.Reply.{reply_to, reply_to_event}
use Rattle.desk_core.specs.Shut.{is_shut}
use Rattle.journal_store.specs.Digest.{Summary, IsDigest}
use Rattle.journal_store.specs.Next.{rule_of, reply_by}

rule_in : (memory : Rule → ℕ) (o : Option Rule) → rule_of (option_map (λ rule. (rule, memory rule)) o) ≡ o
rule_in memory None = refl
rule_in memory (Some rule) = refl

some_in : (memory : Rule → ℕ) (o : Option Rule) → is_some {T = Rule × ℕ} (option_map (λ rule. (rule, memory rule)) o) ≡ is_some o
some_in memory None = refl
some_in memory (Some rule) = refl

module _ (digest : Summary) (history : List Entry) (is : IsDigest digest history) where
  abbrev memory : ℕ → Rule → ℕ
  memory slot rule = memory_after rule (heard history slot rule)

  -- what a slot is, by its probe
  present : (slot : ℕ) → is_some (slice_index_or digest.probes slot None) ≡ is_some (rule_at history slot)
  present slot = ap (λ (o : Option (Rule × ℕ)). is_some o) (is.probes slot) ∙ some_in (memory slot) (rule_at history slot)

  to_event : (slot : ℕ) (event : Event) → reply_to_event (rule_of (slice_index_or digest.probes slot None)) digest.is_shut event ≡ reply_to_event (rule_at history slot) (is_shut history) event
  to_event slot event =
      ap (λ (o : Option (Rule × ℕ)). reply_to_event (rule_of o) digest.is_shut event) (is.probes slot)
      ∙ ap (λ (o : Option Rule). reply_to_event o digest.is_shut event) (rule_in (memory slot) (rule_at history slot))
      ∙ ap (λ (b : Bool). reply_to_event (rule_at history slot) b event) is.shut

  pub reply_known : (call : Call) → reply_by digest.probes digest.is_shut call ≡ reply_to history call
  reply_known (Register slot rule) = ap (λ (b : Bool). if b then Replaced else Done) (present slot)
  reply_known (Retire slot) = ap (λ (b : Bool). if b then Done else Missing) (present slot)
  reply_known (Observe slot finding) = to_event slot (event_of_finding finding)
  reply_known (Set slot setting) = to_event slot (event_of_setting setting)
  reply_known Shutdown = refl
  reply_known Resume = refl
