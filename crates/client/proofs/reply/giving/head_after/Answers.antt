use Rattle.std.proofs.Common.{◌≡◌, ◌<◌, ◌||◌, nat_le, List, ℕ, Err, length, sym, ap, ◌∙◌, subst, arith}
use Rattle.web_call.specs.InputHead.{IsHead, ends_blank, max_head_len}
use Rattle.client.specs.declared.ask_fault.AskFault.TheVariants.{BadResponse}
use Rattle.client.specs.Reply.{IsBad}
use Rattle.client.specs.Stages.{StandsAt}
use Rattle.client.proofs.GivingLemmas.{head_ends, head_goes}
use Rattle.client.proofs.reply.giving.head_after.Goals as goal

pub returns-then-not-is_head-clause-ok : goal.returns-then-not-is_head-clause-ok
returns-then-not-is_head-clause-ok c = λ open_head.
    let came = c.deref.ensures.value ∙ c.in_ok-push.ensures.items in (
      sym c.in_ok-push.ensures.items,
      head_goes c.args.head.items c.args.byte
          (ap (λ (all : List ℕ). nat_le 8192 (length all) || ends_blank all) (sym came) ∙ sym c.is_head.ensures.value ∙ c.if-not-is_head.true)
          (subst (λ (all : List ℕ). length all < max_head_len) came (c.is_head.ensures.short c.if-not-is_head.true)) open_head,
    )

pub returns-in-Ok-clause-ok : goal.returns-in-Ok-clause-ok
returns-in-Ok-clause-ok c = λ open_head.
    let came = c.deref.ensures.value ∙ c.in_ok-push.ensures.items in
    let whole = head_ends c.args.head.items c.args.byte
    (ap (λ (all : List ℕ). nat_le 8192 (length all) || ends_blank all) (sym came) ∙ sym c.is_head.ensures.value ∙ c.if-not-is_head.false) open_head in
    let read = c.deref-2.ensures.value ∙ c.in_ok-push.ensures.items in
    subst (λ (all : List ℕ). StandsAt c.args.call.method c.args.call.most all c.push.new.self.items c.in-Ok.stage) read
    (c.in-Ok.ensures.ok c.push.new.self.items (subst IsHead (sym read) whole))

pub returns-in-Ok-clause-fewer : goal.returns-in-Ok-clause-fewer
returns-in-Ok-clause-fewer c = omega (arith, c.in-Ok.ensures.fewer (length c.push.new.self.items))

pub returns-in-Err-clause-bad : goal.returns-in-Err-clause-bad
returns-in-Err-clause-bad c = λ is open_head.
    let came = c.deref.ensures.value ∙ c.in_ok-push.ensures.items in
    let whole = head_ends c.args.head.items c.args.byte
    (ap (λ (all : List ℕ). nat_le 8192 (length all) || ends_blank all) (sym came) ∙ sym c.is_head.ensures.value ∙ c.if-not-is_head.false) open_head in
    let read = c.deref-2.ensures.value ∙ c.in_ok-push.ensures.items in
    let same : c.in-Err.fault ≡ BadResponse = cc in
    subst (λ (all : List ℕ). IsBad c.args.call.method c.args.call.most all) read
    (c.in-Err.ensures.bad (ap Err same) (subst IsHead (sym read) whole))
