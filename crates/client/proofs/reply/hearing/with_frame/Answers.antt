use Rattle.std.proofs.Common.{◌≤◌, length, sym, subst, inl, List, ℕ}
use Rattle.std.proofs.lemmas.Result.{IfOk-weaker}
use Rattle.grpc_frame.specs.Frame.{frame}
use Rattle.grpc_frame.specs.Split.{max_content_len}
use Rattle.client.specs.Stages.{IsEnding}
use Rattle.client.proofs.reply.hearing.with_frame.Goals as goal

pub returns-then-taken-eq-MESSAGE-clause-bad : goal.returns-then-taken-eq-MESSAGE-clause-bad
returns-then-taken-eq-MESSAGE-clause-bad c = λ is bytes empty fits ending.
    let Ends : ℕ → List ℕ → Type 0 = λ flag content. IsEnding c.args.call.method c.args.call.most bytes c.args.body.next c.args.body.more c.args.heard.statuses.items (frame flag content) in
    let same = sym c.deref.ensures.value in
    c.with_message.ensures.bad is bytes empty (subst (λ (all : List ℕ). length all ≤ max_content_len) same fits)
    (subst (Ends 0) same (subst (λ (flag : ℕ). Ends flag c.args.taken.now.body.items) c.if-taken-eq-MESSAGE.true ending))

pub returns-else-taken-eq-MESSAGE-clause-bad : goal.returns-else-taken-eq-MESSAGE-clause-bad
returns-else-taken-eq-MESSAGE-clause-bad c = λ is bytes empty fits ending.
    let Ends : ℕ → List ℕ → Type 0 = λ flag content. IsEnding c.args.call.method c.args.call.most bytes c.args.body.next c.args.body.more c.args.heard.statuses.items (frame flag content) in
    let same = sym c.deref-else-taken-eq-MESSAGE.ensures.value in
    c.with_trailers.ensures.bad is bytes (subst (λ (all : List ℕ). length all ≤ max_content_len) same fits)
    (subst (Ends 128) same (subst (λ (flag : ℕ). Ends flag c.args.taken.now.body.items) (c.requires c.if-taken-eq-MESSAGE.false) ending))

pub returns-then-taken-eq-MESSAGE-clause-grows : goal.returns-then-taken-eq-MESSAGE-clause-grows
returns-then-taken-eq-MESSAGE-clause-grows c =
    IfOk-weaker c.with_message.result _ _ (λ stage told bytes fits ending.
    let Ends : ℕ → List ℕ → Type 0 = λ flag content. IsEnding c.args.call.method c.args.call.most bytes c.args.body.next c.args.body.more c.args.heard.statuses.items (frame flag content) in
    let same = sym c.deref.ensures.value in
    told bytes (subst (λ (all : List ℕ). length all ≤ max_content_len) same fits)
    (subst (Ends 0) same (subst (λ (flag : ℕ). Ends flag c.args.taken.now.body.items) c.if-taken-eq-MESSAGE.true ending))) c.with_message.ensures.grows

pub returns-else-taken-eq-MESSAGE-clause-grows : goal.returns-else-taken-eq-MESSAGE-clause-grows
returns-else-taken-eq-MESSAGE-clause-grows c = IfOk-weaker c.with_trailers.result _ _ (λ stage same bytes fits ending. inl same) c.with_trailers.ensures.same
