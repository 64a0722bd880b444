use Rattle.std.proofs.Common.{sym, subst}
use Rattle.live_server.specs.Loop.{table_of}
use Rattle.live_server.specs.Settled.{KeepsAccount}
use Rattle.live_server.proofs.SettledLemmas.{account_on, account_same}
use Rattle.live_server.proofs.conversations.Conversations.take_in.Goals.{then-is_full, else-is_full}
use Rattle.live_server.proofs.conversations.Conversations.take_in.Goals as goal

pub returns-in_default-clause-account : goal.returns-in_default-clause-account
returns-in_default-clause-account g c =
    let room : KeepsAccount (table_of c.args.self.now) (table_of c.if-is_full.self) = elim c.if-is_full.branch [
      | then-is_full w ↦ subst (λ self. KeepsAccount (table_of c.args.self.now) (table_of self)) (sym w.self-is) w.make_room.ensures.account
      | else-is_full w ↦ subst (λ self. KeepsAccount (table_of c.args.self.now) (table_of self)) (sym w.self-is) (account_same _)
    ] in
    room

pub returns-in_default-insert-clause-account : goal.returns-in_default-insert-clause-account
returns-in_default-insert-clause-account g c =
    let room : KeepsAccount (table_of c.args.self.now) (table_of c.if-is_full.self) = elim c.if-is_full.branch [
      | then-is_full w ↦ subst (λ self. KeepsAccount (table_of c.args.self.now) (table_of self)) (sym w.self-is) w.make_room.ensures.account
      | else-is_full w ↦ subst (λ self. KeepsAccount (table_of c.args.self.now) (table_of self)) (sym w.self-is) (account_same _)
    ] in
    account_on room c.insert.ensures.account

pub returns-in-Some-Waits-clause-account : goal.returns-in-Some-Waits-clause-account
returns-in-Some-Waits-clause-account g c =
    let room : KeepsAccount (table_of c.args.self.now) (table_of c.if-is_full.self) = elim c.if-is_full.branch [
      | then-is_full w ↦ subst (λ self. KeepsAccount (table_of c.args.self.now) (table_of self)) (sym w.self-is) w.make_room.ensures.account
      | else-is_full w ↦ subst (λ self. KeepsAccount (table_of c.args.self.now) (table_of self)) (sym w.self-is) (account_same _)
    ] in
    account_on room (account_on c.insert.ensures.account (account_on c.turn_of.ensures.account c.report.ensures.account))

pub returns-in-Some-insert-clause-account : goal.returns-in-Some-insert-clause-account
returns-in-Some-insert-clause-account g c =
    let room : KeepsAccount (table_of c.args.self.now) (table_of c.if-is_full.self) = elim c.if-is_full.branch [
      | then-is_full w ↦ subst (λ self. KeepsAccount (table_of c.args.self.now) (table_of self)) (sym w.self-is) w.make_room.ensures.account
      | else-is_full w ↦ subst (λ self. KeepsAccount (table_of c.args.self.now) (table_of self)) (sym w.self-is) (account_same _)
    ] in
    account_on room (account_on c.insert.ensures.account c.turn_of.ensures.account)

pub returns-in-Some-insert-2-clause-account : goal.returns-in-Some-insert-2-clause-account
returns-in-Some-insert-2-clause-account g c =
    let room : KeepsAccount (table_of c.args.self.now) (table_of c.if-is_full.self) = elim c.if-is_full.branch [
      | then-is_full w ↦ subst (λ self. KeepsAccount (table_of c.args.self.now) (table_of self)) (sym w.self-is) w.make_room.ensures.account
      | else-is_full w ↦ subst (λ self. KeepsAccount (table_of c.args.self.now) (table_of self)) (sym w.self-is) (account_same _)
    ] in
    account_on room (account_on c.insert.ensures.account c.turn_of.ensures.account)

pub returns-in-Some-Waits-clause-stays : goal.returns-in-Some-Waits-clause-stays
returns-in-Some-Waits-clause-stays g c = g.met.H.Handler.stays_on _ _ _ c.open.ensures.stays c.turn_of.ensures.stays

pub returns-in-Some-insert-clause-stays : goal.returns-in-Some-insert-clause-stays
returns-in-Some-insert-clause-stays g c = g.met.H.Handler.stays_on _ _ _ c.open.ensures.stays c.turn_of.ensures.stays

pub returns-in-Some-insert-2-clause-stays : goal.returns-in-Some-insert-2-clause-stays
returns-in-Some-insert-2-clause-stays g c = g.met.H.Handler.stays_on _ _ _ c.open.ensures.stays c.turn_of.ensures.stays
