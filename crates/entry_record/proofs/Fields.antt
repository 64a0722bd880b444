-- Each field that is read has the bytes of the format, and each field's bytes are read again, whatever stands behind them.
use Rattle.std.proofs.Common.{◌≡◌, ℕ, ◌^◌, ◌<◌, cond, eqb, ltb, List, [], ◌∷◌, ◌++◌, length, Some, None, refl, sym, ap, subst, ◌∙◌, arith, inl, inr}
use Rattle.std.specs.Int.{w16, w32, to_le_bytes}
use Rattle.std.proofs.lemmas.Bool.{ltb-true, lt-ltb, eqb-true}
use Rattle.std.proofs.lemmas.List.{append-nil, nil_from_length}
use Rattle.chronicle.specs.declared.who.Who.{Who}
use Rattle.chronicle.specs.declared.who.Who.TheVariants.{Setup, Session, Expiry}
use Rattle.probe_core.specs.declared.rule.Rule.{Rule}
use Rattle.probe_core.specs.declared.rule.Rule.TheVariants.{Threshold, Manual, Depends}
use Rattle.probe_core.specs.declared.start.Start.{Start}
use Rattle.probe_core.specs.declared.start.Start.TheVariants as start
use Rattle.desk_core.specs.declared.call.Finding.TheVariants.{Pass, Fail}
use Rattle.desk_core.specs.declared.call.Setting.TheVariants.{Up, Down}
use Rattle.desk_core.specs.declared.call.Call.{Call}
use Rattle.desk_core.specs.declared.call.Call.TheVariants.{Register, Retire, Observe, Set, Shutdown, Resume}
use Rattle.desk_core.specs.declared.reply.Reply.{Reply}
use Rattle.desk_core.specs.declared.reply.Reply.TheVariants.{Done, Replaced, Missing, WrongKind, Ignored}
use Rattle.entry_record.specs.Format.{who_bytes, reply_code, start_code, rule_bytes, call_bytes}
use Rattle.entry_record.specs.Range.{IsWho, IsRule, IsCall}
use Rattle.entry_record.specs.Reading.{◌>>=◌, byte_at, number_at, who_at, reply_of, start_of, threshold_at, rule_at, slot_call_at, call_at, last_call_of}
use Rattle.entry_record.proofs.Numbers.{IsBytes, IsBytes-rest, bind_some, chosen, code_is, taken, went_well, Takes, Takes-then, wide16, wide32, number_takes, number_again}

pub reply_takes : (code : ℕ) (reply : Reply) → reply_of code ≡ Some reply → code ≡ reply_code reply
unfolding reply_of
reply_takes code reply e = grind arith

pub reply_again : (reply : Reply) → reply_of (reply_code reply) ≡ Some reply
unfolding reply_of
reply_again Done = refl
reply_again Replaced = refl
reply_again Missing = refl
reply_again WrongKind = refl
reply_again Ignored = refl

start_takes : (code : ℕ) (start : Start) → start_of code ≡ Some start → code ≡ start_code start
unfolding start_of
start_takes code start e = grind arith

start_again : (start : Start) → start_of (start_code start) ≡ Some start
unfolding start_of
start_again start.Up = refl
start_again start.Unknown = refl

-- ---- who

abbrev pub IsWhoTaken : List ℕ → Who × List ℕ → Type 0
IsWhoTaken bytes x = Takes bytes (who_bytes x.0) x.1 × IsWho x.0

pub who_takes : (bytes : List ℕ) (x : Who × List ℕ) → IsBytes bytes → who_at bytes ≡ Some x → IsWhoTaken bytes x
unfolding who_at
who_takes [] x fits e = absurd cc
who_takes (code ∷ rest) x fits e =
    let rest_fits = IsBytes-rest code rest fits in
    elim (code_is code 0 (Some (Setup, rest)) _ (Some x) e) [
      | inl p ↦ taken (IsWhoTaken (code ∷ rest)) Setup rest x p.1 (record { parts = ap (λ (c : ℕ). c ∷ rest) p.0; rest_fits = rest_fits }, tt)
      | inr e1 ↦ elim (code_is code 1 (number_at w32 rest >>= λ number. Some (Session number.0, number.1)) _ (Some x) e1) [
        | inl p ↦
            let b = bind_some (number_at w32 rest) (λ number. Some (Session number.0, number.1)) x p.1 in
            let t = number_takes w32 (2 ^ 32) wide32 rest b.0.0 b.0.1 rest_fits b.1 in
            taken (IsWhoTaken (code ∷ rest)) (Session b.0.0) b.0.1 x b.2 (record { parts = ap (λ (c : ℕ). c ∷ rest) p.0 ∙ ap (λ (w : List ℕ). 1 ∷ w) t.0.parts; rest_fits = t.0.rest_fits }, t.1)
        | inr e2 ↦ elim (code_is code 2 (Some (Expiry, rest)) None (Some x) e2) [
          | inl p ↦ taken (IsWhoTaken (code ∷ rest)) Expiry rest x p.1 (record { parts = ap (λ (c : ℕ). c ∷ rest) p.0; rest_fits = rest_fits }, tt)
          | inr e3 ↦ absurd cc
        ]
      ]
    ]

pub who_again : (who : Who) (rest : List ℕ) → IsWho who → who_at (who_bytes who ++ rest) ≡ Some (who, rest)
unfolding who_at
who_again Setup rest fits = refl
who_again (Session number) rest fits = rw (number_again w32 (2 ^ 32) wide32 number rest fits) refl
who_again Expiry rest fits = refl

-- ---- rules

abbrev IsRuleTaken : List ℕ → Rule × List ℕ → Type 0
IsRuleTaken bytes x = Takes bytes (rule_bytes x.0) x.1 × IsRule x.0

-- a code in front of what was taken
behind_code : (code n : ℕ) (rest text after : List ℕ) → code ≡ n → Takes rest text after → Takes (code ∷ rest) (n ∷ text) after
behind_code code n rest text after e t = record { parts = ap (λ (c : ℕ). c ∷ rest) e ∙ ap (λ (w : List ℕ). n ∷ w) t.parts; rest_fits = t.rest_fits }

nothing_taken : (rest : List ℕ) → IsBytes rest → Takes rest [] rest
nothing_taken rest fits = record { parts = refl; rest_fits = fits }

pub byte_takes : (bytes : List ℕ) (x : ℕ × List ℕ) → IsBytes bytes → byte_at bytes ≡ Some x → Takes bytes (x.0 ∷ []) x.1
byte_takes [] x fits e = absurd cc
byte_takes (byte ∷ rest) x fits e =
    taken (λ (y : ℕ × List ℕ). Takes (byte ∷ rest) (y.0 ∷ []) y.1) byte rest x e (behind_code byte byte rest [] rest refl (nothing_taken rest (IsBytes-rest byte rest fits)))

pub byte_is : (bytes : List ℕ) (n m : ℕ) (rest : List ℕ) → n ≡ m → Takes bytes (n ∷ []) rest → Takes bytes (m ∷ []) rest
byte_is bytes n m rest e t = subst (λ (k : ℕ). Takes bytes (k ∷ []) rest) e t

abbrev IsThresholdTaken : List ℕ → Rule × List ℕ → Type 0
IsThresholdTaken bytes x = Takes (0 ∷ bytes) (rule_bytes x.0) x.1 × IsRule x.0

threshold_takes : (bytes : List ℕ) (x : Rule × List ℕ) → IsBytes bytes → threshold_at bytes ≡ Some x → IsThresholdTaken bytes x
unfolding threshold_at
threshold_takes bytes x fits e =
    let a = bind_some (number_at w32 bytes) (λ fall. number_at w32 fall.1 >>= λ rise. byte_at rise.1 >>= λ code. start_of code.0 >>= λ start. Some (Threshold fall.0 rise.0 start, code.1)) x e in
    let b = bind_some (number_at w32 a.0.1) (λ rise. byte_at rise.1 >>= λ code. start_of code.0 >>= λ start. Some (Threshold a.0.0 rise.0 start, code.1)) x a.2 in
    let c = bind_some (byte_at b.0.1) (λ code. start_of code.0 >>= λ start. Some (Threshold a.0.0 b.0.0 start, code.1)) x b.2 in
    let d = bind_some (start_of c.0.0) (λ start. Some (Threshold a.0.0 b.0.0 start, c.0.1)) x c.2 in
    let fall = number_takes w32 (2 ^ 32) wide32 bytes a.0.0 a.0.1 fits a.1 in
    let rise = number_takes w32 (2 ^ 32) wide32 a.0.1 b.0.0 b.0.1 fall.0.rest_fits b.1 in
    let code = byte_takes b.0.1 c.0 rise.0.rest_fits c.1 in
    let start = byte_is b.0.1 c.0.0 (start_code d.0) c.0.1 (start_takes c.0.0 d.0 d.1) code in
    let two = Takes-then a.0.1 (to_le_bytes w32 b.0.0) b.0.1 (start_code d.0 ∷ []) c.0.1 rise.0 start in
    let three = Takes-then bytes (to_le_bytes w32 a.0.0) a.0.1 (to_le_bytes w32 b.0.0 ++ start_code d.0 ∷ []) c.0.1 fall.0 two in
    taken (IsThresholdTaken bytes) (Threshold a.0.0 b.0.0 d.0) c.0.1 x d.2 (behind_code 0 0 bytes (to_le_bytes w32 a.0.0 ++ (to_le_bytes w32 b.0.0 ++ start_code d.0 ∷ [])) c.0.1 refl three, (fall.1, rise.1))

rule_takes : (bytes : List ℕ) (x : Rule × List ℕ) → IsBytes bytes → rule_at bytes ≡ Some x → IsRuleTaken bytes x
unfolding rule_at
rule_takes [] x fits e = absurd cc
rule_takes (code ∷ rest) x fits e =
    let rest_fits = IsBytes-rest code rest fits in
    elim (code_is code 0 (threshold_at rest) _ (Some x) e) [
      | inl p ↦ subst (λ (c : ℕ). IsRuleTaken (c ∷ rest) x) (sym p.0) (threshold_takes rest x rest_fits p.1)
      | inr e1 ↦ elim (code_is code 1 (Some (Manual, rest)) _ (Some x) e1) [
        | inl p ↦ taken (IsRuleTaken (code ∷ rest)) Manual rest x p.1 (behind_code code 1 rest [] rest p.0 (nothing_taken rest rest_fits), tt)
        | inr e2 ↦ elim (code_is code 2 (number_at w16 rest >>= λ mask. Some (Depends mask.0, mask.1)) None (Some x) e2) [
          | inl p ↦
              let b = bind_some (number_at w16 rest) (λ mask. Some (Depends mask.0, mask.1)) x p.1 in
              let t = number_takes w16 (2 ^ 16) wide16 rest b.0.0 b.0.1 rest_fits b.1 in
              taken (IsRuleTaken (code ∷ rest)) (Depends b.0.0) b.0.1 x b.2 (behind_code code 2 rest (to_le_bytes w16 b.0.0) b.0.1 p.0 t.0, t.1)
          | inr e3 ↦ absurd cc
        ]
      ]
    ]

threshold_again : (fall rise : ℕ) (start : Start) (rest : List ℕ) → fall < 2 ^ 32 → rise < 2 ^ 32 → threshold_at (to_le_bytes w32 fall ++ (to_le_bytes w32 rise ++ (start_code start ∷ rest))) ≡ Some (Threshold fall rise start, rest)
unfolding threshold_at
threshold_again fall rise start rest small few =
    rw (number_again w32 (2 ^ 32) wide32 fall (to_le_bytes w32 rise ++ (start_code start ∷ rest)) small, number_again w32 (2 ^ 32) wide32 rise (start_code start ∷ rest) few, start_again start) refl

rule_again : (rule : Rule) (rest : List ℕ) → IsRule rule → rule_at (rule_bytes rule ++ rest) ≡ Some (rule, rest)
unfolding rule_at
rule_again (Threshold fall rise start) rest fits = threshold_again fall rise start rest fits.0 fits.1
rule_again Manual rest fits = refl
rule_again (Depends mask) rest fits = rw (number_again w16 (2 ^ 16) wide16 mask rest fits) refl

-- ---- calls

abbrev IsCallTaken : List ℕ → Call × List ℕ → Type 0
IsCallTaken bytes x = Takes bytes (call_bytes x.0) x.1 × IsCall x.0

-- a call that has a slot and nothing else
slot_alone : (code n slot : ℕ) (rest : List ℕ) (call : Call) (x : Call × List ℕ) → IsBytes rest → call_bytes call ≡ n ∷ slot ∷ [] → IsCall call → (code ≡ n) × (Some (call, rest) ≡ Some x) → IsCallTaken (code ∷ slot ∷ rest) x
slot_alone code n slot rest call x rest_fits form fits p =
    let slot_takes = behind_code slot slot rest [] rest refl (nothing_taken rest rest_fits) in
    let takes = behind_code code n (slot ∷ rest) (slot ∷ []) rest p.0 slot_takes in
    taken (IsCallTaken (code ∷ slot ∷ rest)) call rest x p.1 (rw form takes, fits)

slot_call_takes : (code : ℕ) (bytes : List ℕ) (x : Call × List ℕ) → IsBytes bytes → slot_call_at code bytes ≡ Some x → IsCallTaken (code ∷ bytes) x
unfolding slot_call_at
slot_call_takes code [] x fits e = absurd cc
slot_call_takes code (slot ∷ rest) x fits e =
    let rest_fits = IsBytes-rest slot rest fits in
    elim (chosen (ltb slot 16) _ None (Some x) e) [
      | inr p ↦ absurd cc
      | inl small ↦
          let lt : slot < 16 = ltb-true slot 16 small.0 in
          elim (code_is code 0 (rule_at rest >>= λ rule. Some (Register slot rule.0, rule.1)) _ (Some x) small.1) [
            | inl p ↦
                let b = bind_some (rule_at rest) (λ rule. Some (Register slot rule.0, rule.1)) x p.1 in
                let t = rule_takes rest b.0 rest_fits b.1 in
                taken (IsCallTaken (code ∷ slot ∷ rest)) (Register slot b.0.0) b.0.1 x b.2 (behind_code code 0 (slot ∷ rest) (slot ∷ rule_bytes b.0.0) b.0.1 p.0 (behind_code slot slot rest (rule_bytes b.0.0) b.0.1 refl t.0), (lt, t.1))
            | inr e1 ↦ elim (code_is code 1 (Some (Retire slot, rest)) _ (Some x) e1) [
              | inl p ↦ slot_alone code 1 slot rest (Retire slot) x rest_fits refl lt p
              | inr e2 ↦ elim (code_is code 2 (Some (Observe slot Pass, rest)) _ (Some x) e2) [
                | inl p ↦ slot_alone code 2 slot rest (Observe slot Pass) x rest_fits refl lt p
                | inr e3 ↦ elim (code_is code 3 (Some (Observe slot Fail, rest)) _ (Some x) e3) [
                  | inl p ↦ slot_alone code 3 slot rest (Observe slot Fail) x rest_fits refl lt p
                  | inr e4 ↦ elim (code_is code 4 (Some (Set slot Up, rest)) _ (Some x) e4) [
                    | inl p ↦ slot_alone code 4 slot rest (Set slot Up) x rest_fits refl lt p
                    | inr e5 ↦ elim (code_is code 5 (Some (Set slot Down, rest)) None (Some x) e5) [
                      | inl p ↦ slot_alone code 5 slot rest (Set slot Down) x rest_fits refl lt p
                      | inr e6 ↦ absurd cc
                    ]
                  ]
                ]
              ]
            ]
          ]
    ]

call_takes : (bytes : List ℕ) (x : Call × List ℕ) → IsBytes bytes → call_at bytes ≡ Some x → IsCallTaken bytes x
unfolding call_at
call_takes [] x fits e = absurd cc
call_takes (code ∷ rest) x fits e =
    let rest_fits = IsBytes-rest code rest fits in
    elim (code_is code 6 (Some (Shutdown, rest)) _ (Some x) e) [
      | inl p ↦ taken (IsCallTaken (code ∷ rest)) Shutdown rest x p.1 (behind_code code 6 rest [] rest p.0 (nothing_taken rest rest_fits), tt)
      | inr e1 ↦ elim (code_is code 7 (Some (Resume, rest)) _ (Some x) e1) [
        | inl p ↦ taken (IsCallTaken (code ∷ rest)) Resume rest x p.1 (behind_code code 7 rest [] rest p.0 (nothing_taken rest rest_fits), tt)
        | inr e2 ↦ slot_call_takes code rest x rest_fits e2
      ]
    ]

call_again : (call : Call) (rest : List ℕ) → IsCall call → call_at (call_bytes call ++ rest) ≡ Some (call, rest)
unfolding call_at slot_call_at
call_again (Register slot rule) rest fits = rw (lt-ltb slot 16 fits.0, rule_again rule rest fits.1) refl
call_again (Retire slot) rest fits = rw (lt-ltb slot 16 fits) refl
call_again (Observe slot Pass) rest fits = rw (lt-ltb slot 16 fits) refl
call_again (Observe slot Fail) rest fits = rw (lt-ltb slot 16 fits) refl
call_again (Set slot Up) rest fits = rw (lt-ltb slot 16 fits) refl
call_again (Set slot Down) rest fits = rw (lt-ltb slot 16 fits) refl
call_again Shutdown rest fits = refl
call_again Resume rest fits = refl

pub last_call_takes : (bytes : List ℕ) (call : Call) → IsBytes bytes → last_call_of bytes ≡ Some call → (bytes ≡ call_bytes call) × IsCall call
unfolding last_call_of
last_call_takes bytes call fits e =
    let b = bind_some (call_at bytes) (λ x. cond (eqb (length x.1) 0) (Some x.0) None) call e in
    let g = went_well (eqb (length b.0.1) 0) b.0.0 call b.2 in
    let nothing : b.0.1 ≡ [] = nil_from_length b.0.1 (eqb-true _ _ g.0) in
    let t = call_takes bytes b.0 fits b.1 in
    let whole : bytes ≡ call_bytes b.0.0 = t.0.parts ∙ ap (λ (rest : List ℕ). call_bytes b.0.0 ++ rest) nothing ∙ append-nil (call_bytes b.0.0) in
    subst (λ (c : Call). (bytes ≡ call_bytes c) × IsCall c) g.1 (whole, t.1)

pub last_call_again : (call : Call) → IsCall call → last_call_of (call_bytes call) ≡ Some call
unfolding last_call_of
last_call_again call fits =
    let whole : call_at (call_bytes call) ≡ Some (call, []) = ap call_at (sym (append-nil (call_bytes call))) ∙ call_again call [] fits in
    rw whole refl
