-- Consoles, and servers beside them.
use Rattle.std.proofs.Common.{◌≡◌, ◌⊎◌, ⊎_elim, inl, inr, ap, ◌∙◌}

-- both stay where each does
pub same_beside : {C V : Type 0} (old new : C) (server server_now : V) → new ≡ old → server_now ≡ server → ◌≡◌ {A = C × V} (new, server_now) (old, server)
same_beside {C} {V} old new server server_now same still =
    let second : ◌≡◌ {A = C × V} (new, server_now) (new, server) = ap (λ (v : V). (new, v)) still in
    let first : ◌≡◌ {A = C × V} (new, server) (old, server) = ap (λ (c : C). (c, server)) same in
    second ∙ first

-- what is so, or is not, is told so, and leaves both as they were
pub met_beside : {C V : Type 0} {met denied told : Type 0} (old new : C) (server server_now : V) → met ⊎ (denied × told × (new ≡ old) × (server_now ≡ server))
    → met ⊎ (denied × told × ◌≡◌ {A = C × V} (new, server_now) (old, server))
met_beside {C} {V} {met} {denied} {told} old new server server_now = ⊎_elim
    (λ (is : met). inl is)
    (λ (no : denied × told × (new ≡ old) × (server_now ≡ server)). inr (no.0, no.1, same_beside old new server server_now no.2 no.3))
