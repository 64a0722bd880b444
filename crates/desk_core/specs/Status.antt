-- The status of each service: a plain map from names to statuses (health-checking.md of grpc).
use Rattle.std.specs.Prelude.{◌≡◌, ℕ, zero, suc, ◌^◌, ◌/◌, ◌%◌, ◌==◌, ◌&&◌, ◌||◌, not, Bool, true, false, if◌then◌else◌, Option, None, Some, unwrap_or, List}
use Rattle.health_wire.specs.declared.serving.Serving.{Serving}
use Rattle.health_wire.specs.declared.serving.Serving.TheVariants.{Unknown, NotServing, ServiceUnknown, Serving as IsServing}
use Rattle.probe_core.specs.declared.event.Event.{Event}
use Rattle.probe_core.specs.declared.rule.Rule.{Rule}
use Rattle.probe_core.specs.Rule.{relied_on}
use Rattle.probe_core.specs.Events.{is_up, is_unknown}
use Rattle.desk_core.specs.declared.entry.Entry.{Entry}
use Rattle.desk_core.specs.Shut.{is_shut}
use Rattle.desk_core.specs.Present.{rule_at}
use Rattle.desk_core.specs.Heard.{heard}
use Rattle.desk_core.specs.Catalogue.{slot_of}

-- the status is SERVING
abbrev pub is_serving : Option Serving → Bool
is_serving None = false
is_serving (Some Unknown) = false
is_serving (Some IsServing) = true
is_serving (Some NotServing) = false
is_serving (Some ServiceUnknown) = false

-- bit i of a mask is slot i
abbrev pub has_slot : ℕ → ℕ → Bool
has_slot mask i = mask / 2 ^ i % 2 == 1

-- the status of a service that is up, or is not
abbrev pub serving_if : Bool → Serving
serving_if b = if b then IsServing else NotServing

-- what a service's rule says of it, by the events that it heard and by whether the slots of a mask are all serving: one that
-- starts unknown and has heard nothing is unknown; any other is serving where it is up by its events and each slot that it relies on
-- is serving, and else not serving
abbrev pub opinion : (ℕ → Bool) → List Event → Rule → Serving
opinion covers events rule = if is_unknown rule events then Unknown else serving_if (is_up rule events && covers (relied_on rule))

-- a slot that is not registered has no status; while the server is shut down all others are not serving
abbrev pub status_by : (ℕ → Bool) → List Entry → ℕ → Option Rule → Option Serving
status_by covers entries i None = None
status_by covers entries i (Some rule) =
    Some (if is_shut entries then NotServing else opinion covers (heard entries i rule) rule)

-- each slot of the mask below the n-th is serving
unfoldable pub all_serving : List Entry → ℕ → ℕ → Bool
all_serving entries zero mask = true
all_serving entries (suc n) mask =
    all_serving entries n mask && (not (has_slot mask n) || is_serving (status_by (all_serving entries n) entries n (rule_at entries n)))

-- the status of a slot; one that depends on others looks at the slots before it
abbrev pub status_at : List Entry → ℕ → Option Serving
status_at entries i = status_by (all_serving entries i) entries i (rule_at entries i)

-- what Check answers for a slot, or for a name that has none
abbrev pub checked : List Entry → Option ℕ → Option Serving
checked entries None = None
checked entries (Some i) = status_at entries i

-- what Watch shows for it
abbrev pub shown : List Entry → Option ℕ → Serving
shown entries slot = unwrap_or (checked entries slot) ServiceUnknown

-- the map: the status of a listed name
abbrev pub status_map : List (List ℕ) → List Entry → List ℕ → Option Serving
status_map names entries name = checked entries (slot_of names name)

-- every slot of the mask is serving
abbrev pub AllServe : List Entry → ℕ → Type 0
AllServe entries mask = (i : ℕ) → has_slot mask i ≡ true → is_serving (status_at entries i) ≡ true
