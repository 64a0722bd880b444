use Rattle.std.specs.Prelude.{ℕ}
use Rattle.health_wire.specs.declared.serving.Serving.{Serving}
use Rattle.health_wire.specs.declared.serving.Serving.TheVariants.{Unknown, NotServing, ServiceUnknown}
use Rattle.health_wire.specs.declared.serving.Serving.TheVariants.{Serving as IsServing}

-- the number of a status in the enum `ServingStatus` of health.proto
abbrev pub serving_number : Serving → ℕ
serving_number Unknown = 0
serving_number IsServing = 1
serving_number NotServing = 2
serving_number ServiceUnknown = 3
