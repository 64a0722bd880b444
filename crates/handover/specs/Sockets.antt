-- Sockets that a supervisor hands over (sd_listen_fds(3)).
use Rattle.std.specs.Prelude.{ℕ, ◌≤◌, List}
use Rattle.std.specs.List.{range_with_len}
use Rattle.handover.specs.declared.handed_over.TheConstants.{MAX_SOCKETS}
use Rattle.handover.specs.Numbers.{IsNumber}

-- LISTEN_PID is the number of the process itself, and LISTEN_FDS says so many sockets
pub record IsHandedOver (process_id : ℕ) (pid fds : List ℕ) (count : ℕ) : Type 0 where
  pub own : IsNumber pid process_id
  pub says : IsNumber fds count
  pub most : count ≤ MAX_SOCKETS

-- so many descriptors, from 3 on, which is SD_LISTEN_FDS_START
abbrev pub first_descriptors : ℕ → List ℕ
first_descriptors count = range_with_len 3 count
