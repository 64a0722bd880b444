-- How many connections a server may hold.
use Rattle.std.specs.Prelude.{ℕ, ◌-◌, ◌^◌}
use Rattle.open_files.specs.declared.limits.OpenFiles.{OpenFiles}
use Rattle.open_files.specs.declared.limits.OpenFiles.TheVariants.{AtMost, Unlimited}

-- how many files may be open; the largest u64 stands for no limit
abbrev pub most_of : OpenFiles → ℕ
most_of (AtMost count) = count
most_of Unlimited = 2 ^ 64 - 1
