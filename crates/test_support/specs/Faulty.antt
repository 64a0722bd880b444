-- A reader and a writer for tests, which count their calls up to the greatest number of 64 bits.
use Rattle.std.specs.Prelude.{ℕ, ◌+◌, ◌-◌, ◌^◌, min}
use Rattle.test_support.specs.declared.faulty.FaultyReader.{FaultyReader}
use Rattle.test_support.specs.declared.faulty.FaultyWriter.{FaultyWriter}

-- the count after one more call
abbrev pub one_more : ℕ → ℕ
one_more count = min (count + 1) (2 ^ 64 - 1)

-- how often the reader was read
abbrev pub reads_of : FaultyReader → ℕ
reads_of reader = reader.calls.count

-- how often the writer was written to or flushed
abbrev pub calls_of : FaultyWriter → ℕ
calls_of writer = writer.calls.count
