-- How far the meter of a typing reading has come. Assumes nothing.
use Rattle.std.specs.Prelude.{ℕ}
use Rattle.reading.specs.Meters.{count_of}
use Rattle.types.specs.declared.Types.{Types}

abbrev pub meter_of : Types → ℕ
meter_of x = count_of x.meter
