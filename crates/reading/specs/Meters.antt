-- How far a meter has come, for contracts outside its file. That file says `count`: a struct with an
-- invariant can't cite a definition of itself.
use Rattle.std.specs.Prelude.{ℕ, ◌≤◌}
use Rattle.reading.specs.Readings.{meter_end}
use Rattle.reading.specs.declared.meter.Meter.{Meter}
use Rattle.reading.specs.declared.names.Names.{Names}

abbrev pub count_of : Meter → ℕ
count_of m = m.count

pub count_within : (m : Meter) → count_of m ≤ meter_end
count_within m = m.within

-- how far the meter of a names reading has come
abbrev pub meter_of : Names → ℕ
meter_of x = count_of x.meter
