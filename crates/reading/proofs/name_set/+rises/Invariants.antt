use Rattle.std.proofs.Common.{length}
use Rattle.reading.proofs.name_set.+rises.Given as goal

abbrev pub decreases-rises : goal.decreases-rises
decreases-rises l = length l.bytes.now
