use Rattle.std.proofs.Common.{◌+◌, ◌*◌}
use Rattle.layout.proofs.scan.+measure.Given as goal

abbrev pub decreases-measure : goal.decreases-measure
decreases-measure l = 4 * l.limit + l.count
