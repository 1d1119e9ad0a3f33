use Rattle.std.proofs.Common.{◌≡◌, ◌-◌, ◌≤◌, length, replicate}
use Rattle.typing.specs.Heads.{place}
use Rattle.forms.specs.Skips.{skip_terms}
use Rattle.forms.proofs.reader.Reader.+reads_term.Given as goal

abbrev pub decreases-read_place : goal.decreases-read_place
decreases-read_place l = length l.self.now.1

abbrev pub decreases-read_type : goal.decreases-read_type
decreases-read_type l = length l.self.now.1

abbrev pub invariant-read_type-loop-label : goal.invariant-read_type-loop-label
invariant-read_type-loop-label l =
    (skip_terms (replicate 4 place) l.initial.self.0 l.initial.self.1 ≡ skip_terms (replicate (4 - l._label) place) l.self.0 l.self.1)
    × (length l.self.1 ≤ length l.initial.self.1)
