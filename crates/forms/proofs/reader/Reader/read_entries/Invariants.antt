use Rattle.std.proofs.Common.{◌≡◌, ◌-◌, ◌≤◌, [], length}
use Rattle.forms.specs.Skips.{letters_of, skip_entries}
use Rattle.forms.proofs.reader.Reader.read_entries.Given as goal

abbrev pub invariant-loop-entry : goal.invariant-loop-entry
invariant-loop-entry l =
    (skip_entries l.count [] l.initial.self.0 l.initial.self.1 ≡ skip_entries (l.count - l._entry) (letters_of l.last) l.self.0 l.self.1)
    × (length l.self.1 ≤ length l.initial.self.1)
