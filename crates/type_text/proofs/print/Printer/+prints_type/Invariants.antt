use Rattle.std.proofs.Common.{◌≡◌, ℕ, ◌+◌, ◌*◌, ◌≤◌, List, [], ◌++◌, length}
use Rattle.typing.specs.Terms.{Term}
use Rattle.type_text.specs.Prints.{AllPlaces, Room, parts_of, places_bytes}
use Rattle.type_text.specs.TypeTexts.{fields_text, labels}
use Rattle.type_text.proofs.Printing.{Left}
use Rattle.type_text.proofs.print.Printer.+prints_type.Given as goal

abbrev pub decreases-print_field : goal.decreases-print_field
decreases-print_field l = 2 * length l.self.now.rest.now

abbrev pub decreases-print_record : goal.decreases-print_record
decreases-print_record l = 2 * length l.self.now.rest.now + 1

abbrev pub decreases-print_type : goal.decreases-print_type
decreases-print_type l = 2 * length l.self.now.rest.now

abbrev pub invariant-print_record-loop-label : goal.invariant-print_record-loop-label
invariant-print_record-loop-label l =
    ((ts : List Term) (rest : List ℕ) → AllPlaces ts → length ts ≡ 4 → l.initial.self.rest.now ≡ places_bytes ts ++ rest → Room (fields_text labels (parts_of ts) []) l.initial.self → Left labels ts l.label-index l.gap rest l.initial.self l.self)
    × (length l.self.rest.now ≤ length l.initial.self.rest.now)
    × (l.self.out.ghost_name ≡ l.initial.self.out.ghost_name)
