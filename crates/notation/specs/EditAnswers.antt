-- What is answered where the edit lines of a sheet file are asked for. Assumes nothing.
use Rattle.std.specs.Prelude.{◌≡◌, ℕ, ◌+◌, ◌*◌, ◌≤◌, ◌⊎◌, List, ◌++◌, length, drop, Ok, Err, MatchBool, Option, Result, MatchOption, nat_le}
use Rattle.std.specs.Borrow.{Bor}
use Rattle.std.specs.List.{flat_map}
use Rattle.notation.specs.Edits.{Put, edit_lines, edits_from, line_at, no_line, path_text}
use Rattle.layout.specs.Scans.{Begins, FileOf, Refused}
use Rattle.syntax.specs.Trees.{Forest, Tree, height, levels, nodes, size}
use Rattle.syntax.specs.declared.argument.Symbol.{Symbol}
use Rattle.syntax.specs.declared.fault.Fault.{Fault}
use Rattle.syntax.specs.declared.fault.Fault.TheVariants.{ShortBuffer}

-- the lines of the file's tree, or the line of the refusal
abbrev pub Told : List ℕ → List ℕ → Type 0
Told file text =
    ((t : Tree Symbol) × FileOf file t × (height t ≤ 40) × (size t ≤ 1024) × (text ≡ edit_lines t))
    ⊎ ((fault : Fault) × Refused file 1024 fault × (text ≡ no_line fault))

-- that text at the front of a buffer of at least 57,344 bytes, which is otherwise as it was
abbrev pub Answered : List ℕ → List ℕ → List ℕ → Result ℕ Fault → Type 0
Answered file before after r =
    MatchBool (nat_le 57344 (length before))
    ((text : List ℕ) × Told file text × (r ≡ Ok (length text)) × (after ≡ text ++ drop (length text) before))
    ((r ≡ Err ShortBuffer) × (after ≡ before))

-- A buffer that was `start` has been written up to `at`: it begins with the text.
pub record Written (start text : List ℕ) (at : ℕ) (buffer : List ℕ) : Type 0 where
  pub at_is : at ≡ length text
  pub holds : buffer ≡ text ++ drop (length text) start

-- one more piece is written, if there is room for it
abbrev pub Adds : List ℕ → ℕ → List ℕ → List ℕ → Option ℕ → Type 0
Adds piece at before after r =
    (start text : List ℕ) → Written start text at before → length text + length piece ≤ length start
    → MatchOption r ⊥ (λ n. Written start (text ++ piece) n after)

-- the lines of the puts at and beneath a path
abbrev pub lines_under : List ℕ → List Put → List ℕ
lines_under path es = flat_map (λ e. line_at (path_text (path ++ e.path)) e.symbol) es

-- The trees f stand next in the bytes: they are children of the node at a path, and can be written.
pub record Ahead (bytes path : List ℕ) (count : ℕ) (p : List ℕ) (f : Forest Symbol) (end : List ℕ) : Type 0 where
  pub path_is : path ≡ path_text p
  pub begins : Begins bytes count f end
  pub shallow : length p + levels f ≤ 40

-- the lines of the trees that stand next are written, the first of which is the child k
abbrev pub AddsLines : List ℕ → List ℕ → ℕ → ℕ → ℕ → List ℕ → List ℕ → Option (Bor (List ℕ) × ℕ) → Type 0
AddsLines bytes path k count at before after r =
    (p : List ℕ) (f : Forest Symbol) (end start text : List ℕ) → Ahead bytes path count p f end → Written start text at before
    → length text + 56 * nodes f ≤ length start
    → MatchOption r ⊥ (λ x. (x.0.now ≡ end) × Written start (text ++ lines_under p (edits_from k f)) x.1 after)

-- the lines of a file's tree are written, if there is room for them
abbrev pub WritesFile : List ℕ → List ℕ → List ℕ → Option ℕ → Type 0
WritesFile file before after r =
    (t : Tree Symbol) → FileOf file t → height t ≤ 40 → 56 * size t ≤ length before → MatchOption r ⊥ (λ n. Written before (edit_lines t) n after)
