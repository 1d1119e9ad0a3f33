-- A group number at the front of a slice, as the definitions read it. Assumes nothing.
use Rattle.std.proofs.Common.{◌≡◌, ℕ, suc, ◌<◌, List, [], ◌∷◌, ◌++◌, length, get_or, Some, None, Option, refl, ap, ◌∙◌, Bor}
use Rattle.std.specs.Option.{ok_or}
use Rattle.layout.specs.Groups.{Group, group}
use Rattle.layout.specs.Readers.{Reads}
use Rattle.syntax.specs.declared.fault.Fault.{Fault}
use Rattle.typing.specs.Parsing.{read_group}
use Rattle.typing.specs.Strings.{Bytes}
use Rattle.typing.proofs.GroupReading.{group_read, group_spelled}
use Rattle.forms.specs.Numbers.{Counted}
use Rattle.forms.proofs.Skipping.{group_shorter}

pub bytes_each : (bs : List ℕ) → ((i : ℕ) → get_or bs i 0 < 256) → Bytes bs
bytes_each [] each = tt
bytes_each (b ∷ bs) each = (each 0, bytes_each bs (λ i. each (suc i)))

-- bytes that begin with no group number are read as none
pub no_group : (bs : List ℕ) → Bytes bs → ((n : ℕ) (rest : List ℕ) → Group n → bs ≡ group n ++ rest → ⊥) → read_group 2 bs ≡ None
no_group bs bytes none = by_reading (read_group 2 bs) refl
  where
    by_reading : (o : Option (ℕ × List ℕ)) → read_group 2 bs ≡ o → o ≡ None
    by_reading None is = refl
    by_reading (Some p) is = let g = group_read 2 bs p.0 p.1 bytes is in absurd (none p.0 p.1 g.0 g.1)

pub a_group : (bs : List ℕ) (n : ℕ) (rest : List ℕ) → Group n × (bs ≡ group n ++ rest) → (read_group 2 bs ≡ Some (n, rest)) × (length rest < length bs)
a_group bs n rest g =
    let is : read_group 2 bs ≡ Some (n, rest) = ap (read_group 2) g.1 ∙ group_spelled 2 n rest g.0 in
    (is, group_shorter 2 bs n rest is)

pub counted : (bs : List ℕ) → Bytes bs → (o : Option (ℕ × Bor (List ℕ))) → Reads Group group bs o → (fault : Fault) → Counted bs (ok_or o fault)
counted bs bytes None none fault = no_group bs bytes none
counted bs bytes (Some p) some fault = a_group bs p.0 p.1.now some
