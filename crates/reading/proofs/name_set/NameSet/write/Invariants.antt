use Rattle.std.proofs.Common.{◌≡◌, ◌+◌, ◌*◌, ◌∷◌, ◌++◌, length, take, drop}
use Rattle.std.specs.List.{flat_map}
use Rattle.reading.proofs.name_set.NameSet.write.Given as goal

abbrev pub invariant-loop-i : goal.invariant-loop-i
invariant-loop-i l =
    (l.out ≡ (3 ∷ (length l.names ∷ flat_map (λ n. n.0) (take l.i l.names))) ++ drop (2 + 4 * l.i) l.initial.out)
    × (length (flat_map (λ n. n.0) (take l.i l.names)) ≡ 4 * l.i)
