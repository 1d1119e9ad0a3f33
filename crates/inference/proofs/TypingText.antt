-- The string that is written of an outcome is that of the node's typing. Assumes nothing.
use Rattle.std.proofs.Common.{◌≡◌, ◌+◌, min, true, false, cond, leb, List, ◌∷◌, ◌++◌, length, Some, None, Option, Ok, Err, sym, refl, subst, ap₂, arith}
use Rattle.std.proofs.lemmas.Bool.{le-leb, lt-leb}
use Rattle.layout.specs.Groups.{group}
use Rattle.syntax.specs.declared.kind.Kind.{Kind}
use Rattle.typing.specs.Forms.{Form}
use Rattle.typing.specs.Strings.{Status, formed, overlong, Typing, form_bytes, longest, most, status_byte, status_bytes, typing_bytes}
use Rattle.typing.specs.Typings.{counted, is_clash, is_hole, is_overlong, status_of}
use Rattle.inference.specs.Outcomes.{Outcome, Concludes, byte_of, bytes_of, clash_of, overlong_of}
use Rattle.inference.specs.Tallies.{Totals}
use Rattle.inference.specs.TypingStrings.{string_of}
use Rattle.forms.specs.declared.outline.Tally.{Tally}
use Rattle.forms.specs.declared.outline.Untyped.TheVariants.{Clashed, Overlong}

-- what an outcome has of a status
pub record Shows (s : Status) (r : Outcome) : Type 0 where
  pub byte : byte_of r ≡ status_byte s
  pub bytes : bytes_of r ≡ status_bytes s
  pub clash : clash_of r ≡ is_clash s
  pub overlong : overlong_of r ≡ is_overlong s

shows : (o : Option Form) (r : Outcome) → Concludes o r → Shows (status_of o) r
shows None (Err Clashed) ends = record { byte = refl; bytes = refl; clash = refl; overlong = refl }
shows None (Ok t) ends = absurd ends
shows None (Err Overlong) ends = absurd ends
shows (Some F) (Err Clashed) ends = absurd ends
shows (Some F) (Ok t) ends =
    let fits : leb (length (form_bytes F)) longest ≡ true = le-leb _ _ ends.1 in
    subst (λ b. Shows (cond b (formed F) overlong) (Ok t)) (sym fits) (record { byte = refl; bytes = ends.0; clash = refl; overlong = refl })
shows (Some F) (Err Overlong) ends =
    let long : leb (length (form_bytes F)) longest ≡ false = lt-leb _ _ ends in
    subst (λ b. Shows (cond b (formed F) overlong) (Err Overlong)) (sym long) (record { byte = refl; bytes = refl; clash = refl; overlong = refl })

-- the counts of a node's typing
pub record Counts (T : Typing) (t : Tally) : Type 0 where
  pub clashes : t.clashes ≡ T.clashes
  pub overlongs : t.overlongs ≡ T.overlongs
  pub holes : t.holes ≡ T.holes

-- sums over the children, with the node itself
pub counts_node : (k : Kind) (o : Option Form) (Ts : List Typing) (r : Outcome) (sums t : Tally) → Concludes o r → Totals Ts sums → t.clashes ≡ min most (clash_of r + sums.clashes) → t.overlongs ≡ min most (overlong_of r + sums.overlongs) → t.holes ≡ min most (is_hole k + sums.holes) → Counts (counted k (status_of o) Ts) t
counts_node k o Ts r sums t ends totals c v h =
    let s = shows o r ends in
    record {
      clashes = omega (arith, c, s.clash, totals.clashes);
      overlongs = omega (arith, v, s.overlong, totals.overlongs);
      holes = omega (arith, h, totals.holes);
    }

pub string_is : (k : Kind) (o : Option Form) (Ts : List Typing) (r : Outcome) (t : Tally) → Concludes o r → Counts (counted k (status_of o) Ts) t → string_of r t ≡ typing_bytes (counted k (status_of o) Ts)
string_is k o Ts r t ends counts =
    let s = shows o r ends in
    let rest : group t.holes ++ bytes_of r ≡ group (counted k (status_of o) Ts).holes ++ status_bytes (status_of o) = ap₂ (λ n bytes. group n ++ bytes) counts.holes s.bytes in
    let more = ap₂ (λ n bytes. group n ++ bytes) counts.overlongs rest in
    ap₂ (λ b bytes. b ∷ bytes) s.byte (ap₂ (λ n bytes. group n ++ bytes) counts.clashes more)
