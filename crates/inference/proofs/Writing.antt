-- A term that is written cell by cell. Assumes nothing.
use Rattle.std.proofs.Common.{◌≡◌, ℕ, suc, ◌+◌, ◌-◌, ◌<◌, ◌≤◌, Bool, true, false, cond, List, [], ◌∷◌, ◌++◌, length, Ok, Err, Result, sym, refl, ap, ◌∙◌, subst, ap₂, arith, length-append}
use Rattle.std.proofs.lemmas.List.{append_assoc}
use Rattle.layout.specs.Groups.{group}
use Rattle.layout.proofs.Groups.{groups_some}
use Rattle.typing.specs.Cells.{Graph, cell, find, unroll, readback}
use Rattle.typing.specs.Solve.{member, position}
use Rattle.typing.specs.Strings.{longest}
use Rattle.typing.specs.Terms.{Term, var, ◌·◌}
use Rattle.typing.specs.declared.cell.Cell.{Cell}
use Rattle.typing.proofs.Numbering.{position_here}
use Rattle.inference.specs.Writings.{seen_after, spelled, Writes}
use Rattle.inference.specs.declared.script.Script.{Script}
use Rattle.inference.specs.declared.writer.TooLong.{TooLong}
use Rattle.inference.proofs.Spelling.{position_none, spelled_variable, spelled_apply, seen_apply}

-- a variable at the place p
module _ (k p : ℕ) (seen : List ℕ) (place : p ≡ position k seen) where
  bytes_are : group (5 + p) ≡ spelled seen (var k)
  bytes_are = ap (λ n. group (5 + n)) place ∙ sym (spelled_variable k seen)

  pub variable_full : (before : List ℕ) → longest < length before + length (group (5 + p)) → longest < length before + length (spelled seen (var k))
  variable_full before full = omega (arith, full, ap length bytes_are)

  -- the next place is that of a variable that has not appeared
  seen_by : (b : Bool) → member k seen ≡ b → (p ≡ length seen → seen_after seen (var k) ≡ seen ++ k ∷ []) × ((p ≡ length seen → ⊥) → seen_after seen (var k) ≡ seen)
  seen_by true is = ((λ next. absurd (omega (arith, next, place, (position_here k seen [] is).1))), (λ other. ap (λ b. cond b seen (seen ++ k ∷ [])) is))
  seen_by false is = ((λ next. ap (λ b. cond b seen (seen ++ k ∷ [])) is), (λ other. absurd (other (place ∙ position_none k seen is))))

  pub variable_new : (before after seen' : List ℕ) → p ≡ length seen → after ≡ before ++ group (5 + p) → seen' ≡ seen ++ k ∷ [] → (after ≡ before ++ spelled seen (var k)) × (seen' ≡ seen_after seen (var k))
  variable_new before after seen' next is more = (is ∙ ap (λ z. before ++ z) bytes_are, more ∙ sym ((seen_by (member k seen) refl).0 next))

  pub variable_old : (before after : List ℕ) → (p ≡ length seen → ⊥) → after ≡ before ++ group (5 + p) → (after ≡ before ++ spelled seen (var k)) × (seen ≡ seen_after seen (var k))
  variable_old before after other is = (is ∙ ap (λ z. before ++ z) bytes_are, sym ((seen_by (member k seen) refl).1 other))

-- There is room for one more variable where its number was written.
pub room_seen : (p m : ℕ) (before after : List ℕ) → m ≤ length before → after ≡ before ++ group (5 + p) → length after ≤ 240 → m < 240
room_seen p m before after few is short = omega (arith, few, short, ap length is ∙ length-append before (group (5 + p)), groups_some 2 (5 + p))

-- what is read back at a root, by its cell
module _ (g : Graph) (depth i r : ℕ) (deep : depth ≡ 0 → ⊥) (root : r ≡ find g i) where
  pub at_root : (c : Cell) → cell g r ≡ c → readback depth g i ≡ unroll c r (readback (depth - 1) g)
  at_root c is =
      let more : depth ≡ suc (depth - 1) = omega (arith, deep) in
      ap (λ d. readback d g i) more ∙ ap (λ z. unroll (cell g z) z (readback (depth - 1) g)) (sym root) ∙ ap (λ z. unroll z r (readback (depth - 1) g)) is

-- a term that is the one written
pub writes_as : (t u : Term) (s s' : Script) (r : Result (Unit {0}) TooLong) → t ≡ u → Writes u s s' r → Writes t s s' r
writes_as t u s s' r is = subst (λ z. Writes z s s' r) (sym is)

-- one term after another
pub writes_apply : (f x : Term) (s s' s'' : Script) (r : Result (Unit {0}) TooLong) → (s'.text.items ≡ s.text.items ++ spelled s.seen.items f) × (s'.seen.items ≡ seen_after s.seen.items f) → Writes x s' s'' r → Writes (f · x) s s'' r
writes_apply f x s s' s'' (Err e) first full =
    let before = s.text.items in
    let seen = s.seen.items in
    let later : length (spelled s'.seen.items x) ≡ length (spelled (seen_after seen f) x) = ap (λ z. length (spelled z x)) first.1 in
    omega (arith, full, later, ap length first.0, length-append before (spelled seen f), ap length (spelled_apply f x seen), length-append (spelled seen f) (spelled (seen_after seen f) x))
writes_apply f x s s' s'' (Ok u) first second =
    let before = s.text.items in
    let seen = s.seen.items in
    let rest = spelled (seen_after seen f) x in (
      second.0 ∙ ap₂ (λ (m z : List ℕ). m ++ spelled z x) first.0 first.1 ∙ append_assoc before (spelled seen f) rest ∙ ap (λ z. before ++ z) (sym (spelled_apply f x seen)),
      second.1 ∙ ap (λ z. seen_after z x) first.1 ∙ sym (seen_apply f x seen),
    )

pub full_apply : (t f x : Term) (before seen : List ℕ) → t ≡ f · x → longest < length before + length (spelled seen f) → longest < length before + length (spelled seen t)
full_apply t f x before seen is full =
    omega (arith, full, ap (λ z. length (spelled seen z)) is ∙ ap length (spelled_apply f x seen), length-append (spelled seen f) (spelled (seen_after seen f) x))
