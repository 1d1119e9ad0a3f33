-- Reading entries with the terms forgotten: one after the other. Assumes nothing.
use Rattle.std.proofs.Common.{◌≡◌, ℕ, suc, ◌+◌, ◌-◌, ◌<◌, ◌≤◌, Bool, true, false, ◌&&◌, List, [], ◌∷◌, length, take, drop, Some, None, Option, sym, refl, ap, ◌∙◌, ap₂, arith}
use Rattle.std.specs.Cmp.Lexicographic.{slice_partial_cmp}
use Rattle.std.specs.Option.{option_partial_cmp}
use Rattle.std.specs.Ordering.{nat_cmp, partial_lt}
use Rattle.syntax.specs.Names.{is_name}
use Rattle.syntax.specs.declared.name.Name as name
use Rattle.typing.specs.Forms.{Name}
use Rattle.typing.specs.Heads.{Sort, type}
use Rattle.typing.specs.Parsing.{and_then, only_if, read_entries, read_terms, read_type}
use Rattle.typing.specs.Strings.{before}
use Rattle.typing.proofs.DerivedOrder.{less_before}
use Rattle.forms.specs.Skips.{Behind, forget, is_next, letters_of, skip_entries, skip_terms}
use Rattle.forms.proofs.Skipping.{then_assoc, then_cong}

-- the derived order, where what is not there comes first
pub after_last : (last : Option name.Name) (n : name.Name) (r : Bool) → true ≡ is_name n.0 → r ≡ partial_lt (option_partial_cmp (λ (x y : name.Name). slice_partial_cmp (λ a b. Some (nat_cmp a b)) x.0 y.0)) last (Some n) → r ≡ before (letters_of last) n.0
after_last (Some m) n r valid is = less_before m.0 n.0 r is
after_last None n r valid is = is ∙ some_letters n.0 valid
  where
    some_letters : (bs : List ℕ) → true ≡ is_name bs → true ≡ before [] bs
    some_letters [] valid = valid
    some_letters (b ∷ bs) valid = refl

module _ (last : Name) (bs name : List ℕ) (is : name ≡ take 4 bs) where
  pub no_name : false ≡ is_name name → is_next last bs ≡ false
  no_name wrong = ap (λ b. b && before last (take 4 bs)) (sym (wrong ∙ ap is_name is))

  pub not_after : true ≡ is_name name → false ≡ before last name → is_next last bs ≡ false
  not_after right wrong = ap₂ ◌&&◌ (sym (right ∙ ap is_name is)) (sym (wrong ∙ ap (before last) is))

  pub is_next_lem : true ≡ is_name name → true ≡ before last name → is_next last bs ≡ true
  is_next_lem right after = ap₂ ◌&&◌ (sym (right ∙ ap is_name is)) (sym (after ∙ ap (before last) is))

module _ (n : ℕ) (last : Name) (seen : List Sort) (bs : List ℕ) where
  unfold_entry : skip_entries (suc n) last seen bs ≡ and_then (only_if (is_next last bs) (skip_terms (type ∷ []) seen (drop 4 bs))) (λ p. skip_entries n (take 4 bs) p.0 p.1)
  unfolding skip_entries skip_terms
  unfold_entry =
      then_assoc (only_if (is_next last bs) (read_type 4 seen (drop 4 bs))) _ _ ∙ by_test (is_next last bs)
    where
      behind : List Sort → List ℕ → Option Behind
      behind seen₁ rest = forget (read_entries n 4 (take 4 bs) seen₁ rest)

      by_test : (b : Bool) → and_then (only_if b (read_type 4 seen (drop 4 bs))) (λ t. forget (and_then (read_entries n 4 (take 4 bs) t.1 t.2) (λ r. Some ((take 4 bs, t.0) ∷ r.0, r.1, r.2)))) ≡ and_then (only_if b (forget (read_terms (length (drop 4 bs)) 4 (type ∷ []) seen (drop 4 bs)))) (λ p. behind p.0 p.1)
      by_test true = then_assoc (read_terms (length (drop 4 bs)) 4 (type ∷ []) seen (drop 4 bs)) _ _ ∙ then_cong (read_terms (length (drop 4 bs)) 4 (type ∷ []) seen (drop 4 bs)) _ _ (λ r is. then_assoc (read_entries n 4 (take 4 bs) r.1 r.2) _ _) ∙ sym (then_assoc (read_terms (length (drop 4 bs)) 4 (type ∷ []) seen (drop 4 bs)) _ _)
      by_test false = refl

  -- no name that comes next
  entry_unnamed : is_next last bs ≡ false → skip_entries (suc n) last seen bs ≡ None
  entry_unnamed wrong = unfold_entry ∙ ap (λ b. and_then (only_if b (skip_terms (type ∷ []) seen (drop 4 bs))) (λ p. skip_entries n (take 4 bs) p.0 p.1)) wrong

  module _ (next : is_next last bs ≡ true) where
    named : skip_entries (suc n) last seen bs ≡ and_then (skip_terms (type ∷ []) seen (drop 4 bs)) (λ p. skip_entries n (take 4 bs) p.0 p.1)
    named = unfold_entry ∙ ap (λ b. and_then (only_if b (skip_terms (type ∷ []) seen (drop 4 bs))) (λ p. skip_entries n (take 4 bs) p.0 p.1)) next

    entry_untyped : skip_terms (type ∷ []) seen (drop 4 bs) ≡ None → skip_entries (suc n) last seen bs ≡ None
    entry_untyped none = named ∙ ap (λ o. and_then o (λ p. skip_entries n (take 4 bs) p.0 p.1)) none

    entry_then : (seen₁ : List Sort) (rest : List ℕ) → skip_terms (type ∷ []) seen (drop 4 bs) ≡ Some (seen₁, rest) → skip_entries (suc n) last seen bs ≡ skip_entries n (take 4 bs) seen₁ rest
    entry_then seen₁ rest some = named ∙ ap (λ o. and_then o (λ p. skip_entries n (take 4 bs) p.0 p.1)) some

entries_none : (last : Name) (seen : List Sort) (bs : List ℕ) → skip_entries 0 last seen bs ≡ Some (seen, bs)
unfolding skip_entries
entries_none last seen bs = refl

-- one turn of a loop over n entries, i of which are done
module _ (n i : ℕ) (lt : i < n) (last : Name) (seen : List Sort) (bs : List ℕ) where
  one_left : skip_entries (n - i) last seen bs ≡ skip_entries (suc (n - (i + 1))) last seen bs
  one_left = let e : n - i ≡ suc (n - (i + 1)) = omega (arith, lt) in ap (λ k. skip_entries k last seen bs) e

  pub turn_unnamed : is_next last bs ≡ false → skip_entries (n - i) last seen bs ≡ None
  turn_unnamed wrong = one_left ∙ entry_unnamed (n - (i + 1)) last seen bs wrong

  module _ (next : is_next last bs ≡ true) (b : Behind) (same : b.0 ≡ seen) (at : b.1 ≡ drop 4 bs) where
    pub turn_untyped : skip_terms (type ∷ []) b.0 b.1 ≡ None → skip_entries (n - i) last seen bs ≡ None
    turn_untyped none = one_left ∙ entry_untyped (n - (i + 1)) last seen bs next (ap₂ (skip_terms (type ∷ [])) (sym same) (sym at) ∙ none)

    pub turn_then : (name : Name) (b' : Behind) → name ≡ take 4 bs → skip_terms (type ∷ []) b.0 b.1 ≡ Some b' → skip_entries (n - i) last seen bs ≡ skip_entries (n - (i + 1)) name b'.0 b'.1
    turn_then name b' is some = one_left ∙ entry_then (n - (i + 1)) last seen bs next b'.0 b'.1 (ap₂ (skip_terms (type ∷ [])) (sym same) (sym at) ∙ some) ∙ ap (λ m. skip_entries (n - (i + 1)) m b'.0 b'.1) (sym is)

pub turns_done : (n i : ℕ) (last : Name) (seen : List Sort) (bs : List ℕ) → n ≤ i → skip_entries (n - i) last seen bs ≡ Some (seen, bs)
turns_done n i last seen bs le = let e : n - i ≡ 0 = omega (arith, le) in ap (λ k. skip_entries k last seen bs) e ∙ entries_none last seen bs
