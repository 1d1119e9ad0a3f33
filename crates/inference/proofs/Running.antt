-- A run of a work list: what each turn keeps. Assumes nothing.
use Rattle.std.proofs.Common.{◌≡◌, ℕ, ◌+◌, ◌*◌, ◌<◌, ◌≤◌, [], ◌∷◌, ◌++◌, length, reverse, Some, None, Option, refl, sym, ap, ◌∙◌, subst, subst₂, arith, length-append}
use Rattle.std.proofs.lemmas.List.{reverse-append, length-reverse}
use Rattle.typing.specs.Cells.{Graph, Pairs, more, step, after, unify}
use Rattle.typing.specs.Solutions.{Tidy, Within, live}
use Rattle.typing.proofs.Merging.{Kept, Sound, step_sound, unify_step, live_length}

-- what is left gives what the run was to give, and there is room for all that can come
pub record Going (start : Graph) (pairs : Pairs) (g : Graph) (left : Pairs) : Type 0 where
  pub long : length g ≡ length start
  pub within : Within (length g) left
  pub room : live g + length left ≤ 1440
  pub same : unify g left ≡ unify start pairs

pub going_first : (g : Graph) (stack : Pairs) → Within (length g) (reverse stack) → length g + length stack ≤ 1440 → Going g (reverse stack) g (reverse stack)
going_first g stack within room =
    record { long = refl; within = within; room = omega (arith, room, live_length g, length-reverse stack); same = refl }

reversed_push : (rest : Pairs) (p : ℕ × ℕ) → reverse (rest ++ p ∷ []) ≡ p ∷ reverse rest
reversed_push rest p = reverse-append rest (p ∷ [])

-- The pair on top is taken off, and its cells are made equal.
module _ (start : Graph) (pairs : Pairs) (g : Graph) (tidy : Tidy (length g) g) (stack rest : Pairs) (p : ℕ × ℕ) (top : stack ≡ rest ++ p ∷ []) (going : Going start pairs g (reverse stack)) where
  here : Going start pairs g (p ∷ reverse rest)
  here = subst (Going start pairs g) (ap reverse top ∙ reversed_push rest p) going

  next : unify g (p ∷ reverse rest) ≡ after (step g (p ∷ reverse rest)) unify
  next = unify_step (length g) g (p ∷ reverse rest) tidy here.within

  -- a step that leaves so many more pairs
  module _ (g' : Graph) (parts stack' : Pairs) (is : step g (p ∷ reverse rest) ≡ more g' (parts ++ reverse rest)) (few : length parts ≤ 2) (these : reverse stack' ≡ parts ++ reverse rest) where
    kept : Kept (length g) g (p ∷ reverse rest) g' (parts ++ reverse rest)
    kept = subst (Sound (length g) g (p ∷ reverse rest)) is (step_sound (length g) g (p ∷ reverse rest) tidy here.within)

    as_many : length stack' ≡ length parts + length (reverse rest)
    as_many = sym (length-reverse stack') ∙ ap length these ∙ length-append parts (reverse rest)

    less : 3 * live g' + length stack' < 3 * live g + length stack
    less = omega (arith, kept.less, length-append parts (reverse rest), as_many, ap length top, length-append rest (p ∷ []), length-reverse rest)

    goes_on : Going start pairs g' (reverse stack')
    goes_on =
        let as_long = kept.tidy.long in
        record {
          long = as_long ∙ here.long;
          within = subst₂ Within (sym as_long) (sym these) kept.within;
          room = omega (arith, here.room, kept.less, length-append parts (reverse rest), as_many, length-reverse stack', few);
          same = ap (unify g') these ∙ sym (next ∙ ap (λ o. after o unify) is) ∙ here.same;
        }

  -- the pair is done with
  module _ (g' : Graph) (is : step g (p ∷ reverse rest) ≡ more g' (reverse rest)) where
    pub passed : Going start pairs g' (reverse rest)
    passed = goes_on g' [] rest is (omega arith) refl

    pub passed_less : 3 * live g' + length rest < 3 * live g + length stack
    passed_less = less g' [] rest is (omega arith) refl

  -- the pairs of its parts are put on the stack, that of the functions on top
  module _ (g' : Graph) (f a : ℕ × ℕ) (is : step g (p ∷ reverse rest) ≡ more g' (f ∷ a ∷ reverse rest)) (one two : Pairs) (first : one ≡ rest ++ a ∷ []) (second : two ≡ one ++ f ∷ []) where
    these : reverse two ≡ f ∷ a ∷ reverse rest
    these = ap reverse second ∙ reversed_push one f ∙ ap (λ ps. f ∷ reverse ps) first ∙ ap (λ ps. f ∷ ps) (reversed_push rest a)

    pub parted : Going start pairs g' (reverse two)
    parted = goes_on g' (f ∷ a ∷ []) two is (omega arith) these

    pub parted_less : 3 * live g' + length two < 3 * live g + length stack
    parted_less = less g' (f ∷ a ∷ []) two is (omega arith) these

    pub parts_room : length one < 1440
    parts_room = omega (arith, parted.room, length-reverse two, ap length second, length-append one (f ∷ []))

pub none_left : {A : Type 0} (o : Option A) → ((x : A) → o ≡ Some x → ⊥) → o ≡ None
none_left None isnt = refl
none_left (Some x) isnt = absurd (isnt x refl)
