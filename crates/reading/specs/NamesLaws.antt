-- The names reading keeps the laws of readings. Assumes nothing.
use Rattle.std.specs.Prelude.{◌≡◌, ℕ, ◌+◌, ◌<◌, ◌≤◌, true, List, [], ◌∷◌, length, drop, Some, None, Option, ◌==◌, slice_index_or, refl}
use Rattle.std.proofs.Common.{ap, arith}
use Rattle.std.specs.Borrow.{Bor}
use Rattle.std.proofs.lemmas.List.{drop_more, drop_all}
use Rattle.std.proofs.lemmas.Bool.{and_parts}
use Rattle.syntax.specs.Arguments.{fits, of_sort}
use Rattle.syntax.specs.Kinds.{arity, sort_of}
use Rattle.syntax.specs.declared.argument.Argument.{Argument}
use Rattle.syntax.specs.declared.argument.Argument.TheVariants as argument
use Rattle.syntax.specs.declared.argument.Symbol.{Symbol}
use Rattle.syntax.specs.declared.kind.Kind.{Kind}
use Rattle.syntax.specs.declared.kind.Kind.TheVariants.{Hole, Num, Var, Nil, Lam, Fix, Sel, App, Add, Ext, Ifz}
use Rattle.syntax.specs.declared.name.Name.{Name}
use Rattle.reading.specs.NameStrings.{allowed}
use Rattle.reading.specs.NamesRule.{merge, merge_all, add_own, shows, binds, collected, named}
use Rattle.reading.specs.Readings.{Sound, allows_all, texts}
use Rattle.reading.specs.NameLists.{Valid, Good, add_good, merge_good, spelled_allowed, allowed_within}

-- children's names are merged one by one
module _ (bound : Option Name) (set : Option (List Name)) (slices : List (Bor (List ℕ))) (i : ℕ) where
  pub merge_more : (d : Bor (List ℕ)) → i < length slices → merge_all bound (texts (drop i slices)) set ≡ merge_all bound (texts (drop (i + 1) slices)) (merge bound (slice_index_or slices i d).now set)
  merge_more d within = ap (λ z. merge_all bound (texts z) set) (drop_more slices i d within)

  pub merge_end : length slices ≤ i → merge_all bound (texts (drop i slices)) set ≡ set
  merge_end past = ap (λ z. merge_all bound (texts z) set) (drop_all i slices past)

pub merge_all_good : (bound : Option Name) (parts : List (List ℕ)) (set : Option (List Name)) → allows_all named parts ≡ true → Good set → Good (merge_all bound parts set)
merge_all_good bound [] set h good = good
merge_all_good bound (text ∷ parts) set h good =
    let p = and_parts (allowed text) (allows_all named parts) h in
    merge_all_good bound parts (merge bound text set) p.1 (merge_good bound text set p.0 good)

abbrev pub ValidOwn : Option Name → Type 0
ValidOwn None = Unit {0}
ValidOwn (Some n) = Valid n

pub shown_valid : (k : Kind) (a : Argument) → of_sort (sort_of k) a ≡ true → ValidOwn (shows k a)
shown_valid Var argument.Nothing fit = tt
shown_valid Var (argument.Number n) fit = tt
shown_valid Var (argument.Name n) fit = fit
shown_valid Var (argument.Label l) fit = tt
shown_valid Hole a fit = tt
shown_valid Num a fit = tt
shown_valid Nil a fit = tt
shown_valid Lam a fit = tt
shown_valid Fix a fit = tt
shown_valid Sel a fit = tt
shown_valid App a fit = tt
shown_valid Add a fit = tt
shown_valid Ext a fit = tt
shown_valid Ifz a fit = tt

pub add_own_good : (own : Option Name) (set : Option (List Name)) → ValidOwn own → Good set → Good (add_own own set)
add_own_good None set valid good = good
add_own_good (Some n) set valid good = add_good n set valid good

pub collected_good : (s : Symbol) (parts : List (List ℕ)) → fits s ≡ true → allows_all named parts ≡ true → Good (collected s parts)
collected_good s parts fit all =
    add_own_good (shows s.kind s.argument) _ (shown_valid s.kind s.argument fit)
    (merge_all_good (binds s.kind s.argument) parts (Some []) all (refl, omega arith))

pub named_sound : Sound named
named_sound = record {
  low = omega arith;
  high = omega arith;
  within = allowed_within;
  closed = λ s parts fit suit. spelled_allowed (collected s parts) (collected_good s parts fit (and_parts (length parts == arity s.kind) (allows_all named parts) suit).1);
}
