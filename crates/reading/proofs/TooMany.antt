-- Once there are too many names, there stay too many. Assumes nothing.
use Rattle.std.proofs.Common.{◌≡◌, ℕ, List, [], ◌∷◌, drop, ◌==◌, None, Some, Option, slice_index, refl, ap, ◌∙◌}
use Rattle.std.proofs.lemmas.Bool.{cond_both}
use Rattle.syntax.specs.declared.name.Name.{Name}
use Rattle.reading.specs.NameStrings.{fours}
use Rattle.reading.specs.NamesRule.{add_own, is_bound, join, merge, merge_all}

pub join_none : (bound : Option Name) (ns : List Name) → join bound ns None ≡ None
join_none bound [] = refl
join_none bound (n ∷ ns) = cond_both (is_bound bound n) None None (λ z. join bound ns z ≡ None) (λ _. join_none bound ns) (λ _. join_none bound ns)

pub merge_none : (bound : Option Name) (text : List ℕ) → merge bound text None ≡ None
merge_none bound text =
    cond_both (slice_index text 0 == 4) None (join bound (fours (drop 2 text)) None) (λ z. z ≡ None) (λ _. refl) (λ _. join_none bound (fours (drop 2 text)))

pub merge_all_none : (bound : Option Name) (texts : List (List ℕ)) → merge_all bound texts None ≡ None
merge_all_none bound [] = refl
merge_all_none bound (text ∷ texts) = ap (merge_all bound texts) (merge_none bound text) ∙ merge_all_none bound texts

pub add_own_none : (own : Option Name) → add_own own None ≡ None
add_own_none None = refl
add_own_none (Some n) = refl
