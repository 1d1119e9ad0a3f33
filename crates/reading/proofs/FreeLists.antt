-- What a rule alone gives under the names reading lists its free names. Assumes nothing.
use Rattle.std.proofs.Common.{◌≡◌, ℕ, zero, suc, Bool, true, false, cond, ◌⊎◌, List, [], ◌∷◌, map, Some, None, Option, sym, refl, ap, ◌∙◌, subst, ap₂, inl, inr, arith}
use Rattle.std.specs.List.{AllByRecursion}
use Rattle.std.proofs.lemmas.Bool.{ne_eqb, eqb-false, false≢true}
use Rattle.syntax.specs.Arguments.{of_sort}
use Rattle.syntax.specs.Rules.{WellFormed}
use Rattle.syntax.specs.Kinds.{arity, sort_of}
use Rattle.syntax.specs.Trees.{Forest, none, grow, Tree, node, child, count, subtree, under}
use Rattle.syntax.specs.declared.argument.Argument.{Argument}
use Rattle.syntax.specs.declared.argument.Argument.TheVariants as argument
use Rattle.syntax.specs.declared.argument.Symbol.{Symbol}
use Rattle.syntax.specs.declared.kind.Kind.{Kind}
use Rattle.syntax.specs.declared.kind.Kind.TheVariants.{Hole, Num, Var, Nil, Lam, Fix, Sel, App, Add, Ext, Ifz}
use Rattle.syntax.specs.declared.name.Name.{Name}
use Rattle.reading.specs.FreeNames.{FreeAt, FreeAmong, Free, Crowded, Overfull, Lists, GivesFreeNames}
use Rattle.reading.specs.NameStrings.{key, many, spelled}
use Rattle.reading.specs.NamesRule.{add, add_own, binds, shows, is_bound, join, merge_all, named}
use Rattle.reading.specs.Readings.{all_give, gives}
use Rattle.reading.proofs.Gathering.{Gathers, Exactly, TooMany, Joined, Unbound, With, add_gathers, gathers_same, join_gathers}
use Rattle.reading.proofs.NameKeys.{same_name, shorter_list}
use Rattle.reading.specs.NameLists.{Valid, Good, join_good, merge_listing, rising_valid}
use Rattle.reading.specs.NamesLaws.{add_own_good, shown_valid}

-- what each tree of a list gives, as names and not as bytes
abbrev merge_names : Option Name → List (Option (List Name)) → Option (List Name) → Option (List Name)
merge_names bound [] set = set
merge_names bound (None ∷ rest) set = merge_names bound rest None
merge_names bound (Some ns ∷ rest) set = merge_names bound rest (join bound ns set)

abbrev node_names : Symbol → List (Option (List Name)) → Option (List Name)
node_names s below = add_own (shows s.kind s.argument) (merge_names (binds s.kind s.argument) below (Some []))

abbrev all_names : Forest Symbol → List (Option (List Name))
all_names none = []
all_names (grow s c f) = node_names s (all_names c) ∷ all_names f

merge_names_good : (bound : Option Name) (below : List (Option (List Name))) (set : Option (List Name)) → AllByRecursion Good below → Good set → Good (merge_names bound below set)
merge_names_good bound [] set goods good = good
merge_names_good bound (None ∷ rest) set goods good = merge_names_good bound rest None goods.1 tt
merge_names_good bound (Some ns ∷ rest) set goods good =
    merge_names_good bound rest (join bound ns set) goods.1 (join_good bound ns set (rising_valid 0 ns goods.0.0) good)

all_names_good : (f : Forest Symbol) → WellFormed f → AllByRecursion Good (all_names f)
all_names_good none formed = tt
all_names_good (grow s c f) formed = (
  add_own_good (shows s.kind s.argument) _ (shown_valid s.kind s.argument formed.0)
      (merge_names_good (binds s.kind s.argument) (all_names c) (Some []) (all_names_good c formed.2) (refl, omega arith)),
  all_names_good f formed.3,
)

merge_spelled : (bound : Option Name) (below : List (Option (List Name))) (set : Option (List Name)) → AllByRecursion Good below → merge_all bound (map spelled below) set ≡ merge_names bound below set
merge_spelled bound [] set goods = refl
merge_spelled bound (None ∷ rest) set goods = merge_spelled bound rest None goods.1
merge_spelled bound (Some ns ∷ rest) set goods =
    ap (merge_all bound (map spelled rest)) (merge_listing bound ns set goods.0) ∙ merge_spelled bound rest (join bound ns set) goods.1

gives_names : (f : Forest Symbol) → WellFormed f → all_give named f ≡ map spelled (all_names f)
gives_names none formed = refl
gives_names (grow s c f) formed =
    ap₂ (λ x xs. x ∷ xs)
    (ap (λ o. spelled (add_own (shows s.kind s.argument) o)) (ap (λ z. merge_all (binds s.kind s.argument) z (Some [])) (gives_names c formed.2) ∙ merge_spelled (binds s.kind s.argument) (all_names c) (Some []) (all_names_good c formed.2)))
    (gives_names f formed.3)

-- what the names of a tree tell of it
abbrev Tells : Tree Symbol → Option (List Name) → Type 0
Tells t None = Overfull t
Tells t (Some ns) = (Overfull t → ⊥) × Exactly (λ n. Free n t) ns

abbrev AllTell : Forest Symbol → Type 0
AllTell none = Unit {0}
AllTell (grow s c f) = Tells (node s c) (node_names s (all_names c)) × AllTell f

-- some child is overfull, or none is
pub record Burst (c : Forest Symbol) : Type 0 where
  pub place : ℕ
  pub tree : Tree Symbol
  pub there : child c place ≡ Some tree
  pub over : Overfull tree

abbrev Calm : Forest Symbol → Type 0
Calm c = (k : ℕ) (t : Tree Symbol) → child c k ≡ Some t → Overfull t → ⊥

abbrev Merged : Option Name → (Name → Type 0) → Forest Symbol → Name → Type 0
Merged bound P c x = P x ⊎ (FreeAmong x c × Unbound bound x)

merge_names_none : (bound : Option Name) (below : List (Option (List Name))) → merge_names bound below None ≡ None
merge_names_none bound [] = refl
merge_names_none bound (None ∷ rest) = merge_names_none bound rest
merge_names_none bound (Some ns ∷ rest) = ap (merge_names bound rest) (joins ns) ∙ merge_names_none bound rest
  where
    joins : (ms : List Name) → join bound ms None ≡ None
    joins [] = refl
    joins (m ∷ ms) = ap (join bound ms) (same (is_bound bound m)) ∙ joins ms
      where
        same : (b : Bool) → cond b None (add m None) ≡ None
        same true = refl
        same false = refl

merge_tells : (bound : Option Name) (c : Forest Symbol) (P : Name → Type 0) (set : Option (List Name)) → AllTell c → Gathers P set → (Burst c × (merge_names bound (all_names c) set ≡ None)) ⊎ (Calm c × Gathers (Merged bound P c) (merge_names bound (all_names c) set))
merge_tells bound none P set tells g =
    inr ((λ k t is over. let z : ◌≡◌ {A = ℕ} 0 1 = cc in absurd (omega arith)), gathers_same P (Merged bound P none) set (λ x p. inl p) (λ x h. elim h [ inl p ↦ p | inr q ↦ absurd q.0 ]) g)
merge_tells bound (grow s c f) P set tells g =
    step (node_names s (all_names c)) tells.0 (λ Q set' h. merge_tells bound f Q set' tells.1 h)
  where
    later : Burst f → Burst (grow s c f)
    later b = record { place = suc b.place; tree = b.tree; there = b.there; over = b.over }

    calm : (Overfull (node s c) → ⊥) → Calm f → Calm (grow s c f)
    calm here rest zero t is over = here (subst Overfull (sym (inside is)) over)
      where
        inside : {u : Tree Symbol} → Some (node s c) ≡ Some u → node s c ≡ u
        inside e = cc
    calm here rest (suc k) t is over = rest k t is over

    step : (own : Option (List Name)) → Tells (node s c) own → ((Q : Name → Type 0) (set' : Option (List Name)) → Gathers Q set' → (Burst f × (merge_names bound (all_names f) set' ≡ None)) ⊎ (Calm f × Gathers (Merged bound Q f) (merge_names bound (all_names f) set'))) → (Burst (grow s c f) × (merge_names bound (own ∷ all_names f) set ≡ None)) ⊎ (Calm (grow s c f) × Gathers (Merged bound P (grow s c f)) (merge_names bound (own ∷ all_names f) set))
    step None told rest = inl (record { place = 0; tree = node s c; there = refl; over = told }, merge_names_none bound (all_names f))
    step (Some ns) told rest = goes (rest (Joined bound P ns) (join bound ns set) (join_gathers bound P ns set (rising_valid 0 ns told.1.apart) g))
      where
        out : (x : Name) → Merged bound (Joined bound P ns) f x → Merged bound P (grow s c f) x
        out x (inl (inl p)) = inl p
        out x (inl (inr q)) = inr (inl (told.1.sound x q.0), q.1)
        out x (inr q) = inr (inr q.0, q.1)

        into : (x : Name) → Merged bound P (grow s c f) x → Merged bound (Joined bound P ns) f x
        into x (inl p) = inl (inl p)
        into x (inr q) = elim q.0 [ inl here ↦ inl (inr (told.1.complete x here, q.1)) | inr there ↦ inr (there, q.1) ]

        goes : (Burst f × (merge_names bound (all_names f) (join bound ns set) ≡ None)) ⊎ (Calm f × Gathers (Merged bound (Joined bound P ns) f) (merge_names bound (all_names f) (join bound ns set))) → (Burst (grow s c f) × (merge_names bound (Some ns ∷ all_names f) set ≡ None)) ⊎ (Calm (grow s c f) × Gathers (Merged bound P (grow s c f)) (merge_names bound (Some ns ∷ all_names f) set))
        goes (inl b) = inl (later b.0, b.1)
        goes (inr h) =
            inr (calm told.0 h.0, gathers_same (Merged bound (Joined bound P ns) f) (Merged bound P (grow s c f)) (merge_names bound (all_names f) (join bound ns set)) out into h.1)

-- only names are free
module _ (n : Name) where
  free_at : (k : Kind) (a : Argument) (below : Type 0) → of_sort (sort_of k) a ≡ true → (below → Valid n) → FreeAt n k (record { kind = k; argument = a }) below → Valid n
  free_at Var a below fit rest here = subst (λ z. of_sort (sort_of Var) z ≡ true) here fit
  free_at Lam a below fit rest here = rest here.1
  free_at Hole a below fit rest here = rest here
  free_at Num a below fit rest here = rest here
  free_at Nil a below fit rest here = rest here
  free_at Fix a below fit rest here = rest here
  free_at Sel a below fit rest here = rest here
  free_at App a below fit rest here = rest here
  free_at Add a below fit rest here = rest here
  free_at Ext a below fit rest here = rest here
  free_at Ifz a below fit rest here = rest here

  free_valid : (c : Forest Symbol) → WellFormed c → FreeAmong n c → Valid n
  free_valid none formed here = absurd here
  free_valid (grow s c f) formed (inl here) = free_at s.kind s.argument (FreeAmong n c) formed.0 (free_valid c formed.2) here
  free_valid (grow s c f) formed (inr there) = free_valid f formed.3 there

module _ (s : Symbol) (c : Forest Symbol) where
  over_below : Burst c → Overfull (node s c)
  over_below b =
      record {
        path = b.place ∷ b.over.path;
        part = b.over.part;
        there = ap (λ o. under o (subtree b.over.path)) b.there ∙ b.over.there;
        crowded = b.over.crowded;
      }

  over_here : TooMany (λ n. Free n (node s c)) → Overfull (node s c)
  over_here g = record { path = []; part = node s c; there = refl; crowded = record { names = g.names; apart = g.apart; free = g.belong; more = g.more } }

  calm_node : (ns : List Name) → Calm c → Exactly (λ n. Free n (node s c)) ns → Overfull (node s c) → ⊥
  calm_node ns calm g over = by_path over.path over.there
    where
      inside : {t u : Tree Symbol} → Some t ≡ Some u → t ≡ u
      inside e = cc

      by_path : (path : List ℕ) → subtree path (node s c) ≡ Some over.part → ⊥
      by_path [] is =
          let crowd = subst Crowded (sym (inside is)) over.crowded in
          omega (arith, shorter_list 0 0 crowd.names ns crowd.apart g.apart (λ n here. g.complete n (crowd.free n here)), crowd.more, g.few)
      by_path (k ∷ path) is = by_child (child c k) refl is
        where
          by_child : (o : Option (Tree Symbol)) → child c k ≡ o → under o (subtree path) ≡ Some over.part → ⊥
          by_child None here e = let z : ◌≡◌ {A = ℕ} 0 1 = cc in omega arith
          by_child (Some t) here e = calm k t here (record { path = path; part = over.part; there = e; crowded = over.crowded })

  finish : (o : Option (List Name)) → Calm c → Gathers (λ n. Free n (node s c)) o → Tells (node s c) o
  finish None calm g = over_here g
  finish (Some ns) calm g = (calm_node ns calm g, g)

  -- a node that is no variable, given which of its children's free names are its own
  from_below : (bound : Option Name) → AllTell c → ((n : Name) → FreeAmong n c → Unbound bound n → Free n (node s c)) → ((n : Name) → Free n (node s c) → FreeAmong n c × Unbound bound n) → Tells (node s c) (merge_names bound (all_names c) (Some []))
  from_below bound tells to from = by_merge (merge_tells bound c (λ _. ⊥) (Some []) tells start)
    where
      start : Exactly (λ _. ⊥) []
      start = record { apart = refl; few = omega arith; sound = λ n here. here; complete = λ n no'. no' }

      by_merge : (Burst c × (merge_names bound (all_names c) (Some []) ≡ None)) ⊎ (Calm c × Gathers (Merged bound (λ _. ⊥) c) (merge_names bound (all_names c) (Some []))) → Tells (node s c) (merge_names bound (all_names c) (Some []))
      by_merge (inl b) = subst (Tells (node s c)) (sym b.1) (over_below b.0)
      by_merge (inr h) =
          finish (merge_names bound (all_names c) (Some [])) h.0
          (gathers_same (Merged bound (λ _. ⊥) c) (λ n. Free n (node s c)) (merge_names bound (all_names c) (Some []))
          (λ n p. elim p [ inl no' ↦ absurd no' | inr q ↦ to n q.0 q.1 ]) (λ n h'. inr (from n h')) h.1)

variable_tells : (m : Name) → Valid m → Tells (node (record { kind = Var; argument = argument.Name m }) none) (add m (Some []))
variable_tells m valid =
    finish (record { kind = Var; argument = argument.Name m }) none (add m (Some [])) (λ k t is over. let z : ◌≡◌ {A = ℕ} 0 1 = cc in absurd (omega arith))
    (gathers_same (With (λ _. ⊥) m) (λ n. argument.Name m ≡ argument.Name n) (add m (Some [])) to from
    (add_gathers (λ _. ⊥) m (Some []) valid (record { apart = refl; few = omega arith; sound = λ n here. here; complete = λ n no'. no' })))
  where
    to : (n : Name) → With (λ _. ⊥) m n → argument.Name m ≡ argument.Name n
    to n (inl no') = absurd no'
    to n (inr e) = ap argument.Name (sym e)

    from : (n : Name) → argument.Name m ≡ argument.Name n → With (λ _. ⊥) m n
    from n e = inr (inside e)
      where
        inside : {x y : Name} → argument.Name x ≡ argument.Name y → y ≡ x
        inside e' = cc

function_tells : (m : Name) (c : Forest Symbol) → Valid m → WellFormed c → AllTell c → Tells (node (record { kind = Lam; argument = argument.Name m }) c) (merge_names (Some m) (all_names c) (Some []))
function_tells m c valid formed tells =
    from_below (record { kind = Lam; argument = argument.Name m }) c (Some m) tells
    (λ n here free. ((λ e. eqb-false (key m) (key n) free (ap key (inside e))), here))
    (λ n here. (here.1, ne_eqb (key m) (key n) (λ e. here.0 (ap argument.Name (same_name m n valid (free_valid n c formed here.1) e)))))
  where
    inside : {x y : Name} → argument.Name x ≡ argument.Name y → x ≡ y
    inside e = cc

node_tells : (k : Kind) (a : Argument) (c : Forest Symbol) → of_sort (sort_of k) a ≡ true → count c ≡ arity k → WellFormed c → AllTell c → Tells (node (record { kind = k; argument = a }) c) (node_names (record { kind = k; argument = a }) (all_names c))
node_tells Var (argument.Name m) none fit number formed tells = variable_tells m fit
node_tells Var (argument.Name m) (grow s c f) fit number formed tells = absurd (omega (arith, number))
node_tells Var argument.Nothing c fit number formed tells = absurd (false≢true fit)
node_tells Var (argument.Number n) c fit number formed tells = absurd (false≢true fit)
node_tells Var (argument.Label l) c fit number formed tells = absurd (false≢true fit)
node_tells Lam (argument.Name m) c fit number formed tells = function_tells m c fit formed tells
node_tells Lam argument.Nothing c fit number formed tells = absurd (false≢true fit)
node_tells Lam (argument.Number n) c fit number formed tells = absurd (false≢true fit)
node_tells Lam (argument.Label l) c fit number formed tells = absurd (false≢true fit)
node_tells Hole a c fit number formed tells = from_below (record { kind = Hole; argument = a }) c None tells (λ n here _. here) (λ n here. (here, refl))
node_tells Num a c fit number formed tells = from_below (record { kind = Num; argument = a }) c None tells (λ n here _. here) (λ n here. (here, refl))
node_tells Nil a c fit number formed tells = from_below (record { kind = Nil; argument = a }) c None tells (λ n here _. here) (λ n here. (here, refl))
node_tells Fix a c fit number formed tells = from_below (record { kind = Fix; argument = a }) c None tells (λ n here _. here) (λ n here. (here, refl))
node_tells Sel a c fit number formed tells = from_below (record { kind = Sel; argument = a }) c None tells (λ n here _. here) (λ n here. (here, refl))
node_tells App a c fit number formed tells = from_below (record { kind = App; argument = a }) c None tells (λ n here _. here) (λ n here. (here, refl))
node_tells Add a c fit number formed tells = from_below (record { kind = Add; argument = a }) c None tells (λ n here _. here) (λ n here. (here, refl))
node_tells Ext a c fit number formed tells = from_below (record { kind = Ext; argument = a }) c None tells (λ n here _. here) (λ n here. (here, refl))
node_tells Ifz a c fit number formed tells = from_below (record { kind = Ifz; argument = a }) c None tells (λ n here _. here) (λ n here. (here, refl))

all_tell : (f : Forest Symbol) → WellFormed f → AllTell f
all_tell none formed = tt
all_tell (grow s c f) formed =
    (node_tells s.kind s.argument c formed.0 formed.1 formed.2 (all_tell c formed.2), all_tell f formed.3)

pub gives_free_names : GivesFreeNames
gives_free_names (node s c) formed = by_names (node_names s (all_names c)) (all_tell (grow s c none) formed).0 text
  where
    first : {x y : List ℕ} {xs ys : List (List ℕ)} → x ∷ xs ≡ y ∷ ys → x ≡ y
    first e = cc

    text : gives named (node s c) ≡ spelled (node_names s (all_names c))
    text = first (gives_names (grow s c none) formed)

    by_names : (o : Option (List Name)) → Tells (node s c) o → gives named (node s c) ≡ spelled o → (Overfull (node s c) × (gives named (node s c) ≡ many)) ⊎ ((Overfull (node s c) → ⊥) × Lists (node s c) (gives named (node s c)))
    by_names None told is = inl (told, is)
    by_names (Some ns) told is =
        inr (told.0, record { names = ns; apart = told.1.apart; sound = told.1.sound; complete = told.1.complete; is = is })
