-- The edits of a rule build it from a single hole. Assumes nothing.
use Rattle.std.proofs.Common.{◌≡◌, ℕ, zero, suc, List, [], ◌∷◌, ◌++◌, map, sym, refl, ap, ◌∙◌}
use Rattle.notation.specs.Edits.{hole, holes, alter, Put, put_at, puts, beneath, edits_from, edits, Rebuilds}
use Rattle.syntax.specs.Rules.{WellFormed}
use Rattle.syntax.specs.Trees.{Forest, none, grow, Tree, node, join, count}
use Rattle.syntax.specs.declared.argument.Symbol.{Symbol}

puts_append : (xs ys : List Put) (t : Tree Symbol) → puts (xs ++ ys) t ≡ puts ys (puts xs t)
puts_append [] ys t = refl
puts_append (x ∷ xs) ys t = puts_append xs ys (put_at x.path x.symbol t)

alter_same : (k : ℕ) (f : Forest Symbol) → alter k (λ t. t) f ≡ f
alter_same k none = refl
alter_same zero (grow s c f) = refl
alter_same (suc k) (grow s c f) = ap (grow s c) (alter_same k f)

alter_twice : (k : ℕ) (h g : Tree Symbol → Tree Symbol) (f : Forest Symbol) → alter k g (alter k h f) ≡ alter k (λ t. g (h t)) f
alter_twice k h g none = refl
alter_twice zero h g (grow s c f) = at (h (node s c))
  where
    at : (u : Tree Symbol) → alter zero g (elim u [ node t d ↦ grow t d f ]) ≡ elim (g u) [ node t d ↦ grow t d f ]
    at (node t d) = refl
alter_twice (suc k) h g (grow s c f) = ap (grow s c) (alter_twice k h g f)

-- puts beneath a child change that child alone
puts_beneath : (es : List Put) (k : ℕ) (a : Symbol) (c : Forest Symbol) → puts (map (beneath k) es) (node a c) ≡ node a (alter k (puts es) c)
puts_beneath [] k a c = ap (node a) (sym (alter_same k c))
puts_beneath (e ∷ es) k a c =
    puts_beneath es k a (alter k (put_at e.path e.symbol) c) ∙ ap (node a) (alter_twice k (put_at e.path e.symbol) (puts es) c)

alter_join : (ready : Forest Symbol) (h : Tree Symbol → Tree Symbol) (f : Forest Symbol) → alter (count ready) h (join ready f) ≡ join ready (alter 0 h f)
alter_join none h f = refl
alter_join (grow s c ready) h f = ap (grow s c) (alter_join ready h f)

alter_first : (h : Tree Symbol → Tree Symbol) (s t : Symbol) (c d f : Forest Symbol) → h (node s c) ≡ node t d → alter 0 h (grow s c f) ≡ grow t d f
alter_first h s t c d f e = ap (λ u. elim u [ node p q ↦ grow p q f ]) e

join_last : (ready : Forest Symbol) (s : Symbol) (c f : Forest Symbol) → join (join ready (grow s c none)) f ≡ join ready (grow s c f)
join_last none s c f = refl
join_last (grow t d ready) s c f = ap (grow t d) (join_last ready s c f)

count_last : (ready : Forest Symbol) (s : Symbol) (c : Forest Symbol) → count (join ready (grow s c none)) ≡ suc (count ready)
count_last none s c = refl
count_last (grow t d ready) s c = ap suc (count_last ready s c)

-- where the first children are built and the others are holes, the edits of the others build them
built : (f ready : Forest Symbol) (a : Symbol) → WellFormed f → puts (edits_from (count ready) f) (node a (join ready (holes (count f)))) ≡ node a (join ready f)
built none ready a w = refl
built (grow s c f) ready a w =
    let (fit, many, wc, wf) = w in
    let es = edits (node s c) in
    let below = ap (λ n. puts (edits_from 0 c) (node s (holes n))) (sym many) ∙ built c none s wc in
    let rest = holes (count f) in
    let first = puts_beneath es (count ready) a (join ready (grow hole none rest))
    ∙ ap (node a) (alter_join ready (puts es) (grow hole none rest) ∙ ap (join ready) (alter_first (puts es) hole s none c rest below) ∙ sym (join_last ready s c rest)) in
    let next = built f (join ready (grow s c none)) a wf in
    puts_append (map (beneath (count ready)) es) (edits_from (suc (count ready)) f) (node a (join ready (grow hole none rest)))
    ∙ ap (puts (edits_from (suc (count ready)) f)) first
    ∙ ap (λ k. puts (edits_from k f) (node a (join (join ready (grow s c none)) rest))) (sym (count_last ready s c))
    ∙ next
    ∙ ap (node a) (join_last ready s c f)

pub rebuilds : Rebuilds
rebuilds (node s c) (fit, many, wc, rest) = ap (λ n. puts (edits_from 0 c) (node s (holes n))) (sym many) ∙ built c none s wc
