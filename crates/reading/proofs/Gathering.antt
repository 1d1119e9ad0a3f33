-- Names as they are gathered: a list holds exactly those that belong, or they are too many. Assumes nothing.
use Rattle.std.proofs.Common.{◌≡◌, ◌<◌, ◌≤◌, true, false, cond, leb, ◌⊎◌, List, [], ◌∷◌, length, Some, None, Option, sym, ap, ◌∙◌, subst, inl, inr, arith}
use Rattle.std.specs.List.{AllByRecursion}
use Rattle.std.proofs.lemmas.Bool.{cases_order, cases_Bool, leb-true, leb-false, both_ways}
use Rattle.syntax.specs.declared.name.Name.{Name}
use Rattle.reading.specs.FreeNames.{Among}
use Rattle.reading.specs.NameStrings.{key, rising}
use Rattle.reading.specs.NamesRule.{insert, held, add, is_bound, join}
use Rattle.reading.specs.Inserting.{insert_same, insert_below, insert_above}
use Rattle.reading.proofs.NameKeys.{same_name}
use Rattle.reading.specs.NameLists.{Valid, valid_key, rising_valid, insert_rising}

-- what is in a list once a name joins it
pub insert_out : (n : Name) (ns : List Name) (x : Name) → Among x (insert n ns) → (x ≡ n) ⊎ Among x ns
insert_out n [] x (inl e) = inl e
insert_out n [] x (inr no') = absurd no'
insert_out n (m ∷ ms) x here =
    elim (cases_order (key n) (key m)) [
      | inl e ↦ inr (subst (Among x) (insert_same n m ms e) here)
      | inr o ↦ elim o [
        | inl lt ↦ below (subst (Among x) (insert_below n m ms (λ e. omega arith) lt) here) (insert_out m ms x)
        | inr gt ↦ above (subst (Among x) (insert_above n m ms (λ e. omega arith) (omega arith)) here) (insert_out n ms x)
      ]
    ]
  where
    below : Among x (n ∷ insert m ms) → (Among x (insert m ms) → (x ≡ m) ⊎ Among x ms) → (x ≡ n) ⊎ Among x (m ∷ ms)
    below (inl e) rest = inl e
    below (inr later) rest = inr (rest later)

    above : Among x (m ∷ insert n ms) → (Among x (insert n ms) → (x ≡ n) ⊎ Among x ms) → (x ≡ n) ⊎ Among x (m ∷ ms)
    above (inl e) rest = inr (inl e)
    above (inr later) rest = elim (rest later) [ inl e ↦ inl e | inr r ↦ inr (inr r) ]

pub insert_in : (n : Name) (ns : List Name) (x : Name) → Valid n → AllByRecursion Valid ns → (x ≡ n) ⊎ Among x ns → Among x (insert n ns)
insert_in n [] x vn vs (inl e) = inl e
insert_in n [] x vn vs (inr no') = absurd no'
insert_in n (m ∷ ms) x vn vs h =
    elim (cases_order (key n) (key m)) [
      | inl e ↦ subst (Among x) (sym (insert_same n m ms e)) (same e h)
      | inr o ↦ elim o [
        | inl lt ↦ subst (Among x) (sym (insert_below n m ms (λ e. omega arith) lt)) (below h (insert_in m ms x vs.0 vs.1))
        | inr gt ↦ subst (Among x) (sym (insert_above n m ms (λ e. omega arith) (omega arith))) (above h (insert_in n ms x vn vs.1))
      ]
    ]
  where
    same : key n ≡ key m → (x ≡ n) ⊎ Among x (m ∷ ms) → Among x (m ∷ ms)
    same e (inl f) = inl (f ∙ same_name n m vn vs.0 e)
    same e (inr here) = here

    below : (x ≡ n) ⊎ Among x (m ∷ ms) → ((x ≡ m) ⊎ Among x ms → Among x (insert m ms)) → Among x (n ∷ insert m ms)
    below (inl e) rest = inl e
    below (inr here) rest = inr (rest here)

    above : (x ≡ n) ⊎ Among x (m ∷ ms) → ((x ≡ n) ⊎ Among x ms → Among x (insert n ms)) → Among x (m ∷ insert n ms)
    above (inl e) rest = inr (rest (inl e))
    above (inr (inl e)) rest = inl e
    above (inr (inr here)) rest = inr (rest (inr here))

-- more names belong than are ever listed
pub record TooMany (P : Name → Type 0) : Type 0 where
  pub names : List Name
  pub apart : rising 0 names ≡ true
  pub belong : (n : Name) → Among n names → P n
  pub more : 63 < length names

-- the names that belong are exactly those of a list
pub record Exactly (P : Name → Type 0) (ns : List Name) : Type 0 where
  pub apart : rising 0 ns ≡ true
  pub few : length ns ≤ 63
  pub sound : (n : Name) → Among n ns → P n
  pub complete : (n : Name) → P n → Among n ns

abbrev pub Gathers : (Name → Type 0) → Option (List Name) → Type 0
Gathers P None = TooMany P
Gathers P (Some ns) = Exactly P ns

pub gathers_same : (P Q : Name → Type 0) (set : Option (List Name)) → ((n : Name) → P n → Q n) → ((n : Name) → Q n → P n) → Gathers P set → Gathers Q set
gathers_same P Q None to from g = record { names = g.names; apart = g.apart; belong = λ n h. to n (g.belong n h); more = g.more }
gathers_same P Q (Some ns) to from g =
    record { apart = g.apart; few = g.few; sound = λ n h. to n (g.sound n h); complete = λ n h. g.complete n (from n h) }

abbrev pub With : (Name → Type 0) → Name → Name → Type 0
With P n x = P x ⊎ (x ≡ n)

pub add_gathers : (P : Name → Type 0) (n : Name) (set : Option (List Name)) → Valid n → Gathers P set → Gathers (With P n) (add n set)
add_gathers P n None valid g = record { names = g.names; apart = g.apart; belong = λ x h. inl (g.belong x h); more = g.more }
add_gathers P n (Some ns) valid g = by_size (cases_Bool (leb (length (insert n ns)) 63))
  where
    up : rising 0 (insert n ns) ≡ true
    up = insert_rising 0 n ns valid (valid_key n valid) g.apart

    out : (x : Name) → Among x (insert n ns) → With P n x
    out x here = elim (insert_out n ns x here) [ inl e ↦ inr e | inr h ↦ inl (g.sound x h) ]

    into : (x : Name) → With P n x → Among x (insert n ns)
    into x (inl p) = insert_in n ns x valid (rising_valid 0 ns g.apart) (inr (g.complete x p))
    into x (inr e) = insert_in n ns x valid (rising_valid 0 ns g.apart) (inl e)

    by_size : (leb (length (insert n ns)) 63 ≡ true) ⊎ (leb (length (insert n ns)) 63 ≡ false) → Gathers (With P n) (held (insert n ns))
    by_size (inl few) =
        subst (λ b. Gathers (With P n) (cond b (Some (insert n ns)) None)) (sym few)
        (record { apart = up; few = leb-true (length (insert n ns)) 63 few; sound = out; complete = into })
    by_size (inr over) =
        subst (λ b. Gathers (With P n) (cond b (Some (insert n ns)) None)) (sym over)
        (record { names = insert n ns; apart = up; belong = out; more = leb-false (length (insert n ns)) 63 over })

abbrev pub Unbound : Option Name → Name → Type 0
Unbound bound n = is_bound bound n ≡ false

abbrev pub Joined : Option Name → (Name → Type 0) → List Name → Name → Type 0
Joined bound P ns x = P x ⊎ (Among x ns × Unbound bound x)

pub join_gathers : (bound : Option Name) (P : Name → Type 0) (ns : List Name) (set : Option (List Name)) → AllByRecursion Valid ns → Gathers P set → Gathers (Joined bound P ns) (join bound ns set)
join_gathers bound P [] set valid g = gathers_same P (Joined bound P []) set (λ x p. inl p) (λ x h. elim h [ inl p ↦ p | inr q ↦ absurd q.0 ]) g
join_gathers bound P (n ∷ ns) set valid g = by_test (cases_Bool (is_bound bound n)) (λ Q set' h. join_gathers bound Q ns set' valid.1 h)
  where
    past : is_bound bound n ≡ true → (x : Name) → Joined bound P (n ∷ ns) x → Joined bound P ns x
    past is x (inl p) = inl p
    past is x (inr q) = elim q.0 [ inl e ↦ absurd (both_ways (is_bound bound x) q.1 (ap (is_bound bound) e ∙ is)) | inr here ↦ inr (here, q.1) ]

    wider : (x : Name) → Joined bound P ns x → Joined bound P (n ∷ ns) x
    wider x (inl p) = inl p
    wider x (inr q) = inr (inr q.0, q.1)

    out : is_bound bound n ≡ false → (x : Name) → Joined bound (With P n) ns x → Joined bound P (n ∷ ns) x
    out is x (inl (inl p)) = inl p
    out is x (inl (inr e)) = inr (inl e, ap (is_bound bound) e ∙ is)
    out is x (inr q) = inr (inr q.0, q.1)

    into : (x : Name) → Joined bound P (n ∷ ns) x → Joined bound (With P n) ns x
    into x (inl p) = inl (inl p)
    into x (inr q) = elim q.0 [ inl e ↦ inl (inr e) | inr here ↦ inr (here, q.1) ]

    by_test : (is_bound bound n ≡ true) ⊎ (is_bound bound n ≡ false) → ((Q : Name → Type 0) (set' : Option (List Name)) → Gathers Q set' → Gathers (Joined bound Q ns) (join bound ns set')) → Gathers (Joined bound P (n ∷ ns)) (join bound ns (cond (is_bound bound n) set (add n set)))
    by_test (inl is) rest =
        subst (λ b. Gathers (Joined bound P (n ∷ ns)) (join bound ns (cond b set (add n set)))) (sym is)
        (gathers_same (Joined bound P ns) (Joined bound P (n ∷ ns)) (join bound ns set) wider (past is) (rest P set g))
    by_test (inr is) rest =
        subst (λ b. Gathers (Joined bound P (n ∷ ns)) (join bound ns (cond b set (add n set)))) (sym is)
        (gathers_same (Joined bound (With P n) ns) (Joined bound P (n ∷ ns)) (join bound ns (add n set)) (out is) into (rest (With P n) (add n set) (add_gathers P n set valid.0 g)))
