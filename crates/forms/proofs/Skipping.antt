-- Reading terms with the terms forgotten: one term after the other, whatever the fuel. Assumes nothing.
use Rattle.std.proofs.Common.{◌≡◌, ℕ, zero, suc, ◌+◌, ◌-◌, ◌*◌, ◌<◌, ◌≤◌, Bool, true, false, cond, ltb, List, [], ◌∷◌, length, replicate, Some, None, Option, Result, sym, refl, ap, ◌∙◌, subst, arith}
use Rattle.syntax.specs.declared.fault.Fault.{Fault}
use Rattle.typing.specs.Heads.{Sort, result_of, parts_of, head_of, head_or, meaning_of}
use Rattle.typing.specs.Parsing.{and_then, only_if, read_group, same_sort, meet_variable, Read, read_head, read_terms}
use Rattle.typing.specs.Terms.{Term, var, head, applied}
use Rattle.typing.specs.declared.head.Head.{Head}
use Rattle.typing.specs.declared.head.Token.{Token}
use Rattle.typing.specs.declared.head.Token.TheVariants.{Head as OfHead}
use Rattle.typing.proofs.GroupReading.{then_some, if_some, pair_parts}
use Rattle.typing.proofs.TermsRead.{triple_parts}
use Rattle.forms.specs.Skips.{Behind, Skipped, forget, skip_terms, skip_token}

pub then_cong : {A B : Type 0} (o : Option A) (f g : A → Option B) → ((a : A) → o ≡ Some a → f a ≡ g a) → and_then o f ≡ and_then o g
then_cong None f g each = refl
then_cong (Some a) f g each = each a refl

pub then_assoc : {A B C : Type 0} (o : Option A) (f : A → Option B) (g : B → Option C) → and_then (and_then o f) g ≡ and_then o (λ a. and_then (f a) g)
then_assoc None f g = refl
then_assoc (Some a) f g = refl

pub if_then : {A B : Type 0} (t : Bool) (o : Option A) (f : A → Option B) → and_then (only_if t o) f ≡ only_if t (and_then o f)
if_then true o f = refl
if_then false o f = refl

-- a group number takes at least one byte
pub group_shorter : (m : ℕ) (bs : List ℕ) (n : ℕ) (rest : List ℕ) → read_group m bs ≡ Some (n, rest) → length rest < length bs
group_shorter m [] n rest e = absurd (let z : ◌≡◌ {A = ℕ} 0 1 = cc in omega (arith, z))
group_shorter zero (b ∷ bs) n rest e =
    let r = if_some (ltb b 128) (Some (b, bs)) (n, rest) e in
    omega (arith, ap length (pair_parts b n bs rest r.1).1)
group_shorter (suc m) (b ∷ bs) n rest e = by_size (ltb b 128) e (group_shorter m bs)
  where
    later : Option (ℕ × List ℕ)
    later = and_then (read_group m bs) (λ p. only_if (ltb 0 p.0) (Some (p.0 * 128 + (b - 128), p.1)))

    by_size : (t : Bool) → cond t (Some (b, bs)) later ≡ Some (n, rest) → ((k : ℕ) (r : List ℕ) → read_group m bs ≡ Some (k, r) → length r < length bs) → length rest < suc (length bs)
    by_size true e' above = omega (arith, ap length (pair_parts b n bs rest e').1)
    by_size false e' above =
        let a = then_some (read_group m bs) (λ p. only_if (ltb 0 p.0) (Some (p.0 * 128 + (b - 128), p.1))) (n, rest) e' in
        let r = if_some (ltb 0 a.0.0) (Some (a.0.0 * 128 + (b - 128), a.0.1)) (n, rest) a.2 in
        omega (arith, above a.0.0 a.0.1 a.1, ap length (pair_parts (a.0.0 * 128 + (b - 128)) n a.0.1 rest r.1).1)

abbrev Shortens : ℕ → Type 0
Shortens fuel = (ss seen : List Sort) (bs : List ℕ) (ts : List Term) (seen' : List Sort) (rest : List ℕ) → read_terms fuel 4 ss seen bs ≡ Some (ts, seen', rest) → length rest ≤ length bs

head_shorter : (fuel : ℕ) → Shortens fuel → (o : Option Head) (token : ℕ) (s : Sort) (seen : List Sort) (bs : List ℕ) (t : Term) (seen' : List Sort) (rest : List ℕ) → read_head 4 o token s seen bs (read_terms fuel 4) ≡ Some (t, seen', rest) → length rest ≤ length bs
head_shorter fuel ih None token s seen bs t seen' rest e =
    let a = then_some (meet_variable s (token - 5) seen) (λ now. Some (var (token - 5), now, bs)) (t, seen', rest) e in
    omega (arith, ap length (triple_parts (var (token - 5)) t a.0 seen' bs rest a.2).2)
head_shorter fuel ih (Some h) token s seen bs t seen' rest e =
    let r = if_some (same_sort (result_of h) s) (and_then (read_terms fuel 4 (parts_of 4 h) seen bs) (λ r. Some (applied (head h) r.0, r.1, r.2))) (t, seen', rest) e in
    let a = then_some (read_terms fuel 4 (parts_of 4 h) seen bs) (λ r. Some (applied (head h) r.0, r.1, r.2)) (t, seen', rest) r.1 in
    let p = triple_parts (applied (head h) a.0.0) t a.0.1 seen' a.0.2 rest a.2 in
    omega (arith, ap length p.2, ih (parts_of 4 h) seen bs a.0.0 a.0.1 a.0.2 a.1)

terms_shorter : (fuel : ℕ) → Shortens fuel
terms_shorter fuel [] seen bs ts seen' rest e = omega (arith, ap length (triple_parts [] ts seen seen' bs rest e).2)
terms_shorter zero (s ∷ ss) seen bs ts seen' rest e = absurd (let z : ◌≡◌ {A = ℕ} 0 1 = cc in omega (arith, z))
terms_shorter (suc fuel) (s ∷ ss) seen bs ts seen' rest e =
    let g = then_some (read_group 2 bs) _ (ts, seen', rest) e in
    let a = then_some (read_head 4 (head_of g.0.0) g.0.0 s seen g.0.1 (read_terms fuel 4)) _ (ts, seen', rest) g.2 in
    let b = then_some (read_terms fuel 4 ss a.0.1 a.0.2) _ (ts, seen', rest) a.2 in
    let p = triple_parts (a.0.0 ∷ b.0.0) ts b.0.1 seen' b.0.2 rest b.2 in
    let first = group_shorter 2 bs g.0.0 g.0.1 g.1 in
    let one = head_shorter fuel (terms_shorter fuel) (head_of g.0.0) g.0.0 s seen g.0.1 a.0.0 a.0.1 a.0.2 a.1 in
    omega (arith, ap length p.2, first, one, terms_shorter fuel ss a.0.1 a.0.2 b.0.0 b.0.1 b.0.2 b.1)

abbrev Same : ℕ → ℕ → Type 0
Same f g = (ss seen : List Sort) (bs : List ℕ) → length bs ≤ f → length bs ≤ g → read_terms f 4 ss seen bs ≡ read_terms g 4 ss seen bs

-- any fuel that is not short of the bytes gives the same
pub fuel_same : (f g : ℕ) → Same f g
fuel_same f g [] seen bs lf lg = refl
fuel_same zero zero (s ∷ ss) seen bs lf lg = refl
fuel_same zero (suc g) (s ∷ ss) seen [] lf lg = refl
fuel_same zero (suc g) (s ∷ ss) seen (b ∷ bs) lf lg = absurd (omega arith)
fuel_same (suc f) zero (s ∷ ss) seen [] lf lg = refl
fuel_same (suc f) zero (s ∷ ss) seen (b ∷ bs) lf lg = absurd (omega arith)
fuel_same (suc f) (suc g) (s ∷ ss) seen bs lf lg =
    then_cong (read_group 2 bs) _ _ (λ p is. one p.0 p.1 (group_shorter 2 bs p.0 p.1 is) (fuel_same f g))
  where
    heads : (o : Option Head) (token : ℕ) (cs : List ℕ) → length cs < length bs → Same f g → read_head 4 o token s seen cs (read_terms f 4) ≡ read_head 4 o token s seen cs (read_terms g 4)
    heads None token cs less ih = refl
    heads (Some h) token cs less ih = ap (λ x. only_if (same_sort (result_of h) s) (and_then x (λ r. Some (applied (head h) r.0, r.1, r.2)))) (ih (parts_of 4 h) seen cs (omega (arith, less, lf)) (omega (arith, less, lg)))

    behind : ℕ → Read Term → Option (Read (List Term))
    behind n t = and_then (read_terms n 4 ss t.1 t.2) (λ r. Some (t.0 ∷ r.0, r.1, r.2))

    one : (token : ℕ) (cs : List ℕ) → length cs < length bs → Same f g → and_then (read_head 4 (head_of token) token s seen cs (read_terms f 4)) (behind f) ≡ and_then (read_head 4 (head_of token) token s seen cs (read_terms g 4)) (behind g)
    one token cs less ih =
        ap (λ x. and_then x (behind f)) (heads (head_of token) token cs less ih) ∙ then_cong (read_head 4 (head_of token) token s seen cs (read_terms g 4)) (behind f) (behind g) (λ t is. let less' = head_shorter g (terms_shorter g) (head_of token) token s seen cs t.0 t.1 t.2 is in ap (λ x. and_then x (λ r. Some (t.0 ∷ r.0, r.1, r.2))) (ih ss t.1 t.2 (omega (arith, less', less, lf)) (omega (arith, less', less, lg))))

pub skip_nil : (seen : List Sort) (bs : List ℕ) → skip_terms [] seen bs ≡ Some (seen, bs)
unfolding skip_terms
skip_nil seen bs = refl

module _ (s : Sort) (seen : List Sort) (bs : List ℕ) where
  term : Option (Read Term)
  term = and_then (read_group 2 bs) (λ p. read_head 4 (head_of p.0) p.0 s seen p.1 (read_terms (length bs) 4))

  unfold_terms : (ss : List Sort) → skip_terms (s ∷ ss) seen bs ≡ and_then term (λ t. skip_terms ss t.1 t.2)
  unfolding skip_terms term
  unfold_terms ss =
      ap forget (fuel_same (length bs) (suc (length bs)) (s ∷ ss) seen bs (omega arith) (omega arith)) ∙ then_assoc (read_group 2 bs) _ _ ∙ then_cong (read_group 2 bs) _ _ (λ p is. each p.0 p.1 (group_shorter 2 bs p.0 p.1 is)) ∙ sym (then_assoc (read_group 2 bs) _ _)
    where
      head_at : ℕ → List ℕ → Option (Read Term)
      head_at token cs = read_head 4 (head_of token) token s seen cs (read_terms (length bs) 4)

      each : (token : ℕ) (cs : List ℕ) → length cs < length bs → forget (and_then (head_at token cs) (λ t. and_then (read_terms (length bs) 4 ss t.1 t.2) (λ r. Some (t.0 ∷ r.0, r.1, r.2)))) ≡ and_then (head_at token cs) (λ t. forget (read_terms (length t.2) 4 ss t.1 t.2))
      each token cs less =
          then_assoc (head_at token cs) _ _ ∙ then_cong (head_at token cs) _ _ (λ t is. let less' = head_shorter (length bs) (terms_shorter (length bs)) (head_of token) token s seen cs t.0 t.1 t.2 is in then_assoc (read_terms (length bs) 4 ss t.1 t.2) _ _ ∙ ap forget (fuel_same (length bs) (length t.2) ss t.1 t.2 (omega (arith, less', less)) (omega arith)))

  heads : (n token : ℕ) (o : Option Head) (cs : List ℕ) → length cs ≤ n → and_then (read_head 4 o token s seen cs (read_terms n 4)) (λ t. skip_terms [] t.1 t.2) ≡ skip_token (head_or token o) s seen cs
  unfolding skip_terms
  heads n token None cs le = then_assoc (meet_variable s (token - 5) seen) _ _
  heads n token (Some h) cs le =
      if_then (same_sort (result_of h) s) _ _ ∙ ap (only_if (same_sort (result_of h) s)) (then_assoc (read_terms n 4 (parts_of 4 h) seen cs) _ _ ∙ ap forget (fuel_same n (length cs) (parts_of 4 h) seen cs le (omega arith)))

  -- a term is its token, and then its parts
  skip_one : skip_terms (s ∷ []) seen bs ≡ and_then (read_group 2 bs) (λ p. skip_token (meaning_of p.0) s seen p.1)
  unfolding term
  skip_one =
      unfold_terms [] ∙ then_assoc (read_group 2 bs) _ _ ∙ then_cong (read_group 2 bs) _ _ (λ p is. let less = group_shorter 2 bs p.0 p.1 is in heads (length bs) p.0 (head_of p.0) p.1 (omega (arith, less)))

  pub skip_no_token : read_group 2 bs ≡ None → skip_terms (s ∷ []) seen bs ≡ None
  skip_no_token is = skip_one ∙ ap (λ o. and_then o (λ p. skip_token (meaning_of p.0) s seen p.1)) is

  pub skip_some_token : (n : ℕ) (rest : List ℕ) → read_group 2 bs ≡ Some (n, rest) → skip_terms (s ∷ []) seen bs ≡ skip_token (meaning_of n) s seen rest
  skip_some_token n rest is = skip_one ∙ ap (λ o. and_then o (λ p. skip_token (meaning_of p.0) s seen p.1)) is

  -- terms stand one behind the other
  pub skip_cons : (ss : List Sort) → skip_terms (s ∷ ss) seen bs ≡ and_then (skip_terms (s ∷ []) seen bs) (λ p. skip_terms ss p.0 p.1)
  skip_cons ss = unfold_terms ss ∙ sym (ap (λ o. and_then o (λ p. skip_terms ss p.0 p.1)) (unfold_terms []) ∙ then_assoc term _ _ ∙ then_cong term _ _ (λ t is. ap (λ o. and_then o (λ p. skip_terms ss p.0 p.1)) (skip_nil t.1 t.2)))

  pub skip_then : (ss seen₁ : List Sort) (rest₁ : List ℕ) → skip_terms (s ∷ []) seen bs ≡ Some (seen₁, rest₁) → skip_terms (s ∷ ss) seen bs ≡ skip_terms ss seen₁ rest₁
  skip_then ss seen₁ rest₁ is = skip_cons ss ∙ ap (λ o. and_then o (λ p. skip_terms ss p.0 p.1)) is

  pub skip_stop : (ss : List Sort) → skip_terms (s ∷ []) seen bs ≡ None → skip_terms (s ∷ ss) seen bs ≡ None
  skip_stop ss is = skip_cons ss ∙ ap (λ o. and_then o (λ p. skip_terms ss p.0 p.1)) is

-- places still to be read, of which there are some
pub places_left : {A : Type 0} (a : A) (n i : ℕ) → i < n → replicate (n - i) a ≡ a ∷ replicate (n - (i + 1)) a
places_left a n i lt = let e : n - i ≡ suc (n - (i + 1)) = omega (arith, lt) in ap (λ k. replicate k a) e

pub no_places_left : {A : Type 0} (a : A) (n i : ℕ) → n ≤ i → replicate (n - i) a ≡ []
no_places_left a n i le = let e : n - i ≡ 0 = omega (arith, le) in ap (λ k. replicate k a) e

pub skipped_at : (o p : Option Behind) (b : Behind) (r : Result (Unit {0}) Fault) → o ≡ p → Skipped p b r → Skipped o b r
skipped_at o p b r is s = subst (λ q. Skipped q b r) (sym is) s

pub took_token : (b b' : Behind) (n : ℕ) (t : Token) → read_group 2 b.1 ≡ Some (n, b'.1) → b'.0 ≡ b.0 → t ≡ meaning_of n → (s : Sort) → skip_terms (s ∷ []) b.0 b.1 ≡ skip_token t s b'.0 b'.1
took_token b b' n t is same means s =
    skip_some_token s b.0 b.1 n b'.1 is ∙ ap (λ x. skip_token x s b.0 b'.1) (sym means) ∙ ap (λ seen. skip_token t s seen b'.1) (sym same)

pub took_head : (b b' : Behind) (t : Token) → ((s : Sort) → skip_terms (s ∷ []) b.0 b.1 ≡ skip_token t s b'.0 b'.1) → (h h' : Head) → t ≡ OfHead h → h ≡ h' → (s : Sort) → skip_terms (s ∷ []) b.0 b.1 ≡ skip_token (OfHead h') s b'.0 b'.1
took_head b b' t took h h' is same s =
    took s ∙ ap (λ x. skip_token x s b'.0 b'.1) is ∙ ap (λ x. skip_token (OfHead x) s b'.0 b'.1) same
