-- Reading a form, step by step, and what its parts come to. Assumes nothing.
use Rattle.std.proofs.Common.{◌≡◌, ℕ, ◌+◌, ◌-◌, ◌<◌, ◌≤◌, max, eqb, leb, List, [], ◌∷◌, ◌++◌, length, get_or, Some, None, Ok, Err, Option, Result, sym, refl, ap, ◌∙◌, subst, ap₂, arith, length-append}
use Rattle.std.proofs.lemmas.List.{append-nil, nil_from_length}
use Rattle.std.proofs.lemmas.Bool.{le-leb, eq-eqb, ne_eqb}
use Rattle.layout.specs.Groups.{group}
use Rattle.syntax.specs.declared.fault.Fault.{Fault}
use Rattle.syntax.specs.declared.fault.Fault.TheVariants.{Unlawful}
use Rattle.typing.specs.Constraints.{above, width}
use Rattle.typing.specs.Forms.{Name, Form, entry_variables, form_variables}
use Rattle.typing.specs.Heads.{Sort, type}
use Rattle.typing.specs.Parsing.{and_then, only_if, read_group, Read, read_terms, read_type, read_entries, read_form}
use Rattle.typing.specs.Strings.{Bytes, formed, entries_bytes, term_bytes, longest}
use Rattle.typing.specs.Terms.{Term, num, variables}
use Rattle.typing.proofs.GroupReading.{bytes_rest, group_read, if_true, then_is, pair_parts}
use Rattle.typing.proofs.StringsRead.{entries_read, type_read}
use Rattle.typing.proofs.TermReading.{reach, reach_append}
use Rattle.forms.specs.Outlines.{shaped, whole}
use Rattle.forms.specs.Skips.{Behind, forget, skip_entries, skip_terms}
use Rattle.forms.specs.declared.outline.FormOutline.{FormOutline}
use Rattle.forms.specs.declared.outline.Untyped.{Untyped}

forget_none : {A : Type 0} (o : Option (Read A)) → forget o ≡ None → o ≡ None
forget_none None is = refl
forget_none (Some r) is = absurd (let z : ◌≡◌ {A = ℕ} 0 1 = cc in omega (arith, z))

forget_some : {A : Type 0} (o : Option (Read A)) (seen : List Sort) (rest : List ℕ) → forget o ≡ Some (seen, rest) → (a : A) × (o ≡ Some (a, seen, rest))
forget_some None seen rest is = absurd (let z : ◌≡◌ {A = ℕ} 0 1 = cc in omega (arith, z))
forget_some {A} (Some r) seen rest is =
    let p = pair_parts r.1 seen r.2 rest is in
    (r.0, ap₂ (λ (x : List Sort) (y : List ℕ). Some (r.0, x, y)) p.0 p.1)

no_entries : (n : ℕ) (last : Name) (seen : List Sort) (bs : List ℕ) → skip_entries n last seen bs ≡ None → read_entries n 4 last seen bs ≡ None
unfolding skip_entries
no_entries n last seen bs is = forget_none (read_entries n 4 last seen bs) is

some_entries : (n : ℕ) (last : Name) (seen : List Sort) (bs : List ℕ) (seen' : List Sort) (rest : List ℕ) → skip_entries n last seen bs ≡ Some (seen', rest) → (es : List (Name × Term)) × (read_entries n 4 last seen bs ≡ Some (es, seen', rest))
unfolding skip_entries
some_entries n last seen bs seen' rest is = forget_some (read_entries n 4 last seen bs) seen' rest is

no_type : (seen : List Sort) (bs : List ℕ) → skip_terms (type ∷ []) seen bs ≡ None → read_type 4 seen bs ≡ None
unfolding skip_terms
no_type seen bs is = ap (λ o. and_then o (λ r. Some (get_or r.0 0 num, r.1, r.2))) (forget_none (read_terms (length bs) 4 (type ∷ []) seen bs) is)

some_type : (seen : List Sort) (bs : List ℕ) (seen' : List Sort) (rest : List ℕ) → skip_terms (type ∷ []) seen bs ≡ Some (seen', rest) → (t : Term) × (read_type 4 seen bs ≡ Some (t, seen', rest))
unfolding skip_terms
some_type seen bs seen' rest is =
    let r = forget_some (read_terms (length bs) 4 (type ∷ []) seen bs) seen' rest is in
    (get_or r.0 0 num, ap (λ o. and_then o (λ x. Some (get_or x.0 0 num, x.1, x.2))) r.1)

-- the number above the variables is how many have appeared
reach_above : (n : ℕ) (ks : List ℕ) → reach n ks ≡ max n (above ks)
reach_above n [] = omega arith
reach_above n (k ∷ ks) = let ih = reach_above (max n (k + 1)) ks in omega (arith, ih)

whole_is : (end : ℕ) (F : Form) (n v e t : ℕ) → length F.entries ≡ n → width F ≡ v → length (entries_bytes F.entries) + length (term_bytes F.result) ≡ e → length (term_bytes F.result) ≡ t → ◌≡◌ {A = Result FormOutline Fault} (Ok (record { open_names = n; variables = v; entries_at = end - e; type_at = end - t })) (whole end (Some F))
whole_is end F n v e t en ev ee et = cc

-- the status 0 with no form behind it is refused
pub status_no_form : (end : ℕ) (o : Option Form) (fault : Fault) → Err fault ≡ whole end o → ◌≡◌ {A = Result (Result FormOutline Untyped) Fault} (Err fault) (shaped end (and_then o (λ F. Some (formed F))))
status_no_form end None fault is = cc
status_no_form end (Some F) fault is = absurd (let z : ◌≡◌ {A = ℕ} 0 1 = cc in omega (arith, z))

module _ (end : ℕ) (bs : List ℕ) (short : length bs ≤ 240) where
  -- how the reading goes on behind the entries
  typed : List (Name × Term) → List Sort → List ℕ → Option Form
  typed es seen rest = and_then (read_type 4 seen rest) (λ t. only_if (eqb (length t.2) 0) (Some (record { entries = es; result = t.0 })))

  counted : (n : ℕ) (entries : List ℕ) → read_group 2 bs ≡ Some (n, entries) → read_form 4 bs ≡ and_then (read_entries n 4 [] [] entries) (λ es. typed es.0 es.1 es.2)
  unfolding typed
  counted n entries is = if_true (leb (length bs) longest) _ (le-leb (length bs) longest short) ∙ then_is (read_group 2 bs) (n, entries) _ is

  refused : read_form 4 bs ≡ None → Err Unlawful ≡ whole end (read_form 4 bs)
  refused none = ap (whole end) (sym none)

  -- a reader of the bytes that has taken a count
  module _ (b₀ : Behind) (new : b₀ ≡ ([], bs)) (n : ℕ) (b₁ : Behind) (took : read_group 2 b₀.1 ≡ Some (n, b₁.1)) (same : b₁.0 ≡ b₀.0) where
    is : read_group 2 bs ≡ Some (n, b₁.1)
    is = ap (λ (b : Behind). read_group 2 b.1) (sym new) ∙ took

    unmet : b₁.0 ≡ []
    unmet = same ∙ ap (λ (b : Behind). b.0) new

    pub form_no_entries : skip_entries n [] b₁.0 b₁.1 ≡ None → Err Unlawful ≡ whole end (read_form 4 bs)
    form_no_entries none = refused (counted n b₁.1 is ∙ ap (λ o. and_then o (λ es. typed es.0 es.1 es.2)) (no_entries n [] [] b₁.1 (ap (λ seen. skip_entries n [] seen b₁.1) (sym unmet) ∙ none)))

    module _ (b₂ : Behind) (went : skip_entries n [] b₁.0 b₁.1 ≡ Some b₂) where
      some : (es : List (Name × Term)) × (read_entries n 4 [] [] b₁.1 ≡ Some (es, b₂.0, b₂.1))
      some = some_entries n [] [] b₁.1 b₂.0 b₂.1 (ap (λ seen. skip_entries n [] seen b₁.1) (sym unmet) ∙ went)

      es : List (Name × Term)
      es = some.0

      listed : read_form 4 bs ≡ typed es b₂.0 b₂.1
      unfolding es
      listed = counted n b₁.1 is ∙ ap (λ o. and_then o (λ es. typed es.0 es.1 es.2)) some.1

      pub form_no_type : skip_terms (type ∷ []) b₂.0 b₂.1 ≡ None → Err Unlawful ≡ whole end (read_form 4 bs)
      unfolding typed
      form_no_type none = refused (listed ∙ ap (λ o. and_then o (λ t. only_if (eqb (length t.2) 0) (Some (record { entries = es; result = t.0 })))) (no_type b₂.0 b₂.1 none))

      module _ (b₃ : Behind) (ended : skip_terms (type ∷ []) b₂.0 b₂.1 ≡ Some b₃) where
        t : Term
        t = (some_type b₂.0 b₂.1 b₃.0 b₃.1 ended).0

        read_whole : read_form 4 bs ≡ only_if (eqb (length b₃.1) 0) (Some (record { entries = es; result = t }))
        unfolding typed t
        read_whole = listed ∙ ap (λ o. and_then o (λ x. only_if (eqb (length x.2) 0) (Some (record { entries = es; result = x.0 })))) (some_type b₂.0 b₂.1 b₃.0 b₃.1 ended).1

        pub form_left_over : 0 < length b₃.1 → Err Unlawful ≡ whole end (read_form 4 bs)
        form_left_over more = refused (read_whole ∙ ap (λ b. only_if b (Some (record { entries = es; result = t }))) (ne_eqb (length b₃.1) 0 (λ e. omega (arith, e, more))))

        pub form_is : Bytes bs → length b₃.1 ≤ 0 → (v e r : ℕ) → v ≡ length b₃.0 → e ≡ length b₁.1 → r ≡ length b₂.1 → ◌≡◌ {A = Result FormOutline Fault} (Ok (record { open_names = n; variables = v; entries_at = end - e; type_at = end - r })) (whole end (read_form 4 bs))
        unfolding es t
        form_is bytes ended_there v e r many entries_left result_left =
            let bytes₁ = bytes_rest (group n) b₁.1 (subst Bytes (group_read 2 bs n b₁.1 bytes is).1 bytes) in
            let got = entries_read 4 n [] [] b₁.1 es b₂.0 b₂.1 bytes₁ some.1 in
            let bytes₂ = bytes_rest (entries_bytes es) b₂.1 (subst Bytes got.spelled bytes₁) in
            let one = type_read 4 b₂.0 b₂.1 t b₃.0 b₃.1 bytes₂ (some_type b₂.0 b₂.1 b₃.0 b₃.1 ended).1 in
            let F : Form = record { entries = es; result = t } in
            let none : length b₃.1 ≡ 0 = omega (arith, ended_there) in
            let nil : b₃.1 ≡ [] = nil_from_length b₃.1 none in
            let long : length (term_bytes t) ≡ length b₂.1 = ap length (sym (one.spelled ∙ ap (λ z. term_bytes t ++ z) nil ∙ append-nil (term_bytes t))) in
            let longer : length (entries_bytes es) + length (term_bytes t) ≡ e = omega (arith, long, entries_left, ap length got.spelled, length-append (entries_bytes es) b₂.1) in
            let reached : reach 0 (form_variables F) ≡ length b₃.0 = reach_append (entry_variables es) 0 (variables t) ∙ ap (λ k. reach k (variables t)) (sym got.reached) ∙ sym one.reached in
            let wide : width F ≡ v = omega (arith, reach_above 0 (form_variables F), reached, many) in
            let form : read_form 4 bs ≡ Some F = read_whole ∙ ap (λ b. only_if b (Some F)) (eq-eqb (length b₃.1) 0 none) in
            whole_is end F n v e r got.long wide longer (long ∙ sym result_left) ∙ ap (whole end) (sym form)
