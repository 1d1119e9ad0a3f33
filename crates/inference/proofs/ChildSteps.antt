-- Adding the form of a child to a draft, off the bytes that spell it. Assumes nothing.
use Rattle.std.proofs.Common.{◌≡◌, ℕ, ◌-◌, List, [], ◌∷◌, ◌++◌, length, Ok, Result, sym, refl, ap, ◌∙◌, subst, ap₂, arith, Bor}
use Rattle.std.proofs.lemmas.List.{append_assoc, append-nil}
use Rattle.syntax.specs.declared.fault.Fault.{Fault}
use Rattle.syntax.specs.declared.name.Name as name
use Rattle.typing.specs.Forms.{Name, Form}
use Rattle.typing.specs.Heads.{Sort, type}
use Rattle.typing.specs.Solve.{lay}
use Rattle.typing.specs.Strings.{entries_bytes, term_bytes}
use Rattle.typing.specs.Terms.{Term}
use Rattle.inference.specs.Drafts.{State, with_graph, put_slot, add_entries, add_form, Roomy, LaysAt}
use Rattle.inference.specs.Joins.{ReadsName, EntriesLegible, AddsEntries, AddsForm}
use Rattle.inference.specs.Layouts.{Legible, shift}
use Rattle.inference.proofs.DraftSteps.{grows_put, grows_entries, grows_lay, grows_more, roomy_before}

-- names
entry_apart : (e : Name × Term) (es : List (Name × Term)) (rest bytes : List ℕ) → bytes ≡ entries_bytes (e ∷ es) ++ rest → bytes ≡ e.0 ++ (term_bytes e.1 ++ (entries_bytes es ++ rest))
entry_apart e es rest bytes is =
    is ∙ append_assoc e.0 (term_bytes e.1 ++ entries_bytes es) rest ∙ ap (λ bs. e.0 ++ bs) (append_assoc (term_bytes e.1) (entries_bytes es) rest)

pub entries_none : (base count : ℕ) (bytes : Bor (List ℕ)) (S : State) → count ≡ 0 → AddsEntries base count bytes.now S S (Ok bytes)
entries_none base count bytes S none [] rest long legible is roomy = (refl, is)
entries_none base count bytes S none (e ∷ es) rest long legible is roomy = absurd (omega (arith, none, long))

module _ (base count : ℕ) (bytes : List ℕ) (S : State) (some : count ≡ 0 → ⊥) where
  pub no_name : (S' : State) (r : Result (Bor (List ℕ)) Fault) → ((n rest : List ℕ) → length n ≡ 4 → bytes ≡ n ++ rest → ⊥) → AddsEntries base count bytes S S' r
  no_name S' r none [] rest long legible is roomy = absurd (some (sym long))
  no_name S' r none (e ∷ es) rest long legible is roomy = absurd (none e.0 _ legible.0 (entry_apart e es rest bytes is))

  module _ (n : name.Name) (b₁ : Bor (List ℕ)) (names : ReadsName bytes (Ok (n, b₁))) where
    -- the type of the first entry has room
    type_roomy : (e : Name × Term) (es : List (Name × Term)) → Roomy (add_entries base (e ∷ es) S) → Roomy (with_graph S (lay (shift base e.1) S.graph).0)
    type_roomy e es roomy =
        let a = lay (shift base e.1) S.graph in
        let S₁ = with_graph S a.0 in
        let R = add_entries base es S₁ in
        roomy_before S₁ (put_slot (e.0, a.1) R) (grows_more S₁ R (put_slot (e.0, a.1) R) (grows_entries base es S₁) (grows_put (e.0, a.1) R)) roomy

    pub no_type : (S' : State) (r : Result (Bor (List ℕ)) Fault) → ((s : Sort) (t : Term) (rest : List ℕ) → Legible [] s t → b₁.now ≡ term_bytes t ++ rest → Roomy (with_graph S (lay (shift base t) S.graph).0) → ⊥) → AddsEntries base count bytes S S' r
    no_type S' r none [] rest long legible is roomy = absurd (some (sym long))
    no_type S' r none (e ∷ es) rest long legible is roomy =
        let at = names e.0 _ legible.0 (entry_apart e es rest bytes is) in
        absurd (none type e.1 _ legible.1 at.1 (type_roomy e es roomy))

    module _ (S₁ : State) (cell : ℕ) (b₂ : Bor (List ℕ)) (lays : LaysAt base b₁.now S S₁ (Ok (cell, b₂))) where
      first : (e : Name × Term) (es : List (Name × Term)) (rest : List ℕ) → EntriesLegible (e ∷ es) → bytes ≡ entries_bytes (e ∷ es) ++ rest → Roomy (add_entries base (e ∷ es) S) → (n.0 ≡ e.0) × (S₁ ≡ with_graph S (lay (shift base e.1) S.graph).0) × (cell ≡ (lay (shift base e.1) S.graph).1) × (b₂.now ≡ entries_bytes es ++ rest)
      first e es rest legible is roomy =
          let at = names e.0 _ legible.0 (entry_apart e es rest bytes is) in
          let o = lays type e.1 _ legible.1 at.1 (type_roomy e es roomy) in
          (at.0, o.0, o.1, o.2)

      rest_roomy : (e : Name × Term) (es : List (Name × Term)) → S₁ ≡ with_graph S (lay (shift base e.1) S.graph).0 → Roomy (add_entries base (e ∷ es) S) → Roomy (add_entries base es S₁)
      rest_roomy e es is roomy =
          let a = lay (shift base e.1) S.graph in
          let R = add_entries base es (with_graph S a.0) in
          subst (λ T. Roomy (add_entries base es T)) (sym is) (roomy_before R (put_slot (e.0, a.1) R) (grows_put (e.0, a.1) R) roomy)

      pub no_entries : (S' : State) (r : Result (Bor (List ℕ)) Fault) → ((es : List (Name × Term)) (rest : List ℕ) → length es ≡ count - 1 → EntriesLegible es → b₂.now ≡ entries_bytes es ++ rest → Roomy (add_entries base es S₁) → ⊥) → AddsEntries base count bytes S S' r
      no_entries S' r none [] rest long legible is roomy = absurd (some (sym long))
      no_entries S' r none (e ∷ es) rest long legible is roomy =
          let f = first e es rest legible is roomy in
          absurd (none es rest (omega (arith, long)) legible.2 f.3 (rest_roomy e es f.1 roomy))

      module _ (S₂ : State) (b₃ : Bor (List ℕ)) (later : AddsEntries base (count - 1) b₂.now S₁ S₂ (Ok b₃)) where
        whole : (e : Name × Term) (es : List (Name × Term)) (rest : List ℕ) → length (e ∷ es) ≡ count → EntriesLegible (e ∷ es) → bytes ≡ entries_bytes (e ∷ es) ++ rest → Roomy (add_entries base (e ∷ es) S) → (put_slot (n.0, cell) S₂ ≡ add_entries base (e ∷ es) S) × (b₃.now ≡ rest)
        whole e es rest long legible is roomy =
            let f = first e es rest legible is roomy in
            let l = later es rest (omega (arith, long)) legible.2 f.3 (rest_roomy e es f.1 roomy) in
            (ap₂ (λ (s : Name × ℕ) (T : State). put_slot s T) (ap₂ (λ m c. (m, c)) f.0 f.2) (l.0 ∙ ap (add_entries base es) f.1), l.1)

        pub no_put : (S' : State) (r : Result (Bor (List ℕ)) Fault) → (Roomy (put_slot (n.0, cell) S₂) → ⊥) → AddsEntries base count bytes S S' r
        no_put S' r none [] rest long legible is roomy = absurd (some (sym long))
        no_put S' r none (e ∷ es) rest long legible is roomy =
            absurd (none (subst Roomy (sym (whole e es rest long legible is roomy).0) roomy))

        pub entries_more : (S' : State) → S' ≡ put_slot (n.0, cell) S₂ → AddsEntries base count bytes S S' (Ok b₃)
        entries_more S' put [] rest long legible is roomy = absurd (some (sym long))
        entries_more S' put (e ∷ es) rest long legible is roomy =
            let w = whole e es rest long legible is roomy in
            (put ∙ w.0, w.1)

-- a form: its entries, and its type
pub no_form_entries : (base count : ℕ) (bytes : List ℕ) (S S' : State) (r : Result ℕ Fault) → ((es : List (Name × Term)) (rest : List ℕ) → length es ≡ count → EntriesLegible es → bytes ≡ entries_bytes es ++ rest → Roomy (add_entries base es S) → ⊥) → AddsForm base count bytes S S' r
no_form_entries base count bytes S S' r none F long legible type-legible spelled roomy =
    let E = add_entries base F.entries S in
    absurd (none F.entries (term_bytes F.result) long legible spelled (roomy_before E (add_form base F S).0 (grows_lay (shift base F.result) E) roomy))

module _ (base count : ℕ) (bytes : List ℕ) (S S₁ : State) (b : Bor (List ℕ)) (adds : AddsEntries base count bytes S S₁ (Ok b)) where
  entries_done : (F : Form) → length F.entries ≡ count → EntriesLegible F.entries → bytes ≡ entries_bytes F.entries ++ term_bytes F.result → Roomy (add_form base F S).0 → (S₁ ≡ add_entries base F.entries S) × (b.now ≡ term_bytes F.result ++ [])
  entries_done F long legible spelled roomy =
      let E = add_entries base F.entries S in
      let d = adds F.entries (term_bytes F.result) long legible spelled (roomy_before E (add_form base F S).0 (grows_lay (shift base F.result) E) roomy) in
      (d.0, d.1 ∙ sym (append-nil (term_bytes F.result)))

  type_room : (F : Form) → S₁ ≡ add_entries base F.entries S → Roomy (add_form base F S).0 → Roomy (with_graph S₁ (lay (shift base F.result) S₁.graph).0)
  type_room F is roomy = subst (λ T. Roomy (with_graph T (lay (shift base F.result) T.graph).0)) (sym is) roomy

  pub no_form_type : (S' : State) (r : Result ℕ Fault) → ((s : Sort) (t : Term) (rest : List ℕ) → Legible [] s t → b.now ≡ term_bytes t ++ rest → Roomy (with_graph S₁ (lay (shift base t) S₁.graph).0) → ⊥) → AddsForm base count bytes S S' r
  no_form_type S' r none F long legible type-legible spelled roomy =
      let d = entries_done F long legible spelled roomy in
      absurd (none type F.result [] type-legible d.1 (type_room F d.0 roomy))

  pub form_added : (S₂ : State) (cell : ℕ) (b₂ : Bor (List ℕ)) → LaysAt base b.now S₁ S₂ (Ok (cell, b₂)) → AddsForm base count bytes S S₂ (Ok cell)
  form_added S₂ cell b₂ lays F long legible type-legible spelled roomy =
      let d = entries_done F long legible spelled roomy in
      let o = lays type F.result [] type-legible d.1 (type_room F d.0 roomy) in
      (o.0 ∙ ap (λ T. with_graph T (lay (shift base F.result) T.graph).0) d.0, o.1 ∙ ap (λ T. (lay (shift base F.result) T.graph).1) d.0)
