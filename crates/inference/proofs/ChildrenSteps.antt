-- Adding the children of a node to a draft, the last one first. Assumes nothing.
use Rattle.std.proofs.Common.{◌≡◌, ℕ, ◌+◌, ◌-◌, ◌≤◌, List, [], ◌∷◌, ◌++◌, length, set, Some, Ok, Result, sym, ap, ◌∙◌, subst, arith}
use borrow.Rule.Slice.PartMut.{put_mid}
use Rattle.std.proofs.lemmas.List.{append-nil, drop_all}
use Rattle.syntax.specs.declared.fault.Fault.{Fault}
use Rattle.forms.specs.Outlines.{outlined, outline_of}
use Rattle.forms.specs.declared.outline.Outline.{Outline}
use Rattle.typing.specs.Constraints.{joined, width}
use Rattle.typing.specs.Forms.{Form}
use Rattle.typing.specs.Parsing.{read_typing}
use Rattle.typing.specs.Strings.{Typing}
use Rattle.typing.specs.Typings.{form_of}
use Rattle.inference.specs.Drafts.{State, add_entries, add_form, Roomy}
use Rattle.inference.specs.Joins.{AddsChild, AddsAll, AllRead, Begins, all_at, forms_of, width_in}
use Rattle.inference.specs.Layouts.{shift}
use Rattle.inference.specs.declared.base.Base.{Base}
use Rattle.inference.proofs.ChildFacts.{width_in_lem}
use Rattle.inference.proofs.DraftSteps.{Grows, grows_entries, grows_lay, grows_more, roomy_before}

grows_form : (base : ℕ) (F : Form) (S : State) → Grows S (add_form base F S).0
grows_form base F S =
    let E = add_entries base F.entries S in
    grows_more S E (add_form base F S).0 (grows_entries base F.entries S) (grows_lay (shift base F.result) E)

module _ (base : ℕ) (whole : List (List ℕ)) (text : List ℕ) (ss : List (List ℕ)) (split : whole ≡ text ∷ ss) where
  -- what holds of a string before others holds of the whole
  of_whole : (S' : State) (types : List ℕ) (r : Result Base Fault) → AddsAll base (text ∷ ss) S' types r → AddsAll base whole S' types r
  of_whole S' types r adds = subst (λ xs. AddsAll base xs S' types r) (sym split) adds

  module _ (x : Outline) (is : outlined (read_typing 4 text) ≡ Ok x) (next : ℕ) (next-is : next ≡ base + width_in x) where
    next_of : (T : Typing) → read_typing 4 text ≡ Some T → next ≡ base + width (form_of T.status)
    next_of T read =
        let same : outline_of T ≡ x = let e : Ok (outline_of T) ≡ Ok x = sym (ap outlined read) ∙ is in cc in
        next-is ∙ ap (λ y. base + width_in y) (sym same) ∙ ap (λ k. base + k) (width_in_lem T)

    rest_roomy : (T : Typing) (Ts : List Typing) → read_typing 4 text ≡ Some T → Roomy (all_at base (forms_of (T ∷ Ts))).0 → Roomy (all_at next (forms_of Ts)).0
    rest_roomy T Ts read roomy =
        let w = base + width (form_of T.status) in
        let R = (all_at w (forms_of Ts)).0 in
        subst (λ n. Roomy (all_at n (forms_of Ts)).0) (sym (next_of T read)) (roomy_before R (add_form base (form_of T.status) R).0 (grows_form base (form_of T.status) R) roomy)

    first_no_later : (S' : State) (types : List ℕ) (r : Result Base Fault) → ((Ts : List Typing) → AllRead ss Ts → Roomy (all_at next (forms_of Ts)).0 → ⊥) → AddsAll base (text ∷ ss) S' types r
    first_no_later S' types r none [] read roomy = absurd read
    first_no_later S' types r none (T ∷ Ts) read roomy = absurd (none Ts read.1 (rest_roomy T Ts read.0 roomy))

    pub no_later : (S' : State) (types : List ℕ) (r : Result Base Fault) → ((Ts : List Typing) → AllRead ss Ts → Roomy (all_at next (forms_of Ts)).0 → ⊥) → AddsAll base whole S' types r
    no_later S' types r none = of_whole S' types r (first_no_later S' types r none)

    module _ (fresh : Base) (S₁ : State) (types₁ : List ℕ) (later : AddsAll next ss S₁ types₁ (Ok fresh)) where
      child_room : (T : Typing) (Ts : List Typing) → read_typing 4 text ≡ Some T → AllRead ss Ts → Roomy (all_at base (forms_of (T ∷ Ts))).0 → (S₁ ≡ (all_at (base + width (form_of T.status)) (forms_of Ts)).0) × Roomy (add_form base (form_of T.status) S₁).0
      child_room T Ts one others roomy =
          let l = later Ts others (rest_roomy T Ts one roomy) in
          let w = base + width (form_of T.status) in
          let state : S₁ ≡ (all_at w (forms_of Ts)).0 = l.1 ∙ ap (λ n. (all_at n (forms_of Ts)).0) (next_of T one) in
          (state, subst (λ S. Roomy (add_form base (form_of T.status) S).0) (sym state) roomy)

      first_no_cell : (S' : State) (types : List ℕ) (r : Result Base Fault) → ((T : Typing) → read_typing 4 text ≡ Some T → Roomy (add_form base (form_of T.status) S₁).0 → ⊥) → AddsAll base (text ∷ ss) S' types r
      first_no_cell S' types r none [] read roomy = absurd read
      first_no_cell S' types r none (T ∷ Ts) read roomy = absurd (none T read.0 (child_room T Ts read.0 read.1 roomy).1)

      first_child_more : (S' : State) (cell : ℕ) → AddsChild base text S₁ S' (Ok cell) → AddsAll base (text ∷ ss) S' (cell ∷ types₁) (Ok fresh)
      first_child_more S' cell adds [] read roomy = absurd read
      first_child_more S' cell adds (T ∷ Ts) read roomy =
          let F = form_of T.status in
          let w = base + width F in
          let l = later Ts read.1 (rest_roomy T Ts read.0 roomy) in
          let room = child_room T Ts read.0 read.1 roomy in
          let a = adds T read.0 room.1 in
          let n = next_of T read.0 in
          (l.0 ∙ ap (λ k. (joined k (forms_of Ts)).unknowns) n, a.0 ∙ ap (λ S. (add_form base F S).0) room.0, (a.1 ∙ ap (λ S. (add_form base F S).1) room.0, subst (λ k. Begins (all_at k (forms_of Ts)).1 types₁) n l.2))

      pub no_cell : (S' : State) (types : List ℕ) (r : Result Base Fault) → ((T : Typing) → read_typing 4 text ≡ Some T → Roomy (add_form base (form_of T.status) S₁).0 → ⊥) → AddsAll base whole S' types r
      no_cell S' types r none = of_whole S' types r (first_no_cell S' types r none)

      pub child_more : (S' : State) (cell : ℕ) (types : List ℕ) → types ≡ cell ∷ types₁ → AddsChild base text S₁ S' (Ok cell) → AddsAll base whole S' types (Ok fresh)
      child_more S' cell types is adds = of_whole S' types (Ok fresh) (subst (λ cs. AddsAll base (text ∷ ss) S' cs (Ok fresh)) (sym is) (first_child_more S' cell adds))

-- the cell of the first child, before those of the others
pub first_put : (xs ys : List ℕ) (cell : ℕ) → 1 ≤ length xs → set (put_mid 1 (length xs - 1) xs ys) 0 cell ≡ cell ∷ ys
first_put [] ys cell some = absurd (omega (arith, some))
first_put (x ∷ xs) ys cell some = ap (λ z. cell ∷ z) (ap (λ z. ys ++ z) (drop_all (length (x ∷ xs) - 1) xs (omega arith)) ∙ append-nil ys)
