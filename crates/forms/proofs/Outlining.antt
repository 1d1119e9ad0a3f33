-- Reading a typing string, step by step, and where its parts stand. Assumes nothing.
use Rattle.std.proofs.Common.{◌≡◌, ℕ, ◌+◌, ◌-◌, ◌⊎◌, inl, inr, List, ◌∷◌, ◌++◌, length, drop, Some, None, Ok, Option, Result, sym, refl, ap, ◌∙◌, arith, length-append}
use Rattle.std.proofs.lemmas.List.{append_assoc, drop_at}
use Rattle.layout.specs.Groups.{group}
use Rattle.syntax.specs.declared.fault.Fault.{Fault}
use Rattle.typing.specs.Parsing.{read_count, read_status, read_typing}
use Rattle.typing.specs.Strings.{Bytes, Typing, formed, clashed, overlong, entries_bytes, term_bytes, status_bytes, typing_bytes}
use Rattle.typing.specs.Forms.{Form}
use Rattle.typing.specs.Strings as strings
use Rattle.typing.proofs.GroupReading.{then_is}
use Rattle.typing.proofs.StringsRead.{typing_read}
use Rattle.forms.specs.Outlines.{entries_offset, type_offset, form_of, outlined, shape_of, shaped, BareEnds, FormStands}
use Rattle.forms.specs.declared.outline.FormOutline.{FormOutline}
use Rattle.forms.specs.declared.outline.Outline.{Outline}
use Rattle.forms.specs.declared.outline.Untyped.{Untyped}

-- a string with a form is as long as its parts
pub string_long : (T : Typing) (F : Form) → T.status ≡ formed F → length (typing_bytes T) ≡ type_offset T F + length (term_bytes F.result)
string_long T F is =
    let form = ap (λ s. length (status_bytes s)) is in
    omega (arith, form, length-append (group T.clashes) (group T.overlongs ++ (group T.holes ++ status_bytes T.status)), length-append (group T.overlongs) (group T.holes ++ status_bytes T.status), length-append (group T.holes) (status_bytes T.status), length-append (group (length F.entries)) (entries_bytes F.entries ++ term_bytes F.result), length-append (entries_bytes F.entries) (term_bytes F.result))

-- what ends a string stands where it does off the front
ends_there : (T : Typing) (s : strings.Status) → T.status ≡ s → shape_of (length (typing_bytes T)) s ≡ form_of T s
ends_there T (formed F) is =
    let long = string_long T F is in
    let entries_at : length (typing_bytes T) - (length (entries_bytes F.entries) + length (term_bytes F.result)) ≡ entries_offset T F = omega (arith, long) in
    let type_at : length (typing_bytes T) - length (term_bytes F.result) ≡ type_offset T F = omega (arith, long) in
    cc (entries_at, type_at)
ends_there T clashed is = refl
ends_there T overlong is = refl

made : (end : ℕ) (o : Option strings.Status) (x : Result FormOutline Untyped) → Ok x ≡ shaped end o → (s : strings.Status) × (o ≡ Some s) × (x ≡ shape_of end s)
made end None x is = absurd (let z : ◌≡◌ {A = ℕ} 0 1 = cc in omega (arith, z))
made end (Some s) x is = (s, refl, cc)

pub outline_is : (text : List ℕ) (b : ℕ) (bs : List ℕ) → text ≡ b ∷ bs → Bytes text → (c o h : ℕ) (bs₁ bs₂ bs₃ : List ℕ) → read_count bs ≡ Some (c, bs₁) → read_count bs₁ ≡ Some (o, bs₂) → read_count bs₂ ≡ Some (h, bs₃) → (x : Result FormOutline Untyped) → Ok x ≡ shaped (length text) (read_status 4 b bs₃) → ◌≡◌ {A = Result Outline Fault} (Ok (record { tally = record { clashes = c; overlongs = o; holes = h }; form = x })) (outlined (read_typing 4 text))
outline_is text b bs first bytes c o h bs₁ bs₂ bs₃ ec eo eh x es =
    let m = made (length text) (read_status 4 b bs₃) x es in
    let T : Typing = record { clashes = c; overlongs = o; holes = h; status = m.0 } in
    let read : read_typing 4 text ≡ Some T = ap (read_typing 4) first ∙ then_is (read_count bs) (c, bs₁) _ ec ∙ then_is (read_count bs₁) (o, bs₂) _ eo ∙ then_is (read_count bs₂) (h, bs₃) _ eh ∙ then_is (read_status 4 b bs₃) m.0 _ m.1 in
    let long : length text ≡ length (typing_bytes T) = ap length (typing_read 4 text T bytes read).1 in
    let form : x ≡ form_of T m.0 = m.2 ∙ ap (λ n. shape_of n m.0) long ∙ ends_there T m.0 refl in
    ap (λ (y : Result FormOutline Untyped). Ok (record { tally = record { clashes = c; overlongs = o; holes = h }; form = y })) form ∙ ap outlined (sym read)

behind_parts : (n x : ℕ) (a b c d rest : List ℕ) → 1 + length a + length b + length c + length d ≡ n → drop n (x ∷ (a ++ (b ++ (c ++ (d ++ rest))))) ≡ rest
behind_parts n x a b c d rest is =
    let front = x ∷ (a ++ (b ++ (c ++ d))) in
    let long : length front ≡ n = omega (arith, is, length-append a (b ++ (c ++ d)), length-append b (c ++ d), length-append c d) in
    let regroup : x ∷ (a ++ (b ++ (c ++ (d ++ rest)))) ≡ front ++ rest = sym (ap (λ z. x ∷ z) (append_assoc a (b ++ (c ++ d)) rest ∙ ap (λ z. a ++ z) (append_assoc b (c ++ d) rest ∙ ap (λ z. b ++ z) (append_assoc c d rest)))) in
    ap (drop n) regroup ∙ drop_at front rest n long

pub form_stands : FormStands
form_stands text T F bytes is form =
    let n = group (length F.entries) in
    let es = entries_bytes F.entries in
    let t = term_bytes F.result in
    let counts : ℕ → List ℕ → List ℕ = λ x rest. x ∷ (group T.clashes ++ (group T.overlongs ++ (group T.holes ++ rest))) in
    let spelled : text ≡ counts (strings.status_byte T.status) (n ++ (es ++ t)) = (typing_read 4 text T bytes is).1 ∙ ap (λ s. counts (strings.status_byte T.status) (status_bytes s)) form in
    let regrouped : text ≡ counts (strings.status_byte T.status) ((n ++ es) ++ t) = spelled ∙ ap (counts (strings.status_byte T.status)) (sym (append_assoc n es t)) in
    (ap (drop (entries_offset T F)) spelled ∙ behind_parts (entries_offset T F) (strings.status_byte T.status) (group T.clashes) (group T.overlongs) (group T.holes) n (es ++ t) refl, ap (drop (type_offset T F)) regrouped ∙ behind_parts (type_offset T F) (strings.status_byte T.status) (group T.clashes) (group T.overlongs) (group T.holes) (n ++ es) t (omega (arith, length-append n es)))

pub bare_ends : BareEnds
bare_ends text T bytes is none =
    omega (arith, ap length (typing_read 4 text T bytes is).1, by_status none, length-append (group T.clashes) (group T.overlongs ++ (group T.holes ++ status_bytes T.status)), length-append (group T.overlongs) (group T.holes ++ status_bytes T.status), length-append (group T.holes) (status_bytes T.status))
  where
    by_status : (T.status ≡ clashed) ⊎ (T.status ≡ overlong) → length (status_bytes T.status) ≡ 0
    by_status (inl e) = ap (λ s. length (status_bytes s)) e
    by_status (inr e) = ap (λ s. length (status_bytes s)) e
