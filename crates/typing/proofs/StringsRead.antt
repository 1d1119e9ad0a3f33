-- What is read as a typing string is lawful. Assumes nothing.
use Rattle.std.proofs.Common.{◌≡◌, ℕ, zero, suc, ◌≤◌, true, false, ◌&&◌, eqb, leb, List, [], ◌∷◌, ◌++◌, length, get_or, take, drop, is_some, Some, None, Option, sym, refl, ap, ◌∙◌, subst, ap₂, arith, take-append-drop}
use Rattle.std.proofs.lemmas.List.{append_assoc, append-nil, nil_from_length}
use Rattle.std.proofs.lemmas.Bool.{leb-true, eqb-true, and_parts, both_ways}
use Rattle.layout.specs.Groups.{group}
use Rattle.syntax.specs.Names.{is_name}
use Rattle.typing.specs.Forms.{Name, Form, entry_variables}
use Rattle.typing.specs.Heads.{Sort, type}
use Rattle.typing.specs.Parsing.{only_if, read_group, Read, read_terms, read_type, read_entries, read_form, read_count, read_status, read_typing, is_lawful}
use Rattle.typing.specs.StringRules.{TestOfLawfulness}
use Rattle.typing.specs.Strings.{term_bytes, entries_bytes, form_bytes, before, Ahead, Rising, Numbered, Types, Sound, Good, longest, Status, formed, clashed, overlong, most, Typing, status_byte, status_bytes, typing_bytes, GoodStatus, GoodTyping, Bytes, LawfulString}
use Rattle.typing.specs.Terms.{Term, num, variables}
use Rattle.typing.proofs.GroupReading.{then_some, if_some, some_is, pair_parts, bytes_rest, group_read}
use Rattle.typing.proofs.StringReading.{typing_spelled}
use Rattle.typing.proofs.TermReading.{reach, reach_append}
use Rattle.typing.proofs.TermsRead.{triple_parts, Extends, extends_trans, SortAt, Got, GotOne, numbered_join, terms_read}

got_one : (labels : ℕ) (seen : List Sort) (bs : List ℕ) (xs : List Term) (seen' : List Sort) (rest : List ℕ) → Got labels (type ∷ []) seen bs xs seen' rest → GotOne labels type seen bs (get_or xs 0 num) seen' rest
got_one labels seen bs [] seen' rest got = absurd (got.sorted seen' ([], sym (append-nil seen')))
got_one labels seen bs (x ∷ []) seen' rest got = record { spelled = got.spelled ∙ ap (λ z. z ++ rest) (append-nil (term_bytes x)); grows = got.grows; numbered = subst (Numbered (length seen)) (append-nil (variables x)) got.numbered; reached = got.reached ∙ ap (reach (length seen)) (append-nil (variables x)); sorted = λ final ext. (got.sorted final ext).0 }
got_one labels seen bs (x ∷ y ∷ xs) seen' rest got = absurd (got.sorted seen' ([], sym (append-nil seen'))).1

pub type_read : (labels : ℕ) (seen : List Sort) (bs : List ℕ) (t : Term) (seen' : List Sort) (rest : List ℕ) → Bytes bs → read_type labels seen bs ≡ Some (t, seen', rest) → GotOne labels type seen bs t seen' rest
type_read labels seen bs t seen' rest bytes e =
    let a = then_some (read_terms (length bs) labels (type ∷ []) seen bs) _ (t, seen', rest) e in
    let p = triple_parts (get_or a.0.0 0 num) t a.0.1 seen' a.0.2 rest a.2 in
    let one = got_one labels seen bs a.0.0 a.0.1 a.0.2 (terms_read labels (length bs) (type ∷ []) seen bs a.0.0 a.0.1 a.0.2 bytes a.1) in
    subst (λ (z : List ℕ). GotOne labels type seen bs t seen' z) p.2 (subst (λ (z : List Sort). GotOne labels type seen bs t z a.0.2) p.1 (subst (λ (z : Term). GotOne labels type seen bs z a.0.1 a.0.2) p.0 one))

pub record GotEntries (labels n : ℕ) (last : Name) (seen : List Sort) (bs : List ℕ) (es : List (Name × Term)) (seen' : List Sort) (rest : List ℕ) : Type 0 where
  pub long : length es ≡ n
  pub spelled : bs ≡ entries_bytes es ++ rest
  pub rising : Rising es
  pub ahead : Ahead last es
  pub grows : Extends seen seen'
  pub numbered : Numbered (length seen) (entry_variables es)
  pub reached : length seen' ≡ reach (length seen) (entry_variables es)
  pub sorted : (final : List Sort) → Extends seen' final → Types (SortAt final) labels es

pub entries_read : (labels n : ℕ) (last : Name) (seen : List Sort) (bs : List ℕ) (es : List (Name × Term)) (seen' : List Sort) (rest : List ℕ) → Bytes bs → read_entries n labels last seen bs ≡ Some (es, seen', rest) → GotEntries labels n last seen bs es seen' rest
entries_read labels zero last seen bs es seen' rest bytes e =
    let p = triple_parts [] es seen seen' bs rest e in
    subst (λ (z : List (Name × Term)). GotEntries labels 0 last seen bs z seen' rest) p.0 (record { long = refl; spelled = p.2; rising = tt; ahead = tt; grows = ([], sym p.1 ∙ sym (append-nil seen)); numbered = tt; reached = ap length (sym p.1); sorted = λ final ext. tt })
entries_read labels (suc n) last seen bs es seen' rest bytes e =
    let m = take 4 bs in
    let a = then_some (only_if (is_name (take 4 bs) && before last (take 4 bs)) (read_type labels seen (drop 4 bs))) _ (es, seen', rest) e in
    let i = if_some (is_name (take 4 bs) && before last (take 4 bs)) (read_type labels seen (drop 4 bs)) a.0 a.1 in
    let tests = and_parts (is_name (take 4 bs)) (before last (take 4 bs)) i.0 in
    let split = take-append-drop 4 bs in
    let bytes₁ = bytes_rest (take 4 bs) (drop 4 bs) (subst Bytes (sym split) bytes) in
    let one = type_read labels seen (drop 4 bs) a.0.0 a.0.1 a.0.2 bytes₁ i.1 in
    let bytes₂ = bytes_rest (term_bytes a.0.0) a.0.2 (subst Bytes one.spelled bytes₁) in
    let b = then_some (read_entries n labels (take 4 bs) a.0.1 a.0.2) _ (es, seen', rest) a.2 in
    joined tests.0 tests.1 a.0.0 a.0.1 a.0.2 one b.0.0 b.0.1 b.0.2 (entries_read labels n (take 4 bs) a.0.1 a.0.2 b.0.0 b.0.1 b.0.2 bytes₂ b.1) b.2
  where
    joined : is_name (take 4 bs) ≡ true → before last (take 4 bs) ≡ true → (t : Term) (seen₁ : List Sort) (rest₁ : List ℕ) → GotOne labels type seen (drop 4 bs) t seen₁ rest₁ → (fs : List (Name × Term)) (seen₂ : List Sort) (rest₂ : List ℕ) → GotEntries labels n (take 4 bs) seen₁ rest₁ fs seen₂ rest₂ → ◌≡◌ {A = Option (Read (List (Name × Term)))} (Some ((take 4 bs, t) ∷ fs, seen₂, rest₂)) (Some (es, seen', rest)) → GotEntries labels (suc n) last seen bs es seen' rest
    joined name lt t seen₁ rest₁ one fs seen₂ rest₂ others e₂ =
        let p = triple_parts ((take 4 bs, t) ∷ fs) es seen₂ seen' rest₂ rest e₂ in
        let made : GotEntries labels (suc n) last seen bs ((take 4 bs, t) ∷ fs) seen₂ rest₂ = record { long = ap suc others.long; spelled = sym (take-append-drop 4 bs) ∙ ap (λ z. take 4 bs ++ z) (one.spelled ∙ ap (λ z. term_bytes t ++ z) others.spelled ∙ sym (append_assoc (term_bytes t) (entries_bytes fs) rest₂)) ∙ sym (append_assoc (take 4 bs) (term_bytes t ++ entries_bytes fs) rest₂); rising = (name, others.ahead, others.rising); ahead = lt; grows = extends_trans seen seen₁ seen₂ one.grows others.grows; numbered = numbered_join (variables t) (length seen) (entry_variables fs) one.numbered (subst (λ k. Numbered k (entry_variables fs)) one.reached others.numbered); reached = others.reached ∙ ap (λ k. reach k (entry_variables fs)) one.reached ∙ sym (reach_append (variables t) (length seen) (entry_variables fs)); sorted = λ final ext. (one.sorted final (extends_trans seen₁ seen₂ final others.grows ext), others.sorted final ext) } in
        subst (λ (z : List ℕ). GotEntries labels (suc n) last seen bs es seen' z) p.2 (subst (λ (z : List Sort). GotEntries labels (suc n) last seen bs es z rest₂) p.1 (subst (λ (z : List (Name × Term)). GotEntries labels (suc n) last seen bs z seen₂ rest₂) p.0 made))

form_read : (labels : ℕ) (bs : List ℕ) (F : Form) → Bytes bs → read_form labels bs ≡ Some F → Good labels F × (bs ≡ form_bytes F)
form_read labels bs F bytes e =
    let i = if_some (leb (length bs) longest) _ F e in
    let g = then_some (read_group 2 bs) _ F i.1 in
    let gr = group_read 2 bs g.0.0 g.0.1 bytes g.1 in
    let bytes₁ = bytes_rest (group g.0.0) g.0.1 (subst Bytes gr.1 bytes) in
    let a = then_some (read_entries g.0.0 labels [] [] g.0.1) _ F g.2 in
    let es = entries_read labels g.0.0 [] [] g.0.1 a.0.0 a.0.1 a.0.2 bytes₁ a.1 in
    let bytes₂ = bytes_rest (entries_bytes a.0.0) a.0.2 (subst Bytes es.spelled bytes₁) in
    let b = then_some (read_type labels a.0.1 a.0.2) _ F a.2 in
    let t = type_read labels a.0.1 a.0.2 b.0.0 b.0.1 b.0.2 bytes₂ b.1 in
    let last = if_some (eqb (length b.0.2) 0) _ F b.2 in
    made g.0.0 g.0.1 gr.1 a.0.0 a.0.1 a.0.2 es b.0.0 b.0.1 b.0.2 t (nil_from_length b.0.2 (eqb-true (length b.0.2) 0 last.0)) (leb-true (length bs) longest i.0) (some_is _ F last.1)
  where
    made : (n : ℕ) (bs₁ : List ℕ) → bs ≡ group n ++ bs₁ → (es : List (Name × Term)) (seen : List Sort) (bs₂ : List ℕ) → GotEntries labels n [] [] bs₁ es seen bs₂ → (t : Term) (final : List Sort) (bs₃ : List ℕ) → GotOne labels type seen bs₂ t final bs₃ → bs₃ ≡ [] → length bs ≤ longest → ◌≡◌ {A = Form} (record { entries = es; result = t }) F → Good labels F × (bs ≡ form_bytes F)
    made n bs₁ first es seen bs₂ got t final bs₃ one nil short is =
        let G : Form = record { entries = es; result = t } in
        let spelled : bs ≡ form_bytes G = first ∙ ap₂ (λ (k : ℕ) (z : List ℕ). group k ++ z) (sym got.long) (got.spelled ∙ ap (λ z. entries_bytes es ++ z) (one.spelled ∙ ap (λ z. term_bytes t ++ z) nil ∙ append-nil (term_bytes t))) in
        let sound : Sound labels G = record { rising = got.rising; sorts = λ k. get_or final k type; types = got.sorted final one.grows; result = one.sorted final ([], sym (append-nil final)); numbered = numbered_join (entry_variables es) 0 (variables t) got.numbered (subst (λ k. Numbered k (variables t)) got.reached one.numbered) } in
        subst (λ (H : Form). Good labels H × (bs ≡ form_bytes H)) is (record { sound = sound; short = subst (λ z. length z ≤ longest) spelled short }, spelled)

pub count_read : (bs : List ℕ) (n : ℕ) (rest : List ℕ) → Bytes bs → read_count bs ≡ Some (n, rest) → (n ≤ most) × (bs ≡ group n ++ rest)
count_read bs n rest bytes e =
    let a = then_some (read_group 2 bs) _ (n, rest) e in
    let i = if_some (leb a.0.0 most) _ (n, rest) a.2 in
    let p = pair_parts a.0.0 n a.0.1 rest i.1 in
    let g = group_read 2 bs a.0.0 a.0.1 bytes a.1 in
    (omega (arith, leb-true a.0.0 most i.0, p.0), g.1 ∙ ap₂ (λ (k : ℕ) (z : List ℕ). group k ++ z) p.0 p.1)

pub status_read : (labels b : ℕ) (bs : List ℕ) (s : Status) → Bytes bs → read_status labels b bs ≡ Some s → GoodStatus labels s × (b ≡ status_byte s) × (bs ≡ status_bytes s)
status_read labels zero bs s bytes e =
    let a = then_some (read_form labels bs) _ s e in
    let f = form_read labels bs a.0 bytes a.1 in
    subst (λ (q : Status). GoodStatus labels q × (0 ≡ status_byte q) × (bs ≡ status_bytes q)) (some_is (formed a.0) s a.2) (f.0, refl, f.1)
status_read labels (suc zero) bs s bytes e =
    let i = if_some (eqb (length bs) 0) _ s e in
    subst (λ (q : Status). GoodStatus labels q × (1 ≡ status_byte q) × (bs ≡ status_bytes q)) (some_is clashed s i.1) (tt, refl, nil_from_length bs (eqb-true (length bs) 0 i.0))
status_read labels (suc (suc zero)) bs s bytes e =
    let i = if_some (eqb (length bs) 0) _ s e in
    subst (λ (q : Status). GoodStatus labels q × (2 ≡ status_byte q) × (bs ≡ status_bytes q)) (some_is overlong s i.1) (tt, refl, nil_from_length bs (eqb-true (length bs) 0 i.0))
status_read labels (suc (suc (suc n))) bs s bytes e = absurd (let z : ◌≡◌ {A = ℕ} 0 1 = cc in omega (arith, z))

-- What is read is a good typing, and its string.
pub typing_read : (labels : ℕ) (bs : List ℕ) (T : Typing) → Bytes bs → read_typing labels bs ≡ Some T → GoodTyping labels T × (bs ≡ typing_bytes T)
typing_read labels [] T bytes e = absurd (let z : ◌≡◌ {A = ℕ} 0 1 = cc in omega (arith, z))
typing_read labels (b ∷ bs) T bytes e =
    let c = then_some (read_count bs) _ T e in
    let gc = count_read bs c.0.0 c.0.1 bytes.1 c.1 in
    let bytes₁ = bytes_rest (group c.0.0) c.0.1 (subst Bytes gc.1 bytes.1) in
    let o = then_some (read_count c.0.1) _ T c.2 in
    let go = count_read c.0.1 o.0.0 o.0.1 bytes₁ o.1 in
    let bytes₂ = bytes_rest (group o.0.0) o.0.1 (subst Bytes go.1 bytes₁) in
    let h = then_some (read_count o.0.1) _ T o.2 in
    let gh = count_read o.0.1 h.0.0 h.0.1 bytes₂ h.1 in
    let bytes₃ = bytes_rest (group h.0.0) h.0.1 (subst Bytes gh.1 bytes₂) in
    let s = then_some (read_status labels b h.0.1) _ T h.2 in
    let gs = status_read labels b h.0.1 s.0 bytes₃ s.1 in
    subst (λ (U : Typing). GoodTyping labels U × (b ∷ bs ≡ typing_bytes U)) (some_is _ T s.2)
    (record { clashes = gc.0; overlongs = go.0; holes = gh.0; status = gs.0 }, ap₂ ◌∷◌ gs.1 (gc.1 ∙ ap (λ z. group c.0.0 ++ z) (go.1 ∙ ap (λ z. group o.0.0 ++ z) (gh.1 ∙ ap (λ z. group h.0.0 ++ z) gs.2))))

pub test_of_lawfulness : TestOfLawfulness
test_of_lawfulness labels bs bytes = (by_reading (read_typing labels bs) refl, λ lawful. ap (is_lawful labels) lawful.spelled ∙ ap is_some (typing_spelled labels lawful.typing lawful.good))
  where
    by_reading : (o : Option Typing) → read_typing labels bs ≡ o → is_some o ≡ true → LawfulString labels bs
    by_reading None is e = absurd (both_ways false refl e)
    by_reading (Some T) is e = let r = typing_read labels bs T bytes is in record { typing = T; good = r.0; spelled = r.1 }
