-- Lines that are written one after the other into a buffer. Assumes nothing.
use Rattle.std.proofs.Common.{◌≡◌, ℕ, suc, ◌+◌, ◌-◌, ◌*◌, ◌<◌, ◌≤◌, true, List, [], ◌∷◌, ◌++◌, map, length, take, drop, Some, None, Ok, Err, Option, Result, sym, refl, ap, ◌∙◌, subst, ap₂, subst₂, append_assoc, append-nil, add-one, arith, length-append, length-drop, Bor, MatchOption}
use borrow.Rule.Slice.PartMut.{put_mid}
use Rattle.std.proofs.lemmas.List.{drop_all, drop_at, drop-drop, length-map, length_push, map_push, take_at, take_rest}
use Rattle.std.specs.Option.{ok_or}
use Rattle.std.specs.Result.{result_ok}
use Rattle.syntax.specs.Arguments.{fits}
use Rattle.notation.specs.EditAnswers.{Written, Ahead, lines_under}
use Rattle.notation.specs.Edits.{Put, beneath, edit_lines, edits_from, line_at, path_text}
use Rattle.layout.specs.Files.{forest_bytes}
use Rattle.syntax.specs.Rules.{WellFormed}
use Rattle.syntax.specs.Kinds.{arity}
use Rattle.layout.specs.Scans.{FileOf}
use Rattle.layout.specs.SymbolBytes.{symbol_bytes}
use Rattle.notation.specs.Texts.{Wrote}
use Rattle.syntax.specs.Trees.{Forest, none, grow, Tree, node, height, levels, nodes, size}
use Rattle.syntax.specs.declared.argument.Symbol.{Symbol}
use Rattle.syntax.specs.declared.fault.Fault.{Fault}
use Rattle.layout.proofs.Prefixes.{symbol_prefix}
use Rattle.layout.proofs.Scans.{first, known, levels_some}
use Rattle.notation.proofs.TextLengths.{line_short}

module _ (start text : List ℕ) (at : ℕ) (before : List ℕ) (w : Written start text at before) where
  written_length : length text ≤ length start → length before ≡ length start
  written_length within = omega (arith, ap length w.holds ∙ length-append text (drop (length text) start), length-drop (length text) start)

  pub at_within : length text ≤ length start → at ≤ length before
  at_within within = omega (arith, w.at_is, written_length within)

  -- what is left of the buffer behind the text
  left : take (length before - at) (drop at before) ≡ drop (length text) start
  left = take_rest before at ∙ ap₂ drop w.at_is w.holds ∙ drop_at text (drop (length text) start) (length text) refl

  adds : (piece part : List ℕ) (n : ℕ) → n ≡ length piece → part ≡ piece ++ drop (length piece) (take (length before - at) (drop at before)) → Written start (text ++ piece) (at + n) (put_mid at (length before - at) before part)
  adds piece part n long is =
      let gone : drop (length before - at) (drop at before) ≡ [] = drop_all _ (drop at before) (omega (arith, length-drop at before)) in
      let tail : drop (length piece) (drop (length text) start) ≡ drop (length (text ++ piece)) start = drop-drop (length piece) (length text) start ∙ ap (λ k. drop k start) (sym (length-append text piece)) in
      record {
        at_is = omega (arith, w.at_is, length-append text piece);
        holds = ap₂ (λ x y. x ++ y) (ap₂ take w.at_is w.holds ∙ take_at text (drop (length text) start) (length text) refl) (ap (λ z. part ++ z) gone ∙ append-nil part ∙ is ∙ ap (λ z. piece ++ drop (length piece) z) left ∙ ap (λ z. piece ++ z) tail)
            ∙ sym (append_assoc text piece (drop (length (text ++ piece)) start));
      }

  -- the same where what was made is known to be the piece
  pub adds_made : (made piece part : List ℕ) (n : ℕ) → made ≡ piece → n ≡ length made → part ≡ made ++ drop (length made) (take (length before - at) (drop at before)) → Written start (text ++ piece) (at + n) (put_mid at (length before - at) before part)
  adds_made made piece part n same long is =
      subst (λ z. Written start (text ++ z) (at + n) (put_mid at (length before - at) before part)) same (adds made part n long is)

pub lines_append : (p : List ℕ) (xs ys : List Put) → lines_under p (xs ++ ys) ≡ lines_under p xs ++ lines_under p ys
lines_append p [] ys = refl
lines_append p (e ∷ xs) ys =
    ap (λ z. line_at (path_text (p ++ e.path)) e.symbol ++ z) (lines_append p xs ys)
    ∙ sym (append_assoc (line_at (path_text (p ++ e.path)) e.symbol) (lines_under p xs) (lines_under p ys))

path_length : (p : List ℕ) → length (path_text p) ≡ 1 + length p
path_length p = omega (arith, length-map p (λ k. 48 + k))

path_push : (p : List ℕ) (k : ℕ) → path_text (p ++ k ∷ []) ≡ path_text p ++ (48 + k) ∷ []
path_push p k = ap (λ z. 46 ∷ z) (map_push (λ j. 48 + j) p k)

-- The lines of a node, of its children and of the trees beside it.
module _ (p : List ℕ) (k : ℕ) where
  step : (path : List ℕ) → p ++ (k ∷ path) ≡ (p ++ k ∷ []) ++ path
  step path = sym (append_assoc p (k ∷ []) path)

  lines_beneath : (es : List Put) → lines_under p (map (beneath k) es) ≡ lines_under (p ++ k ∷ []) es
  lines_beneath [] = refl
  lines_beneath (e ∷ es) = ap₂ (λ x y. line_at (path_text x) e.symbol ++ y) (step e.path) (lines_beneath es)

  pub lines_grow : (s : Symbol) (c g : Forest Symbol) → lines_under p (edits_from k (grow s c g)) ≡ (line_at (path_text (p ++ k ∷ [])) s ++ lines_under (p ++ k ∷ []) (edits_from 0 c)) ++ lines_under p (edits_from (suc k) g)
  lines_grow s c g =
      let es = edits_from 0 c in
      lines_append p (map (beneath k) (record { path = []; symbol = s } ∷ es)) (edits_from (suc k) g)
      ∙ ap (λ z. z ++ lines_under p (edits_from (suc k) g)) (lines_beneath (record { path = []; symbol = s } ∷ es) ∙ ap (λ z. line_at (path_text z) s ++ lines_under (p ++ k ∷ []) es) (append-nil (p ++ k ∷ [])))

-- all lines of trees on few levels are short
pub lines_short : (p : List ℕ) (k : ℕ) (f : Forest Symbol) → WellFormed f → length p + levels f ≤ 40 → length (lines_under p (edits_from k f)) ≤ 56 * nodes f
lines_short p k none w shallow = omega arith
lines_short p k (grow s c g) w shallow =
    let (fit, many, wc, wg) = w in
    let here = p ++ k ∷ [] in
    let line = line_at (path_text here) s in
    let below = lines_under here (edits_from 0 c) in
    let beside = lines_under p (edits_from (suc k) g) in
    omega (
      arith,
      ap length (lines_grow p k s c g) ∙ length-append (line ++ below) beside,
      length-append line below,
      line_short (path_text here) s (omega (arith, path_length here, length_push p k)) fit,
      lines_short here 0 c wc (omega (arith, length_push p k)),
      lines_short p (suc k) g wg (omega arith),
    )

-- the lines of the trees that stand next, of which the first begins with a known symbol
pub record Next (bytes path rest : List ℕ) (m k : ℕ) (s : Symbol) (p : List ℕ) (f : Forest Symbol) (end : List ℕ) : Type 0 where
  pub c : Forest Symbol
  pub g : Forest Symbol
  pub whole : f ≡ grow s c g
  pub below : Ahead rest (path ++ (48 + k) ∷ []) (arity s.kind) (p ++ k ∷ []) c (forest_bytes g ++ end)
  pub beside : Ahead (forest_bytes g ++ end) path (m - 1) p g end

pub next : (bytes path rest : List ℕ) (m k : ℕ) (s : Symbol) (p : List ℕ) (f : Forest Symbol) (end : List ℕ) → 0 < m → fits s ≡ true → bytes ≡ symbol_bytes s ++ rest → Ahead bytes path m p f end → Next bytes path rest m k s p f end
next bytes path rest m k s p f end some fit front a =
    let h = first bytes m f end some a.begins in
    let (same, behind) = known bytes rest s fit front m some f end a.begins in
    let whole : f ≡ grow s h.c h.g = h.whole ∙ ap (λ z. grow z h.c h.g) (sym same) in
    let deep : levels f ≡ levels (grow s h.c h.g) = ap levels whole in
    record {
      c = h.c;
      g = h.g;
      whole = whole;
      below = record {
        path_is = ap (λ z. z ++ (48 + k) ∷ []) a.path_is ∙ sym (path_push p k);
        begins = record { well = h.below.well; many = h.below.many ∙ ap (λ z. arity z.kind) (sym same); spelled = behind };
        shallow = omega (arith, a.shallow, deep, length_push p k);
      };
      beside = record { path_is = a.path_is; begins = h.beside; shallow = omega (arith, a.shallow, deep) };
    }

-- the line, then the lines below, then those beside
pub all_lines : (bytes path rest : List ℕ) (m k : ℕ) (s : Symbol) (p : List ℕ) (f : Forest Symbol) (end : List ℕ) (h : Next bytes path rest m k s p f end) (text : List ℕ)
    → ((text ++ line_at (path ++ (48 + k) ∷ []) s) ++ lines_under (p ++ k ∷ []) (edits_from 0 h.c)) ++ lines_under p (edits_from (suc k) h.g) ≡ text ++ lines_under p (edits_from k f)
all_lines bytes path rest m k s p f end h text =
    let line = line_at (path ++ (48 + k) ∷ []) s in
    let below = lines_under (p ++ k ∷ []) (edits_from 0 h.c) in
    let beside = lines_under p (edits_from (suc k) h.g) in
    ap (λ z. z ++ beside) (append_assoc text line below)
    ∙ append_assoc text (line ++ below) beside
    ∙ ap (λ z. text ++ z) (sym (ap (λ z. lines_under p (edits_from k z)) h.whole ∙ lines_grow p k s h.c h.g ∙ ap (λ z. (line_at z s ++ below) ++ beside) (sym h.below.path_is)))

-- no tree is to be written
pub none_ahead : (bytes path : List ℕ) (m k : ℕ) (p : List ℕ) (f : Forest Symbol) (end start text : List ℕ) (at : ℕ) (buffer : List ℕ) → m ≡ 0 → Ahead bytes path m p f end → Written start text at buffer → (bytes ≡ end) × Written start (text ++ lines_under p (edits_from k f)) at buffer
none_ahead bytes path m k p none end start text at buffer empty a w = (a.begins.spelled, subst (λ z. Written start z at buffer) (sym (append-nil text)) w)
none_ahead bytes path m k p (grow s c g) end start text at buffer empty a w = absurd (omega (arith, a.begins.many))

-- a tree takes a level
pub no_level : (bytes path : List ℕ) (m : ℕ) (p : List ℕ) (f : Forest Symbol) (end : List ℕ) (left : ℕ) → 0 < m → length path + left ≡ 41 → left ≡ 0 → Ahead bytes path m p f end → ⊥
no_level bytes path m p f end left some depth over a =
    omega (arith, levels_some f (omega (arith, a.begins.many)), a.shallow, ap length a.path_is ∙ path_length p)

-- What the three parts of the work at a node ask for, and that together they write all lines: its own
-- line at the path `here`, the lines of its n children, and those of the trees beside it.
pub record Step (rest path here : List ℕ) (m n k : ℕ) (s : Symbol) (p : List ℕ) (f : Forest Symbol) (end start text : List ℕ) : Type 0 where
  pub c : Forest Symbol
  pub g : Forest Symbol
  pub line_room : length text + length (line_at here s) ≤ length start
  pub below : Ahead rest here n (p ++ k ∷ []) c (forest_bytes g ++ end)
  pub below_room : length (text ++ line_at here s) + 56 * nodes c ≤ length start
  pub beside : Ahead (forest_bytes g ++ end) path (m - 1) p g end
  pub beside_room : length ((text ++ line_at here s) ++ lines_under (p ++ k ∷ []) (edits_from 0 c)) + 56 * nodes g ≤ length start
  pub all : ((text ++ line_at here s) ++ lines_under (p ++ k ∷ []) (edits_from 0 c)) ++ lines_under p (edits_from (k + 1) g) ≡ text ++ lines_under p (edits_from k f)

pub steps : (bytes rest path here : List ℕ) (m n k left : ℕ) (s : Symbol) (p : List ℕ) (f : Forest Symbol) (end start text : List ℕ)
    → 0 < m → (left ≡ 0 → ⊥) → length path + left ≡ 41 → fits s ≡ true → bytes ≡ symbol_bytes s ++ rest → here ≡ path ++ (48 + k) ∷ [] → n ≡ arity s.kind
    → Ahead bytes path m p f end → length text + 56 * nodes f ≤ length start → Step rest path here m n k s p f end start text
steps bytes rest path here m n k left s p f end start text some deep depth fit front is many a room =
    let h = next bytes path rest m k s p f end some fit front a in
    let line = line_at here s in
    let lines = lines_under (p ++ k ∷ []) (edits_from 0 h.c) in
    let own = line_short here s (omega (arith, ap length is ∙ length_push path (48 + k), depth)) fit in
    let below-short = lines_short (p ++ k ∷ []) 0 h.c h.below.begins.well h.below.shallow in
    let sized = ap nodes h.whole in
    record {
      c = h.c;
      g = h.g;
      line_room = omega (arith, own, sized);
      below = subst₂ (λ x y. Ahead rest x y (p ++ k ∷ []) h.c (forest_bytes h.g ++ end)) (sym is) (sym many) h.below;
      below_room = omega (arith, own, sized, length-append text line);
      beside = h.beside;
      beside_room = omega (arith, own, sized, below-short, length-append text line, length-append (text ++ line) lines);
      all = ap₂ (λ x y. ((text ++ line_at x s) ++ lines) ++ lines_under p (edits_from y h.g)) is (add-one k) ∙ all_lines bytes path rest m k s p f end h text;
    }

pub written_as : (start end after : List ℕ) (r : Option (Bor (List ℕ) × ℕ)) {S S' : List ℕ} → S ≡ S'
    → MatchOption r ⊥ (λ x. (x.0.now ≡ end) × Written start S x.1 after) → MatchOption r ⊥ (λ x. (x.0.now ≡ end) × Written start S' x.1 after)
written_as start end after r same h = subst (λ z. MatchOption r ⊥ (λ x. (x.0.now ≡ end) × Written start z x.1 after)) same h

pub ahead_as : {bytes bytes' path p end : List ℕ} {m : ℕ} {f : Forest Symbol} → bytes ≡ bytes' → Ahead bytes path m p f end → Ahead bytes' path m p f end
ahead_as {bytes} {bytes'} {path} {p} {end} {m} {f} same a = subst (λ z. Ahead z path m p f end) same a

pub ahead_at : {bytes path path' p end : List ℕ} {m : ℕ} {f : Forest Symbol} → path ≡ path' → Ahead bytes path m p f end → Ahead bytes path' m p f end
ahead_at {bytes} {path} {path'} {p} {end} {m} {f} same a = subst (λ z. Ahead bytes z m p f end) same a

-- the same at the root, whose path is a dot
pub record Root (rest here : List ℕ) (n : ℕ) (s : Symbol) (t : Tree Symbol) (start : List ℕ) : Type 0 where
  pub c : Forest Symbol
  pub line_room : 0 + length (line_at here s) ≤ length start
  pub below : Ahead rest here n [] c []
  pub below_room : length (line_at here s) + 56 * nodes c ≤ length start
  pub all : line_at here s ++ lines_under [] (edits_from 0 c) ≡ edit_lines t

pub roots : (file rest here : List ℕ) (n : ℕ) (s : Symbol) (t : Tree Symbol) (start : List ℕ) → fits s ≡ true → file ≡ symbol_bytes s ++ rest → here ≡ 46 ∷ [] → n ≡ arity s.kind
    → FileOf file t → height t ≤ 40 → 56 * size t ≤ length start → Root rest here n s t start
roots file rest here n s (node a c) start fit front is many file-of shallow room =
    let (fit', many', wc, w) = file-of.rule in
    let (same, behind) = symbol_prefix s a rest (forest_bytes c ++ []) fit fit' (sym front ∙ file-of.spelled) in
    let own = line_short here s (omega (arith, ap length is)) fit in
    record {
      c = c;
      line_room = omega (arith, own);
      below = record {
        path_is = is;
        begins = record { well = wc; many = many' ∙ ap (λ z. arity z.kind) (sym same) ∙ sym many; spelled = behind };
        shallow = omega arith;
      };
      below_room = omega (arith, own);
      all = ap₂ (λ x y. line_at x y ++ lines_under [] (edits_from 0 c)) is same;
    }

pub unwritten : (start : List ℕ) → Written start [] 0 start
unwritten start = record { at_is = refl; holds = refl }

-- a text that fits its buffer is written
pub wrote_fits : (text before after : List ℕ) (r : Result ℕ Fault) → length text ≤ length before → Wrote text before after r → (r ≡ Ok (length text)) × (after ≡ text ++ drop (length text) before)
wrote_fits text before after (Ok n) fit (long, within, is) = (ap Ok long, is)
wrote_fits text before after (Err fault) fit (which, less, is) = absurd (omega arith)

-- the same where the answer is taken as an option
pub wrote_some : (text before after : List ℕ) (r : Result ℕ Fault) (n : ℕ) → Some n ≡ result_ok r → Wrote text before after r → (n ≡ length text) × (after ≡ text ++ drop (length text) before)
wrote_some text before after (Ok m) n e w = let same : n ≡ m = cc in (same ∙ w.0, w.2)
wrote_some text before after (Err fault) n e w = absurd (let z : ◌≡◌ {A = ℕ} 0 1 = cc in omega arith)

pub written_some : (before text after : List ℕ) (o : Option ℕ) (fault : Fault) → MatchOption o ⊥ (λ n. Written before text n after) → (ok_or o fault ≡ Ok (length text)) × (after ≡ text ++ drop (length text) before)
written_some before text after (Some n) fault w = (ap Ok w.at_is, w.holds)
written_some before text after None fault w = absurd w
