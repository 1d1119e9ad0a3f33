-- Pieces written one behind the other. Assumes nothing.
use Rattle.std.proofs.Common.{◌≡◌, ℕ, ◌+◌, ◌-◌, ◌≤◌, List, [], ◌++◌, length, take, drop, Ok, Err, Result, sym, ap, ◌∙◌, subst, ap₂, arith, length-append, length-drop, length-take-le, take-append-drop}
use borrow.Rule.Slice.PartMut.{put_mid}
use Rattle.std.proofs.lemmas.List.{append_assoc, append-nil, drop-drop}
use Rattle.std.proofs.lemmas.Slice.{take-put_mid, drop-put_mid}
use Rattle.syntax.specs.declared.fault.Fault.{Fault}
use Rattle.type_text.specs.Prints.{Grew, Put, Room, Shown}
use Rattle.type_text.specs.declared.print.Printer.{Printer}

drop_further : (n m : ℕ) (a b : List ℕ) → n ≤ m → drop n a ≡ drop n b → drop m a ≡ drop m b
drop_further n m a b le same =
    let e : n + (m - n) ≡ m = omega (arith, le) in
    sym (drop-drop (m - n) n a ∙ ap (λ k. drop k a) e) ∙ ap (drop (m - n)) same ∙ drop-drop (m - n) n b ∙ ap (λ k. drop k b) e

-- a copy over a part of the buffer
module _ (piece before copied : List ℕ) (at : ℕ) (room : at + length piece ≤ length before) (is : copied ≡ piece) where
  copied_over : List ℕ
  copied_over = put_mid at (at + length piece - at) before copied

  ahead : take (at + length piece) copied_over ≡ take at before ++ piece
  unfolding copied_over
  ahead =
      let long : length copied ≡ length piece = ap length is in
      take-put_mid at (at + length piece - at) before copied (at + length piece) (omega (arith, long)) (omega (arith, room)) ∙ ap (λ z. take at before ++ z) is

  behind : drop (at + length piece) copied_over ≡ drop (at + length piece) before
  unfolding copied_over
  behind =
      let k : at + length piece - at ≡ length piece = omega arith in
      let long : length copied ≡ length piece = ap length is in
      drop-put_mid at (at + length piece - at) before copied (at + length piece) (omega (arith, k)) (omega (arith, room)) (omega (arith, long, k))

  kept : length copied_over ≡ length before
  kept =
      let end = at + length piece in
      omega (arith, room, ap length (take-append-drop end copied_over), length-append (take end copied_over) (drop end copied_over), ap length ahead, length-append (take at before) piece, length-take-le at before (omega (arith, room)), ap length behind, length-drop end before)

  pub grew_put : (p p' : Printer) → p.at ≡ at → p.out.now ≡ before → p'.at ≡ at + length piece → p'.out.now ≡ put_mid at (at + length piece - at) before copied → Grew piece p p'
  unfolding copied_over
  grew_put p p' from held end holds =
      record {
        long = end ∙ ap (λ n. n + length piece) (sym from);
        kept = ap length holds ∙ kept ∙ ap length (sym held);
        ahead = ap₂ take end holds ∙ ahead ∙ ap₂ (λ n xs. take n xs ++ piece) (sym from) (sym held);
        behind = ap₂ drop end holds ∙ behind ∙ ap₂ drop (sym end) (sym held);
      }

-- nothing has been written
pub grew_none : (p p' : Printer) → p'.at ≡ p.at → p'.out ≡ p.out → Grew [] p p'
grew_none p p' at out =
    record {
      long = omega (arith, at);
      kept = ap (λ o. length o.now) out;
      ahead = ap₂ (λ n o. take n o.now) at out ∙ sym (append-nil (take p.at p.out.now));
      behind = ap (λ o. drop p'.at o.now) out;
    }

pub grew_then : (x y : List ℕ) (p q r : Printer) → Grew x p q → Grew y q r → Grew (x ++ y) p r
grew_then x y p q r f g =
    record {
      long = omega (arith, f.long, g.long, length-append x y);
      kept = g.kept ∙ f.kept;
      ahead = g.ahead ∙ ap (λ z. z ++ y) f.ahead ∙ append_assoc (take p.at p.out.now) x y;
      behind = g.behind ∙ drop_further q.at r.at q.out.now p.out.now (omega (arith, g.long)) f.behind;
    }

pub grew_as : (x y : List ℕ) (p q : Printer) → x ≡ y → Grew x p q → Grew y p q
grew_as x y p q is f = subst (λ z. Grew z p q) is f

-- a text that was written from the start on
pub grew_whole : (text : List ℕ) (p q : Printer) → p.at ≡ 0 → Grew text p q → (q.at ≡ length text) × (q.out.now ≡ text ++ drop (length text) p.out.now)
grew_whole text p q start f =
    let long : q.at ≡ length text = omega (arith, f.long, start) in
    (long, sym (take-append-drop q.at q.out.now) ∙ ap₂ ◌++◌ (f.ahead ∙ ap (λ n. take n p.out.now ++ text) start) (f.behind ∙ ap (λ n. drop n p.out.now) long))

pub shown_as : (x y rest : List ℕ) (p q : Printer) (o : Result (Unit {0}) Fault) → x ≡ y → Shown x rest p q o → Shown y rest p q o
shown_as x y rest p q o is shown = subst (λ z. Shown z rest p q o) is shown

-- the last piece of a text
pub shown_put : (x y rest : List ℕ) (p q r : Printer) (o : Result (Unit {0}) Fault) → (q.rest.now ≡ rest) × Grew x p q → Put y q r o → Room (x ++ y) p → Shown (x ++ y) rest p r o
shown_put x y rest p q r (Ok u) before put room = (put.0 ∙ before.0, grew_then x y p q r before.1 put.1)
shown_put x y rest p q r (Err fault) before full room =
    full (omega (arith, room, before.1.long, before.1.kept, length-append x y))

-- a piece behind another
pub put_after : (x y : List ℕ) (p q r : Printer) (o : Result (Unit {0}) Fault) → (q.rest.now ≡ p.rest.now) × Grew x p q → Put y q r o → Put (x ++ y) p r o
put_after x y p q r (Ok u) first put = (put.0 ∙ first.0, grew_then x y p q r first.1 put.1)
put_after x y p q r (Err fault) first full =
    λ room. full (omega (arith, room, first.1.long, first.1.kept, length-append x y))
