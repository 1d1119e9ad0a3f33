-- Reading a node off a file is the inverse of spelling it. Assumes nothing.
use Rattle.std.proofs.Common.{◌≡◌, ℕ, ◌<◌, true, List, ◌++◌, length, sym, ◌∙◌, arith}
use Rattle.syntax.specs.Arguments.{fits}
use Rattle.layout.specs.Groups.{bound, group}
use Rattle.syntax.specs.Kinds.{code_of}
use Rattle.syntax.specs.Names.{is_name, letters}
use Rattle.layout.specs.SymbolBytes.{symbol_bytes}
use Rattle.syntax.specs.declared.argument.Symbol.{Symbol}
use Rattle.syntax.specs.declared.kind.Kind.{Kind}
use Rattle.syntax.specs.declared.name.Name.{Name}
use Rattle.syntax.proofs.Codes.{code_below}
use Rattle.layout.proofs.Groups.{groups_prefix}
use Rattle.syntax.proofs.Letters.{named}

short : (n : List ℕ) → is_name n ≡ true → length (letters n) < bound 2
short n valid = omega (arith, (named n valid).few)

module _ (bytes rest : List ℕ) (m : ℕ) (fits-m : m < bound 2) (front : bytes ≡ group m ++ rest) where
  behind : (n : Name) (more : List ℕ) → is_name n.0 ≡ true → bytes ≡ group (length (letters n.0)) ++ (letters n.0 ++ more) → (m ≡ length (letters n.0)) × (rest ≡ letters n.0 ++ more)
  behind n more valid is = groups_prefix 2 m (length (letters n.0)) rest _ fits-m (short n.0 valid) (sym front ∙ is)

-- no symbol begins the bytes
abbrev pub NoSymbol : List ℕ → Type 0
NoSymbol bytes = (s : Symbol) (rest : List ℕ) → fits s ≡ true → bytes ≡ symbol_bytes s ++ rest → ⊥

coded : (k : Kind) → code_of k < bound 2
coded k = omega (arith, code_below k)
