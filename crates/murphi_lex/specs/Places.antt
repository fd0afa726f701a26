-- Places of a text: what a token or a fault can name.
use Rattle.std.specs.Prelude.{◌≡◌, ℕ, List, ◌++◌, Some, slice_get}
use Rattle.murphi_ast.specs.Bytes.{past, start}
use Rattle.murphi_ast.specs.declared.token.Span.{Span}
use Rattle.murphi_ast.specs.declared.token.Token.{Token}
use Rattle.murphi_ast.specs.declared.token.Fault.{Fault}
use Rattle.murphi_ast.specs.declared.token.Fault.TheVariants.{E02, E03}

-- a place that is behind some front of the bytes, the first of which stand at `from`
pub record IsBehind (from : Span) (bytes : List ℕ) (at : Span) : Type 0 where
  pub front : List ℕ
  pub back : List ℕ
  pub split : bytes ≡ front ++ back
  pub is : at ≡ past front from

-- a place of a text: that behind some front of its bytes
abbrev pub IsPlace : List ℕ → Span → Type 0
IsPlace bytes at = IsBehind start bytes at

-- where a fault is
abbrev pub fault_place : Fault → Span
fault_place (E02 at) = at
fault_place (E03 at) = at

-- a token of the list stands there
pub record StandsAt (tokens : List Token) (at : Span) : Type 0 where
  pub number : ℕ
  pub token : Token
  pub there : slice_get tokens number ≡ Some token
  pub is : at ≡ token.at
