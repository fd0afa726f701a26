-- Constants. A constant is written with numbers, `true`, `false`, names of constants, enum names and operators
-- alone, and has the value that the rules for expressions give it, short cuts and faults included.
use Rattle.std.specs.Prelude.{Bool, true, false, ◌&&◌, ℤ, [], Option, None, Some}
use Rattle.term_core.specs.declared.value.Value.{Value}
use Rattle.term_core.specs.declared.value.Value.TheVariants as value
use Rattle.murphi_ast.specs.declared.token.Span.{Span}
use Rattle.murphi_ast.specs.declared.expr.Expr as e
use Rattle.murphi_ast.specs.declared.expr.Expr.{Expr, end_of-Expr, more_of-Expr, Row_of-Link, end_of-Link, more_of-Link}
use Rattle.murphi_ast.specs.Forms.{NameForm, NotForm, CompareForm, ImpliesForm}
use Rattle.murphi_typed.specs.declared.expr.Expr as x
use Rattle.murphi_typed.specs.Store.{blank}
use Rattle.murphi_typed.specs.Outcome.{Outcome, Got, Fault}
use Rattle.murphi_typed.specs.Expressions.{Scene, Calls, value_of}
use Rattle.murphi_types.specs.declared.scope.Meaning.{Meaning}
use Rattle.murphi_types.specs.declared.scope.Meaning.TheVariants as meaning
use Rattle.murphi_types.specs.declared.scope.Known.{Known}
use Rattle.murphi_types.specs.declared.scope.Scope.{Scope}
use Rattle.murphi_types.specs.Scopes.{looked}
use Rattle.murphi_types.specs.Forms.{MinusForm, ChoiceForm}

-- a name that may stand in a constant
abbrev pub is_constant_name : Option Meaning → Bool
is_constant_name (Some (meaning.Constant n)) = true
is_constant_name (Some (meaning.Member kind index count)) = true
is_constant_name _ = false

unfoldable mutual
  -- whether an expression is written as a constant is. It binds nothing, so its names are those around it.
  pub is_constant : Scope → Known → Expr → Bool
  is_constant s k (e.Number n at) = true
  is_constant s k (e.Truth b at) = true
  is_constant s k (NameForm name) = is_constant_name (looked s k name.name)
  is_constant s k (NotForm body at) = is_constant s k body
  is_constant s k (MinusForm body at) = is_constant s k body
  is_constant s k (e.Chain' _ (more_of-Expr first end_of-Expr) _ rest) =
      is_constant s k first && are_constants s k rest
  is_constant s k (CompareForm op left right) = is_constant s k left && is_constant s k right
  is_constant s k (ImpliesForm left right) = is_constant s k left && is_constant s k right
  is_constant s k (ChoiceForm test then' else') =
      is_constant s k test && (is_constant s k then' && is_constant s k else')
  is_constant s k _ = false

  pub are_constants : {n : _} → Scope → Known → Row_of-Link n → Bool
  are_constants s k end_of-Link = true
  are_constants s k (more_of-Link op operand rest) = is_constant s k operand && are_constants s k rest

-- a constant calls nothing and binds nothing
abbrev pub no_calls : Calls
no_calls k scene at gs cells = Fault at

abbrev pub no_scene : Scene
no_scene = record { nodes = 0; depth = 0; bound = []; formals = [] }

abbrev pub number_in : Outcome Value → Option ℤ
number_in (Got (value.Number z)) = Some z
number_in _ = None

-- the number that the typed expression of a constant is, if it does not fault and is a number
abbrev pub constant_number : Span → x.Expr → Option ℤ
constant_number at tree = number_in (value_of no_calls no_scene at blank tree)
