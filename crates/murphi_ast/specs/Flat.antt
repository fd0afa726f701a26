-- What bytes spell a flat protocol: tokens that follow the grammar, one start state, each variable
-- declared once, and each name that is used declared.
use Rattle.std.specs.Prelude.{◌≡◌, ℕ, ◌≤◌, Bool, true, false, ◌&&◌, List, [], ◌∷◌, Option, None, Some, if◌then◌else◌, map, flat_map, length, slice_get, count_by}
use Rattle.std.specs.List.{list_any, list_all}
use Rattle.std.specs.Option.{option_map_or}
use Rattle.std.specs.Str.{bytes_eq}
use Rattle.murphi_ast.specs.declared.token.Span.{Span}
use Rattle.murphi_ast.specs.declared.token.Token.{Token}
use Rattle.murphi_ast.specs.declared.token.Fault.{Fault}
use Rattle.murphi_ast.specs.declared.terminal.Terminal.{Terminal}
use Rattle.murphi_ast.specs.declared.terminal.Terminal.TheVariants as t
use Rattle.murphi_ast.specs.declared.expr.Named.{Named}
use Rattle.murphi_ast.specs.declared.decl.Decl as d
use Rattle.murphi_ast.specs.declared.decl.Decl.{Decl}
use Rattle.murphi_ast.specs.declared.expr.Expr as e
use Rattle.murphi_ast.specs.declared.expr.Expr.{Expr, end_of-Expr, more_of-Expr, Row_of-Link, end_of-Link, more_of-Link}
use Rattle.murphi_ast.specs.declared.stmt.Stmt as s
use Rattle.murphi_ast.specs.declared.stmt.Stmt.{Stmt}
use Rattle.murphi_ast.specs.declared.rule.RuleDecl.{RuleDecl, Rule, Start, Invariant}
use Rattle.murphi_ast.specs.declared.rule.Protocol.{Protocol}
use Rattle.murphi_ast.specs.Forms.{NameForm, NotForm, CompareForm, ImpliesForm}
use Rattle.murphi_ast.specs.State.{Name, variables}
use Rattle.murphi_ast.specs.Title.{StartKind, is_of}
use Rattle.murphi_ast.specs.Bytes.{start}
use Rattle.murphi_ast.specs.Spelling.{Reads, Spells}
use Rattle.murphi_ast.specs.Terminal.{terminal_of}
use Rattle.murphi_ast.specs.Grammar.{SpellsProtocol}

-- a name is one of these
abbrev pub is_among : List Name → Name → Bool
is_among names name = list_any (λ n. bytes_eq n name) names

-- no name stands twice in the list
abbrev pub all_distinct : List Name → Bool
all_distinct [] = true
all_distinct (n ∷ ns) = not_among (is_among ns n) && all_distinct ns
  where
    not_among : Bool → Bool
    not_among true = false
    not_among false = true

unfoldable mutual
  -- each name in an expression is one of these
  pub knows : List Name → Expr → Bool
  knows vs (e.Truth value at) = true
  knows vs (NameForm root) = is_among vs root.name
  knows vs (NotForm body at) = knows vs body
  knows vs (CompareForm op left right) = knows vs left && knows vs right
  knows vs (ImpliesForm left right) = knows vs left && knows vs right
  knows vs (e.Chain' _ (more_of-Expr first end_of-Expr) _ rest) = knows vs first && row_knows vs rest
  knows vs _ = false

  -- the same of the further operands of a chain
  pub row_knows : {n : _} → List Name → Row_of-Link n → Bool
  row_knows vs end_of-Link = true
  row_knows vs (more_of-Link op operand rest) = knows vs operand && row_knows vs rest

-- the same of a statement
abbrev pub stmt_knows : List Name → Stmt → Bool
stmt_knows vs (s.Assign to value) = is_among vs to.root.name && knows vs value
stmt_knows vs _ = false

-- the same of an item
abbrev pub item_knows : List Name → RuleDecl → Bool
item_knows vs (Rule title guard locals body at) = option_map_or (knows vs) guard true && list_all (stmt_knows vs) body
item_knows vs (Start title locals body at) = list_all (stmt_knows vs) body
item_knows vs (Invariant title body at) = knows vs body
item_knows vs _ = false

-- what the grammar does not say of a flat protocol
pub record IsFlat (p : Protocol) : Type 0 where
  pub one_start : count_by (is_of StartKind) p.rules ≡ 1
  pub declared_once : all_distinct (variables p) ≡ true
  pub declared : list_all (item_knows (variables p)) p.rules ≡ true

-- bytes spell a flat protocol
pub record SpellsFlat (bytes : List ℕ) (p : Protocol) : Type 0 where
  pub tokens : List Token
  pub lexed : Spells bytes tokens
  pub parsed : SpellsProtocol tokens p
  pub flat : IsFlat p

-- what a flat protocol may not have yet, in this order: a word that none of its forms has, among the
-- tokens before the first fault of the text; and, in a flat protocol, a ninth variable

abbrev pub is_other : Terminal → Bool
is_other t.OtherWord = true
is_other _ = false

-- the place of the first key word or refused word that no flat protocol has
abbrev pub first_other_word : List Token → Option Span
first_other_word [] = None
first_other_word (token ∷ tokens) = if is_other (terminal_of token) then Some token.at else first_other_word tokens

-- what the first such word of a text is, among the tokens before its first fault: its place, or none
pub record FirstOtherWord (bytes : List ℕ) (place : Option Span) : Type 0 where
  pub tokens : List Token
  pub fault : Option Fault
  pub reads : Reads start bytes tokens fault
  pub first : first_other_word tokens ≡ place

-- how many variables a flat protocol may have
abbrev pub greatest_variables : ℕ
greatest_variables = 8

-- the places of the names that a declaration declares
abbrev pub places_by : Decl → List Span
places_by (d.Variables names body) = map (λ (n : Named). n.at) names
places_by _ = []

-- the places of the variables of a protocol, in the order of their declarations
abbrev pub variable_places : Protocol → List Span
variable_places p = flat_map places_by p.decls

-- bytes spell a flat protocol with at most eight variables
pub record IsBuilt (bytes : List ℕ) (p : Protocol) : Type 0 where
  pub spelled : SpellsFlat bytes p
  pub few : length (variables p) ≤ greatest_variables

-- the place of what is not built: the first such word, or else the ninth name
pub data IsUnbuilt : List ℕ → Span → Type 0 where
  other_word : {bytes : List ℕ} {at : Span} → FirstOtherWord bytes (Some at) → IsUnbuilt bytes at
  ninth_name : {bytes : List ℕ} {at : Span} (p : Protocol) → FirstOtherWord bytes None → SpellsFlat bytes p →
      slice_get (variable_places p) greatest_variables ≡ Some at → IsUnbuilt bytes at

-- no such word stands in the bytes, and they spell no flat protocol
pub record IsNotFlat (bytes : List ℕ) : Type 0 where
  pub no_word : FirstOtherWord bytes None
  pub unspelled : (p : Protocol) → SpellsFlat bytes p → ⊥
