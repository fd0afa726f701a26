-- The names that a protocol declares, with their places, and what is known of its expressions.
use Rattle.std.specs.Prelude.{Bool, true, false, ◌&&◌, List, [], ◌∷◌, map, flat_map}
use Rattle.murphi_ast.specs.declared.expr.Named.{Named}
use Rattle.murphi_ast.specs.declared.expr.Link.{Link}
use Rattle.murphi_ast.specs.declared.expr.Selector.{Selector}
use Rattle.murphi_ast.specs.declared.decl.Decl as d
use Rattle.murphi_ast.specs.declared.decl.Decl.{Decl}
use Rattle.murphi_ast.specs.State.{Name}
use Rattle.murphi_ast.specs.Flat.{knows}

-- the names that a declaration declares, with their places
abbrev pub named_by : Decl → List Named
named_by (d.Variables names body) = names
named_by _ = []

-- the names that declarations declare, in order
abbrev pub named_in : List Decl → List Named
named_in decls = flat_map named_by decls

-- the names alone
abbrev pub names_of : List Named → List Name
names_of ns = map (λ (n : Named). n.name) ns

-- each name in the operands of a chain is one of these
abbrev pub links_know : List Name → List Link → Bool
links_know vs [] = true
links_know vs (link ∷ links) = knows vs link.operand && links_know vs links

-- there are neither fields nor indices
abbrev pub is_plain : List Selector → Bool
is_plain [] = true
is_plain (s ∷ ss) = false
