-- The grammar as it is written and its left-factored form say the same: each right side of the one, read by
-- the other, spells and begins what that of the other does.
use Rattle.std.proofs.Common.{◌≡◌, List, refl}
use Rattle.grammar_core.specs.Forms.{Grammar, FormOf, Tree, Call}
use Rattle.grammar_core.specs.Spelling.{Room, Spells, Begins}
use Rattle.grammar_core.proofs.Alike.{Within, Alike, flip, over, named, same, spelled_by, begun_by}
use Rattle.murphi_ast.specs.declared.token.Token.{Token}
use Rattle.murphi_grammar.specs.declared.symbol.Symbol.{Symbol}
use Rattle.murphi_grammar.specs.Symbols.{symbol_of}
use Rattle.murphi_grammar.specs.Names.{Name, Piece}
use Rattle.murphi_grammar.specs.Names as n
use Rattle.murphi_grammar.specs.Parts.{Part, form}
use Rattle.murphi_grammar.specs.Values.{Value}
use Rattle.murphi_grammar.specs.Pieces.{cut, piece, piece_build}
use Rattle.murphi_grammar.specs.Grammar.{murphi}
use Rattle.murphi_grammar.specs.Grammar as w
use Rattle.murphi_grammar.specs.Factored.{factored}
use Rattle.murphi_grammar.specs.Factored as f
use Rattle.murphi_grammar.proofs.Agree.{protocol, declare, name_list, routine, formals, formal, body, items, bind, stmts, args, expr, implies, or, and, negation, compare, sum, product, unary, place}
use Rattle.murphi_grammar.proofs.AgreeAlternatives.{item, stmt, primary}
use Rattle.murphi_grammar.proofs.AgreeTypes.{type_form}
use Rattle.murphi_grammar.proofs.AgreeFields.{fields_there, fields_back}

-- pieces and right sides in either grammar
f_cuts : (p : Piece) → Alike factored (piece p) (piece_build p) (cut p) (λ v. v)
f_cuts p = named factored (n.Cut p)

w_cuts : (p : Piece) → Alike murphi (piece p) (piece_build p) (cut p) (λ v. v)
w_cuts p = named murphi (n.Cut p)

w_place : Alike murphi (f.rule n.Place) (f.build n.Place) (form n.Place) (λ v. v)
w_place = over (flip (place w.rule w.build w_cuts)) (named murphi n.Place)

w_unary : Alike murphi (f.rule n.Unary) (f.build n.Unary) (form n.Unary) (λ v. v)
w_unary = over (flip (unary w.rule w.build w_cuts)) (named murphi n.Unary)

w_primary : Alike murphi (f.rule n.Primary) (f.build n.Primary) (form n.Primary) (λ v. v)
w_primary = over (flip (primary w.rule w.build w_cuts w_place)) (named murphi n.Primary)

w_product : Alike murphi (f.rule n.Product) (f.build n.Product) (form n.Product) (λ v. v)
w_product = over (flip (product w.rule w.build w_cuts)) (named murphi n.Product)

w_sum : Alike murphi (f.rule n.Sum) (f.build n.Sum) (form n.Sum) (λ v. v)
w_sum = over (flip (sum w.rule w.build w_cuts)) (named murphi n.Sum)

there : (m : Name) → Within factored (w.rule m) (w.build m) (f.rule m) (f.build m)
there n.Protocol = (protocol f.rule f.build f_cuts).there
there n.Declare = (declare f.rule f.build f_cuts).there
there n.NameList = (name_list f.rule f.build f_cuts).there
there n.Routine = (routine f.rule f.build f_cuts).there
there n.Formals = (formals f.rule f.build f_cuts).there
there n.Formal = (formal f.rule f.build f_cuts).there
there n.Body = (body f.rule f.build f_cuts).there
there n.TypeForm = (type_form f.rule f.build f_cuts (named factored n.Unary) (named factored n.Primary) (named factored n.Product) (named factored n.Sum)).there
there n.Fields = fields_there f.rule f.build (named factored n.Fields)
there n.Items = (items f.rule f.build f_cuts).there
there n.Item = (item f.rule f.build f_cuts).there
there n.Bind = (bind f.rule f.build f_cuts).there
there n.Stmts = (stmts f.rule f.build f_cuts).there
there n.Stmt = (stmt f.rule f.build f_cuts (named factored n.Place)).there
there n.Args = (args f.rule f.build f_cuts).there
there n.Expr = (expr f.rule f.build f_cuts).there
there n.Implies = (implies f.rule f.build f_cuts).there
there n.Or = (or f.rule f.build f_cuts).there
there n.And = (and f.rule f.build f_cuts).there
there n.Not = (negation f.rule f.build f_cuts).there
there n.Compare = (compare f.rule f.build f_cuts).there
there n.Sum = (sum f.rule f.build f_cuts).there
there n.Product = (product f.rule f.build f_cuts).there
there n.Unary = (unary f.rule f.build f_cuts).there
there n.Primary = (primary f.rule f.build f_cuts (named factored n.Place)).there
there n.Place = (place f.rule f.build f_cuts).there
there n.LemmaItem = (same factored (w.rule n.LemmaItem) (w.build n.LemmaItem)).there
there n.FlowItem = (same factored (w.rule n.FlowItem) (w.build n.FlowItem)).there
there (n.Cut p) = (same factored (piece p) (piece_build p)).there

back : (m : Name) → Within murphi (f.rule m) (f.build m) (w.rule m) (w.build m)
back n.Protocol = (protocol w.rule w.build w_cuts).back
back n.Declare = (declare w.rule w.build w_cuts).back
back n.NameList = (name_list w.rule w.build w_cuts).back
back n.Routine = (routine w.rule w.build w_cuts).back
back n.Formals = (formals w.rule w.build w_cuts).back
back n.Formal = (formal w.rule w.build w_cuts).back
back n.Body = (body w.rule w.build w_cuts).back
back n.TypeForm = (type_form w.rule w.build w_cuts w_unary w_primary w_product w_sum).back
back n.Fields = fields_back w.rule w.build (named murphi n.Fields)
back n.Items = (items w.rule w.build w_cuts).back
back n.Item = (item w.rule w.build w_cuts).back
back n.Bind = (bind w.rule w.build w_cuts).back
back n.Stmts = (stmts w.rule w.build w_cuts).back
back n.Stmt = (stmt w.rule w.build w_cuts w_place).back
back n.Args = (args w.rule w.build w_cuts).back
back n.Expr = (expr w.rule w.build w_cuts).back
back n.Implies = (implies w.rule w.build w_cuts).back
back n.Or = (or w.rule w.build w_cuts).back
back n.And = (and w.rule w.build w_cuts).back
back n.Not = (negation w.rule w.build w_cuts).back
back n.Compare = (compare w.rule w.build w_cuts).back
back n.Sum = (sum w.rule w.build w_cuts).back
back n.Product = (product w.rule w.build w_cuts).back
back n.Unary = (unary w.rule w.build w_cuts).back
back n.Primary = (primary w.rule w.build w_cuts w_place).back
back n.Place = (place w.rule w.build w_cuts).back
back n.LemmaItem = (same murphi (w.rule n.LemmaItem) (w.build n.LemmaItem)).back
back n.FlowItem = (same murphi (w.rule n.FlowItem) (w.build n.FlowItem)).back
back (n.Cut p) = (same murphi (piece p) (piece_build p)).back

pub spelled_there : {r : Room} {m : Name} {us : List Token} {v : Value m} → Spells murphi r (Call m) us v → Spells factored r (Call m) us v
spelled_there p = spelled_by Token Symbol symbol_of Name Value w.rule w.build f.rule f.build there p

pub spelled_back : {r : Room} {m : Name} {us : List Token} {v : Value m} → Spells factored r (Call m) us v → Spells murphi r (Call m) us v
spelled_back p = spelled_by Token Symbol symbol_of Name Value f.rule f.build w.rule w.build back p

pub begun_there : {r : Room} {m : Name} {us : List Token} → Begins murphi r (Call m) us → Begins factored r (Call m) us
begun_there p = begun_by Token Symbol symbol_of Name Value w.rule w.build f.rule f.build there p

pub begun_back : {r : Room} {m : Name} {us : List Token} → Begins factored r (Call m) us → Begins murphi r (Call m) us
begun_back p = begun_by Token Symbol symbol_of Name Value f.rule f.build w.rule w.build back p
