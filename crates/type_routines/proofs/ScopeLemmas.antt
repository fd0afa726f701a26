-- Formals and locals add names to the innermost scope, and change nothing else in it.
use Rattle.std.proofs.Common.{◌≡◌, Bool, false, List, [], ◌∷◌, ◌++◌, length, Option, None, Some, refl, ap, sym, ◌∙◌, append_assoc, append-nil}
use Rattle.std.proofs.Math.Seq.{take-append_seam}
use Rattle.std.specs.Prelude.{is_some}
use Rattle.murphi_ast.specs.declared.expr.Named.{Named}
use Rattle.murphi_ast.specs.declared.decl.Decl as decl
use Rattle.murphi_ast.specs.declared.decl.Decl.{Decl}
use Rattle.murphi_ast.specs.declared.decl.Formal.{Formal}
use Rattle.murphi_ast.specs.declared.decl.Routine.{Routine}
use Rattle.murphi_typed.specs.declared.types.AnyType.{AnyType}
use Rattle.murphi_types.specs.declared.scope.Entry.{Entry}
use Rattle.murphi_types.specs.declared.scope.Meaning.TheVariants as meaning
use Rattle.murphi_types.specs.declared.scope.Known.{Known}
use Rattle.murphi_types.specs.declared.scope.Scope.{Scope}
use Rattle.murphi_types.specs.Scopes.{entry}
use Rattle.murphi_types.specs.Places.{place_of}
use Rattle.murphi_types.specs.Constants.{is_constant}
use Rattle.murphi_types.specs.Types.{Unnamed, number_found}
use Rattle.murphi_types.specs.Typing.{found, type_found}
use Rattle.murphi_types.specs.Declarations.{Declared, constant_meaning, type_meaning, naming_of, next_root, declare_variable, declare_variables, declared, all_declared}
use Rattle.murphi_types.specs.Routines.{FoundFormals, one_formal, formal_meaning, formals_of_names, formal_faults, group_found, formals_found, no_formals, locals_of}
use Rattle.type_routines.specs.Routines.{formals_in, result_in, locals_in, closed}

-- a scope with more names
record Grown (s t : Scope) : Type 0 where
  more : List Entry
  is : t ≡ record s { inner = s.inner ++ more }

same : (s : Scope) → Grown s s
same s = record { more = []; is = ap (λ es. record s { inner = es }) (sym (append-nil s.inner)) }

one-more : (s : Scope) (e : Entry) → Grown s (record s { inner = s.inner ++ e ∷ [] })
one-more s e = record { more = e ∷ []; is = refl }

chained : (s t u : Scope) → Grown s t → Grown t u → Grown s u
chained s t u g h =
    record {
      more = g.more ++ h.more;
      is = h.is ∙ ap (λ (x : Scope). record x { inner = x.inner ++ h.more }) g.is
          ∙ ap (λ es. record s { inner = es }) (append_assoc s.inner g.more h.more);
    }

formals-named : (b : Bool) (t : Option AnyType) (ns : List Named) (f : FoundFormals) → Grown f.scope (formals_of_names b t ns f).scope
formals-named b t [] f = same f.scope
formals-named b t (n ∷ ns) f =
    chained f.scope (one_formal b t n.name f).scope (formals_of_names b t ns (one_formal b t n.name f)).scope
    (one-more f.scope (entry n.name (formal_meaning b (length f.formals) t))) (formals-named b t ns (one_formal b t n.name f))

formals-grow : (all : List Formal) (f : FoundFormals) → Grown f.scope (formals_found all f).scope
formals-grow [] f = same f.scope
formals-grow (one ∷ rest) f =
    let t = type_found f.scope f.known Unnamed one.body in
    let g = group_found one f t in
    let begun : FoundFormals = record f { known = t.known; faults = f.faults ++ (formal_faults f.scope.in_function one.by_place one.names ++ t.faults) } in
    chained f.scope g.scope (formals_found rest g).scope (formals-named one.by_place t.type one.names begun)
    (formals-grow rest g)

variables-grow : (ns : List Named) (t : Option AnyType) (d : Declared) → Grown d.scope (declare_variables false ns t d).scope
variables-grow [] t d = same d.scope
variables-grow (n ∷ ns) None d =
    chained d.scope (declare_variable false n.name None d).scope (declare_variables false (n ∷ ns) None d).scope
    (one-more d.scope (entry n.name meaning.Refused)) (variables-grow ns None (declare_variable false n.name None d))
variables-grow (n ∷ ns) (Some t) d =
    chained d.scope (declare_variable false n.name (Some t) d).scope (declare_variables false (n ∷ ns) (Some t) d).scope
    (one-more d.scope (entry n.name (meaning.Variable (next_root false d) t))) (variables-grow ns (Some t) (declare_variable false n.name (Some t) d))

local-grows : (one : Decl) (d : Declared) → Grown d.scope (declared false one d).scope
local-grows (decl.Constant name e) d =
    one-more d.scope (entry name.name (constant_meaning (number_found (is_constant d.scope d.known e) (place_of e) (found d.scope d.known e)).number))
local-grows (decl.TypeName name t) d =
    one-more d.scope (entry name.name (type_meaning (type_found d.scope d.known (naming_of false d.scope.node name.name) t).type))
local-grows (decl.Variables names t) d =
    let f = type_found d.scope d.known Unnamed t in
    variables-grow names f.type (record d { known = f.known; faults = d.faults ++ f.faults })
local-grows (decl.Routine' name formals result shape locals body) d = same d.scope

locals-grow : (all : List Decl) (d : Declared) → Grown d.scope (all_declared false all d).scope
locals-grow [] d = same d.scope
locals-grow (one ∷ rest) d =
    chained d.scope (declared false one d).scope (all_declared false rest (declared false one d)).scope
    (local-grows one d) (locals-grow rest (declared false one d))

cut : (s t : Scope) (b : Bool) → Grown (record s { in_function = b }) t → closed (length s.inner) s.in_function t ≡ s
cut s t b g =
    ap (closed (length s.inner) s.in_function) g.is
    ∙ ap (λ es. record s { inner = es }) (take-append_seam s.inner g.more)

-- the names of a text are in scope after a routine as they were before it
pub closed-again : (s : Scope) (k : Known) (one : Routine) → closed (length s.inner) s.in_function (locals_in (formals_in s k one) one).scope ≡ s
closed-again s k one =
    let begin = no_formals s (is_some one.result) k in
    let f = formals_in s k one in
    cut s (locals_in f one).scope (is_some one.result)
    (chained (record s { in_function = is_some one.result }) f.scope (locals_in f one).scope (formals-grow one.formals begin)
    (locals-grow one.locals (locals_of f.scope (result_in f one) f.faults)))
