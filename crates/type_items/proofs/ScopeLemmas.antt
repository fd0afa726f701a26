-- What declarations of locals and the binds of rulesets leave of the scope: more names at its end.
use Rattle.std.proofs.Common.{◌≡◌, ℕ, false, List, [], ◌∷◌, ◌++◌, length, take, Option, None, Some, refl, ap, sym, ◌∙◌}
use Rattle.std.proofs.Math.Seq.{take-append_seam}
use Rattle.std.proofs.lemmas.List.{append-nil, append_assoc}
use Rattle.murphi_ast.specs.declared.expr.Named.{Named}
use Rattle.murphi_ast.specs.declared.expr.Bind.{Bind}
use Rattle.murphi_ast.specs.declared.decl.Decl as decl
use Rattle.murphi_ast.specs.declared.decl.Decl.{Decl}
use Rattle.murphi_typed.specs.Families.{Name}
use Rattle.murphi_typed.specs.declared.types.Simple.{Simple}
use Rattle.murphi_typed.specs.declared.types.AnyType.{AnyType}
use Rattle.murphi_typed.specs.declared.protocol.Parameter.{Parameter}
use Rattle.murphi_types.specs.declared.scope.Entry.{Entry}
use Rattle.murphi_types.specs.declared.scope.Scope.{Scope}
use Rattle.murphi_types.specs.Places.{type_place_of}
use Rattle.murphi_types.specs.Fitting.{simple_part}
use Rattle.murphi_types.specs.Types.{Unnamed, simple_wanted}
use Rattle.murphi_types.specs.Typing.{type_found}
use Rattle.murphi_types.specs.Declarations.{Declared, declare_variable, declare_variables, declared, all_declared}
use Rattle.murphi_types.specs.Items.{FoundBinds, with_parameter, bind_made, binds_found}
use Rattle.type_items.specs.Bodies.{shortened}
use Rattle.type_items.specs.Rulesets.{cut_scope}

-- Names after others

abbrev wider : Scope → List Entry → ℕ → Scope
wider s more bound = record s { inner = s.inner ++ more; bound = bound }

abbrev Widened : Scope → Scope → Type 0
Widened s t = (more : List Entry) × ((bound : ℕ) × (t ≡ wider s more bound))

widened-twice : (s t u : Scope) → Widened s t → Widened t u → Widened s u
widened-twice s t u (more, (b, e)) (further, (c, h)) =
    (more ++ further, (c, h ∙ ap (λ (z : Scope). wider z further c) e ∙ ap (λ es. record s { inner = es; bound = c }) (append_assoc s.inner more further)))

widened-not : (s : Scope) → Widened s s
widened-not s = ([], (s.bound, ap (λ es. record s { inner = es }) (sym (append-nil s.inner))))

cut-wider : (s t : Scope) → Widened s t → cut_scope (length s.inner) s.bound t ≡ s
cut-wider s t (more, (b, e)) =
    ap (λ (z : Scope). cut_scope (length s.inner) s.bound z) e ∙ ap (λ es. record s { inner = es }) (take-append_seam s.inner more)

-- Locals: no bound variables

abbrev Longer : Scope → Scope → Type 0
Longer s t = (more : List Entry) × (t ≡ record s { inner = s.inner ++ more })

longer-twice : (s t u : Scope) → Longer s t → Longer t u → Longer s u
longer-twice s t u (more, e) (further, h) =
    (more ++ further, h ∙ ap (λ (z : Scope). record z { inner = z.inner ++ further }) e ∙ ap (λ es. record s { inner = es }) (append_assoc s.inner more further))

longer-not : (s : Scope) → Longer s s
longer-not s = ([], ap (λ es. record s { inner = es }) (sym (append-nil s.inner)))

longer-variable : (name : Name) (type : Option AnyType) (d : Declared) → Longer d.scope (declare_variable false name type d).scope
longer-variable name None d = (_, refl)
longer-variable name (Some type) d = (_, refl)

longer-names : (names : List Named) (type : Option AnyType) (d : Declared) → Longer d.scope (declare_variables false names type d).scope
longer-names [] type d = longer-not d.scope
longer-names (n ∷ ns) type d =
    let e = declare_variable false n.name type d in
    longer-twice d.scope e.scope (declare_variables false ns type e).scope (longer-variable n.name type d) (longer-names ns type e)

longer-declared : (one : Decl) (d : Declared) → Longer d.scope (declared false one d).scope
longer-declared (decl.Constant name body) d = (_, refl)
longer-declared (decl.TypeName name body) d = (_, refl)
longer-declared (decl.Variables names body) d =
    let f = type_found d.scope d.known Unnamed body in
    longer-names names f.type (record d { known = f.known; faults = d.faults ++ f.faults })
longer-declared (decl.Routine' name formals result shape locals body) d = longer-not d.scope

longer-all : (all : List Decl) (d : Declared) → Longer d.scope (all_declared false all d).scope
longer-all [] d = longer-not d.scope
longer-all (one ∷ rest) d =
    let e = declared false one d in
    longer-twice d.scope e.scope (all_declared false rest e).scope (longer-declared one d) (longer-all rest e)

cut-longer : (s t : Scope) → Longer s t → shortened (length s.inner) t ≡ s
cut-longer s t (more, e) =
    ap (λ (z : Scope). shortened (length s.inner) z) e ∙ ap (λ es. record s { inner = es }) (take-append_seam s.inner more)

-- without the locals, the scope is what it was
pub locals-end : (all : List Decl) (d : Declared) → shortened (length d.scope.inner) (all_declared false all d).scope ≡ d.scope
locals-end all d = cut-longer d.scope (all_declared false all d).scope (longer-all all d)

-- Binds

widened-bind : (bs : List Bind) (b : FoundBinds) → Widened b.around.scope (binds_found bs b).around.scope
widened-bind [] b = widened-not b.around.scope
widened-bind (one ∷ rest) b =
    let f = simple_wanted (type_place_of one.over) (type_found b.around.scope b.known Unnamed one.over) in
    let e = bind_made one b f in
    widened-twice b.around.scope e.around.scope (binds_found rest e).around.scope (_, (_, refl)) (widened-bind rest e)

-- without the binds, the scope is what it was
pub binds-end : (bs : List Bind) (b : FoundBinds) → cut_scope (length b.around.scope.inner) b.around.scope.bound (binds_found bs b).around.scope ≡ b.around.scope
binds-end bs b = cut-wider b.around.scope (binds_found bs b).around.scope (widened-bind bs b)

abbrev Added : List Parameter → List Parameter → Type 0
Added ps qs = (more : List Parameter) × (qs ≡ ps ++ more)

added-one : (name : Name) (over : Option Simple) (ps : List Parameter) → Added ps (with_parameter name over ps)
added-one name None ps = ([], sym (append-nil ps))
added-one name (Some over) ps = (_, refl)

added-twice : (ps qs rs : List Parameter) → Added ps qs → Added qs rs → Added ps rs
added-twice ps qs rs (more, e) (further, h) =
    (more ++ further, h ∙ ap (λ xs. xs ++ further) e ∙ append_assoc ps more further)

added-binds : (bs : List Bind) (b : FoundBinds) → Added b.around.params (binds_found bs b).around.params
added-binds [] b = ([], sym (append-nil b.around.params))
added-binds (one ∷ rest) b =
    let f = simple_wanted (type_place_of one.over) (type_found b.around.scope b.known Unnamed one.over) in
    let e = bind_made one b f in
    added-twice b.around.params e.around.params (binds_found rest e).around.params
    (added-one one.name.name (simple_part f.type) b.around.params) (added-binds rest e)

-- and so are the parameters
pub params-end : (bs : List Bind) (b : FoundBinds) → take (length b.around.params) (binds_found bs b).around.params ≡ b.around.params
params-end bs b = go (added-binds bs b)
  where
    go : Added b.around.params (binds_found bs b).around.params → take (length b.around.params) (binds_found bs b).around.params ≡ b.around.params
    go (more, e) = ap (take (length b.around.params)) e ∙ take-append_seam b.around.params more
