-- What is found of items without faults fits.
use Rattle.std.proofs.Common.{◌≡◌, ◌+◌, true, false, ◌&&◌, List, [], ◌∷◌, ◌++◌, map, Option, None, Some, refl, sym, ap, subst, ◌∙◌}
use Rattle.std.specs.List.{list_all, flat_map}
use Rattle.std.proofs.lemmas.Bool.{and_parts, and_from}
use Rattle.murphi_ast.specs.declared.token.Span.{Span}
use Rattle.murphi_ast.specs.declared.expr.Bind.{Bind}
use Rattle.murphi_ast.specs.declared.expr.Expr.{Expr}
use Rattle.murphi_ast.specs.declared.stmt.Stmt.{Stmt}
use Rattle.murphi_ast.specs.declared.decl.Decl.{Decl}
use Rattle.murphi_ast.specs.declared.rule.RuleDecl as r
use Rattle.murphi_ast.specs.declared.rule.RuleDecl.{RuleDecl, Row_of-RuleDecl, end_of-RuleDecl, more_of-RuleDecl}
use Rattle.murphi_typed.specs.Families.{Name}
use Rattle.murphi_typed.specs.declared.types.Simple.{Simple}
use Rattle.murphi_typed.specs.declared.types.Simple.TheVariants as simple
use Rattle.murphi_typed.specs.declared.expr.Root.TheVariants as root
use Rattle.murphi_typed.specs.declared.protocol.Parameter.{Parameter}
use Rattle.murphi_typed.specs.declared.protocol.Variable.{Variable}
use Rattle.murphi_typed.specs.declared.protocol.Typed.{Typed}
use Rattle.murphi_typed.specs.WellTyped.{is_simple_type, are_parameter_types, top_scope, guard_fits, is_of, type_of, rule_fits, start_fits, formula_fits}
use Rattle.murphi_typed.specs.WellTyped as well
use Rattle.murphi_types.specs.declared.scope.Meaning.{Meaning}
use Rattle.murphi_types.specs.declared.scope.Meaning.TheVariants as meaning
use Rattle.murphi_types.specs.declared.scope.Entry.{Entry}
use Rattle.murphi_types.specs.declared.scope.Known.{Known}
use Rattle.murphi_types.specs.declared.scope.Scope.{Scope}
use Rattle.murphi_types.specs.Places.{place_of, type_place_of}
use Rattle.murphi_types.specs.Scopes.{binding}
use Rattle.murphi_types.specs.Fitting.{is_truth, simple_part}
use Rattle.murphi_types.specs.Found.{Found, wanted}
use Rattle.murphi_types.specs.Types.{Unnamed, simple_wanted}
use Rattle.murphi_types.specs.Typing.{found, type_found}
use Rattle.murphi_types.specs.Repeats.{field_repeats, type_repeats}
use Rattle.murphi_types.specs.Written.{an_option, in_simple, in_body, in_binds, in_item, in_items, record_repeats}
use Rattle.murphi_types.specs.Statements.{AtEnd, body_found}
use Rattle.murphi_types.specs.Declarations.{Declared, all_declared}
use Rattle.murphi_types.specs.Items.{Around, FoundBinds, with_parameter, bind_made, binds_found, ruleset_found, parameter_faults, FoundItems, FoundGuard, guard_found, FoundBody, item_body, body_faults, body_limits, invariant_limits, rule_made, start_made, invariant_made, instances, entered, item_found, row_found, items_found}
use Rattle.typing_sound.specs.Spelled.{optional_spelled, simple_spelled, stmt_spelled, bind_spelled, item_spelled, items_spelled}
use Rattle.typing_sound.proofs.Grown.{Held, Grown, still, next, found-grown, type-grown}
use Rattle.typing_sound.proofs.GrownStatements.{locals-grown, body-grown}
use Rattle.typing_sound.proofs.Fits.{each-map, MeaningFits, NamesFit, Fits, moved, bound-fits}
use Rattle.typing_sound.proofs.Tests.{nil-parts}
use Rattle.typing_sound.proofs.Parts.{IsValue, wanted-value, is-of}
use Rattle.typing_sound.proofs.TypeSteps.{simple-step}
use Rattle.typing_sound.proofs.Expressions.{before, truth-only, found-fits, type-fits}
use Rattle.typing_sound.proofs.StatementSteps.{AreStmts}
use Rattle.typing_sound.proofs.StatementEquations.{fits-Block}
use Rattle.typing_sound.proofs.Statements.{repeat-parts, body-fits}
use Rattle.typing_sound.proofs.Locals.{locals-fit}
use Rattle.typing_sound.proofs.Routines.{all-last}

-- Rulesets

-- the scope of a formula in rulesets whose parameters are of these types, or of a body with these locals there
abbrev pub inside : Typed → List Variable → List Simple → well.Scope
inside T locals bound =
    record { kinds = T.kinds; globals = T.globals; routines = T.routines; formals = []; locals = locals; bound = bound; exit = well.AtEnd }

abbrev pub types_of : List Parameter → List Simple
types_of params = map (λ (p : Parameter). p.over) params

pub record IsAround (T : Typed) (around : Around) (k : Known) : Type 0 where
  pub fits : Fits (inside T [] (types_of around.params)) around.scope k
  pub params : are_parameter_types T.kinds around.params ≡ true

pub around-moved : (T : Typed) (around : Around) (k l : Known) → IsAround T around k → Grown k l → NamesFit (inside T [] []) l → IsAround T around l
around-moved T around k l h g names = record { fits = moved h.fits g names; params = h.params }

types-last : (params : List Parameter) (p : Parameter) → types_of (params ++ p ∷ []) ≡ types_of params ++ p.over ∷ []
types-last [] p = refl
types-last (q ∷ qs) p = ap (λ l. q.over ∷ l) (types-last qs p)

bind-fits : (T : Typed) (one : Bind) (b : FoundBinds) → IsAround T b.around b.known → bind_spelled one ≡ true → type_repeats one.over ≡ [] → Held (type_found b.around.scope b.known Unnamed one.over).known.kinds T.kinds
    → (bind_made one b (simple_wanted (type_place_of one.over) (type_found b.around.scope b.known Unnamed one.over))).faults ≡ []
    → IsAround T (bind_made one b (simple_wanted (type_place_of one.over) (type_found b.around.scope b.known Unnamed one.over))).around (type_found b.around.scope b.known Unnamed one.over).known
bind-fits T one b h spelled once held none =
    let W = inside T [] (types_of b.around.params) in
    let F = type_found b.around.scope b.known Unnamed one.over in
    let S = simple_wanted (type_place_of one.over) F in
    let clear = (nil-parts b.faults S.faults none).1 in
    let u = simple-step W (type_place_of one.over) F (λ clear. type-fits W b.around.scope b.known Unnamed one.over h.fits spelled once held clear) clear in
    let is : simple_part S.type ≡ Some u.of = ap simple_part u.is in
    let p : Parameter = record { name = one.name.name; over = u.of } in
    let inner = bound-fits one.name.name u.of (moved h.fits (type-grown b.around.scope b.known Unnamed one.over) u.names) u.fine in
    record {
      fits = subst (λ o. Fits (inside T [] (types_of (with_parameter one.name.name o b.around.params))) (binding b.around.scope one.name.name o) F.known) (sym is)
          (subst (λ bs. Fits (inside T [] bs) (binding b.around.scope one.name.name (Some u.of)) F.known) (sym (types-last b.around.params p)) inner);
      params = subst (λ o. are_parameter_types T.kinds (with_parameter one.name.name o b.around.params) ≡ true) (sym is) (all-last (λ (q : Parameter). is_simple_type T.kinds q.over) b.around.params p h.params u.fine);
    }

pub binds-grown : (binds : List Bind) (b : FoundBinds) → Grown b.known (binds_found binds b).known
binds-grown [] b = still b.known
binds-grown (one ∷ rest) b =
    next (type-grown b.around.scope b.known Unnamed one.over)
    (binds-grown rest (bind_made one b (simple_wanted (type_place_of one.over) (type_found b.around.scope b.known Unnamed one.over))))

pub binds-clear : (binds : List Bind) (b : FoundBinds) → (binds_found binds b).faults ≡ [] → b.faults ≡ []
binds-clear [] b none = none
binds-clear (one ∷ rest) b none =
    let S = simple_wanted (type_place_of one.over) (type_found b.around.scope b.known Unnamed one.over) in
    (nil-parts b.faults S.faults (binds-clear rest (bind_made one b S) none)).0

pub binds-fit : (T : Typed) (binds : List Bind) (b : FoundBinds) → IsAround T b.around b.known → list_all bind_spelled binds ≡ true → record_repeats (in_binds binds) ≡ [] → Held (binds_found binds b).known.kinds T.kinds → (binds_found binds b).faults ≡ [] → IsAround T (binds_found binds b).around (binds_found binds b).known
binds-fit T [] b h spelled once held none = h
binds-fit T (one ∷ rest) b h spelled once held none =
    let e = bind_made one b (simple_wanted (type_place_of one.over) (type_found b.around.scope b.known Unnamed one.over)) in
    let (first, more) = and_parts (bind_spelled one) (list_all bind_spelled rest) spelled in
    let (first_once, rest_once) = nil-parts (type_repeats one.over) (record_repeats (in_binds rest)) once in
    let r = bind-fits T one b h first first_once (before (inside T [] []) (binds-grown rest e) held) (binds-clear rest e none) in
    binds-fit T rest e r more rest_once held none

-- Bodies

-- locals are not among what rulesets declare
more-locals : (T : Typed) (locals : List Variable) (bound : List Simple) (m : Meaning) → MeaningFits (inside T [] bound) m → MeaningFits (inside T locals bound) m
more-locals T locals bound meaning.Refused h = absurd h
more-locals T locals bound (meaning.Constant n) h = h
more-locals T locals bound (meaning.TypeName type) h = h
more-locals T locals bound (meaning.Variable (root.Global j) of) h = h
more-locals T locals bound (meaning.Variable (root.Local j) of) h = let there = h.0 in cc
more-locals T locals bound (meaning.Variable (root.Formal j) of) h = h
more-locals T locals bound (meaning.Variable (root.Place j) of) h = h
more-locals T locals bound (meaning.Bound number over) h = h
more-locals T locals bound (meaning.Member number index count) h = h
more-locals T locals bound (meaning.Routine number) h = h

with-locals : (T : Typed) (locals : List Variable) (bound : List Simple) (s : Scope) (k : Known) → Fits (inside T [] bound) s k → Fits (inside T locals bound) s k
with-locals T locals bound s k h =
    record {
      inner = each-map (λ (e : Entry). MeaningFits (inside T [] bound) e.what) (λ (e : Entry). MeaningFits (inside T locals bound) e.what) (λ e u. more-locals T locals bound e.what u) s.inner h.inner;
      names = h.names;
      routines = h.routines;
      function = h.function;
      bound = h.bound;
      formals = h.formals;
    }

pub record IsGuard (W : well.Scope) (g : FoundGuard) : Type 0 where
  pub fit : guard_fits W g.guard ≡ true
  pub names : NamesFit W g.known

guard-grown : (s : Scope) (k : Known) (guard : Option Expr) → Grown k (guard_found s k guard).known
guard-grown s k None = still k
guard-grown s k (Some test) = found-grown s k test

guard-step : (W : well.Scope) (s : Scope) (k : Known) (guard : Option Expr) → Fits W s k → optional_spelled guard ≡ true → record_repeats (an_option guard) ≡ [] → Held (guard_found s k guard).known.kinds W.kinds → (guard_found s k guard).faults ≡ [] → IsGuard W (guard_found s k guard)
guard-step W s k None h spelled once held none = record { fit = refl; names = h.names }
guard-step W s k (Some test) h spelled once held none =
    let once = (nil-parts (field_repeats test) [] once).0 in
    let u = wanted-value W test is_truth (place_of test) (found s k test) truth-only (λ clear. found-fits W s k test h spelled once held clear) none in
    record { fit = is-of W simple.Truth (wanted is_truth (place_of test) (found s k test)) u; names = u.names }

abbrev start_of : Scope → FoundGuard → Declared
start_of s g = record { scope = s; known = g.known; locals = []; faults = []; limits = [] }

pub record IsBody (T : Typed) (params : List Parameter) (b : FoundBody) : Type 0 where
  pub guard : guard_fits (top_scope T b.locals.locals params) b.guard.guard ≡ true
  pub variables : well.are_variables T.kinds b.locals.locals ≡ true
  pub body : AreStmts (top_scope T b.locals.locals params) b.body

item-body-grown : (s : Scope) (k : Known) (guard : Option Expr) (locals : List Decl) (body : List Stmt) → Grown k (item_body s k guard locals body).body.known
item-body-grown s k guard locals body =
    let g = guard_found s k guard in
    let d = all_declared false locals (start_of s g) in
    next (guard-grown s k guard) (next (locals-grown locals (start_of s g)) (body-grown AtEnd d.scope d.known body))

item-body-fits : (T : Typed) (around : Around) (k : Known) (guard : Option Expr) (locals : List Decl) (body : List Stmt) → IsAround T around k → optional_spelled guard ≡ true → list_all simple_spelled locals ≡ true → list_all stmt_spelled body ≡ true
    → record_repeats (an_option guard) ≡ [] → record_repeats (flat_map in_simple locals ++ in_body body) ≡ [] → Held (item_body around.scope k guard locals body).body.known.kinds T.kinds → body_faults (item_body around.scope k guard locals body) ≡ []
    → IsBody T around.params (item_body around.scope k guard locals body)
item-body-fits T around k guard locals body h s1 s2 s3 guard_once once held none =
    let s = around.scope in
    let g = guard_found s k guard in
    let d = all_declared false locals (start_of s g) in
    let b = body_found AtEnd d.scope d.known body in
    let W = inside T d.locals (types_of around.params) in
    let (locals_once, body_once) = repeat-parts (flat_map in_simple locals) (in_body body) once in
    let (guard_clear, more) = nil-parts g.faults (d.faults ++ b.faults) none in
    let (d_clear, b_clear) = nil-parts d.faults b.faults more in
    let d_held = before W (body-grown AtEnd d.scope d.known body) held in
    let g_held = before W (locals-grown locals (start_of s g)) d_held in
    let first = with-locals T d.locals (types_of around.params) s k h.fits in
    let ug = guard-step W s k guard first s1 guard_once g_held guard_clear in
    let ul = locals-fit W locals (start_of s g) (record { fits = moved first (guard-grown s k guard) ug.names; variables = refl }) s2 locals_once d_held (λ i x e. e) d_clear in
    let ub = body-fits W AtEnd d.scope d.known body ul.fits tt s3 body_once held b_clear in
    record { guard = ug.fit; variables = ul.variables; body = ub }

-- Items

pub record AreItems (T : Typed) (items : FoundItems) : Type 0 where
  pub names : NamesFit (inside T [] []) items.known
  pub starts : list_all (start_fits T) items.starts ≡ true
  pub rules : list_all (rule_fits T) items.rules ≡ true
  pub invariants : list_all (formula_fits T) items.invariants ≡ true

mutual
  unfolding item_found

  pub item-grown : (around : Around) (one : RuleDecl) (items : FoundItems) → Grown items.known (item_found around one items).known
  item-grown around (r.Rule title guard locals body at) items = item-body-grown around.scope items.known guard locals body
  item-grown around (r.Start title locals body at) items = item-body-grown around.scope items.known None locals body
  item-grown around (r.Invariant title body at) items = found-grown around.scope items.known body
  item-grown around (r.Group' binds shape inner at) items =
      let b = ruleset_found around items.known binds in
      next (binds-grown binds (record { around = around; known = items.known; faults = [] })) (row-grown b.around inner (entered items b))

  pub row-grown : {n : _} (around : Around) (row : Row_of-RuleDecl n) (items : FoundItems) → Grown items.known (row_found around row items).known
  row-grown around end_of-RuleDecl items = still items.known
  row-grown around (more_of-RuleDecl one rest) items = next (item-grown around one items) (row-grown around rest (item_found around one items))

pub items-grown : (around : Around) (all : List RuleDecl) (items : FoundItems) → Grown items.known (items_found around all items).known
items-grown around [] items = still items.known
items-grown around (one ∷ rest) items = next (item-grown around one items) (items-grown around rest (item_found around one items))

mutual
  unfolding item_found

  pub item-clear : (around : Around) (one : RuleDecl) (items : FoundItems) → (item_found around one items).faults ≡ [] → items.faults ≡ []
  item-clear around (r.Rule title guard locals body at) items none = (nil-parts items.faults _ none).0
  item-clear around (r.Start title locals body at) items none = (nil-parts items.faults _ none).0
  item-clear around (r.Invariant title body at) items none = (nil-parts items.faults _ none).0
  item-clear around (r.Group' binds shape inner at) items none =
      let b = ruleset_found around items.known binds in
      (nil-parts items.faults b.faults (row-clear b.around inner (entered items b) none)).0

  pub row-clear : {n : _} (around : Around) (row : Row_of-RuleDecl n) (items : FoundItems) → (row_found around row items).faults ≡ [] → items.faults ≡ []
  row-clear around end_of-RuleDecl items none = none
  row-clear around (more_of-RuleDecl one rest) items none = item-clear around one items (row-clear around rest (item_found around one items) none)

pub items-clear : (around : Around) (all : List RuleDecl) (items : FoundItems) → (items_found around all items).faults ≡ [] → items.faults ≡ []
items-clear around [] items none = none
items-clear around (one ∷ rest) items none = item-clear around one items (items-clear around rest (item_found around one items) none)

rule-step : (T : Typed) (around : Around) (title : Option Name) (one : RuleDecl) (at : Span) (items : FoundItems) (b : FoundBody) → are_parameter_types T.kinds around.params ≡ true → AreItems T items → IsBody T around.params b → AreItems T (rule_made around title one at items b)
rule-step T around title one at items b params h u =
    record {
      names = u.body.names;
      starts = h.starts;
      rules = all-last (rule_fits T) items.rules _ h.rules
          (and_from _ _ params (and_from _ _ u.variables (and_from _ _ u.guard (fits-Block (top_scope T b.locals.locals around.params) b.body.trees ∙ u.body.fit))));
      invariants = h.invariants;
    }

start-step : (T : Typed) (around : Around) (title : Option Name) (one : RuleDecl) (at : Span) (items : FoundItems) (b : FoundBody) → are_parameter_types T.kinds around.params ≡ true → AreItems T items → IsBody T around.params b → AreItems T (start_made around title one at items b)
start-step T around title one at items b params h u =
    record {
      names = u.body.names;
      starts = all-last (start_fits T) items.starts _ h.starts
          (and_from _ _ params (and_from _ _ u.variables (fits-Block (top_scope T b.locals.locals around.params) b.body.trees ∙ u.body.fit)));
      rules = h.rules;
      invariants = h.invariants;
    }

invariant-step : (T : Typed) (around : Around) (title : Option Name) (written : Expr) (at : Span) (items : FoundItems) (f : Found) → are_parameter_types T.kinds around.params ≡ true → AreItems T items → IsValue (inside T [] (types_of around.params)) is_truth f → AreItems T (invariant_made around title written at items f)
invariant-step T around title written at items f params h u =
    record {
      names = u.names;
      starts = h.starts;
      rules = h.rules;
      invariants = all-last (formula_fits T) items.invariants _ h.invariants (and_from _ _ params (is-of (inside T [] (types_of around.params)) simple.Truth f u));
    }

mutual
  unfolding item_found item_spelled in_item

  pub item-fits : (T : Typed) (around : Around) (one : RuleDecl) (items : FoundItems) → IsAround T around items.known → AreItems T items → item_spelled one ≡ true → record_repeats (in_item one) ≡ [] → Held (item_found around one items).known.kinds T.kinds → (item_found around one items).faults ≡ [] → AreItems T (item_found around one items)
  item-fits T around (r.Rule title guard locals body at) items h all spelled once held none =
      let b = item_body around.scope items.known guard locals body in
      let (s1, more) = and_parts (optional_spelled guard) (list_all simple_spelled locals && list_all stmt_spelled body) spelled in
      let (s2, s3) = and_parts (list_all simple_spelled locals) (list_all stmt_spelled body) more in
      let (guard_once, rest_once) = repeat-parts (an_option guard) (flat_map in_simple locals ++ in_body body) once in
      let own = (nil-parts items.faults (parameter_faults around ++ (body_faults b ++ body_limits at (items.rule_instances + instances around.params) b)) none).1 in
      let rest = (nil-parts (parameter_faults around) (body_faults b ++ body_limits at (items.rule_instances + instances around.params) b) own).1 in
      let clear = (nil-parts (body_faults b) (body_limits at (items.rule_instances + instances around.params) b) rest).0 in
      rule-step T around title (r.Rule title guard locals body at) at items b h.params all (item-body-fits T around items.known guard locals body h s1 s2 s3 guard_once rest_once held clear)
  item-fits T around (r.Start title locals body at) items h all spelled once held none =
      let b = item_body around.scope items.known None locals body in
      let (s2, s3) = and_parts (list_all simple_spelled locals) (list_all stmt_spelled body) spelled in
      let own = (nil-parts items.faults (parameter_faults around ++ (body_faults b ++ body_limits at (items.start_instances + instances around.params) b)) none).1 in
      let rest = (nil-parts (parameter_faults around) (body_faults b ++ body_limits at (items.start_instances + instances around.params) b) own).1 in
      let clear = (nil-parts (body_faults b) (body_limits at (items.start_instances + instances around.params) b) rest).0 in
      start-step T around title (r.Start title locals body at) at items b h.params all (item-body-fits T around items.known None locals body h refl s2 s3 refl once held clear)
  item-fits T around (r.Invariant title body at) items h all spelled once held none =
      let W = inside T [] (types_of around.params) in
      let F = wanted is_truth (place_of body) (found around.scope items.known body) in
      let once = (nil-parts (field_repeats body) [] once).0 in
      let own = (nil-parts items.faults (F.faults ++ invariant_limits at (items.invariant_instances + instances around.params) F) none).1 in
      let clear = (nil-parts F.faults (invariant_limits at (items.invariant_instances + instances around.params) F) own).0 in
      invariant-step T around title body at items F h.params all
      (wanted-value W body is_truth (place_of body) (found around.scope items.known body) truth-only (λ clear. found-fits W around.scope items.known body h.fits spelled once held clear) clear)
  item-fits T around (r.Group' binds shape inner at) items h all spelled once held none =
      let start : FoundBinds = record { around = around; known = items.known; faults = [] } in
      let b = ruleset_found around items.known binds in
      let (s1, s2) = and_parts (list_all bind_spelled binds) (items_spelled inner) spelled in
      let (binds_once, inner_once) = repeat-parts (in_binds binds) (in_items inner) once in
      let entered_clear = row-clear b.around inner (entered items b) none in
      let (items_clear, b_clear) = nil-parts items.faults b.faults entered_clear in
      let b_held = before (inside T [] []) (row-grown b.around inner (entered items b)) held in
      let u = binds-fit T binds start h s1 binds_once b_held b_clear in
      row-fits T b.around inner (entered items b) (record { fits = u.fits; params = u.params }) (record { names = u.fits.names; starts = all.starts; rules = all.rules; invariants = all.invariants }) s2 inner_once held none

  pub row-fits : {n : _} (T : Typed) (around : Around) (row : Row_of-RuleDecl n) (items : FoundItems) → IsAround T around items.known → AreItems T items → items_spelled row ≡ true → record_repeats (in_items row) ≡ [] → Held (row_found around row items).known.kinds T.kinds → (row_found around row items).faults ≡ [] → AreItems T (row_found around row items)
  row-fits T around end_of-RuleDecl items h all spelled once held none = all
  row-fits T around (more_of-RuleDecl one rest) items h all spelled once held none =
      let e = item_found around one items in
      let (s1, s2) = and_parts (item_spelled one) (items_spelled rest) spelled in
      let (first_once, rest_once) = repeat-parts (in_item one) (in_items rest) once in
      let u = item-fits T around one items h all s1 first_once (before (inside T [] []) (row-grown around rest e) held) (row-clear around rest e none) in
      row-fits T around rest e (around-moved T around items.known e.known h (item-grown around one items) u.names) u s2 rest_once held none

pub items-fit : (T : Typed) (around : Around) (all : List RuleDecl) (items : FoundItems) → IsAround T around items.known → AreItems T items → list_all item_spelled all ≡ true → record_repeats (flat_map in_item all) ≡ [] → Held (items_found around all items).known.kinds T.kinds → (items_found around all items).faults ≡ [] → AreItems T (items_found around all items)
items-fit T around [] items h so_far spelled once held none = so_far
items-fit T around (one ∷ rest) items h so_far spelled once held none =
    let e = item_found around one items in
    let (s1, s2) = and_parts (item_spelled one) (list_all item_spelled rest) spelled in
    let (first_once, rest_once) = repeat-parts (in_item one) (flat_map in_item rest) once in
    let u = item-fits T around one items h so_far s1 first_once (before (inside T [] []) (items-grown around rest e) held) (items-clear around rest e none) in
    items-fit T around rest e (around-moved T around items.known e.known h (item-grown around one items) u.names) u s2 rest_once held none
