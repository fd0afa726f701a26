-- Items: rules, start states and invariants, in the rulesets around them, in text order. What a rule or start state
-- declares is seen in it alone, but for the names of enums.
use Rattle.std.specs.Prelude.{ℕ, ◌+◌, ◌*◌, nat_le, nat_lt, Bool, false, List, [], ◌∷◌, ◌++◌, filter, Option, None, Some, is_some, if◌then◌else◌}
use Rattle.std.specs.Option.{option_map_or}
use Rattle.std.specs.Str.{bytes_eq}
use Rattle.murphi_ast.specs.declared.token.Span.{Span}
use Rattle.murphi_ast.specs.declared.text.Text.{Text}
use Rattle.murphi_ast.specs.declared.expr.Expr.{Expr}
use Rattle.murphi_ast.specs.declared.expr.Bind.{Bind}
use Rattle.murphi_ast.specs.declared.stmt.Stmt.{Stmt}
use Rattle.murphi_ast.specs.declared.decl.Decl.{Decl}
use Rattle.murphi_ast.specs.declared.rule.RuleDecl as r
use Rattle.murphi_ast.specs.declared.rule.RuleDecl.{RuleDecl, Row_of-RuleDecl, end_of-RuleDecl, more_of-RuleDecl}
use Rattle.murphi_ast.specs.Title.{is_of, RuleKind, StartKind, InvariantKind, title_after}
use Rattle.murphi_typed.specs.Families.{Name}
use Rattle.murphi_typed.specs.declared.types.Simple.{Simple}
use Rattle.murphi_typed.specs.declared.stmt.Stmt as s
use Rattle.murphi_typed.specs.declared.protocol.Parameter.{Parameter}
use Rattle.murphi_typed.specs.declared.protocol.Guard.{Guard}
use Rattle.murphi_typed.specs.declared.protocol.Rule.{Rule}
use Rattle.murphi_typed.specs.declared.protocol.Start.{Start}
use Rattle.murphi_typed.specs.declared.protocol.TypedFormula.{TypedFormula}
use Rattle.murphi_typed.specs.Prefix.{node_parameters, formula_prefix, rule_prefix}
use Rattle.murphi_types.specs.declared.fault.Quantity.TheVariants as quantity
use Rattle.murphi_types.specs.declared.fault.Cause.TheVariants as cause
use Rattle.murphi_types.specs.declared.fault.Fault.{Fault}
use Rattle.murphi_types.specs.declared.scope.Known.{Known}
use Rattle.murphi_types.specs.declared.scope.Scope.{Scope}
use Rattle.murphi_types.specs.Faults.{lone, unless, is_clear}
use Rattle.murphi_types.specs.Places.{place_of, type_place_of}
use Rattle.murphi_types.specs.Scopes.{binding}
use Rattle.murphi_types.specs.Fitting.{is_truth, simple_part}
use Rattle.murphi_types.specs.Uses.{uses_of}
use Rattle.murphi_types.specs.Weights.{turns, stopped, weight_faults}
use Rattle.murphi_types.specs.Found.{Found, wanted}
use Rattle.murphi_types.specs.Types.{FoundType, Unnamed, simple_wanted}
use Rattle.murphi_types.specs.Typing.{found, type_found}
use Rattle.murphi_types.specs.Declarations.{Declared, all_declared}
use Rattle.murphi_types.specs.Statements.{AtEnd, FoundStmts, body_found}

-- Rulesets

-- the rulesets around an item: the scope inside, the parameters from the outermost, and the first name of the list
-- that passes the limit of node parameters; and the name of the constant that is the size of the node type, as long
-- as no parameter hides it
pub record Around : Type 0 where
  pub scope : Scope
  pub params : List Parameter
  pub past : Option Span
  pub size : Option Name

abbrev pub most_parameters : ℕ
most_parameters = 3

pub record FoundBinds : Type 0 where
  pub around : Around
  pub known : Known
  pub faults : List Fault

abbrev pub with_parameter : Name → Option Simple → List Parameter → List Parameter
with_parameter name (Some over) params = params ++ record { name = name; over = over } ∷ []
with_parameter name None params = params

-- a parameter hides a name of the text
abbrev pub seen_past : Name → Option Name → Option Name
seen_past bound (Some name) = if bytes_eq bound name then None else Some name
seen_past bound None = None

abbrev pub bind_made : Bind → FoundBinds → FoundType → FoundBinds
bind_made one b f =
    record {
      around = record b.around {
        scope = binding b.around.scope one.name.name (simple_part f.type);
        params = with_parameter one.name.name (simple_part f.type) b.around.params;
        size = seen_past one.name.name b.around.size;
      };
      known = f.known;
      faults = b.faults ++ f.faults;
    }

-- each bound name is seen from the end of its bind on, also in the binds after it
abbrev pub binds_found : List Bind → FoundBinds → FoundBinds
binds_found [] b = b
binds_found (one ∷ rest) b =
    binds_found rest (bind_made one b
    (simple_wanted (type_place_of one.over) (type_found b.around.scope b.known Unnamed one.over)))

abbrev pub first_name : List Bind → Option Span
first_name [] = None
first_name (b ∷ bs) = Some b.name.at

-- the first list that passes the limit stays the one that is named
abbrev pub past_of : Option Span → List Bind → List Parameter → Option Span
past_of (Some at) binds params = Some at
past_of None binds params = if nat_lt most_parameters (node_parameters params) then first_name binds else None

abbrev pub with_past : List Bind → FoundBinds → FoundBinds
with_past binds b =
    record b { around = record b.around { past = past_of b.around.past binds b.around.params } }

abbrev pub ruleset_found : Around → Known → List Bind → FoundBinds
ruleset_found around k binds = with_past binds (binds_found binds (record { around = around; known = k; faults = [] }))

-- Limits

-- a rule or start state has at most three node parameters: E16 at the first bound name of the list that passes them
abbrev pub parameter_faults : Around → List Fault
parameter_faults around =
    option_map_or (λ at. lone (cause.E16 quantity.Parameters (node_parameters around.params) most_parameters) at)
    around.past []

-- the instances of an item: one for each choice of the parameters that are not nodes
abbrev pub instances : List Parameter → ℕ
instances [] = 1
instances (p ∷ ps) = turns p.over * instances ps

abbrev pub most_instances : ℕ
most_instances = 1000

-- all items of a kind up to this one: E16 at its first word where they have too many instances
abbrev pub instance_faults : Span → ℕ → List Fault
instance_faults at count =
    unless (nat_le count most_instances) (cause.E16 quantity.Instances (stopped count) most_instances) at

-- an ill-typed item has no instances, weight or leaves
abbrev pub limits_of : Bool → List Fault → List Fault
limits_of typed faults = if typed then faults else []

-- What is found of all items

-- the items so far, as they are written and as they are typed, and how many instances those of each kind have
pub record FoundItems : Type 0 where
  pub known : Known
  pub written : List RuleDecl
  pub rules : List Rule
  pub starts : List Start
  pub invariants : List TypedFormula
  pub rule_instances : ℕ
  pub start_instances : ℕ
  pub invariant_instances : ℕ
  pub faults : List Fault

-- Rules

pub record FoundGuard : Type 0 where
  pub guard : Option Guard
  pub weight : ℕ
  pub known : Known
  pub faults : List Fault

-- a guard is a truth value; a missing one counts for nothing
abbrev pub guard_made : Span → Found → FoundGuard
guard_made at f =
    record {
      guard = Some (record { test = f.tree; at = at });
      weight = f.weight;
      known = f.known;
      faults = f.faults;
    }

abbrev pub guard_found : Scope → Known → Option Expr → FoundGuard
guard_found s k None = record { guard = None; weight = 0; known = k; faults = [] }
guard_found s k (Some test) = guard_made (place_of test) (wanted is_truth (place_of test) (found s k test))

-- guard, locals and body, in text order
pub record FoundBody : Type 0 where
  pub guard : FoundGuard
  pub locals : Declared
  pub body : FoundStmts

abbrev pub body_after : FoundGuard → List Stmt → Declared → FoundBody
body_after g body d = record { guard = g; locals = d; body = body_found AtEnd d.scope d.known body }

abbrev pub locals_after : Scope → List Decl → List Stmt → FoundGuard → FoundBody
locals_after s locals body g =
    body_after g body
    (all_declared false locals (record { scope = s; known = g.known; locals = []; faults = []; limits = [] }))

abbrev pub item_body : Scope → Known → Option Expr → List Decl → List Stmt → FoundBody
item_body s k guard locals body = locals_after s locals body (guard_found s k guard)

abbrev pub body_faults : FoundBody → List Fault
body_faults b = b.guard.faults ++ (b.locals.faults ++ b.body.faults)

-- what an item with so many instances up to it passes: instances first, then weight, then leaves
abbrev pub body_limits : Span → ℕ → FoundBody → List Fault
body_limits at count b =
    limits_of (is_clear (body_faults b))
    (instance_faults at count ++ (weight_faults at (b.guard.weight + b.body.weight) ++ b.locals.limits))

abbrev pub rule_made : Around → Option Text → RuleDecl → Span → FoundItems → FoundBody → FoundItems
rule_made around title one at items b =
    record items {
      known = b.body.known;
      written = items.written ++ one ∷ [];
      rules = items.rules ++ record {
        title = title_after (filter (is_of RuleKind) items.written) title;
        params = around.params;
        guard = b.guard.guard;
        locals = b.locals.locals;
        body = s.Block b.body.trees;
        prefix = rule_prefix b.body.known.routines around.params b.guard.guard (s.Block b.body.trees);
      } ∷ [];
      rule_instances = items.rule_instances + instances around.params;
      faults = items.faults ++ (parameter_faults around ++ (body_faults b
          ++ body_limits at (items.rule_instances + instances around.params) b));
    }

abbrev pub start_made : Around → Option Text → RuleDecl → Span → FoundItems → FoundBody → FoundItems
start_made around title one at items b =
    record items {
      known = b.body.known;
      written = items.written ++ one ∷ [];
      starts = items.starts ++ record {
        title = title_after (filter (is_of StartKind) items.written) title;
        params = around.params;
        locals = b.locals.locals;
        body = s.Block b.body.trees;
        prefix = rule_prefix b.body.known.routines around.params None (s.Block b.body.trees);
      } ∷ [];
      start_instances = items.start_instances + instances around.params;
      faults = items.faults ++ (parameter_faults around ++ (body_faults b
          ++ body_limits at (items.start_instances + instances around.params) b));
    }

-- an invariant is a truth value; its node parameters are not limited
abbrev pub invariant_limits : Span → ℕ → Found → List Fault
invariant_limits at count f =
    limits_of (is_some f.type) (instance_faults at count ++ weight_faults at f.weight)

abbrev pub invariant_made : Around → Option Text → Expr → Span → FoundItems → Found → FoundItems
invariant_made around title written at items f =
    record items {
      known = f.known;
      written = items.written ++ r.Invariant title written at ∷ [];
      invariants = items.invariants ++ record {
        title = title_after (filter (is_of InvariantKind) items.written) title;
        params = around.params;
        body = f.tree;
        prefix = formula_prefix f.known.routines around.params f.tree;
        kinds = [];
        uses = uses_of around.size written;
      } ∷ [];
      invariant_instances = items.invariant_instances + instances around.params;
      faults = items.faults ++ (f.faults
          ++ invariant_limits at (items.invariant_instances + instances around.params) f);
    }

abbrev pub entered : FoundItems → FoundBinds → FoundItems
entered items b = record items { known = b.known; faults = items.faults ++ b.faults }

unfoldable mutual
  -- an item inside these rulesets, after the items before it
  pub item_found : Around → RuleDecl → FoundItems → FoundItems
  item_found around (r.Rule title guard locals body at) items =
      rule_made around title (r.Rule title guard locals body at) at items
      (item_body around.scope items.known guard locals body)
  item_found around (r.Start title locals body at) items =
      start_made around title (r.Start title locals body at) at items
      (item_body around.scope items.known None locals body)
  item_found around (r.Invariant title body at) items =
      invariant_made around title body at items
      (wanted is_truth (place_of body) (found around.scope items.known body))
  item_found around (r.Group' binds _ inner at) items =
      row_found (ruleset_found around items.known binds).around inner
      (entered items (ruleset_found around items.known binds))

  pub row_found : {n : _} → Around → Row_of-RuleDecl n → FoundItems → FoundItems
  row_found around end_of-RuleDecl items = items
  row_found around (more_of-RuleDecl one rest) items = row_found around rest (item_found around one items)

-- the items of a text
abbrev pub items_found : Around → List RuleDecl → FoundItems → FoundItems
items_found around [] items = items
items_found around (one ∷ rest) items = items_found around rest (item_found around one items)
