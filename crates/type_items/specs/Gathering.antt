-- What code gives of items: the items so far, and where the next one stands, with the first fault so far.
use Rattle.std.specs.Prelude.{ℕ, List, [], ◌∷◌, ◌++◌, Option, None, is_some, is_none}
use Rattle.murphi_ast.specs.declared.token.Span.{Span}
use Rattle.murphi_ast.specs.declared.text.Text.{Text}
use Rattle.murphi_ast.specs.declared.expr.Expr.{Expr}
use Rattle.murphi_ast.specs.declared.expr.Bind.{Bind}
use Rattle.murphi_ast.specs.declared.rule.RuleDecl as r
use Rattle.murphi_ast.specs.declared.rule.RuleDecl.{RuleDecl, Row_of-RuleDecl, end_of-RuleDecl, more_of-RuleDecl}
use Rattle.murphi_ast.specs.Title.{RuleKind, StartKind, InvariantKind}
use Rattle.murphi_typed.specs.Families.{Name}
use Rattle.murphi_typed.specs.declared.protocol.Routine.{Routine}
use Rattle.murphi_typed.specs.declared.expr.Expr.{Expr as Tree}
use Rattle.murphi_typed.specs.declared.protocol.Parameter.{Parameter}
use Rattle.murphi_typed.specs.declared.protocol.Guard.{Guard}
use Rattle.murphi_typed.specs.declared.stmt.Stmt.{Stmt}
use Rattle.murphi_typed.specs.declared.protocol.Rule.{Rule}
use Rattle.murphi_typed.specs.declared.protocol.Start.{Start}
use Rattle.murphi_typed.specs.declared.protocol.TypedFormula.{TypedFormula}
use Rattle.murphi_typed.specs.Prefix.{formula_prefix, rule_prefix}
use Rattle.murphi_types.specs.declared.fault.Fault.{Fault}
use Rattle.murphi_types.specs.Faults.{sooner, first_fault}
use Rattle.murphi_types.specs.Weights.{stopped}
use Rattle.murphi_types.specs.Uses.{uses_of}
use Rattle.murphi_types.specs.Items.{Around, FoundItems, instances, past_of}
use Rattle.type_items.specs.declared.judged.JudgedItems.{JudgedItems}
use Rattle.type_items.specs.declared.gathered.JudgedBody.{JudgedBody}
use Rattle.type_items.specs.declared.gathered.Inside.{Inside}
use Rattle.type_items.specs.declared.gathered.Head.{Head}
use Rattle.type_items.specs.declared.gathered.Bodied.{Bodied}
use Rattle.type_items.specs.declared.gathered.Claimed.{Claimed}
use Rattle.type_items.specs.declared.gathered.Made.{Made}
use Rattle.type_items.specs.declared.gathered.Gathered.{Gathered}
use Rattle.type_items.specs.declared.titles.Numbering.{Numbering}
use Rattle.type_items.specs.declared.rulesets.Mark.{Mark}
use Rattle.type_items.specs.Titles.{titled, numbered_on, numbering}
use Rattle.type_items.specs.Limits.{past_fault, limit_of}
use Rattle.type_items.specs.Bodies.{bodied_with, claimed_with}
use Rattle.type_items.specs.Rulesets.{list_binds, seen, mark_of, cut}

-- what the items of a text leave
abbrev pub items_part : FoundItems → JudgedItems
items_part items =
    record {
      rules = items.rules;
      starts = items.starts;
      invariants = items.invariants;
      known = items.known;
      fault = first_fault items.faults;
    }

-- what the items so far leave inside rulesets
abbrev pub gathered : Around → FoundItems → Gathered
gathered around items =
    record {
      inside = record {
        context = record { scope = around.scope; known = items.known };
        params = around.params;
        fault = first_fault items.faults;
      };
      made = record {
        rules = items.rules;
        rule_numbers = numbering RuleKind items.written items.rule_instances;
        starts = items.starts;
        start_numbers = numbering StartKind items.written items.start_instances;
        invariants = items.invariants;
        invariant_numbers = numbering InvariantKind items.written items.invariant_instances;
      };
    }

unfoldable pub with_fault : Option Fault → Inside → Inside
with_fault fault I = record { context = I.context; params = I.params; fault = sooner I.fault fault }

-- what is left where all rulesets have ended
abbrev pub items_given : Gathered → JudgedItems
items_given G =
    record {
      rules = G.made.rules;
      starts = G.made.starts;
      invariants = G.made.invariants;
      known = G.inside.context.known;
      fault = G.inside.fault;
    }

-- One item

-- how an item of a kind with these parameters is counted
abbrev pub counted : Option Text → List Parameter → Numbering → Numbering
counted title params numbers = numbered_on title (stopped (instances params)) numbers

-- the first fault of an item with a body: of its parameters, its parts, its limits
unfoldable pub body_fault : Option Span → Span → ℕ → List Parameter → JudgedBody → Option Fault
body_fault past at count params part =
    sooner (past_fault past params)
    (sooner part.fault (limit_of (is_none part.fault) at count part.weight part.limit))

-- what the tree of a rule or a start state has beside its parts
abbrev pub head_of : List Routine → List Parameter → Option Guard → Stmt → Head
head_of rs params guard body = record { params = params; prefix = rule_prefix rs params guard body }

-- the trees, where this is known
abbrev pub rule_from : Name → Head → JudgedBody → Rule
rule_from title h part =
    record {
      title = title;
      params = h.params;
      guard = part.guard;
      locals = part.locals;
      body = part.body;
      prefix = h.prefix;
    }

abbrev pub start_from : Name → Head → JudgedBody → Start
start_from title h part =
    record {
      title = title;
      params = h.params;
      locals = part.locals;
      body = part.body;
      prefix = h.prefix;
    }

-- a rule and a start state, from their parts
unfoldable pub rule_tree : List Routine → Name → List Parameter → JudgedBody → Rule
rule_tree rs title params part =
    record {
      title = title;
      params = params;
      guard = part.guard;
      locals = part.locals;
      body = part.body;
      prefix = rule_prefix rs params part.guard part.body;
    }

unfoldable pub start_tree : List Routine → Name → List Parameter → JudgedBody → Start
start_tree rs title params part =
    record {
      title = title;
      params = params;
      locals = part.locals;
      body = part.body;
      prefix = rule_prefix rs params None part.body;
    }

-- one more of them, which has so many instances
unfoldable pub rule_added : Option Text → ℕ → Rule → Made → Made
rule_added title count one M =
    record M { rules = M.rules ++ one ∷ []; rule_numbers = numbered_on title count M.rule_numbers }

unfoldable pub start_added : Option Text → ℕ → Start → Made → Made
start_added title count one M =
    record M { starts = M.starts ++ one ∷ []; start_numbers = numbered_on title count M.start_numbers }

unfoldable pub rule_done : List Routine → Option Span → Option Text → Span → Bodied → Made → Gathered
rule_done rs past title at b M =
    record {
      inside = with_fault (body_fault past at (counted title b.inside.params M.rule_numbers).instances b.inside.params
          b.part) b.inside;
      made = rule_added title (stopped (instances b.inside.params))
          (rule_tree rs (titled M.rule_numbers title) b.inside.params b.part) M;
    }

unfoldable pub start_done : List Routine → Option Span → Option Text → Span → Bodied → Made → Gathered
start_done rs past title at b M =
    record {
      inside = with_fault (body_fault past at (counted title b.inside.params M.start_numbers).instances
          b.inside.params b.part) b.inside;
      made = start_added title (stopped (instances b.inside.params))
          (start_tree rs (titled M.start_numbers title) b.inside.params b.part) M;
    }

-- the first fault of an invariant: of its parts, its limits
unfoldable pub claim_fault : Span → ℕ → Claimed → Option Fault
claim_fault at count c =
    sooner c.part.fault (limit_of (is_some c.part.of) at count c.part.weight None)

-- an invariant, from its parts
unfoldable pub invariant_tree : List Routine → Option Name → Expr → Name → List Parameter → Tree → TypedFormula
invariant_tree rs size written title params tree =
    record {
      title = title;
      params = params;
      body = tree;
      prefix = formula_prefix rs params tree;
      kinds = [];
      uses = uses_of size written;
    }

unfoldable pub invariant_added : Option Text → ℕ → TypedFormula → Made → Made
invariant_added title count one M =
    record M {
      invariants = M.invariants ++ one ∷ [];
      invariant_numbers = numbered_on title count M.invariant_numbers;
    }

unfoldable pub invariant_done : List Routine → Option Name → Option Text → Expr → Span → Claimed → Made → Gathered
invariant_done rs size title written at c M =
    record {
      inside = with_fault (claim_fault at (counted title c.inside.params M.invariant_numbers).instances c) c.inside;
      made = invariant_added title (stopped (instances c.inside.params))
          (invariant_tree rs size written (titled M.invariant_numbers title) c.inside.params c.part.tree) M;
    }

-- Items

-- after a ruleset: what is in scope is what was before it
unfoldable pub left : Mark → Gathered → Gathered
left m G = record { inside = cut m G.inside; made = G.made }

-- inside a ruleset
abbrev pub entered : List Bind → Gathered → Gathered
entered binds G = record { inside = list_binds binds G.inside; made = G.made }

unfoldable mutual
  -- an item, by the routines of the text
  pub item_with : List Routine → Option Span → Option Name → RuleDecl → Gathered → Gathered
  item_with rs past size (r.Rule title guard locals body at) G =
      rule_done rs past title at (bodied_with G.inside guard locals body) G.made
  item_with rs past size (r.Start title locals body at) G =
      start_done rs past title at (bodied_with G.inside None locals body) G.made
  item_with rs past size (r.Invariant title body at) G =
      invariant_done rs size title body at (claimed_with G.inside body) G.made
  item_with rs past size (r.Group' binds _ inner at) G =
      left (mark_of G.inside) (row_with rs (past_of past binds (list_binds binds G.inside).params) (seen binds size None) inner
      (entered binds G))

  pub row_with : {n : _} → List Routine → Option Span → Option Name → Row_of-RuleDecl n → Gathered → Gathered
  row_with rs past size end_of-RuleDecl G = G
  row_with rs past size (more_of-RuleDecl one rest) G =
      row_with rs past size rest (item_with rs past size one G)

abbrev pub list_with : List Routine → Option Span → Option Name → List RuleDecl → Gathered → Gathered
list_with rs past size [] G = G
list_with rs past size (one ∷ rest) G = list_with rs past size rest (item_with rs past size one G)
