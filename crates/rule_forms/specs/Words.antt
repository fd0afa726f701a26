-- Words for what code has done so far, and for the lists that it reads.
use Rattle.std.specs.Prelude.{ℕ, Bool, true, false, List, [], ◌∷◌, ◌++◌, Option, None, Some}
use Rattle.murphi_typed.specs.declared.types.Simple.{Simple}
use Rattle.murphi_typed.specs.declared.expr.Root.TheVariants as root
use Rattle.murphi_typed.specs.declared.expr.Designator as d
use Rattle.murphi_typed.specs.declared.expr.Designator.{Designator, items-the_row-Selector}
use Rattle.murphi_typed.specs.declared.expr.Selector as select
use Rattle.murphi_typed.specs.Families.{Path}
use Rattle.term_core.specs.declared.term.Term as t
use Rattle.term_core.specs.declared.term.Term.{Term}
use Rattle.rule_inline.specs.Demands.{Demand, demand, under_test}
use Rattle.rule_inline.specs.Tables.{Terms, Index, Spot, Shown, Change, Branch, branch_chain, first_of_branches}
use Rattle.rule_inline.specs.Parts.{Given, Filled, Standing, lifted_given, Argued, Done, Site, whole_spot, Valued, Indexed, index_over, index_fits, terms_of, demands_of}
use Rattle.rule_inline.specs.Bodies.{reached, before, Branching, Labels}
use Rattle.rule_inline.specs.Machine.{CellsOf}
use Rattle.rule_parts.specs.Layers.{branch_change, chosen_change}

-- what is given, under one more variable, once the families are known
abbrev pub lifted_in : ℕ → (List CellsOf → Given) → List CellsOf → Given
lifted_in frame given fs = lifted_given frame (given fs)

-- the place of a `var` formal that stands for nothing
abbrev pub formal_spot : Site → ℕ → Spot
formal_spot site k = whole_spot site (root.Place k)

-- the fields and indices of a designator
abbrev pub selectors_of : Designator → List select.Selector
selectors_of (d.Of' root _ row at) = items-the_row-Selector _ row

-- the fields of a designator
abbrev pub list_path : List select.Selector → Path
list_path [] = []
list_path (select.Field name ∷ rest) = name ∷ list_path rest
list_path (select.Index over index ∷ rest) = list_path rest

-- the place under these fields and indices of another
abbrev pub spot_under : Spot → Path → List Index → Spot
spot_under root path at = record { owner = root.owner; path = root.path ++ path; at = root.at ++ at }

-- indices with one more
abbrev pub index_on : Indexed → Simple → Option ℕ → Valued → Indexed
index_on front over mark e =
    record {
      indices = front.indices ++ index_over over mark e.term ∷ [];
      demands = (front.demands ++ e.demands) ++ demand (index_fits over e.term) ∷ [];
    }

-- indices, and those that follow
abbrev pub then_indexed : Indexed → Indexed → Indexed
then_indexed a b = record { indices = a.indices ++ b.indices; demands = a.demands ++ b.demands }

-- the instances of a quantifier over values
pub record Instances : Type 0 where
  pub terms : List Term
  pub demands : List Demand

abbrev pub no_instances : Instances
no_instances = record { terms = []; demands = [] }

abbrev pub instance_on : Instances → Valued → Instances
instance_on front e = record { terms = front.terms ++ e.term ∷ []; demands = front.demands ++ e.demands }

-- instances, and those that follow
abbrev pub instances_to : Instances → List Valued → Instances
instances_to front es = record { terms = front.terms ++ terms_of es; demands = front.demands ++ demands_of es }

-- all instances, or one of them
abbrev pub of_instances : Bool → Instances → Valued
of_instances true i = record { term = t.And i.terms; demands = i.demands }
of_instances false i = record { term = t.Or i.terms; demands = i.demands }

-- what arguments give, and one more
abbrev pub argument_on : Argued → Given → List Demand → Argued
argument_on front g demands = record { given = front.given ++ g ∷ []; demands = front.demands ++ demands }

-- what arguments give, and those that follow
abbrev pub then_argued : Argued → Argued → Argued
then_argued a b = record { given = a.given ++ b.given; demands = a.demands ++ b.demands }

-- what is given to a formal by value, once the families are known
abbrev pub filled_in : Option ℕ → Bool → (List CellsOf → Shown) → List CellsOf → Given
filled_in mark plain shown fs = Filled mark plain (shown fs)

-- a chain of branches, with what they demand
pub record Chain : Type 0 where
  pub change : Change
  pub demands : List Demand

-- the branches as one change, before what none of them changes is left as it was
abbrev pub chain_change : ℕ → List Branch → Change → Change
chain_change frame branches otherwise =
    record {
      now = λ slot. branch_chain frame slot branches otherwise;
      first = λ slot. first_of_branches slot branches otherwise;
    }

abbrev pub chain_in : Site → Branching → Chain
chain_in site b = record { change = chain_change site.frame b.branches b.otherwise; demands = b.demands }

abbrev pub last_link : Done → Chain
last_link body = record { change = body.change; demands = body.demands }

abbrev pub one_link : Site → Terms → Valued → Done → Chain → Chain
one_link site T test body rest =
    record {
      change = branch_change site.frame test.term body.change rest.change;
      demands = reached site T test.demands
          ++ (under_test site.frame test.term body.demands ++ under_test site.frame (t.Not test.term) rest.demands);
    }

-- a branch with its test
pub record Worked : Type 0 where
  pub test : Valued
  pub body : Done

-- branches with their tests, before a last one
abbrev pub links_over : Site → Terms → List Worked → Chain → Chain
links_over site T [] last = last
links_over site T (w ∷ ws) last = one_link site T w.test w.body (links_over site T ws last)

abbrev pub of_chain : Terms → List Demand → Chain → Done
of_chain T first all = record { change = chosen_change T all.change; demands = first ++ all.demands }

-- the labels of a case, in order
abbrev pub label_tests : Term → List Valued → List Term
label_tests on [] = []
label_tests on (label ∷ labels) = t.Same on label.term ∷ label_tests on labels

-- what labels demand, and then what is demanded where the value is none of them
abbrev pub label_demands_to : ℕ → Term → List Valued → List Demand → List Demand
label_demands_to frame on [] rest = rest
label_demands_to frame on (label ∷ labels) rest =
    label.demands ++ under_test frame (t.Not (t.Same on label.term)) (label_demands_to frame on labels rest)

abbrev pub label_demands : ℕ → Term → List Valued → List Demand
label_demands frame on labels = label_demands_to frame on labels []

abbrev pub labels_over : Site → Term → List Valued → Labels
labels_over site on labels =
    record { tests = label_tests on labels; demands = label_demands site.frame on labels }

-- parts in turn, the first of which is done
abbrev pub steps_from : (Terms → Done) → Done → Done
steps_from next done = before done (next done.change.now)

-- a mark, where no selector follows
abbrev pub lone : Option select.Selector → Option ℕ → Option ℕ
lone None mark = mark
lone (Some selector) mark = None

-- what is given to a `var` formal, once the families are known
abbrev pub standing_in : Spot → List CellsOf → Given
standing_in spot fs = Standing spot
