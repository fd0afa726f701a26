-- What code gives of what is found: the same part, with the first of its faults, and with the weight that stops at
-- the greatest u64.
use Rattle.std.specs.Prelude.{ℕ, suc, ◌+◌, ◌*◌, Bool, true, false, ◌&&◌, ◌||◌, not, List, [], ◌∷◌, ◌++◌, length, ℤ, pos, Option, None, Some, is_some, is_none, option_map, unwrap_or}
use Rattle.murphi_ast.specs.declared.token.Span.{Span}
use Rattle.murphi_ast.specs.declared.expr.ChainOp.{ChainOp}
use Rattle.murphi_ast.specs.declared.expr.CompareOp.{CompareOp}
use Rattle.murphi_typed.specs.declared.types.Simple.{Simple}
use Rattle.murphi_typed.specs.declared.types.Simple.TheVariants as simple
use Rattle.murphi_typed.specs.declared.types.AnyType as t
use Rattle.murphi_typed.specs.declared.types.AnyType.{AnyType}
use Rattle.murphi_typed.specs.declared.expr.Expr as x
use Rattle.murphi_typed.specs.declared.expr.Expr.{Expr}
use Rattle.murphi_typed.specs.WellTyped.{numbers, only_if}
use Rattle.murphi_types.specs.declared.fault.Cause.{Cause}
use Rattle.murphi_types.specs.declared.fault.Cause.TheVariants as cause
use Rattle.murphi_types.specs.declared.fault.Fault.{Fault}
use Rattle.murphi_types.specs.declared.scope.Known.{Known}
use Rattle.murphi_types.specs.Faults.{sooner, first_fault}
use Rattle.murphi_types.specs.Weights.{stopped}
use Rattle.murphi_types.specs.Fitting.{fits, is_truth, is_equality, left_fits, right_fits}
use Rattle.murphi_types.specs.Found.{Found, FoundLinks}
use Rattle.type_parts.specs.declared.judged.Judged.{Judged}
use Rattle.type_parts.specs.declared.judged.JudgedLinks.{JudgedLinks}

-- a fault of its own, unless a test passes
abbrev pub own : Bool → Cause → Span → Option Fault
own true cause at = None
own false cause at = Some (record { cause = cause; at = at })

abbrev pub judged : Found → Judged
judged f = record { of = f.type; tree = f.tree; weight = stopped f.weight; fault = first_fault f.faults }

abbrev pub judged_links : FoundLinks → JudgedLinks
judged_links f =
    record { typed = f.typed; trees = f.trees; weight = stopped f.weight; fault = first_fault f.faults }

-- a part that has to pass a test
abbrev pub kept : Bool → Span → Judged → Judged
kept fits at j =
    record {
      of = only_if fits j.of;
      tree = j.tree;
      weight = j.weight;
      fault = sooner j.fault (own fits cause.E07 at);
    }

abbrev pub all_judged : Bool → Simple → Expr → ℕ → Option Fault → Judged
all_judged typed type tree weight fault =
    record { of = only_if typed (Some (t.Simple type)); tree = tree; weight = weight; fault = fault }

abbrev pub not_judged : Judged → Judged
not_judged j = all_judged (is_some j.of) simple.Truth (x.Not j.tree) (stopped (suc j.weight)) j.fault

abbrev pub minus_judged : Judged → Judged
minus_judged j = all_judged (is_some j.of) numbers (x.Minus j.tree) (stopped (suc j.weight)) j.fault

abbrev pub implies_judged : Judged → Judged → Judged
implies_judged j h =
    all_judged (is_some j.of && is_some h.of) simple.Truth (x.Implies j.tree h.tree)
    (stopped (suc (stopped (j.weight + h.weight)))) (sooner j.fault h.fault)

abbrev pub compare_judged : CompareOp → Judged → Judged → Judged
compare_judged op j h =
    all_judged (is_some j.of && is_some h.of) simple.Truth (x.Compare op j.tree h.tree)
    (stopped (suc (stopped (j.weight + h.weight)))) (sooner j.fault h.fault)

-- a comparison of parts at these places: the right is held against the left
abbrev pub compared_after : CompareOp → Span → Judged → Judged → Judged
compared_after op right j h =
    compare_judged op j (kept (fits (right_fits (is_equality op) j.of) h.of) right h)

abbrev pub compared_judged : CompareOp → Span → Span → Judged → Judged → Judged
compared_judged op left right j h =
    compared_after op right (kept (fits (left_fits (is_equality op)) j.of) left j) h

abbrev pub choice_judged : Judged → Judged → Judged → Judged
choice_judged j h i =
    record {
      of = only_if (is_some j.of) (only_if (is_some i.of) h.of);
      tree = x.Choice j.tree h.tree i.tree;
      weight = stopped (suc (stopped (j.weight + stopped (h.weight + i.weight))));
      fault = sooner j.fault (sooner h.fault i.fault);
    }

-- a choice of parts at their places
abbrev pub chosen_after : Judged → Judged → Judged × Span → Judged
chosen_after j h i = choice_judged j h (kept (fits (right_fits true h.of) i.0.of) i.1 i.0)

abbrev pub chosen_judged : Judged × Span → Judged × Span → Judged × Span → Judged
chosen_judged j h i =
    chosen_after (kept (fits is_truth j.0.of) j.1 j.0) (kept (fits (left_fits true) h.0.of) h.1 h.0) i

abbrev pub chain_judged : Simple → Judged → JudgedLinks → Judged
chain_judged type j h =
    all_judged (is_some j.of && h.typed) type (x.Chain j.tree h.trees)
    (stopped (suc (stopped (j.weight + h.weight)))) (sooner j.fault h.fault)

-- what is done of the operands of a chain, together with what the rest gives
pub record Linked : Type 0 where
  pub part : JudgedLinks
  pub known : Known

abbrev pub linked : JudgedLinks → FoundLinks → Linked
linked d f =
    record {
      part = record {
        typed = d.typed && f.typed;
        trees = d.trees ++ f.trees;
        weight = stopped (d.weight + f.weight);
        fault = sooner d.fault (first_fault f.faults);
      };
      known = f.known;
    }
