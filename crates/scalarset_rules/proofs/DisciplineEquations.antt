-- The first break of a whole protocol, in terms of the parts that code reads.
use Rattle.std.proofs.Common.{◌≡◌, ℕ, suc, ◌+◌, length, List, [], ◌∷◌, ◌++◌, map, None, Some, refl, sym, ap, ◌∙◌, arith, append_assoc}
use Rattle.std.specs.Prelude.{if◌then◌else◌, is_some}
use Rattle.std.specs.List.{flat_map}
use Rattle.murphi_ast.specs.declared.token.Span.{Span}
use Rattle.murphi_typed.specs.declared.stmt.Stmt.{Stmt}
use Rattle.murphi_typed.specs.declared.protocol.Formal.{Formal}
use Rattle.murphi_typed.specs.declared.protocol.Parameter.{Parameter}
use Rattle.murphi_typed.specs.declared.protocol.Routine.{Routine}
use Rattle.murphi_typed.specs.declared.protocol.Rule.{Rule}
use Rattle.murphi_typed.specs.declared.protocol.Start.{Start}
use Rattle.murphi_typed.specs.declared.protocol.NodeType.{NodeType}
use Rattle.murphi_typed.specs.declared.protocol.Typed.{Typed}
use Rattle.scalarset_rules.specs.declared.scan.Want.TheVariants as want
use Rattle.scalarset_rules.specs.Accesses.{Scope}
use Rattle.scalarset_rules.specs.Rules.{Break, breaks_at, size_uses, size_form, clear_breaks, return_breaks, for_breaks, body_breaks, node_breaks, routine_breaks, routine_scope, top_scope, own_stand, own_stands, count_of, bodies, breaks_with, node_type_breaks, sooner, first_break, broken}
use Rattle.scalarset_rules.specs.Scanning.{first_in_body}
use Rattle.scalarset_rules.specs.Verdicts.{first_routine_clears, first_start_clears, first_rule_clears, first_clears, first_uses, first_routines, first_starts, first_rules}
use Rattle.scalarset_rules.proofs.PlaceEquations.{mapped_joined}
use Rattle.scalarset_rules.proofs.JudgeEquations.{sooner_none, sooner_on, first_joined}

-- lists

flat_joined : {A B : Type 0} (f : A → List B) (xs ys : List A) → flat_map f (xs ++ ys) ≡ flat_map f xs ++ flat_map f ys
flat_joined f [] ys = refl
flat_joined f (x ∷ xs) ys = ap (λ zs. f x ++ zs) (flat_joined f xs ys) ∙ sym (append_assoc (f x) (flat_map f xs) (flat_map f ys))

routine_clears_are : (rs : List Routine) → first_break (flat_map clear_breaks (map (λ (r : Routine). r.body) rs)) ≡ first_routine_clears rs
routine_clears_are [] = refl
routine_clears_are (r ∷ rs) = first_joined (clear_breaks r.body) (flat_map clear_breaks (map (λ (r : Routine). r.body) rs)) ∙ ap (sooner (first_in_body want.Clear r.body)) (routine_clears_are rs)

start_clears_are : (rs : List Start) → first_break (flat_map clear_breaks (map (λ (r : Start). r.body) rs)) ≡ first_start_clears rs
start_clears_are [] = refl
start_clears_are (r ∷ rs) = first_joined (clear_breaks r.body) (flat_map clear_breaks (map (λ (r : Start). r.body) rs)) ∙ ap (sooner (first_in_body want.Clear r.body)) (start_clears_are rs)

rule_clears_are : (rs : List Rule) → first_break (flat_map clear_breaks (map (λ (r : Rule). r.body) rs)) ≡ first_rule_clears rs
rule_clears_are [] = refl
rule_clears_are (r ∷ rs) = first_joined (clear_breaks r.body) (flat_map clear_breaks (map (λ (r : Rule). r.body) rs)) ∙ ap (sooner (first_in_body want.Clear r.body)) (rule_clears_are rs)

clears_are : (T : Typed) → first_break (flat_map clear_breaks (bodies T)) ≡ first_clears T
clears_are T =
    ap first_break (flat_joined clear_breaks (map (λ (r : Routine). r.body) T.routines) (map (λ (a : Start). a.body) T.starts ++ map (λ (r : Rule). r.body) T.rules)
    ∙ ap (λ bs. flat_map clear_breaks (map (λ (r : Routine). r.body) T.routines) ++ bs) (flat_joined clear_breaks (map (λ (a : Start). a.body) T.starts) (map (λ (r : Rule). r.body) T.rules)))
    ∙ first_joined (flat_map clear_breaks (map (λ (r : Routine). r.body) T.routines)) (flat_map clear_breaks (map (λ (a : Start). a.body) T.starts) ++ flat_map clear_breaks (map (λ (r : Rule). r.body) T.rules))
    ∙ ap (sooner (first_break (flat_map clear_breaks (map (λ (r : Routine). r.body) T.routines)))) (first_joined (flat_map clear_breaks (map (λ (a : Start). a.body) T.starts)) (flat_map clear_breaks (map (λ (r : Rule). r.body) T.rules)))
    ∙ ap (λ o. sooner o (sooner (first_break (flat_map clear_breaks (map (λ (a : Start). a.body) T.starts))) (first_break (flat_map clear_breaks (map (λ (r : Rule). r.body) T.rules))))) (routine_clears_are T.routines)
    ∙ ap (λ o. sooner (first_routine_clears T.routines) (sooner o (first_break (flat_map clear_breaks (map (λ (r : Rule). r.body) T.rules))))) (start_clears_are T.starts)
    ∙ ap (λ o. sooner (first_routine_clears T.routines) (sooner (first_start_clears T.starts) o)) (rule_clears_are T.rules)

routines_are : (all rs : List Routine) → first_break (flat_map (routine_breaks all) rs) ≡ first_routines all rs
routines_are all [] = refl
routines_are all (r ∷ rs) = first_joined (routine_breaks all r) (flat_map (routine_breaks all) rs) ∙ ap (sooner (first_break (routine_breaks all r))) (routines_are all rs)

starts_are : (all : List Routine) (rs : List Start) → first_break (flat_map (λ (a : Start). node_breaks all (top_scope a.params) a.body) rs) ≡ first_starts all rs
starts_are all [] = refl
starts_are all (r ∷ rs) = first_joined (node_breaks all (top_scope r.params) r.body) (flat_map (λ (a : Start). node_breaks all (top_scope a.params) a.body) rs) ∙ ap (sooner (first_break (node_breaks all (top_scope r.params) r.body))) (starts_are all rs)

rules_are : (all : List Routine) (rs : List Rule) → first_break (flat_map (λ (a : Rule). node_breaks all (top_scope a.params) a.body) rs) ≡ first_rules all rs
rules_are all [] = refl
rules_are all (r ∷ rs) = first_joined (node_breaks all (top_scope r.params) r.body) (flat_map (λ (a : Rule). node_breaks all (top_scope a.params) a.body) rs) ∙ ap (sooner (first_break (node_breaks all (top_scope r.params) r.body))) (rules_are all rs)

uses_are : (uses : List Span) → first_break (breaks_at 1 uses) ≡ first_uses uses
uses_are [] = refl
uses_are (at ∷ rest) = first_joined (breaks_at 1 (at ∷ [])) (breaks_at 1 rest) ∙ ap (sooner (first_break (breaks_at 1 (at ∷ [])))) (uses_are rest)

pub with_is : (T : Typed) (node : NodeType) → first_break (breaks_with T node) ≡ sooner (first_uses node.uses) (sooner (first_break (size_form node.size node.size_at)) (sooner (first_routines T.routines T.routines) (sooner (first_starts T.routines T.starts) (first_rules T.routines T.rules))))
with_is T node =
    first_joined (size_uses node) (size_form node.size node.size_at ++ (flat_map (routine_breaks T.routines) T.routines ++ (starts ++ rules)))
    ∙ ap (λ o. sooner o (first_break (size_form node.size node.size_at ++ (flat_map (routine_breaks T.routines) T.routines ++ (starts ++ rules))))) (uses_are node.uses)
    ∙ ap (sooner (first_uses node.uses)) (first_joined (size_form node.size node.size_at) (flat_map (routine_breaks T.routines) T.routines ++ (starts ++ rules)))
    ∙ ap (λ o. sooner (first_uses node.uses) (sooner (first_break (size_form node.size node.size_at)) o)) (first_joined (flat_map (routine_breaks T.routines) T.routines) (starts ++ rules) ∙ ap (sooner (first_break (flat_map (routine_breaks T.routines) T.routines))) (first_joined starts rules))
    ∙ ap (λ o. sooner (first_uses node.uses) (sooner (first_break (size_form node.size node.size_at)) (sooner o (sooner (first_break starts) (first_break rules))))) (routines_are T.routines T.routines)
    ∙ ap (λ o. sooner (first_uses node.uses) (sooner (first_break (size_form node.size node.size_at)) (sooner (first_routines T.routines T.routines) (sooner o (first_break rules))))) (starts_are T.routines T.starts)
    ∙ ap (λ o. sooner (first_uses node.uses) (sooner (first_break (size_form node.size node.size_at)) (sooner (first_routines T.routines T.routines) (sooner (first_starts T.routines T.starts) o)))) (rules_are T.routines T.rules)
  where
    starts : List Break
    starts = flat_map (λ (a : Start). node_breaks T.routines (top_scope a.params) a.body) T.starts

    rules : List Break
    rules = flat_map (λ (r : Rule). node_breaks T.routines (top_scope r.params) r.body) T.rules

pub broken_none : (T : Typed) → T.node ≡ None → broken T ≡ first_clears T
broken_none T e = first_joined (flat_map clear_breaks (bodies T)) (node_type_breaks T T.node) ∙ ap (λ o. sooner o (first_break (node_type_breaks T T.node))) (clears_are T) ∙ ap (λ n. sooner (first_clears T) (first_break (node_type_breaks T n))) e ∙ sooner_none (first_clears T)

pub broken_some : (T : Typed) (node : NodeType) → T.node ≡ Some node → broken T ≡ sooner (first_clears T) (first_break (breaks_with T node))
broken_some T node e = first_joined (flat_map clear_breaks (bodies T)) (node_type_breaks T T.node) ∙ ap (λ o. sooner o (first_break (node_type_breaks T T.node))) (clears_are T) ∙ ap (λ n. sooner (first_clears T) (first_break (node_type_breaks T n))) e

pub node_is : (routines : List Routine) (scope : Scope) (body : Stmt) → first_break (node_breaks routines scope body) ≡ sooner (first_in_body want.Return body) (first_break (body_breaks routines scope body))
node_is routines scope body = first_joined (return_breaks body) (body_breaks routines scope body)

pub procedure_is : (all : List Routine) (r : Routine) → r.result ≡ None → first_break (routine_breaks all r) ≡ first_break (node_breaks all (routine_scope r) r.body)
procedure_is all r e = ap (λ o. first_break ((if is_some o then for_breaks r.body else []) ++ node_breaks all (routine_scope r) r.body)) e

pub function_is : (all : List Routine) (r : Routine) (type : _) → r.result ≡ Some type → first_break (routine_breaks all r) ≡ sooner (first_in_body want.For r.body) (first_break (node_breaks all (routine_scope r) r.body))
function_is all r type e = ap (λ o. first_break ((if is_some o then for_breaks r.body else []) ++ node_breaks all (routine_scope r) r.body)) e ∙ first_joined (for_breaks r.body) (node_breaks all (routine_scope r) r.body)

pub count_is : (params : List Parameter) → count_of params ≡ length params
count_is [] = refl
count_is (p ∷ ps) = ap suc (count_is ps)

pub own_more : (k : ℕ) (f : Formal) (fs : List Formal) → own_stands k (f ∷ fs) ≡ own_stand k f ∷ own_stands (k + 1) fs
own_more k f fs = let h : suc k ≡ k + 1 = omega arith in ap (λ n. own_stand k f ∷ own_stands n fs) h

pub ruleset disciplined = (sooner_none, mapped_joined, broken_none, broken_some, with_is, node_is, procedure_is, function_is, count_is, own_more)
