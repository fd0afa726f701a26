-- What a part of a body does not write keeps its term.
use Rattle.std.proofs.Common.{◌≡◌, ℕ, suc, Bool, true, false, List, [], ◌∷◌, length, Option, None, Some, refl, sym, ap, ◌∙◌, arith}
use Rattle.std.specs.Prelude.{nat_eq, if◌then◌else◌, option_map, option_and_then, unwrap_or, is_some}
use Rattle.std.specs.Option.{option_map_or}
use Rattle.term_core.specs.declared.value.Value.{Value}
use Rattle.term_core.specs.declared.term.Term as t
use Rattle.term_core.specs.declared.term.Term.{Term}
use Rattle.term_core.specs.Substitution.{lifted}
use Rattle.murphi_typed.specs.declared.types.Simple.TheVariants as simple
use Rattle.murphi_typed.specs.declared.stmt.Stmt as s
use Rattle.murphi_typed.specs.declared.stmt.Stmt.{Stmt, Row_of-Stmt, end_of-Stmt, more_of-Stmt}
use Rattle.murphi_typed.specs.declared.protocol.Routine.{Routine}
use Rattle.murphi_typed.specs.Store.{Owner, Global, Local, Formal}
use Rattle.rule_inline.specs.Demands.{is_constant_false}
use Rattle.rule_inline.specs.Tables.{Slot, Family, Leaving, Result, Terms, Marks, Change, unchanged, or_else, and_then, renewed_by, under_variable, axes, Branch, branch_chain, closed, first_of_branches, chosen, kept_if_left, unless_returned, axis_in, own_axis, over_nodes}
use Rattle.rule_inline.specs.Parts.{Given, Argued, Site, with_value, with_variable, Done, Calls, fixed_values, valued_of, argued_of}
use Rattle.rule_inline.specs.Bodies.{followed, taken, turns, entered, called_site, came_back, done_by, all_done, arms_done, cases_done, called, calls_in}
use Rattle.rule_inline.proofs.PlaceLemmas.{reaches}

-- the variables of a body at this depth, and whether and with what result it was left
abbrev pub InScope : ℕ → Slot → Type 0
InScope depth (Family owner path key) = reaches depth owner ≡ true
InScope depth Leaving = Unit {0}
InScope depth Result = Unit {0}

-- what is not written is as it was
abbrev pub Unwritten : ℕ → Terms → Change → Type 0
Unwritten depth T change = (slot : Slot) → InScope depth slot → change.first slot ≡ None → change.now slot ≡ T slot

abbrev pub CallsUnwritten : Calls → Type 0
CallsUnwritten calls = (k : ℕ) (site : Site) (T : Terms) (gs : List Given) (owner : Owner) (path : _) (key : _) → reaches site.depth owner ≡ true → (calls k site T gs).change.first (Family owner path key) ≡ None → (calls k site T gs).change.now (Family owner path key) ≡ T (Family owner path key)

none_of_two : {A : Type 0} (a b : Option A) → or_else a b ≡ None → (a ≡ None) × (b ≡ None)
none_of_two None b e = (refl, e)
none_of_two (Some x) b e = cc

nothing_unwritten : (depth : ℕ) (T : Terms) → Unwritten depth T (unchanged T)
nothing_unwritten depth T slot scope none = refl

pub renewed_unwritten : (depth : ℕ) (marks : Marks) (new : Slot → Option Term) (T : Terms) → Unwritten depth T (renewed_by marks new T)
renewed_unwritten depth marks new T slot scope none = go (new slot) none
  where
    go : (o : Option Term) → option_map (λ x. marks) o ≡ None → unwrap_or o (T slot) ≡ T slot
    go None e = refl
    go (Some x) e = cc

pub then_unwritten : (depth : ℕ) (T : Terms) (a b : Change) → Unwritten depth T a → Unwritten depth a.now b → Unwritten depth T (and_then a b)
then_unwritten depth T a b first second slot scope none = let (x, y) = none_of_two (a.first slot) (b.first slot) none in second slot scope y ∙ first slot scope x

if_none : (o : Option Marks) (x y : Term) → o ≡ None → (if is_some o then x else y) ≡ y
if_none None x y e = refl
if_none (Some m) x y e = cc

pub chosen_unwritten : (depth frame : ℕ) (T : Terms) (branches : List Branch) (otherwise : Change) → Unwritten depth T (chosen frame T branches otherwise)
chosen_unwritten depth frame T branches otherwise slot scope none = if_none (first_of_branches slot branches otherwise) (branch_chain frame slot branches otherwise) (T slot) none

pub returned_unwritten : (depth frame : ℕ) (T : Terms) (change : Change) → Unwritten depth T change → Unwritten depth T (unless_returned frame T change)
returned_unwritten depth frame T change same slot scope none = go (is_constant_false (T Leaving)) none
  where
    go : (b : Bool) → (if b then change else record change { now = kept_if_left frame T change }).first slot ≡ None → (if b then change else record change { now = kept_if_left frame T change }).now slot ≡ T slot
    go true none = same slot scope none
    go false none = if_none (change.first slot) (t.If (lifted frame (axes slot) (T Leaving)) (T slot) (change.now slot)) (change.now slot) none ∙ same slot scope none

pub loop_unwritten : (depth frame : ℕ) (T : Terms) (body : Change) → Unwritten depth T (over_nodes frame T body)
loop_unwritten depth frame T body slot scope none = go (own_axis frame body slot) refl none
  where
    written : (k : ℕ) → own_axis frame body slot ≡ Some k → body.first slot ≡ None → ⊥
    written k e none = let both : None ≡ Some k = sym (ap (option_and_then (axis_in frame)) none) ∙ e in cc

    go : (o : Option ℕ) → own_axis frame body slot ≡ o → option_and_then (λ k. body.first slot) o ≡ None → option_map_or (λ k. closed frame (axes slot) k (body.now slot)) o (T slot) ≡ T slot
    go None was none = refl
    go (Some k) was none = absurd (written k was none)

pub followed_unwritten : (depth : ℕ) (T : Terms) (a : Done) (next : Terms → Done) → Unwritten depth T a.change → ((U : Terms) → Unwritten depth U (next U).change) → Unwritten depth T (followed a next).change
followed_unwritten depth T a next first second = then_unwritten depth T a.change (next a.change.now).change first (second a.change.now)

pub turns_unwritten : (depth : ℕ) (body : Value → Terms → Done) → ((x : Value) (U : Terms) → Unwritten depth U (body x U).change) → (xs : List Value) (T : Terms) → Unwritten depth T (turns body xs T).change
turns_unwritten depth body each [] T = nothing_unwritten depth T
turns_unwritten depth body each (x ∷ xs) T = followed_unwritten depth T (body x T) (turns body xs) (each x T) (turns_unwritten depth body each xs)

pub taken_unwritten : (site : Site) (T : Terms) (body : Done) → Unwritten site.depth T body.change → Unwritten site.depth T (taken site T body).change
taken_unwritten site T body same = returned_unwritten site.depth site.frame T body.change same

module _ (calls : Calls) (inner : CallsUnwritten calls) where
  call_unwritten : (site : Site) (T : Terms) (k : ℕ) (args : Argued) → Unwritten site.depth T (came_back site T args (calls k site T args.given)).change
  call_unwritten site T k args (Family owner path key) scope none = inner k site T args.given owner path key scope none
  call_unwritten site T k args Leaving scope none = refl
  call_unwritten site T k args Result scope none = refl

  mutual
    unfolding done_by

    pub stmt_unwritten : (site : Site) (T : Terms) (stmt : Stmt) → Unwritten site.depth T (done_by calls site T stmt).change
    stmt_unwritten site T (s.Block' _ body) = row_unwritten site T body
    stmt_unwritten site T (s.Assign to into body) = renewed_unwritten site.depth _ _ T
    stmt_unwritten site T (s.Copy to into from) = renewed_unwritten site.depth _ _ T
    stmt_unwritten site T (s.CopyAll to from) = renewed_unwritten site.depth _ _ T
    stmt_unwritten site T (s.Call k args at) = call_unwritten site T k (argued_of calls site T args)
    stmt_unwritten site T (s.If' _ arms _ otherwise at) = chosen_unwritten site.depth site.frame T ((arms_done calls site T arms (all_done calls site T otherwise)).branches) ((arms_done calls site T arms (all_done calls site T otherwise)).otherwise)
    stmt_unwritten site T (s.Switch' on _ cases _ otherwise at) = chosen_unwritten site.depth site.frame T ((cases_done calls site T (valued_of calls site T on).term cases (all_done calls site T otherwise)).branches) ((cases_done calls site T (valued_of calls site T on).term cases (all_done calls site T otherwise)).otherwise)
    stmt_unwritten site T (s.For' simple.Node _ body at) = loop_unwritten site.depth site.frame T (all_done calls (with_variable site) (under_variable site.frame T) body).change
    stmt_unwritten site T (s.For' simple.Truth _ body at) = turns_unwritten site.depth (λ x T. all_done calls (with_value site x) T body) (λ x U. row_unwritten (with_value site x) U body) (fixed_values simple.Truth) T
    stmt_unwritten site T (s.For' (simple.Range low high) _ body at) = turns_unwritten site.depth (λ x T. all_done calls (with_value site x) T body) (λ x U. row_unwritten (with_value site x) U body) (fixed_values (simple.Range low high)) T
    stmt_unwritten site T (s.For' (simple.Listed kind count) _ body at) = turns_unwritten site.depth (λ x T. all_done calls (with_value site x) T body) (λ x U. row_unwritten (with_value site x) U body) (fixed_values (simple.Listed kind count)) T
    stmt_unwritten site T (s.For' (simple.Scalarset kind count) _ body at) = turns_unwritten site.depth (λ x T. all_done calls (with_value site x) T body) (λ x U. row_unwritten (with_value site x) U body) (fixed_values (simple.Scalarset kind count)) T
    stmt_unwritten site T (s.Clear place of at) = renewed_unwritten site.depth _ _ T
    stmt_unwritten site T (s.Undefine place at) = renewed_unwritten site.depth _ _ T
    stmt_unwritten site T (s.Error at) = nothing_unwritten site.depth T
    stmt_unwritten site T (s.Assert test at) = nothing_unwritten site.depth T
    stmt_unwritten site T (s.PutText at) = nothing_unwritten site.depth T
    stmt_unwritten site T (s.Put shown at) = nothing_unwritten site.depth T
    stmt_unwritten site T (s.Leave at) = renewed_unwritten site.depth _ _ T
    stmt_unwritten site T (s.Return body at) = renewed_unwritten site.depth _ _ T

    pub row_unwritten : {n : _} (site : Site) (T : Terms) (body : Row_of-Stmt n) → Unwritten site.depth T (all_done calls site T body).change
    row_unwritten site T end_of-Stmt = nothing_unwritten site.depth T
    row_unwritten site T (more_of-Stmt first rest) = followed_unwritten site.depth T (taken site T (done_by calls site T first)) (λ next. all_done calls site next rest) (taken_unwritten site T (done_by calls site T first) (stmt_unwritten site T first)) (λ U. row_unwritten site U rest)

-- a variable in scope of a body is in scope of those that it calls, and is no variable of theirs
pub reaches_deeper : (depth : ℕ) (owner : Owner) → reaches depth owner ≡ true → reaches (suc depth) owner ≡ true
reaches_deeper depth (Global k) e = refl
reaches_deeper depth (Local of k) e = grind (arith, e)
reaches_deeper depth (Formal of k) e = grind (arith, e)

same_if : {A : Type 0} (b : Bool) (x y : A) → b ≡ false → (if b then x else y) ≡ y
same_if true x y e = cc
same_if false x y e = refl

pub entered_same : (depth : ℕ) (gs : List Given) (T : Terms) (owner : Owner) (path : _) (key : _) → reaches depth owner ≡ true → entered (suc depth) gs T (Family owner path key) ≡ T (Family owner path key)
entered_same depth gs T (Global k) path key e = refl
entered_same depth gs T (Local of k) path key e = same_if (nat_eq of (suc depth)) _ _ (grind (arith, e))
entered_same depth gs T (Formal of k) path key e = same_if (nat_eq of (suc depth)) _ _ (grind (arith, e))

pub calls_unwritten : (routines : List Routine) → CallsUnwritten (calls_in routines)
calls_unwritten [] k site T gs owner path key scope none = refl
calls_unwritten (r ∷ earlier) k site T gs owner path key scope none = go (calls_unwritten earlier) (nat_eq k (length earlier)) none
  where
    go : CallsUnwritten (calls_in earlier) → (b : Bool) → (if b then called (calls_in earlier) r site T gs else calls_in earlier k site T gs).change.first (Family owner path key) ≡ None → (if b then called (calls_in earlier) r site T gs else calls_in earlier k site T gs).change.now (Family owner path key) ≡ T (Family owner path key)
    go inner true none = stmt_unwritten (calls_in earlier) inner (called_site site r.result gs) (entered (suc site.depth) gs T) r.body (Family owner path key) (reaches_deeper site.depth owner scope) none ∙ entered_same site.depth gs T owner path key scope
    go inner false none = inner k site T gs owner path key scope none
