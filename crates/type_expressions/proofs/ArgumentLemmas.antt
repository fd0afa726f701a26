-- One argument more, and the end of the arguments.
use Rattle.std.proofs.Common.{◌≡◌, ℕ, suc, ◌+◌, Bool, true, false, ◌&&◌, List, [], ◌∷◌, ◌++◌, length, drop, Option, None, Some, is_some, refl, ap, sym, subst, ◌∙◌, arith, append_assoc, zero}
use Rattle.std.specs.Prelude.{is_none, slice_get, if◌then◌else◌}
use Rattle.murphi_ast.specs.declared.token.Span.{Span}
use Rattle.murphi_ast.specs.declared.expr.Named.{Named}
use Rattle.murphi_ast.specs.declared.expr.Designator.{Designator}
use Rattle.murphi_ast.specs.declared.expr.Expr as e
use Rattle.murphi_ast.specs.declared.expr.Expr.{Expr, Row_of-Selector, end_of-Selector, more_of-Selector, items-the_row-Selector}
use Rattle.murphi_typed.specs.declared.types.AnyType.{AnyType}
use Rattle.murphi_typed.specs.declared.expr.Root.TheVariants as root
use Rattle.murphi_typed.specs.declared.expr.Expr as x
use Rattle.murphi_typed.specs.declared.expr.Argument.{Argument}
use Rattle.murphi_typed.specs.declared.expr.Argument as argument
use Rattle.murphi_typed.specs.declared.protocol.Formal.{Formal}
use Rattle.murphi_typed.specs.WellTyped.{first_of, rest_of}
use Rattle.murphi_types.specs.declared.fault.Cause.TheVariants as cause
use Rattle.murphi_types.specs.declared.fault.Fault.{Fault}
use Rattle.murphi_types.specs.declared.scope.Known.{Known}
use Rattle.murphi_types.specs.declared.scope.Scope.{Scope}
use Rattle.murphi_types.specs.Faults.{sooner, first_fault, is_clear, unless, lone}
use Rattle.murphi_types.specs.Weights.{stopped}
use Rattle.murphi_types.specs.Places.{place_of}
use Rattle.murphi_types.specs.Scopes.{looked}
use Rattle.murphi_types.specs.Fitting.{fits}
use Rattle.murphi_types.specs.Found.{Found}
use Rattle.murphi_types.specs.Designators.{FoundPlace, start_type, place_made}
use Rattle.murphi_types.specs.Designators as found
use Rattle.murphi_types.specs.Calls.{FoundArguments, no_arguments, arguments_made, argument_made, value_fits, is_simple_formal}
use Rattle.murphi_types.specs.Calls as calls
use Rattle.murphi_types.specs.Typing.{selectors_found}
use Rattle.murphi_types.specs.Typing as typing
use Rattle.murphi_types.specs.Lists.{list_arguments, argument_found, place_found}
use Rattle.murphi_ast.specs.declared.expr.Expr.TheBlock.{shape-the_row-Selector-0, hidden-the_row-Selector-0}
use denote.Hole.Carrier.{hidden}
use Rattle.murphi_ast.specs.declared.expr.Selector.{Selector}
use Rattle.type_parts.specs.declared.judged.Judged.{Judged}
use Rattle.type_parts.specs.declared.judged.JudgedArguments.{JudgedArguments}
use Rattle.type_parts.specs.declared.judged.Start.{Start}
use Rattle.type_parts.specs.Judging.{judged, own}
use Rattle.type_parts.proofs.FaultLemmas.{first-append, first-unless, first-clear, sooner-assoc, sooner-none}
use Rattle.type_forms.specs.declared.calls.JudgedArgument.{JudgedArgument}
use Rattle.type_forms.specs.Designating.{started, judged_place}
use Rattle.type_forms.specs.Calling.{argument_judged, place_fits, may_write, copy_of, handed_of, placed, valued, own_value, argued, Given, given}
use Rattle.type_expressions.specs.PartsGiven.{part_of, place_part, arguments_of, designated}
use Rattle.type_expressions.specs.Turns.{nothing_given}
use Rattle.type_expressions.proofs.PartLemmas.{first-wanted}
use Rattle.type_expressions.proofs.ListEquations.{selectors-are}
use Rattle.type_expressions.proofs.TurnLemmas.{weight-turn, fault-turn, and-assoc, and-true, append-nil}

abbrev given_whole : Bool → List Argument → ℕ → Option Fault → Known → Given
given_whole b ts w o k = record { part = record { typed = b; trees = ts; weight = w; fault = o }; known = k }

argued-as : (b : Bool) (tree : Argument) (w : ℕ) (k : Known) (fs : List Fault) (d : JudgedArguments) (g : FoundArguments) → given (argued d (argument_judged b tree (stopped w) (first_fault fs))) g ≡ given d (arguments_made (argument_made b tree w k fs) g)
argued-as b tree w k fs d g =
    let c = b && is_clear fs in
    ap (λ a. given_whole ((d.typed && (b && a)) && g.typed) ((d.trees ++ tree ∷ []) ++ g.trees) (stopped (stopped (d.weight + stopped w) + g.weight)) (sooner (sooner d.fault (first_fault fs)) (first_fault g.faults)) g.known) (first-clear fs)
    ∙ ap (λ a. given_whole a ((d.trees ++ tree ∷ []) ++ g.trees) (stopped (stopped (d.weight + stopped w) + g.weight)) (sooner (sooner d.fault (first_fault fs)) (first_fault g.faults)) g.known) (and-assoc d.typed c g.typed)
    ∙ ap (λ ts. given_whole (d.typed && (c && g.typed)) ts (stopped (stopped (d.weight + stopped w) + g.weight)) (sooner (sooner d.fault (first_fault fs)) (first_fault g.faults)) g.known) (append_assoc d.trees (tree ∷ []) g.trees)
    ∙ ap (λ v. given_whole (d.typed && (c && g.typed)) (d.trees ++ tree ∷ g.trees) v (sooner (sooner d.fault (first_fault fs)) (first_fault g.faults)) g.known) (weight-turn d.weight w g.weight)
    ∙ ap (λ o. given_whole (d.typed && (c && g.typed)) (d.trees ++ tree ∷ g.trees) (stopped (d.weight + (w + g.weight))) o g.known) (fault-turn d.fault fs g.faults)

argued-with : (b : Bool) (tree tree' : Argument) (w : ℕ) (k : Known) (fs : List Fault) (o : Option Fault) (d : JudgedArguments) (g : FoundArguments) → tree' ≡ tree → o ≡ first_fault fs → given (argued d (argument_judged b tree' (stopped w) o)) g ≡ given d (arguments_made (argument_made b tree w k fs) g)
argued-with b tree tree' w k fs o d g p q =
    ap (λ t. given (argued d (argument_judged b t (stopped w) o)) g) p
    ∙ ap (λ f. given (argued d (argument_judged b tree (stopped w) f)) g) q
    ∙ argued-as b tree w k fs d g

-- Designators

copy-tree-is : (o : Option Formal) (p : FoundPlace) (s : found.Start) → copy_of (is_simple_formal o) (started s) p.selectors p.at ≡ calls.copy_tree o p s
copy-tree-is o p (found.Rooted root) = refl
copy-tree-is o p (found.Fixed tree) = refl
copy-tree-is o p found.Nowhere = refl

place-tree-is : (p : FoundPlace) (s : found.Start) → handed_of (started s) p.selectors p.at ≡ calls.place_tree p s
place-tree-is p (found.Rooted root) = refl
place-tree-is p (found.Fixed tree) = refl
place-tree-is p found.Nowhere = refl

place-fits-is : (type : AnyType) (s : found.Start) (t : AnyType) → place_fits type (started s) t ≡ calls.place_fits type s t
place-fits-is type (found.Rooted root) t = refl
place-fits-is type found.Nowhere t = refl
place-fits-is type (found.Fixed (x.Known v)) t = refl
place-fits-is type (found.Fixed (x.Bound k)) t = refl
place-fits-is type (found.Fixed (x.Read d)) t = refl
place-fits-is type (found.Fixed (x.Call k args at)) t = refl
place-fits-is type (found.Fixed (x.Not' s r)) t = refl
place-fits-is type (found.Fixed (x.Minus' s r)) t = refl
place-fits-is type (found.Fixed (x.Chain' s r u q)) t = refl
place-fits-is type (found.Fixed (x.Compare' op s r u q)) t = refl
place-fits-is type (found.Fixed (x.Implies' s r u q)) t = refl
place-fits-is type (found.Fixed (x.Choice' s r u q v w)) t = refl
place-fits-is type (found.Fixed (x.Quantified' all over s r)) t = refl
place-fits-is type (found.Fixed (x.IsUndefined d)) t = refl

fits-is : (type : AnyType) (s : found.Start) (t : Option AnyType) → fits (place_fits type (started s)) t ≡ fits (calls.place_fits type s) t
fits-is type s None = refl
fits-is type s (Some t) = place-fits-is type s t

may-write-is : (s : found.Start) → may_write (started s) ≡ calls.may_write s
may-write-is (found.Rooted (root.Global k)) = refl
may-write-is (found.Rooted (root.Local k)) = refl
may-write-is (found.Rooted (root.Formal k)) = refl
may-write-is (found.Rooted (root.Place k)) = refl
may-write-is (found.Fixed tree) = refl
may-write-is found.Nowhere = refl

copied-turn : (f : Formal) (p : FoundPlace) (d : JudgedArguments) (g : FoundArguments) → given (argued d (argument_judged (is_some p.type) (copy_of (is_simple_formal (Some f)) (started p.start) p.selectors p.at) (stopped p.weight) (sooner (first_fault p.faults) (own (fits (value_fits f.of) p.type) cause.E07 p.at)))) g ≡ given d (arguments_made (calls.copied (Some f) p) g)
copied-turn f p d g =
    argued-with (is_some p.type) (calls.copy_tree (Some f) p p.start) (copy_of (is_simple_formal (Some f)) (started p.start) p.selectors p.at) p.weight p.known
    (p.faults ++ unless (fits (value_fits f.of) p.type) cause.E07 p.at) (sooner (first_fault p.faults) (own (fits (value_fits f.of) p.type) cause.E07 p.at)) d g
    (copy-tree-is (Some f) p p.start) (sym (first-wanted p.faults (fits (value_fits f.of) p.type) cause.E07 p.at))

handed-turn : (f : Formal) (p : FoundPlace) (d : JudgedArguments) (g : FoundArguments) → given (argued d (argument_judged (is_some p.type) (handed_of (started p.start) p.selectors p.at) (stopped p.weight) (sooner (first_fault p.faults) (sooner (own (fits (place_fits f.of (started p.start)) p.type) cause.E07 p.at) (own (may_write (started p.start)) cause.E14 p.at))))) g ≡ given d (arguments_made (calls.handed f p) g)
handed-turn f p d g =
    let a = fits (calls.place_fits f.of p.start) p.type in
    let b = calls.may_write p.start in
    argued-with (is_some p.type) (calls.place_tree p p.start) (handed_of (started p.start) p.selectors p.at) p.weight p.known
    (p.faults ++ (unless a cause.E07 p.at ++ unless b cause.E14 p.at))
    (sooner (first_fault p.faults) (sooner (own (fits (place_fits f.of (started p.start)) p.type) cause.E07 p.at) (own (may_write (started p.start)) cause.E14 p.at))) d g
    (place-tree-is p p.start)
    (ap (λ c. sooner (first_fault p.faults) (sooner (own c cause.E07 p.at) (own (may_write (started p.start)) cause.E14 p.at))) (fits-is f.of p.start p.type)
    ∙ ap (λ c. sooner (first_fault p.faults) (sooner (own a cause.E07 p.at) (own c cause.E14 p.at))) (may-write-is p.start)
    ∙ ap (λ o. sooner (first_fault p.faults) (sooner o (own b cause.E14 p.at))) (sym (first-unless a cause.E07 p.at))
    ∙ ap (sooner (first_fault p.faults)) (sym (first-wanted (unless a cause.E07 p.at) b cause.E14 p.at))
    ∙ sym (first-append p.faults (unless a cause.E07 p.at ++ unless b cause.E14 p.at)))

pub placed-turn : (o : Option Formal) (p : FoundPlace) (d : JudgedArguments) (g : FoundArguments) → given (argued d (placed o (judged_place p))) g ≡ given d (arguments_made (calls.placed o p) g)
placed-turn None p d g =
    argued-with (is_some p.type) (calls.copy_tree None p p.start) (copy_of (is_simple_formal None) (started p.start) p.selectors p.at) p.weight p.known p.faults
    (sooner (first_fault p.faults) None) d g (copy-tree-is None p p.start) (sooner-none (first_fault p.faults))
placed-turn (Some f) p d g = go f.by_place
  where
    go : (b : Bool) → given (argued d (if b then argument_judged (is_some p.type) (handed_of (started p.start) p.selectors p.at) (stopped p.weight) (sooner (first_fault p.faults) (sooner (own (fits (place_fits f.of (started p.start)) p.type) cause.E07 p.at) (own (may_write (started p.start)) cause.E14 p.at))) else argument_judged (is_some p.type) (copy_of (is_simple_formal (Some f)) (started p.start) p.selectors p.at) (stopped p.weight) (sooner (first_fault p.faults) (own (fits (value_fits f.of) p.type) cause.E07 p.at)))) g ≡ given d (arguments_made (if b then calls.handed f p else calls.copied (Some f) p) g)
    go true = handed-turn f p d g
    go false = copied-turn f p d g

-- Other expressions

pub valued-turn : (name at : Span) (o : Option Formal) (f : Found) (d : JudgedArguments) (g : FoundArguments) → given (argued d (valued name at o (judged f))) g ≡ given d (arguments_made (calls.valued name at o f) g)
valued-turn name at None f d g =
    argued-with (is_some f.type) (argument.Value f.tree) (argument.Value f.tree) f.weight f.known f.faults
    (sooner (first_fault f.faults) None) d g refl (sooner-none (first_fault f.faults))
valued-turn name at (Some o) f d g =
    argued-with (is_some f.type) (argument.Value f.tree) (argument.Value f.tree) f.weight f.known
    (f.faults ++ calls.value_faults_of name at o f.type) (sooner (first_fault f.faults) (own_value name at (Some o) f.type)) d g refl
    (ap (sooner (first_fault f.faults)) (go o.by_place) ∙ sym (first-append f.faults (calls.value_faults_of name at o f.type)))
  where
    go : (b : Bool) → (if b then own false cause.E11 name else own (fits (value_fits o.of) f.type) cause.E07 at) ≡ first_fault (if b then lone cause.E11 name else unless (fits (value_fits o.of) f.type) cause.E07 at)
    go true = refl
    go false = sym (first-unless (fits (value_fits o.of) f.type) cause.E07 at)

-- Arguments as they are written

argument-Place : (s : Scope) (k : Known) (at : Span) (o : Option Formal) (d : Designator) → argument_found s k at o (e.Place d) ≡ calls.placed o (place_found s k d)
argument-Place s k at o d =
    let c = start_type d.root.at (looked s k d.root.name) in
    ap (λ g. calls.placed o (place_made d.root.at (looked s k d.root.name) c g)) (selectors-are s k d.root.at c.type d.selectors)

placed-known : (o : Option Formal) (p : FoundPlace) → (calls.placed o p).known ≡ p.known
placed-known None p = refl
placed-known (Some f) p = go f.by_place
  where
    go : (b : Bool) → (if b then calls.handed f p else calls.copied (Some f) p).known ≡ p.known
    go true = refl
    go false = refl

pub place-turn : (s : Scope) (k : Known) (at : Span) (formals : List Formal) (p : Designator) (o : Option Formal) (d : JudgedArguments) (rest : List Expr) → o ≡ first_of formals →
    given (argued d (placed o (place_part (designated s k p)))) (list_arguments s (designated s k p).known at (rest_of formals) rest) ≡ given d (list_arguments s k at formals (e.Place p ∷ rest))
unfolding place_part designated
place-turn s k at formals p o d rest is =
    let P = place_found s k p in
    let q = first_of formals in
    ap (λ c. given (argued d (placed c (judged_place P))) (list_arguments s P.known at (rest_of formals) rest)) is
    ∙ placed-turn q P d (list_arguments s P.known at (rest_of formals) rest)
    ∙ ap (λ j. given d (arguments_made (calls.placed q P) (list_arguments s j at (rest_of formals) rest))) (sym (placed-known q P))
    ∙ ap (λ A. given d (arguments_made A (list_arguments s A.known at (rest_of formals) rest))) (sym (argument-Place s k at q p))

valued-known : (name at : Span) (o : Option Formal) (f : Found) → (calls.valued name at o f).known ≡ f.known
valued-known name at None f = refl
valued-known name at (Some c) f = refl

-- an expression that is no designator
pub other-turn : (s : Scope) (k : Known) (at : Span) (formals : List Formal) (first : Expr) (o : Option Formal) (d : JudgedArguments) (rest : List Expr) → ((q : Option Formal) → argument_found s k at q first ≡ calls.valued at (place_of first) q (typing.found s k first)) → o ≡ first_of formals →
    given (argued d (valued at (place_of first) o (part_of (typing.found s k first)))) (list_arguments s (typing.found s k first).known at (rest_of formals) rest) ≡ given d (list_arguments s k at formals (first ∷ rest))
unfolding part_of
other-turn s k at formals first o d rest other is =
    let f = typing.found s k first in
    let q = first_of formals in
    ap (λ c. given (argued d (valued at (place_of first) c (judged f))) (list_arguments s f.known at (rest_of formals) rest)) is
    ∙ valued-turn at (place_of first) q f d (list_arguments s f.known at (rest_of formals) rest)
    ∙ ap (λ j. given d (arguments_made (calls.valued at (place_of first) q f) (list_arguments s j at (rest_of formals) rest))) (sym (valued-known at (place_of first) q f))
    ∙ ap (λ A. given d (arguments_made A (list_arguments s A.known at (rest_of formals) rest))) (sym (other q))

pub arguments-end : (d : JudgedArguments) (k : Known) (whole : FoundArguments) → stopped d.weight ≡ d.weight → given d (no_arguments k) ≡ given nothing_given whole → (d ≡ arguments_of whole) × (k ≡ whole.known)
unfolding arguments_of
arguments-end d k whole w h =
    let n : d.weight + 0 ≡ d.weight = omega arith in
    let z : 0 + whole.weight ≡ whole.weight = omega arith in (
      ap (λ b. record { typed = b; trees = d.trees; weight = d.weight; fault = d.fault }) (sym (and-true d.typed))
          ∙ ap (λ ts. record { typed = d.typed && true; trees = ts; weight = d.weight; fault = d.fault }) (sym (append-nil d.trees))
          ∙ ap (λ v. record { typed = d.typed && true; trees = d.trees ++ []; weight = v; fault = d.fault }) (sym (ap stopped n ∙ w))
          ∙ ap (λ o. record { typed = d.typed && true; trees = d.trees ++ []; weight = stopped (d.weight + 0); fault = o }) (sym (sooner-none d.fault))
          ∙ ap (λ (x : Given). x.part) h
          ∙ ap (λ v. record { typed = whole.typed; trees = whole.trees; weight = stopped v; fault = first_fault whole.faults }) z,
      ap (λ (x : Given). x.known) h,
    )

-- Formals in turn

pub formal-first : (fs : List Formal) (i : ℕ) → slice_get fs i ≡ first_of (drop i fs)
formal-first [] zero = refl
formal-first [] (suc i) = refl
formal-first (f ∷ fs) zero = refl
formal-first (f ∷ fs) (suc i) = formal-first fs i

pub formal-rest : (fs : List Formal) (i : ℕ) → rest_of (drop i fs) ≡ drop (suc i) fs
formal-rest [] zero = refl
formal-rest [] (suc i) = refl
formal-rest (f ∷ fs) zero = refl
formal-rest (f ∷ fs) (suc i) = formal-rest fs i

-- An expression is a designator, or it is none

abbrev with-first : Selector → Expr → Expr
with-first x (e.Place' root m r) = e.Place' root (tt ∷ m) (more_of-Selector x r)
with-first x other = other

place-same : (root : Named) (m : _) (row : _) → e.Place' root m row ≡ e.Place (record { root = root; selectors = items-the_row-Selector _ row })
unfolding shape-the_row-Selector-0 hidden-the_row-Selector-0 hidden
place-same root [] end_of-Selector = refl
place-same root (u ∷ us) (more_of-Selector x rest) = ap (with-first x) (place-same root us rest)

pub other-argument : (s : Scope) (k : Known) (at : Span) (o : Option Formal) (first : Expr) → ((x : Designator) → first ≡ e.Place x → ⊥) → argument_found s k at o first ≡ calls.valued at (place_of first) o (typing.found s k first)
other-argument s k at o (e.Place' root m row) h =
    absurd (h (record { root = root; selectors = items-the_row-Selector _ row }) (place-same root m row))
other-argument s k at o (e.Number n p) h = refl
other-argument s k at o (e.Truth b p) h = refl
other-argument s k at o (e.Call' name u row) h = refl
other-argument s k at o (e.Not' u row p) h = refl
other-argument s k at o (e.Minus' u row p) h = refl
other-argument s k at o (e.Chain' u row v links) h = refl
other-argument s k at o (e.Compare' op u row v right) h = refl
other-argument s k at o (e.Implies' u row v right) h = refl
other-argument s k at o (e.Choice' a b c d f g) h = refl
other-argument s k at o (e.Quantified' all a b c d p) h = refl
other-argument s k at o (e.IsUndefined' root u row p) h = refl
