-- What is found of arguments and calls without faults: steps from parts to wholes.
use Rattle.std.proofs.Common.{◌≡◌, ℕ, Bool, true, false, not, ◌||◌, List, [], ◌∷◌, ◌++◌, length, Option, None, Some, refl, sym, ap, ◌∙◌}
use Rattle.std.specs.Prelude.{is_some, slice_get, option_map, option_and_then, if◌then◌else◌}
use Rattle.std.specs.List.{list_all}
use Rattle.std.specs.Option.{option_map_or}
use Rattle.std.proofs.lemmas.Bool.{and_parts, and_from, eqb-true, true≢false}
use Rattle.murphi_ast.specs.declared.token.Span.{Span}
use Rattle.murphi_ast.specs.declared.expr.Named.{Named}
use Rattle.murphi_ast.specs.declared.expr.Expr.{Expr}
use Rattle.murphi_typed.specs.declared.types.Simple.{Simple}
use Rattle.murphi_typed.specs.declared.types.AnyType as t
use Rattle.murphi_typed.specs.declared.types.AnyType.{AnyType}
use Rattle.murphi_typed.specs.Forms.{ArrayForm}
use Rattle.murphi_typed.specs.declared.expr.Root.{Root}
use Rattle.murphi_typed.specs.declared.expr.Root.TheVariants as root
use Rattle.murphi_typed.specs.declared.expr.Expr as x
use Rattle.murphi_typed.specs.declared.expr.Designator.{Designator}
use Rattle.murphi_typed.specs.declared.expr.Argument as argument
use Rattle.murphi_typed.specs.declared.expr.Arguments as a
use Rattle.murphi_typed.specs.declared.protocol.Formal.{Formal}
use Rattle.murphi_typed.specs.declared.protocol.Routine.{Routine}
use Rattle.murphi_typed.specs.WellTyped.{widened, same_simple, has_parts, same_type, is_compound, is_of, only_if, simple_part, given_value, first_of, rest_of, place_type, arguments_fit, argument_fits, type_of}
use Rattle.murphi_typed.specs.WellTyped as well
use Rattle.murphi_types.specs.declared.fault.Cause.TheVariants as cause
use Rattle.murphi_types.specs.declared.scope.Meaning.{Meaning}
use Rattle.murphi_types.specs.declared.scope.Meaning.TheVariants as meaning
use Rattle.murphi_types.specs.declared.scope.Known.{Known}
use Rattle.murphi_types.specs.declared.scope.Scope.{Scope}
use Rattle.murphi_types.specs.Faults.{unless, lone, is_clear}
use Rattle.murphi_types.specs.Fitting.{fits, is_simple}
use Rattle.murphi_types.specs.Found.{Found}
use Rattle.murphi_types.specs.Designators.{Start, Rooted, Fixed, Nowhere, FoundPlace, designator_of}
use Rattle.murphi_types.specs.Calls.{Callee, callee_of, formals_of, is_function, value_faults, count_fits, FoundArguments, arguments_made, value_fits, place_fits, may_write, copy_tree, place_tree, copied, handed, placed, value_faults_of, valued, result_of, call_found}
use Rattle.typing_sound.proofs.Fits.{NamesFit, WhatFits}
use Rattle.typing_sound.proofs.TypeEquations.{list_args, of-Call, args-Of}
use Rattle.typing_sound.proofs.Tests.{nil-parts, unless-passes, some-same, wide-twice}
use Rattle.typing_sound.proofs.ConstantLemmas.{some-of}
use Rattle.typing_sound.proofs.Parts.{Says, IsFound, is_place, StartFits, IsPlace}

pub record IsArgument (W : well.Scope) (o : Option Formal) (g : FoundArguments) : Type 0 where
  pub typed : g.typed ≡ true
  pub one : argument.Argument
  pub is : g.trees ≡ one ∷ []
  pub fits : (f : Formal) → o ≡ Some f → argument_fits W (Some f) one ≡ true
  pub names : NamesFit W g.known

pub record AreArguments (W : well.Scope) (formals : List Formal) (g : FoundArguments) : Type 0 where
  pub typed : g.typed ≡ true
  pub fit : length formals ≡ length g.trees → list_args W formals g.trees ≡ true
  pub names : NamesFit W g.known

-- in a function only routines without `var` formals are called
abbrev pub Allowed : well.Scope → List Formal → Type 0
Allowed W formals = well.is_function W.exit ≡ true → list_all (λ (f : Formal). not f.by_place) formals ≡ true

abbrev pub AllowedOne : well.Scope → Option Formal → Type 0
AllowedOne W o = (f : Formal) → o ≡ Some f → well.is_function W.exit ≡ true → f.by_place ≡ false

is-not : (b : Bool) → not b ≡ true → b ≡ false
is-not true e = cc
is-not false e = refl

pub allowed-first : (W : well.Scope) (formals : List Formal) → Allowed W formals → AllowedOne W (first_of formals)
allowed-first W [] allowed f is inside = cc
allowed-first W (g ∷ gs) allowed f is inside =
    let (first, rest) = and_parts (not g.by_place) (list_all (λ (f : Formal). not f.by_place) gs) (allowed inside) in
    ap (λ (h : Formal). h.by_place) (sym (some-same is)) ∙ is-not g.by_place first

pub allowed-rest : (W : well.Scope) (formals : List Formal) → Allowed W formals → Allowed W (rest_of formals)
allowed-rest W [] allowed inside = refl
allowed-rest W (g ∷ gs) allowed inside = (and_parts (not g.by_place) (list_all (λ (f : Formal). not f.by_place) gs) (allowed inside)).1

-- By value

value-of : (of : AnyType) (u : Simple) (found : Option Simple) → found ≡ Some (widened u) → value_fits of (t.Simple u) ≡ true → option_map_or (λ type. is_of type found) (simple_part (Some of)) false ≡ true
unfolding has_parts
value-of (t.Simple v) u found is passes = ap (is_of v) is ∙ passes
value-of (t.Record' shape fields) u found is passes = absurd (true≢false (sym passes))
value-of (ArrayForm index item) u found is passes = absurd (true≢false (sym passes))

value-given : (f : Formal) (u : Simple) (found : Option Simple) → f.by_place ≡ false → found ≡ Some (widened u) → value_fits f.of (t.Simple u) ≡ true → given_value (Some f) found ≡ true
value-given f u found by_value is passes = and_from _ _ (ap not by_value) (value-of f.of u found is passes)

value-argument : (W : well.Scope) (f : Formal) (u : Simple) (tree : x.Expr) → f.by_place ≡ false → type_of W tree ≡ Some (widened u) → value_fits f.of (t.Simple u) ≡ true → argument_fits W (Some f) (argument.Value tree) ≡ true
unfolding type_of
value-argument W f u tree by_value is passes = value-given f u (type_of W tree) by_value is passes

compound-is : (of type : AnyType) → is_simple of ≡ false → value_fits of type ≡ true → (is_compound of ≡ true) × (same_type of type ≡ true)
compound-is (t.Simple v) type other passes = cc
compound-is (t.Record' shape fields) type other passes = (refl, passes)
compound-is (t.Array' index shape item) type other passes = (refl, passes)

simple-value : (of : AnyType) (type : AnyType) → is_simple of ≡ true → value_fits of type ≡ true → (u : Simple) × (type ≡ t.Simple u)
simple-value (t.Simple v) (t.Simple u) one passes = (u, refl)
simple-value (t.Simple v) (t.Record' shape fields) one passes = cc
simple-value (t.Simple v) (t.Array' index shape item) one passes = cc
simple-value (t.Record' shape fields) type one passes = cc
simple-value (t.Array' index shape item) type one passes = cc

copy-rooted : (W : well.Scope) (f : Formal) (d : Designator) (type : AnyType) → f.by_place ≡ false → place_type W d ≡ Some type → value_fits f.of type ≡ true → argument_fits W (Some f) (if is_simple f.of then argument.Copy d else argument.CopyAll d) ≡ true
unfolding type_of
copy-rooted W f d type by_value is passes = go (is_simple f.of) refl
  where
    go : (b : Bool) → is_simple f.of ≡ b → argument_fits W (Some f) (if b then argument.Copy d else argument.CopyAll d) ≡ true
    go true one =
        let (u, same) = simple-value f.of type one passes in
        value-given f u (option_map widened (simple_part (place_type W d))) by_value (ap (λ o. option_map widened (simple_part o)) (is ∙ ap Some same)) (sym (ap (value_fits f.of) same) ∙ passes)
    go false other =
        let (compound, same) = compound-is f.of type other passes in
        and_from _ _ (ap not by_value) (and_from _ _ compound (ap (λ o. option_map_or (same_type f.of) o false) is ∙ same))

copy-fits : (W : well.Scope) (f : Formal) (p : FoundPlace) (start : Start) (type : AnyType) → f.by_place ≡ false → StartFits W p start type → value_fits f.of type ≡ true → argument_fits W (Some f) (copy_tree (Some f) p start) ≡ true
copy-fits W f p (Rooted root) type by_value h passes = copy-rooted W f (designator_of root p) type by_value h.0 passes
copy-fits W f p (Fixed tree) type by_value (u, h) passes = value-argument W f u tree by_value h.1 (sym (ap (value_fits f.of) h.0) ∙ passes)
copy-fits W f p Nowhere type by_value h passes = absurd h

copied-some : (W : well.Scope) (f : Formal) (p : FoundPlace) → f.by_place ≡ false → (p.faults ≡ [] → IsPlace W p) → (copied (Some f) p).faults ≡ [] → IsArgument W (Some f) (copied (Some f) p)
copied-some W f p by_value place none =
    let (clear, passes) = nil-parts p.faults (unless (fits (value_fits f.of) p.type) cause.E07 p.at) none in
    let passed = unless-passes (fits (value_fits f.of) p.type) cause.E07 p.at passes in
    let r = place clear in
    record {
      typed = and_from _ _ (ap is_some r.is) (ap is_clear none);
      one = copy_tree (Some f) p p.start;
      is = refl;
      fits = λ g same. ap (λ h. argument_fits W h (copy_tree (Some f) p p.start)) (sym same) ∙ copy-fits W f p p.start r.type by_value r.starts (sym (ap (fits (value_fits f.of)) r.is) ∙ passed);
      names = r.names;
    }

-- By place

pub write-is : (W : well.Scope) (r : Root) → may_write (Rooted r) ≡ true → ((k : ℕ) → r ≡ root.Global k → well.is_function W.exit ≡ false) → well.may_write W r ≡ true
write-is W (root.Global k) may outside = ap not (outside k refl)
write-is W (root.Local k) may outside = refl
write-is W (root.Formal k) may outside = cc
write-is W (root.Place k) may outside = refl

place-fits : (W : well.Scope) (f : Formal) (p : FoundPlace) (start : Start) (type : AnyType) → f.by_place ≡ true → well.is_function W.exit ≡ false → StartFits W p start type → place_fits f.of start type ≡ true → may_write start ≡ true → argument_fits W (Some f) (place_tree p start) ≡ true
unfolding type_of
place-fits W f p (Rooted root) type by_place outside h passes may =
    and_from _ _ (write-is W root may (λ k e. outside)) (and_from _ _ by_place (ap (λ o. option_map_or (same_type f.of) o false) h.0 ∙ passes))
place-fits W f p (Fixed tree) type by_place outside h passes may = cc
place-fits W f p Nowhere type by_place outside h passes may = absurd h

not-inside : (W : well.Scope) (f : Formal) → f.by_place ≡ true → (well.is_function W.exit ≡ true → f.by_place ≡ false) → well.is_function W.exit ≡ false
not-inside W f by_place inside = go (well.is_function W.exit) refl
  where
    go : (b : Bool) → well.is_function W.exit ≡ b → b ≡ false
    go true e = let other = inside e in cc
    go false e = refl

handed-some : (W : well.Scope) (f : Formal) (p : FoundPlace) → f.by_place ≡ true → (well.is_function W.exit ≡ true → f.by_place ≡ false) → (p.faults ≡ [] → IsPlace W p) → (handed f p).faults ≡ [] → IsArgument W (Some f) (handed f p)
handed-some W f p by_place inside place none =
    let (clear, own) = nil-parts p.faults (unless (fits (place_fits f.of p.start) p.type) cause.E07 p.at ++ unless (may_write p.start) cause.E14 p.at) none in
    let (first, second) = nil-parts (unless (fits (place_fits f.of p.start) p.type) cause.E07 p.at) (unless (may_write p.start) cause.E14 p.at) own in
    let passed = unless-passes (fits (place_fits f.of p.start) p.type) cause.E07 p.at first in
    let may = unless-passes (may_write p.start) cause.E14 p.at second in
    let r = place clear in
    record {
      typed = and_from _ _ (ap is_some r.is) (ap is_clear none);
      one = place_tree p p.start;
      is = refl;
      fits = λ g same. ap (λ h. argument_fits W h (place_tree p p.start)) (sym same)
          ∙ place-fits W f p p.start r.type by_place (not-inside W f by_place inside) r.starts (sym (ap (fits (place_fits f.of p.start)) r.is) ∙ passed) may;
      names = r.names;
    }

pub placed-step : (W : well.Scope) (o : Option Formal) (p : FoundPlace) → AllowedOne W o → (p.faults ≡ [] → IsPlace W p) → (placed o p).faults ≡ [] → IsArgument W o (placed o p)
placed-step W None p allowed place none =
    let r = place none in
    record {
      typed = and_from _ _ (ap is_some r.is) (ap is_clear none);
      one = copy_tree None p p.start;
      is = refl;
      fits = λ f same. cc;
      names = r.names;
    }
placed-step W (Some f) p allowed place none = go f.by_place refl none
  where
    go : (b : Bool) → f.by_place ≡ b → (if b then handed f p else copied (Some f) p).faults ≡ [] → IsArgument W (Some f) (if b then handed f p else copied (Some f) p)
    go true e none = handed-some W f p e (allowed f refl) place none
    go false e none = copied-some W f p e place none

-- Other arguments

pub found-simple : (W : well.Scope) (one : Expr) (f : Found) → is_place one ≡ false → IsFound W one f → (u : Simple) × ((f.type ≡ Some (t.Simple u)) × (type_of W f.tree ≡ Some (widened u)))
found-simple W one f other r = go r.type r.is r.says (r.value other)
  where
    go : (type : AnyType) → f.type ≡ Some type → Says W type f.tree → is_simple type ≡ true → (u : Simple) × ((f.type ≡ Some (t.Simple u)) × (type_of W f.tree ≡ Some (widened u)))
    go (t.Simple u) is says one = (u, (is, says.0 ∙ ap Some (sym says.1)))
    go (t.Record' shape fields) is says one = cc
    go (t.Array' index shape item) is says one = cc

valued-some : (W : well.Scope) (name at : Span) (formal : Formal) (f : Found) (u : Simple) → f.type ≡ Some (t.Simple u) → type_of W f.tree ≡ Some (widened u) → value_faults_of name at formal f.type ≡ [] → argument_fits W (Some formal) (argument.Value f.tree) ≡ true
valued-some W name at formal f u is typed none = go formal.by_place refl none
  where
    go : (b : Bool) → formal.by_place ≡ b → (if b then lone cause.E11 name else unless (fits (value_fits formal.of) f.type) cause.E07 at) ≡ [] → argument_fits W (Some formal) (argument.Value f.tree) ≡ true
    go true e none = cc
    go false e none = value-argument W formal u f.tree e typed (sym (ap (fits (value_fits formal.of)) is) ∙ unless-passes (fits (value_fits formal.of) f.type) cause.E07 at none)

pub valued-step : (W : well.Scope) (one : Expr) (name at : Span) (o : Option Formal) (f : Found) → is_place one ≡ false → (f.faults ≡ [] → IsFound W one f) → (valued name at o f).faults ≡ [] → IsArgument W o (valued name at o f)
valued-step W one name at None f other found none =
    let r = found none in
    record {
      typed = and_from _ _ (ap is_some r.is) (ap is_clear none);
      one = argument.Value f.tree;
      is = refl;
      fits = λ f same. cc;
      names = r.names;
    }
valued-step W one name at (Some formal) f other found none =
    let (clear, own) = nil-parts f.faults (value_faults_of name at formal f.type) none in
    let r = found clear in
    let (u, is) = found-simple W one f other r in
    record {
      typed = and_from _ _ (ap is_some r.is) (ap is_clear none);
      one = argument.Value f.tree;
      is = refl;
      fits = λ g same. ap (λ h. argument_fits W h (argument.Value f.tree)) (sym same) ∙ valued-some W name at formal f u is.0 is.1 own;
      names = r.names;
    }

-- Lists of arguments

list-step : (W : well.Scope) (formals : List Formal) (one : argument.Argument) (trees : List argument.Argument) → ((f : Formal) → first_of formals ≡ Some f → argument_fits W (Some f) one ≡ true)
    → (length (rest_of formals) ≡ length trees → list_args W (rest_of formals) trees ≡ true) → length formals ≡ length (one ∷ trees) → list_args W formals (one ∷ trees) ≡ true
list-step W [] one trees first rest long = cc
list-step W (f ∷ fs) one trees first rest long = let shorter : length fs ≡ length trees = cc in and_from _ _ (first f refl) (rest shorter)

pub arguments-step : (W : well.Scope) (formals : List Formal) (f g : FoundArguments) → IsArgument W (first_of formals) f → AreArguments W (rest_of formals) g → AreArguments W formals (arguments_made f g)
arguments-step W formals f g u v =
    record {
      typed = and_from _ _ u.typed v.typed;
      fit = λ long. ap (λ l. list_args W formals (l ++ g.trees)) u.is ∙ list-step W formals u.one g.trees u.fits v.fit (long ∙ ap (λ l. length (l ++ g.trees)) u.is);
      names = v.names;
    }

-- Calls

pub record IsCallee (W : well.Scope) (c : Callee) : Type 0 where
  pub called : Routine
  pub is : c.routine ≡ Some called
  pub there : slice_get W.routines c.number ≡ Some called

pub callee-step : (W : well.Scope) (s : Scope) (k : Known) (name : Named) (what : Option Meaning) → WhatFits W what → k.routines ≡ W.routines → (callee_of s k name what).faults ≡ [] → IsCallee W (callee_of s k name what)
callee-step W s k name None what same none = cc
callee-step W s k name (Some meaning.Refused) what same none = absurd what
callee-step W s k name (Some (meaning.Constant n)) what same none = cc
callee-step W s k name (Some (meaning.TypeName type)) what same none = cc
callee-step W s k name (Some (meaning.Variable root of)) what same none = cc
callee-step W s k name (Some (meaning.Bound number over)) what same none = cc
callee-step W s k name (Some (meaning.Member number index count)) what same none = cc
callee-step W s k name (Some (meaning.Routine number)) what same none =
    let (r, is) = some-of (slice_get W.routines number) what in
    record { called = r; is = ap (λ l. slice_get l number) same ∙ is; there = is }

pub formals-are : (W : well.Scope) (c : Callee) (u : IsCallee W c) → formals_of c ≡ u.called.formals
formals-are W c u = ap (λ o. option_map_or (λ (r : Routine). r.formals) o []) u.is

-- the arguments fit where there are as many as formals
pub counted : (W : well.Scope) (c : Callee) (g : FoundArguments) (u : IsCallee W c) → AreArguments W (formals_of c) g → count_fits c.routine (length g.trees) ≡ true → arguments_fit W u.called.formals (a.Of g.trees) ≡ true
counted W c g u args count =
    let long : length u.called.formals ≡ length g.trees = eqb-true (length u.called.formals) (length g.trees) (sym (ap (λ o. count_fits o (length g.trees)) u.is) ∙ count) in
    let same = formals-are W c u in
    args-Of W u.called.formals g.trees ∙ (ap (λ fs. list_args W fs g.trees) (sym same) ∙ args.fit (ap length same ∙ long))

function-is : (inside : Bool) (at : Span) (r : Routine) → value_faults inside at (Some r) ≡ [] → is_some r.result ≡ true
function-is inside at r none =
    let (first, second) = nil-parts (unless (is_function r) cause.E11 at) (unless (is_function r || not inside) cause.E10 at) none in
    unless-passes (is_function r) cause.E11 at first

pub call-step : (W : well.Scope) (one : Expr) (inside : Bool) (at : Span) (c : Callee) (g : FoundArguments) → (c.faults ≡ [] → IsCallee W c)
    → ((number : ℕ) (r : Routine) → slice_get W.routines number ≡ Some r → is_some r.result ≡ true → list_all (λ (f : Formal). not f.by_place) r.formals ≡ true)
    → (Allowed W (formals_of c) → g.faults ≡ [] → AreArguments W (formals_of c) g) → (call_found inside at c g).faults ≡ [] → IsFound W one (call_found inside at c g)
call-step W one inside at c g callee functions args none =
    let (clear, more) = nil-parts c.faults (value_faults inside at c.routine ++ (unless (count_fits c.routine (length g.trees)) cause.E11 at ++ g.faults)) none in
    let (valued, rest) = nil-parts (value_faults inside at c.routine) (unless (count_fits c.routine (length g.trees)) cause.E11 at ++ g.faults) more in
    let (number, last) = nil-parts (unless (count_fits c.routine (length g.trees)) cause.E11 at) g.faults rest in
    let count = unless-passes (count_fits c.routine (length g.trees)) cause.E11 at number in
    let u = callee clear in
    let function = function-is inside at u.called (sym (ap (value_faults inside at) u.is) ∙ valued) in
    let (res, is) = some-of u.called.result function in
    let allowed : Allowed W (formals_of c) = λ e. ap (list_all (λ (f : Formal). not f.by_place)) (formals-are W c u) ∙ functions c.number u.called u.there function in
    let v = args allowed last in
    let fit = counted W c g u v count in
    record {
      type = t.Simple (widened res);
      is = ap (λ b. only_if b (option_map (λ type. t.Simple (widened type)) (result_of c.routine))) (and_from _ _ v.typed count)
          ∙ (ap (λ o. option_map (λ type. t.Simple (widened type)) (result_of o)) u.is ∙ ap (option_map (λ type. t.Simple (widened type))) is);
      says = (
        of-Call W c.number (a.Of g.trees) at
            ∙ (ap (option_and_then (λ (r : Routine). only_if (arguments_fit W r.formals (a.Of g.trees)) (option_map widened r.result))) u.there
            ∙ (ap (λ b. only_if b (option_map widened u.called.result)) fit ∙ ap (option_map widened) is)),
        wide-twice res,
      );
      value = λ h. refl;
      names = v.names;
    }
