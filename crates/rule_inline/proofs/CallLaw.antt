-- Calls, by recursion over the list of routines: a routine calls only those before it in the text.
use Rattle.std.proofs.Common.{◌≡◌, ℕ, suc, Bool, true, false, ◌&&◌, List, [], ◌∷◌, ◌++◌, length, reverse, Option, None, Some, refl, sym, ap, ◌∙◌, subst, append_assoc}
use Rattle.std.specs.Prelude.{slice_get, if◌then◌else◌}
use Rattle.std.specs.List.{list_all}
use Rattle.std.specs.Option.{option_map_or}
use Rattle.std.proofs.lemmas.Bool.{and_parts}
use Rattle.term_core.specs.declared.value.Value.{Value}
use Rattle.term_core.specs.declared.value.Value.TheVariants as v
use Rattle.term_core.specs.Values.{truth}
use Rattle.term_core.specs.Meaning.{Cells, value_of}
use Rattle.term_core.specs.Laws.{PlacingBinds}
use Rattle.murphi_typed.specs.declared.types.Simple.{Simple}
use Rattle.murphi_typed.specs.declared.expr.Arguments.{Arguments}
use Rattle.murphi_typed.specs.declared.protocol.Routine.{Routine}
use Rattle.murphi_typed.specs.declared.protocol.Formal.{Formal as DeclaredFormal}
use Rattle.murphi_typed.specs.declared.stmt.Stmt.{Row_of-Stmt}
use Rattle.murphi_typed.specs.declared.protocol.Typed.{Typed}
use Rattle.murphi_typed.specs.Outcome.{Outcome, Got, Fault, given}
use Rattle.murphi_typed.specs.Expressions.{Given, arguments_of}
use Rattle.murphi_typed.specs.WellTyped.{formal_allowed, routine_scope, routine_fits, are_variables, is_simple_type, is_type, stmt_fits, arguments_fit}
use Rattle.murphi_typed.specs.Keeping.{Declared, LatestFit, inner_types}
use Rattle.murphi_typed.specs.Laws.{ValuesFitInBodies, BodiesKeepTypes, FunctionsGiveResults, CalledBodiesAreTyped}
use Rattle.rule_inline.specs.Demands.{demand}
use Rattle.rule_inline.specs.Tables.{Leaving, Result, Terms}
use Rattle.rule_inline.specs.Bodies.{called_site, entered, formals_fit, called, calls_in, done_by}
use Rattle.rule_inline.specs.Parts.{Given as Gift, Site, Done}
use Rattle.rule_inline.proofs.ValueLemmas.{absurd_false}
use Rattle.rule_inline.proofs.TermLemmas.{value-Known}
use Rattle.rule_inline.proofs.Outcome.{Tells, fails_first}
use Rattle.rule_inline.proofs.PlaceLemmas.{Rep}
use Rattle.rule_inline.proofs.TypeLemmas.{not_some}
use Rattle.rule_inline.proofs.SceneLemmas.{at_frame}
use Rattle.rule_inline.proofs.QuantifierLemmas.{tells_before}
use Rattle.rule_inline.proofs.PartLemmas.{Here, ArgsAre, FunctionTells}
use Rattle.murphi_typed.specs.Execution.{Ending, run, calls_of, call_of, called_scene, ended, entered as store_entered, formals_fit as store_formals_fit}
use Rattle.rule_inline.proofs.ChangeLemmas.{calls_unwritten}
use Rattle.rule_inline.proofs.EndLemmas.{Body, here_of, EndsWith, checked}
use Rattle.rule_inline.proofs.StatementLemmas.{stmt_loops, ProcedureTells}
use Rattle.std.specs.Prelude.{nat_eq}
use Rattle.rule_inline.proofs.StatementLaw.{LoopsTell, tells_stmt}
use Rattle.rule_inline.proofs.CallLemmas.{found_in, gifts_deeper, entered_rep, Decided, formals_decided, exit_result, procedure_left, FunctionLeft, function_left}

abbrev pub pick_type : Bool → Type 0 → Type 0 → Type 0
pick_type true A B = A
pick_type false A B = B

-- what is asked of the loops of a called routine, where it is called like this
abbrev pub fine_in : (List Routine → (n : _) → Site → Row_of-Stmt n → Type 0) → List Routine → ℕ → Site → List Gift → Type 0
fine_in Q [] k site gifts = Unit {0}
fine_in Q (r ∷ earlier) k site gifts =
    pick_type (nat_eq k (length earlier)) (stmt_loops (calls_in earlier) (fine_in Q earlier) (Q earlier) (called_site site r.result gifts) r.body)
    (fine_in Q earlier k site gifts)

-- functions have their loops as asked wherever they are called
abbrev pub FunctionsFine : (List Routine → (n : _) → Site → Row_of-Stmt n → Type 0) → List Routine → Type 0
FunctionsFine Q [] = Unit {0}
FunctionsFine Q (r ∷ earlier) =
    ((u : Simple) (site : Site) (gifts : List Gift) → r.result ≡ Some u → stmt_loops (calls_in earlier) (fine_in Q earlier) (Q earlier) (called_site site r.result gifts) r.body)
    × FunctionsFine Q earlier

picked : (A B : Type 0) (b : Bool) → b ≡ true → A → pick_type b A B
picked A B true e a = a
picked A B false e a = absurd_false e

passed : (A B : Type 0) (b : Bool) → b ≡ false → B → pick_type b A B
passed A B true e a = absurd_false (sym e)
passed A B false e a = a

unpicked : (A B : Type 0) (b : Bool) → b ≡ true → pick_type b A B → A
unpicked A B true e a = a
unpicked A B false e a = absurd_false e

unpassed : (A B : Type 0) (b : Bool) → b ≡ false → pick_type b A B → B
unpassed A B true e a = absurd_false (sym e)
unpassed A B false e a = a

pub function_fine : (Q : List Routine → (n : _) → Site → Row_of-Stmt n → Type 0) (tail : List Routine) → FunctionsFine Q tail → (k : ℕ) (r : Routine) (u : Simple) → slice_get (reverse tail) k ≡ Some r → r.result ≡ Some u → (site : Site) (gifts : List Gift) → fine_in Q tail k site gifts
function_fine Q [] all k r u found is site gifts = tt
function_fine Q (r0 ∷ earlier) (first, rest) k r u found is site gifts =
    found_in r0 r earlier k found
    (λ here same. picked _ _ (nat_eq k (length earlier)) here (first u site gifts (ap (λ (q : Routine). q.result) same ∙ is)))
    (λ there found'. passed _ _ (nat_eq k (length earlier)) there (function_fine Q earlier rest k r u found' is site gifts))

module _ (binds : PlacingBinds) (fit : ValuesFitInBodies) (keep : BodiesKeepTypes) (results : FunctionsGiveResults) (enter : CalledBodiesAreTyped) (s : Cells) (P : Typed) (globals : are_variables P.kinds P.globals ≡ true) (Q : List Routine → (n : _) → Site → Row_of-Stmt n → Type 0)
    (loop_tells : (latest : List Routine) (types : Declared) → LoopsTell binds fit keep results s P latest types (calls_in latest) (fine_in Q latest) (Q latest)) where
  -- a call by its number among the last routines of a list
  abbrev pub CallTells : List Routine → Type 0
  CallTells tail =
      (latest : List Routine) (types : Declared) (h : Here s P latest types) (k : ℕ) (r : Routine) (args : Arguments) (gs : List Given) (gifts : List Gift)
      → slice_get (reverse tail) k ≡ Some r → arguments_fit h.scope r.formals args ≡ true
      → arguments_of (calls_of latest) h.scene h.at h.cells args ≡ Got gs
      → ArgsAre h.scene.nodes s h.scene.depth h.fr r.formals gifts gs
      → fine_in Q tail k (at_frame h.fr h.site) gifts
      → (r.result ≡ None → Tells h.scene.nodes s h.fr (calls_of tail k h.scene h.at gs h.cells) ((calls_in tail k (at_frame h.fr h.site) h.T gifts).demands) (λ left. Rep h.scene.nodes s h.scene.depth h.fr ((calls_in tail k (at_frame h.fr h.site) h.T gifts).change.now) left.cells))
      × ((u : Simple) → r.result ≡ Some u → Tells h.scene.nodes s h.fr (calls_of tail k h.scene h.at gs h.cells) ((calls_in tail k (at_frame h.fr h.site) h.T gifts).demands ++ demand ((calls_in tail k (at_frame h.fr h.site) h.T gifts).change.now Leaving) ∷ [])
      (λ left. (w : Value) × (left.result ≡ Some w) × (value_of h.scene.nodes s h.fr ((calls_in tail k (at_frame h.fr h.site) h.T gifts).change.now Result) ≡ w)))

  module _ (latest : List Routine) (types : Declared) (h : Here s P latest types) (r : Routine) (earlier : List Routine) (args : Arguments) (gs : List Given) (gifts : List Gift)
      (known : LatestFit P earlier) (fits_r : routine_fits P (reverse earlier) r ≡ true) (all_functions : FunctionsFine Q earlier) (inner_calls : CallTells earlier)
      (fits : arguments_fit h.scope r.formals args ≡ true) (was : arguments_of (calls_of latest) h.scene h.at h.cells args ≡ Got gs) (are : ArgsAre h.scene.nodes s h.scene.depth h.fr r.formals gifts gs)
      (fine : stmt_loops (calls_in earlier) (fine_in Q earlier) (Q earlier) (called_site (at_frame h.fr h.site) r.result gifts) r.body) where
    abbrev types' : Declared
    types' = inner_types (suc h.scene.depth) r.formals r.locals types

    abbrev site' : Site
    site' = called_site h.site r.result gifts

    abbrev T' : Terms
    T' = entered (suc h.site.depth) gifts h.T

    body_done : Done
    body_done = done_by (calls_in earlier) (at_frame h.fr site') T' r.body

    callee : store_formals_fit h.scene.nodes r.formals gs ≡ true → Body s P earlier types'
    callee tested = record {
      scope = routine_scope P (reverse earlier) r;
      scene = called_scene h.scene gs;
      fr = h.fr;
      site = site';
      T = T';
      cells = store_entered (suc h.scene.depth) gs h.cells;
      typed = enter P latest earlier r types h.scope h.scene h.cells (calls_of latest) h.at args gs globals h.typed fits_r known fits was tested;
      sited = record { depth = ap suc h.sited.depth; bound = tt; formals = gifts_deeper h.scene.nodes s h.scene.depth h.fr r.formals gifts gs are };
      rep = subst (λ d. Rep h.scene.nodes s (suc h.scene.depth) h.fr (entered (suc d) gifts h.T) (store_entered (suc h.scene.depth) gs h.cells)) (sym h.sited.depth) (entered_rep h.scene.nodes s h.scene.depth h.fr r.formals gifts gs h.T h.cells are h.rep);
      staying = ap truth (value-Known h.scene.nodes s h.fr (v.Truth false));
      exits = exit_result r.result;
    }

    body_fits_r : stmt_fits (routine_scope P (reverse earlier) r) r.body ≡ true
    body_fits_r =
        (and_parts (are_variables P.kinds r.locals) (stmt_fits (routine_scope P (reverse earlier) r) r.body)
        (and_parts (option_map_or (is_simple_type P.kinds) r.result true) (are_variables P.kinds r.locals && stmt_fits (routine_scope P (reverse earlier) r) r.body)
        (and_parts (list_all (λ (f : DeclaredFormal). is_type P.kinds f.of && formal_allowed r.result f) r.formals) (option_map_or (is_simple_type P.kinds) r.result true && (are_variables P.kinds r.locals && stmt_fits (routine_scope P (reverse earlier) r) r.body)) fits_r).1).1).1

    functions' : (h' : Here s P earlier types') → FunctionTells s P earlier types' (calls_in earlier) h'
    functions' h' k q u args' gs' gifts' found is fits' was' are' = (inner_calls earlier types' h' k q args' gs' gifts' found fits' was' are' (function_fine Q earlier all_functions k q u found is (at_frame h'.fr h'.site) gifts')).1 u is

    procedures' : (b : Body s P earlier types') → ProcedureTells binds fit keep results s P earlier types' (calls_in earlier) (fine_in Q earlier) b
    procedures' b k q args' at gs' gifts' found none fits' was' are' allowed = (inner_calls earlier types' (here_of results s P earlier types' b at) k q args' gs' gifts' found fits' was' are' allowed).0 none

    body_told : (tested : store_formals_fit h.scene.nodes r.formals gs ≡ true) → Tells h.scene.nodes s h.fr (given (run (calls_of earlier) (called_scene h.scene gs) (store_entered (suc h.scene.depth) gs h.cells) r.body) (checked h.scene.nodes s h.at r.result)) body_done.demands (EndsWith h.scene.nodes s (suc h.scene.depth) h.fr r.result body_done.change)
    unfolding callee body_done done_by
    body_told tested = tells_stmt binds fit keep results s P earlier types' (calls_in earlier) (fine_in Q earlier) functions' procedures' (calls_unwritten earlier) (Q earlier) (loop_tells earlier types') r.body (callee tested) h.at body_fits_r fine

    done_here : Done
    done_here = called (calls_in earlier) r (at_frame h.fr h.site) h.T gifts

    ranges : Decided h.scene.nodes s h.scene.depth h.fr (store_formals_fit h.scene.nodes r.formals gs) (formals_fit r.formals gifts)
    ranges = formals_decided h.scene.nodes s h.scene.depth h.fr h.at r.formals gifts gs are

    call_procedure : r.result ≡ None → Tells h.scene.nodes s h.fr (call_of (calls_of earlier) r h.scene h.at gs h.cells) done_here.demands (λ left. Rep h.scene.nodes s h.scene.depth h.fr done_here.change.now left.cells)
    unfolding done_here body_done done_by
    call_procedure none = go (store_formals_fit h.scene.nodes r.formals gs) refl ranges
      where
        told : (o : Option Simple) → o ≡ None → (e : Outcome Ending) → Tells h.scene.nodes s h.fr (given e (checked h.scene.nodes s h.at o)) body_done.demands (EndsWith h.scene.nodes s (suc h.scene.depth) h.fr o body_done.change) → Tells h.scene.nodes s h.fr (given e (ended o h.scene h.at)) body_done.demands (λ left. Rep h.scene.nodes s h.scene.depth h.fr body_done.change.now left.cells)
        told None is e t = procedure_left h.scene.nodes s h.scene.depth h.fr h.scene refl h.at body_done.demands body_done.change e t
        told (Some u) is e t = absurd (not_some' is)
          where
            not_some' : Some u ≡ None → ⊥
            not_some' e = cc

        go : (b : Bool) → store_formals_fit h.scene.nodes r.formals gs ≡ b → Decided h.scene.nodes s h.scene.depth h.fr b (formals_fit r.formals gifts) → Tells h.scene.nodes s h.fr (if b then given (run (calls_of earlier) (called_scene h.scene gs) (store_entered (suc h.scene.depth) gs h.cells) r.body) (ended r.result h.scene h.at) else Fault h.at) done_here.demands (λ left. Rep h.scene.nodes s h.scene.depth h.fr done_here.change.now left.cells)
        go true was d = tells_before h.scene.nodes s h.fr (formals_fit r.formals gifts) body_done.demands _ _ (d.0 refl) (told r.result none _ (body_told was))
        go false was d = fails_first h.scene.nodes s h.fr (formals_fit r.formals gifts) body_done.demands (d.1 refl)

    call_function : (u : Simple) → r.result ≡ Some u → Tells h.scene.nodes s h.fr (call_of (calls_of earlier) r h.scene h.at gs h.cells) (done_here.demands ++ demand (done_here.change.now Leaving) ∷ []) (FunctionLeft h.scene.nodes s h.scene.depth h.fr h.scene refl h.at done_here.demands done_here.change)
    unfolding done_here body_done done_by
    call_function u some = go (store_formals_fit h.scene.nodes r.formals gs) refl ranges
      where
        told : (o : Option Simple) → o ≡ Some u → (e : Outcome Ending) → Tells h.scene.nodes s h.fr (given e (checked h.scene.nodes s h.at o)) body_done.demands (EndsWith h.scene.nodes s (suc h.scene.depth) h.fr o body_done.change) → Tells h.scene.nodes s h.fr (given e (ended o h.scene h.at)) (body_done.demands ++ demand (body_done.change.now Leaving) ∷ []) (FunctionLeft h.scene.nodes s h.scene.depth h.fr h.scene refl h.at body_done.demands body_done.change)
        told None is e t = absurd (not_none is)
          where
            not_none : None ≡ Some u → ⊥
            not_none e = cc
        told (Some w) is e t = function_left h.scene.nodes s h.scene.depth h.fr h.scene refl h.at body_done.demands body_done.change w e t

        go : (b : Bool) → store_formals_fit h.scene.nodes r.formals gs ≡ b → Decided h.scene.nodes s h.scene.depth h.fr b (formals_fit r.formals gifts) → Tells h.scene.nodes s h.fr (if b then given (run (calls_of earlier) (called_scene h.scene gs) (store_entered (suc h.scene.depth) gs h.cells) r.body) (ended r.result h.scene h.at) else Fault h.at) ((formals_fit r.formals gifts ++ body_done.demands) ++ demand (body_done.change.now Leaving) ∷ []) (FunctionLeft h.scene.nodes s h.scene.depth h.fr h.scene refl h.at done_here.demands done_here.change)
        go true was d =
            subst (λ qs. Tells h.scene.nodes s h.fr (given (run (calls_of earlier) (called_scene h.scene gs) (store_entered (suc h.scene.depth) gs h.cells) r.body) (ended r.result h.scene h.at)) qs (FunctionLeft h.scene.nodes s h.scene.depth h.fr h.scene refl h.at done_here.demands done_here.change)) (sym (append_assoc (formals_fit r.formals gifts) body_done.demands (demand (body_done.change.now Leaving) ∷ [])))
            (tells_before h.scene.nodes s h.fr (formals_fit r.formals gifts) (body_done.demands ++ demand (body_done.change.now Leaving) ∷ []) _ _ (d.0 refl) (told r.result some _ (body_told was)))
        go false was d = fails_first h.scene.nodes s h.fr (formals_fit r.formals gifts ++ body_done.demands) (demand (body_done.change.now Leaving) ∷ []) (fails_first h.scene.nodes s h.fr (formals_fit r.formals gifts) body_done.demands (d.1 refl))

  -- every call
  pub calls_told : (tail : List Routine) → LatestFit P tail → FunctionsFine Q tail → CallTells tail
  unfolding done_here done_by
  calls_told [] known fine latest types h k r args gs gifts found fits was are allowed = absurd (not_some found)
  calls_told (r0 ∷ earlier) (fits_r, known) (fine, rest) latest types h k r args gs gifts found fits was are allowed =
      found_in r0 r earlier k found
      (λ here same. at_this (calls_told earlier known rest) here same)
      (λ there found'. at_earlier (calls_told earlier known rest) there found')
    where
      at_this : CallTells earlier → nat_eq k (length earlier) ≡ true → r0 ≡ r → (r.result ≡ None → Tells h.scene.nodes s h.fr (calls_of (r0 ∷ earlier) k h.scene h.at gs h.cells) ((calls_in (r0 ∷ earlier) k (at_frame h.fr h.site) h.T gifts).demands) (λ left. Rep h.scene.nodes s h.scene.depth h.fr ((calls_in (r0 ∷ earlier) k (at_frame h.fr h.site) h.T gifts).change.now) left.cells))
          × ((u : Simple) → r.result ≡ Some u → Tells h.scene.nodes s h.fr (calls_of (r0 ∷ earlier) k h.scene h.at gs h.cells) ((calls_in (r0 ∷ earlier) k (at_frame h.fr h.site) h.T gifts).demands ++ demand ((calls_in (r0 ∷ earlier) k (at_frame h.fr h.site) h.T gifts).change.now Leaving) ∷ [])
          (λ left. (w : Value) × (left.result ≡ Some w) × (value_of h.scene.nodes s h.fr ((calls_in (r0 ∷ earlier) k (at_frame h.fr h.site) h.T gifts).change.now Result) ≡ w)))
      at_this inner_calls here same = go (nat_eq k (length earlier)) here allowed
        where
          go : (b : Bool) → b ≡ true → pick_type b (stmt_loops (calls_in earlier) (fine_in Q earlier) (Q earlier) (called_site (at_frame h.fr h.site) r0.result gifts) r0.body) (fine_in Q earlier k (at_frame h.fr h.site) gifts) → (r.result ≡ None → Tells h.scene.nodes s h.fr (if b then call_of (calls_of earlier) r0 h.scene h.at gs h.cells else calls_of earlier k h.scene h.at gs h.cells) ((if b then called (calls_in earlier) r0 (at_frame h.fr h.site) h.T gifts else calls_in earlier k (at_frame h.fr h.site) h.T gifts).demands) (λ left. Rep h.scene.nodes s h.scene.depth h.fr ((if b then called (calls_in earlier) r0 (at_frame h.fr h.site) h.T gifts else calls_in earlier k (at_frame h.fr h.site) h.T gifts).change.now) left.cells))
              × ((u : Simple) → r.result ≡ Some u → Tells h.scene.nodes s h.fr (if b then call_of (calls_of earlier) r0 h.scene h.at gs h.cells else calls_of earlier k h.scene h.at gs h.cells) ((if b then called (calls_in earlier) r0 (at_frame h.fr h.site) h.T gifts else calls_in earlier k (at_frame h.fr h.site) h.T gifts).demands ++ demand ((if b then called (calls_in earlier) r0 (at_frame h.fr h.site) h.T gifts else calls_in earlier k (at_frame h.fr h.site) h.T gifts).change.now Leaving) ∷ [])
              (λ left. (w : Value) × (left.result ≡ Some w) × (value_of h.scene.nodes s h.fr ((if b then called (calls_in earlier) r0 (at_frame h.fr h.site) h.T gifts else calls_in earlier k (at_frame h.fr h.site) h.T gifts).change.now Result) ≡ w)))
          go false e a = absurd_false e
          go true e a = (
            λ none. call_procedure latest types h r0 earlier args gs gifts known fits_r rest inner_calls (subst (λ (q : Routine). arguments_fit h.scope q.formals args ≡ true) (sym same) fits) was (subst (λ (q : Routine). ArgsAre h.scene.nodes s h.scene.depth h.fr q.formals gifts gs) (sym same) are) a (ap (λ (q : Routine). q.result) same ∙ none),
            λ u some. call_function latest types h r0 earlier args gs gifts known fits_r rest inner_calls (subst (λ (q : Routine). arguments_fit h.scope q.formals args ≡ true) (sym same) fits) was (subst (λ (q : Routine). ArgsAre h.scene.nodes s h.scene.depth h.fr q.formals gifts gs) (sym same) are) a u (ap (λ (q : Routine). q.result) same ∙ some),
          )

      at_earlier : CallTells earlier → nat_eq k (length earlier) ≡ false → slice_get (reverse earlier) k ≡ Some r → (r.result ≡ None → Tells h.scene.nodes s h.fr (calls_of (r0 ∷ earlier) k h.scene h.at gs h.cells) ((calls_in (r0 ∷ earlier) k (at_frame h.fr h.site) h.T gifts).demands) (λ left. Rep h.scene.nodes s h.scene.depth h.fr ((calls_in (r0 ∷ earlier) k (at_frame h.fr h.site) h.T gifts).change.now) left.cells))
          × ((u : Simple) → r.result ≡ Some u → Tells h.scene.nodes s h.fr (calls_of (r0 ∷ earlier) k h.scene h.at gs h.cells) ((calls_in (r0 ∷ earlier) k (at_frame h.fr h.site) h.T gifts).demands ++ demand ((calls_in (r0 ∷ earlier) k (at_frame h.fr h.site) h.T gifts).change.now Leaving) ∷ [])
          (λ left. (w : Value) × (left.result ≡ Some w) × (value_of h.scene.nodes s h.fr ((calls_in (r0 ∷ earlier) k (at_frame h.fr h.site) h.T gifts).change.now Result) ≡ w)))
      at_earlier inner_calls there found' = go (nat_eq k (length earlier)) there allowed
        where
          go : (b : Bool) → b ≡ false → pick_type b (stmt_loops (calls_in earlier) (fine_in Q earlier) (Q earlier) (called_site (at_frame h.fr h.site) r0.result gifts) r0.body) (fine_in Q earlier k (at_frame h.fr h.site) gifts) → (r.result ≡ None → Tells h.scene.nodes s h.fr (if b then call_of (calls_of earlier) r0 h.scene h.at gs h.cells else calls_of earlier k h.scene h.at gs h.cells) ((if b then called (calls_in earlier) r0 (at_frame h.fr h.site) h.T gifts else calls_in earlier k (at_frame h.fr h.site) h.T gifts).demands) (λ left. Rep h.scene.nodes s h.scene.depth h.fr ((if b then called (calls_in earlier) r0 (at_frame h.fr h.site) h.T gifts else calls_in earlier k (at_frame h.fr h.site) h.T gifts).change.now) left.cells))
              × ((u : Simple) → r.result ≡ Some u → Tells h.scene.nodes s h.fr (if b then call_of (calls_of earlier) r0 h.scene h.at gs h.cells else calls_of earlier k h.scene h.at gs h.cells) ((if b then called (calls_in earlier) r0 (at_frame h.fr h.site) h.T gifts else calls_in earlier k (at_frame h.fr h.site) h.T gifts).demands ++ demand ((if b then called (calls_in earlier) r0 (at_frame h.fr h.site) h.T gifts else calls_in earlier k (at_frame h.fr h.site) h.T gifts).change.now Leaving) ∷ [])
              (λ left. (w : Value) × (left.result ≡ Some w) × (value_of h.scene.nodes s h.fr ((if b then called (calls_in earlier) r0 (at_frame h.fr h.site) h.T gifts else calls_in earlier k (at_frame h.fr h.site) h.T gifts).change.now Result) ≡ w)))
          go true e a = absurd_false (sym e)
          go false e a = inner_calls latest types h k r args gs gifts found' fits was are a
