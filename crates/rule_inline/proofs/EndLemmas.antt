-- How a part of a body ends: the terms after it represent the store after it, and say whether a `return` was met.
use Rattle.std.proofs.Common.{◌≡◌, ℕ, Bool, true, false, cond, List, [], ◌∷◌, ◌++◌, length, Option, None, Some, refl, sym, ap, ◌∙◌, subst}
use Rattle.std.specs.Prelude.{if◌then◌else◌, is_some}
use Rattle.term_core.specs.declared.value.Value.{Value}
use Rattle.term_core.specs.declared.value.Value.TheVariants as v
use Rattle.term_core.specs.declared.term.Term as t
use Rattle.term_core.specs.declared.term.Term.{Term}
use Rattle.term_core.specs.Nodes.{is_node}
use Rattle.term_core.specs.Values.{truth}
use Rattle.term_core.specs.Meaning.{Cells, value_of}
use Rattle.term_core.specs.Substitution.{lifted}
use Rattle.murphi_ast.specs.declared.token.Span.{Span}
use Rattle.murphi_typed.specs.declared.types.Simple.{Simple}
use Rattle.murphi_typed.specs.declared.types.Simple.TheVariants as simple
use Rattle.murphi_typed.specs.declared.protocol.Routine.{Routine}
use Rattle.murphi_typed.specs.declared.protocol.Typed.{Typed}
use Rattle.murphi_typed.specs.Values.{is_value}
use Rattle.murphi_typed.specs.Store.{Place, Contents, Cells as Store, written as store_written}
use Rattle.murphi_typed.specs.Outcome.{Outcome, Got, Fault, given}
use Rattle.murphi_typed.specs.Expressions.{Scene, with_bound}
use Rattle.murphi_typed.specs.Execution.{Ending, Next, Returned, calls_of}
use Rattle.murphi_typed.specs.WellTyped.{Scope, Exit, WithValue, binding, is_simple_type}
use Rattle.murphi_typed.specs.Keeping.{Declared, AreKept, IsTypedBody}
use Rattle.murphi_typed.specs.Laws.{FunctionsGiveResults}
use Rattle.rule_inline.specs.Demands.{Demand, is_constant_false}
use Rattle.rule_inline.specs.Tables.{Slot, Family, Leaving, Result, axes, Terms, Change, under_variable, Spot, Shown, written, writes, branch_chain, first_of_branches, chosen, kept_if_left}
use Rattle.rule_inline.specs.Parts.{Site, with_value, Done}
use Rattle.rule_inline.specs.Bodies.{Branching, taken}
use Rattle.rule_inline.proofs.TermLemmas.{value-If, is_true, lifted_by, lifted_end, append_nothing}
use Rattle.rule_inline.proofs.Outcome.{Tells}
use Rattle.rule_inline.proofs.PlaceLemmas.{Rep}
use Rattle.rule_inline.proofs.WriteLemmas.{Shows, Spots, written_rep}
use Rattle.rule_inline.proofs.SceneLemmas.{typed_binding, rep_under, at_frame, inner, Sited, site_under, site_value}
use Rattle.rule_inline.proofs.PartLemmas.{Here}
use Rattle.rule_inline.proofs.ChangeLemmas.{InScope, Unwritten}
use Rattle.rule_inline.proofs.LeftLemmas.{some_or_none, SameTerms, same_leaving}

-- the result type of a body that is left like this
abbrev pub result_of : Exit → Option Simple
result_of (WithValue u) = Some u
result_of _ = None

-- a body where it runs, with the terms that represent its store; no `return` was met yet
pub record Body (s : Cells) (P : Typed) (latest : List Routine) (types : Declared) : Type 0 where
  pub scope : Scope
  pub scene : Scene
  pub fr : List ℕ
  pub site : Site
  pub T : Terms
  pub cells : Store
  pub typed : IsTypedBody P latest types scope scene cells
  pub sited : Sited s fr site scene
  pub rep : Rep scene.nodes s scene.depth fr T cells
  pub staying : is_true scene.nodes s fr (T Leaving) ≡ false
  pub exits : site.result ≡ result_of scope.exit

abbrev pub here_of : (results : FunctionsGiveResults) (s : Cells) (P : Typed) (latest : List Routine) (types : Declared) → Body s P latest types → Span → Here s P latest types
here_of results s P latest types b at = record {
  scope = b.scope;
  scene = b.scene;
  fr = b.fr;
  site = b.site;
  T = b.T;
  cells = b.cells;
  at = at;
  typed = b.typed;
  sound = record {
    fits = b.typed.fits;
    fine = b.typed.fine;
    bound = b.typed.bound;
    lengths = b.typed.lengths;
    results = results P latest types b.scope b.scene b.cells b.typed;
    kept = b.typed.kept;
    known = b.typed.routines;
  };
  sited = b.sited;
  rep = b.rep;
}

pub typed_after : (P : Typed) (latest : List Routine) (types : Declared) (scope : Scope) (scene : Scene) (cells next : Store) → IsTypedBody P latest types scope scene cells → AreKept scene.nodes types next → IsTypedBody P latest types scope scene next
typed_after P latest types scope scene cells next typed kept = record {
  kinds = typed.kinds;
  globals = typed.globals;
  routines = typed.routines;
  known = typed.known;
  fits = typed.fits;
  fine = typed.fine;
  bound = typed.bound;
  lengths = typed.lengths;
  shallow = typed.shallow;
  declared = typed.declared;
  kept = kept;
}

-- the same body further on
abbrev pub further : {s : Cells} {P : Typed} {latest : List Routine} {types : Declared} → (b : Body s P latest types) (T : Terms) (cells : Store) → AreKept b.scene.nodes types cells → Rep b.scene.nodes s b.scene.depth b.fr T cells → is_true b.scene.nodes s b.fr (T Leaving) ≡ false → Body s P latest types
further {s} {P} {latest} {types} b T cells kept rep staying = record b { T = T; cells = cells; typed = typed_after P latest types b.scope b.scene b.cells cells b.typed kept; rep = rep; staying = staying }

module _ (results : FunctionsGiveResults) (s : Cells) (P : Typed) (latest : List Routine) (types : Declared) where
  -- inside a loop or quantifier over another type, and over nodes
  abbrev pub body_value : (b : Body s P latest types) (over : Simple) (x : Value) → is_value b.scene.nodes over x ≡ true → is_simple_type b.scope.kinds over ≡ true → Body s P latest types
  body_value b over x is fine = record b {
    scope = binding b.scope over;
    scene = with_bound b.scene x;
    site = with_value b.site x;
    typed = typed_binding P latest types (calls_of latest) b.scope b.scene b.cells over x (here_of results s P latest types b (record { line = 0; column = 0 })).sound b.typed is fine;
    sited = site_value s b.fr b.site b.scene x b.sited;
  }

  abbrev pub body_node : (b : Body s P latest types) (n : ℕ) → is_node b.scene.nodes n ≡ true → Body s P latest types
  body_node b n is = record b {
    scope = binding b.scope simple.Node;
    scene = with_bound b.scene (v.Node n);
    fr = b.fr ++ n ∷ [];
    site = inner b.fr b.site;
    T = under_variable (length b.fr) b.T;
    typed = typed_binding P latest types (calls_of latest) b.scope b.scene b.cells simple.Node (v.Node n) (here_of results s P latest types b (record { line = 0; column = 0 })).sound b.typed is refl;
    sited = site_under s b.fr b.site b.scene n b.sited;
    rep = rep_under b.scene.nodes s b.scene.depth b.fr b.T b.cells n b.rep;
    staying = ap truth (lifted_end b.scene.nodes s b.fr (n ∷ []) (b.T Leaving)) ∙ b.staying;
  }

module _ (N : ℕ) (s : Cells) where
  -- the result that a `return` gives
  abbrev pub ResultIs : List ℕ → Option Simple → Option Value → Term → Type 0
  ResultIs fr None r e = Unit {0}
  ResultIs fr (Some u) None e = ⊥
  ResultIs fr (Some u) (Some w) e = value_of N s fr e ≡ w

  abbrev pub EndsWith : ℕ → List ℕ → Option Simple → Change → Ending → Type 0
  EndsWith depth fr res change (Next c) = Rep N s depth fr change.now c × (is_true N s fr (change.now Leaving) ≡ false)
  EndsWith depth fr res change (Returned c r) = Rep N s depth fr change.now c × (is_true N s fr (change.now Leaving) ≡ true) × ResultIs fr res r (change.now Result)

  at_end : (fr : List ℕ) (T U : Terms) (depth : ℕ) → SameTerms N s depth fr T U → (slot : Slot) → InScope depth slot → axes slot ≡ 0 → value_of N s fr (U slot) ≡ value_of N s fr (T slot)
  at_end fr T U depth same slot scope none = ap (λ xs. value_of N s xs (U slot)) (sym (append_nothing fr)) ∙ same slot [] scope (sym none) ∙ ap (λ xs. value_of N s xs (T slot)) (append_nothing fr)

  result_same : (fr : List ℕ) (res : Option Simple) (r : Option Value) (e f : Term) → value_of N s fr f ≡ value_of N s fr e → ResultIs fr res r e → ResultIs fr res r f
  result_same fr None r e f same is = tt
  result_same fr (Some u) None e f same is = is
  result_same fr (Some u) (Some w) e f same is = same ∙ is

  rep_same : (depth : ℕ) (fr : List ℕ) (T U : Terms) (c : Store) → SameTerms N s depth fr T U → Rep N s depth fr T c → Rep N s depth fr U c
  rep_same depth fr T U c same rep owner path key ns reach none long nodes = same (Family owner path key) ns reach long ∙ rep owner path key ns reach none long nodes

  -- terms with the same values end the same
  pub ends_same : (depth : ℕ) (fr : List ℕ) (res : Option Simple) (ch dh : Change) (e : Ending) → SameTerms N s depth fr ch.now dh.now → EndsWith depth fr res ch e → EndsWith depth fr res dh e
  ends_same depth fr res ch dh (Next c) same (rep, staying) = (rep_same depth fr ch.now dh.now c same rep, same_leaving N s depth fr ch.now dh.now same ∙ staying)
  ends_same depth fr res ch dh (Returned c r) same (rep, left, is) = (rep_same depth fr ch.now dh.now c same rep, same_leaving N s depth fr ch.now dh.now same ∙ left, result_same fr res r (ch.now Result) (dh.now Result) (at_end fr ch.now dh.now depth same Result tt refl) is)

  -- a result outside the result type faults where the body ends
  abbrev pub checked_result : Span → Store → Option Value → Option Simple → Outcome Ending
  checked_result at c (Some w) (Some u) = if is_value N u w then Got (Returned c (Some w)) else Fault at
  checked_result at c r res = Got (Returned c r)

  abbrev pub checked : Span → Option Simple → Ending → Outcome Ending
  checked at res (Next c) = Got (Next c)
  checked at res (Returned c r) = checked_result at c r res

  -- where a part goes on
  abbrev pub GoesOn : ℕ → List ℕ → Change → Ending → Type 0
  GoesOn depth fr change e = (c : Store) × (e ≡ Next c) × Rep N s depth fr change.now c × (is_true N s fr (change.now Leaving) ≡ false)

  pub tells_next : (depth : ℕ) (fr : List ℕ) (at : Span) (res : Option Simple) (change : Change) (qs : List Demand) (o : Outcome Ending) → Tells N s fr o qs (GoesOn depth fr change) → Tells N s fr (given o (checked at res)) qs (EndsWith depth fr res change)
  tells_next depth fr at res change qs (Fault place) bad = bad
  tells_next depth fr at res change qs (Got e) (good, facts) =
      let (c, is, rep, staying) = facts in
      subst (λ x. Tells N s fr (checked at res x) qs (EndsWith depth fr res change)) (sym is) (good, (rep, staying))

  -- after a write
  pub goes_written : (depth : ℕ) (fr : List ℕ) (T : Terms) (c : Store) (spot : Spot) (place : Place) (new : Shown) (contents : Contents) → Rep N s depth fr T c → is_true N s fr (T Leaving) ≡ false → Spots N s depth fr spot place → Shows N s fr new contents → GoesOn depth fr (written (length fr) T spot new) (Next (store_written c place contents))
  goes_written depth fr T c spot place new contents rep staying spots shows = (store_written c place contents, refl, written_rep N s depth fr T c rep spot place spots new contents shows, staying)

  -- a statement where no `return` was met before it
  pub taken_same : (depth : ℕ) (fr : List ℕ) (site : Site) (T : Terms) (body : Done) → is_true N s fr (T Leaving) ≡ false → SameTerms N s depth fr body.change.now ((taken (at_frame fr site) T body).change.now)
  taken_same depth fr site T body staying slot ns scope long = go (is_constant_false (T Leaving))
    where
      kept : (b : Bool) → value_of N s (fr ++ ns) (if b then t.If (lifted (length fr) (axes slot) (T Leaving)) (T slot) (body.change.now slot) else body.change.now slot) ≡ value_of N s (fr ++ ns) (body.change.now slot)
      kept true =
          value-If N s (fr ++ ns) (lifted (length fr) (axes slot) (T Leaving)) (T slot) (body.change.now slot)
          ∙ ap (λ b. cond b (value_of N s (fr ++ ns) (T slot)) (value_of N s (fr ++ ns) (body.change.now slot))) (ap truth (lifted_by N s fr ns (axes slot) (T Leaving) long) ∙ staying)
      kept false = refl

      go : (b : Bool) → value_of N s (fr ++ ns) ((if b then body.change else record body.change { now = kept_if_left (length fr) T body.change }).now slot) ≡ value_of N s (fr ++ ns) (body.change.now slot)
      go true = refl
      go false = kept (writes slot body.change)

  -- Branches

  abbrev pub BranchEnds : ℕ → List ℕ → Option Simple → Terms → Branching → Ending → Type 0
  BranchEnds depth fr res T br e =
      (ch : Change) × EndsWith depth fr res ch e × Unwritten depth T ch
      × ((slot : Slot) → first_of_branches slot br.branches br.otherwise ≡ None → ch.first slot ≡ None)
      × ((slot : Slot) (ns : List ℕ) → InScope depth slot → length ns ≡ axes slot → value_of N s (fr ++ ns) (branch_chain (length fr) slot br.branches br.otherwise) ≡ value_of N s (fr ++ ns) (ch.now slot))

  pub chosen_ends : (depth : ℕ) (fr : List ℕ) (res : Option Simple) (T : Terms) (br : Branching) (e : Ending) → BranchEnds depth fr res T br e → EndsWith depth fr res (chosen (length fr) T br.branches br.otherwise) e
  chosen_ends depth fr res T br e (ch, ends, unwritten, first, chain) = ends_same depth fr res ch (chosen (length fr) T br.branches br.otherwise) e same ends
    where
      same : SameTerms N s depth fr ch.now ((chosen (length fr) T br.branches br.otherwise).now)
      same slot ns scope long = go (is_some (first_of_branches slot br.branches br.otherwise)) refl
        where
          go : (b : Bool) → is_some (first_of_branches slot br.branches br.otherwise) ≡ b → value_of N s (fr ++ ns) (if b then branch_chain (length fr) slot br.branches br.otherwise else T slot) ≡ value_of N s (fr ++ ns) (ch.now slot)
          go true was = chain slot ns scope long
          go false was = ap (value_of N s (fr ++ ns)) (sym (unwritten slot scope (first slot (some_or_none (first_of_branches slot br.branches br.otherwise) was))))
