-- What bodies leave where the nodes change places.
use Rattle.std.proofs.Common.{◌≡◌, ℕ, suc, Bool, true, false, not, ◌&&◌, List, [], ◌∷◌, map, Option, None, Some, refl, sym, ap, ◌∙◌, subst}
use Rattle.std.specs.Prelude.{slice_get, if◌then◌else◌, option_map, nat_eq, length}
use Rattle.std.specs.List.{list_all}
use Rattle.std.specs.Option.{option_map_or}
use Rattle.std.specs.Str.{bytes_eq}
use Rattle.std.proofs.Math.Path.{fun_ext}
use Rattle.std.proofs.lemmas.Bool.{and_parts}
use Rattle.term_core.specs.declared.value.Value.{Value}
use Rattle.term_core.specs.declared.value.Value.TheVariants as value
use Rattle.term_core.specs.Values.{truth, same_value}
use Rattle.murphi_ast.specs.declared.token.Span.{Span}
use Rattle.murphi_typed.specs.declared.types.Simple.{Simple}
use Rattle.murphi_typed.specs.declared.types.AnyType.{AnyType}
use Rattle.murphi_typed.specs.declared.expr.Expr.{Expr}
use Rattle.murphi_typed.specs.declared.stmt.Stmt as s
use Rattle.murphi_typed.specs.declared.stmt.Stmt.{Stmt, Row_of-Stmt, end_of-Stmt, more_of-Stmt, Row_of-Arm, end_of-Arm, more_of-Arm, Row_of-Case, end_of-Case, more_of-Case}
use Rattle.murphi_typed.specs.declared.protocol.Formal.{Formal as DeclaredFormal}
use Rattle.murphi_typed.specs.declared.protocol.Routine.{Routine}
use Rattle.murphi_typed.specs.Prefix.{is_over_nodes}
use Rattle.murphi_typed.specs.Values.{is_value, may_hold, values, cleared_value}
use Rattle.murphi_typed.specs.Families.{Path, leaf_at}
use Rattle.murphi_typed.specs.Store.{Owner, Global, Local, Formal, same_owner, Place, Contents, Cells, cell_at, contents_at, beyond, renewed, written, only}
use Rattle.murphi_typed.specs.Outcome.{Outcome, Got, Fault, given}
use Rattle.murphi_typed.specs.Expressions.{Given, Filled, Standing, Scene, Calls, with_bound, value_of}
use Rattle.murphi_typed.specs.Execution.{Ending, Next, Returned, then_on, turns, at_of, stored, with_value, cleared, is_among, run, run_all, run_arms, run_cases, simple_type, formals_fit, filled, entered, called_scene, ended, call_of, calls_of}
use Rattle.typed_laws.specs.Renamings.{IsRenaming, renamed, renamed_contents, renamed_cells, renamed_given, renamed_scene, renamed_ending, Alike, is_free, place_is_free, is_unordered, are_unordered, arms_are_unordered, cases_are_unordered, routine_is_unordered, ValuesAreRenamed, EndingsAreRenamed}
use Rattle.typed_laws.proofs.Nodes.{false-true, both, all_back, values_same, is_value_same, may_hold_same, cleared_same, beyond_same, AreFixed, values_fixed}
use Rattle.typed_laws.proofs.RenamedValues.{alike_given, Goes, PlacesGo, GivenGo, LeftGoes, CallsGo, slice_renamed, truths_go, if_alike, cell_goes, contents_go, bound_goes, value_goes, place_goes, arguments_go}

abbrev pub EndingGoes : (ℕ → ℕ) → (ℕ → ℕ) → Ending → Ending → Type 0
EndingGoes to from e f = f ≡ renamed_ending to from e

next_goes : (to from : ℕ → ℕ) (c d : Cells) → d ≡ renamed_cells to from c → Alike (EndingGoes to from) (Got (Next c)) (Got (Next d))
next_goes to from c d e = ap Next e

goes_on : (to from : ℕ → ℕ) (o p : Outcome Ending) (f g : Cells → Outcome Ending) → Alike (EndingGoes to from) o p → ((c : Cells) → Alike (EndingGoes to from) (f c) (g (renamed_cells to from c))) → Alike (EndingGoes to from) (given o (λ e. then_on e f)) (given p (λ e. then_on e g))
goes_on to from o p f g a next = alike_given (EndingGoes to from) (EndingGoes to from) o p _ _ a (λ e h is. go e h is)
  where
    go : (e h : Ending) → h ≡ renamed_ending to from e → Alike (EndingGoes to from) (then_on e f) (then_on h g)
    go (Next c) h is = subst (λ z. Alike (EndingGoes to from) (f c) (then_on z g)) (sym is) (next c)
    go (Returned c v) h is = subst (λ z. Alike (EndingGoes to from) (Got (Returned c v)) (then_on z g)) (sym is) refl

turns_go : (to from : ℕ → ℕ) (f g : Value → Cells → Outcome Ending) (vs : List Value) → AreFixed to vs → ((v : Value) (c : Cells) → Alike (EndingGoes to from) (f v c) (g (renamed to v) (renamed_cells to from c))) → (c : Cells) → Alike (EndingGoes to from) (turns f vs c) (turns g vs (renamed_cells to from c))
turns_go to from f g [] fixed each c = refl
turns_go to from f g (v ∷ vs) (e, fixed) each c =
    goes_on to from (f v c) (g v (renamed_cells to from c)) (turns f vs) (turns g vs)
    (subst (λ w. Alike (EndingGoes to from) (f v c) (g w (renamed_cells to from c))) e (each v c)) (λ d. turns_go to from f g vs fixed each d)

other_type : (over : Simple) → not (is_over_nodes over) ≡ true → is_over_nodes over ≡ false
other_type over e = go (is_over_nodes over) e
  where
    go : (b : Bool) → not b ≡ true → b ≡ false
    go true e = false-true e
    go false e = refl

module _ (N : ℕ) (to from : ℕ → ℕ) (is : IsRenaming N to from) where
  written_goes : (c : Cells) (p q : Place) (new other : Contents) → PlacesGo to p q → other ≡ renamed_contents to from new → written (renamed_cells to from c) q other ≡ renamed_cells to from (written c p new)
  written_goes c p q new other e h =
      both (λ r n. written (renamed_cells to from c) r n) e h
      ∙ fun_ext (λ owner. fun_ext (λ path. fun_ext (λ at.
      ap (λ o. if same_owner owner p.owner then renewed (renamed_contents to from new) (renamed_cells to from c owner path at) (beyond bytes_eq p.path path) o else renamed_cells to from c owner path at)
      (beyond_same to from is.back is.forth p.at at)
      ∙ go (same_owner owner p.owner) (renamed_cells to from c owner path at) (c owner path (map (renamed from) at)) refl (beyond bytes_eq p.path path) (beyond same_value p.at (map (renamed from) at)))))
    where
      go : (b : Bool) (old was : Value) → old ≡ renamed to was → (o : Option Path) (further : Option (List Value)) → (if b then renewed (renamed_contents to from new) old o (option_map (map (renamed to)) further) else old) ≡ renamed to (if b then renewed new was o further else was)
      go false old was e o further = e
      go true old was e None further = e
      go true old was e (Some rest) None = e
      go true old was e (Some rest) (Some more) = ap (λ at. renamed to (new rest at)) (all_back to from is.back more)

  only_same : (v w : Value) → w ≡ renamed to v → only w ≡ renamed_contents to from (only v)
  only_same v w e = fun_ext (λ path. fun_ext (λ at. e))

  cleared_goes : (type : AnyType) → cleared type ≡ renamed_contents to from (cleared type)
  cleared_goes type = fun_ext (λ path. fun_ext (λ at. go (leaf_at type path)))
    where
      go : (o : Option Simple) → option_map_or cleared_value o value.Undefined ≡ renamed to (option_map_or cleared_value o value.Undefined)
      go None = refl
      go (Some leaf) = sym (cleared_same to leaf)

  stored_goes : (at : Span) (into : Simple) (v w : Value) → w ≡ renamed to v → Alike (Goes to) (stored N at into v) (stored N at into w)
  stored_goes at into v w e = if_alike (Goes to) (may_hold N into v) (may_hold N into w) (Got v) (Fault at) (Got w) (Fault at) (ap (may_hold N into) e ∙ may_hold_same N to from is into v) e tt

  put_goes : (c : Cells) (p q : Place) (new other : Contents) → PlacesGo to p q → other ≡ renamed_contents to from new → Alike (EndingGoes to from) (Got (Next (written c p new))) (Got (Next (written (renamed_cells to from c) q other)))
  put_goes c p q new other e h = ap Next (written_goes c p q new other e h)

  module _ (calls : Calls) (calls_go : CallsGo N to from calls) where
    assigned_goes : (scene : Scene) (at : Span) (into : Simple) (c : Cells) (p q : Place) (v w : Value) → scene.nodes ≡ N → PlacesGo to p q → w ≡ renamed to v → Alike (EndingGoes to from) (given (stored scene.nodes at into v) (with_value c p)) (given (stored scene.nodes at into w) (with_value (renamed_cells to from c) q))
    assigned_goes scene at into c p q v w n e h =
        alike_given (Goes to) (EndingGoes to from) _ _ _ _
        (subst (λ m. Alike (Goes to) (stored m at into v) (stored m at into w)) (sym n) (stored_goes at into v w h))
        (λ x y g. put_goes c p q (only x) (only y) e (only_same x y g))

    among_goes : (scene : Scene) (at : Span) (c : Cells) (v w : Value) (labels : List Expr) → scene.nodes ≡ N → w ≡ renamed to v → list_all is_free labels ≡ true → Alike (λ b c. c ≡ b) (is_among (value_of calls scene at c) v labels) (is_among (value_of calls (renamed_scene to from scene) at (renamed_cells to from c)) w labels)
    among_goes scene at c v w [] n e free = refl
    among_goes scene at c v w (label ∷ labels) n e free =
        let (a, b) = and_parts (is_free label) (list_all is_free labels) free in
        alike_given (Goes to) (λ b c. c ≡ b) _ _ _ _ (value_goes N to from is calls calls_go c scene at label n a)
        (λ x y h. if_alike (λ b c. c ≡ b) (same_value v x) (same_value w y) _ _ _ _ (both same_value e h ∙ values_same to from is.back v x) refl (among_goes scene at c v w labels n e b))

    mutual
      unfolding run is_unordered

      pub run_goes : (scene : Scene) (c : Cells) (body : Stmt) → scene.nodes ≡ N → is_unordered body ≡ true → Alike (EndingGoes to from) (run calls scene c body) (run calls (renamed_scene to from scene) (renamed_cells to from c) body)
      run_goes scene c (s.Block' _ body) n free = all_go scene c body n free
      run_goes scene c (s.Assign target into body) n free =
          let (a, b) = and_parts (place_is_free target) (is_free body) free in
          alike_given (PlacesGo to) (EndingGoes to from) _ _ _ _ (place_goes N to from is calls calls_go c scene (at_of target) target n a)
          (λ p q e. alike_given (Goes to) (EndingGoes to from) _ _ _ _ (value_goes N to from is calls calls_go c scene (at_of target) body n b)
          (λ v w h. assigned_goes scene (at_of target) into c p q v w n e h))
      run_goes scene c (s.Copy target into source) n free =
          let (a, b) = and_parts (place_is_free target) (place_is_free source) free in
          alike_given (PlacesGo to) (EndingGoes to from) _ _ _ _ (place_goes N to from is calls calls_go c scene (at_of target) target n a)
          (λ p q e. alike_given (PlacesGo to) (EndingGoes to from) _ _ _ _ (place_goes N to from is calls calls_go c scene (at_of target) source n b)
          (λ r r' h. assigned_goes scene (at_of target) into c p q (cell_at c r) (cell_at (renamed_cells to from c) r') n e (cell_goes N to from is c r r' h)))
      run_goes scene c (s.CopyAll target source) n free =
          let (a, b) = and_parts (place_is_free target) (place_is_free source) free in
          alike_given (PlacesGo to) (EndingGoes to from) _ _ _ _ (place_goes N to from is calls calls_go c scene (at_of target) target n a)
          (λ p q e. alike_given (PlacesGo to) (EndingGoes to from) _ _ _ _ (place_goes N to from is calls calls_go c scene (at_of target) source n b)
          (λ r r' h. put_goes c p q (contents_at c r) (contents_at (renamed_cells to from c) r') e (contents_go N to from is c r r' h)))
      run_goes scene c (s.Call k args at) n free =
          alike_given (GivenGo to from) (EndingGoes to from) _ _ _ _ (arguments_go N to from is calls calls_go c scene at args n free)
          (λ gs hs e. alike_given (LeftGoes to from) (EndingGoes to from) _ _ _ _
          (subst (λ us. Alike (LeftGoes to from) (calls k scene at gs c) (calls k (renamed_scene to from scene) at us (renamed_cells to from c))) (sym e) (calls_go k scene at gs c n))
          (λ l m goes. ap Next goes.1))
      run_goes scene c (s.If' _ arms _ otherwise at) n free =
          let (a, b) = and_parts (arms_are_unordered arms) (are_unordered otherwise) free in
          arms_go scene at c arms (run_all calls scene c otherwise) (run_all calls (renamed_scene to from scene) (renamed_cells to from c) otherwise) n a (all_go scene c otherwise n b)
      run_goes scene c (s.Switch' on _ cases _ otherwise at) n free =
          let (a, rest) = and_parts (is_free on) (cases_are_unordered cases && are_unordered otherwise) free in
          let (b, d) = and_parts (cases_are_unordered cases) (are_unordered otherwise) rest in
          alike_given (Goes to) (EndingGoes to from) _ _ _ _ (value_goes N to from is calls calls_go c scene at on n a)
          (λ v w e. cases_go scene at c v w cases (run_all calls scene c otherwise) (run_all calls (renamed_scene to from scene) (renamed_cells to from c) otherwise) n e b (all_go scene c otherwise n d))
      run_goes scene c (s.For' over _ body at) n free =
          let (a, b) = and_parts (not (is_over_nodes over)) (are_unordered body) free in
          turns_go to from (λ v cells. run_all calls (with_bound scene v) cells body) (λ v cells. run_all calls (with_bound (renamed_scene to from scene) v) cells body)
          (values scene.nodes over) (values_fixed to scene.nodes over (other_type over a))
          (λ v d. subst (λ z. Alike (EndingGoes to from) (run_all calls (with_bound scene v) d body) (run_all calls z (renamed_cells to from d) body)) (bound_goes N to from is scene v) (all_go (with_bound scene v) d body n b)) c
      run_goes scene c (s.Clear place type at) n free =
          alike_given (PlacesGo to) (EndingGoes to from) _ _ _ _ (place_goes N to from is calls calls_go c scene at place n free)
          (λ p q e. put_goes c p q (cleared type) (cleared type) e (cleared_goes type))
      run_goes scene c (s.Undefine place at) n free =
          alike_given (PlacesGo to) (EndingGoes to from) _ _ _ _ (place_goes N to from is calls calls_go c scene at place n free)
          (λ p q e. put_goes c p q (only value.Undefined) (only value.Undefined) e (only_same value.Undefined value.Undefined refl))
      run_goes scene c (s.Error at) n free = tt
      run_goes scene c (s.Assert test at) n free =
          alike_given (Goes to) (EndingGoes to from) _ _ _ _ (value_goes N to from is calls calls_go c scene at test n free)
          (λ v w e. if_alike (EndingGoes to from) (truth v) (truth w) (Got (Next c)) (Fault at) (Got (Next (renamed_cells to from c))) (Fault at) (truths_go to v w e) refl tt)
      run_goes scene c (s.PutText at) n free = refl
      run_goes scene c (s.Put shown at) n free = refl
      run_goes scene c (s.Leave at) n free = refl
      run_goes scene c (s.Return body at) n free =
          alike_given (Goes to) (EndingGoes to from) _ _ _ _ (value_goes N to from is calls calls_go c scene at body n free)
          (λ v w e. ap (λ z. Returned (renamed_cells to from c) (Some z)) e)

      pub all_go : {l : _} (scene : Scene) (c : Cells) (body : Row_of-Stmt l) → scene.nodes ≡ N → are_unordered body ≡ true → Alike (EndingGoes to from) (run_all calls scene c body) (run_all calls (renamed_scene to from scene) (renamed_cells to from c) body)
      all_go scene c end_of-Stmt n free = refl
      all_go scene c (more_of-Stmt first rest) n free =
          let (a, b) = and_parts (is_unordered first) (are_unordered rest) free in
          goes_on to from (run calls scene c first) (run calls (renamed_scene to from scene) (renamed_cells to from c) first)
          (λ next. run_all calls scene next rest) (λ next. run_all calls (renamed_scene to from scene) next rest)
          (run_goes scene c first n a) (λ d. all_go scene d rest n b)

      arms_go : {l : _} (scene : Scene) (at : Span) (c : Cells) (arms : Row_of-Arm l) (o p : Outcome Ending) → scene.nodes ≡ N → arms_are_unordered arms ≡ true → Alike (EndingGoes to from) o p → Alike (EndingGoes to from) (run_arms calls scene at c arms o) (run_arms calls (renamed_scene to from scene) at (renamed_cells to from c) arms p)
      arms_go scene at c end_of-Arm o p n free otherwise = otherwise
      arms_go scene at c (more_of-Arm test _ body rest) o p n free otherwise =
          let (a, more) = and_parts (is_free test) (are_unordered body && arms_are_unordered rest) free in
          let (b, d) = and_parts (are_unordered body) (arms_are_unordered rest) more in
          alike_given (Goes to) (EndingGoes to from) _ _ _ _ (value_goes N to from is calls calls_go c scene at test n a)
          (λ v w e. if_alike (EndingGoes to from) (truth v) (truth w) _ _ _ _ (truths_go to v w e) (all_go scene c body n b) (arms_go scene at c rest o p n d otherwise))

      cases_go : {l : _} (scene : Scene) (at : Span) (c : Cells) (v w : Value) (cases : Row_of-Case l) (o p : Outcome Ending) → scene.nodes ≡ N → w ≡ renamed to v → cases_are_unordered cases ≡ true → Alike (EndingGoes to from) o p → Alike (EndingGoes to from) (run_cases calls scene at c v cases o) (run_cases calls (renamed_scene to from scene) at (renamed_cells to from c) w cases p)
      cases_go scene at c v w end_of-Case o p n e free otherwise = otherwise
      cases_go scene at c v w (more_of-Case labels _ body rest) o p n e free otherwise =
          let (a, more) = and_parts (list_all is_free labels) (are_unordered body && cases_are_unordered rest) free in
          let (b, d) = and_parts (are_unordered body) (cases_are_unordered rest) more in
          alike_given (λ b c. c ≡ b) (EndingGoes to from) _ _ _ _ (among_goes scene at c v w labels n e a)
          (λ x y h. if_alike (EndingGoes to from) x y _ _ _ _ h (all_go scene c body n b) (cases_go scene at c v w rest o p n e d otherwise))

  -- Calls

  fit_same : (formals : List DeclaredFormal) (gs : List Given) → formals_fit N formals (map (renamed_given to from) gs) ≡ formals_fit N formals gs
  fit_same [] [] = refl
  fit_same [] (g ∷ gs) = refl
  fit_same (f ∷ fs) [] = refl
  fit_same (f ∷ fs) (Standing place ∷ gs) = fit_same fs gs
  fit_same (f ∷ fs) (Filled contents ∷ gs) = both (λ a b. a && b) (go (simple_type f.of)) (fit_same fs gs)
    where
      go : (o : Option Simple) → option_map_or (λ into. may_hold N into (renamed to (contents [] []))) o true ≡ option_map_or (λ into. may_hold N into (contents [] [])) o true
      go None = refl
      go (Some into) = may_hold_same N to from is into (contents [] [])

  filled_goes : (gs : List Given) (k : ℕ) → filled (slice_get (map (renamed_given to from) gs) k) ≡ renamed_contents to from (filled (slice_get gs k))
  filled_goes gs k = ap filled (slice_renamed (renamed_given to from) gs k) ∙ go (slice_get gs k)
    where
      go : (g : Option Given) → filled (option_map (renamed_given to from) g) ≡ renamed_contents to from (filled g)
      go None = refl
      go (Some (Filled contents)) = refl
      go (Some (Standing place)) = refl

  entered_goes : (depth : ℕ) (gs : List Given) (c : Cells) → entered depth (map (renamed_given to from) gs) (renamed_cells to from c) ≡ renamed_cells to from (entered depth gs c)
  entered_goes depth gs c = fun_ext (λ owner. go owner)
    where
      local : (b : Bool) (o : Contents) → (if b then only value.Undefined else renamed_contents to from o) ≡ renamed_contents to from (if b then only value.Undefined else o)
      local true o = refl
      local false o = refl

      formal : (b : Bool) (f g o : Contents) → f ≡ renamed_contents to from g → (if b then f else renamed_contents to from o) ≡ renamed_contents to from (if b then g else o)
      formal true f g o e = e
      formal false f g o e = refl

      go : (owner : Owner) → entered depth (map (renamed_given to from) gs) (renamed_cells to from c) owner ≡ renamed_cells to from (entered depth gs c) owner
      go (Global k) = refl
      go (Local of k) = local (nat_eq of depth) (c (Local of k))
      go (Formal of k) = formal (nat_eq of depth) (filled (slice_get (map (renamed_given to from) gs) k)) (filled (slice_get gs k)) (c (Formal of k)) (filled_goes gs k)

  ended_goes : (result : Option Simple) (scene : Scene) (at : Span) (e h : Ending) → scene.nodes ≡ N → h ≡ renamed_ending to from e → Alike (LeftGoes to from) (ended result scene at e) (ended result (renamed_scene to from scene) at h)
  ended_goes result scene at e h n same = subst (λ z. Alike (LeftGoes to from) (ended result scene at e) (ended result (renamed_scene to from scene) at z)) (sym same) (go result e)
    where
      fits : (type : Simple) (c : Cells) (v : Value) → Alike (LeftGoes to from) (ended (Some type) scene at (Returned c (Some v))) (ended (Some type) (renamed_scene to from scene) at (Returned (renamed_cells to from c) (Some (renamed to v))))
      fits type c v =
          if_alike (LeftGoes to from) (is_value scene.nodes type v) (is_value scene.nodes type (renamed to v)) _ _ _ _
          (subst (λ m. is_value m type (renamed to v) ≡ is_value m type v) (sym n) (is_value_same N to from is type v)) (refl, refl) tt

      go : (result : Option Simple) (e : Ending) → Alike (LeftGoes to from) (ended result scene at e) (ended result (renamed_scene to from scene) at (renamed_ending to from e))
      go None (Next c) = (refl, refl)
      go None (Returned c v) = (refl, refl)
      go (Some type) (Next c) = tt
      go (Some type) (Returned c None) = tt
      go (Some type) (Returned c (Some v)) = fits type c v

  call_goes : (calls : Calls) → CallsGo N to from calls → (r : Routine) → routine_is_unordered r ≡ true → (scene : Scene) (at : Span) (gs : List Given) (c : Cells) → scene.nodes ≡ N → Alike (LeftGoes to from) (call_of calls r scene at gs c) (call_of calls r (renamed_scene to from scene) at (map (renamed_given to from) gs) (renamed_cells to from c))
  call_goes calls calls_go r free scene at gs c n =
      if_alike (LeftGoes to from) (formals_fit scene.nodes r.formals gs) (formals_fit scene.nodes r.formals (map (renamed_given to from) gs)) _ _ _ _
      (subst (λ m. formals_fit m r.formals (map (renamed_given to from) gs) ≡ formals_fit m r.formals gs) (sym n) (fit_same r.formals gs))
      (alike_given (EndingGoes to from) (LeftGoes to from) _ _ _ _
      (subst (λ d. Alike (EndingGoes to from) (run calls (called_scene scene gs) (entered (suc scene.depth) gs c) r.body) (run calls (called_scene (renamed_scene to from scene) (map (renamed_given to from) gs)) d r.body))
      (sym (entered_goes (suc scene.depth) gs c)) (run_goes calls calls_go (called_scene scene gs) (entered (suc scene.depth) gs c) r.body n free))
      (λ e h same. ended_goes r.result scene at e h n same)) tt

  pub calls_all_go : (routines : List Routine) → list_all routine_is_unordered routines ≡ true → CallsGo N to from (calls_of routines)
  calls_all_go [] free k scene at gs c n = tt
  calls_all_go (r ∷ earlier) free k scene at gs c n =
      let (a, b) = and_parts (routine_is_unordered r) (list_all routine_is_unordered earlier) free in
      if_alike (LeftGoes to from) (nat_eq k (length earlier)) (nat_eq k (length earlier)) _ _ _ _ refl
      (call_goes (calls_of earlier) (calls_all_go earlier b) r a scene at gs c n) (calls_all_go earlier b k scene at gs c n)

pub values_renamed : ValuesAreRenamed
values_renamed to from routines scene at cells e is free plain =
    value_goes scene.nodes to from is (calls_of routines) (calls_all_go scene.nodes to from is routines free) cells scene at e refl plain

pub endings_renamed : EndingsAreRenamed
endings_renamed to from routines scene cells body is free plain =
    run_goes scene.nodes to from is (calls_of routines) (calls_all_go scene.nodes to from is routines free) scene cells body refl plain
