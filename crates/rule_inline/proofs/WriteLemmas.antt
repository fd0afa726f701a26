-- Writing: where the terms represent a store, those after a write represent the store after it, whichever cells the
-- indices lead to.
use Rattle.std.proofs.Common.{◌≡◌, ℕ, suc, ◌+◌, Bool, true, false, ◌&&◌, cond, List, [], ◌∷◌, ◌++◌, length, Option, None, Some, inl, inr, refl, sym, ap, ◌∙◌, subst, append_assoc, arith}
use Rattle.std.specs.Prelude.{nat_eq, option_map, option_and_then, unwrap_or, if◌then◌else◌}
use Rattle.std.specs.List.{list_all}
use Rattle.std.specs.Str.{bytes_eq}
use Rattle.std.proofs.lemmas.Bool.{and_parts}
use Rattle.std.proofs.lemmas.List.{length-append}
use Rattle.term_core.specs.declared.value.Value.{Value}
use Rattle.term_core.specs.declared.value.Value.TheVariants as v
use Rattle.term_core.specs.declared.term.Term as t
use Rattle.term_core.specs.declared.term.Term.{Term}
use Rattle.term_core.specs.Nodes.{is_node}
use Rattle.term_core.specs.Values.{truth, same_value}
use Rattle.term_core.specs.Meaning.{Cells, value_of}
use Rattle.term_core.specs.Variables.{is_no_node}
use Rattle.term_core.specs.Substitution.{lifted}
use Rattle.term_core.specs.Laws.{PlacingBinds}
use Rattle.murphi_typed.specs.Families.{Path}
use Rattle.murphi_typed.specs.Store.{Owner, same_owner, Place, Contents, Cells as Store, contents_at, beyond, renewed, written as store_written, only}
use Rattle.rule_inline.specs.Tables.{Key, holes, Slot, Family, Terms, Index, Axis, Among, Spot, Shown, shown_at, only_term, Match, on_axis, on_value, matched, renewed_term, written}
use Rattle.rule_inline.specs.Presents.{at_nodes}
use Rattle.rule_inline.proofs.ValueLemmas.{absurd_false}
use Rattle.rule_inline.proofs.TermLemmas.{value-Known, value-And, value-If, value-Same, is_true, lifted_between, lifted_by}
use Rattle.rule_inline.proofs.Outcome.{Nodes}
use Rattle.rule_inline.proofs.PlaceLemmas.{NoNodes, reaches, Rep, Has, Leads, variable_there, shown_value}

node_other : (n : ℕ) (w : Value) → is_no_node w ≡ true → same_value (v.Node n) w ≡ false
node_other n v.Undefined e = refl
node_other n (v.Truth b) e = refl
node_other n (v.Number z) e = refl
node_other n (v.Member k i) e = refl
node_other n (v.Node m) e = absurd_false e

other_node : (w : Value) (n : ℕ) → is_no_node w ≡ true → same_value w (v.Node n) ≡ false
other_node v.Undefined n e = refl
other_node (v.Truth b) n e = refl
other_node (v.Number z) n e = refl
other_node (v.Member k i) n e = refl
other_node (v.Node m) n e = absurd_false e

nodes_turned : (n m : ℕ) → same_value (v.Node n) (v.Node m) ≡ same_value (v.Node m) (v.Node n)
nodes_turned n m = let e : nat_eq n m ≡ nat_eq m n = grind arith in e

nested_axis : {A : Type 0} (x t ss : Bool) (o : Option A) → cond x (cond (t && ss) o None) None ≡ cond (t && (x && ss)) o None
nested_axis true t ss o = refl
nested_axis false true ss o = refl
nested_axis false false ss o = refl

nested_value : {A : Type 0} (x t ss : Bool) (o : Option A) → cond x (cond (t && ss) o None) None ≡ cond ((x && t) && ss) o None
nested_value true t ss o = refl
nested_value false t ss o = refl

none_either : {A : Type 0} (x : Bool) (o : Option A) → o ≡ None → cond x o None ≡ None
none_either true o e = e
none_either false o e = refl

none_false : {A : Type 0} (x : Bool) (o : Option A) → x ≡ false → cond x o None ≡ None
none_false true o e = absurd_false (sym e)
none_false false o e = refl

module _ (N : ℕ) (s : Cells) where
  has_none : (ws : List Value) (x : Value) → Has ws x → list_all is_no_node ws ≡ true → is_no_node x ≡ true
  has_none [] x has none = absurd has
  has_none (w ∷ ws) x (inl e) none = let (first, rest) = and_parts (is_no_node w) (list_all is_no_node ws) none in ap is_no_node (sym e) ∙ first
  has_none (w ∷ ws) x (inr has) none = let (first, rest) = and_parts (is_no_node w) (list_all is_no_node ws) none in has_none ws x has rest

  all_joined : (fr : List ℕ) (xs ys : List Term) → list_all (is_true N s fr) (xs ++ ys) ≡ (list_all (is_true N s fr) xs && list_all (is_true N s fr) ys)
  all_joined fr [] ys = refl
  all_joined fr (x ∷ xs) ys = ap (λ b. is_true N s fr x && b) (all_joined fr xs ys) ∙ assoc (is_true N s fr x) _ _
    where
      assoc : (a b c : Bool) → (a && (b && c)) ≡ ((a && b) && c)
      assoc true b c = refl
      assoc false b c = refl

  -- how a family lies under a place whose indices lead to these: its nodes are those of the place's axes and then
  -- those that follow
  pub record Matched (frame : List ℕ) (at : List Value) (key : Key) (ns : List ℕ) (m : Match) : Type 0 where
    pub front : List ℕ
    pub rest : List ℕ
    pub parts : ns ≡ front ++ rest
    pub count : length front ≡ m.count
    pub long : length rest ≡ holes m.rest
    pub none : NoNodes m.rest
    pub nodes : Nodes N s rest
    pub found : beyond same_value at (at_nodes key ns) ≡ cond (list_all (is_true N s frame) m.tests && list_all (is_true N s frame) m.sames) (Some (at_nodes m.rest rest)) None

  abbrev IsMatch : List ℕ → List Value → Key → List ℕ → Option Match → Type 0
  IsMatch frame at key ns None = beyond same_value at (at_nodes key ns) ≡ None
  IsMatch frame at key ns (Some m) = Matched frame at key ns m

  module _ (fr : List ℕ) (total : ℕ) where
    lifted_there : (all : List ℕ) (i : Term) → length all ≡ total → value_of N s (fr ++ all) (lifted (length fr) total i) ≡ value_of N s fr i
    lifted_there all i long = lifted_by N s fr all total i long

    axis_match : (frame : List ℕ) (axis : ℕ) (i : Term) (x : Value) (n m : ℕ) (at : List Value) (key : Key) (ns : List ℕ) → x ≡ v.Node m → value_of N s frame i ≡ v.Node m → value_of N s frame (t.Var axis) ≡ v.Node n → (o : Option Match) → IsMatch frame at key ns o → is_node N n ≡ true → IsMatch frame (x ∷ at) (None ∷ key) (n ∷ ns) (option_map (on_axis axis i) o)
    axis_match frame axis i x n m at key ns x_is i_is axis_is None e node = none_either (same_value x (v.Node n)) (beyond same_value at (at_nodes key ns)) e
    axis_match frame axis i x n m at key ns x_is i_is axis_is (Some w) e node = record {
      front = n ∷ e.front;
      rest = e.rest;
      parts = ap (λ xs. n ∷ xs) e.parts;
      count = ap suc e.count;
      long = e.long;
      none = e.none;
      nodes = e.nodes;
      found = ap (λ o. cond (same_value x (v.Node n)) o None) e.found
          ∙ nested_axis (same_value x (v.Node n)) (list_all (is_true N s frame) w.tests) (list_all (is_true N s frame) w.sames) (Some (at_nodes w.rest e.rest))
          ∙ ap (λ b. cond (list_all (is_true N s frame) w.tests && (b && list_all (is_true N s frame) w.sames)) (Some (at_nodes w.rest e.rest)) None) same;
    }
      where
        same : same_value x (v.Node n) ≡ is_true N s frame (t.Same (t.Var axis) i)
        same = ap (λ y. same_value y (v.Node n)) x_is ∙ nodes_turned m n ∙ sym (ap truth (value-Same N s frame (t.Var axis) i) ∙ ap (λ y. same_value y (value_of N s frame i)) axis_is ∙ ap (same_value (v.Node n)) i_is)

    value_match : (frame : List ℕ) (i : Term) (x w : Value) (at : List Value) (key : Key) (ns : List ℕ) → value_of N s frame i ≡ x → (o : Option Match) → IsMatch frame at key ns o → IsMatch frame (x ∷ at) (Some w ∷ key) ns (option_map (on_value i w) o)
    value_match frame i x w at key ns is None e = none_either (same_value x w) (beyond same_value at (at_nodes key ns)) e
    value_match frame i x w at key ns is (Some m) e = record {
      front = e.front;
      rest = e.rest;
      parts = e.parts;
      count = e.count;
      long = e.long;
      none = e.none;
      nodes = e.nodes;
      found = ap (λ o. cond (same_value x w) o None) e.found
          ∙ nested_value (same_value x w) (list_all (is_true N s frame) m.tests) (list_all (is_true N s frame) m.sames) (Some (at_nodes m.rest e.rest))
          ∙ ap (λ b. cond ((b && list_all (is_true N s frame) m.tests) && list_all (is_true N s frame) m.sames) (Some (at_nodes m.rest e.rest)) None) (sym same);
    }
      where
        same : is_true N s frame (t.Same i (t.Known w)) ≡ same_value x w
        same = ap truth (value-Same N s frame i (t.Known w)) ∙ ap (λ y. same_value y (value_of N s frame (t.Known w))) is ∙ ap (same_value x) (value-Known N s frame w)

    match_is : (is : List Index) (at : List Value) (key : Key) (done ns : List ℕ) (axis : ℕ) → Leads N s fr is at → NoNodes key → length ns ≡ holes key → Nodes N s ns → length (done ++ ns) ≡ total → axis ≡ length fr + length done → IsMatch (fr ++ (done ++ ns)) at key ns (matched (lifted (length fr) total) axis is key)
    match_is [] [] key done ns axis leads none long nodes all axis_is = record { front = []; rest = ns; parts = refl; count = refl; long = long; none = none; nodes = nodes; found = refl }
    match_is [] (x ∷ at) key done ns axis leads none long nodes all axis_is = absurd leads
    match_is (i ∷ is) [] key done ns axis leads none long nodes all axis_is = absurd leads
    match_is (Axis mark i ∷ is) (x ∷ at) [] done ns axis leads none long nodes all axis_is = refl
    match_is (Axis mark i ∷ is) (x ∷ at) (Some w ∷ key) done ns axis (index, leads) (first, none) long nodes all axis_is =
        let (m, x_is, value, node) = index in
        none_false (same_value x w) (beyond same_value at (at_nodes key ns)) (ap (λ y. same_value y w) x_is ∙ node_other m w first)
    match_is (Axis mark i ∷ is) (x ∷ at) (None ∷ key) done [] axis leads none long nodes all axis_is = absurd (omega (arith, long))
    match_is (Axis mark i ∷ is) (x ∷ at) (None ∷ key) done (n ∷ ns) axis (index, leads) none long nodes all axis_is =
        let (m, x_is, value, node) = index in
        let (first, rest) = and_parts (is_node N n) (list_all (is_node N) ns) nodes in
        let moved : (done ++ n ∷ []) ++ ns ≡ done ++ n ∷ ns = append_assoc done (n ∷ []) ns in
        let inner : IsMatch (fr ++ (done ++ n ∷ ns)) at key ns (matched (lifted (length fr) total) (suc axis) is key) =
        subst (λ xs. IsMatch (fr ++ xs) at key ns (matched (lifted (length fr) total) (suc axis) is key)) moved
        (match_is is at key (done ++ n ∷ []) ns (suc axis) leads none (omega (arith, long)) rest (ap length moved ∙ all) (let l = length-append done (n ∷ []) in omega (arith, axis_is, l))) in
        axis_match (fr ++ (done ++ n ∷ ns)) axis (lifted (length fr) total i) x n m at key ns x_is (lifted_there (done ++ n ∷ ns) i all ∙ value) axis_value (matched (lifted (length fr) total) (suc axis) is key) inner first
      where
        axis_value : value_of N s (fr ++ (done ++ n ∷ ns)) (t.Var axis) ≡ v.Node n
        axis_value =
            ap (λ k. value_of N s (fr ++ (done ++ n ∷ ns)) (t.Var k)) (axis_is ∙ sym (length-append fr done))
            ∙ ap (λ xs. value_of N s xs (t.Var (length (fr ++ done)))) (sym (append_assoc fr done (n ∷ ns)))
            ∙ variable_there N s (fr ++ done) n ns
    match_is (Among ws i ∷ is) (x ∷ at) [] done ns axis leads none long nodes all axis_is = refl
    match_is (Among ws i ∷ is) (x ∷ at) (None ∷ key) done [] axis leads none long nodes all axis_is = absurd (omega (arith, long))
    match_is (Among ws i ∷ is) (x ∷ at) (None ∷ key) done (n ∷ ns) axis (index, leads) none long nodes all axis_is =
        let (value, has, nots) = index in
        none_false (same_value x (v.Node n)) (beyond same_value at (at_nodes key ns)) (other_node x n (has_none ws x has nots))
    match_is (Among ws i ∷ is) (x ∷ at) (Some w ∷ key) done ns axis (index, leads) (first, none) long nodes all axis_is =
        let (value, has, nots) = index in
        value_match (fr ++ (done ++ ns)) (lifted (length fr) total i) x w at key ns (lifted_there (done ++ ns) i all ∙ value) (matched (lifted (length fr) total) axis is key) (match_is is at key done ns axis leads none long nodes all axis_is)

  -- terms that show contents, whatever is under a place
  abbrev pub Shows : List ℕ → Shown → Contents → Type 0
  Shows fr new contents = (path : Path) (key : Key) (more : List ℕ) → NoNodes key → length more ≡ holes key → Nodes N s more → value_of N s (fr ++ more) (new path key) ≡ contents path (at_nodes key more)

  pub only_shows : (fr : List ℕ) (term : Term) (x : Value) → value_of N s fr term ≡ x → Shows fr (only_term (length fr) term) (only x)
  only_shows fr term x is path key more none long nodes = lifted_by N s fr more (holes key) term long ∙ is

  -- a place of terms stands for a place of the store
  pub record Spots (depth : ℕ) (fr : List ℕ) (spot : Spot) (place : Place) : Type 0 where
    pub reach : reaches depth spot.owner ≡ true
    pub owner : spot.owner ≡ place.owner
    pub path : spot.path ≡ place.path
    pub leads : Leads N s fr spot.at place.at

  pub place_shows : PlacingBinds → (depth : ℕ) (fr : List ℕ) (T : Terms) (c : Store) (spot : Spot) (place : Place) → Rep N s depth fr T c → Spots depth fr spot place → Shows fr (shown_at (length fr) T spot) (contents_at c place)
  place_shows binds depth fr T c spot place rep spots path key more none long nodes =
      shown_value N s binds depth fr T c rep spot spots.reach place.at path key more none long nodes spots.leads
      ∙ ap (λ o. c o (spot.path ++ path) (place.at ++ at_nodes key more)) spots.owner
      ∙ ap (λ p. c place.owner (p ++ path) (place.at ++ at_nodes key more)) spots.path

  module _ (depth : ℕ) (fr : List ℕ) (T : Terms) (c : Store) (rep : Rep N s depth fr T c) (spot : Spot) (place : Place) (spots : Spots depth fr spot place) (new : Shown) (contents : Contents) (shows : Shows fr new contents) where
    module _ (owner : Owner) (path : Path) (key : Key) (ns : List ℕ) (reach : reaches depth owner ≡ true) (none : NoNodes key) (long : length ns ≡ holes key) (nodes : Nodes N s ns) where
      abbrev old : Value
      old = c owner path (at_nodes key ns)

      abbrev slot : Slot
      slot = Family owner path key

      match_here : IsMatch (fr ++ ns) place.at key ns (matched (lifted (length fr) (holes key)) (length fr) spot.at key)
      match_here = match_is fr (holes key) spot.at place.at key [] ns (length fr) spots.leads none long nodes long (omega arith)

      renewed_value : (further : Path) (o : Option Match) → IsMatch (fr ++ ns) place.at key ns o → value_of N s (fr ++ ns) (unwrap_or (option_map (renewed_term (length fr) new further (T slot)) o) (T slot)) ≡ renewed contents old (Some further) (beyond same_value place.at (at_nodes key ns))
      renewed_value further None e = rep owner path key ns reach none long nodes ∙ sym (ap (renewed contents old (Some further)) e)
      renewed_value further (Some m) e =
          value-If N s (fr ++ ns) (t.And (m.tests ++ m.sames)) (lifted (length fr) m.count (new further m.rest)) (T slot)
          ∙ ap (λ b. cond b (value_of N s (fr ++ ns) (lifted (length fr) m.count (new further m.rest))) (value_of N s (fr ++ ns) (T slot))) (ap truth (value-And N s (fr ++ ns) (m.tests ++ m.sames)) ∙ all_joined (fr ++ ns) m.tests m.sames)
          ∙ go (list_all (is_true N s (fr ++ ns)) m.tests && list_all (is_true N s (fr ++ ns)) m.sames) refl
        where
          new_value : value_of N s (fr ++ ns) (lifted (length fr) m.count (new further m.rest)) ≡ contents further (at_nodes m.rest e.rest)
          new_value =
              ap (λ xs. value_of N s (fr ++ xs) (lifted (length fr) m.count (new further m.rest))) e.parts
              ∙ ap (λ k. value_of N s (fr ++ (e.front ++ e.rest)) (lifted (length fr) k (new further m.rest))) (sym e.count)
              ∙ lifted_between N s fr e.front e.rest (new further m.rest)
              ∙ shows further m.rest e.rest e.none e.long e.nodes

          go : (b : Bool) → (list_all (is_true N s (fr ++ ns)) m.tests && list_all (is_true N s (fr ++ ns)) m.sames) ≡ b → cond b (value_of N s (fr ++ ns) (lifted (length fr) m.count (new further m.rest))) (value_of N s (fr ++ ns) (T slot)) ≡ renewed contents old (Some further) (beyond same_value place.at (at_nodes key ns))
          go true was = new_value ∙ sym (ap (renewed contents old (Some further)) (e.found ∙ ap (λ b. cond b (Some (at_nodes m.rest e.rest)) None) was))
          go false was = rep owner path key ns reach none long nodes ∙ sym (ap (renewed contents old (Some further)) (e.found ∙ ap (λ b. cond b (Some (at_nodes m.rest e.rest)) None) was))

      under_path : (o : Option Path) → value_of N s (fr ++ ns) (unwrap_or (option_and_then (λ further. option_map (renewed_term (length fr) new further (T slot)) (matched (lifted (length fr) (holes key)) (length fr) spot.at key)) o) (T slot)) ≡ renewed contents old o (beyond same_value place.at (at_nodes key ns))
      under_path None = rep owner path key ns reach none long nodes
      under_path (Some further) = renewed_value further (matched (lifted (length fr) (holes key)) (length fr) spot.at key) match_here

      of_owner : (b : Bool) → value_of N s (fr ++ ns) (unwrap_or (if b then option_and_then (λ further. option_map (renewed_term (length fr) new further (T slot)) (matched (lifted (length fr) (holes key)) (length fr) spot.at key)) (beyond bytes_eq spot.path path) else None) (T slot)) ≡ (if b then renewed contents old (beyond bytes_eq place.path path) (beyond same_value place.at (at_nodes key ns)) else old)
      of_owner true = under_path (beyond bytes_eq spot.path path) ∙ ap (λ p. renewed contents old (beyond bytes_eq p path) (beyond same_value place.at (at_nodes key ns))) spots.path
      of_owner false = rep owner path key ns reach none long nodes

    -- the terms after the write represent the store after it
    pub written_rep : Rep N s depth fr ((written (length fr) T spot new).now) (store_written c place contents)
    written_rep owner path key ns reach none long nodes =
        of_owner owner path key ns reach none long nodes (same_owner owner spot.owner)
        ∙ ap (λ o. if same_owner owner o then renewed contents (c owner path (at_nodes key ns)) (beyond bytes_eq place.path path) (beyond same_value place.at (at_nodes key ns)) else c owner path (at_nodes key ns)) spots.owner
