-- Places: terms represent a store where each family in scope has the value of its cells, whatever its indices are. Reading at
-- the terms of the indices gives the cell that they lead to.
use Rattle.std.proofs.Common.{◌≡◌, ℕ, zero, suc, ◌+◌, Bool, true, false, ◌&&◌, cond, List, [], ◌∷◌, ◌++◌, length, map, None, Some, ◌⊎◌, inl, inr, refl, sym, ap, ◌∙◌, subst, append_assoc, arith}
use Rattle.std.specs.Prelude.{slice_get, nat_le}
use Rattle.std.specs.List.{list_all, flat_map}
use Rattle.std.specs.Option.{option_map_or}
use Rattle.std.proofs.lemmas.Bool.{and_parts}
use Rattle.std.proofs.lemmas.List.{length-append}
use Rattle.term_core.specs.declared.value.Value.{Value}
use Rattle.term_core.specs.declared.value.Value.TheVariants as v
use Rattle.term_core.specs.declared.term.Term as t
use Rattle.term_core.specs.declared.term.Term.{Term}
use Rattle.term_core.specs.Nodes.{is_node}
use Rattle.term_core.specs.Values.{truth, same_value}
use Rattle.term_core.specs.Meaning.{Cells, value_of}
use Rattle.term_core.specs.Variables.{is_no_node}
use Rattle.term_core.specs.Laws.{PlacingBinds}
use Rattle.murphi_typed.specs.Families.{Path}
use Rattle.murphi_typed.specs.Store.{Owner, Global, Local, Formal, Cells as Store}
use Rattle.rule_inline.specs.Tables.{Key, holes, Slot, Family, Terms, variables, lifted_all, Index, Axis, Among, Spot, Entry, with_axis, with_value, entries, read_at, tested, chain_of}
use Rattle.rule_inline.specs.Presents.{at_nodes}
use Rattle.rule_inline.proofs.ValueLemmas.{values_one, value_itself, absurd_false}
use Rattle.rule_inline.proofs.TermLemmas.{value-Known, value-Var, value-And, value-If, value-Same, is_true, and_of, lifted_by, lifted_terms, append_nothing}
use Rattle.rule_inline.proofs.Outcome.{Nodes}

-- no index that is fixed is a node
abbrev pub NoNodes : Key → Type 0
NoNodes [] = Unit {0}
NoNodes (None ∷ key) = NoNodes key
NoNodes (Some v ∷ key) = (is_no_node v ≡ true) × NoNodes key

pub no_nodes_joined : (key more : Key) → NoNodes key → NoNodes more → NoNodes (key ++ more)
no_nodes_joined [] more a b = b
no_nodes_joined (None ∷ key) more a b = no_nodes_joined key more a b
no_nodes_joined (Some v ∷ key) more (x, a) b = (x, no_nodes_joined key more a b)

pub holes_joined : (key more : Key) → holes (key ++ more) ≡ holes key + holes more
holes_joined [] more = omega arith
holes_joined (None ∷ key) more = let e = holes_joined key more in omega (arith, e)
holes_joined (Some v ∷ key) more = holes_joined key more

pub at_joined : (key more : Key) (ns ms : List ℕ) → length ns ≡ holes key → at_nodes (key ++ more) (ns ++ ms) ≡ at_nodes key ns ++ at_nodes more ms
at_joined [] more [] ms long = refl
at_joined [] more (n ∷ ns) ms long = absurd (omega (arith, long))
at_joined (Some v ∷ key) more ns ms long = ap (λ vs. v ∷ vs) (at_joined key more ns ms long)
at_joined (None ∷ key) more [] ms long = absurd (omega (arith, long))
at_joined (None ∷ key) more (n ∷ ns) ms long = ap (λ vs. v.Node n ∷ vs) (at_joined key more ns ms (omega (arith, long)))

-- a value of a list
abbrev pub Has : List Value → Value → Type 0
Has [] x = ⊥
Has (w ∷ ws) x = (w ≡ x) ⊎ Has ws x

-- the variables of a body at this depth in calls, and of those around it
abbrev pub reaches : ℕ → Owner → Bool
reaches depth (Global k) = true
reaches depth (Local of k) = nat_le of depth
reaches depth (Formal of k) = nat_le of depth

module _ (N : ℕ) (s : Cells) where
  pub nodes_joined : (xs ys : List ℕ) → Nodes N s xs → Nodes N s ys → Nodes N s (xs ++ ys)
  nodes_joined [] ys a b = b
  nodes_joined (x ∷ xs) ys a b = let (first, rest) = and_parts (is_node N x) (list_all (is_node N) xs) a in and_of first (nodes_joined xs ys rest b)

  -- terms that stand for nodes
  abbrev pub Stand : List ℕ → List Term → List ℕ → Type 0
  Stand fr [] [] = Unit {0}
  Stand fr [] (n ∷ ns) = ⊥
  Stand fr (x ∷ xs) [] = ⊥
  Stand fr (x ∷ xs) (n ∷ ns) = (value_of N s fr x ≡ v.Node n) × Stand fr xs ns

  pub stand_joined : (fr : List ℕ) (xs ys : List Term) (ns ms : List ℕ) → Stand fr xs ns → Stand fr ys ms → Stand fr (xs ++ ys) (ns ++ ms)
  stand_joined fr [] ys [] ms a b = b
  stand_joined fr [] ys (n ∷ ns) ms a b = absurd a
  stand_joined fr (x ∷ xs) ys [] ms a b = absurd a
  stand_joined fr (x ∷ xs) ys (n ∷ ns) ms (e, a) b = (e, stand_joined fr xs ys ns ms a b)

  pub stand_lifted : (fr more : List ℕ) (count : ℕ) (xs : List Term) (ns : List ℕ) → length more ≡ count → Stand fr xs ns → Stand (fr ++ more) (lifted_all (length fr) count xs) ns
  stand_lifted fr more count [] [] long a = tt
  stand_lifted fr more count [] (n ∷ ns) long a = absurd a
  stand_lifted fr more count (x ∷ xs) [] long a = absurd a
  stand_lifted fr more count (x ∷ xs) (n ∷ ns) long (e, a) = (lifted_by N s fr more count x long ∙ e, stand_lifted fr more count xs ns long a)

  pub stand_length : (fr : List ℕ) (xs : List Term) (ns : List ℕ) → Stand fr xs ns → length ns ≡ length xs
  stand_length fr [] [] a = refl
  stand_length fr [] (n ∷ ns) a = absurd a
  stand_length fr (x ∷ xs) [] a = absurd a
  stand_length fr (x ∷ xs) (n ∷ ns) (e, a) = ap suc (stand_length fr xs ns a)

  pub stand_at : (fr : List ℕ) (xs : List Term) (ns : List ℕ) → Stand fr xs ns → (k : ℕ) (x : Term) (n : ℕ) → slice_get xs k ≡ Some x → slice_get ns k ≡ Some n → value_of N s fr x ≡ v.Node n
  stand_at fr [] [] a k x n e f = cc
  stand_at fr [] (m ∷ ns) a k x n e f = absurd a
  stand_at fr (y ∷ xs) [] a k x n e f = absurd a
  stand_at fr (y ∷ xs) (m ∷ ns) (g, a) zero x n e f = let p : y ≡ x = cc in let q : m ≡ n = cc in ap (value_of N s fr) (sym p) ∙ g ∙ ap v.Node q
  stand_at fr (y ∷ xs) (m ∷ ns) (g, a) (suc k) x n e f = stand_at fr xs ns a k x n e f

  there : (before : List ℕ) (n : ℕ) (after : List ℕ) → slice_get (before ++ n ∷ after) (length before) ≡ Some n
  there [] n after = refl
  there (m ∷ before) n after = there before n after

  pub variable_there : (before : List ℕ) (n : ℕ) (after : List ℕ) → value_of N s (before ++ n ∷ after) (t.Var (length before)) ≡ v.Node n
  variable_there before n after = value-Var N s (before ++ n ∷ after) (length before) ∙ ap (λ o. option_map_or v.Node o v.Undefined) (there before n after)

  pub stand_variables : (before ns after : List ℕ) → Stand (before ++ (ns ++ after)) (variables (length before) (length ns)) ns
  stand_variables before [] after = tt
  stand_variables before (n ∷ ns) after = (
    variable_there before n (ns ++ after),
    subst (λ fr. Stand fr (variables (suc (length before)) (length ns)) ns) (append_assoc before (n ∷ []) (ns ++ after))
        (subst (λ k. Stand ((before ++ n ∷ []) ++ (ns ++ after)) (variables k (length ns)) ns) (length-append before (n ∷ []) ∙ omega arith) (stand_variables (before ++ n ∷ []) ns after)),
  )

  -- all variables of a frame, and the first and the last of it
  pub stand_frame : (fr more : List ℕ) → Stand (fr ++ more) (variables 0 (length fr)) fr
  stand_frame fr more = stand_variables [] fr more

  pub stand_last : (fr more : List ℕ) (count : ℕ) → length more ≡ count → Stand (fr ++ more) (variables (length fr) count) more
  stand_last fr more count long = subst (λ m. Stand (fr ++ more) (variables (length fr) m) more) long (subst (λ xs. Stand (fr ++ xs) (variables (length fr) (length more)) more) (append_nothing more) (stand_variables fr more []))

  -- The terms represent the store

  abbrev pub Rep : ℕ → List ℕ → Terms → Store → Type 0
  Rep depth fr T c = (owner : Owner) (path : Path) (key : Key) (ns : List ℕ) → reaches depth owner ≡ true → NoNodes key → length ns ≡ holes key → Nodes N s ns → value_of N s (fr ++ ns) (T (Family owner path key)) ≡ c owner path (at_nodes key ns)

  -- what the indices of a place lead to
  abbrev pub IndexIs : List ℕ → Index → Value → Type 0
  IndexIs fr (Axis mark i) x = (n : ℕ) × (x ≡ v.Node n) × (value_of N s fr i ≡ v.Node n) × (is_node N n ≡ true)
  IndexIs fr (Among ws i) x = (value_of N s fr i ≡ x) × Has ws x × (list_all is_no_node ws ≡ true)

  abbrev pub Leads : List ℕ → List Index → List Value → Type 0
  Leads fr [] [] = Unit {0}
  Leads fr [] (x ∷ xs) = ⊥
  Leads fr (i ∷ is) [] = ⊥
  Leads fr (i ∷ is) (x ∷ xs) = IndexIs fr i x × Leads fr is xs

  -- an entry whose tests are true is the family that the indices lead to, at its nodes
  pub record Right (fr : List ℕ) (at : List Value) (e : Entry) : Type 0 where
    pub ns : List ℕ
    pub at_is : at_nodes e.key ns ≡ at
    pub stand : Stand fr e.nodes ns
    pub no_nodes : NoNodes e.key
    pub count : length ns ≡ holes e.key
    pub nodes : Nodes N s ns

  abbrev pub Settles : List ℕ → List Value → Entry → Type 0
  Settles fr at e = list_all (is_true N s fr) e.tests ≡ true → Right fr at e

  abbrev pub AllSettle : List ℕ → List Value → List Entry → Type 0
  AllSettle fr at [] = Unit {0}
  AllSettle fr at (e ∷ es) = Settles fr at e × AllSettle fr at es

  -- some entry's tests are true
  abbrev pub There : List ℕ → List Entry → Type 0
  There fr [] = ⊥
  There fr (e ∷ es) = (list_all (is_true N s fr) e.tests ≡ true) ⊎ There fr es

  module _ (fr : List ℕ) where
    settle_joined : (at : List Value) (es fs : List Entry) → AllSettle fr at es → AllSettle fr at fs → AllSettle fr at (es ++ fs)
    settle_joined at [] fs a b = b
    settle_joined at (e ∷ es) fs (x, a) b = (x, settle_joined at es fs a b)

    there_first : (es fs : List Entry) → There fr es → There fr (es ++ fs)
    there_first [] fs a = absurd a
    there_first (e ∷ es) fs (inl a) = inl a
    there_first (e ∷ es) fs (inr a) = inr (there_first es fs a)

    there_second : (es fs : List Entry) → There fr fs → There fr (es ++ fs)
    there_second [] fs a = a
    there_second (e ∷ es) fs a = inr (there_second es fs a)

    settle_axis : (i : Term) (n : ℕ) (at : List Value) (es : List Entry) → value_of N s fr i ≡ v.Node n → is_node N n ≡ true → AllSettle fr at es → AllSettle fr (v.Node n ∷ at) (map (with_axis i) es)
    settle_axis i n at [] e is a = tt
    settle_axis i n at (x ∷ es) e is (settles, a) = (
      λ h. (let r = settles h in record {
        ns = n ∷ r.ns;
        at_is = ap (λ vs. v.Node n ∷ vs) r.at_is;
        stand = (e, r.stand);
        no_nodes = r.no_nodes;
        count = ap suc r.count;
        nodes = and_of is r.nodes;
      }),
      settle_axis i n at es e is a,
    )

    there_axis : (i : Term) (es : List Entry) → There fr es → There fr (map (with_axis i) es)
    there_axis i [] a = absurd a
    there_axis i (x ∷ es) (inl a) = inl a
    there_axis i (x ∷ es) (inr a) = inr (there_axis i es a)

    module _ (i : Term) (x : Value) (is : value_of N s fr i ≡ x) (at : List Value) where
      test_value : (w : Value) (ts : List Term) → list_all (is_true N s fr) (t.Same i (t.Known w) ∷ ts) ≡ (same_value x w && list_all (is_true N s fr) ts)
      test_value w ts = ap (λ b. b && list_all (is_true N s fr) ts) (ap truth (value-Same N s fr i (t.Known w)) ∙ ap (λ y. same_value y (value_of N s fr (t.Known w))) is ∙ ap (same_value x) (value-Known N s fr w))

      settle_value : (w : Value) (es : List Entry) → is_no_node w ≡ true → AllSettle fr at es → AllSettle fr (x ∷ at) (map (with_value i w) es)
      settle_value w [] none a = tt
      settle_value w (e ∷ es) none (settles, a) = (
        λ h. (let (same, rest) = and_parts (same_value x w) (list_all (is_true N s fr) e.tests) (sym (test_value w e.tests) ∙ h) in
            let r = settles rest in
            record {
              ns = r.ns;
              at_is = ap (λ y. y ∷ at_nodes e.key r.ns) (sym (values_one x w same)) ∙ ap (λ vs. x ∷ vs) r.at_is;
              stand = r.stand;
              no_nodes = (none, r.no_nodes);
              count = r.count;
              nodes = r.nodes;
            }),
        settle_value w es none a,
      )

      settle_values : (ws : List Value) (es : List Entry) → list_all is_no_node ws ≡ true → AllSettle fr at es → AllSettle fr (x ∷ at) (flat_map (λ w. map (with_value i w) es) ws)
      settle_values [] es none a = tt
      settle_values (w ∷ ws) es none a =
          let (first, rest) = and_parts (is_no_node w) (list_all is_no_node ws) none in
          settle_joined (x ∷ at) (map (with_value i w) es) (flat_map (λ w. map (with_value i w) es) ws) (settle_value w es first a) (settle_values ws es rest a)

      there_value : (w : Value) (es : List Entry) → w ≡ x → There fr es → There fr (map (with_value i w) es)
      there_value w [] e a = absurd a
      there_value w (f ∷ es) e (inl a) = inl (test_value w f.tests ∙ and_of (ap (same_value x) e ∙ value_itself x) a)
      there_value w (f ∷ es) e (inr a) = inr (there_value w es e a)

      there_values : (ws : List Value) (es : List Entry) → Has ws x → There fr es → There fr (flat_map (λ w. map (with_value i w) es) ws)
      there_values [] es has a = absurd has
      there_values (w ∷ ws) es (inl e) a = there_first (map (with_value i w) es) (flat_map (λ w. map (with_value i w) es) ws) (there_value w es e a)
      there_values (w ∷ ws) es (inr has) a = there_second (map (with_value i w) es) (flat_map (λ w. map (with_value i w) es) ws) (there_values ws es has a)

    pub settled : (is : List Index) (at : List Value) → Leads fr is at → AllSettle fr at (entries is) × There fr (entries is)
    settled [] [] leads = ((λ h. record { ns = []; at_is = refl; stand = tt; no_nodes = tt; count = refl; nodes = refl }, tt), inl refl)
    settled [] (x ∷ at) leads = absurd leads
    settled (i ∷ is) [] leads = absurd leads
    settled (Axis mark i ∷ is) (x ∷ at) (index, leads) =
        let (n, x_is, value, node) = index in
        let (a, b) = settled is at leads in
        (subst (λ y. AllSettle fr (y ∷ at) (map (with_axis i) (entries is))) (sym x_is) (settle_axis i n at (entries is) value node a), there_axis i (entries is) b)
    settled (Among ws i ∷ is) (x ∷ at) (index, leads) =
        let (value, has, none) = index in
        let (a, b) = settled is at leads in
        (settle_values i x value at ws (entries is) none a, there_values i x value at ws (entries is) has b)

  -- Reading

  module _ (binds : PlacingBinds) (depth : ℕ) (fr : List ℕ) (T : Terms) (c : Store) (rep : Rep depth fr T c) (spot : Spot) (reach : reaches depth spot.owner ≡ true) (at : List Value) (path : Path) (key : Key) (more : List ℕ) (none : NoNodes key) (long : length more ≡ holes key) (nodes : Nodes N s more) where
    abbrev slot : Entry → Slot
    slot e = Family spot.owner (spot.path ++ path) (e.key ++ key)

    abbrev all_terms : Entry → List Term
    all_terms e = variables 0 (length fr) ++ (lifted_all (length fr) (holes key) e.nodes ++ variables (length fr) (holes key))

    read_right : (e : Entry) → Right fr at e → value_of N s (fr ++ more) (read_at (length fr) T spot path key e) ≡ c spot.owner (spot.path ++ path) (at ++ at_nodes key more)
    read_right e r =
        let stands : Stand (fr ++ more) (all_terms e) (fr ++ (r.ns ++ more)) =
        stand_joined (fr ++ more) (variables 0 (length fr)) (lifted_all (length fr) (holes key) e.nodes ++ variables (length fr) (holes key)) fr (r.ns ++ more) (stand_frame fr more)
        (stand_joined (fr ++ more) (lifted_all (length fr) (holes key) e.nodes) (variables (length fr) (holes key)) r.ns more (stand_lifted fr more (holes key) e.nodes r.ns long r.stand) (stand_last fr more (holes key) long)) in
        let l : length (fr ++ more) ≡ length fr + holes key = length-append fr more ∙ ap (λ m. length fr + m) long in
        binds N s (fr ++ more) (fr ++ (r.ns ++ more)) (length fr + holes key) (all_terms e) (T (slot e)) l (stand_length (fr ++ more) (all_terms e) (fr ++ (r.ns ++ more)) stands)
        (λ k by n occurs at_k node_k. stand_at (fr ++ more) (all_terms e) (fr ++ (r.ns ++ more)) stands k by n at_k node_k)
        ∙ rep spot.owner (spot.path ++ path) (e.key ++ key) (r.ns ++ more) reach (no_nodes_joined e.key key r.no_nodes none)
        (length-append r.ns more ∙ (let a = r.count in let b = holes_joined e.key key in omega (arith, a, b, long))) (nodes_joined r.ns more r.nodes nodes)
        ∙ ap (c spot.owner (spot.path ++ path)) (at_joined e.key key r.ns more r.count ∙ ap (λ vs. vs ++ at_nodes key more) r.at_is)

    tested_value : (e : Entry) → is_true N s (fr ++ more) (tested (length fr) key e) ≡ list_all (is_true N s fr) e.tests
    tested_value e = ap truth (value-And N s (fr ++ more) (lifted_all (length fr) (holes key) e.tests)) ∙ lifted_terms N s fr more (holes key) e.tests long

    chain_value : (es : List Entry) → AllSettle fr at es → There fr es → value_of N s (fr ++ more) (chain_of (length fr) T spot path key es) ≡ c spot.owner (spot.path ++ path) (at ++ at_nodes key more)
    chain_value [] a there = absurd there
    chain_value (e ∷ []) (settles, a) (inl h) = read_right e (settles h)
    chain_value (e ∷ []) (settles, a) (inr h) = absurd h
    chain_value (e ∷ f ∷ es) (settles, a) there = go (list_all (is_true N s fr) e.tests) refl there (chain_value (f ∷ es) a)
      where
        chosen : (b : Bool) → list_all (is_true N s fr) e.tests ≡ b → value_of N s (fr ++ more) (chain_of (length fr) T spot path key (e ∷ f ∷ es)) ≡ cond b (value_of N s (fr ++ more) (read_at (length fr) T spot path key e)) (value_of N s (fr ++ more) (chain_of (length fr) T spot path key (f ∷ es)))
        chosen b was =
            value-If N s (fr ++ more) (tested (length fr) key e) (read_at (length fr) T spot path key e) (chain_of (length fr) T spot path key (f ∷ es))
            ∙ ap (λ x. cond x (value_of N s (fr ++ more) (read_at (length fr) T spot path key e)) (value_of N s (fr ++ more) (chain_of (length fr) T spot path key (f ∷ es)))) (tested_value e ∙ was)

        go : (b : Bool) → list_all (is_true N s fr) e.tests ≡ b → (list_all (is_true N s fr) e.tests ≡ true) ⊎ There fr (f ∷ es) → (There fr (f ∷ es) → value_of N s (fr ++ more) (chain_of (length fr) T spot path key (f ∷ es)) ≡ c spot.owner (spot.path ++ path) (at ++ at_nodes key more)) → value_of N s (fr ++ more) (chain_of (length fr) T spot path key (e ∷ f ∷ es)) ≡ c spot.owner (spot.path ++ path) (at ++ at_nodes key more)
        go true was there again = chosen true was ∙ read_right e (settles was)
        go false was (inl h) again = absurd_false (sym was ∙ h)
        go false was (inr h) again = chosen false was ∙ again h

    pub shown_value : Leads fr spot.at at → value_of N s (fr ++ more) (chain_of (length fr) T spot path key (entries spot.at)) ≡ c spot.owner (spot.path ++ path) (at ++ at_nodes key more)
    shown_value leads = let (a, b) = settled fr spot.at at leads in chain_value (entries spot.at) a b
