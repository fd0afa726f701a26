-- Before anything is done the terms represent the state: each family of a global is read from its own cells.
use Rattle.std.proofs.Common.{◌≡◌, ℕ, zero, suc, ◌+◌, Bool, true, false, ◌&&◌, List, [], ◌∷◌, ◌++◌, length, map, Option, None, Some, refl, sym, ap, ◌∙◌, arith}
use Rattle.std.specs.Prelude.{if◌then◌else◌, nat_eq, slice_get, IsTrue}
use Rattle.std.specs.List.{flat_map, list_all}
use Rattle.std.specs.Option.{option_map_or}
use Rattle.std.specs.Str.{bytes_eq}
use Rattle.std.proofs.lemmas.Bool.{and_parts}
use Rattle.term_core.specs.declared.value.Value.{Value}
use Rattle.term_core.specs.declared.value.Value.TheVariants as v
use Rattle.term_core.specs.declared.term.Term.{Term}
use Rattle.term_core.specs.declared.machine.CellFamily.{CellFamily}
use Rattle.term_core.specs.Lists.{list_indices}
use Rattle.term_core.specs.Nodes.{is_node, nodes}
use Rattle.term_core.specs.Values.{same_value}
use Rattle.term_core.specs.Variables.{is_no_node}
use Rattle.term_core.specs.Meaning.{Cells, value_of, index_of, with_index, cell_at}
use Rattle.term_core.specs.Cells.{cell_value, filled, is_cell}
use Rattle.murphi_typed.specs.declared.types.Simple.{Simple}
use Rattle.murphi_typed.specs.declared.types.Simple.TheVariants as simple
use Rattle.murphi_typed.specs.declared.protocol.Typed.{Typed}
use Rattle.murphi_typed.specs.declared.protocol.Variable.{Variable}
use Rattle.murphi_typed.specs.Values.{values}
use Rattle.murphi_typed.specs.Families.{Path, Cell, Way, ways, axes_of, path_of, choices, cells_on, cells_from, cells}
use Rattle.murphi_typed.specs.Steps.{State, same_list, is_cell as is_store_cell, listed, cells_of}
use Rattle.murphi_typed.specs.Store.{Owner, Global, Local, Formal, Cells as Store, same_owner}
use Rattle.rule_inline.specs.Tables.{Key, holes, variables}
use Rattle.rule_inline.specs.Parts.{undefined}
use Rattle.rule_inline.specs.Presents.{at_nodes, cell_in, machine_cells, state_over}
use Rattle.rule_inline.specs.Machine.{fixed, CellsOf, family_of, families_of, cell_family, slot_of, same_part, is_slot, number_from, number_of, own_read, first_terms, trans}
use Rattle.rule_inline.proofs.ValueLemmas.{absurd_false, nats_one, nat_itself, values_one, value_itself}
use Rattle.rule_inline.proofs.TermLemmas.{value-Known, value-Read}
use Rattle.rule_inline.proofs.Outcome.{Nodes}
use Rattle.rule_inline.proofs.PlaceLemmas.{NoNodes, Rep, Stand, stand_last}

-- Things that are one

names_one : (xs ys : List ℕ) → bytes_eq xs ys ≡ true → xs ≡ ys
names_one [] [] e = refl
names_one [] (y ∷ ys) e = cc
names_one (x ∷ xs) [] e = cc
names_one (x ∷ xs) (y ∷ ys) e =
    let (h, t) = and_parts (nat_eq x y) (bytes_eq xs ys) e in
    ap (λ z. z ∷ xs) (nats_one x y h) ∙ ap (λ zs. y ∷ zs) (names_one xs ys t)

name_itself : (xs : List ℕ) → bytes_eq xs xs ≡ true
name_itself [] = refl
name_itself (x ∷ xs) = ap (λ b. b && bytes_eq xs xs) (nat_itself x) ∙ name_itself xs

lists_one : {A : Type 0} (same : A → A → Bool) → ((x y : A) → same x y ≡ true → x ≡ y) → (xs ys : List A) → same_list same xs ys ≡ true → xs ≡ ys
lists_one same sound [] [] e = refl
lists_one same sound [] (y ∷ ys) e = cc
lists_one same sound (x ∷ xs) [] e = cc
lists_one same sound (x ∷ xs) (y ∷ ys) e =
    let (h, t) = and_parts (same x y) (same_list same xs ys) e in
    ap (λ z. z ∷ xs) (sound x y h) ∙ ap (λ zs. y ∷ zs) (lists_one same sound xs ys t)

list_itself : {A : Type 0} (same : A → A → Bool) → ((x : A) → same x x ≡ true) → (xs : List A) → same_list same xs xs ≡ true
list_itself same self [] = refl
list_itself same self (x ∷ xs) = ap (λ b. b && same_list same xs xs) (self x) ∙ list_itself same self xs

parts_one : (a b : Option Value) → same_part a b ≡ true → a ≡ b
parts_one None None e = refl
parts_one None (Some b) e = cc
parts_one (Some a) None e = cc
parts_one (Some a) (Some b) e = ap Some (values_one a b e)

part_itself : (a : Option Value) → same_part a a ≡ true
part_itself None = refl
part_itself (Some a) = value_itself a

globals_one : (a : ℕ) (b : Owner) → same_owner (Global a) b ≡ true → Global a ≡ b
globals_one a (Global b) e = ap Global (nats_one a b e)
globals_one a (Local d b) e = cc
globals_one a (Formal d b) e = cc

-- what a slot of a global is
pub slot_is : (c : CellsOf) (owner : Owner) (path : Path) (key : Key) → is_slot (slot_of c) owner path key ≡ true → (Global c.global ≡ owner) × (path_of c.steps ≡ path) × (c.key ≡ key)
slot_is c owner path key e =
    let (o, rest) = and_parts (same_owner (Global c.global) owner) (same_list bytes_eq (path_of c.steps) path && same_list same_part c.key key) e in
    let (p, k) = and_parts (same_list bytes_eq (path_of c.steps) path) (same_list same_part c.key key) rest in
    (globals_one c.global owner o, lists_one bytes_eq names_one (path_of c.steps) path p, lists_one same_part parts_one c.key key k)

slot_itself : (c : CellsOf) → is_slot (slot_of c) (Global c.global) (path_of c.steps) c.key ≡ true
slot_itself c =
    ap (λ b. b && (same_list bytes_eq (path_of c.steps) (path_of c.steps) && same_list same_part c.key c.key)) (nat_itself c.global)
    ∙ ap (λ b. b && same_list same_part c.key c.key) (list_itself bytes_eq name_itself (path_of c.steps))
    ∙ list_itself same_part part_itself c.key

-- Numbers of families

abbrev pub IsAt : ℕ → List CellsOf → Owner → Path → Key → Option ℕ → Type 0
IsAt first cs owner path key None = Unit {0}
IsAt first cs owner path key (Some f) = (i : ℕ) × (c : CellsOf) × (f ≡ first + i) × (slice_get cs i ≡ Some c) × (is_slot (slot_of c) owner path key ≡ true)

pub numbered : (first : ℕ) (cs : List CellsOf) (owner : Owner) (path : Path) (key : Key) → IsAt first cs owner path key (number_from first cs owner path key)
numbered first [] owner path key = tt
numbered first (c ∷ cs) owner path key = go (is_slot (slot_of c) owner path key) refl (numbered (suc first) cs owner path key)
  where
    later : (o : Option ℕ) → IsAt (suc first) cs owner path key o → IsAt first (c ∷ cs) owner path key o
    later None is = tt
    later (Some f) (i, d, at, found, is) = (suc i, d, at ∙ omega arith, found, is)

    go : (b : Bool) → is_slot (slot_of c) owner path key ≡ b → IsAt (suc first) cs owner path key (number_from (suc first) cs owner path key) → IsAt first (c ∷ cs) owner path key (if b then Some first else number_from (suc first) cs owner path key)
    go true e rest = (0, c, omega arith, refl, e)
    go false e rest = later (number_from (suc first) cs owner path key) rest

-- Facts of each

abbrev pub Each : {X : Type 0} → (X → Type 0) → List X → Type 0
Each P [] = Unit {0}
Each P (x ∷ xs) = P x × Each P xs

pub each_of : {X : Type 0} (P : X → Type 0) → ((x : X) → P x) → (xs : List X) → Each P xs
each_of P f [] = tt
each_of P f (x ∷ xs) = (f x, each_of P f xs)

pub each_weaker : {X : Type 0} (P Q : X → Type 0) → ((x : X) → P x → Q x) → (xs : List X) → Each P xs → Each Q xs
each_weaker P Q f [] e = tt
each_weaker P Q f (x ∷ xs) (p, e) = (f x p, each_weaker P Q f xs e)

pub each_joined : {X : Type 0} (P : X → Type 0) (xs ys : List X) → Each P xs → Each P ys → Each P (xs ++ ys)
each_joined P [] ys a b = b
each_joined P (x ∷ xs) ys (p, a) b = (p, each_joined P xs ys a b)

pub each_parts : {X : Type 0} (P : X → Type 0) (xs ys : List X) → Each P (xs ++ ys) → Each P xs × Each P ys
each_parts P [] ys e = (tt, e)
each_parts P (x ∷ xs) ys (p, e) = let (a, b) = each_parts P xs ys e in ((p, a), b)

pub each_map : {X Y : Type 0} (P : Y → Type 0) (f : X → Y) (xs : List X) → Each (λ x. P (f x)) xs → Each P (map f xs)
each_map P f [] e = tt
each_map P f (x ∷ xs) (p, e) = (p, each_map P f xs e)

pub each_under : {X Y : Type 0} (P : Y → Type 0) (f : X → Y) (xs : List X) → Each P (map f xs) → Each (λ x. P (f x)) xs
each_under P f [] e = tt
each_under P f (x ∷ xs) (p, e) = (p, each_under P f xs e)

pub each_flat : {X Y : Type 0} (P : Y → Type 0) (f : X → List Y) (xs : List X) → Each (λ x. Each P (f x)) xs → Each P (flat_map f xs)
each_flat P f [] e = tt
each_flat P f (x ∷ xs) (p, e) = each_joined P (f x) (flat_map f xs) p (each_flat P f xs e)

pub each_flat_parts : {X Y : Type 0} (P : Y → Type 0) (f : X → List Y) (xs : List X) → Each P (flat_map f xs) → Each (λ x. Each P (f x)) xs
each_flat_parts P f [] e = tt
each_flat_parts P f (x ∷ xs) e = let (a, b) = each_parts P (f x) (flat_map f xs) e in (a, each_flat_parts P f xs b)

-- What holds of all choices with one node holds of those with any number, where nodes do not matter.

module _ (N : ℕ) where
  fixed_node : (Q : Option Value → Type 0) → Q None → Each (λ w. Q (fixed w)) (values N simple.Node)
  fixed_node Q q = each_map (λ w. Q (fixed w)) v.Node (nodes N) (each_of (λ n. Q None) (λ n. q) (nodes N))

  every_value : (u : Simple) (Q : Option Value → Type 0) → Each (λ w. Q (fixed w)) (values 1 u) → Each (λ w. Q (fixed w)) (values N u)
  every_value simple.Truth Q e = e
  every_value (simple.Range low high) Q e = e
  every_value (simple.Listed kind count) Q e = e
  every_value (simple.Scalarset kind count) Q e = e
  every_value simple.Node Q (q, rest) = fixed_node Q q

  pub every_choice : (us : List Simple) (Q : Key → Type 0) → Each (λ at. Q (map fixed at)) (choices 1 us) → Each (λ at. Q (map fixed at)) (choices N us)
  every_choice [] Q e = e
  every_choice (u ∷ us) Q e =
      each_flat (λ at. Q (map fixed at)) (λ w. map (λ vs. w ∷ vs) (choices N us)) (values N u)
      (each_weaker (λ w. Each (λ vs. Q (fixed w ∷ map fixed vs)) (choices N us)) (λ w. Each (λ at. Q (map fixed at)) (map (λ vs. w ∷ vs) (choices N us)))
      (λ w all. each_map (λ at. Q (map fixed at)) (λ vs. w ∷ vs) (choices N us) all) (values N u)
      (every_value u (λ o. Each (λ vs. Q (o ∷ map fixed vs)) (choices N us))
      (each_weaker (λ w. Each (λ at. Q (map fixed at)) (map (λ vs. w ∷ vs) (choices 1 us))) (λ w. Each (λ vs. Q (fixed w ∷ map fixed vs)) (choices N us))
      (λ w all. every_choice us (λ key. Q (fixed w ∷ key)) (each_under (λ at. Q (map fixed at)) (λ vs. w ∷ vs) (choices 1 us) all)) (values 1 u)
      (each_flat_parts (λ at. Q (map fixed at)) (λ w. map (λ vs. w ∷ vs) (choices 1 us)) (values 1 u) e))))

  every_on : (P : CellsOf → Type 0) (k : ℕ) (way : Way) → Each (λ c. P (family_of c)) (cells_on 1 k way) → Each (λ c. P (family_of c)) (cells_on N k way)
  every_on P k way e =
      each_map (λ c. P (family_of c)) (λ at. record { global = k; way = way; at = at }) (choices N (axes_of way.steps))
      (every_choice (axes_of way.steps) (λ key. P (record { global = k; steps = way.steps; key = key; of = way.leaf }))
      (each_under (λ c. P (family_of c)) (λ at. record { global = k; way = way; at = at }) (choices 1 (axes_of way.steps)) e))

  every_from : (P : CellsOf → Type 0) (k : ℕ) (vs : List Variable) → Each (λ c. P (family_of c)) (cells_from 1 k vs) → Each (λ c. P (family_of c)) (cells_from N k vs)
  every_from P k [] e = tt
  every_from P k (w ∷ vs) e =
      let (a, b) = each_parts (λ c. P (family_of c)) (flat_map (cells_on 1 k) (ways w.of)) (cells_from 1 (suc k) vs) e in
      each_joined (λ c. P (family_of c)) (flat_map (cells_on N k) (ways w.of)) (cells_from N (suc k) vs)
      (each_flat (λ c. P (family_of c)) (cells_on N k) (ways w.of)
      (each_weaker (λ way. Each (λ c. P (family_of c)) (cells_on 1 k way)) (λ way. Each (λ c. P (family_of c)) (cells_on N k way)) (every_on P k) (ways w.of)
      (each_flat_parts (λ c. P (family_of c)) (cells_on 1 k) (ways w.of) a)))
      (every_from P (suc k) vs b)

  -- each cell is of a family
  pub every_cell : (T : Typed) (P : CellsOf → Type 0) → Each P (families_of T) → Each (λ c. P (family_of c)) (cells N T)
  every_cell T P e = every_from P 0 T.globals (each_under P family_of (cells 1 T) e)

-- Cells of no family

fixed_nodes : (key : Key) (ns : List ℕ) → NoNodes key → length ns ≡ holes key → map fixed (at_nodes key ns) ≡ key
fixed_nodes [] ns none long = refl
fixed_nodes (None ∷ key) [] none long = absurd (omega (arith, long))
fixed_nodes (None ∷ key) (n ∷ ns) none long = ap (λ k. None ∷ k) (fixed_nodes key ns none (omega (arith, long)))
fixed_nodes (Some w ∷ key) ns (node, none) long = ap (λ o. o ∷ map fixed (at_nodes key ns)) (kept w node) ∙ ap (λ k. Some w ∷ k) (fixed_nodes key ns none long)
  where
    kept : (w : Value) → is_no_node w ≡ true → fixed w ≡ Some w
    kept v.Undefined e = refl
    kept (v.Truth b) e = refl
    kept (v.Number b) e = refl
    kept (v.Member k b) e = refl
    kept (v.Node n) e = absurd_false e

no_number : (first : ℕ) (cs : List CellsOf) (owner : Owner) (path : Path) (key : Key) → number_from first cs owner path key ≡ None → Each (λ c. is_slot (slot_of c) owner path key ≡ false) cs
no_number first [] owner path key e = tt
no_number first (c ∷ cs) owner path key e = go (no_number (suc first) cs owner path key) (is_slot (slot_of c) owner path key) refl e
  where
    go : (number_from (suc first) cs owner path key ≡ None → Each (λ d. is_slot (slot_of d) owner path key ≡ false) cs) → (b : Bool) → is_slot (slot_of c) owner path key ≡ b → (if b then Some first else number_from (suc first) cs owner path key) ≡ None → Each (λ d. is_slot (slot_of d) owner path key ≡ false) (c ∷ cs)
    go later true was e = cc
    go later false was e = (was, later e)

not_listed : (cs : List Cell) (s : State) (owner : Owner) (path : Path) (at : List Value) → Each (λ c. is_store_cell c owner path at ≡ false) cs → listed cs s owner path at ≡ v.Undefined
not_listed [] s owner path at e = refl
not_listed (c ∷ cs) [] owner path at e = refl
not_listed (c ∷ cs) (w ∷ s) owner path at (other, e) = ap (λ b. if b then w else listed cs s owner path at) other ∙ not_listed cs s owner path at e

store_cell_is : (c : Cell) (owner : Owner) (path : Path) (key : Key) (ns : List ℕ) → NoNodes key → length ns ≡ holes key → is_slot (slot_of (family_of c)) owner path key ≡ false → is_store_cell c owner path (at_nodes key ns) ≡ false
store_cell_is c owner path key ns none long other = go (is_store_cell c owner path (at_nodes key ns)) refl
  where
    go : (b : Bool) → is_store_cell c owner path (at_nodes key ns) ≡ b → b ≡ false
    go false e = refl
    go true e =
        let (o, rest) = and_parts (same_owner (Global c.global) owner) (same_list bytes_eq (path_of c.way.steps) path && same_list same_value c.at (at_nodes key ns)) e in
        let (p, a) = and_parts (same_list bytes_eq (path_of c.way.steps) path) (same_list same_value c.at (at_nodes key ns)) rest in
        let o_is = globals_one c.global owner o in
        let p_is = lists_one bytes_eq names_one (path_of c.way.steps) path p in
        let k_is : map fixed c.at ≡ key = ap (map fixed) (lists_one same_value values_one c.at (at_nodes key ns) a) ∙ fixed_nodes key ns none long in
        absurd_false (sym other ∙ ap (λ w. is_slot (slot_of (family_of c)) w path key) (sym o_is) ∙ ap (λ q. is_slot (slot_of (family_of c)) (Global c.global) q key) (sym p_is) ∙ ap (λ k. is_slot (slot_of (family_of c)) (Global c.global) (path_of c.way.steps) k) (sym k_is) ∙ slot_itself (family_of c))

-- a cell of no family is undefined in a state
pub no_family : (N : ℕ) (T : Typed) (s : State) (owner : Owner) (path : Path) (key : Key) (ns : List ℕ) → NoNodes key → length ns ≡ holes key → number_of (families_of T) owner path key ≡ None → cells_of N T s owner path (at_nodes key ns) ≡ v.Undefined
no_family N T s owner path key ns none long e =
    not_listed (cells N T) s owner path (at_nodes key ns)
    (each_weaker (λ c. is_slot (slot_of (family_of c)) owner path key ≡ false) (λ c. is_store_cell c owner path (at_nodes key ns) ≡ false) (λ c other. store_cell_is c owner path key ns none long other) (cells N T)
    (every_cell N T (λ d. is_slot (slot_of d) owner path key ≡ false) (no_number 0 (families_of T) owner path key e)))

-- Reading

module _ (N : ℕ) (c : Cells) where
  pub indices_stand : (fr : List ℕ) (xs : List Term) (ns : List ℕ) → Stand N c fr xs ns → Nodes N c ns → list_indices N c fr xs ≡ Some ns
  indices_stand fr [] [] a nodes = refl
  indices_stand fr [] (n ∷ ns) a nodes = absurd a
  indices_stand fr (x ∷ xs) [] a nodes = absurd a
  indices_stand fr (x ∷ xs) (n ∷ ns) (e, a) nodes =
      let (one, rest) = and_parts (is_node N n) (list_all (is_node N) ns) nodes in
      ap (λ w. with_index (index_of N w) (list_indices N c fr xs)) e
      ∙ ap (λ b. with_index (if b then Some n else None) (list_indices N c fr xs)) one
      ∙ ap (with_index (Some n)) (indices_stand fr xs ns a rest)

  own_value : (fr ns : List ℕ) (key : Key) (f : ℕ) → length ns ≡ holes key → Nodes N c ns → value_of N c (fr ++ ns) (own_read (length fr) key f) ≡ c f ns
  own_value fr ns key f long nodes =
      value-Read N c (fr ++ ns) f (variables (length fr) (holes key))
      ∙ ap (cell_at c f) (indices_stand (fr ++ ns) (variables (length fr) (holes key)) ns (stand_last N c fr ns (holes key) long) nodes)

  -- the first terms represent a store that has the values of the machine's cells
  pub first_rep : (T : Typed) (now : Store)
      → ((f : ℕ) (d : CellsOf) (ns : List ℕ) → slice_get (families_of T) f ≡ Some d → length ns ≡ holes d.key → Nodes N c ns → c f ns ≡ cell_in now d ns)
      → ((owner : Owner) (path : Path) (key : Key) (ns : List ℕ) → NoNodes key → length ns ≡ holes key → number_of (families_of T) owner path key ≡ None → now owner path (at_nodes key ns) ≡ v.Undefined)
      → (depth : ℕ) (fr : List ℕ) → Rep N c depth fr (first_terms (families_of T) (length fr)) now
  first_rep T now has other depth fr owner path key ns reach none long nodes = go (number_of (families_of T) owner path key) refl (numbered 0 (families_of T) owner path key)
    where
      go : (o : Option ℕ) → number_of (families_of T) owner path key ≡ o → IsAt 0 (families_of T) owner path key o → value_of N c (fr ++ ns) (option_map_or (own_read (length fr) key) o undefined) ≡ now owner path (at_nodes key ns)
      go None e is = value-Known N c (fr ++ ns) v.Undefined ∙ sym (other owner path key ns none long e)
      go (Some f) e (i, d, at, found, is) =
          let (o_is, p_is, k_is) = slot_is d owner path key is in
          own_value fr ns key f long nodes
          ∙ ap (λ g. c g ns) (at ∙ omega arith)
          ∙ has i d ns found (long ∙ ap holes (sym k_is)) nodes
          ∙ ap (λ w. now w (path_of d.steps) (at_nodes d.key ns)) o_is
          ∙ ap (λ q. now owner q (at_nodes d.key ns)) p_is
          ∙ ap (λ k. now owner path (at_nodes k ns)) k_is

-- the machine's cells have the values of the families

pub get_map : {X Y : Type 0} (f : X → Y) (xs : List X) (k : ℕ) (x : X) → slice_get xs k ≡ Some x → slice_get (map f xs) k ≡ Some (f x)
get_map f [] k x e = cc
get_map f (y ∷ ys) zero x e = let same : y ≡ x = cc in ap (λ z. Some (f z)) same
get_map f (y ∷ ys) (suc k) x e = get_map f ys k x e

-- a filled state has the values that it is filled with
abbrev pub FilledValues : Type 0
FilledValues = (N : ℕ) (families : List CellFamily) (g : Cells) (f : ℕ) (at : List ℕ) → IsTrue (is_cell N families f at) → cell_value N families (filled N families g) f at ≡ g f at

pub machine_value : FilledValues → (N : ℕ) (T : Typed) (s : State) (f : ℕ) (d : CellsOf) (ns : List ℕ) → slice_get (families_of T) f ≡ Some d → length ns ≡ holes d.key → list_all (is_node N) ns ≡ true
    → cell_value N (trans T).families (state_over N T (trans T).families s) f ns ≡ cell_in (cells_of N T s) d ns
machine_value tables N T s f d ns found long nodes =
    tables N (trans T).families (machine_cells T (cells_of N T s)) f ns
    (ap (λ o. option_map_or (λ family. nat_eq (length ns) family.axes && list_all (is_node N) ns) o false) (get_map (cell_family T) (families_of T) f d found)
    ∙ ap (λ n. nat_eq n (holes d.key) && list_all (is_node N) ns) long
    ∙ ap (λ b. b && list_all (is_node N) ns) (nat_itself (holes d.key)) ∙ nodes)
    ∙ ap (λ o. option_map_or (λ g. cell_in (cells_of N T s) g ns) o v.Undefined) found

-- the first terms represent each state
pub state_rep : FilledValues → (N : ℕ) (T : Typed) (s : State) (depth : ℕ) (fr : List ℕ) → Rep N (cell_value N (trans T).families (state_over N T (trans T).families s)) depth fr (first_terms (families_of T) (length fr)) (cells_of N T s)
state_rep tables N T s =
    first_rep N (cell_value N (trans T).families (state_over N T (trans T).families s)) T (cells_of N T s)
    (λ f d ns found long nodes. machine_value tables N T s f d ns found long nodes)
    (λ owner path key ns none long e. no_family N T s owner path key ns none long e)
