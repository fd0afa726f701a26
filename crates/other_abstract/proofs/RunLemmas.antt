-- What holds at the end of every abstract run holds in every reached state, for every number of nodes.
use Rattle.std.proofs.Common.{◌≡◌, ℕ, zero, suc, ◌+◌, ◌-◌, ◌<◌, ◌≤◌, Bool, true, false, ◌&&◌, ◌||◌, cond, eqb, List, [], ◌∷◌, ◌++◌, length, map, take, length-append, length-take-le, Some, refl, sym, ap, ◌∙◌, subst, arith}
use Rattle.std.specs.Prelude.{nat_lt, nat_eq, slice_get}
use Rattle.std.specs.List.{list_all, list_any}
use Rattle.std.proofs.lemmas.Bool.{and_parts, eq-eqb}
use Rattle.std.proofs.lemmas.Option.{slice_get-map}
use Rattle.std.proofs.lemmas.List.{length-map}
use Rattle.std.proofs.lemmas.Map.Steps.{le-length_from_below}
use Rattle.std.specs.Option.{option_map}
use Rattle.term_core.specs.declared.machine.TermRule.{TermRule}
use Rattle.term_core.specs.declared.machine.Piece.{Piece}
use Rattle.term_core.specs.Nodes.{is_node, nodes, nodes_from}
use Rattle.term_core.specs.Cells.{State, IsState, cell_value, blank_state}
use Rattle.term_core.specs.Meaning.{holds}
use Rattle.term_core.specs.Firing as firing
use Rattle.term_core.specs.Firing.{IsRun, IsReached, HasFalsePiece, IsFalseFor, node_parameters, Starts, start_state}
use Rattle.term_core.specs.Whole.{IsWhole, IsWithinPrefix}
use Rattle.other_abstract.proofs.CellLemmas.{Known}
use Rattle.other_abstract.specs.declared.node.AbsNode.{AbsNode}
use Rattle.other_abstract.specs.Windows.{is_in_window}
use Rattle.other_abstract.specs.May.{AbsCells, May, MayBe}
use Rattle.other_abstract.specs.declared.machine.AbstractMachine.{AbstractMachine}
use Rattle.other_abstract.specs.Machines.{window, FitsWindow, IsAbsStart, AbsStarts, AbsFires, IsAbsRun, IsClean, NoStartFaults, IsSafe, IsInductive, AllHold, FormulasFit, PrefixesFit}
use Rattle.other_abstract.specs.Images.{is_chosen, later, place_in, are_distinct, IsChoice, renamed_node, image, extended, pattern_of}
use Rattle.other_abstract.proofs.NodeLemmas.{all_at, node_is}
use Rattle.other_abstract.proofs.ImageLemmas.{there}
use Rattle.other_abstract.proofs.ChoiceLemmas.{extends, still_chosen}
use Rattle.other_abstract.proofs.SimulationLemmas.{all_get, truth_covers, step_covered}
use Rattle.other_abstract.proofs.StartLemmas.{start_covered, fault_covered, names_in}

-- a choice of so many nodes that has these
pub record Covering (N m : ℕ) (ns : List ℕ) : Type 0 where
  pub nodes : List ℕ
  pub choice : IsChoice N m nodes
  pub long : length nodes ≡ m
  pub chosen : list_all (is_chosen nodes) ns ≡ true

length-extended : (c ns : List ℕ) → length (extended c ns) ≤ length c + length ns
length-extended c [] = omega arith
length-extended c (n ∷ ns) = go (nat_eq (place_in c n) 0) (length-extended (c ++ n ∷ []) ns) (length-extended c ns)
  where
    go : (b : Bool) → length (extended (c ++ n ∷ []) ns) ≤ length (c ++ n ∷ []) + length ns → length (extended c ns) ≤ length c + length ns → length (cond b (extended (c ++ n ∷ []) ns) (extended c ns)) ≤ length c + suc (length ns)
    go true f g = omega (arith, f, length-append c (n ∷ []))
    go false f g = omega (arith, g)

some_is : {X : Type 0} {a b : X} → Some a ≡ Some b → a ≡ b
some_is e = cc

any_there : {X : Type 0} (p : X → Bool) (xs : List X) (j : ℕ) (x : X) → slice_get xs j ≡ Some x → p x ≡ true → list_any p xs ≡ true
any_there p [] j x e h = cc
any_there p (y ∷ ys) zero x e h = go (p y) (ap p (some_is e) ∙ h)
  where
    go : (b : Bool) → b ≡ true → (b || list_any p ys) ≡ true
    go true e = refl
    go false e = cc
any_there p (y ∷ ys) (suc j) x e h = go (p y) (any_there p ys j x e h)
  where
    go : (b : Bool) → list_any p ys ≡ true → (b || list_any p ys) ≡ true
    go true e = refl
    go false e = e

-- a list that has each of N nodes is that long
all_nodes_long : (N : ℕ) (d : List ℕ) → list_all (is_chosen d) (nodes N) ≡ true → N ≤ length d
all_nodes_long N d all = subst (λ k. N ≤ k) (length-map d (λ x. x - 1)) (le-length_from_below (map (λ x. x - 1) d) N (λ q less. at q less (place_in d (suc q)) refl))
  where
    at : (q : ℕ) → q < N → (k : ℕ) → place_in d (suc q) ≡ k → list_any (eqb q) (map (λ x. x - 1) d) ≡ true
    at q less k e = here k e
      where
        chosen : is_chosen d (suc q) ≡ true
        chosen = all_at N (is_chosen d) (suc q) all (node_is N (suc q) (omega arith) less)

        minus : suc q - 1 ≡ q
        minus = omega arith

        here : (k : ℕ) → place_in d (suc q) ≡ k → list_any (eqb q) (map (λ x. x - 1) d) ≡ true
        here zero e = let h : false ≡ true = sym (let z : nat_lt 0 0 ≡ false = refl in z) ∙ sym (ap (nat_lt 0) e) ∙ chosen in absurd cc
        here (suc j) e = any_there (eqb q) (map (λ x. x - 1) d) j q (slice_get-map (λ x. x - 1) d j ∙ ap (option_map (λ x. x - 1)) (there d (suc q) j e) ∙ ap Some minus) (eq-eqb q q refl)

take_past : (xs ys : List ℕ) (k : ℕ) → length xs ≤ k → take k (xs ++ ys) ≡ xs ++ take (k - length xs) ys
take_past [] ys k h = ap (λ j. take j ys) (omega arith)
take_past (x ∷ xs) ys zero h = absurd (omega (arith, h))
take_past (x ∷ xs) ys (suc k) h = let e : suc k - suc (length xs) ≡ k - length xs = omega arith in ap (λ zs. x ∷ zs) (take_past xs ys k (omega (arith, h))) ∙ ap (λ j. x ∷ (xs ++ take j ys)) (sym e)

take_lacks : (xs : List ℕ) (k n : ℕ) → place_in xs n ≡ 0 → place_in (take k xs) n ≡ 0
take_lacks xs zero n e = refl
take_lacks [] (suc k) n e = refl
take_lacks (x ∷ xs) (suc k) n e = go (nat_eq n x) e (λ q. take_lacks xs k n q)
  where
    none_later : (q : ℕ) → later q ≡ 0 → q ≡ 0
    none_later zero e = refl
    none_later (suc q) e = absurd (omega (arith, e))

    go : (b : Bool) → cond b 1 (later (place_in xs n)) ≡ 0 → (place_in xs n ≡ 0 → place_in (take k xs) n ≡ 0) → cond b 1 (later (place_in (take k xs) n)) ≡ 0
    go true e rest = e
    go false e rest = ap later (rest (none_later (place_in xs n) e))

take_distinct : (xs : List ℕ) (k : ℕ) → are_distinct xs ≡ true → are_distinct (take k xs) ≡ true
take_distinct xs zero once = refl
take_distinct [] (suc k) once = refl
take_distinct (x ∷ xs) (suc k) once =
    let p = and_parts (nat_eq (place_in xs x) 0) (are_distinct xs) once in
    let z : place_in xs x ≡ 0 = (let h : nat_eq (place_in xs x) 0 ≡ true = p.0 in grind (arith, h)) in
    let y : place_in (take k xs) x ≡ 0 = take_lacks xs k x z in
    let w : nat_eq (place_in (take k xs) x) 0 ≡ true = grind (arith, y) in
    ap (λ b. b && are_distinct (take k xs)) w ∙ take_distinct xs k p.1

take_nodes : (N k : ℕ) (xs : List ℕ) → list_all (is_node N) xs ≡ true → list_all (is_node N) (take k xs) ≡ true
take_nodes N zero xs f = refl
take_nodes N (suc k) [] f = refl
take_nodes N (suc k) (x ∷ xs) f = let h = and_parts (is_node N x) (list_all (is_node N) xs) f in ap (λ b. b && list_all (is_node N) (take k xs)) h.0 ∙ take_nodes N k xs h.1

nodes_are : (N first count : ℕ) → 1 ≤ first → first + count ≤ suc N → list_all (is_node N) (nodes_from first count) ≡ true
nodes_are N first zero low high = refl
nodes_are N first (suc count) low high =
    ap (λ b. b && list_all (is_node N) (nodes_from (suc first) count)) (node_is N first low (omega (arith, high))) ∙ nodes_are N (suc first) count (omega arith) (omega (arith, high))

still_all : (c more ns : List ℕ) → list_all (is_chosen c) ns ≡ true → list_all (is_chosen (c ++ more)) ns ≡ true
still_all c more [] h = refl
still_all c more (n ∷ ns) h = let p = and_parts (is_chosen c n) (list_all (is_chosen c) ns) h in ap (λ b. b && list_all (is_chosen (c ++ more)) ns) (still_chosen c more n p.0) ∙ still_all c more ns p.1

pub covering : (N m : ℕ) (ns : List ℕ) → list_all (is_node N) ns ≡ true → length ns ≤ m → m ≤ N → Covering N m ns
covering N m ns are few enough =
    let none : IsChoice N 0 [] = record { nodes = refl; once = refl; kept = omega arith } in
    let e = extends N 0 [] ns none are in
    let d = extended [] ns in
    let g = extends N 0 d (nodes N) e.choice (nodes_are N 1 N (omega arith) (omega arith)) in
    let all = extended d (nodes N) in
    let short : length d ≤ m = omega (arith, length-extended [] ns, few) in
    let long : N ≤ length all = all_nodes_long N all g.chosen in
    let count : length (take m all) ≡ m = length-take-le m all (omega (arith, long, enough)) in
    record {
      nodes = take m all;
      choice = record { nodes = take_nodes N m all g.choice.nodes; once = take_distinct all m g.choice.once; kept = omega (arith, count) };
      long = count;
      chosen = ap (λ x. list_all (is_chosen x) ns) (ap (take m) g.is ∙ take_past d g.more m short) ∙ still_all d (take (m - length d) g.more) ns e.chosen;
    }

module _ (laws : Known) (N : ℕ) (M : AbstractMachine) (whole : IsWhole M.machine) (fit : FormulasFit M) (prefixes : PrefixesFit M) (enough : M.kept ≤ N) where
  abbrev seen : List ℕ → State → AbsCells
  seen c s = image M.kept M.machine.families c (cell_value N M.machine.families s)

  -- where no image under kept nodes violates a formula, all formulas hold for all nodes
  pub phi_holds : (s : State) → IsState N M.machine.families s → ((c : List ℕ) → IsChoice N M.kept c → length c ≡ M.kept → IsClean M (seen c s)) → AllHold N M s
  phi_holds s state clean k f at ns count are = go (holds N (cell_value N M.machine.families s) ns f.body) refl
    where
      go : (b : Bool) → holds N (cell_value N M.machine.families s) ns f.body ≡ b → holds N (cell_value N M.machine.families s) ns f.body ≡ true
      go true was = was
      go false was =
          let v = covering N M.kept ns are (subst (λ j. j ≤ M.kept) (sym count) (prefixes.formulas k f at)) enough in
          let none : length v.nodes - M.kept ≡ 0 = omega (arith, v.long) in
          absurd (clean v.nodes v.choice v.long k f at (record {
            nodes = map (renamed_node M.kept v.nodes) ns;
            count = length-map ns (renamed_node M.kept v.nodes) ∙ count;
            are = subst (λ j. list_all (is_in_window (window M j)) (map (renamed_node M.kept v.nodes) ns) ≡ true) none (names_in laws N M.kept M.machine.families v.nodes ns v.chosen);
            false_there = subst (λ j. MayBe false (May (window M j) (seen v.nodes s) (map (renamed_node M.kept v.nodes) ns) f.body)) none
                (truth_covers laws N M.kept M.machine.families v.nodes s ns (map (renamed_node M.kept v.nodes) ns) f.body false v.choice state (fit k f at) refl was);
          }))

  -- whatever holds of abstract starts, is kept by abstract steps and keeps formulas from being violated
  -- holds of every image of a reached state
  module _ (Good : AbsCells → Type 0)
      (start : (k : ℕ) (p : List AbsNode) (t : AbsCells) → AbsStarts M k p t → Good t)
      (step : (s : AbsCells) (k : ℕ) (p : List AbsNode) (w t : AbsCells) → Good s → AbsFires M s k p w t → Good t)
      (clean : (s : AbsCells) → Good s → IsClean M s) where
    images_good : (earlier : List State) (s : State) → IsRun N M.machine (s ∷ earlier) → (c : List ℕ) → IsChoice N M.kept c → length c ≡ M.kept → Good (seen c s)
    images_good [] s (k, p, starts) c choice long = start k (pattern_of M.kept c p) (seen c s) (start_covered laws N M c p s k whole choice long starts)
    images_good (s ∷ earlier) t ((k, p, fires), run) c choice long =
        let state = laws.reached N M.machine s whole (earlier, run) in
        let all : AllHold N M s = phi_holds s state (λ d choice long. clean (seen d s) (images_good earlier s run d choice long)) in
        step (seen c s) k (pattern_of M.kept c p) (seen (extended c p) s) (seen c t) (images_good earlier s run c choice long) (step_covered laws N M c p s t k whole fit choice long state all fires)

    pub reached_holds : (s : State) → IsReached N M.machine s → AllHold N M s
    reached_holds s (earlier, run) = phi_holds s (laws.reached N M.machine s whole (earlier, run)) (λ c choice long. clean (seen c s) (images_good earlier s run c choice long))

  -- no run ends in a violation
  pub safe_holds : IsSafe M → (s : State) → IsReached N M.machine s → AllHold N M s
  safe_holds safe = reached_holds (λ t. (earlier : List AbsCells) × IsAbsRun M (t ∷ earlier))
      (λ k p t starts. ([], (k, p, starts)))
      (λ s k p w t (earlier, run) fires. (s ∷ earlier, ((k, p, w, fires), run)))
      (λ s (earlier, run). safe.runs s earlier run)

  -- the machine is inductive
  pub inductive_holds : IsInductive M → (s : State) → IsReached N M.machine s → AllHold N M s
  inductive_holds ind = reached_holds (λ t. FitsWindow (window M 0) t × IsClean M t)
      (λ k p t starts. (starts.2.next, ind.starts k p t starts))
      (λ s k p w t good fires. (fires.2.next, ind.steps s k p w t good.0 good.1 fires))
      (λ s good. good.1)

  -- no start faults
  pub starts_hold : NoStartFaults M → (k : ℕ) (r : TermRule) (p : List ℕ) → slice_get M.machine.starts k ≡ Some r → firing.IsChoice N r p → HasFalsePiece N (cell_value N M.machine.families (blank_state N M.machine.families)) r.ok p → ⊥
  starts_hold none k r p at nodes (j, piece, there, (bound, wrong)) =
      let within : IsWithinPrefix r = all_get IsWithinPrefix M.machine.starts k r whole.prefixes.0 at in
      let few : node_parameters r + piece.binders ≤ r.prefix = all_get (λ (piece : Piece). node_parameters r + piece.binders ≤ r.prefix) r.ok j piece within.1 there in
      let less : r.prefix ≤ M.kept = prefixes.starts k r at in
      let v = covering N M.kept bound wrong.nodes (omega (arith, wrong.count, few, less)) enough in
      let begun : Starts N M.machine k p (start_state N M.machine.families r p) = (r, at, nodes, refl) in
      let a = start_covered laws N M v.nodes p (start_state N M.machine.families r p) k whole v.choice v.long begun in
      none k r (pattern_of M.kept v.nodes p) (seen v.nodes (start_state N M.machine.families r p)) at
      (subst (λ x. IsAbsStart M x (pattern_of M.kept v.nodes p) (seen v.nodes (start_state N M.machine.families r p))) (some_is (sym a.1 ∙ at)) a.2) (fault_covered laws N M v.nodes p k r j piece bound whole v.choice v.long at nodes there wrong v.chosen)
