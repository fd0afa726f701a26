-- The term of a family after a loop over nodes: at a cell it is the term after the body, for the turn of the node that
-- is the cell's own index.
use Rattle.std.proofs.Common.{◌≡◌, ℕ, zero, suc, ◌+◌, Bool, true, false, not, ◌&&◌, List, [], ◌∷◌, ◌++◌, length, Option, Some, refl, sym, ap, ◌∙◌, arith}
use Rattle.std.specs.Prelude.{slice_get, nat_eq, if◌then◌else◌}
use Rattle.std.specs.List.{list_all, list_any}
use Rattle.std.specs.Option.{option_map_or}
use Rattle.std.proofs.lemmas.Bool.{and_parts}
use Rattle.std.proofs.lemmas.List.{length-append}
use Rattle.term_core.specs.declared.value.Value.TheVariants as v
use Rattle.term_core.specs.declared.term.Term as t
use Rattle.term_core.specs.declared.term.Term.{Term, Row_of-Term, end_of-Term, more_of-Term}
use Rattle.term_core.specs.Nodes.{nodes}
use Rattle.term_core.specs.Values.{truth, same_value}
use Rattle.term_core.specs.Forms.{NotForm, IfForm, SameForm, LessForm, ArithForm, QuantifiedForm}
use Rattle.term_core.specs.Meaning.{Cells, value_of, row_all, row_any, row_indices, bound_node, cell_at, index_of, with_index}
use Rattle.term_core.specs.Lists.{list_indices}
use Rattle.term_core.specs.Laws.{PlacingBinds}
use Rattle.rule_inline.specs.Tables.{variables, is_comparison, dropped, row_dropped, row_without, closed}
use Rattle.rule_inline.proofs.ValueLemmas.{absurd_false, nats_one, value_itself}
use Rattle.rule_inline.proofs.TermLemmas.{value-Var, value-Read, value-Not, value-And, value-Or, value-If, value-Same, value-Less, value-Arith, value-Quantified, is_true, holds_same, same_of, less_of, arith_on, if_of, and_of, or_of}
use Rattle.rule_inline.proofs.PlaceLemmas.{Stand, stand_joined, stand_length, stand_at, stand_frame, stand_last}

pub get_kept : {X : Type 0} (xs ys : List X) (k : ℕ) (x : X) → slice_get xs k ≡ Some x → slice_get (xs ++ ys) k ≡ Some x
get_kept [] ys k x e = cc
get_kept (y ∷ xs) ys zero x e = e
get_kept (y ∷ xs) ys (suc k) x e = get_kept xs ys k x e

indices_same : {a a' : Option ℕ} {b b' : Option (List ℕ)} → a ≡ a' → b ≡ b' → with_index a b ≡ with_index a' b'
indices_same {a} {a'} {b} {b'} e f = ap (λ y. with_index y b) e ∙ ap (with_index a') f

module _ (N : ℕ) (c : Cells) (axis variable x : ℕ) where
  variable_is : (fr : List ℕ) (k : ℕ) → slice_get fr k ≡ Some x → bound_node fr k ≡ v.Node x
  variable_is fr k e = ap (λ o. option_map_or v.Node o v.Undefined) e

  same_variables : (fr : List ℕ) (j k : ℕ) → slice_get fr j ≡ Some x → slice_get fr k ≡ Some x → same_value (bound_node fr j) (bound_node fr k) ≡ true
  same_variables fr j k e f = ap (λ y. same_value y (bound_node fr k)) (variable_is fr j e) ∙ ap (same_value (v.Node x)) (variable_is fr k f) ∙ value_itself (v.Node x)

  -- the comparison holds where the axis and the variable are one node
  comparison_holds : (fr : List ℕ) → slice_get fr axis ≡ Some x → slice_get fr variable ≡ Some x → (e : Term) → is_comparison axis variable e ≡ true → is_true N c fr e ≡ true
  unfolding value_of
  comparison_holds fr a b (SameForm (t.Var j) (t.Var k)) is =
      let (one, two) = and_parts (nat_eq j axis) (nat_eq k variable) is in
      same_variables fr j k (ap (slice_get fr) (nats_one j axis one) ∙ a) (ap (slice_get fr) (nats_one k variable two) ∙ b)
  comparison_holds fr a b e is = absurd_false is

  -- a part of a conjunction is left out only where it holds
  without_one : (fr : List ℕ) → slice_get fr axis ≡ Some x → slice_get fr variable ≡ Some x → (a : Term) (ts : List Term) (d : Term) (rest : Bool) → value_of N c fr d ≡ value_of N c fr a → list_all (is_true N c fr) ts ≡ rest → list_all (is_true N c fr) (if is_comparison axis variable a then ts else d ∷ ts) ≡ (is_true N c fr a && rest)
  without_one fr p q a ts d rest same all = go (is_comparison axis variable a) refl
    where
      go : (b : Bool) → is_comparison axis variable a ≡ b → list_all (is_true N c fr) (if b then ts else d ∷ ts) ≡ (is_true N c fr a && rest)
      go true was = all ∙ sym (ap (λ b. b && rest) (comparison_holds fr p q a was))
      go false was = and_of (ap truth same) all

  mutual
    unfolding value_of dropped

    pub dropped_value : (fr : List ℕ) → slice_get fr axis ≡ Some x → slice_get fr variable ≡ Some x → (e : Term) → value_of N c fr (dropped axis variable e) ≡ value_of N c fr e
    dropped_value fr p q (t.Known w) = refl
    dropped_value fr p q (t.Var k) = refl
    dropped_value fr p q (t.Read' f _ at) = value-Read N c fr f (row_dropped axis variable at) ∙ ap (cell_at c f) (dropped_indices fr p q at)
    dropped_value fr p q (NotForm a) = value-Not N c fr (dropped axis variable a) ∙ ap (λ w. v.Truth (not (truth w))) (dropped_value fr p q a)
    dropped_value fr p q (t.And' _ parts) = value-And N c fr (row_without axis variable parts) ∙ ap v.Truth (without_all fr p q parts)
    dropped_value fr p q (t.Or' _ parts) = value-Or N c fr (row_dropped axis variable parts) ∙ ap v.Truth (dropped_any fr p q parts)
    dropped_value fr p q (IfForm a b d) =
        value-If N c fr (dropped axis variable a) (dropped axis variable b) (dropped axis variable d)
        ∙ if_of (dropped_value fr p q a) (dropped_value fr p q b) (dropped_value fr p q d)
    dropped_value fr p q (SameForm a b) =
        value-Same N c fr (dropped axis variable a) (dropped axis variable b) ∙ same_of (dropped_value fr p q a) (dropped_value fr p q b)
    dropped_value fr p q (LessForm a b) =
        value-Less N c fr (dropped axis variable a) (dropped axis variable b) ∙ less_of (dropped_value fr p q a) (dropped_value fr p q b)
    dropped_value fr p q (ArithForm op a b) =
        value-Arith N c fr op (dropped axis variable a) (dropped axis variable b) ∙ arith_on op (dropped_value fr p q a) (dropped_value fr p q b)
    dropped_value fr p q (QuantifiedForm all a) =
        value-Quantified N c fr all (dropped axis variable a)
        ∙ ap v.Truth (holds_same all (λ n. truth (value_of N c (fr ++ n ∷ []) (dropped axis variable a))) (λ n. truth (value_of N c (fr ++ n ∷ []) a)) (nodes N)
        (λ n. ap truth (dropped_value (fr ++ n ∷ []) (get_kept fr (n ∷ []) axis x p) (get_kept fr (n ∷ []) variable x q) a)))

    dropped_indices : {n : _} (fr : List ℕ) → slice_get fr axis ≡ Some x → slice_get fr variable ≡ Some x → (row : Row_of-Term n) → list_indices N c fr (row_dropped axis variable row) ≡ row_indices N c fr row
    dropped_indices fr p q end_of-Term = refl
    dropped_indices fr p q (more_of-Term a rest) = indices_same (ap (index_of N) (dropped_value fr p q a)) (dropped_indices fr p q rest)

    dropped_any : {n : _} (fr : List ℕ) → slice_get fr axis ≡ Some x → slice_get fr variable ≡ Some x → (row : Row_of-Term n) → list_any (is_true N c fr) (row_dropped axis variable row) ≡ row_any N c fr row
    dropped_any fr p q end_of-Term = refl
    dropped_any fr p q (more_of-Term a rest) = or_of (ap truth (dropped_value fr p q a)) (dropped_any fr p q rest)

    without_all : {n : _} (fr : List ℕ) → slice_get fr axis ≡ Some x → slice_get fr variable ≡ Some x → (row : Row_of-Term n) → list_all (is_true N c fr) (row_without axis variable row) ≡ row_all N c fr row
    without_all fr p q end_of-Term = refl
    without_all fr p q (more_of-Term a rest) = without_one fr p q a (row_without axis variable rest) (dropped axis variable a) (row_all N c fr rest) (dropped_value fr p q a) (without_all fr p q rest)

-- the frame of a turn, where the loop's variable stands before the axes
turn_frame : (fr ns : List ℕ) (x : ℕ) → slice_get (fr ++ x ∷ ns) (length fr) ≡ Some x
turn_frame [] ns x = refl
turn_frame (y ∷ fr) ns x = turn_frame fr ns x

turn_axis : (fr ns : List ℕ) (x k : ℕ) → slice_get ns k ≡ Some x → slice_get (fr ++ x ∷ ns) (suc (length fr + k)) ≡ Some x
turn_axis [] ns x k e = let none : 0 + k ≡ k = omega arith in ap (slice_get ns) none ∙ e
turn_axis (y ∷ fr) ns x k e = let one : suc (length fr) + k ≡ suc (length fr + k) = omega arith in ap (slice_get (fr ++ x ∷ ns)) one ∙ turn_axis fr ns x k e

axis_there : (fr ns : List ℕ) (k x : ℕ) → slice_get ns k ≡ Some x → slice_get (fr ++ ns) (length fr + k) ≡ Some x
axis_there [] ns k x e = let none : 0 + k ≡ k = omega arith in ap (slice_get ns) none ∙ e
axis_there (y ∷ fr) ns k x e = let one : suc (length fr) + k ≡ suc (length fr + k) = omega arith in ap (slice_get (y ∷ (fr ++ ns))) one ∙ axis_there fr ns k x e

axis_node : (N : ℕ) (s : Cells) (fr ns : List ℕ) (k x : ℕ) → slice_get ns k ≡ Some x → value_of N s (fr ++ ns) (t.Var (length fr + k)) ≡ v.Node x
axis_node N s fr ns k x e = value-Var N s (fr ++ ns) (length fr + k) ∙ ap (λ o. option_map_or v.Node o v.Undefined) (axis_there fr ns k x e)

-- what stands for the variables of a turn
abbrev turn_terms : ℕ → ℕ → ℕ → List Term
turn_terms frame count k = variables 0 frame ++ (t.Var (frame + k) ∷ variables frame count)

module _ (binds : PlacingBinds) (N : ℕ) (s : Cells) where
  pub closed_value : (fr ns : List ℕ) (count k x : ℕ) (body : Term) → length ns ≡ count → slice_get ns k ≡ Some x → value_of N s (fr ++ ns) (closed (length fr) count k body) ≡ value_of N s (fr ++ x ∷ ns) body
  closed_value fr ns count k x body long there =
      binds N s (fr ++ ns) (fr ++ x ∷ ns) (length fr + count) (turn_terms (length fr) count k) (dropped (suc (length fr + k)) (length fr) body) (length-append fr ns ∙ ap (λ m. length fr + m) long) (stand_length N s (fr ++ ns) (turn_terms (length fr) count k) (fr ++ x ∷ ns) stands)
      (λ j by n occurs at_j node_j. stand_at N s (fr ++ ns) (turn_terms (length fr) count k) (fr ++ x ∷ ns) stands j by n at_j node_j)
      ∙ dropped_value N s (suc (length fr + k)) (length fr) x (fr ++ x ∷ ns) (turn_axis fr ns x k there) (turn_frame fr ns x) body
    where
      stands : Stand N s (fr ++ ns) (turn_terms (length fr) count k) (fr ++ x ∷ ns)
      stands = stand_joined N s (fr ++ ns) (variables 0 (length fr)) (t.Var (length fr + k) ∷ variables (length fr) count) fr (x ∷ ns) (stand_frame N s fr ns) (axis_node N s fr ns k x there, stand_last N s fr ns count long)
