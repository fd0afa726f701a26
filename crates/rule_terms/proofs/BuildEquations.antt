-- Lists of variables, and terms for longer frames.
use Rattle.std.proofs.Common.{◌≡◌, ℕ, zero, suc, ◌+◌, ◌-◌, ◌<◌, ◌≤◌, Bool, true, false, List, [], ◌∷◌, ◌++◌, map, length, Some, refl, sym, ap, ◌∙◌, subst, arith}
use Rattle.std.specs.Prelude.{slice_get, nat_lt, if◌then◌else◌}
use Rattle.std.specs.Option.{option_map_or}
use Rattle.std.proofs.lemmas.Bool.{ltb-true, ltb-false, lt-ltb}
use Rattle.std.proofs.lemmas.Option.{slice_get_past}
use mathlib.Core.Path.{fun_ext}
use Rattle.term_core.specs.declared.term.Term as t
use Rattle.term_core.specs.declared.term.Term.{Term}
use Rattle.term_core.specs.Nodes.{nodes_from}
use Rattle.term_core.specs.Substitution.{replaced, lifted_variable, lifted, placed_variable, placed}
use Rattle.rule_inline.specs.Tables.{variables}

-- one variable more at the end
nodes_on : (first count : ℕ) → nodes_from first (suc count) ≡ nodes_from first count ++ (first + count) ∷ []
nodes_on first zero = let e : first ≡ first + 0 = omega arith in ap (λ n. n ∷ []) e
nodes_on first (suc count) = let e : suc first + count ≡ first + suc count = omega arith in ap (λ ns. first ∷ ns) (nodes_on (suc first) count ∙ ap (λ n. nodes_from (suc first) count ++ n ∷ []) e)

mapped_on : {A B : Type 0} (f : A → B) (xs : List A) (x : A) → map f (xs ++ x ∷ []) ≡ map f xs ++ f x ∷ []
mapped_on f [] x = refl
mapped_on f (y ∷ xs) x = ap (λ ys. f y ∷ ys) (mapped_on f xs x)

pub variables_on : (first count : ℕ) → variables first (count + 1) ≡ variables first count ++ t.Var (first + count) ∷ []
variables_on first count =
    let e : count + 1 ≡ suc count = omega arith in
    ap (variables first) e ∙ ap (map t.Var) (nodes_on first count) ∙ mapped_on t.Var (nodes_from first count) (first + count)

pub no_variables : (first : ℕ) → variables first 0 ≡ []
no_variables first = refl

pub got_variable : (first count k : ℕ) → k < count → slice_get (variables first count) k ≡ Some (t.Var (first + k))
got_variable first zero k e = absurd (omega (arith, e))
got_variable first (suc count) zero e = let h : first ≡ first + 0 = omega arith in ap (λ n. Some (t.Var n)) h
got_variable first (suc count) (suc k) e = let h : suc first + k ≡ first + suc k = omega arith in got_variable (suc first) count k (omega (arith, e)) ∙ ap (λ n. Some (t.Var n)) h

pub length_variables : (first count : ℕ) → length (variables first count) ≡ count
length_variables first zero = refl
length_variables first (suc count) = ap suc (length_variables (suc first) count)

lifted_var : (to under k : ℕ) → k < to → lifted to under (t.Var k) ≡ t.Var k
unfolding replaced
lifted_var to under k h = ap (λ b. t.Var (if b then k else k + under)) (lt-ltb k to h)

first_variable : (frame k : ℕ) → k < frame → slice_get (variables 0 frame) k ≡ Some (t.Var k)
first_variable frame k h = let e : 0 + k ≡ k = omega arith in got_variable 0 frame k h ∙ ap (λ n. Some (t.Var n)) e

variable_below : (frame more under k : ℕ) → k < frame → placed_variable (frame + more) (variables 0 frame) under k ≡ t.Var k
variable_below frame more under k h =
    ap (λ o. option_map_or (lifted (frame + more) under) o (t.Var ((frame + more) + (k - length (variables 0 frame))))) (first_variable frame k h)
    ∙ lifted_var (frame + more) under k (omega (arith, h))

variable_above : (frame more under k : ℕ) → frame ≤ k → placed_variable (frame + more) (variables 0 frame) under k ≡ t.Var (k + more)
variable_above frame more under k h =
    let count : length (variables 0 frame) ≤ k = subst (λ n. n ≤ k) (sym (length_variables 0 frame)) h in
    let e : (frame + more) + (k - frame) ≡ k + more = omega (arith, h) in
    ap (λ o. option_map_or (lifted (frame + more) under) o (t.Var ((frame + more) + (k - length (variables 0 frame))))) (slice_get_past (variables 0 frame) k count)
    ∙ ap (λ n. t.Var ((frame + more) + (k - n))) (length_variables 0 frame) ∙ ap t.Var e

one_variable : (frame more under k : ℕ) → placed_variable (frame + more) (variables 0 frame) under k ≡ lifted_variable frame more under k
one_variable frame more under k = go (nat_lt k frame) refl
  where
    go : (b : Bool) → nat_lt k frame ≡ b → placed_variable (frame + more) (variables 0 frame) under k ≡ t.Var (if b then k else k + more)
    go true e = variable_below frame more under k (ltb-true k frame e)
    go false e = variable_above frame more under k (ltb-false k frame e)

-- room for more variables is made by putting the variables of the frame in place of themselves
pub placed_lifted : (frame more : ℕ) (x : Term) → placed (frame + more) (variables 0 frame) x ≡ lifted frame more x
placed_lifted frame more x = ap (λ by. replaced by 0 x) (fun_ext (λ under. fun_ext (λ k. one_variable frame more under k)))

pub ruleset building = (variables_on, no_variables, placed_lifted)
