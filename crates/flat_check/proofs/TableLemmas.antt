-- The table of what each state violates, branch by branch.
use Rattle.std.proofs.Common.{◌≡◌, ℕ, ◌-◌, ◌<◌, ◌≤◌, true, false, List, [], ◌∷◌, ◌++◌, length, get_or, take, drop, Option, None, Some, refl, sym, ap, ◌∙◌, arith, append_assoc}
use Rattle.std.proofs.lemmas.List.{append-nil}
use Rattle.std.proofs.Math.Seq.{take-length}
use Rattle.murphi_ast.specs.declared.rule.RuleDecl.{RuleDecl}
use Rattle.murphi_ast.specs.State.{Name, State, Cell}
use Rattle.flat_check.specs.declared.known.Known as k
use Rattle.flat_check.specs.declared.known.Known.{Known, the_lemmas}
use Rattle.flat_check.specs.declared.known.Known.TheBlock.{shape-the_row-Known-0, hidden-the_row-Known-0}
use denote.Hole.Carrier.{hidden}
use Rattle.flat_check.specs.Walk.{violated_in}
use Rattle.flat_check.specs.Table.{violated_by, IsKnown}

pub by-State : (v : Option ℕ) (s : State) → violated_by (k.State v) s ≡ v
unfolding violated_by
by-State v s = refl

pub by-end : (u f t : Known) → violated_by (k.Cell u f t) [] ≡ None
unfolding violated_by shape-the_row-Known-0 hidden-the_row-Known-0 hidden
by-end u f t = refl

pub by-undefined : (u f t : Known) (s : State) → violated_by (k.Cell u f t) (None ∷ s) ≡ violated_by u s
unfolding violated_by shape-the_row-Known-0 hidden-the_row-Known-0 hidden
by-undefined u f t s = refl

pub by-false : (u f t : Known) (s : State) → violated_by (k.Cell u f t) (Some false ∷ s) ≡ violated_by f s
unfolding violated_by shape-the_row-Known-0 hidden-the_row-Known-0 hidden
by-false u f t s = refl

pub by-true : (u f t : Known) (s : State) → violated_by (k.Cell u f t) (Some true ∷ s) ≡ violated_by t s
unfolding violated_by shape-the_row-Known-0 hidden-the_row-Known-0 hidden
by-true u f t s = refl

pub ruleset branches = (by-State, by-end, by-undefined, by-false, by-true, the_lemmas)

-- every cell is given
pub known_none : (vs : List Name) (items : List RuleDecl) (front : State) (v : Option ℕ) → v ≡ violated_in vs items front → IsKnown vs items front 0 (k.State v)
known_none vs items front v e = record { at = go }
  where
    go : (more : State) → length more ≡ 0 → violated_by (k.State v) more ≡ violated_in vs items (front ++ more)
    go [] l = by-State v [] ∙ e ∙ ap (violated_in vs items) (sym (append-nil front))
    go (c ∷ more) l = absurd (omega arith)

-- each value of the next cell
pub known_each : (vs : List Name) (items : List RuleDecl) (front : State) (left : ℕ) (u f t : Known) → 0 < left →
    IsKnown vs items (front ++ None ∷ []) (left - 1) u → IsKnown vs items (front ++ Some false ∷ []) (left - 1) f → IsKnown vs items (front ++ Some true ∷ []) (left - 1) t →
    IsKnown vs items front left (k.Cell u f t)
known_each vs items front left u f t pos hu hf ht = record { at = go }
  where
    go : (more : State) → length more ≡ left → violated_by (k.Cell u f t) more ≡ violated_in vs items (front ++ more)
    go [] l = absurd (omega arith)
    go (None ∷ more) l = by-undefined u f t more ∙ hu.at more (omega arith) ∙ ap (violated_in vs items) (append_assoc front (None ∷ []) more)
    go (Some false ∷ more) l = by-false u f t more ∙ hf.at more (omega arith) ∙ ap (violated_in vs items) (append_assoc front (Some false ∷ []) more)
    go (Some true ∷ more) l = by-true u f t more ∙ ht.at more (omega arith) ∙ ap (violated_in vs items) (append_assoc front (Some true ∷ []) more)

-- what the whole table says of a state
pub known_at : (vs : List Name) (items : List RuleDecl) (table : Known) (s : State) → IsKnown vs items [] (length vs) table → length s ≡ length vs → violated_by table s ≡ violated_in vs items s
known_at vs items table s h l = h.at s l

-- the branch of a cell
abbrev pub branch_of : Cell → Known → Known → Known → Known
branch_of None u f t = u
branch_of (Some false) u f t = f
branch_of (Some true) u f t = t

by-branch : (c : Cell) (u f t : Known) (s : State) → violated_by (k.Cell u f t) (c ∷ s) ≡ violated_by (branch_of c u f t) s
by-branch None u f t s = by-undefined u f t s
by-branch (Some false) u f t s = by-false u f t s
by-branch (Some true) u f t s = by-true u f t s

-- the way of a state goes on by the branch of its first cell
pub walk : (self u f t branch : Known) (s : State) (c : Cell) (r : Option ℕ) → self ≡ k.Cell u f t → 1 ≤ length s → get_or s 0 None ≡ c →
    branch ≡ branch_of c u f t → r ≡ violated_by branch (take (length s - 1) (drop 1 s)) → r ≡ violated_by self s
walk self u f t branch [] c r is l first way answer = absurd (omega arith)
walk self u f t branch (x ∷ s) c r is l first way answer =
    let count : length (x ∷ s) - 1 ≡ length s = omega arith in
    let rest : take (length (x ∷ s) - 1) s ≡ s = ap (λ n. take n s) count ∙ take-length s in
    answer ∙ ap (violated_by branch) rest ∙ ap (λ b. violated_by b s) (way ∙ ap (λ y. branch_of y u f t) (sym first)) ∙ sym (by-branch x u f t s) ∙ ap (λ b. violated_by b (x ∷ s)) (sym is)

-- and ends where there is none
pub walk_end : (self u f t : Known) (s : State) → self ≡ k.Cell u f t → length s < 1 → None ≡ violated_by self s
walk_end self u f t [] is l = sym (ap (λ b. violated_by b []) is ∙ by-end u f t)
walk_end self u f t (x ∷ s) is l = absurd (omega arith)
