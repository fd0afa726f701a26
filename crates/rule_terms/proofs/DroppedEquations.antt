-- What dropping a comparison makes of each form of term, in terms of the parts that code reads.
use Rattle.std.proofs.Common.{◌≡◌, ℕ, Bool, true, false, List, [], ◌∷◌, ◌++◌, map, refl, ap, ◌∙◌}
use Rattle.std.specs.Prelude.{nat_eq, ◌&&◌, if◌then◌else◌}
use denote.Hole.Carrier.{hidden}
use Rattle.term_core.specs.declared.value.Value.{Value}
use Rattle.term_core.specs.declared.value.ArithOp.{ArithOp}
use Rattle.term_core.specs.declared.term.Term as t
use Rattle.term_core.specs.declared.term.Term.{Term, Row_of-Term, end_of-Term, more_of-Term, items-the_row-Term, items_hidden-the_row-Term-0, the_lemmas}
use Rattle.term_core.specs.declared.term.Term.TheBlock.{hidden-the_row-Term-0, shape-the_row-Term-1, hidden-the_row-Term-1}
use Rattle.term_core.specs.Forms.{NotForm, IfForm, SameForm, LessForm, ArithForm, QuantifiedForm}
use Rattle.rule_inline.specs.Tables.{is_comparison, dropped, row_dropped, row_without}
use Rattle.rule_terms.specs.Steps.{is_variable, list_without}
use Rattle.rule_terms.proofs.ListLemmas.{after_after, nothing_after}

row_dropped_is : {n : _} (axis variable : ℕ) (row : Row_of-Term n) → row_dropped axis variable row ≡ map (dropped axis variable) (items-the_row-Term n row)
unfolding dropped
row_dropped_is axis variable end_of-Term = refl
row_dropped_is axis variable (more_of-Term x rest) = ap (λ xs. dropped axis variable x ∷ xs) (row_dropped_is axis variable rest)

row_without_is : {n : _} (axis variable : ℕ) (row : Row_of-Term n) → row_without axis variable row ≡ list_without axis variable (items-the_row-Term n row)
unfolding dropped
row_without_is axis variable end_of-Term = refl
row_without_is axis variable (more_of-Term x rest) = go (is_comparison axis variable x) (row_without_is axis variable rest)
  where
    go : (b : Bool) → row_without axis variable rest ≡ list_without axis variable (items-the_row-Term _ rest)
        → (if b then row_without axis variable rest else dropped axis variable x ∷ row_without axis variable rest) ≡ (if b then [] else dropped axis variable x ∷ []) ++ list_without axis variable (items-the_row-Term _ rest)
    go true e = e
    go false e = ap (λ xs. dropped axis variable x ∷ xs) e

-- whether two parts are the two variables
and_false : (b : Bool) → false ≡ (b && false)
and_false true = refl
and_false false = refl

second : (axis variable j : ℕ) (b : Term) → is_comparison axis variable (t.Same (t.Var j) b) ≡ (nat_eq j axis && is_variable variable b)
unfolding shape-the_row-Term-1 hidden-the_row-Term-1 hidden
second axis variable j (t.Var k) = refl
second axis variable j (t.Known v) = and_false (nat_eq j axis)
second axis variable j (t.Read' f p at) = and_false (nat_eq j axis)
second axis variable j (NotForm a) = and_false (nat_eq j axis)
second axis variable j (t.And' p parts) = and_false (nat_eq j axis)
second axis variable j (t.Or' p parts) = and_false (nat_eq j axis)
second axis variable j (IfForm a d e) = and_false (nat_eq j axis)
second axis variable j (SameForm a d) = and_false (nat_eq j axis)
second axis variable j (LessForm a d) = and_false (nat_eq j axis)
second axis variable j (ArithForm op a d) = and_false (nat_eq j axis)
second axis variable j (QuantifiedForm all a) = and_false (nat_eq j axis)

pub compared-Same : (axis variable : ℕ) (a b : Term) → is_comparison axis variable (t.Same a b) ≡ (is_variable axis a && is_variable variable b)
unfolding shape-the_row-Term-1 hidden-the_row-Term-1 hidden
compared-Same axis variable (t.Var j) b = second axis variable j b
compared-Same axis variable (t.Known v) b = refl
compared-Same axis variable (t.Read' f p at) b = refl
compared-Same axis variable (NotForm a) b = refl
compared-Same axis variable (t.And' p parts) b = refl
compared-Same axis variable (t.Or' p parts) b = refl
compared-Same axis variable (IfForm a d e) b = refl
compared-Same axis variable (SameForm a d) b = refl
compared-Same axis variable (LessForm a d) b = refl
compared-Same axis variable (ArithForm op a d) b = refl
compared-Same axis variable (QuantifiedForm all a) b = refl

pub compared-Read : (axis variable : ℕ) (f : ℕ) (ts : List Term) → is_comparison axis variable (t.Read f ts) ≡ false
unfolding shape-the_row-Term-1 hidden-the_row-Term-1 hidden
compared-Read axis variable f ts = refl

pub compared-Not : (axis variable : ℕ) (a : Term) → is_comparison axis variable (t.Not a) ≡ false
unfolding shape-the_row-Term-1 hidden-the_row-Term-1 hidden
compared-Not axis variable a = refl

pub compared-And : (axis variable : ℕ) (ts : List Term) → is_comparison axis variable (t.And ts) ≡ false
unfolding shape-the_row-Term-1 hidden-the_row-Term-1 hidden
compared-And axis variable ts = refl

pub compared-Or : (axis variable : ℕ) (ts : List Term) → is_comparison axis variable (t.Or ts) ≡ false
unfolding shape-the_row-Term-1 hidden-the_row-Term-1 hidden
compared-Or axis variable ts = refl

pub compared-If : (axis variable : ℕ) (a b d : Term) → is_comparison axis variable (t.If a b d) ≡ false
unfolding shape-the_row-Term-1 hidden-the_row-Term-1 hidden
compared-If axis variable a b d = refl

pub compared-Less : (axis variable : ℕ) (a b : Term) → is_comparison axis variable (t.Less a b) ≡ false
unfolding shape-the_row-Term-1 hidden-the_row-Term-1 hidden
compared-Less axis variable a b = refl

pub compared-Arith : (axis variable : ℕ) (op : ArithOp) (a b : Term) → is_comparison axis variable (t.Arith op a b) ≡ false
unfolding shape-the_row-Term-1 hidden-the_row-Term-1 hidden
compared-Arith axis variable op a b = refl

pub compared-Quantified : (axis variable : ℕ) (all : Bool) (a : Term) → is_comparison axis variable (t.Quantified all a) ≡ false
unfolding shape-the_row-Term-1 hidden-the_row-Term-1 hidden
compared-Quantified axis variable all a = refl

pub variable-Read : (k : ℕ) (f : ℕ) (ts : List Term) → is_variable k (t.Read f ts) ≡ false
unfolding shape-the_row-Term-1 hidden-the_row-Term-1 hidden
variable-Read k f ts = refl

pub variable-Not : (k : ℕ) (a : Term) → is_variable k (t.Not a) ≡ false
unfolding shape-the_row-Term-1 hidden-the_row-Term-1 hidden
variable-Not k a = refl

pub variable-And : (k : ℕ) (ts : List Term) → is_variable k (t.And ts) ≡ false
unfolding shape-the_row-Term-1 hidden-the_row-Term-1 hidden
variable-And k ts = refl

pub variable-Or : (k : ℕ) (ts : List Term) → is_variable k (t.Or ts) ≡ false
unfolding shape-the_row-Term-1 hidden-the_row-Term-1 hidden
variable-Or k ts = refl

pub variable-If : (k : ℕ) (a b d : Term) → is_variable k (t.If a b d) ≡ false
unfolding shape-the_row-Term-1 hidden-the_row-Term-1 hidden
variable-If k a b d = refl

pub variable-Less : (k : ℕ) (a b : Term) → is_variable k (t.Less a b) ≡ false
unfolding shape-the_row-Term-1 hidden-the_row-Term-1 hidden
variable-Less k a b = refl

pub variable-Arith : (k : ℕ) (op : ArithOp) (a b : Term) → is_variable k (t.Arith op a b) ≡ false
unfolding shape-the_row-Term-1 hidden-the_row-Term-1 hidden
variable-Arith k op a b = refl

pub variable-Quantified : (k : ℕ) (all : Bool) (a : Term) → is_variable k (t.Quantified all a) ≡ false
unfolding shape-the_row-Term-1 hidden-the_row-Term-1 hidden
variable-Quantified k all a = refl

pub variable-Same : (k : ℕ) (a b : Term) → is_variable k (t.Same a b) ≡ false
unfolding shape-the_row-Term-1 hidden-the_row-Term-1 hidden
variable-Same k a b = refl

pub dropped-Known : (axis variable : ℕ) (v : Value) → dropped axis variable (t.Known v) ≡ t.Known v
unfolding dropped
dropped-Known axis variable v = refl

pub dropped-Var : (axis variable k : ℕ) → dropped axis variable (t.Var k) ≡ t.Var k
unfolding dropped
dropped-Var axis variable k = refl

pub dropped-Read : (axis variable f : ℕ) (ts : List Term) → dropped axis variable (t.Read f ts) ≡ t.Read f (map (dropped axis variable) ts)
unfolding dropped
dropped-Read axis variable f ts = ap (t.Read f) (row_dropped_is axis variable (hidden-the_row-Term-0 ts) ∙ ap (map (dropped axis variable)) (items_hidden-the_row-Term-0 ts))

pub dropped-And : (axis variable : ℕ) (ts : List Term) → dropped axis variable (t.And ts) ≡ t.And (list_without axis variable ts)
unfolding dropped
dropped-And axis variable ts = ap t.And (row_without_is axis variable (hidden-the_row-Term-0 ts) ∙ ap (list_without axis variable) (items_hidden-the_row-Term-0 ts))

pub dropped-Or : (axis variable : ℕ) (ts : List Term) → dropped axis variable (t.Or ts) ≡ t.Or (map (dropped axis variable) ts)
unfolding dropped
dropped-Or axis variable ts = ap t.Or (row_dropped_is axis variable (hidden-the_row-Term-0 ts) ∙ ap (map (dropped axis variable)) (items_hidden-the_row-Term-0 ts))

pub dropped-Not : (axis variable : ℕ) (a : Term) → dropped axis variable (t.Not a) ≡ t.Not (dropped axis variable a)
unfolding dropped shape-the_row-Term-1 hidden-the_row-Term-1 hidden
dropped-Not axis variable a = refl

pub dropped-If : (axis variable : ℕ) (a b d : Term) → dropped axis variable (t.If a b d) ≡ t.If (dropped axis variable a) (dropped axis variable b) (dropped axis variable d)
unfolding dropped shape-the_row-Term-1 hidden-the_row-Term-1 hidden
dropped-If axis variable a b d = refl

pub dropped-Same : (axis variable : ℕ) (a b : Term) → dropped axis variable (t.Same a b) ≡ t.Same (dropped axis variable a) (dropped axis variable b)
unfolding dropped shape-the_row-Term-1 hidden-the_row-Term-1 hidden
dropped-Same axis variable a b = refl

pub dropped-Less : (axis variable : ℕ) (a b : Term) → dropped axis variable (t.Less a b) ≡ t.Less (dropped axis variable a) (dropped axis variable b)
unfolding dropped shape-the_row-Term-1 hidden-the_row-Term-1 hidden
dropped-Less axis variable a b = refl

pub dropped-Arith : (axis variable : ℕ) (op : ArithOp) (a b : Term) → dropped axis variable (t.Arith op a b) ≡ t.Arith op (dropped axis variable a) (dropped axis variable b)
unfolding dropped shape-the_row-Term-1 hidden-the_row-Term-1 hidden
dropped-Arith axis variable op a b = refl

pub dropped-Quantified : (axis variable : ℕ) (all : Bool) (a : Term) → dropped axis variable (t.Quantified all a) ≡ t.Quantified all (dropped axis variable a)
unfolding dropped shape-the_row-Term-1 hidden-the_row-Term-1 hidden
dropped-Quantified axis variable all a = refl

pub ruleset droppings = (after_after, nothing_after, compared-Same, variable-Same, compared-Read, compared-Not, compared-And, compared-Or, compared-If, compared-Less, compared-Arith, compared-Quantified, variable-Read, variable-Not, variable-And, variable-Or, variable-If, variable-Less, variable-Arith, variable-Quantified, dropped-Known, dropped-Var, dropped-Read, dropped-And, dropped-Or, dropped-Not, dropped-If, dropped-Same, dropped-Less, dropped-Arith, dropped-Quantified, the_lemmas)
