-- What opening makes of each form of term, in terms of the parts that code reads.
use Rattle.std.proofs.Common.{◌≡◌, ℕ, suc, ◌+◌, ◌-◌, max, Bool, true, false, not, cond, List, [], ◌∷◌, ◌++◌, map, refl, ap, ◌∙◌, arith}
use denote.Hole.Carrier.{hidden}
use Rattle.term_core.specs.declared.value.Value.{Value}
use Rattle.term_core.specs.declared.value.ArithOp.{ArithOp}
use Rattle.term_core.specs.declared.term.Term as t
use Rattle.term_core.specs.declared.term.Term.{Term, Row_of-Term, end_of-Term, more_of-Term, items-the_row-Term, items_hidden-the_row-Term-0, the_lemmas}
use Rattle.term_core.specs.declared.term.Term.TheBlock.{hidden-the_row-Term-0, shape-the_row-Term-1, hidden-the_row-Term-1}
use Rattle.term_core.specs.Substitution.{placed}
use Rattle.lemma_strengthen.specs.Opening.{signed, quantified, takes, splits, taken, row_taken, opened, row_opened}
use Rattle.lemma_strengthen.specs.OpenLists.{shared_taken, turn_taken, turn_opened}

shared_is : {n : _} (to : ℕ) (sign : Bool) (vs : List Term) (next left next' left' : ℕ) (row : Row_of-Term n) → next' ≡ next → left' ≡ left → row_opened to true sign vs next' left' row ≡ map (opened to sign vs next left) (items-the_row-Term n row)
unfolding opened
shared_is to sign vs next left next' left' end_of-Term e f = refl
shared_is to sign vs next left next' left' (more_of-Term x rest) e f =
    let e2 : next' + 0 ≡ next = omega (arith, e) in let f2 : left' - 0 ≡ left = omega (arith, f) in
    ap (λ n. opened to sign vs n left' x ∷ row_opened to true sign vs (next' + 0) (left' - 0) rest) e ∙ ap (λ n. opened to sign vs next n x ∷ row_opened to true sign vs (next' + 0) (left' - 0) rest) f
    ∙ ap (λ xs. opened to sign vs next left x ∷ xs) (shared_is to sign vs next left (next' + 0) (left' - 0) rest e2 f2)

shared_taken_is : {n : _} (sign : Bool) (left left' : ℕ) (row : Row_of-Term n) → left' ≡ left → row_taken true sign left' row ≡ shared_taken sign left (items-the_row-Term n row)
unfolding taken
shared_taken_is sign left left' end_of-Term f = refl
shared_taken_is sign left left' (more_of-Term x rest) f =
    let f2 : left' - 0 ≡ left = omega (arith, f) in
    ap (λ n. max (taken sign n x) (row_taken true sign (left' - 0) rest)) f ∙ ap (max (taken sign left x)) (shared_taken_is sign left (left' - 0) rest f2)

turn_is : {n : _} (to : ℕ) (sign : Bool) (vs : List Term) (next left : ℕ) (row : Row_of-Term n) → row_opened to false sign vs next left row ≡ turn_opened to sign vs next left (items-the_row-Term n row)
unfolding opened
turn_is to sign vs next left end_of-Term = refl
turn_is to sign vs next left (more_of-Term x rest) = ap (λ xs. opened to sign vs next left x ∷ xs) (turn_is to sign vs (next + taken sign left x) (left - taken sign left x) rest)

turn_taken_is : {n : _} (sign : Bool) (left : ℕ) (row : Row_of-Term n) → row_taken false sign left row ≡ turn_taken sign left (items-the_row-Term n row)
unfolding taken
turn_taken_is sign left end_of-Term = refl
turn_taken_is sign left (more_of-Term x rest) = ap (λ n. taken sign left x + n) (turn_taken_is sign (left - taken sign left x) rest)

pub opened-And-true : (to : ℕ) (vs : List Term) (next left : ℕ) (ts : List Term) → opened to true vs next left (t.And ts) ≡ t.And (map (opened to true vs next left) ts)
unfolding opened
opened-And-true to vs next left ts = ap t.And (shared_is to true vs next left next left (hidden-the_row-Term-0 ts) refl refl ∙ ap (map (opened to true vs next left)) (items_hidden-the_row-Term-0 ts))

pub opened-And-false : (to : ℕ) (vs : List Term) (next left : ℕ) (ts : List Term) → opened to false vs next left (t.And ts) ≡ t.Or (turn_opened to false vs next left ts)
unfolding opened
opened-And-false to vs next left ts = ap t.Or (turn_is to false vs next left (hidden-the_row-Term-0 ts) ∙ ap (turn_opened to false vs next left) (items_hidden-the_row-Term-0 ts))

pub opened-Or-true : (to : ℕ) (vs : List Term) (next left : ℕ) (ts : List Term) → opened to true vs next left (t.Or ts) ≡ t.Or (turn_opened to true vs next left ts)
unfolding opened
opened-Or-true to vs next left ts = ap t.Or (turn_is to true vs next left (hidden-the_row-Term-0 ts) ∙ ap (turn_opened to true vs next left) (items_hidden-the_row-Term-0 ts))

pub opened-Or-false : (to : ℕ) (vs : List Term) (next left : ℕ) (ts : List Term) → opened to false vs next left (t.Or ts) ≡ t.And (map (opened to false vs next left) ts)
unfolding opened
opened-Or-false to vs next left ts = ap t.And (shared_is to false vs next left next left (hidden-the_row-Term-0 ts) refl refl ∙ ap (map (opened to false vs next left)) (items_hidden-the_row-Term-0 ts))

pub taken-And-true : (left : ℕ) (ts : List Term) → taken true left (t.And ts) ≡ shared_taken true left ts
unfolding taken
taken-And-true left ts = shared_taken_is true left left (hidden-the_row-Term-0 ts) refl ∙ ap (shared_taken true left) (items_hidden-the_row-Term-0 ts)

pub taken-And-false : (left : ℕ) (ts : List Term) → taken false left (t.And ts) ≡ turn_taken false left ts
unfolding taken
taken-And-false left ts = turn_taken_is false left (hidden-the_row-Term-0 ts) ∙ ap (turn_taken false left) (items_hidden-the_row-Term-0 ts)

pub taken-Or-true : (left : ℕ) (ts : List Term) → taken true left (t.Or ts) ≡ turn_taken true left ts
unfolding taken
taken-Or-true left ts = turn_taken_is true left (hidden-the_row-Term-0 ts) ∙ ap (turn_taken true left) (items_hidden-the_row-Term-0 ts)

pub taken-Or-false : (left : ℕ) (ts : List Term) → taken false left (t.Or ts) ≡ shared_taken false left ts
unfolding taken
taken-Or-false left ts = shared_taken_is false left left (hidden-the_row-Term-0 ts) refl ∙ ap (shared_taken false left) (items_hidden-the_row-Term-0 ts)

pub opened-Not : (to : ℕ) (sign : Bool) (vs : List Term) (next left : ℕ) (a : Term) → opened to sign vs next left (t.Not a) ≡ opened to (not sign) vs next left a
unfolding opened shape-the_row-Term-1 hidden-the_row-Term-1 hidden
opened-Not to sign vs next left a = refl

pub taken-Not : (sign : Bool) (left : ℕ) (a : Term) → taken sign left (t.Not a) ≡ taken (not sign) left a
unfolding taken shape-the_row-Term-1 hidden-the_row-Term-1 hidden
taken-Not sign left a = refl

-- an If that holds a quantifier is split
abbrev pub split : ℕ → Bool → List Term → ℕ → ℕ → Term → Term → Term → Term
split to sign vs next left a b d = t.And (t.Or (opened to false vs next left a ∷ opened to sign vs (next + taken false left a) (left - taken false left a) b ∷ []) ∷ t.Or (opened to true vs next left a ∷ opened to sign vs (next + taken true left a) (left - taken true left a) d ∷ []) ∷ [])

abbrev pub split_taken : Bool → ℕ → Term → Term → Term → ℕ
split_taken sign left a b d = max (taken false left a + taken sign (left - taken false left a) b) (taken true left a + taken sign (left - taken true left a) d)

pub opened-If : (to : ℕ) (sign : Bool) (vs : List Term) (next left : ℕ) (a b d : Term) → opened to sign vs next left (t.If a b d) ≡ cond (splits a b d) (split to sign vs next left a b d) (signed sign (placed to vs (t.If a b d)))
unfolding opened shape-the_row-Term-1 hidden-the_row-Term-1 hidden
opened-If to sign vs next left a b d = refl

pub taken-If : (sign : Bool) (left : ℕ) (a b d : Term) → taken sign left (t.If a b d) ≡ cond (splits a b d) (split_taken sign left a b d) 0
unfolding taken shape-the_row-Term-1 hidden-the_row-Term-1 hidden
taken-If sign left a b d = refl

pub opened-Quantified : (to : ℕ) (sign : Bool) (vs : List Term) (next left : ℕ) (all : Bool) (a : Term) → opened to sign vs next left (t.Quantified all a) ≡ cond (takes sign all left) (opened to sign (vs ++ t.Var next ∷ []) (suc next) (left - 1) a) (placed to vs (quantified sign all a))
unfolding opened shape-the_row-Term-1 hidden-the_row-Term-1 hidden
opened-Quantified to sign vs next left all a = refl

pub taken-Quantified : (sign : Bool) (left : ℕ) (all : Bool) (a : Term) → taken sign left (t.Quantified all a) ≡ cond (takes sign all left) (suc (taken sign (left - 1) a)) 0
unfolding taken shape-the_row-Term-1 hidden-the_row-Term-1 hidden
taken-Quantified sign left all a = refl

pub opened-Known : (to : ℕ) (sign : Bool) (vs : List Term) (next left : ℕ) (x : Value) → opened to sign vs next left (t.Known x) ≡ signed sign (placed to vs (t.Known x))
unfolding opened
opened-Known to sign vs next left x = refl

pub opened-Var : (to : ℕ) (sign : Bool) (vs : List Term) (next left : ℕ) (k : ℕ) → opened to sign vs next left (t.Var k) ≡ signed sign (placed to vs (t.Var k))
unfolding opened
opened-Var to sign vs next left k = refl

pub opened-Read : (to : ℕ) (sign : Bool) (vs : List Term) (next left : ℕ) (f : ℕ) (ts : List Term) → opened to sign vs next left (t.Read f ts) ≡ signed sign (placed to vs (t.Read f ts))
unfolding opened
opened-Read to sign vs next left f ts = refl

pub opened-Same : (to : ℕ) (sign : Bool) (vs : List Term) (next left : ℕ) (a b : Term) → opened to sign vs next left (t.Same a b) ≡ signed sign (placed to vs (t.Same a b))
unfolding opened shape-the_row-Term-1 hidden-the_row-Term-1 hidden
opened-Same to sign vs next left a b = refl

pub opened-Less : (to : ℕ) (sign : Bool) (vs : List Term) (next left : ℕ) (a b : Term) → opened to sign vs next left (t.Less a b) ≡ signed sign (placed to vs (t.Less a b))
unfolding opened shape-the_row-Term-1 hidden-the_row-Term-1 hidden
opened-Less to sign vs next left a b = refl

pub opened-Arith : (to : ℕ) (sign : Bool) (vs : List Term) (next left : ℕ) (op : ArithOp) (a b : Term) → opened to sign vs next left (t.Arith op a b) ≡ signed sign (placed to vs (t.Arith op a b))
unfolding opened shape-the_row-Term-1 hidden-the_row-Term-1 hidden
opened-Arith to sign vs next left op a b = refl

pub taken-Known : (sign : Bool) (left : ℕ) (x : Value) → taken sign left (t.Known x) ≡ 0
unfolding taken
taken-Known sign left x = refl

pub taken-Var : (sign : Bool) (left : ℕ) (k : ℕ) → taken sign left (t.Var k) ≡ 0
unfolding taken
taken-Var sign left k = refl

pub taken-Read : (sign : Bool) (left : ℕ) (f : ℕ) (ts : List Term) → taken sign left (t.Read f ts) ≡ 0
unfolding taken
taken-Read sign left f ts = refl

pub taken-Same : (sign : Bool) (left : ℕ) (a b : Term) → taken sign left (t.Same a b) ≡ 0
unfolding taken shape-the_row-Term-1 hidden-the_row-Term-1 hidden
taken-Same sign left a b = refl

pub taken-Less : (sign : Bool) (left : ℕ) (a b : Term) → taken sign left (t.Less a b) ≡ 0
unfolding taken shape-the_row-Term-1 hidden-the_row-Term-1 hidden
taken-Less sign left a b = refl

pub taken-Arith : (sign : Bool) (left : ℕ) (op : ArithOp) (a b : Term) → taken sign left (t.Arith op a b) ≡ 0
unfolding taken shape-the_row-Term-1 hidden-the_row-Term-1 hidden
taken-Arith sign left op a b = refl

pub ruleset openings = (opened-And-true, opened-And-false, opened-Or-true, opened-Or-false, taken-And-true, taken-And-false, taken-Or-true, taken-Or-false, opened-Not, taken-Not, opened-If, taken-If, opened-Quantified, taken-Quantified, opened-Known, opened-Var, opened-Read, opened-Same, opened-Less, opened-Arith, taken-Known, taken-Var, taken-Read, taken-Same, taken-Less, taken-Arith, the_lemmas)
