-- The summaries of a text say what its calls do, and so the walks give the prefix lengths.
use Rattle.std.proofs.Common.{◌≡◌, ℕ, zero, suc, ◌+◌, max, Bool, true, false, List, [], ◌∷◌, ◌++◌, reverse, length, Option, None, Some, refl, ap, sym, ◌∙◌, subst, arith, append_assoc, append-nil, length-append}
use Rattle.std.specs.Prelude.{nat_eq, if◌then◌else◌}
use Rattle.std.proofs.lemmas.Bool.{eqb-true, eqb-false}
use Rattle.std.proofs.lemmas.List.{reverse-append}
use Rattle.murphi_typed.specs.declared.expr.Expr.{Expr}
use Rattle.murphi_typed.specs.declared.stmt.Stmt.{Stmt}
use Rattle.murphi_typed.specs.declared.protocol.Routine.{Routine}
use Rattle.murphi_typed.specs.declared.protocol.Parameter.{Parameter}
use Rattle.murphi_typed.specs.declared.protocol.Guard.{Guard}
use Rattle.murphi_typed.specs.Prefix.{Depths, up, depth_of, stmt_depth, depths_in, routine_depths, node_parameters, guard_depth, formula_prefix, rule_prefix}
use Rattle.type_prefixes.specs.declared.depth.Depth.{Depth}
use Rattle.type_prefixes.specs.Summaries.{steep, depth_with, empty, called}
use Rattle.type_prefixes.specs.Walks.{walked, stmt_walked, summary, with_summaries, summaries}
use Rattle.type_prefixes.specs.Lengths.{formula_length, guard_walked, rule_length}
use Rattle.type_prefixes.proofs.MaxLemmas.{start-step, own-step, nothing-step}
use Rattle.type_prefixes.proofs.WalkLaws.{Agrees, walk-is, stmt-is}

called-same : (cs : List Depth) (c : Depth) (k : ℕ) → k ≡ length cs → called (cs ++ c ∷ []) k ≡ c
called-same [] c zero same = refl
called-same [] c (suc k) same = absurd (omega (arith, same))
called-same (x ∷ cs) c zero same = absurd (omega (arith, same))
called-same (x ∷ cs) c (suc k) same = called-same cs c k (omega (arith, same))

called-other : (cs : List Depth) (c : Depth) (k : ℕ) → (k ≡ length cs → ⊥) → called (cs ++ c ∷ []) k ≡ called cs k
called-other [] c zero other = absurd (other refl)
called-other [] c (suc k) other = refl
called-other (x ∷ cs) c zero other = refl
called-other (x ∷ cs) c (suc k) other = called-other cs c k (λ same. other (ap suc same))

nothing-agrees : Agrees [] (depths_in [])
nothing-agrees k ds = nothing-step (steep [] ds)

summary-is : (cs : List Depth) (calls : Depths) → Agrees cs calls → (r : Routine) (ds : List ℕ) → depth_with (summary cs r) ds ≡ max (steep [] ds) (stmt_depth calls ds r.body)
summary-is cs calls agree r ds = start-step (steep [] ds) (stmt_depth calls ds r.body) (depth_with (summary cs r) ds) (stmt-is cs calls agree ds r.body 0 empty)

next-agrees : (cs : List Depth) (earlier : List Routine) (r : Routine) → length cs ≡ length earlier → Agrees cs (depths_in earlier) → Agrees (cs ++ summary cs r ∷ []) (depths_in (r ∷ earlier))
next-agrees cs earlier r same agree k ds = go (nat_eq k (length earlier)) refl
  where
    go : (b : Bool) → nat_eq k (length earlier) ≡ b → depth_with (called (cs ++ summary cs r ∷ []) k) ds ≡ max (steep [] ds) (if b then stmt_depth (depths_in earlier) ds r.body else depths_in earlier k ds)
    go true was = ap (λ S. depth_with S ds) (called-same cs (summary cs r) k (eqb-true k (length earlier) was ∙ sym same)) ∙ summary-is cs (depths_in earlier) agree r ds
    go false was = ap (λ S. depth_with S ds) (called-other cs (summary cs r) k (λ e. eqb-false k (length earlier) was (e ∙ same))) ∙ agree k ds

longer : (cs : List Depth) (c : Depth) (n : ℕ) → length cs ≡ n → length (cs ++ c ∷ []) ≡ suc n
longer cs c n e = length-append cs (c ∷ []) ∙ (let p : length cs + 1 ≡ suc n = omega (arith, e) in p)

reversed : (r : Routine) (rs earlier : List Routine) → reverse rs ++ (r ∷ earlier) ≡ reverse (r ∷ rs) ++ earlier
reversed r rs earlier = sym (append_assoc (reverse rs) (r ∷ []) earlier) ∙ ap (λ l. l ++ earlier) (sym (reverse-append (r ∷ []) rs))

all-agree : (rs : List Routine) (cs : List Depth) (earlier : List Routine) → length cs ≡ length earlier → Agrees cs (depths_in earlier) → Agrees (with_summaries cs rs) (depths_in (reverse rs ++ earlier))
all-agree [] cs earlier same agree = agree
all-agree (r ∷ rs) cs earlier same agree =
    subst (λ l. Agrees (with_summaries (cs ++ summary cs r ∷ []) rs) (depths_in l)) (reversed r rs earlier)
    (all-agree rs (cs ++ summary cs r ∷ []) (r ∷ earlier) (longer cs (summary cs r) (length earlier) same) (next-agrees cs earlier r same agree))

pub summaries-agree : (rs : List Routine) → Agrees (summaries rs) (routine_depths rs)
summaries-agree rs = subst (λ l. Agrees (summaries rs) (depths_in l)) (append-nil (reverse rs)) (all-agree rs [] [] refl nothing-agrees)

pub own-is : (rs : List Routine) (e : Expr) → (walked (summaries rs) e 0 empty).own ≡ depth_of (routine_depths rs) [] e
own-is rs e = own-step (walked (summaries rs) e 0 empty).own (depth_of (routine_depths rs) [] e) (walk-is (summaries rs) (routine_depths rs) (summaries-agree rs) [] e 0 empty)

pub own-body-is : (rs : List Routine) (body : Stmt) → (stmt_walked (summaries rs) body 0 empty).own ≡ stmt_depth (routine_depths rs) [] body
own-body-is rs body = own-step (stmt_walked (summaries rs) body 0 empty).own (stmt_depth (routine_depths rs) [] body) (stmt-is (summaries rs) (routine_depths rs) (summaries-agree rs) [] body 0 empty)

pub formula-is : (rs : List Routine) (params : List Parameter) (body : Expr) → formula_length (summaries rs) params body ≡ formula_prefix rs params body
formula-is rs params body = ap (λ n. node_parameters params + max n (up body)) (own-is rs body)

guard-is : (rs : List Routine) (guard : Option Guard) → (guard_walked (summaries rs) guard).own ≡ guard_depth (routine_depths rs) guard
guard-is rs (Some g) = own-is rs g.test
guard-is rs None = refl

pub rule-is : (rs : List Routine) (params : List Parameter) (guard : Option Guard) (body : Stmt) → rule_length (summaries rs) params guard body ≡ rule_prefix rs params guard body
rule-is rs params guard body =
    ap (λ n. node_parameters params + max n (stmt_walked (summaries rs) body 0 empty).own) (guard-is rs guard)
    ∙ ap (λ n. node_parameters params + max (guard_depth (routine_depths rs) guard) n) (own-body-is rs body)

pub ruleset prefixes = (formula-is, rule-is)
