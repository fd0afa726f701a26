-- Where no routine has a loop over nodes nothing is asked of loops.
use Rattle.std.proofs.Common.{◌≡◌, ℕ, Bool, true, false, List, [], ◌∷◌, ◌++◌, length, reverse, refl, ap, ◌∙◌}
use Rattle.std.specs.Prelude.{nat_eq}
use Rattle.std.specs.List.{list_all}
use Rattle.std.proofs.lemmas.Bool.{and_parts}
use Rattle.std.proofs.lemmas.List.{reverse-append}
use Rattle.murphi_typed.specs.declared.types.Simple.TheVariants as simple
use Rattle.murphi_typed.specs.declared.stmt.Stmt as st
use Rattle.murphi_typed.specs.declared.stmt.Stmt.{Stmt, Row_of-Stmt, end_of-Stmt, more_of-Stmt, Row_of-Arm, end_of-Arm, more_of-Arm, Row_of-Case, end_of-Case, more_of-Case}
use Rattle.murphi_typed.specs.declared.protocol.Routine.{Routine}
use Rattle.rule_inline.specs.Parts.{Given as Gift, Site, with_value, Calls as TermCalls}
use Rattle.rule_inline.specs.Bodies.{calls_in, called_site}
use Rattle.rule_inline.specs.Loops.{is_loopless, are_loopless, loopless_arms, loopless_cases}
use Rattle.rule_inline.proofs.ValueLemmas.{absurd_false}
use Rattle.rule_inline.proofs.TermLemmas.{and_of}
use Rattle.rule_inline.proofs.StatementLemmas.{stmt_loops, row_loops, arm_loops, case_loops}
use Rattle.rule_inline.proofs.CallLaw.{pick_type, fine_in, FunctionsFine}

module _ (Q : (n : _) → Site → Row_of-Stmt n → Type 0) (tcalls : TermCalls) (allowed : ℕ → Site → List Gift → Type 0) (all_allowed : (k : ℕ) (site : Site) (gifts : List Gift) → allowed k site gifts) where
  mutual
    unfolding is_loopless stmt_loops

    pub stmt_fine : (site : Site) (stmt : Stmt) → is_loopless stmt ≡ true → stmt_loops tcalls allowed Q site stmt
    stmt_fine site (st.Block' _ body) e = row_fine site body e
    stmt_fine site (st.Assign to into body) e = tt
    stmt_fine site (st.Copy to into from) e = tt
    stmt_fine site (st.CopyAll to from) e = tt
    stmt_fine site (st.Call k args at) e = λ T. all_allowed k site _
    stmt_fine site (st.If' _ arms _ otherwise at) e = let (one, two) = and_parts (loopless_arms arms) (are_loopless otherwise) e in (arms_fine site arms one, row_fine site otherwise two)
    stmt_fine site (st.Switch' on _ cases _ otherwise at) e = let (one, two) = and_parts (loopless_cases cases) (are_loopless otherwise) e in (cases_fine site cases one, row_fine site otherwise two)
    stmt_fine site (st.For' simple.Node _ body at) e = absurd_false e
    stmt_fine site (st.For' simple.Truth _ body at) e = λ w. row_fine (with_value site w) body e
    stmt_fine site (st.For' (simple.Range low high) _ body at) e = λ w. row_fine (with_value site w) body e
    stmt_fine site (st.For' (simple.Listed kind count) _ body at) e = λ w. row_fine (with_value site w) body e
    stmt_fine site (st.For' (simple.Scalarset kind count) _ body at) e = λ w. row_fine (with_value site w) body e
    stmt_fine site (st.Clear place of at) e = tt
    stmt_fine site (st.Undefine place at) e = tt
    stmt_fine site (st.Error at) e = tt
    stmt_fine site (st.Assert test at) e = tt
    stmt_fine site (st.PutText at) e = tt
    stmt_fine site (st.Put shown at) e = tt
    stmt_fine site (st.Leave at) e = tt
    stmt_fine site (st.Return body at) e = tt

    row_fine : {n : _} (site : Site) (body : Row_of-Stmt n) → are_loopless body ≡ true → row_loops tcalls allowed Q site body
    row_fine site end_of-Stmt e = tt
    row_fine site (more_of-Stmt first rest) e = let (one, two) = and_parts (is_loopless first) (are_loopless rest) e in (stmt_fine site first one, row_fine site rest two)

    arms_fine : {n : _} (site : Site) (arms : Row_of-Arm n) → loopless_arms arms ≡ true → arm_loops tcalls allowed Q site arms
    arms_fine site end_of-Arm e = tt
    arms_fine site (more_of-Arm test _ body rest) e = let (one, two) = and_parts (are_loopless body) (loopless_arms rest) e in (row_fine site body one, arms_fine site rest two)

    cases_fine : {n : _} (site : Site) (cases : Row_of-Case n) → loopless_cases cases ≡ true → case_loops tcalls allowed Q site cases
    cases_fine site end_of-Case e = tt
    cases_fine site (more_of-Case labels _ body rest) e = let (one, two) = and_parts (are_loopless body) (loopless_cases rest) e in (row_fine site body one, cases_fine site rest two)

-- Lists of routines

joined_loopless : (xs ys : List Routine) → list_all (λ (r : Routine). is_loopless r.body) xs ≡ true → list_all (λ (r : Routine). is_loopless r.body) ys ≡ true → list_all (λ (r : Routine). is_loopless r.body) (xs ++ ys) ≡ true
joined_loopless [] ys e f = f
joined_loopless (r ∷ xs) ys e f = let (one, rest) = and_parts (is_loopless r.body) (list_all (λ (q : Routine). is_loopless q.body) xs) e in and_of one (joined_loopless xs ys rest f)

pub reverse_loopless : (rs : List Routine) → list_all (λ (r : Routine). is_loopless r.body) rs ≡ true → list_all (λ (r : Routine). is_loopless r.body) (reverse rs) ≡ true
reverse_loopless [] e = refl
reverse_loopless (r ∷ rs) e =
    let (one, rest) = and_parts (is_loopless r.body) (list_all (λ (q : Routine). is_loopless q.body) rs) e in
    ap (list_all (λ (q : Routine). is_loopless q.body)) (reverse-append (r ∷ []) rs) ∙ joined_loopless (reverse rs) (r ∷ []) (reverse_loopless rs rest) (and_of one refl)

pub every_fine : (Q : List Routine → (n : _) → Site → Row_of-Stmt n → Type 0) (tail : List Routine) → list_all (λ (r : Routine). is_loopless r.body) tail ≡ true → (k : ℕ) (site : Site) (gifts : List Gift) → fine_in Q tail k site gifts
every_fine Q [] e k site gifts = tt
every_fine Q (r ∷ earlier) e k site gifts =
    let (one, rest) = and_parts (is_loopless r.body) (list_all (λ (q : Routine). is_loopless q.body) earlier) e in
    go one (every_fine Q earlier rest) (nat_eq k (length earlier))
  where
    go : is_loopless r.body ≡ true → ((k : ℕ) (site : Site) (gifts : List Gift) → fine_in Q earlier k site gifts) → (b : Bool) → pick_type b (stmt_loops (calls_in earlier) (fine_in Q earlier) (Q earlier) (called_site site r.result gifts) r.body) (fine_in Q earlier k site gifts)
    go one inner true = stmt_fine (Q earlier) (calls_in earlier) (fine_in Q earlier) inner (called_site site r.result gifts) r.body one
    go one inner false = inner k site gifts

pub functions_fine : (Q : List Routine → (n : _) → Site → Row_of-Stmt n → Type 0) (tail : List Routine) → list_all (λ (r : Routine). is_loopless r.body) tail ≡ true → FunctionsFine Q tail
functions_fine Q [] e = tt
functions_fine Q (r ∷ earlier) e =
    let (one, rest) = and_parts (is_loopless r.body) (list_all (λ (q : Routine). is_loopless q.body) earlier) e in
    ((λ u site gifts is. stmt_fine (Q earlier) (calls_in earlier) (fine_in Q earlier) (every_fine Q earlier rest) (called_site site r.result gifts) r.body one), functions_fine Q earlier rest)
