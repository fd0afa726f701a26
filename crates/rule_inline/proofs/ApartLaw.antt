-- In a body whose loops keep their turns apart, as the symmetry rules judge it, each loop is as the translation asks.
use Rattle.std.proofs.Common.{◌≡◌, ℕ, zero, suc, ◌+◌, ◌<◌, Bool, true, false, List, [], ◌∷◌, length, reverse, Option, None, Some, refl, ap, ◌∙◌, arith}
use Rattle.std.specs.Prelude.{slice_get, nat_eq, unwrap_or}
use Rattle.std.proofs.lemmas.Bool.{and_parts}
use Rattle.term_core.specs.declared.value.Value.TheVariants as v
use Rattle.murphi_typed.specs.declared.types.Simple.{Simple}
use Rattle.murphi_typed.specs.declared.types.Simple.TheVariants as simple
use Rattle.murphi_typed.specs.declared.stmt.Stmt as st
use Rattle.murphi_typed.specs.declared.stmt.Stmt.{Stmt, Row_of-Stmt, end_of-Stmt, more_of-Stmt, Row_of-Arm, end_of-Arm, more_of-Arm, Row_of-Case, end_of-Case, more_of-Case}
use Rattle.murphi_typed.specs.declared.protocol.Parameter.{Parameter}
use Rattle.murphi_typed.specs.declared.protocol.Routine.{Routine}
use Rattle.murphi_typed.specs.declared.protocol.Typed.{Typed}
use Rattle.murphi_typed.specs.Values.{is_value}
use Rattle.murphi_typed.specs.Steps.{are_parameters}
use Rattle.scalarset_rules.specs.Accesses.{Stand, Scope, binding, called as called_scope, stands_of}
use Rattle.scalarset_rules.specs.Rules.{count_of, top_scope}
use Rattle.scalarset_rules.specs.Apart.{IsApart, AreApart, ArmsApart, CasesApart, either_of, ApartIn, BodyApart}
use Rattle.rule_inline.specs.Tables.{Key, holes}
use Rattle.rule_inline.specs.Parts.{Given as Gift, Site, with_value, with_variable, undefined, variable_of, argued_of}
use Rattle.rule_inline.specs.Bodies.{called_site, calls_in}
use Rattle.rule_inline.specs.Presents.{at_nodes}
use Rattle.rule_inline.specs.Machine.{parameter_terms, top_site}
use Rattle.rule_inline.proofs.ValueLemmas.{absurd_false}
use Rattle.rule_inline.proofs.TypeLemmas.{not_some, some_one}
use Rattle.rule_inline.proofs.StatementLemmas.{stmt_loops, row_loops, arm_loops, case_loops}
use Rattle.rule_inline.proofs.CallLaw.{pick_type, fine_in}
use Rattle.rule_inline.proofs.StandLemmas.{Tied, tied_value, tied_node, tied_call}
use Rattle.rule_inline.proofs.LoopLaw.{Apart}

-- what is asked of the loops of a routine that is called like this
abbrev pub CallsKeep : List Routine → Type 0
CallsKeep tail =
    (k : ℕ) (sc : Scope) (stands : List Stand) (site : Site) (gifts : List Gift)
    → ((result : Option Simple) → Tied (called_scope sc stands) (called_site site result gifts)) → ApartIn tail k (called_scope sc stands) → fine_in Apart tail k site gifts

module _ (latest : List Routine) (inner : CallsKeep latest) where
  mutual
    unfolding IsApart stmt_loops

    pub keeps_stmt : (stmt : Stmt) (sc : Scope) (site : Site) → Tied sc site → IsApart (ApartIn latest) latest sc stmt → stmt_loops (calls_in latest) (fine_in Apart latest) (Apart latest) site stmt
    keeps_stmt (st.Block' _ body) sc site tied apart = keeps_row body sc site tied apart
    keeps_stmt (st.Assign to into body) sc site tied apart = tt
    keeps_stmt (st.Copy to into from) sc site tied apart = tt
    keeps_stmt (st.CopyAll to from) sc site tied apart = tt
    keeps_stmt (st.Call k args at) sc site tied apart = λ T. inner k sc (stands_of sc args) site ((argued_of (calls_in latest) site T args).given) (λ result. tied_call sc site tied (calls_in latest) T args result) apart
    keeps_stmt (st.If' _ arms _ otherwise at) sc site tied (one, two) = (keeps_arms arms sc site tied one, keeps_row otherwise sc site tied two)
    keeps_stmt (st.Switch' on _ cases _ otherwise at) sc site tied (one, two) = (keeps_cases cases sc site tied one, keeps_row otherwise sc site tied two)
    keeps_stmt (st.For' simple.Node _ body at) sc site tied (loop, rest) = ((sc, (loop.0, (loop.1, tied))), keeps_row body (binding sc) (with_variable site) (tied_node sc site tied) rest)
    keeps_stmt (st.For' simple.Truth _ body at) sc site tied (loop, rest) = λ w. keeps_row body (binding sc) (with_value site w) (tied_value sc site w tied) rest
    keeps_stmt (st.For' (simple.Range low high) _ body at) sc site tied (loop, rest) = λ w. keeps_row body (binding sc) (with_value site w) (tied_value sc site w tied) rest
    keeps_stmt (st.For' (simple.Listed kind count) _ body at) sc site tied (loop, rest) = λ w. keeps_row body (binding sc) (with_value site w) (tied_value sc site w tied) rest
    keeps_stmt (st.For' (simple.Scalarset kind count) _ body at) sc site tied (loop, rest) = λ w. keeps_row body (binding sc) (with_value site w) (tied_value sc site w tied) rest
    keeps_stmt (st.Clear place of at) sc site tied apart = tt
    keeps_stmt (st.Undefine place at) sc site tied apart = tt
    keeps_stmt (st.Error at) sc site tied apart = tt
    keeps_stmt (st.Assert test at) sc site tied apart = tt
    keeps_stmt (st.PutText at) sc site tied apart = tt
    keeps_stmt (st.Put shown at) sc site tied apart = tt
    keeps_stmt (st.Leave at) sc site tied apart = tt
    keeps_stmt (st.Return body at) sc site tied apart = tt

    keeps_row : {n : _} (body : Row_of-Stmt n) (sc : Scope) (site : Site) → Tied sc site → AreApart (ApartIn latest) latest sc body → row_loops (calls_in latest) (fine_in Apart latest) (Apart latest) site body
    keeps_row end_of-Stmt sc site tied apart = tt
    keeps_row (more_of-Stmt first rest) sc site tied (one, more) = (keeps_stmt first sc site tied one, keeps_row rest sc site tied more)

    keeps_arms : {n : _} (arms : Row_of-Arm n) (sc : Scope) (site : Site) → Tied sc site → ArmsApart (ApartIn latest) latest sc arms → arm_loops (calls_in latest) (fine_in Apart latest) (Apart latest) site arms
    keeps_arms end_of-Arm sc site tied apart = tt
    keeps_arms (more_of-Arm test _ body rest) sc site tied (one, more) = (keeps_row body sc site tied one, keeps_arms rest sc site tied more)

    keeps_cases : {n : _} (cases : Row_of-Case n) (sc : Scope) (site : Site) → Tied sc site → CasesApart (ApartIn latest) latest sc cases → case_loops (calls_in latest) (fine_in Apart latest) (Apart latest) site cases
    keeps_cases end_of-Case sc site tied apart = tt
    keeps_cases (more_of-Case labels _ body rest) sc site tied (one, more) = (keeps_row body sc site tied one, keeps_cases rest sc site tied more)

calls_keep : (tail : List Routine) → CallsKeep tail
calls_keep [] k sc stands site gifts tied apart = tt
calls_keep (r ∷ earlier) k sc stands site gifts tied apart = go (nat_eq k (length earlier)) (calls_keep earlier) apart
  where
    go : (b : Bool) → CallsKeep earlier → either_of b (IsApart (ApartIn earlier) earlier (called_scope sc stands) r.body) (ApartIn earlier k (called_scope sc stands)) → pick_type b (stmt_loops (calls_in earlier) (fine_in Apart earlier) (Apart earlier) (called_site site r.result gifts) r.body) (fine_in Apart earlier k site gifts)
    go true inner apart = keeps_stmt earlier inner r.body (called_scope sc stands) (called_site site r.result gifts) (tied r.result) apart
    go false inner apart = inner k sc stands site gifts tied apart

-- Rules and start states

parameters_below : (next : ℕ) (key : Key) (k j : ℕ) → variable_of (unwrap_or (slice_get (parameter_terms next key) k) undefined) ≡ Some j → (i : ℕ) × ((j ≡ next + i) × (i < holes key))
parameters_below next [] k j e = not_some e
parameters_below next (Some w ∷ key) zero j e = not_some e
parameters_below next (Some w ∷ key) (suc k) j e = parameters_below next key k j e
parameters_below next (None ∷ key) zero j e = (0, (let same : next ≡ j = some_one e in omega (arith, same), omega arith))
parameters_below next (None ∷ key) (suc k) j e =
    let (i, found) = parameters_below (suc next) key k j e in
    let at : j ≡ suc next + i = found.0 in
    let less : i < holes key = found.1 in
    (suc i, (omega (arith, at), omega (arith, less)))

parameters_long : (next : ℕ) (key : Key) → length (parameter_terms next key) ≡ length key
parameters_long next [] = refl
parameters_long next (None ∷ key) = ap suc (parameters_long (suc next) key)
parameters_long next (Some w ∷ key) = ap suc (parameters_long next key)

key_long : (N : ℕ) (params : List Parameter) (key : Key) (ns : List ℕ) → length ns ≡ holes key → are_parameters N params (at_nodes key ns) ≡ true → length key ≡ count_of params
key_long N [] [] ns long are = refl
key_long N [] (None ∷ key) [] long are = absurd (omega (arith, long))
key_long N [] (None ∷ key) (n ∷ ns) long are = absurd_false are
key_long N [] (Some w ∷ key) ns long are = absurd_false are
key_long N (p ∷ ps) [] ns long are = absurd_false are
key_long N (p ∷ ps) (None ∷ key) [] long are = absurd (omega (arith, long))
key_long N (p ∷ ps) (None ∷ key) (n ∷ ns) long are = ap suc (key_long N ps key ns (omega (arith, long)) (and_parts (is_value N p.over (v.Node n)) (are_parameters N ps (at_nodes key ns)) are).1)
key_long N (p ∷ ps) (Some w ∷ key) ns long are = ap suc (key_long N ps key ns long (and_parts (is_value N p.over w) (are_parameters N ps (at_nodes key ns)) are).1)

top_tied : (N : ℕ) (params : List Parameter) (key : Key) (ns : List ℕ) → length ns ≡ holes key → are_parameters N params (at_nodes key ns) ≡ true → Tied (top_scope params) (top_site key)
top_tied N params key ns long are = record {
  depth = refl;
  long = parameters_long 0 key ∙ key_long N params key ns long are;
  bound = λ k j e. (let (i, found) = parameters_below 0 key k j e in let at : j ≡ 0 + i = found.0 in let less : i < holes key = found.1 in omega (arith, at, less));
  formals = tt;
}

-- the loops of a body of a text that keeps the turns apart
pub top_keeps : (T : Typed) (N : ℕ) (params : List Parameter) (key : Key) (ns : List ℕ) (body : Stmt) → length ns ≡ holes key → are_parameters N params (at_nodes key ns) ≡ true → BodyApart T (top_scope params) body → stmt_loops (calls_in (reverse T.routines)) (fine_in Apart (reverse T.routines)) (Apart (reverse T.routines)) (top_site key) body
top_keeps T N params key ns body long are apart = keeps_stmt (reverse T.routines) (calls_keep (reverse T.routines)) body (top_scope params) (top_site key) (top_tied N params key ns long are) apart
