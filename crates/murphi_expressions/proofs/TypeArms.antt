-- One lemma for each way through the readers of types.
use Rattle.std.proofs.Common.{◌≡◌, ℕ, ◌+◌, true, false, List, drop, Ok, Err, Result, refl, ap, ◌∙◌}
use Rattle.grammar_core.specs.Test.{is_in, apart, within}
use Rattle.grammar_core.specs.Walk as u
use Rattle.grammar_core.specs.Walk.{Run}
use Rattle.murphi_ast.specs.declared.token.Token.{Token}
use Rattle.murphi_ast.specs.declared.expr.Named.{Named}
use Rattle.murphi_ast.specs.declared.expr.FieldDecl.{FieldDecl}
use Rattle.murphi_ast.specs.declared.expr.Link.{Link}
use Rattle.murphi_ast.specs.declared.expr.TypeExpr as type
use Rattle.murphi_ast.specs.declared.expr.TypeExpr.{TypeExpr}
use Rattle.murphi_ast.specs.declared.expr.Expr.{Expr}
use Rattle.murphi_grammar.specs.declared.symbol.Symbol.TheVariants as t
use Rattle.murphi_grammar.specs.Names as n
use Rattle.murphi_grammar.specs.Parts.{one, form, ending}
use Rattle.murphi_grammar.specs.Pieces.{cut}
use Rattle.murphi_grammar.specs.Values.{named, chained}
use Rattle.murphi_expressions.specs.Says.{Says, Gives, Takes, Passes, Opens, Enters, can_begin, place_of, itself}
use Rattle.murphi_expressions.specs.Levels.{SaysChain, SaysLinks}
use Rattle.murphi_expressions.specs.Parts.{primary_of, range_rest, range_of, other_type, other_type_of, array_type, array_of, field_form, field_of}
use Rattle.murphi_expressions.specs.declared.sign.Level.TheVariants as level
use Rattle.murphi_expressions.specs.declared.step.Stop.{Stop}
use Rattle.murphi_expressions.proofs.Heads.{token_here}
use Rattle.murphi_expressions.proofs.Steps.{full}
use Rattle.murphi_expressions.proofs.Ways.{stops_as, inside, included, excluded, shrunk, no_memory, gives_no_memory}
use Rattle.murphi_expressions.proofs.Loops.{primary_named, type_range_first, type_range_rest, type_range}

pub named_type_1 : (k : ℕ) (ts : List Token) (at : ℕ) (s : Stop) → can_begin (one t.Name) ts at ≡ true →
    Takes (one t.Name) named ts at (Err s) → Says n.TypeForm k ts at (Err s)
unfolding primary_of Says SaysChain SaysLinks Gives Takes Passes Opens can_begin is_in apart within
named_type_1 k ts at s h0 h2 = stops_as ts at at s (λ why rest q. u.call_stop (u.left_stop h0 (u.seq_first q))) (h2 k)

pub named_type_2 : (k : ℕ) (ts : List Token) (at : ℕ) (root : Named) (next : ℕ) (s : Stop) →
    can_begin (one t.Name) ts at ≡ true → Takes (one t.Name) named ts at (Ok (root, next)) →
    can_begin (cut n.RangeTail) ts next ≡ true → Gives (cut n.NameRest) (primary_of root) k ts next (Err s) →
    Says n.TypeForm k ts at (Err s)
unfolding primary_of Says SaysChain SaysLinks Gives Takes Passes Opens can_begin is_in apart within
named_type_2 k ts at root next s h0 h2 h3 h4 =
    stops_as ts next at s (λ why rest q. u.call_stop (u.left_stop h0 (u.seq_second (h2.2 k) (u.left_stop h3 (u.call_stop (u.seq_first q)))))) h4

pub named_type_3 : (k : ℕ) (ts : List Token) (at : ℕ) (root : Named) (next : ℕ) (x : Expr) (behind : ℕ) (s : Stop) →
    can_begin (one t.Name) ts at ≡ true → Takes (one t.Name) named ts at (Ok (root, next)) →
    can_begin (cut n.RangeTail) ts next ≡ true →
    Gives (cut n.NameRest) (primary_of root) k ts next (Ok (x, behind)) →
    Gives range_rest (range_of x) k ts behind (Err s) → Says n.TypeForm k ts at (Err s)
unfolding primary_of Says SaysChain SaysLinks Gives Takes Passes Opens can_begin is_in apart within
named_type_3 k ts at root next x behind s h0 h2 h3 h4 h5 =
    stops_as ts behind at s (λ why rest q. u.call_stop (u.left_stop h0 (u.seq_second (h2.2 k) (u.left_stop h3 (u.call_stop (u.seq_second h4.2 q)))))) h5

pub named_type_4 :
    (k : ℕ) (ts : List Token) (at : ℕ) (root : Named) (next : ℕ) (x : Expr) (behind : ℕ) (y : TypeExpr) (end : ℕ) →
    can_begin (one t.Name) ts at ≡ true → Takes (one t.Name) named ts at (Ok (root, next)) →
    can_begin (cut n.RangeTail) ts next ≡ true →
    Gives (cut n.NameRest) (primary_of root) k ts next (Ok (x, behind)) →
    Gives range_rest (range_of x) k ts behind (Ok (y, end)) → Says n.TypeForm k ts at (Ok (y, end))
unfolding primary_of Says SaysChain SaysLinks Gives Takes Passes Opens can_begin is_in apart within
named_type_4 k ts at root next x behind y end h0 h2 h3 h4 h5 =
    u.call (h5.1 ∙ ap (λ z. range_of z h5.0) (h4.1 ∙ ap (λ z. primary_of z h4.0) h2.1 ∙ primary_named h2.0 h4.0)) (u.left h0 (u.seq (h2.2 k) (u.left h3 (u.call refl (u.seq h4.2 h5.2)))))

pub named_type_5 : (k : ℕ) (ts : List Token) (at : ℕ) (root : Named) (next : ℕ) →
    can_begin (one t.Name) ts at ≡ true → Takes (one t.Name) named ts at (Ok (root, next)) →
    can_begin (cut n.RangeTail) ts next ≡ false → Says n.TypeForm k ts at (Ok (type.Known root, next))
unfolding primary_of Says SaysChain SaysLinks Gives Takes Passes Opens can_begin is_in apart within
named_type_5 k ts at root next h0 h2 h3 =
    u.call (ap (λ z. (type.Known z)) h2.1) (u.left h0 (u.seq (h2.2 k) (u.right h3 u.empty)))

pub ruleset named_type_arms = (named_type_1, named_type_2, named_type_3, named_type_4, named_type_5, no_memory)

pub range_behind_1 : (k : ℕ) (ts : List Token) (at : ℕ) (first : Expr) (s : Stop) →
    SaysLinks level.Product k ts at (Err s) → Gives range_rest (range_of first) k ts at (Err s)
unfolding primary_of Says SaysChain SaysLinks Gives Takes Passes Opens can_begin is_in apart within
range_behind_1 k ts at first s h1 = stops_as ts at at s (λ why rest q. u.seq_first q) h1

pub range_behind_2 : (k : ℕ) (ts : List Token) (at : ℕ) (first : Expr) (ms : List Link) (next : ℕ) (s : Stop) →
    SaysLinks level.Product k ts at (Ok (ms, next)) → SaysLinks level.Sum k ts next (Err s) →
    Gives range_rest (range_of first) k ts at (Err s)
unfolding primary_of Says SaysChain SaysLinks Gives Takes Passes Opens can_begin is_in apart within
range_behind_2 k ts at first ms next s h1 h2 =
    stops_as ts next at s (λ why rest q. u.seq_second h1 (u.seq_first q)) h2

pub range_behind_3 :
    (k : ℕ) (ts : List Token) (at : ℕ) (first : Expr) (ms : List Link) (next : ℕ) (ads : List Link) (last : ℕ) (s : Stop) →
    SaysLinks level.Product k ts at (Ok (ms, next)) → SaysLinks level.Sum k ts next (Ok (ads, last)) →
    Passes (one t.DotDot) ts last (Err s) → Gives range_rest (range_of first) k ts at (Err s)
unfolding primary_of Says SaysChain SaysLinks Gives Takes Passes Opens can_begin is_in apart within
range_behind_3 k ts at first ms next ads last s h1 h2 h3 =
    stops_as ts last at s (λ why rest q. u.seq_second h1 (u.seq_second h2 (u.seq_first q))) (h3 k)

pub range_behind_4 :
    (k : ℕ) (ts : List Token) (at : ℕ) (first : Expr) (ms : List Link) (next : ℕ) (ads : List Link) (last : ℕ) (behind : ℕ) (s : Stop) →
    SaysLinks level.Product k ts at (Ok (ms, next)) → SaysLinks level.Sum k ts next (Ok (ads, last)) →
    Passes (one t.DotDot) ts last (Ok behind) → SaysChain level.Sum k ts behind (Err s) →
    Gives range_rest (range_of first) k ts at (Err s)
unfolding primary_of Says SaysChain SaysLinks Gives Takes Passes Opens can_begin is_in apart within
range_behind_4 k ts at first ms next ads last behind s h1 h2 h3 h4 =
    stops_as ts behind at s (λ why rest q. u.seq_second h1 (u.seq_second h2 (u.seq_second (h3.1 k) q))) h4

pub range_behind_5 :
    (k : ℕ) (ts : List Token) (at : ℕ) (first : Expr) (ms : List Link) (next : ℕ) (ads : List Link) (last : ℕ) (behind : ℕ) (high : Expr) (end : ℕ) →
    SaysLinks level.Product k ts at (Ok (ms, next)) → SaysLinks level.Sum k ts next (Ok (ads, last)) →
    Passes (one t.DotDot) ts last (Ok behind) → SaysChain level.Sum k ts behind (Ok (high, end)) →
    Gives range_rest (range_of first) k ts at (Ok (type.Range (chained (chained first ms) ads) high, end))
unfolding primary_of Says SaysChain SaysLinks Gives Takes Passes Opens can_begin is_in apart within
range_behind_5 k ts at first ms next ads last behind high end h1 h2 h3 h4 =
    (_, refl, u.seq h1 (u.seq h2 (u.seq (h3.1 k) h4)))

pub ruleset range_behind_arms = (
  range_behind_1,
  range_behind_2,
  range_behind_3,
  range_behind_4,
  range_behind_5,
  gives_no_memory,
)

pub other_type_1 : (k : ℕ) (ts : List Token) (at : ℕ) (s : Stop) → can_begin (one t.Scalarset) ts at ≡ true →
    Opens t.Open k ts (at + 1) (Err s) → Gives other_type other_type_of k ts at (Err s)
unfolding primary_of Says SaysChain SaysLinks Gives Takes Passes Opens can_begin is_in apart within
other_type_1 k ts at s h1 h2 =
    let w1 = token_here t.Scalarset ts at h1 in
    stops_as ts (at + 1) at s (λ why rest q. u.left_stop h1 (u.seq_second (u.token w1.1 w1.2) q)) (h2 _)

pub other_type_2 : (k : ℕ) (ts : List Token) (at : ℕ) (m : ℕ) (s : Stop) →
    can_begin (one t.Scalarset) ts at ≡ true → Opens t.Open k ts (at + 1) (Ok m) →
    Says n.Expr m ts ((at + 1) + 1) (Err s) → Gives other_type other_type_of k ts at (Err s)
unfolding primary_of Says SaysChain SaysLinks Gives Takes Passes Opens can_begin is_in apart within
other_type_2 k ts at m s h1 h2 h3 =
    let w1 = token_here t.Scalarset ts at h1 in
    let w2 = token_here t.Open ts (at + 1) h2.0 in
    stops_as ts ((at + 1) + 1) at s (λ why rest q. u.left_stop h1 (u.seq_second (u.token w1.1 w1.2) (u.nest_stop w2.1 w2.2 (inside k m h2.1) (u.seq_first q)))) h3

pub other_type_3 : (k : ℕ) (ts : List Token) (at : ℕ) (m : ℕ) (x : Expr) (next : ℕ) (s : Stop) →
    can_begin (one t.Scalarset) ts at ≡ true → Opens t.Open k ts (at + 1) (Ok m) →
    Says n.Expr m ts ((at + 1) + 1) (Ok (x, next)) → Passes (one t.Close) ts next (Err s) →
    Gives other_type other_type_of k ts at (Err s)
unfolding primary_of Says SaysChain SaysLinks Gives Takes Passes Opens can_begin is_in apart within
other_type_3 k ts at m x next s h1 h2 h3 h4 =
    let w1 = token_here t.Scalarset ts at h1 in
    let w2 = token_here t.Open ts (at + 1) h2.0 in
    stops_as ts next at s (λ why rest q. u.left_stop h1 (u.seq_second (u.token w1.1 w1.2) (u.nest_stop w2.1 w2.2 (inside k m h2.1) (u.seq_second h3 q)))) (h4 m)

pub other_type_4 : (k : ℕ) (ts : List Token) (at : ℕ) (m : ℕ) (x : Expr) (next : ℕ) (end : ℕ) →
    can_begin (one t.Scalarset) ts at ≡ true → Opens t.Open k ts (at + 1) (Ok m) →
    Says n.Expr m ts ((at + 1) + 1) (Ok (x, next)) → Passes (one t.Close) ts next (Ok end) →
    Gives other_type other_type_of k ts at (Ok (type.Scalarset x (place_of (drop at ts)), end))
unfolding primary_of Says SaysChain SaysLinks Gives Takes Passes Opens can_begin is_in apart within
other_type_4 k ts at m x next end h1 h2 h3 h4 =
    let w1 = token_here t.Scalarset ts at h1 in
    let w2 = token_here t.Open ts (at + 1) h2.0 in
    (_, ap (λ z. (type.Scalarset x (place_of z))) w1.1, u.left h1 (u.seq (u.token w1.1 w1.2) (u.nest w2.1 w2.2 (inside k m h2.1) (u.seq h3 (h4.1 m)))))

pub other_type_5 : (k : ℕ) (ts : List Token) (at : ℕ) (s : Stop) → can_begin (one t.Scalarset) ts at ≡ false →
    can_begin (one t.Record) ts at ≡ true → Enters at k (Err s) → Gives other_type other_type_of k ts at (Err s)
unfolding primary_of Says SaysChain SaysLinks Gives Takes Passes Opens can_begin is_in apart within
other_type_5 k ts at s h1 h2 h3 =
    stops_as ts at at s (λ why rest q. u.right_stop (excluded (one t.Record) (one t.Scalarset) ts at h2 refl) (u.left_stop h2 q)) (full t.Record k ts at s h2 h3 _)

pub other_type_6 : (k : ℕ) (ts : List Token) (at : ℕ) (m : ℕ) (s : Stop) →
    can_begin (one t.Scalarset) ts at ≡ false → can_begin (one t.Record) ts at ≡ true → k ≡ m + 1 →
    Says n.Fields m ts (at + 1) (Err s) → Gives other_type other_type_of k ts at (Err s)
unfolding primary_of Says SaysChain SaysLinks Gives Takes Passes Opens can_begin is_in apart within
other_type_6 k ts at m s h1 h2 h3 h4 =
    let w1 = token_here t.Record ts at h2 in
    stops_as ts (at + 1) at s (λ why rest q. u.right_stop (excluded (one t.Record) (one t.Scalarset) ts at h2 refl) (u.left_stop h2 (u.nest_stop w1.1 w1.2 (inside k m h3) (u.seq_first q)))) h4

pub other_type_7 : (k : ℕ) (ts : List Token) (at : ℕ) (m : ℕ) (xs : List FieldDecl) (next : ℕ) (s : Stop) →
    can_begin (one t.Scalarset) ts at ≡ false → can_begin (one t.Record) ts at ≡ true → k ≡ m + 1 →
    Says n.Fields m ts (at + 1) (Ok (xs, next)) → Passes (ending t.EndRecord) ts next (Err s) →
    Gives other_type other_type_of k ts at (Err s)
unfolding primary_of Says SaysChain SaysLinks Gives Takes Passes Opens can_begin is_in apart within
other_type_7 k ts at m xs next s h1 h2 h3 h4 h5 =
    let w1 = token_here t.Record ts at h2 in
    stops_as ts next at s (λ why rest q. u.right_stop (excluded (one t.Record) (one t.Scalarset) ts at h2 refl) (u.left_stop h2 (u.nest_stop w1.1 w1.2 (inside k m h3) (u.seq_second h4 q)))) (h5 m)

pub other_type_8 : (k : ℕ) (ts : List Token) (at : ℕ) (m : ℕ) (xs : List FieldDecl) (next : ℕ) (end : ℕ) →
    can_begin (one t.Scalarset) ts at ≡ false → can_begin (one t.Record) ts at ≡ true → k ≡ m + 1 →
    Says n.Fields m ts (at + 1) (Ok (xs, next)) → Passes (ending t.EndRecord) ts next (Ok end) →
    Gives other_type other_type_of k ts at (Ok (type.Fields xs (place_of (drop at ts)), end))
unfolding primary_of Says SaysChain SaysLinks Gives Takes Passes Opens can_begin is_in apart within
other_type_8 k ts at m xs next end h1 h2 h3 h4 h5 =
    let w1 = token_here t.Record ts at h2 in
    (_, ap (λ z. (type.Fields xs (place_of z))) w1.1, u.right (excluded (one t.Record) (one t.Scalarset) ts at h2 refl) (u.left h2 (u.nest w1.1 w1.2 (inside k m h3) (u.seq h4 (h5.1 m)))))

pub other_type_9 : (k : ℕ) (ts : List Token) (at : ℕ) (r : Result (TypeExpr × ℕ) Stop) →
    can_begin (one t.Scalarset) ts at ≡ false → can_begin (one t.Record) ts at ≡ false →
    Gives array_type array_of k ts at r → Gives other_type other_type_of k ts at r
unfolding primary_of Says SaysChain SaysLinks Gives Takes Passes Opens can_begin is_in apart within
other_type_9 k ts at (Ok (x, next)) h1 h2 h3 = (_, h3.1, u.right h1 (u.right h2 h3.2))
other_type_9 k ts at (Err s) h1 h2 h3 = stops_as ts at at s (λ why rest q. u.right_stop h1 (u.right_stop h2 q)) h3

pub ruleset other_type_arms = (
  other_type_1,
  other_type_2,
  other_type_3,
  other_type_4,
  other_type_5,
  other_type_6,
  other_type_7,
  other_type_8,
  other_type_9,
  gives_no_memory,
)

pub array_1 : (k : ℕ) (ts : List Token) (at : ℕ) (s : Stop) → Opens t.Array k ts at (Err s) →
    Gives array_type array_of k ts at (Err s)
unfolding primary_of Says SaysChain SaysLinks Gives Takes Passes Opens can_begin is_in apart within
array_1 k ts at s h1 = stops_as ts at at s (λ why rest q. q) (h1 _)

pub array_2 : (k : ℕ) (ts : List Token) (at : ℕ) (m : ℕ) (s : Stop) → Opens t.Array k ts at (Ok m) →
    Opens t.OpenBracket m ts (at + 1) (Err s) → Gives array_type array_of k ts at (Err s)
unfolding primary_of Says SaysChain SaysLinks Gives Takes Passes Opens can_begin is_in apart within
array_2 k ts at m s h1 h2 =
    let w1 = token_here t.Array ts at h1.0 in
    stops_as ts (at + 1) at s (λ why rest q. u.nest_stop w1.1 w1.2 (inside k m h1.1) (u.seq_first q)) (h2 _)

pub array_3 : (k : ℕ) (ts : List Token) (at : ℕ) (m : ℕ) (m2 : ℕ) (s : Stop) → Opens t.Array k ts at (Ok m) →
    Opens t.OpenBracket m ts (at + 1) (Ok m2) → Says n.TypeForm m2 ts ((at + 1) + 1) (Err s) →
    Gives array_type array_of k ts at (Err s)
unfolding primary_of Says SaysChain SaysLinks Gives Takes Passes Opens can_begin is_in apart within
array_3 k ts at m m2 s h1 h2 h3 =
    let w1 = token_here t.Array ts at h1.0 in
    let w2 = token_here t.OpenBracket ts (at + 1) h2.0 in
    stops_as ts ((at + 1) + 1) at s (λ why rest q. u.nest_stop w1.1 w1.2 (inside k m h1.1) (u.seq_first (u.nest_stop w2.1 w2.2 (inside m m2 h2.1) (u.seq_first q)))) h3

pub array_4 : (k : ℕ) (ts : List Token) (at : ℕ) (m : ℕ) (m2 : ℕ) (index : TypeExpr) (next : ℕ) (s : Stop) →
    Opens t.Array k ts at (Ok m) → Opens t.OpenBracket m ts (at + 1) (Ok m2) →
    Says n.TypeForm m2 ts ((at + 1) + 1) (Ok (index, next)) → Passes (one t.CloseBracket) ts next (Err s) →
    Gives array_type array_of k ts at (Err s)
unfolding primary_of Says SaysChain SaysLinks Gives Takes Passes Opens can_begin is_in apart within
array_4 k ts at m m2 index next s h1 h2 h3 h4 =
    let w1 = token_here t.Array ts at h1.0 in
    let w2 = token_here t.OpenBracket ts (at + 1) h2.0 in
    stops_as ts next at s (λ why rest q. u.nest_stop w1.1 w1.2 (inside k m h1.1) (u.seq_first (u.nest_stop w2.1 w2.2 (inside m m2 h2.1) (u.seq_second h3 q)))) (h4 m2)

pub array_5 :
    (k : ℕ) (ts : List Token) (at : ℕ) (m : ℕ) (m2 : ℕ) (index : TypeExpr) (next : ℕ) (behind : ℕ) (s : Stop) →
    Opens t.Array k ts at (Ok m) → Opens t.OpenBracket m ts (at + 1) (Ok m2) →
    Says n.TypeForm m2 ts ((at + 1) + 1) (Ok (index, next)) → Passes (one t.CloseBracket) ts next (Ok behind) →
    Passes (one t.Of) ts behind (Err s) → Gives array_type array_of k ts at (Err s)
unfolding primary_of Says SaysChain SaysLinks Gives Takes Passes Opens can_begin is_in apart within
array_5 k ts at m m2 index next behind s h1 h2 h3 h4 h5 =
    let w1 = token_here t.Array ts at h1.0 in
    let w2 = token_here t.OpenBracket ts (at + 1) h2.0 in
    stops_as ts behind at s (λ why rest q. u.nest_stop w1.1 w1.2 (inside k m h1.1) (u.seq_second (u.nest w2.1 w2.2 (inside m m2 h2.1) (u.seq h3 (h4.1 m2))) (u.seq_first q))) (h5 m)

pub array_6 :
    (k : ℕ) (ts : List Token) (at : ℕ) (m : ℕ) (m2 : ℕ) (index : TypeExpr) (next : ℕ) (behind : ℕ) (last : ℕ) (s : Stop) →
    Opens t.Array k ts at (Ok m) → Opens t.OpenBracket m ts (at + 1) (Ok m2) →
    Says n.TypeForm m2 ts ((at + 1) + 1) (Ok (index, next)) → Passes (one t.CloseBracket) ts next (Ok behind) →
    Passes (one t.Of) ts behind (Ok last) → Says n.TypeForm m ts last (Err s) →
    Gives array_type array_of k ts at (Err s)
unfolding primary_of Says SaysChain SaysLinks Gives Takes Passes Opens can_begin is_in apart within
array_6 k ts at m m2 index next behind last s h1 h2 h3 h4 h5 h6 =
    let w1 = token_here t.Array ts at h1.0 in
    let w2 = token_here t.OpenBracket ts (at + 1) h2.0 in
    stops_as ts last at s (λ why rest q. u.nest_stop w1.1 w1.2 (inside k m h1.1) (u.seq_second (u.nest w2.1 w2.2 (inside m m2 h2.1) (u.seq h3 (h4.1 m2))) (u.seq_second (h5.1 m) q))) h6

pub array_7 :
    (k : ℕ) (ts : List Token) (at : ℕ) (m : ℕ) (m2 : ℕ) (index : TypeExpr) (next : ℕ) (behind : ℕ) (last : ℕ) (item : TypeExpr) (end : ℕ) →
    Opens t.Array k ts at (Ok m) → Opens t.OpenBracket m ts (at + 1) (Ok m2) →
    Says n.TypeForm m2 ts ((at + 1) + 1) (Ok (index, next)) → Passes (one t.CloseBracket) ts next (Ok behind) →
    Passes (one t.Of) ts behind (Ok last) → Says n.TypeForm m ts last (Ok (item, end)) →
    Gives array_type array_of k ts at (Ok (type.Array index item (place_of (drop at ts)), end))
unfolding primary_of Says SaysChain SaysLinks Gives Takes Passes Opens can_begin is_in apart within
array_7 k ts at m m2 index next behind last item end h1 h2 h3 h4 h5 h6 =
    let w1 = token_here t.Array ts at h1.0 in
    let w2 = token_here t.OpenBracket ts (at + 1) h2.0 in
    (_, ap (λ z. (type.Array index item (place_of z))) w1.1, u.nest w1.1 w1.2 (inside k m h1.1) (u.seq (u.nest w2.1 w2.2 (inside m m2 h2.1) (u.seq h3 (h4.1 m2))) (u.seq (h5.1 m) h6)))

pub ruleset array_arms = (array_1, array_2, array_3, array_4, array_5, array_6, array_7, gives_no_memory)

pub field_1 : (k : ℕ) (ts : List Token) (at : ℕ) (s : Stop) → Takes (form n.NameList) itself ts at (Err s) →
    Gives field_form field_of k ts at (Err s)
unfolding primary_of Says SaysChain SaysLinks Gives Takes Passes Opens can_begin is_in apart within
field_1 k ts at s h1 = stops_as ts at at s (λ why rest q. u.seq_first q) (h1 k)

pub field_2 : (k : ℕ) (ts : List Token) (at : ℕ) (xs : List Named) (next : ℕ) (s : Stop) →
    Takes (form n.NameList) itself ts at (Ok (xs, next)) → Passes (one t.Colon) ts next (Err s) →
    Gives field_form field_of k ts at (Err s)
unfolding primary_of Says SaysChain SaysLinks Gives Takes Passes Opens can_begin is_in apart within
field_2 k ts at xs next s h1 h2 = stops_as ts next at s (λ why rest q. u.seq_second (h1.2 k) (u.seq_first q)) (h2 k)

pub field_3 : (k : ℕ) (ts : List Token) (at : ℕ) (xs : List Named) (next : ℕ) (behind : ℕ) (s : Stop) →
    Takes (form n.NameList) itself ts at (Ok (xs, next)) → Passes (one t.Colon) ts next (Ok behind) →
    Says n.TypeForm k ts behind (Err s) → Gives field_form field_of k ts at (Err s)
unfolding primary_of Says SaysChain SaysLinks Gives Takes Passes Opens can_begin is_in apart within
field_3 k ts at xs next behind s h1 h2 h3 =
    stops_as ts behind at s (λ why rest q. u.seq_second (h1.2 k) (u.seq_second (h2.1 k) q)) h3

pub field_4 :
    (k : ℕ) (ts : List Token) (at : ℕ) (xs : List Named) (next : ℕ) (behind : ℕ) (body : TypeExpr) (end : ℕ) →
    Takes (form n.NameList) itself ts at (Ok (xs, next)) → Passes (one t.Colon) ts next (Ok behind) →
    Says n.TypeForm k ts behind (Ok (body, end)) →
    Gives field_form field_of k ts at (Ok (record { names = xs; body = body }, end))
unfolding primary_of Says SaysChain SaysLinks Gives Takes Passes Opens can_begin is_in apart within
field_4 k ts at xs next behind body end h1 h2 h3 =
    (_, ap (λ z. (record { names = z; body = body })) h1.1, u.seq (h1.2 k) (u.seq (h2.1 k) h3))

pub ruleset field_arms = (field_1, field_2, field_3, field_4, gives_no_memory)

pub type_1 : (k : ℕ) (ts : List Token) (at : ℕ) → can_begin (one t.Name) ts at ≡ false →
    can_begin (one t.Boolean) ts at ≡ true →
    Says n.TypeForm k ts at (Ok (type.Truth (place_of (drop at ts)), (at + 1)))
unfolding primary_of Says SaysChain SaysLinks Gives Takes Passes Opens can_begin is_in apart within
type_1 k ts at h1 h2 =
    let w1 = token_here t.Boolean ts at h2 in
    u.call (ap (λ z. (type.Truth (place_of z))) w1.1) (u.right (excluded (one t.Boolean) (one t.Name) ts at h2 refl) (u.left h2 (u.token w1.1 w1.2)))

pub type_2 : (k : ℕ) (ts : List Token) (at : ℕ) (s : Stop) → can_begin (one t.Name) ts at ≡ false →
    can_begin (one t.Boolean) ts at ≡ false → can_begin (cut n.OtherSum) ts at ≡ false →
    can_begin (one t.Enum) ts at ≡ true → Passes (one t.OpenBrace) ts (at + 1) (Err s) →
    Says n.TypeForm k ts at (Err s)
unfolding primary_of Says SaysChain SaysLinks Gives Takes Passes Opens can_begin is_in apart within
type_2 k ts at s h1 h2 h3 h4 h5 =
    let w1 = token_here t.Enum ts at h4 in
    stops_as ts (at + 1) at s (λ why rest q. u.call_stop (u.right_stop (excluded (one t.Enum) (one t.Name) ts at h4 refl) (u.right_stop (excluded (one t.Enum) (one t.Boolean) ts at h4 refl) (u.right_stop (excluded (one t.Enum) (cut n.OtherSum) ts at h4 refl) (u.left_stop h4 (u.seq_second (u.token w1.1 w1.2) (u.seq_first q))))))) (h5 k)

pub type_3 : (k : ℕ) (ts : List Token) (at : ℕ) (behind : ℕ) (s : Stop) → can_begin (one t.Name) ts at ≡ false →
    can_begin (one t.Boolean) ts at ≡ false → can_begin (cut n.OtherSum) ts at ≡ false →
    can_begin (one t.Enum) ts at ≡ true → Passes (one t.OpenBrace) ts (at + 1) (Ok behind) →
    Takes (form n.NameList) itself ts behind (Err s) → Says n.TypeForm k ts at (Err s)
unfolding primary_of Says SaysChain SaysLinks Gives Takes Passes Opens can_begin is_in apart within
type_3 k ts at behind s h1 h2 h3 h4 h5 h6 =
    let w1 = token_here t.Enum ts at h4 in
    stops_as ts behind at s (λ why rest q. u.call_stop (u.right_stop (excluded (one t.Enum) (one t.Name) ts at h4 refl) (u.right_stop (excluded (one t.Enum) (one t.Boolean) ts at h4 refl) (u.right_stop (excluded (one t.Enum) (cut n.OtherSum) ts at h4 refl) (u.left_stop h4 (u.seq_second (u.token w1.1 w1.2) (u.seq_second (h5.1 k) (u.seq_first q)))))))) (h6 k)

pub type_4 : (k : ℕ) (ts : List Token) (at : ℕ) (behind : ℕ) (xs : List Named) (last : ℕ) (s : Stop) →
    can_begin (one t.Name) ts at ≡ false → can_begin (one t.Boolean) ts at ≡ false →
    can_begin (cut n.OtherSum) ts at ≡ false → can_begin (one t.Enum) ts at ≡ true →
    Passes (one t.OpenBrace) ts (at + 1) (Ok behind) → Takes (form n.NameList) itself ts behind (Ok (xs, last)) →
    Passes (one t.CloseBrace) ts last (Err s) → Says n.TypeForm k ts at (Err s)
unfolding primary_of Says SaysChain SaysLinks Gives Takes Passes Opens can_begin is_in apart within
type_4 k ts at behind xs last s h1 h2 h3 h4 h5 h6 h7 =
    let w1 = token_here t.Enum ts at h4 in
    stops_as ts last at s (λ why rest q. u.call_stop (u.right_stop (excluded (one t.Enum) (one t.Name) ts at h4 refl) (u.right_stop (excluded (one t.Enum) (one t.Boolean) ts at h4 refl) (u.right_stop (excluded (one t.Enum) (cut n.OtherSum) ts at h4 refl) (u.left_stop h4 (u.seq_second (u.token w1.1 w1.2) (u.seq_second (h5.1 k) (u.seq_second (h6.2 k) q)))))))) (h7 k)

pub type_5 : (k : ℕ) (ts : List Token) (at : ℕ) (behind : ℕ) (xs : List Named) (last : ℕ) (end : ℕ) →
    can_begin (one t.Name) ts at ≡ false → can_begin (one t.Boolean) ts at ≡ false →
    can_begin (cut n.OtherSum) ts at ≡ false → can_begin (one t.Enum) ts at ≡ true →
    Passes (one t.OpenBrace) ts (at + 1) (Ok behind) → Takes (form n.NameList) itself ts behind (Ok (xs, last)) →
    Passes (one t.CloseBrace) ts last (Ok end) →
    Says n.TypeForm k ts at (Ok (type.Listed xs (place_of (drop at ts)), end))
unfolding primary_of Says SaysChain SaysLinks Gives Takes Passes Opens can_begin is_in apart within
type_5 k ts at behind xs last end h1 h2 h3 h4 h5 h6 h7 =
    let w1 = token_here t.Enum ts at h4 in
    u.call (ap (λ z. (type.Listed xs (place_of z))) w1.1 ∙ ap (λ z. (type.Listed z (w1.0).at)) h6.1) (u.right (excluded (one t.Enum) (one t.Name) ts at h4 refl) (u.right (excluded (one t.Enum) (one t.Boolean) ts at h4 refl) (u.right (excluded (one t.Enum) (cut n.OtherSum) ts at h4 refl) (u.left h4 (u.seq (u.token w1.1 w1.2) (u.seq (h5.1 k) (u.seq (h6.2 k) (h7.1 k))))))))

pub type_6 : (k : ℕ) (ts : List Token) (at : ℕ) (r : Result (TypeExpr × ℕ) Stop) →
    can_begin (one t.Name) ts at ≡ false → can_begin (one t.Boolean) ts at ≡ false →
    can_begin (cut n.OtherSum) ts at ≡ false → can_begin (one t.Enum) ts at ≡ false →
    Gives other_type other_type_of k ts at r → Says n.TypeForm k ts at r
unfolding primary_of Says SaysChain SaysLinks Gives Takes Passes Opens can_begin is_in apart within
type_6 k ts at (Ok (x, next)) h1 h2 h3 h4 h5 = u.call h5.1 (u.right h1 (u.right h2 (u.right h3 (u.right h4 h5.2))))
type_6 k ts at (Err s) h1 h2 h3 h4 h5 =
    stops_as ts at at s (λ why rest q. u.call_stop (u.right_stop h1 (u.right_stop h2 (u.right_stop h3 (u.right_stop h4 q))))) h5

pub ruleset type_arms = (
  type_1,
  type_2,
  type_3,
  type_4,
  type_5,
  type_6,
  no_memory,
  type_range_first,
  type_range_rest,
  type_range,
)
