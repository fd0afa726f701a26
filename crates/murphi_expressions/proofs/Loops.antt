-- One lemma for each way through the loops of the readers, and through what they read that the grammar cuts
-- otherwise.
use Rattle.std.proofs.Common.{inl, inr, ◌≡◌, ℕ, ◌+◌, true, false, List, [], ◌∷◌, ◌++◌, drop, Ok, Err, Result, refl, sym, ap, ◌∙◌, subst, append-nil}
use Rattle.grammar_core.specs.Forms.{TreeOf}
use Rattle.grammar_core.specs.Spelling.{Limit}
use Rattle.grammar_core.specs.Reading as read
use Rattle.grammar_core.specs.Reading.{Fault, Got}
use Rattle.grammar_core.specs.Test.{is_in, apart, within}
use Rattle.grammar_core.specs.Walk as u
use Rattle.grammar_core.specs.Walk.{Run}
use Rattle.murphi_ast.specs.declared.token.Token.{Token}
use Rattle.murphi_ast.specs.declared.expr.Selector.{Selector}
use Rattle.murphi_ast.specs.declared.expr.FieldDecl.{FieldDecl}
use Rattle.murphi_ast.specs.declared.expr.TypeExpr.{TypeExpr}
use Rattle.murphi_ast.specs.declared.expr.Expr.{Expr}
use Rattle.murphi_grammar.specs.declared.symbol.Symbol.TheVariants as t
use Rattle.murphi_grammar.specs.Names as n
use Rattle.murphi_grammar.specs.Parts.{◌▸◌, one, form, optional}
use Rattle.murphi_grammar.specs.Pieces.{cut, name_primary, piece_build}
use Rattle.murphi_grammar.specs.Values.{Value, NameTail, named, chained}
use Rattle.murphi_grammar.specs.Tables.{tables}
use Rattle.murphi_expressions.specs.Says.{with_front, Says, Gives, SoFar, can_begin, itself}
use Rattle.murphi_expressions.specs.Parts.{primary_of, range_rest, range_of, field_form, field_of, ArgsSoFar, SelectorsSoFar, FieldsSoFar}
use Rattle.murphi_expressions.specs.declared.step.Stop.{Stop}
use Rattle.murphi_expressions.proofs.Heads.{token_here}
use Rattle.murphi_expressions.proofs.Ways.{with_none, one_behind, nothing_yet, read_more, read_all, read_stops, renamed, said, stops_as, inside, included, excluded, shrunk, no_memory, gives_no_memory}

-- a primary that begins with a name
pub primary_named : (x : Token) (rest : NameTail) → primary_of (named x) rest ≡ name_primary x rest
unfolding primary_of
primary_named x (inl args) = refl
primary_named x (inr sels) = refl

-- a unary that begins with no name
other_as_unary : {k : ℕ} (ts : List Token) (at : ℕ) {x : Expr} {rest : List Token} → can_begin (one t.Name) ts at ≡ false →
    Run tables (Limit k) (cut n.OtherUnary) (drop at ts) (Got x rest) → Run tables (Limit k) (form n.Unary) (drop at ts) (Got x rest)
unfolding can_begin
other_as_unary ts at h (u.call e (u.left g p)) = u.call e (u.left g p)
other_as_unary ts at h (u.call e (u.right g p)) = u.call e (u.right g (u.call refl (u.right h p)))

other_stops_unary : {k : ℕ} (ts : List Token) (at : ℕ) {why : Fault} {rest : List Token} → can_begin (one t.Name) ts at ≡ false →
    Run tables (Limit k) (cut n.OtherUnary) (drop at ts) (read.Stop why rest) → Run tables (Limit k) (form n.Unary) (drop at ts) (read.Stop why rest)
unfolding can_begin
other_stops_unary ts at h (u.call_stop (u.left_stop g p)) = u.call_stop (u.left_stop g p)
other_stops_unary ts at h (u.call_stop (u.right_stop g p)) = u.call_stop (u.right_stop g (u.call_stop (u.right_stop h p)))

pub unary_other : (k : ℕ) (ts : List Token) (at : ℕ) (r : Result (Expr × ℕ) Stop) → can_begin (one t.Name) ts at ≡ false →
    Says (n.Cut n.OtherUnary) k ts at r → Says n.Unary k ts at r
unfolding Says
unary_other k ts at (Ok (x, next)) h p = other_as_unary ts at h p
unary_other k ts at (Err s) h p = stops_as ts at at s (λ why rest q. other_stops_unary ts at h q) p

-- arguments
pub args_first_stops : (k : ℕ) (ts : List Token) (at : ℕ) (s : Stop) → Says n.Expr k ts at (Err s) → Says n.Args k ts at (Err s)
unfolding Says
args_first_stops k ts at s p = stops_as ts at at s (λ why rest q. u.call_stop (u.seq_first q)) p

pub args_first : (k : ℕ) (ts : List Token) (at : ℕ) (x : Expr) (next : ℕ) → Says n.Expr k ts at (Ok (x, next)) →
    ArgsSoFar k ts at next (x ∷ [])
unfolding ArgsSoFar SoFar Says Gives
args_first k ts at x next p (Ok (xs, end)) (parts, d, q) = (_, ap (λ z. x ∷ z) d, u.call refl (u.seq p (u.call refl q)))
args_first k ts at x next p (Err s) q = stops_as ts next at s (λ why rest z. u.call_stop (u.seq_second p (u.call_stop z))) q

pub args_more : (k : ℕ) (ts : List Token) (from at : ℕ) (front : List Expr) (x : Expr) (next : ℕ) → ArgsSoFar k ts from at front →
    can_begin (one t.Comma) ts at ≡ true → Says n.Expr k ts (at + 1) (Ok (x, next)) → ArgsSoFar k ts from next (front ++ x ∷ [])
unfolding ArgsSoFar Says
args_more k ts from at front x next so h p =
    let w = token_here t.Comma ts at h in
    read_more (one t.Comma ▸ form n.Expr) (piece_build n.MoreArgs) (form n.Args) itself k ts from at next front (x ∷ []) (w.0, x) so (λ xs. refl) (u.seq (u.token w.1 w.2) p)

pub args_done : (k : ℕ) (ts : List Token) (from at : ℕ) (front : List Expr) → ArgsSoFar k ts from at front →
    can_begin (one t.Comma) ts at ≡ false → Says n.Args k ts from (Ok (front, at))
unfolding ArgsSoFar can_begin
args_done k ts from at front so h =
    said n.Args k ts from (Ok (front, at)) (read_all (one t.Comma ▸ form n.Expr) (piece_build n.MoreArgs) (form n.Args) itself k ts from at front so refl h)

pub args_stop : (k : ℕ) (ts : List Token) (from at : ℕ) (front : List Expr) (s : Stop) → ArgsSoFar k ts from at front →
    can_begin (one t.Comma) ts at ≡ true → Says n.Expr k ts (at + 1) (Err s) → Says n.Args k ts from (Err s)
unfolding ArgsSoFar Says Gives can_begin
args_stop k ts from at front s so h p =
    let w = token_here t.Comma ts at h in
    read_stops (one t.Comma ▸ form n.Expr) (form n.Expr) (piece_build n.MoreArgs) (form n.Args) itself k k ts from at (at + 1) front s so h
    (λ why rest q. u.seq_second (u.token w.1 w.2) q) p

pub ruleset args_arms = (args_first_stops, args_first, args_more, args_done, args_stop, no_memory)

-- fields and indices
pub selectors_none : (k : ℕ) (ts : List Token) (at : ℕ) → SelectorsSoFar k ts at at []
unfolding SelectorsSoFar SoFar
selectors_none k ts at = λ r p. subst (λ z. Gives (cut n.Selectors) itself k ts at z) (sym (with_none r)) (renamed (n.Cut n.Selectors) k ts at r p)

pub selectors_more : (k : ℕ) (ts : List Token) (from at : ℕ) (front : List Selector) (x : Selector) (next : ℕ) → SelectorsSoFar k ts from at front →
    Says (n.Cut n.OneSelector) k ts at (Ok (x, next)) → SelectorsSoFar k ts from next (front ++ x ∷ [])
unfolding SelectorsSoFar Says
selectors_more k ts from at front x next so p =
    read_more (cut n.OneSelector) (piece_build n.Selectors) (cut n.Selectors) itself k ts from at next front (x ∷ []) x so (λ xs. refl) p

pub selectors_done : (k : ℕ) (ts : List Token) (from at : ℕ) (front : List Selector) → SelectorsSoFar k ts from at front →
    can_begin (cut n.OneSelector) ts at ≡ false → Says (n.Cut n.Selectors) k ts from (Ok (front, at))
unfolding SelectorsSoFar
selectors_done k ts from at front so h =
    said (n.Cut n.Selectors) k ts from (Ok (front, at)) (read_all (cut n.OneSelector) (piece_build n.Selectors) (cut n.Selectors) itself k ts from at front so refl h)

pub selectors_stop : (k : ℕ) (ts : List Token) (from at : ℕ) (front : List Selector) (s : Stop) → SelectorsSoFar k ts from at front →
    can_begin (cut n.OneSelector) ts at ≡ true → Says (n.Cut n.OneSelector) k ts at (Err s) → Says (n.Cut n.Selectors) k ts from (Err s)
unfolding SelectorsSoFar Says Gives
selectors_stop k ts from at front s so h p =
    read_stops (cut n.OneSelector) (cut n.OneSelector) (piece_build n.Selectors) (cut n.Selectors) itself k k ts from at at front s so h (λ why rest q. q) p

pub ruleset selectors_arms = (selectors_none, selectors_more, selectors_done, selectors_stop, no_memory)

-- the fields of a record
field_then : {k : ℕ} {all mid rest : List Token} {x : TreeOf Token Value field_form} {y : TreeOf Token Value (optional (one t.Semicolon ▸ form n.Fields))} →
    Run tables (Limit k) field_form all (Got x mid) → Run tables (Limit k) (optional (one t.Semicolon ▸ form n.Fields)) mid (Got y rest) →
    Run tables (Limit k) (form n.NameList ▸ one t.Colon ▸ form n.TypeForm ▸ optional (one t.Semicolon ▸ form n.Fields)) all (Got (x.0, (x.1.0, (x.1.1, y))) rest)
field_then (u.seq p (u.seq q r)) z = u.seq p (u.seq q (u.seq r z))

field_then_stop : {k : ℕ} {all mid rest : List Token} {why : Fault} {x : TreeOf Token Value field_form} →
    Run tables (Limit k) field_form all (Got x mid) → Run tables (Limit k) (optional (one t.Semicolon ▸ form n.Fields)) mid (read.Stop why rest) →
    Run tables (Limit k) (form n.NameList ▸ one t.Colon ▸ form n.TypeForm ▸ optional (one t.Semicolon ▸ form n.Fields)) all (read.Stop why rest)
field_then_stop (u.seq p (u.seq q r)) z = u.seq_second p (u.seq_second q (u.seq_second r z))

field_stop : {k : ℕ} {all rest : List Token} {why : Fault} → Run tables (Limit k) field_form all (read.Stop why rest) →
    Run tables (Limit k) (form n.NameList ▸ one t.Colon ▸ form n.TypeForm ▸ optional (one t.Semicolon ▸ form n.Fields)) all (read.Stop why rest)
field_stop (u.seq_first p) = u.seq_first p
field_stop (u.seq_second p (u.seq_first q)) = u.seq_second p (u.seq_first q)
field_stop (u.seq_second p (u.seq_second q r)) = u.seq_second p (u.seq_second q (u.seq_first r))

pub fields_none : (k : ℕ) (ts : List Token) (at : ℕ) → FieldsSoFar k ts at at []
unfolding FieldsSoFar
fields_none k ts at = nothing_yet (form n.Fields) itself k ts at

one_field : (k : ℕ) (ts : List Token) (at : ℕ) (x : FieldDecl) (next : ℕ) → can_begin (one t.Name) ts at ≡ true → Gives field_form field_of k ts at (Ok (x, next)) →
    can_begin (one t.Semicolon) ts next ≡ true → (r : Result (List FieldDecl × ℕ) Stop) → Gives (form n.Fields) itself k ts (next + 1) r →
    Gives (form n.Fields) itself k ts at (with_front (x ∷ []) r)
unfolding Gives can_begin
one_field k ts at x next h (parts, e, p) g (Ok (xs, end)) (v, d, q) =
    let w = token_here t.Semicolon ts next g in
    (_, ap (λ z. z ∷ xs) e ∙ ap (λ z. field_of parts ∷ z) d, u.call refl (u.left h (field_then p (u.left g (u.seq (u.token w.1 w.2) q)))))
one_field k ts at x next h (parts, e, p) g (Err s) q =
    let w = token_here t.Semicolon ts next g in
    stops_as ts (next + 1) at s (λ why rest z. u.call_stop (u.left_stop h (field_then_stop p (u.left_stop g (u.seq_second (u.token w.1 w.2) z))))) q

pub fields_more : (k : ℕ) (ts : List Token) (from at : ℕ) (front : List FieldDecl) (x : FieldDecl) (next : ℕ) → FieldsSoFar k ts from at front →
    can_begin (one t.Name) ts at ≡ true → Gives field_form field_of k ts at (Ok (x, next)) → can_begin (one t.Semicolon) ts next ≡ true →
    FieldsSoFar k ts from (next + 1) (front ++ x ∷ [])
unfolding FieldsSoFar SoFar
fields_more k ts from at front x next so h p g r q = one_behind (form n.Fields) itself (form n.Fields) itself k ts from at (next + 1) front (x ∷ []) so r (one_field k ts at x next h p g r q)

pub fields_last : (k : ℕ) (ts : List Token) (from at : ℕ) (front : List FieldDecl) (x : FieldDecl) (next : ℕ) → FieldsSoFar k ts from at front →
    can_begin (one t.Name) ts at ≡ true → Gives field_form field_of k ts at (Ok (x, next)) → can_begin (one t.Semicolon) ts next ≡ false →
    Says n.Fields k ts from (Ok (front ++ x ∷ [], next))
unfolding FieldsSoFar SoFar Gives can_begin
fields_last k ts from at front x next so h (parts, e, p) g =
    said n.Fields k ts from (Ok (front ++ x ∷ [], next)) (so (Ok (x ∷ [], next)) (_, ap (λ z. z ∷ []) e, u.call refl (u.left h (field_then p (u.right g u.empty)))))

pub fields_done : (k : ℕ) (ts : List Token) (from at : ℕ) (front : List FieldDecl) → FieldsSoFar k ts from at front →
    can_begin (one t.Name) ts at ≡ false → Says n.Fields k ts from (Ok (front, at))
unfolding FieldsSoFar SoFar Gives can_begin
fields_done k ts from at front so h =
    said n.Fields k ts from (Ok (front, at)) (subst (λ z. Gives (form n.Fields) itself k ts from (Ok (z, at))) (append-nil front) (so (Ok ([], at)) (_, refl, u.call refl (u.right h u.empty))))

pub fields_stop : (k : ℕ) (ts : List Token) (from at : ℕ) (front : List FieldDecl) (s : Stop) → FieldsSoFar k ts from at front →
    can_begin (one t.Name) ts at ≡ true → Gives field_form field_of k ts at (Err s) → Says n.Fields k ts from (Err s)
unfolding FieldsSoFar SoFar Gives Says can_begin
fields_stop k ts from at front s so h p = so (Err s) (stops_as ts at at s (λ why rest q. u.call_stop (u.left_stop h (field_stop q))) p)

pub ruleset fields_arms = (fields_none, fields_more, fields_last, fields_done, fields_stop, no_memory)

-- a range that begins with no name
range_then : {k : ℕ} {all mid rest : List Token} {x : Expr} {y : TreeOf Token Value range_rest} → Run tables (Limit k) (cut n.OtherUnary) all (Got x mid) →
    Run tables (Limit k) range_rest mid (Got y rest) →
    Run tables (Limit k) (cut n.OtherSum ▸ one t.DotDot ▸ form n.Sum) all (Got (chained (chained x y.0) y.1.0, y.1.1) rest)
range_then p (u.seq q (u.seq r z)) = u.seq (u.call refl (u.seq (u.call refl (u.seq p q)) r)) z

range_then_stop : {k : ℕ} {all mid rest : List Token} {why : Fault} {x : Expr} → Run tables (Limit k) (cut n.OtherUnary) all (Got x mid) →
    Run tables (Limit k) range_rest mid (read.Stop why rest) → Run tables (Limit k) (cut n.OtherSum ▸ one t.DotDot ▸ form n.Sum) all (read.Stop why rest)
range_then_stop p (u.seq_first q) = u.seq_first (u.call_stop (u.seq_first (u.call_stop (u.seq_second p q))))
range_then_stop p (u.seq_second q (u.seq_first r)) = u.seq_first (u.call_stop (u.seq_second (u.call refl (u.seq p q)) r))
range_then_stop p (u.seq_second q (u.seq_second r z)) = u.seq_second (u.call refl (u.seq (u.call refl (u.seq p q)) r)) z

pub type_range_first : (k : ℕ) (ts : List Token) (at : ℕ) (s : Stop) → can_begin (cut n.OtherSum) ts at ≡ true →
    Says (n.Cut n.OtherUnary) k ts at (Err s) → Says n.TypeForm k ts at (Err s)
unfolding Says can_begin is_in apart within
type_range_first k ts at s h p =
    stops_as ts at at s (λ why rest q. u.call_stop (u.right_stop (excluded (cut n.OtherSum) (one t.Name) ts at h refl) (u.right_stop (excluded (cut n.OtherSum) (one t.Boolean) ts at h refl)
    (u.left_stop h (u.seq_first (u.call_stop (u.seq_first (u.call_stop (u.seq_first q))))))))) p

pub type_range_rest : (k : ℕ) (ts : List Token) (at : ℕ) (x : Expr) (next : ℕ) (s : Stop) → can_begin (cut n.OtherSum) ts at ≡ true →
    Says (n.Cut n.OtherUnary) k ts at (Ok (x, next)) → Gives range_rest (range_of x) k ts next (Err s) → Says n.TypeForm k ts at (Err s)
unfolding Says Gives can_begin is_in apart within
type_range_rest k ts at x next s h p r =
    stops_as ts next at s (λ why rest q. u.call_stop (u.right_stop (excluded (cut n.OtherSum) (one t.Name) ts at h refl) (u.right_stop (excluded (cut n.OtherSum) (one t.Boolean) ts at h refl)
    (u.left_stop h (range_then_stop p q))))) r

pub type_range : (k : ℕ) (ts : List Token) (at : ℕ) (x : Expr) (next : ℕ) (y : TypeExpr) (end : ℕ) → can_begin (cut n.OtherSum) ts at ≡ true →
    Says (n.Cut n.OtherUnary) k ts at (Ok (x, next)) → Gives range_rest (range_of x) k ts next (Ok (y, end)) → Says n.TypeForm k ts at (Ok (y, end))
unfolding Says Gives can_begin is_in apart within
type_range k ts at x next y end h p (parts, e, q) =
    u.call e (u.right (excluded (cut n.OtherSum) (one t.Name) ts at h refl) (u.right (excluded (cut n.OtherSum) (one t.Boolean) ts at h refl) (u.left h (range_then p q))))
