-- What is asked of a tree is so of every tree that tokens spell.
use Rattle.std.proofs.Common.{◌≡◌, Bool, true, false, ◌&&◌, List, [], ◌∷◌, ◌++◌, map, None, Some, refl, sym, ap, subst, ◌∙◌, inl, inr}
use Rattle.std.specs.Prelude.{◌⊎◌}
use Rattle.std.specs.List.{list_all}
use Rattle.std.proofs.lemmas.Bool.{and_parts, and_from}
use Rattle.grammar_core.specs.Forms.{One, Empty, Seq, Choice, Many, Nest, Call, TreeOf}
use Rattle.grammar_core.specs.Spelling.{Room, Spells}
use Rattle.grammar_core.specs.Spelling as spelling
use Rattle.murphi_ast.specs.declared.token.Token.{Token}
use Rattle.murphi_ast.specs.declared.expr.ChainOp.TheVariants as chain
use Rattle.murphi_ast.specs.declared.expr.Link.{Link}
use Rattle.murphi_ast.specs.declared.expr.Bind.{Bind}
use Rattle.murphi_ast.specs.declared.expr.Expr.{Expr}
use Rattle.murphi_ast.specs.declared.decl.Decl.{Decl}
use Rattle.murphi_ast.specs.declared.decl.Formal.{Formal}
use Rattle.murphi_typed.specs.declared.types.Simple.{Simple}
use Rattle.murphi_typed.specs.declared.types.Simple.TheVariants as simple
use Rattle.murphi_typed.specs.WellTyped.{numbers, same_simple, operand_type}
use Rattle.murphi_grammar.specs.Names.{Name}
use Rattle.murphi_grammar.specs.Names as n
use Rattle.murphi_grammar.specs.Parts.{Part, ◌▸◌, ◌∥◌, one, form, many, optional, nest, in_parentheses}
use Rattle.murphi_grammar.specs.declared.symbol.Symbol.TheVariants as t
use Rattle.murphi_grammar.specs.Values.{Value, seconds, present, joined, declared, constant, type_name, variables, field, arm, case_of, otherwise, arguments, formals, selector_of, compare_of, title, named, link, sum_sign, product_sign, sum_link, product_link, chained}
use Rattle.murphi_grammar.specs.Grammar.{rule, build, murphi}
use Rattle.typing_sound.specs.Spelled.{has_one, is_spelled, type_spelled, selector_spelled, place_spelled, stmt_spelled, simple_spelled, formal_spelled, decl_spelled, bind_spelled, item_spelled, text_spelled}
use Rattle.typing_sound.specs.Sound.{is_small, TreesAreSpelled, ExpressionsAreSpelled}
use Rattle.typing_sound.proofs.Fits.{Each}
use Rattle.typing_sound.proofs.Tests.{simples-true}
use Rattle.typing_sound.proofs.SpelledEquations.{list_links, field_spelled, arm_spelled, case_spelled, so-Number, so-Truth, so-Place, so-IsUndefined, so-Call, so-Not, so-Minus, so-Chain, so-Compare, so-Implies, so-Choice, so-Quantified, so-Known, so-Boolean, so-Range, so-Listed, so-Scalarset, so-Fields, so-Array, so-Assign, so-Procedure, so-If, so-Switch, so-For, so-Clear, so-Undefine, so-Error, so-Assert, so-Put, so-Return, so-Routine, so-Rule, so-Start, so-Invariant, so-Group}

-- What is asked of what each named form gives; nothing is asked of pieces, which the grammar as it is written calls nowhere

abbrev DeclSo : Decl → Type 0
DeclSo d = (simple_spelled d ≡ true) × (decl_spelled d ≡ true)

abbrev ValueSo : (name : Name) → Value name → Type 0
ValueSo n.Protocol p = text_spelled p ≡ true
ValueSo n.Declare ds = Each DeclSo ds
ValueSo n.NameList xs = has_one xs ≡ true
ValueSo n.Routine d = decl_spelled d ≡ true
ValueSo n.Formals fs = list_all formal_spelled fs ≡ true
ValueSo n.Formal f = formal_spelled f ≡ true
ValueSo n.Body (ds, ss) = (list_all simple_spelled ds ≡ true) × (list_all stmt_spelled ss ≡ true)
ValueSo n.TypeForm t = type_spelled t ≡ true
ValueSo n.Fields fs = list_all field_spelled fs ≡ true
ValueSo n.Items is = list_all item_spelled is ≡ true
ValueSo n.Item i = item_spelled i ≡ true
ValueSo n.Bind b = bind_spelled b ≡ true
ValueSo n.Stmts ss = list_all stmt_spelled ss ≡ true
ValueSo n.Stmt s = stmt_spelled s ≡ true
ValueSo n.Args es = list_all is_spelled es ≡ true
ValueSo n.Expr x = is_spelled x ≡ true
ValueSo n.Implies x = is_spelled x ≡ true
ValueSo n.Or x = is_spelled x ≡ true
ValueSo n.And x = is_spelled x ≡ true
ValueSo n.Not x = is_spelled x ≡ true
ValueSo n.Compare x = is_spelled x ≡ true
ValueSo n.Sum x = is_spelled x ≡ true
ValueSo n.Product x = is_spelled x ≡ true
ValueSo n.Unary x = is_spelled x ≡ true
ValueSo n.Primary x = is_spelled x ≡ true
ValueSo n.Place p = place_spelled p ≡ true
ValueSo n.LemmaItem l = is_spelled l.body ≡ true
ValueSo n.FlowItem f = Unit {0}
ValueSo (n.Cut p) v = Unit {0}

-- and of what any form reads to
abbrev TreeSo : (f : Part) → TreeOf Token Value f → Type 0
TreeSo (One s) x = is_small x ≡ true
TreeSo Empty _ = Unit {0}
TreeSo (Seq a b) (x, y) = TreeSo a x × TreeSo b y
TreeSo (Choice a b) (inl x) = TreeSo a x
TreeSo (Choice a b) (inr y) = TreeSo b y
TreeSo (Many a) xs = Each (TreeSo a) xs
TreeSo (Nest s a) (x, y) = (is_small x ≡ true) × TreeSo a y
TreeSo (Call name) v = ValueSo name v

-- Lists

all-more : {A : Type 0} (p : A → Bool) (xs ys : List A) → list_all p xs ≡ true → list_all p ys ≡ true → list_all p (xs ++ ys) ≡ true
all-more p [] ys u v = v
all-more p (x ∷ xs) ys u v = let (first, rest) = and_parts (p x) (list_all p xs) u in and_from _ _ first (all-more p xs ys rest v)

seconds-all : {A B : Type 0} (p : B → Bool) (Q : A × B → Type 0) → ((x : A × B) → Q x → p x.1 ≡ true) → (xs : List (A × B)) → Each Q xs → list_all p (seconds xs) ≡ true
seconds-all p Q f [] u = refl
seconds-all p Q f ((a, b) ∷ xs) u = and_from _ _ (f (a, b) u.0) (seconds-all p Q f xs u.1)

map-all : {A B : Type 0} (p : B → Bool) (Q : A → Type 0) (g : A → B) → ((x : A) → Q x → p (g x) ≡ true) → (xs : List A) → Each Q xs → list_all p (map g xs) ≡ true
map-all p Q g f [] u = refl
map-all p Q g f (x ∷ xs) u = and_from _ _ (f x u.0) (map-all p Q g f xs u.1)

each-map-to : {A B : Type 0} (P : B → Type 0) (Q : A → Type 0) (g : A → B) → ((x : A) → Q x → P (g x)) → (xs : List A) → Each Q xs → Each P (map g xs)
each-map-to P Q g f [] u = tt
each-map-to P Q g f (x ∷ xs) u = (f x u.0, each-map-to P Q g f xs u.1)

simple-all : (ds : List Decl) → Each DeclSo ds → list_all simple_spelled ds ≡ true
simple-all [] u = refl
simple-all (d ∷ ds) u = and_from _ _ u.0.0 (simple-all ds u.1)

decl-all : (ds : List Decl) → Each DeclSo ds → list_all decl_spelled ds ≡ true
decl-all [] u = refl
decl-all (d ∷ ds) u = and_from _ _ u.0.1 (decl-all ds u.1)

joined-all : (dss : List (List Decl)) → Each (Each DeclSo) dss → list_all simple_spelled (joined dss) ≡ true
joined-all [] u = refl
joined-all (ds ∷ dss) u = all-more simple_spelled ds (joined dss) (simple-all ds u.0) (joined-all dss u.1)

-- Chains

chained-so : (first : Expr) (ls : List Link) (type : Simple) → is_spelled first ≡ true → list_links type ls ≡ true → is_spelled (chained first ls) ≡ true
chained-so first [] type one all = one
chained-so first (l ∷ ls) type one all =
    let (level, rest) = and_parts (same_simple (operand_type l.op) type) (is_spelled l.operand && list_links type ls) all in
    let same : operand_type l.op ≡ type = simples-true (operand_type l.op) type level in
    so-Chain first (l ∷ ls) ∙ and_from _ _ one (ap (λ u. list_links u (l ∷ ls)) same ∙ all)

links-so : {A : Type 0} (Q : A → Type 0) (g : A → Link) (type : Simple) → ((x : A) → Q x → (same_simple (operand_type (g x).op) type ≡ true) × (is_spelled (g x).operand ≡ true)) → (xs : List A) → Each Q xs → list_links type (map g xs) ≡ true
links-so Q g type f [] u = refl
links-so Q g type f (x ∷ xs) u = let (level, one) = f x u.0 in and_from _ _ level (and_from _ _ one (links-so Q g type f xs u.1))

sum-numbers : (s : Token ⊎ Token) → same_simple (operand_type (sum_sign s)) numbers ≡ true
sum-numbers (inl x) = refl
sum-numbers (inr x) = refl

product-numbers : (s : Token ⊎ (Token ⊎ Token)) → same_simple (operand_type (product_sign s)) numbers ≡ true
product-numbers (inl x) = refl
product-numbers (inr (inl x)) = refl
product-numbers (inr (inr x)) = refl

-- Parts

abbrev constant-part : Part
constant-part = one t.Name ▸ one t.Colon ▸ form n.Expr ▸ one t.Semicolon

abbrev type-part : Part
type-part = one t.Name ▸ one t.Colon ▸ form n.TypeForm ▸ one t.Semicolon

abbrev variables-part : Part
variables-part = form n.NameList ▸ one t.Colon ▸ form n.TypeForm ▸ one t.Semicolon

abbrev field-part : Part
field-part = one t.Semicolon ▸ form n.NameList ▸ one t.Colon ▸ form n.TypeForm

abbrev more-item : Part
more-item = one t.Semicolon ▸ optional (form n.Item)

abbrev more-stmt : Part
more-stmt = one t.Semicolon ▸ optional (form n.Stmt)

abbrev arm-part : Part
arm-part = one t.Elsif ▸ form n.Expr ▸ one t.Then ▸ form n.Stmts

abbrev case-part : Part
case-part = one t.Case ▸ form n.Implies ▸ many (one t.Comma ▸ form n.Implies) ▸ one t.Colon ▸ form n.Stmts

abbrev selector-part : Part
selector-part = one t.Dot ▸ one t.Name ∥ nest t.OpenBracket (form n.Expr ▸ one t.CloseBracket)

constant-so : (x : TreeOf Token Value constant-part) → TreeSo constant-part x → DeclSo (constant x)
constant-so (x, (c, (body, s))) u = (u.1.1.0, u.1.1.0)

type-so : (x : TreeOf Token Value type-part) → TreeSo type-part x → DeclSo (type_name x)
type-so (x, (c, (body, s))) u = (u.1.1.0, u.1.1.0)

variables-so : (x : TreeOf Token Value variables-part) → TreeSo variables-part x → DeclSo (variables x)
variables-so (xs, (c, (body, s))) u = (u.1.1.0, u.1.1.0)

field-so : (x : TreeOf Token Value field-part) → TreeSo field-part x → field_spelled (field x) ≡ true
field-so (s, (xs, (c, body))) u = u.1.1.1

arm-so : (x : TreeOf Token Value arm-part) → TreeSo arm-part x → arm_spelled (arm x) ≡ true
arm-so (x, (test, (c, body))) u = and_from _ _ u.1.0 u.1.1.1

labels-so : (x : Token × Expr) → TreeSo (one t.Comma ▸ form n.Implies) x → is_spelled x.1 ≡ true
labels-so (c, x) u = u.1

case-so : (x : TreeOf Token Value case-part) → TreeSo case-part x → case_spelled (case_of x) ≡ true
case-so (c, (x, (xs, (d, body)))) u = and_from _ _ (and_from _ _ u.1.0 (seconds-all is_spelled (TreeSo (one t.Comma ▸ form n.Implies)) labels-so xs u.1.1.0)) u.1.1.1.1

args-so : (x : Token × Expr) → TreeSo (one t.Comma ▸ form n.Expr) x → is_spelled x.1 ≡ true
args-so (c, x) u = u.1

formal-so : (x : Token × Formal) → TreeSo (one t.Semicolon ▸ form n.Formal) x → formal_spelled x.1 ≡ true
formal-so (c, x) u = u.1

bind-so : (x : Token × Bind) → TreeSo (one t.Semicolon ▸ form n.Bind) x → bind_spelled x.1 ≡ true
bind-so (c, x) u = u.1

selector-so : (x : TreeOf Token Value selector-part) → TreeSo selector-part x → selector_spelled (selector_of x) ≡ true
selector-so (inl (d, x)) u = refl
selector-so (inr (o, (x, c))) u = u.1.0

formals-so : (x : TreeOf Token Value (in_parentheses (optional (form n.Formals)))) → TreeSo (in_parentheses (optional (form n.Formals))) x → list_all formal_spelled (formals x) ≡ true
formals-so (o, (inl all, c)) u = u.1.0
formals-so (o, (inr none, c)) u = refl

arguments-so : (x : TreeOf Token Value (in_parentheses (optional (form n.Args)))) → TreeSo (in_parentheses (optional (form n.Args))) x → list_all is_spelled (arguments x) ≡ true
arguments-so (o, (inl all, c)) u = u.1.0
arguments-so (o, (inr none, c)) u = refl

otherwise-so : (x : TreeOf Token Value (optional (one t.Else ▸ form n.Stmts))) → TreeSo (optional (one t.Else ▸ form n.Stmts)) x → list_all stmt_spelled (otherwise x) ≡ true
otherwise-so (inl (x, body)) u = u.1
otherwise-so (inr none) u = refl

declared-so : (xs : List (List Decl ⊎ Decl)) → Each (TreeSo (form n.Declare ∥ form n.Routine)) xs → list_all decl_spelled (declared xs) ≡ true
declared-so [] u = refl
declared-so (inl ds ∷ xs) u = all-more decl_spelled ds (declared xs) (decl-all ds u.0) (declared-so xs u.1)
declared-so (inr d ∷ xs) u = and_from _ _ u.0 (declared-so xs u.1)

items-so : (xs : List (TreeOf Token Value more-item)) → Each (TreeSo more-item) xs → list_all item_spelled (present xs) ≡ true
items-so [] u = refl
items-so ((s, inl i) ∷ xs) u = and_from _ _ u.0.1 (items-so xs u.1)
items-so ((s, inr none) ∷ xs) u = items-so xs u.1

stmts-so : (xs : List (TreeOf Token Value more-stmt)) → Each (TreeSo more-stmt) xs → list_all stmt_spelled (present xs) ≡ true
stmts-so [] u = refl
stmts-so ((s, inl i) ∷ xs) u = and_from _ _ u.0.1 (stmts-so xs u.1)
stmts-so ((s, inr none) ∷ xs) u = stmts-so xs u.1

or-so : (x : Token × Expr) → TreeSo (one t.Bar ▸ form n.And) x → (same_simple (operand_type (link chain.Or x).op) simple.Truth ≡ true) × (is_spelled (link chain.Or x).operand ≡ true)
or-so (b, x) u = (refl, u.1)

and-so : (x : Token × Expr) → TreeSo (one t.Ampersand ▸ form n.Not) x → (same_simple (operand_type (link chain.And x).op) simple.Truth ≡ true) × (is_spelled (link chain.And x).operand ≡ true)
and-so (b, x) u = (refl, u.1)

abbrev sum-part : Part
sum-part = (one t.Plus ∥ one t.Minus) ▸ form n.Product

sum-so : (x : TreeOf Token Value sum-part) → TreeSo sum-part x → (same_simple (operand_type (sum_link x).op) numbers ≡ true) × (is_spelled (sum_link x).operand ≡ true)
sum-so (s, x) u = (sum-numbers s, u.1)

abbrev product-part : Part
product-part = (one t.Star ∥ one t.Slash ∥ one t.Percent) ▸ form n.Unary

product-so : (x : TreeOf Token Value product-part) → TreeSo product-part x → (same_simple (operand_type (product_link x).op) numbers ≡ true) × (is_spelled (product_link x).operand ≡ true)
product-so (s, x) u = (product-numbers s, u.1)

-- What each named form builds of its parts

built : (name : Name) (tree : TreeOf Token Value (rule name)) → TreeSo (rule name) tree → ValueSo name (build name tree)
built n.Protocol (ds, (g, (i, (is, last)))) u = and_from _ _ (declared-so ds u.0) (and_from _ _ u.1.1.0 (items-so is u.1.1.1.0))
built n.Declare (inl (x, ds)) u = each-map-to DeclSo (TreeSo constant-part) constant constant-so ds u.1
built n.Declare (inr (inl (x, ds))) u = each-map-to DeclSo (TreeSo type-part) type_name type-so ds u.1
built n.Declare (inr (inr (x, ds))) u = each-map-to DeclSo (TreeSo variables-part) variables variables-so ds u.1
built n.NameList (x, xs) u = refl
built n.Routine (inl (p, (x, (fs, (s, ((ds, ss), last)))))) u =
    so-Routine (record { name = named x; formals = formals fs; result = None; locals = ds; body = ss }) ∙ and_from _ _ (formals-so fs u.1.1.0) (and_from _ _ refl (and_from _ _ u.1.1.1.1.0.0 u.1.1.1.1.0.1))
built n.Routine (inr (p, (x, (fs, (c, (result, (s, ((ds, ss), last)))))))) u =
    so-Routine (record { name = named x; formals = formals fs; result = Some result; locals = ds; body = ss }) ∙ and_from _ _ (formals-so fs u.1.1.0) (and_from _ _ u.1.1.1.1.0 (and_from _ _ u.1.1.1.1.1.1.0.0 u.1.1.1.1.1.1.0.1))
built n.Formals (x, xs) u = and_from _ _ u.0 (seconds-all formal_spelled (TreeSo (one t.Semicolon ▸ form n.Formal)) formal-so xs u.1)
built n.Formal (by_place, (xs, (c, body))) u = u.1.1.1
built n.Body (inl (ds, b), ss) u = (joined-all ds u.0.0, u.1)
built n.Body (inr none, ss) u = (refl, u.1)
built n.TypeForm (inl x) u = so-Known (named x)
built n.TypeForm (inr (inl x)) u = so-Boolean x.at
built n.TypeForm (inr (inr (inl (low, (d, high))))) u = so-Range low high ∙ and_from _ _ u.0 u.1.1
built n.TypeForm (inr (inr (inr (inl (x, (o, (xs, c))))))) u = so-Listed xs x.at ∙ u.1.1.0
built n.TypeForm (inr (inr (inr (inr (inl (x, (o, (size, c)))))))) u = so-Scalarset size x.at ∙ u.1.1.0
built n.TypeForm (inr (inr (inr (inr (inr (inl (x, (fs, last)))))))) u = so-Fields fs x.at ∙ u.1.0
built n.TypeForm (inr (inr (inr (inr (inr (inr (x, ((o, (index, c)), (f, item))))))))) u = so-Array index item x.at ∙ and_from _ _ u.1.0.1.0 u.1.1.1
built n.Fields (inl (xs, (c, (body, (fs, last))))) u = and_from _ _ u.1.1.0 (map-all field_spelled (TreeSo field-part) field field-so fs u.1.1.1.0)
built n.Fields (inr none) u = refl
built n.Items (inl i, is) u = and_from _ _ u.0 (items-so is u.1)
built n.Items (inr none, is) u = items-so is u.1
built n.Item (inl (x, (string, (guard, (a, ((ds, ss), last)))))) u =
    so-Rule (title string) (Some guard) ds ss x.at ∙ and_from _ _ u.1.1.0 (and_from _ _ u.1.1.1.1.0.0 u.1.1.1.1.0.1)
built n.Item (inr (inl (x, (string, (ds, (b, (ss, last))))))) u =
    so-Rule (title string) None (joined ds) ss x.at ∙ and_from _ _ refl (and_from _ _ (joined-all ds u.1.1.0) u.1.1.1.1.0)
built n.Item (inr (inr (inl (x, (string, ((ds, ss), last)))))) u = so-Start (title string) ds ss x.at ∙ and_from _ _ u.1.1.0.0 u.1.1.0.1
built n.Item (inr (inr (inr (inl (x, (string, body)))))) u = so-Invariant (title string) body x.at ∙ u.1.1
built n.Item (inr (inr (inr (inr (x, (b, (bs, (d, (is, last))))))))) u =
    so-Group (b ∷ seconds bs) is x.at ∙ and_from _ _ (and_from _ _ u.1.0 (seconds-all bind_spelled (TreeSo (one t.Semicolon ▸ form n.Bind)) bind-so bs u.1.1.0)) u.1.1.1.1.0
built n.Bind (inl (x, (c, body))) u = u.1.1
built n.Bind (inr (x, (b, (low, (to, high))))) u = so-Range low high ∙ and_from _ _ u.1.1.0 u.1.1.1.1
built n.Stmts (inl x, xs) u = and_from _ _ u.0 (stmts-so xs u.1)
built n.Stmts (inr none, xs) u = stmts-so xs u.1
built n.Stmt (inl (to, (b, body))) u = so-Assign to body ∙ and_from _ _ u.0 u.1.1
built n.Stmt (inr (inl (x, args))) u = so-Procedure (named x) (arguments args) ∙ arguments-so args u.1
built n.Stmt (inr (inr (inl (x, to)))) u = so-Clear to x.at ∙ u.1
built n.Stmt (inr (inr (inr (inl (x, to))))) u = so-Undefine to x.at ∙ u.1
built n.Stmt (inr (inr (inr (inr (inl (x, (test, (c, (body, (arms, (last, e))))))))))) u =
    so-If _ (otherwise last) x.at ∙ and_from _ _ (and_from _ _ (and_from _ _ u.1.0 u.1.1.1.0) (map-all arm_spelled (TreeSo arm-part) arm arm-so arms u.1.1.1.1.0)) (otherwise-so last u.1.1.1.1.1.0)
built n.Stmt (inr (inr (inr (inr (inr (inl (x, (on, (cases, (last, e)))))))))) u =
    so-Switch on (map case_of cases) (otherwise last) x.at ∙ and_from _ _ u.1.0 (and_from _ _ (map-all case_spelled (TreeSo case-part) case_of case-so cases u.1.1.0) (otherwise-so last u.1.1.1.0))
built n.Stmt (inr (inr (inr (inr (inr (inr (inl (x, (bind, (d, (body, e))))))))))) u = so-For bind body x.at ∙ and_from _ _ u.1.0 u.1.1.1.0
built n.Stmt (inr (inr (inr (inr (inr (inr (inr (inl (x, string))))))))) u = so-Error x.at
built n.Stmt (inr (inr (inr (inr (inr (inr (inr (inr (inl (x, (test, string))))))))))) u = so-Assert test x.at ∙ u.1.0
built n.Stmt (inr (inr (inr (inr (inr (inr (inr (inr (inr (inl (x, string))))))))))) u = so-Put None x.at
built n.Stmt (inr (inr (inr (inr (inr (inr (inr (inr (inr (inr (inl (x, body)))))))))))) u = so-Put (Some body) x.at ∙ u.1
built n.Stmt (inr (inr (inr (inr (inr (inr (inr (inr (inr (inr (inr (x, inl body)))))))))))) u = so-Return (Some body) x.at ∙ u.1
built n.Stmt (inr (inr (inr (inr (inr (inr (inr (inr (inr (inr (inr (x, inr none)))))))))))) u = so-Return None x.at
built n.Args (x, xs) u = and_from _ _ u.0 (seconds-all is_spelled (TreeSo (one t.Comma ▸ form n.Expr)) args-so xs u.1)
built n.Expr (test, inl (q, (left, (c, right)))) u = so-Choice test left right ∙ and_from _ _ u.0 (and_from _ _ u.1.1.0 u.1.1.1.1)
built n.Expr (body, inr none) u = u.0
built n.Implies (left, inl (a, right)) u = so-Implies left right ∙ and_from _ _ u.0 u.1.1
built n.Implies (body, inr none) u = u.0
built n.Or (x, xs) u = chained-so x (map (link chain.Or) xs) simple.Truth u.0 (links-so (TreeSo (one t.Bar ▸ form n.And)) (link chain.Or) simple.Truth or-so xs u.1)
built n.And (x, xs) u = chained-so x (map (link chain.And) xs) simple.Truth u.0 (links-so (TreeSo (one t.Ampersand ▸ form n.Not)) (link chain.And) simple.Truth and-so xs u.1)
built n.Not (inl (x, body)) u = so-Not body x.at ∙ u.1
built n.Not (inr body) u = u
built n.Compare (left, inl (op, right)) u = so-Compare (compare_of op) left right ∙ and_from _ _ u.0 u.1.1
built n.Compare (body, inr none) u = u.0
built n.Sum (x, xs) u = chained-so x (map sum_link xs) numbers u.0 (links-so (TreeSo sum-part) sum_link numbers sum-so xs u.1)
built n.Product (x, xs) u = chained-so x (map product_link xs) numbers u.0 (links-so (TreeSo product-part) product_link numbers product-so xs u.1)
built n.Unary (inl (x, body)) u = so-Minus body x.at ∙ u.1
built n.Unary (inr body) u = u
built n.Primary (inl x) u = so-Number x.number x.at ∙ u
built n.Primary (inr (inl x)) u = so-Truth true x.at
built n.Primary (inr (inr (inl x))) u = so-Truth false x.at
built n.Primary (inr (inr (inr (inl (o, (body, c)))))) u = u.1.0
built n.Primary (inr (inr (inr (inr (inl place))))) u = so-Place place ∙ u
built n.Primary (inr (inr (inr (inr (inr (inl (x, args))))))) u = so-Call (named x) (arguments args) ∙ arguments-so args u.1
built n.Primary (inr (inr (inr (inr (inr (inr (inl (x, (o, (place, c)))))))))) u = so-IsUndefined place x.at ∙ u.1.1.0
built n.Primary (inr (inr (inr (inr (inr (inr (inr (inl (x, (bind, (d, (body, e)))))))))))) u = so-Quantified true bind body x.at ∙ and_from _ _ u.1.0 u.1.1.1.0
built n.Primary (inr (inr (inr (inr (inr (inr (inr (inr (x, (bind, (d, (body, e)))))))))))) u = so-Quantified false bind body x.at ∙ and_from _ _ u.1.0 u.1.1.1.0
built n.Place (x, sels) u = map-all selector_spelled (TreeSo selector-part) selector_of selector-so sels u.1
built n.LemmaItem (x, (c, (body, s))) u = u.1.1.0
built n.FlowItem (x, (c, (first, (d, (second, (more, s)))))) u = tt
built (n.Cut p) parts u = tt

-- What tokens spell

abbrev Small : List Token → Type 0
Small tokens = Each (λ x. is_small x ≡ true) tokens

small-front : (xs ys all : List Token) → all ≡ xs ++ ys → Small all → Small xs × Small ys
small-front [] ys all is u = (tt, subst Small is u)
small-front (x ∷ xs) ys [] is u = cc
small-front (x ∷ xs) ys (z ∷ all) is u =
    let head : z ≡ x = cc in
    let tail : all ≡ xs ++ ys = cc in
    let (first, rest) = small-front xs ys all tail u.1 in
    ((subst (λ y. is_small y ≡ true) head u.0, first), rest)

small-all : (tokens : List Token) → list_all is_small tokens ≡ true → Small tokens
small-all [] u = tt
small-all (x ∷ xs) u = let (first, rest) = and_parts (is_small x) (list_all is_small xs) u in (first, small-all xs rest)

spelled-so : {room : Room} {f : Part} {tokens : List Token} {tree : TreeOf Token Value f} → Spells murphi room f tokens tree → Small tokens → TreeSo f tree
spelled-so (spelling.token x is) u = u.0
spelled-so spelling.empty u = tt
spelled-so (spelling.seq {all = all} {vs = vs} {ws = ws} p q is) u =
    let (front, rest) = small-front vs ws all is u in (spelled-so p front, spelled-so q rest)
spelled-so (spelling.left p) u = spelled-so p u
spelled-so (spelling.right p) u = spelled-so p u
spelled-so spelling.none u = tt
spelled-so (spelling.more {all = all} {vs = vs} {ws = ws} p q is) u =
    let (front, rest) = small-front vs ws all is u in (spelled-so p front, spelled-so q rest)
spelled-so (spelling.nest x is inside p) u = (u.0, spelled-so p u.1)
spelled-so (spelling.call {n = name} {t = tree} p is) u = subst (ValueSo name) (sym is) (built name tree (spelled-so p u))

pub trees : TreesAreSpelled
trees room tokens P small spelled = spelled-so spelled (small-all tokens small)

pub expressions : ExpressionsAreSpelled
expressions room tokens e small spelled = spelled-so spelled (small-all tokens small)
