-- The faults of a text and its typed protocol, from what code gives of its parts.
use Rattle.std.proofs.Common.{◌≡◌, Bool, true, false, List, [], ◌∷◌, ◌++◌, Option, None, Some, refl, ap, sym, subst, ◌∙◌}
use Rattle.std.specs.Prelude.{if◌then◌else◌}
use Rattle.murphi_ast.specs.declared.expr.Named.{Named}
use Rattle.murphi_ast.specs.declared.decl.Decl as decl
use Rattle.murphi_ast.specs.declared.decl.Decl.{Decl}
use Rattle.murphi_ast.specs.declared.rule.RuleDecl.{RuleDecl}
use Rattle.murphi_ast.specs.declared.rule.Protocol.{Protocol}
use Rattle.murphi_typed.specs.Families.{Name}
use Rattle.murphi_typed.specs.declared.types.AnyType.{AnyType}
use Rattle.murphi_typed.specs.declared.expr.Root.{Root}
use Rattle.murphi_typed.specs.declared.expr.Root.TheVariants as root
use Rattle.murphi_typed.specs.declared.protocol.Entity.TheVariants as entity
use Rattle.murphi_typed.specs.declared.protocol.NodeType.{NodeType}
use Rattle.murphi_typed.specs.declared.protocol.Start.{Start}
use Rattle.murphi_typed.specs.declared.protocol.Typed.{Typed}
use Rattle.murphi_types.specs.declared.fault.Fault.{Fault}
use Rattle.murphi_types.specs.declared.scope.Meaning.TheVariants as meaning
use Rattle.murphi_types.specs.Faults.{sooner, first_fault}
use Rattle.murphi_types.specs.Types.{FoundType, Unnamed}
use Rattle.murphi_types.specs.Typing.{type_found}
use Rattle.murphi_types.specs.Declarations.{Declared, declare_variable, declare_variables, after_variables}
use Rattle.murphi_types.specs.Routines.{globally_declared, text_declared}
use Rattle.murphi_types.specs.Items.{FoundItems, items_found}
use Rattle.murphi_types.specs.Written.{text_repeats}
use Rattle.murphi_types.specs.Texts.{Refusal, Placed, NoNodeType, NoStart, text_scope, nothing_known, declarations_of, no_items, around_nothing, size_name, node_type, node_size, items_of, entity_of, faults_of, no_node, has_no_start, later_refusal, refused, refusal, typed_text}
use Rattle.type_parts.proofs.FaultLemmas.{first-append, sooner-assoc}
use Rattle.type_declarations.specs.declared.state.Declaring.{Declaring}
use Rattle.type_declarations.specs.Declaring.{declaring}
use Rattle.type_items.specs.declared.judged.JudgedItems.{JudgedItems}
use Rattle.type_items.specs.Gathering.{items_part}
use Rattle.type_texts.specs.declared.refusal.TypeRefusal.{TypeRefusal}
use Rattle.type_texts.specs.declared.refusal.TypeRefusal.TheVariants as refusals
use Rattle.type_texts.specs.Refusing.{told}
use Rattle.type_texts.specs.Texts.{TellsRefusal, lacks_memory, refused_by, global_number, no_starts, items_after, parts_fault, typed_of}

-- Declarations of a text leave the scope as it is

variables-scope : (ns : List Named) (o : Option AnyType) (d : Declared) → (declare_variables true ns o d).scope ≡ d.scope
variables-scope [] o d = refl
variables-scope (n ∷ ns) None d = variables-scope ns None (declare_variable true n.name None d)
variables-scope (n ∷ ns) (Some t) d = variables-scope ns (Some t) (declare_variable true n.name (Some t) d)

after-scope : (ns : List Named) (d : Declared) (f : FoundType) → (after_variables true ns d f).scope ≡ d.scope
after-scope ns d f = variables-scope ns f.type (record d { known = f.known; faults = d.faults ++ f.faults })

one-scope : (one : Decl) (d : Declared) → (globally_declared one d).scope ≡ d.scope
one-scope (decl.Constant name body) d = refl
one-scope (decl.TypeName name body) d = refl
one-scope (decl.Variables names body) d = after-scope names d (type_found d.scope d.known Unnamed body)
one-scope (decl.Routine' name formals result u locals body) d = refl

text-scope : (ds : List Decl) (d : Declared) → (text_declared ds d).scope ≡ d.scope
text-scope [] d = refl
text-scope (one ∷ rest) d = text-scope rest (globally_declared one d) ∙ one-scope one d

-- before all declarations
abbrev at_first : Option Name → Protocol → Declared
at_first node P = record { scope = text_scope node P; known = nothing_known; locals = []; faults = []; limits = [] }

-- what the items of a text are, from what its declarations leave
items-here : (node : Option Name) (P : Protocol) (D : Declaring) (size : Option Name) (j : JudgedItems) →
    D ≡ declaring true (declarations_of node P) → size ≡ size_name node P →
    j ≡ items_part (items_found (around_nothing D.context.scope size) P.rules (no_items D.context.known)) →
    j ≡ items_part (items_of node P)
unfolding declaring
items-here node P D size j is named are =
    are
    ∙ ap (λ (D : Declaring). items_part (items_found (around_nothing D.context.scope size) P.rules (no_items D.context.known))) is
    ∙ ap (λ s. items_part (items_found (around_nothing s size) P.rules (no_items (declarations_of node P).known)))
    (text-scope P.decls (at_first node P))
    ∙ ap (λ size. items_part (items_found (around_nothing (text_scope node P) size) P.rules (no_items (declarations_of node P).known))) named

-- The declarations and items of a text, from their steps

pub items-done : (node : Option Name) (P : Protocol) (size : Option Name) (D : Declaring) (rules : List RuleDecl)
    (j : JudgedItems) → size ≡ size_name node P → D ≡ declaring true (declarations_of node P) → rules ≡ P.rules →
    j ≡ items_after D size rules → j ≡ items_part (items_of node P)
items-done node P size D rules j named is rules-are are =
    items-here node P D size j is named (are ∙ ap (items_after D size) rules-are)

pub parts-done : (node : Option Name) (P : Protocol) (size : Option Name) (D : Declaring) (rules : List RuleDecl)
    (fault : Option Fault) → size ≡ size_name node P → D ≡ declaring true (declarations_of node P) → rules ≡ P.rules →
    fault ≡ sooner D.fault (sooner D.limit (items_after D size rules).fault) → fault ≡ parts_fault node P
unfolding declaring
parts-done node P size D rules fault named is rules-are fault-is =
    fault-is
    ∙ ap (λ (j : JudgedItems). sooner D.fault (sooner D.limit j.fault))
    (items-done node P size D rules (items_after D size rules) named is rules-are refl)
    ∙ ap (λ (D : Declaring). sooner D.fault (sooner D.limit (first_fault (items_of node P).faults))) is

-- The typed text, from its steps

faults-end : (a b i r : Option Fault) → sooner (sooner a (sooner b i)) r ≡ sooner a (sooner b (sooner i r))
faults-end a b i r = sooner-assoc a (sooner b i) r ∙ ap (sooner a) (sooner-assoc b i r)

-- the first fault of four lists in turn
four : (xs ys zs rs : List Fault) →
    sooner (first_fault xs) (sooner (first_fault ys) (sooner (first_fault zs) (first_fault rs)))
    ≡ first_fault (xs ++ (ys ++ (zs ++ rs)))
four xs ys zs rs =
    ap (λ o. sooner (first_fault xs) (sooner (first_fault ys) o)) (sym (first-append zs rs))
    ∙ ap (sooner (first_fault xs)) (sym (first-append ys (zs ++ rs)))
    ∙ sym (first-append xs (ys ++ (zs ++ rs)))

pub fault-done : (node : Option Name) (P : Protocol) (r given first : Option Fault) →
    r ≡ first_fault (text_repeats P.decls P.rules) → given ≡ parts_fault node P → first ≡ sooner given r →
    first ≡ first_fault (faults_of node P)
fault-done node P r given first r-is given-is first-is =
    first-is
    ∙ ap (λ o. sooner o r) given-is
    ∙ ap (sooner (parts_fault node P)) r-is
    ∙ faults-end (first_fault (declarations_of node P).faults) (first_fault (declarations_of node P).limits)
    (first_fault (items_of node P).faults) (first_fault (text_repeats P.decls P.rules))
    ∙ four (declarations_of node P).faults (declarations_of node P).limits (items_of node P).faults
    (text_repeats P.decls P.rules)

pub typed-done : (node : Option Name) (P : Protocol) (o : Option NodeType) (j : JudgedItems) (T : Typed) →
    o ≡ node_type node P (node_size node P) → j ≡ items_part (items_of node P) → T ≡ typed_of o j → T ≡ typed_text node P
typed-done node P o j T node-is are made =
    made
    ∙ ap (λ o. typed_of o j) node-is
    ∙ ap (typed_of (node_type node P (node_size node P))) are

-- what a variable declares
pub entity-Variable : (r : Root) (of : AnyType) → entity_of (meaning.Variable r of) ≡ entity.Variable (global_number r)
entity-Variable (root.Global k) of = refl
entity-Variable (root.Local k) of = refl
entity-Variable (root.Formal k) of = refl
entity-Variable (root.Place k) of = refl

-- Answers

unplaced : (node : Option Name) (P : Protocol) → None ≡ first_fault (faults_of node P) →
    refusal node P ≡ later_refusal node P
unplaced node P none = ap (λ o. refused o (later_refusal node P)) (sym none)

-- what comes after faults that have a place
abbrev later : Bool → Bool → Option Refusal
later missing none = if missing then Some NoNodeType else (if none then Some NoStart else None)

abbrev starts-here : FoundItems → List Start → Bool
starts-here items ss = has_no_start (record items { starts = ss })

no_starts-is : (items : FoundItems) → no_starts items.starts ≡ has_no_start items
no_starts-is items = go items.starts
  where
    go : (ss : List Start) → no_starts ss ≡ starts-here items ss
    go [] = refl
    go (s ∷ ss) = refl

-- whether the text has no start state, read off its typed protocol
starts-are : (node : Option Name) (P : Protocol) (T : Typed) (b : Bool) → T ≡ typed_text node P →
    no_starts T.starts ≡ b → has_no_start (items_of node P) ≡ b
starts-are node P T b is given =
    sym (no_starts-is (items_of node P)) ∙ ap (λ (T : Typed). no_starts T.starts) (sym is) ∙ given

pub tells_fault : (node : Option Name) (P : Protocol) (f : Fault) (r : TypeRefusal) → r ≡ told f →
    Some f ≡ first_fault (faults_of node P) → TellsRefusal (refusal node P) r
tells_fault node P f r is some =
    subst (λ r. TellsRefusal (refusal node P) r) (sym is)
    (refused_by (Placed f) (ap (λ o. refused o (later_refusal node P)) (sym some)))

pub tells_no_node : (node : Option Name) (P : Protocol) → None ≡ first_fault (faults_of node P) →
    no_node node P ≡ true → TellsRefusal (refusal node P) refusals.E13
tells_no_node node P none missing =
    refused_by NoNodeType (unplaced node P none ∙ ap (λ b. later b (has_no_start (items_of node P))) missing)

pub tells_no_start : (node : Option Name) (P : Protocol) (T : Typed) → None ≡ first_fault (faults_of node P) →
    no_node node P ≡ false → T ≡ typed_text node P → no_starts T.starts ≡ true →
    TellsRefusal (refusal node P) refusals.E09
tells_no_start node P T none there is lacks =
    refused_by NoStart (unplaced node P none ∙ ap (λ b. later b (has_no_start (items_of node P))) there
    ∙ ap (later false) (starts-are node P T true is lacks))

pub not_refused : (node : Option Name) (P : Protocol) (T : Typed) → None ≡ first_fault (faults_of node P) →
    no_node node P ≡ false → T ≡ typed_text node P → no_starts T.starts ≡ false → refusal node P ≡ None
not_refused node P T none there is has =
    unplaced node P none ∙ ap (λ b. later b (has_no_start (items_of node P))) there
    ∙ ap (later false) (starts-are node P T false is has)

pub lacks_room : (node : Option Name) (P : Protocol) → TellsRefusal (refusal node P) refusals.Memory
lacks_room _ P = lacks_memory

pub ruleset texts = (entity-Variable, tells_fault, tells_no_node, tells_no_start, not_refused, lacks_room)
