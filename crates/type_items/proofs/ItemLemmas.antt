-- Items: what code gives of them is what the definition leaves.
use Rattle.std.proofs.Common.{◌≡◌, ℕ, ◌+◌, true, false, List, [], ◌∷◌, ◌++◌, Option, None, refl, ap, sym, ◌∙◌}
use Rattle.std.specs.Prelude.{is_some}
use Rattle.std.proofs.lemmas.List.{append-nil}
use Rattle.murphi_ast.specs.declared.token.Span.{Span}
use Rattle.murphi_ast.specs.declared.text.Text.{Text}
use Rattle.murphi_ast.specs.declared.expr.Expr.{Expr}
use Rattle.murphi_ast.specs.declared.expr.Bind.{Bind}
use Rattle.murphi_ast.specs.declared.rule.RuleDecl as r
use Rattle.murphi_ast.specs.declared.rule.RuleDecl.{RuleDecl, Row_of-RuleDecl, end_of-RuleDecl, more_of-RuleDecl}
use Rattle.murphi_ast.specs.Title.{is_of, string_of, RuleKind, StartKind, InvariantKind}
use Rattle.murphi_typed.specs.Families.{Name}
use Rattle.murphi_typed.specs.declared.stmt.Stmt as s
use Rattle.murphi_typed.specs.declared.protocol.Routine.{Routine}
use Rattle.murphi_typed.specs.Prefix.{formula_prefix, rule_prefix}
use Rattle.murphi_types.specs.declared.fault.Fault.{Fault}
use Rattle.murphi_types.specs.declared.scope.Known.{Known}
use Rattle.murphi_types.specs.declared.scope.Scope.{Scope}
use Rattle.murphi_types.specs.Faults.{sooner, first_fault}
use Rattle.murphi_types.specs.Weights.{stopped}
use Rattle.murphi_types.specs.Places.{place_of}
use Rattle.murphi_types.specs.Fitting.{is_truth}
use Rattle.murphi_types.specs.Uses.{uses_of}
use Rattle.murphi_types.specs.Found.{Found, wanted}
use Rattle.murphi_types.specs.Typing.{found}
use Rattle.murphi_types.specs.Items.{Around, FoundBinds, FoundBody, FoundItems, past_of, ruleset_found, parameter_faults, instances, item_body, body_faults, body_limits, invariant_limits, rule_made, start_made, invariant_made, entered, item_found, row_found, items_found}
use Rattle.murphi_types.specs.Texts.{around_nothing, no_items}
use Rattle.type_parts.proofs.FaultLemmas.{first-append}
use Rattle.type_expressions.specs.PartsGiven.{part_of}
use Rattle.typing_laws.proofs.KeptItems.{binds-kept, item-body-kept, item-kept}
use Rattle.typing_laws.proofs.KeptExpressions.{lasting, found-kept}
use Rattle.type_items.specs.declared.judged.JudgedItems.{JudgedItems}
use Rattle.type_items.specs.declared.gathered.Inside.{Inside}
use Rattle.type_items.specs.declared.gathered.Gathered.{Gathered}
use Rattle.type_items.specs.declared.titles.Numbering.{Numbering}
use Rattle.type_items.specs.Titles.{numbered_on, numbering}
use Rattle.type_items.specs.Limits.{past_fault}
use Rattle.type_items.specs.Rulesets.{list_binds, mark_of}
use Rattle.type_items.specs.Gathering.{items_part, gathered, items_given, counted, with_fault, body_fault, claim_fault, rule_tree, rule_added, rule_done, start_tree, start_added, start_done, invariant_tree, invariant_added, invariant_done, left, item_with, row_with, list_with}
use Rattle.type_items.specs.Gathering as code
use Rattle.type_items.proofs.TitleLemmas.{title-is, other-kind, same-kind}
use Rattle.type_items.proofs.LimitLemmas.{past-is, part-limits-are, claim-limits-are}
use Rattle.type_items.proofs.ScopeLemmas.{binds-end, params-end}
use Rattle.type_items.proofs.BodyLemmas.{bodied, bodied-is, claimed, claimed-is}
use Rattle.type_items.proofs.RulesetLemmas.{binds-are, binds-past, binds-size}

-- Faults

four-faults : (fs gs hs is : List Fault) → first_fault (fs ++ (gs ++ (hs ++ is))) ≡ sooner (first_fault fs) (sooner (first_fault gs) (sooner (first_fault hs) (first_fault is)))
four-faults fs gs hs is =
    first-append fs (gs ++ (hs ++ is))
    ∙ ap (sooner (first_fault fs)) (first-append gs (hs ++ is) ∙ ap (sooner (first_fault gs)) (first-append hs is))

-- of a rule or a start state, with so many instances up to it
body-fault-is : (a : Around) (at : Span) (n : ℕ) (fs : List Fault) (b : FoundBody) →
    first_fault (fs ++ (parameter_faults a ++ (body_faults b ++ body_limits at n b))) ≡ sooner (first_fault fs) (body_fault a.past at (stopped n) a.params (bodied (record { context = record { scope = a.scope; known = b.body.known }; params = a.params; fault = None }) b).part)
unfolding body_fault
body-fault-is a at n fs b =
    four-faults fs (parameter_faults a) (body_faults b) (body_limits at n b)
    ∙ ap (λ o. sooner (first_fault fs) (sooner o (sooner (first_fault (body_faults b)) (first_fault (body_limits at n b))))) (past-is a.past a.params)
    ∙ ap (λ o. sooner (first_fault fs) (sooner (past_fault a.past a.params) (sooner (first_fault (body_faults b)) o)))
    (part-limits-are (body_faults b) at n (b.guard.weight + b.body.weight) b.locals.limits)

-- of an invariant
claim-fault-is : (at : Span) (n : ℕ) (fs : List Fault) (f : Found) (I : Inside) →
    first_fault (fs ++ (f.faults ++ invariant_limits at n f)) ≡ sooner (first_fault fs) (claim_fault at (stopped n) (claimed I f))
unfolding part_of claim_fault
claim-fault-is at n fs f I =
    first-append fs (f.faults ++ invariant_limits at n f)
    ∙ ap (sooner (first_fault fs)) (first-append f.faults (invariant_limits at n f) ∙ ap (sooner (first_fault f.faults)) (claim-limits-are (is_some f.type) at n f.weight))

-- Parts put together

two : {A B C : Type 0} (h : A → B → C) {a a' : A} {b b' : B} → a ≡ a' → b ≡ b' → h a b ≡ h a' b'
two h {a} {a'} {b} {b'} p q = ap (λ x. h x b) p ∙ ap (h a') q

four : {A B C D E : Type 0} (h : A → B → C → D → E) {a a' : A} {b b' : B} {c c' : C} {d d' : D} → a ≡ a' → b ≡ b' → c ≡ c' → d ≡ d' → h a b c d ≡ h a' b' c' d'
four h {a} {a'} {b} {b'} {c} {c'} {d} {d'} p q r t = two (λ x y. h x y c d) p q ∙ two (h a' b') r t

six : {A B C D E F G : Type 0} (h : A → B → C → D → E → F → G) {a a' : A} {b b' : B} {c c' : C} {d d' : D} {e e' : E} {f f' : F} → a ≡ a' → b ≡ b' → c ≡ c' → d ≡ d' → e ≡ e' → f ≡ f' → h a b c d e f ≡ h a' b' c' d' e' f'
six h {a} {a'} {b} {b'} {c} {c'} {d} {d'} {e} {e'} {f} {f'} p q r t u v = four (λ x y z w. h x y z w e f) p q r t ∙ two (h a' b' c' d') u v

-- where the next item stands
abbrev inside_with : Around → Known → Option Fault → Inside
inside_with a k fault = record { context = record { scope = a.scope; known = k }; params = a.params; fault = fault }

-- Rules

abbrev rule_of : Around → FoundItems → FoundBody → Name → ℕ → Option Fault → Numbering → Numbering → Numbering → Gathered
rule_of a items b title prefix fault rules starts invariants =
    record {
      inside = inside_with a b.body.known fault;
      made = record {
        rules = items.rules ++ record {
          title = title;
          params = a.params;
          guard = b.guard.guard;
          locals = b.locals.locals;
          body = s.Block b.body.trees;
          prefix = prefix;
        } ∷ [];
        rule_numbers = rules;
        starts = items.starts;
        start_numbers = starts;
        invariants = items.invariants;
        invariant_numbers = invariants;
      };
    }

rule-is : (a : Around) (items : FoundItems) (title : Option Text) (one : RuleDecl) (at : Span) (b : FoundBody) →
    is_of RuleKind one ≡ true → is_of StartKind one ≡ false → is_of InvariantKind one ≡ false → string_of one ≡ title → b.body.known.routines ≡ items.known.routines →
    gathered a (rule_made a title one at items b) ≡ rule_done items.known.routines a.past title at (bodied (gathered a items).inside b) (gathered a items).made
unfolding with_fault rule_tree rule_added rule_done
rule-is a items title one at b is start invariant string same =
    let n = items.rule_instances in
    let m = instances a.params in
    let R = numbering RuleKind items.written n in
    let q : numbering RuleKind (items.written ++ one ∷ []) (n + m) ≡ counted title a.params R =
    same-kind RuleKind items.written one n m is ∙ ap (λ w. numbered_on w (stopped m) R) string in
    six (rule_of a items b)
    (title-is RuleKind items.written n title)
    (ap (λ rs. rule_prefix rs a.params b.guard.guard (s.Block b.body.trees)) same)
    (body-fault-is a at (n + m) items.faults b
    ∙ ap (λ (N : Numbering). sooner (first_fault items.faults) (body_fault a.past at N.instances a.params (bodied (gathered a items).inside b).part)) q)
    q (other-kind StartKind items.written one items.start_instances start)
    (other-kind InvariantKind items.written one items.invariant_instances invariant)

-- Start states

abbrev start_of : Around → FoundItems → FoundBody → Name → ℕ → Option Fault → Numbering → Numbering → Numbering → Gathered
start_of a items b title prefix fault rules starts invariants =
    record {
      inside = inside_with a b.body.known fault;
      made = record {
        rules = items.rules;
        rule_numbers = rules;
        starts = items.starts ++ record {
          title = title;
          params = a.params;
          locals = b.locals.locals;
          body = s.Block b.body.trees;
          prefix = prefix;
        } ∷ [];
        start_numbers = starts;
        invariants = items.invariants;
        invariant_numbers = invariants;
      };
    }

start-is : (a : Around) (items : FoundItems) (title : Option Text) (one : RuleDecl) (at : Span) (b : FoundBody) →
    is_of RuleKind one ≡ false → is_of StartKind one ≡ true → is_of InvariantKind one ≡ false → string_of one ≡ title → b.body.known.routines ≡ items.known.routines →
    gathered a (start_made a title one at items b) ≡ start_done items.known.routines a.past title at (bodied (gathered a items).inside b) (gathered a items).made
unfolding with_fault start_tree start_added start_done
start-is a items title one at b rule is invariant string same =
    let n = items.start_instances in
    let m = instances a.params in
    let S = numbering StartKind items.written n in
    let q : numbering StartKind (items.written ++ one ∷ []) (n + m) ≡ counted title a.params S =
    same-kind StartKind items.written one n m is ∙ ap (λ w. numbered_on w (stopped m) S) string in
    six (start_of a items b)
    (title-is StartKind items.written n title)
    (ap (λ rs. rule_prefix rs a.params None (s.Block b.body.trees)) same)
    (body-fault-is a at (n + m) items.faults b
    ∙ ap (λ (N : Numbering). sooner (first_fault items.faults) (body_fault a.past at N.instances a.params (bodied (gathered a items).inside b).part)) q)
    (other-kind RuleKind items.written one items.rule_instances rule) q
    (other-kind InvariantKind items.written one items.invariant_instances invariant)

-- Invariants

abbrev invariant_of : Around → FoundItems → Found → Expr → Name → ℕ → Option Fault → Numbering → Numbering → Numbering → Gathered
invariant_of a items f written title prefix fault rules starts invariants =
    record {
      inside = inside_with a f.known fault;
      made = record {
        rules = items.rules;
        rule_numbers = rules;
        starts = items.starts;
        start_numbers = starts;
        invariants = items.invariants ++ record {
          title = title;
          params = a.params;
          body = f.tree;
          prefix = prefix;
          kinds = [];
          uses = uses_of a.size written;
        } ∷ [];
        invariant_numbers = invariants;
      };
    }

invariant-is : (a : Around) (items : FoundItems) (title : Option Text) (written : Expr) (at : Span) (f : Found) → f.known.routines ≡ items.known.routines →
    gathered a (invariant_made a title written at items f) ≡ invariant_done items.known.routines a.size title written at (claimed (gathered a items).inside f) (gathered a items).made
unfolding part_of with_fault invariant_tree invariant_added invariant_done
invariant-is a items title written at f same =
    let one = r.Invariant title written at in
    let n = items.invariant_instances in
    let m = instances a.params in
    let V = numbering InvariantKind items.written n in
    let q : numbering InvariantKind (items.written ++ one ∷ []) (n + m) ≡ counted title a.params V = same-kind InvariantKind items.written one n m refl in
    six (invariant_of a items f written)
    (title-is InvariantKind items.written n title)
    (ap (λ rs. formula_prefix rs a.params f.tree) same)
    (claim-fault-is at (n + m) items.faults f (gathered a items).inside
    ∙ ap (λ (N : Numbering). sooner (first_fault items.faults) (claim_fault at N.instances (claimed (gathered a items).inside f))) q)
    (other-kind RuleKind items.written one items.rule_instances refl)
    (other-kind StartKind items.written one items.start_instances refl) q

-- Rulesets

-- inside a ruleset
group-begins : (a : Around) (items : FoundItems) (binds : List Bind) →
    gathered (ruleset_found a items.known binds).around (entered items (ruleset_found a items.known binds)) ≡ code.entered binds (gathered a items)
group-begins a items binds =
    let start : FoundBinds = record { around = a; known = items.known; faults = [] } in
    ap (λ I. record { inside = I; made = (gathered a items).made })
    (binds-are items.faults binds start
    ∙ ap (λ fs. list_binds binds (inside_with a items.known (first_fault fs))) (append-nil items.faults))

-- and after it
group-ends : (a : Around) (items : FoundItems) (binds : List Bind) (k : Known) (after : FoundItems) →
    left (mark_of (gathered a items).inside) (gathered (ruleset_found a k binds).around after) ≡ gathered a after
unfolding left
group-ends a items binds k after =
    let start : FoundBinds = record { around = a; known = k; faults = [] } in
    two (λ (sc : Scope) ps. record { inside = record { context = record { scope = sc; known = after.known }; params = ps; fault = first_fault after.faults }; made = (gathered a after).made })
    (binds-end binds start) (params-end binds start)

-- Items

routines-kept : (k l : Known) → lasting l ≡ lasting k → l.routines ≡ k.routines
routines-kept k l same = ap (λ p. p.1.0) same

mutual
  unfolding item_found item_with

  pub item-is : (a : Around) (one : RuleDecl) (items : FoundItems) → gathered a (item_found a one items) ≡ item_with items.known.routines a.past a.size one (gathered a items)
  item-is a (r.Rule title guard locals body at) items =
      let b = item_body a.scope items.known guard locals body in
      rule-is a items title (r.Rule title guard locals body at) at b refl refl refl refl (routines-kept items.known b.body.known (item-body-kept a.scope items.known guard locals body))
      ∙ ap (λ x. rule_done items.known.routines a.past title at x (gathered a items).made) (sym (bodied-is (gathered a items).inside guard locals body))
  item-is a (r.Start title locals body at) items =
      let b = item_body a.scope items.known None locals body in
      start-is a items title (r.Start title locals body at) at b refl refl refl refl (routines-kept items.known b.body.known (item-body-kept a.scope items.known None locals body))
      ∙ ap (λ x. start_done items.known.routines a.past title at x (gathered a items).made) (sym (bodied-is (gathered a items).inside None locals body))
  item-is a (r.Invariant title body at) items =
      let f = wanted is_truth (place_of body) (found a.scope items.known body) in
      invariant-is a items title body at f (routines-kept items.known f.known (found-kept a.scope items.known body))
      ∙ ap (λ x. invariant_done items.known.routines a.size title body at x (gathered a items).made) (sym (claimed-is (gathered a items).inside body))
  item-is a (r.Group' binds shape inner at) items =
      let start : FoundBinds = record { around = a; known = items.known; faults = [] } in
      let b = ruleset_found a items.known binds in
      let within = entered items b in
      sym (group-ends a items binds items.known (row_found b.around inner within))
      ∙ ap (left (mark_of (gathered a items).inside))
      (row-is b.around inner within
      ∙ four (λ rs past size G. row_with rs past size inner G)
      (routines-kept items.known within.known (binds-kept binds start))
      (two (λ past ps. past_of past binds ps) (binds-past binds start) (ap (λ (I : Inside). I.params) (binds-are items.faults binds start ∙ ap (λ fs. list_binds binds (inside_with a items.known (first_fault fs))) (append-nil items.faults))))
      (binds-size binds start) (group-begins a items binds))

  pub row-is : {n : _} (a : Around) (row : Row_of-RuleDecl n) (items : FoundItems) → gathered a (row_found a row items) ≡ row_with items.known.routines a.past a.size row (gathered a items)
  row-is a end_of-RuleDecl items = refl
  row-is a (more_of-RuleDecl one rest) items =
      row-is a rest (item_found a one items)
      ∙ two (λ rs G. row_with rs a.past a.size rest G) (routines-kept items.known (item_found a one items).known (item-kept a one items)) (item-is a one items)

pub items-are : (a : Around) (all : List RuleDecl) (items : FoundItems) → gathered a (items_found a all items) ≡ list_with items.known.routines a.past a.size all (gathered a items)
items-are a [] items = refl
items-are a (one ∷ rest) items =
    items-are a rest (item_found a one items)
    ∙ two (λ rs G. list_with rs a.past a.size rest G) (routines-kept items.known (item_found a one items).known (item-kept a one items)) (item-is a one items)

-- Texts

pub items-done : (sc : Scope) (size : Option Name) (all : List RuleDecl) (k : Known) (qs rs : List Routine) (G H : Gathered) (r : JudgedItems) →
    qs ≡ k.routines → rs ≡ qs → G ≡ gathered (around_nothing sc None) (no_items k) → H ≡ list_with rs None size all G → r ≡ items_given H →
    r ≡ items_part (items_found (around_nothing sc size) all (no_items k))
items-done sc size all k qs rs G H r all-of is begun done given =
    given
    ∙ ap items_given (done ∙ two (λ x J. list_with x None size all J) (is ∙ all-of) begun ∙ sym (items-are (around_nothing sc size) all (no_items k)))
