-- One item more: its words, opened.
use Rattle.std.proofs.Common.{◌≡◌, ℕ, ◌+◌, List, [], ◌∷◌, ◌++◌, Option, None, refl, ap, ◌∙◌}
use Rattle.std.specs.Prelude.{is_some, is_none}
use Rattle.murphi_ast.specs.declared.token.Span.{Span}
use Rattle.murphi_ast.specs.declared.text.Text.{Text}
use Rattle.murphi_ast.specs.declared.expr.Expr.{Expr}
use Rattle.murphi_typed.specs.Families.{Name}
use Rattle.murphi_typed.specs.declared.protocol.Routine.{Routine}
use Rattle.murphi_typed.specs.declared.expr.Expr.{Expr as Tree}
use Rattle.murphi_typed.specs.declared.protocol.Parameter.{Parameter}
use Rattle.murphi_typed.specs.declared.protocol.Rule.{Rule}
use Rattle.murphi_typed.specs.declared.protocol.Start.{Start}
use Rattle.murphi_typed.specs.declared.protocol.TypedFormula.{TypedFormula}
use Rattle.murphi_typed.specs.Prefix.{formula_prefix, rule_prefix}
use Rattle.murphi_types.specs.declared.fault.Fault.{Fault}
use Rattle.murphi_types.specs.Faults.{sooner}
use Rattle.murphi_types.specs.Weights.{stopped}
use Rattle.murphi_types.specs.Uses.{uses_of}
use Rattle.murphi_types.specs.Items.{instances}
use Rattle.type_items.specs.declared.gathered.JudgedBody.{JudgedBody}
use Rattle.type_items.specs.declared.gathered.Inside.{Inside}
use Rattle.type_items.specs.declared.gathered.Head.{Head}
use Rattle.type_items.specs.declared.gathered.Bodied.{Bodied}
use Rattle.type_items.specs.declared.gathered.Claimed.{Claimed}
use Rattle.type_items.specs.declared.gathered.Made.{Made}
use Rattle.type_items.specs.declared.gathered.Gathered.{Gathered}
use Rattle.type_items.specs.declared.rulesets.Mark.{Mark}
use Rattle.type_items.specs.Titles.{titled, numbered_on}
use Rattle.type_items.specs.Limits.{past_fault, limit_of}
use Rattle.type_items.specs.Rulesets.{cut}
use Rattle.type_items.specs.Gathering.{with_fault, body_fault, claim_fault, head_of, rule_from, rule_tree, rule_added, rule_done, start_from, start_tree, start_added, start_done, invariant_tree, invariant_added, invariant_done, left}

-- Parts

pub fault-opens : (fault : Option Fault) (I : Inside) → with_fault fault I ≡ record { context = I.context; params = I.params; fault = sooner I.fault fault }
unfolding with_fault
fault-opens fault I = refl

pub body-opens : (past : Option Span) (at : Span) (count : ℕ) (params : List Parameter) (part : JudgedBody) →
    body_fault past at count params part ≡ sooner (past_fault past params) (sooner part.fault (limit_of (is_none part.fault) at count part.weight part.limit))
unfolding body_fault
body-opens past at count params part = refl

pub claim-opens : (at : Span) (count : ℕ) (c : Claimed) →
    claim_fault at count c ≡ sooner c.part.fault (limit_of (is_some c.part.of) at count c.part.weight None)
unfolding claim_fault
claim-opens at count c = refl

pub rule-opens : (rs : List Routine) (title : Name) (params : List Parameter) (part : JudgedBody) →
    rule_tree rs title params part ≡ record { title = title; params = params; guard = part.guard; locals = part.locals; body = part.body; prefix = rule_prefix rs params part.guard part.body }
unfolding rule_tree
rule-opens rs title params part = refl

pub start-opens : (rs : List Routine) (title : Name) (params : List Parameter) (part : JudgedBody) →
    start_tree rs title params part ≡ record { title = title; params = params; locals = part.locals; body = part.body; prefix = rule_prefix rs params None part.body }
unfolding start_tree
start-opens rs title params part = refl

pub invariant-opens : (rs : List Routine) (size : Option Name) (written : Expr) (title : Name) (params : List Parameter) (tree : Tree) →
    invariant_tree rs size written title params tree ≡ record { title = title; params = params; body = tree; prefix = formula_prefix rs params tree; kinds = []; uses = uses_of size written }
unfolding invariant_tree
invariant-opens rs size written title params tree = refl

pub rule-adds : (title : Option Text) (count : ℕ) (one : Rule) (M : Made) →
    rule_added title count one M ≡ record M { rules = M.rules ++ one ∷ []; rule_numbers = numbered_on title count M.rule_numbers }
unfolding rule_added
rule-adds title count one M = refl

pub start-adds : (title : Option Text) (count : ℕ) (one : Start) (M : Made) →
    start_added title count one M ≡ record M { starts = M.starts ++ one ∷ []; start_numbers = numbered_on title count M.start_numbers }
unfolding start_added
start-adds title count one M = refl

pub invariant-adds : (title : Option Text) (count : ℕ) (one : TypedFormula) (M : Made) →
    invariant_added title count one M ≡ record M { invariants = M.invariants ++ one ∷ []; invariant_numbers = numbered_on title count M.invariant_numbers }
unfolding invariant_added
invariant-adds title count one M = refl

pub left-opens : (m : Mark) (G : Gathered) → left m G ≡ record { inside = cut m G.inside; made = G.made }
unfolding left
left-opens m G = refl

pub ruleset added = (fault-opens, body-opens, claim-opens, rule-opens, start-opens, invariant-opens, rule-adds, start-adds, invariant-adds, left-opens)

-- Items

pub rule-is-done : (rs : List Routine) (past : Option Span) (title : Option Text) (at : Span) (b : Bodied) (M : Made) →
    rule_done rs past title at b M ≡ record {
      inside = with_fault (body_fault past at (stopped (M.rule_numbers.instances + stopped (instances b.inside.params))) b.inside.params b.part) b.inside;
      made = rule_added title (stopped (instances b.inside.params)) (rule_tree rs (titled M.rule_numbers title) b.inside.params b.part) M;
    }
unfolding rule_done
rule-is-done rs past title at b M = refl

pub start-is-done : (rs : List Routine) (past : Option Span) (title : Option Text) (at : Span) (b : Bodied) (M : Made) →
    start_done rs past title at b M ≡ record {
      inside = with_fault (body_fault past at (stopped (M.start_numbers.instances + stopped (instances b.inside.params))) b.inside.params b.part) b.inside;
      made = start_added title (stopped (instances b.inside.params)) (start_tree rs (titled M.start_numbers title) b.inside.params b.part) M;
    }
unfolding start_done
start-is-done rs past title at b M = refl

pub invariant-is-done : (rs : List Routine) (size : Option Name) (title : Option Text) (written : Expr) (at : Span) (c : Claimed) (M : Made) →
    invariant_done rs size title written at c M ≡ record {
      inside = with_fault (claim_fault at (stopped (M.invariant_numbers.instances + stopped (instances c.inside.params))) c) c.inside;
      made = invariant_added title (stopped (instances c.inside.params)) (invariant_tree rs size written (titled M.invariant_numbers title) c.inside.params c.part.tree) M;
    }
unfolding invariant_done
invariant-is-done rs size title written at c M = refl

pub ruleset steps = (rule-is-done, start-is-done, invariant-is-done)

-- What the calls say, put together

pub rule-whole : (rs : List Routine) (title : Name) (params : List Parameter) (part : JudgedBody) (h : Head) (one : Rule) →
    h ≡ head_of rs params part.guard part.body → one ≡ rule_from title h part → one ≡ rule_tree rs title params part
unfolding rule_tree
rule-whole rs title params part h one head is = is ∙ ap (λ (x : Head). rule_from title x part) head

pub start-whole : (rs : List Routine) (title : Name) (params : List Parameter) (part : JudgedBody) (h : Head) (one : Start) →
    h ≡ head_of rs params None part.body → one ≡ start_from title h part → one ≡ start_tree rs title params part
unfolding start_tree
start-whole rs title params part h one head is = is ∙ ap (λ (x : Head). start_from title x part) head

pub next-rule : (rs : List Routine) (title : Option Text) (count : ℕ) (params : List Parameter) (part : JudgedBody) (M N : Made) (text : Name) (one : Rule) →
    text ≡ titled M.rule_numbers title → one ≡ rule_tree rs text params part → N ≡ rule_added title count one M →
    N ≡ rule_added title count (rule_tree rs (titled M.rule_numbers title) params part) M
next-rule rs title count params part M N text one named is adds =
    adds ∙ ap (λ x. rule_added title count x M) (is ∙ ap (λ x. rule_tree rs x params part) named)

pub next-start : (rs : List Routine) (title : Option Text) (count : ℕ) (params : List Parameter) (part : JudgedBody) (M N : Made) (text : Name) (one : Start) →
    text ≡ titled M.start_numbers title → one ≡ start_tree rs text params part → N ≡ start_added title count one M →
    N ≡ start_added title count (start_tree rs (titled M.start_numbers title) params part) M
next-start rs title count params part M N text one named is adds =
    adds ∙ ap (λ x. start_added title count x M) (is ∙ ap (λ x. start_tree rs x params part) named)

pub next-invariant : (rs : List Routine) (size : Option Name) (written : Expr) (title : Option Text) (count : ℕ) (params : List Parameter) (tree : Tree) (M N : Made) (text : Name) (one : TypedFormula) →
    text ≡ titled M.invariant_numbers title → one ≡ invariant_tree rs size written text params tree → N ≡ invariant_added title count one M →
    N ≡ invariant_added title count (invariant_tree rs size written (titled M.invariant_numbers title) params tree) M
next-invariant rs size written title count params tree M N text one named is adds =
    adds ∙ ap (λ x. invariant_added title count x M) (is ∙ ap (λ x. invariant_tree rs size written x params tree) named)

abbrev put_together : Inside → Made → Gathered
put_together I M = record { inside = I; made = M }

pub rule-put : (rs : List Routine) (past : Option Span) (title : Option Text) (at : Span) (b : Bodied) (M N : Made) (I : Inside) (ps : List Parameter) (own count : ℕ) (fault : Option Fault) →
    ps ≡ b.inside.params → own ≡ stopped (instances ps) → count ≡ stopped (M.rule_numbers.instances + own) → fault ≡ body_fault past at count ps b.part →
    N ≡ rule_added title own (rule_tree rs (titled M.rule_numbers title) ps b.part) M → I ≡ with_fault fault b.inside →
    record { inside = I; made = N } ≡ rule_done rs past title at b M
unfolding rule_done
rule-put rs past title at b M N I ps own count fault same counts sums faults adds inside =
    let m = stopped (instances b.inside.params) in
    let own-is : own ≡ m = counts ∙ ap (λ xs. stopped (instances xs)) same in
    let whole = stopped (M.rule_numbers.instances + m) in
    let fault-is : fault ≡ body_fault past at whole b.inside.params b.part =
    faults ∙ ap (λ xs. body_fault past at count xs b.part) same
    ∙ ap (λ n. body_fault past at n b.inside.params b.part) (sums ∙ ap (λ n. stopped (M.rule_numbers.instances + n)) own-is) in
    ap (λ x. put_together x N) (inside ∙ ap (λ o. with_fault o b.inside) fault-is)
    ∙ ap (put_together (with_fault (body_fault past at whole b.inside.params b.part) b.inside))
    (adds ∙ ap (λ n. rule_added title n (rule_tree rs (titled M.rule_numbers title) ps b.part) M) own-is
    ∙ ap (λ xs. rule_added title m (rule_tree rs (titled M.rule_numbers title) xs b.part) M) same)

pub start-put : (rs : List Routine) (past : Option Span) (title : Option Text) (at : Span) (b : Bodied) (M N : Made) (I : Inside) (ps : List Parameter) (own count : ℕ) (fault : Option Fault) →
    ps ≡ b.inside.params → own ≡ stopped (instances ps) → count ≡ stopped (M.start_numbers.instances + own) → fault ≡ body_fault past at count ps b.part →
    N ≡ start_added title own (start_tree rs (titled M.start_numbers title) ps b.part) M → I ≡ with_fault fault b.inside →
    record { inside = I; made = N } ≡ start_done rs past title at b M
unfolding start_done
start-put rs past title at b M N I ps own count fault same counts sums faults adds inside =
    let m = stopped (instances b.inside.params) in
    let own-is : own ≡ m = counts ∙ ap (λ xs. stopped (instances xs)) same in
    let whole = stopped (M.start_numbers.instances + m) in
    let fault-is : fault ≡ body_fault past at whole b.inside.params b.part =
    faults ∙ ap (λ xs. body_fault past at count xs b.part) same
    ∙ ap (λ n. body_fault past at n b.inside.params b.part) (sums ∙ ap (λ n. stopped (M.start_numbers.instances + n)) own-is) in
    ap (λ x. put_together x N) (inside ∙ ap (λ o. with_fault o b.inside) fault-is)
    ∙ ap (put_together (with_fault (body_fault past at whole b.inside.params b.part) b.inside))
    (adds ∙ ap (λ n. start_added title n (start_tree rs (titled M.start_numbers title) ps b.part) M) own-is
    ∙ ap (λ xs. start_added title m (start_tree rs (titled M.start_numbers title) xs b.part) M) same)

pub invariant-put : (rs : List Routine) (size : Option Name) (title : Option Text) (written : Expr) (at : Span) (c : Claimed) (M N : Made) (I : Inside) (ps qs : List Parameter) (own count : ℕ) (fault : Option Fault) →
    ps ≡ c.inside.params → own ≡ stopped (instances ps) → count ≡ stopped (M.invariant_numbers.instances + own) → fault ≡ claim_fault at count c → qs ≡ c.inside.params →
    N ≡ invariant_added title own (invariant_tree rs size written (titled M.invariant_numbers title) qs c.part.tree) M → I ≡ with_fault fault c.inside →
    record { inside = I; made = N } ≡ invariant_done rs size title written at c M
unfolding invariant_done
invariant-put rs size title written at c M N I ps qs own count fault same counts sums faults again adds inside =
    let m = stopped (instances c.inside.params) in
    let own-is : own ≡ m = counts ∙ ap (λ xs. stopped (instances xs)) same in
    let whole = stopped (M.invariant_numbers.instances + m) in
    let fault-is : fault ≡ claim_fault at whole c = faults ∙ ap (λ n. claim_fault at n c) (sums ∙ ap (λ n. stopped (M.invariant_numbers.instances + n)) own-is) in
    ap (λ x. put_together x N) (inside ∙ ap (λ o. with_fault o c.inside) fault-is)
    ∙ ap (put_together (with_fault (claim_fault at whole c) c.inside))
    (adds ∙ ap (λ n. invariant_added title n (invariant_tree rs size written (titled M.invariant_numbers title) qs c.part.tree) M) own-is
    ∙ ap (λ xs. invariant_added title m (invariant_tree rs size written (titled M.invariant_numbers title) xs c.part.tree) M) again)
