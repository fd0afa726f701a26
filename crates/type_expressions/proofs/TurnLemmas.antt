-- One turn of each loop over the parts of a tree, and its end.
use Rattle.std.proofs.Common.{◌≡◌, ℕ, suc, ◌+◌, Bool, true, false, ◌&&◌, List, [], ◌∷◌, ◌++◌, length, drop, Option, None, Some, is_some, refl, ap, sym, subst, ◌∙◌, arith, append_assoc}
use Rattle.std.specs.Prelude.{is_none, slice_get}
use Rattle.murphi_ast.specs.declared.token.Span.{Span}
use Rattle.murphi_ast.specs.declared.expr.Named.{Named}
use Rattle.murphi_ast.specs.declared.expr.Link.{Link}
use Rattle.murphi_ast.specs.declared.expr.FieldDecl.{FieldDecl}
use Rattle.murphi_ast.specs.declared.expr.Selector as part
use Rattle.murphi_ast.specs.declared.expr.Selector.{Selector}
use Rattle.murphi_ast.specs.declared.expr.Expr.{Expr}
use Rattle.murphi_typed.specs.declared.types.Simple.{Simple}
use Rattle.murphi_typed.specs.declared.types.AnyType.{AnyType}
use Rattle.murphi_typed.specs.declared.types.Field.{Field}
use Rattle.murphi_typed.specs.declared.expr.Selector as select
use Rattle.murphi_typed.specs.declared.expr.Link as typed
use Rattle.murphi_typed.specs.declared.expr.Argument.{Argument}
use Rattle.murphi_types.specs.declared.fault.Fault.{Fault}
use Rattle.murphi_types.specs.declared.scope.Known.{Known}
use Rattle.murphi_types.specs.declared.scope.Scope.{Scope}
use Rattle.murphi_types.specs.Faults.{sooner, first_fault}
use Rattle.murphi_types.specs.Weights.{stopped}
use Rattle.murphi_types.specs.Places.{place_of}
use Rattle.murphi_types.specs.Fitting.{fits, has_values_of}
use Rattle.murphi_types.specs.Found.{Found, FoundLinks, no_links, wanted, link_found}
use Rattle.murphi_types.specs.Designators.{Chosen, FoundSelectors, no_selectors, field_chosen, field_found, index_type, index_fits, index_tree, item_chosen, index_found}
use Rattle.murphi_types.specs.Types.{FoundType, FoundFields, Unnamed, no_fields, fields_named, more_fields, field_made}
use Rattle.murphi_types.specs.Typing.{found, type_found}
use Rattle.murphi_types.specs.Lists.{list_selectors}
use Rattle.type_parts.specs.declared.judged.Judged.{Judged}
use Rattle.type_parts.specs.declared.judged.JudgedLinks.{JudgedLinks}
use Rattle.type_parts.specs.declared.judged.JudgedFields.{JudgedFields}
use Rattle.type_parts.specs.Judging.{judged, kept, Linked, linked}
use Rattle.type_parts.proofs.FaultLemmas.{first-append, sooner-assoc, sooner-none}
use Rattle.type_parts.proofs.WeightLemmas.{stopped-stopped, stopped-left, stopped-right}
use Rattle.type_forms.specs.declared.designators.Walked.{Walked}
use Rattle.type_forms.specs.Designating.{field_walked, index_kept, item_after, index_walked, Selected, selected, selectors_judged, judged_selectors}
use Rattle.type_forms.specs.Writing.{joined_fields, fields_of, fielded_by, Fielded, fielded}
use Rattle.type_expressions.specs.PartLists.{list_links, list_fields}
use Rattle.type_expressions.specs.PartsGiven.{part_of, links_of, selectors_of, type_part, fields_part, linked_by}
use Rattle.type_expressions.specs.Turns.{nothing_linked, nothing_walked, nothing_fielded}
use Rattle.type_expressions.proofs.PartLemmas.{kept-is}

pub weight-turn : (d f g : ℕ) → stopped (stopped (d + stopped f) + g) ≡ stopped (d + (f + g))
weight-turn d f g =
    let p : (d + stopped f) + g ≡ stopped f + (d + g) = omega arith in
    let q : f + (d + g) ≡ d + (f + g) = omega arith in
    stopped-left (d + stopped f) g ∙ ap stopped p ∙ stopped-left f (d + g) ∙ ap stopped q

pub fault-turn : (d : Option Fault) (fs gs : List Fault) → sooner (sooner d (first_fault fs)) (first_fault gs) ≡ sooner d (first_fault (fs ++ gs))
fault-turn d fs gs = sooner-assoc d (first_fault fs) (first_fault gs) ∙ ap (sooner d) (sym (first-append fs gs))

pub and-assoc : (a b c : Bool) → ((a && b) && c) ≡ (a && (b && c))
and-assoc true b c = refl
and-assoc false b c = refl

pub and-true : (a : Bool) → (a && true) ≡ a
and-true true = refl
and-true false = refl

pub append-nil : {A : Type 0} (xs : List A) → xs ++ [] ≡ xs
append-nil [] = refl
append-nil (x ∷ xs) = ap (λ ys. x ∷ ys) (append-nil xs)

-- Operands of a chain

abbrev linked_whole : Bool → List typed.Link → ℕ → Option Fault → Known → Linked
linked_whole b ts w o k = record { part = record { typed = b; trees = ts; weight = w; fault = o }; known = k }

link-parts : (op : _) (f : Found) (d : JudgedLinks) (g : FoundLinks) → linked (linked_by op (judged f) d) g ≡ linked d (link_found op f g)
link-parts op f d g =
    let one : typed.Link = record { op = op; operand = f.tree } in
    ap (λ b. linked_whole b ((d.trees ++ one ∷ []) ++ g.trees) (stopped (stopped (d.weight + stopped f.weight) + g.weight)) (sooner (sooner d.fault (first_fault f.faults)) (first_fault g.faults)) g.known) (and-assoc d.typed (is_some f.type) g.typed)
    ∙ ap (λ ts. linked_whole (d.typed && (is_some f.type && g.typed)) ts (stopped (stopped (d.weight + stopped f.weight) + g.weight)) (sooner (sooner d.fault (first_fault f.faults)) (first_fault g.faults)) g.known) (append_assoc d.trees (one ∷ []) g.trees)
    ∙ ap (λ w. linked_whole (d.typed && (is_some f.type && g.typed)) (d.trees ++ one ∷ g.trees) w (sooner (sooner d.fault (first_fault f.faults)) (first_fault g.faults)) g.known) (weight-turn d.weight f.weight g.weight)
    ∙ ap (λ o. linked_whole (d.typed && (is_some f.type && g.typed)) (d.trees ++ one ∷ g.trees) (stopped (d.weight + (f.weight + g.weight))) o g.known) (fault-turn d.fault f.faults g.faults)

pub link-turn : (s : Scope) (k : Known) (type : Simple) (l : Link) (d : JudgedLinks) (rest : List Link) → linked (linked_by l.op (kept (fits (has_values_of type) (part_of (found s k l.operand)).of) (place_of l.operand) (part_of (found s k l.operand))) d) (list_links s (found s k l.operand).known type rest) ≡ linked d (list_links s k type (l ∷ rest))
unfolding part_of
link-turn s k type l d rest =
    let f = found s k l.operand in
    let F = wanted (has_values_of type) (place_of l.operand) f in
    ap (λ j. linked (linked_by l.op j d) (list_links s f.known type rest)) (sym (kept-is (has_values_of type) (place_of l.operand) f))
    ∙ link-parts l.op F d (list_links s f.known type rest)

pub links-end : (d : JudgedLinks) (k : Known) (whole : FoundLinks) → stopped d.weight ≡ d.weight → linked d (no_links k) ≡ linked nothing_linked whole → (d ≡ links_of whole) × (k ≡ whole.known)
unfolding links_of
links-end d k whole w h =
    let n : d.weight + 0 ≡ d.weight = omega arith in
    let z : 0 + whole.weight ≡ whole.weight = omega arith in (
      ap (λ b. record { typed = b; trees = d.trees; weight = d.weight; fault = d.fault }) (sym (and-true d.typed))
          ∙ ap (λ ts. record { typed = d.typed && true; trees = ts; weight = d.weight; fault = d.fault }) (sym (append-nil d.trees))
          ∙ ap (λ v. record { typed = d.typed && true; trees = d.trees ++ []; weight = v; fault = d.fault }) (sym (ap stopped n ∙ w))
          ∙ ap (λ o. record { typed = d.typed && true; trees = d.trees ++ []; weight = stopped (d.weight + 0); fault = o }) (sym (sooner-none d.fault))
          ∙ ap (λ (x : Linked). x.part) h
          ∙ ap (λ v. record { typed = whole.typed; trees = whole.trees; weight = stopped v; fault = first_fault whole.faults }) z,
      ap (λ (x : Linked). x.known) h,
    )

-- Fields and indices

abbrev selected_whole : Option AnyType → List select.Selector → ℕ → Option Fault → Known → Selected
selected_whole of ts w o k = record { of = of; part = record { trees = ts; weight = w; fault = o }; known = k }

pub field-turn : (s : Scope) (k : Known) (at : Span) (of : Option AnyType) (name : Named) (d : Walked) (rest : List Selector) → selected (field_walked name (first_fault (field_chosen at name of).faults) d) (list_selectors s k at (field_chosen at name of).type rest) ≡ selected d (list_selectors s k at of (part.Field name ∷ rest))
field-turn s k at of name d rest =
    let c = field_chosen at name of in
    let g = list_selectors s k at c.type rest in
    let one = select.Field name.name in
    ap (λ ts. selected_whole g.type ts (stopped (d.weight + g.weight)) (sooner (sooner d.fault (first_fault c.faults)) (first_fault g.faults)) g.known) (append_assoc d.trees (one ∷ []) g.trees)
    ∙ ap (λ o. selected_whole g.type (d.trees ++ one ∷ g.trees) (stopped (d.weight + g.weight)) o g.known) (fault-turn d.fault c.faults g.faults)

index-parts : (over : Option Simple) (f : Found) (d : Walked) (c : Chosen) (g : FoundSelectors) → selected (record { trees = d.trees ++ index_tree over f.tree ∷ []; weight = stopped (d.weight + stopped f.weight); fault = sooner d.fault (sooner (first_fault f.faults) (first_fault c.faults)) }) g ≡ selected d (index_found over f c g)
index-parts over f d c g =
    let one = index_tree over f.tree in
    let F = first_fault f.faults in
    let C = first_fault c.faults in
    let G = first_fault g.faults in
    ap (λ ts. selected_whole g.type ts (stopped (stopped (d.weight + stopped f.weight) + g.weight)) (sooner (sooner d.fault (sooner F C)) G) g.known) (append_assoc d.trees (one ∷ []) g.trees)
    ∙ ap (λ w. selected_whole g.type (d.trees ++ one ∷ g.trees) w (sooner (sooner d.fault (sooner F C)) G) g.known) (weight-turn d.weight f.weight g.weight)
    ∙ ap (λ o. selected_whole g.type (d.trees ++ one ∷ g.trees) (stopped (d.weight + (f.weight + g.weight))) o g.known)
    (sooner-assoc d.fault (sooner F C) G
    ∙ ap (sooner d.fault) (sooner-assoc F C G ∙ ap (sooner F) (sym (first-append c.faults g.faults)) ∙ sym (first-append f.faults (c.faults ++ g.faults))))

pub index-turn : (s : Scope) (k : Known) (at : Span) (of : Option AnyType) (index : Expr) (d : Walked) (rest : List Selector) → selected (index_walked at (place_of index) (part_of (found s k index)) of d) (list_selectors s (found s k index).known at (item_after at (place_of index) (part_of (found s k index)) of).type rest) ≡ selected d (list_selectors s k at of (part.Index index ∷ rest))
unfolding part_of
index-turn s k at of index d rest =
    let f = found s k index in
    let F = wanted (index_fits (index_type of)) (place_of index) f in
    let c = item_chosen at (is_some F.type) of in
    let g = list_selectors s f.known at c.type rest in
    ap (λ (j : Judged). selected (record { trees = d.trees ++ index_tree (index_type of) f.tree ∷ []; weight = stopped (d.weight + stopped f.weight); fault = sooner d.fault (sooner j.fault (first_fault c.faults)) }) g)
    (sym (kept-is (index_fits (index_type of)) (place_of index) f))
    ∙ index-parts (index_type of) F d c g

pub selectors-end : (d : Walked) (of : Option AnyType) (k : Known) (whole : FoundSelectors) → stopped d.weight ≡ d.weight → selected d (no_selectors of k) ≡ selected nothing_walked whole → (selectors_judged of d ≡ selectors_of whole) × (k ≡ whole.known)
unfolding selectors_of
selectors-end d of k whole w h =
    let n : d.weight + 0 ≡ d.weight = omega arith in
    let z : 0 + whole.weight ≡ whole.weight = omega arith in (
      ap (λ ts. record { of = of; trees = ts; weight = d.weight; fault = d.fault }) (sym (append-nil d.trees))
          ∙ ap (λ v. record { of = of; trees = d.trees ++ []; weight = v; fault = d.fault }) (sym (ap stopped n ∙ w))
          ∙ ap (λ o. record { of = of; trees = d.trees ++ []; weight = stopped (d.weight + 0); fault = o }) (sym (sooner-none d.fault))
          ∙ ap (λ (x : Selected). record { of = x.of; trees = x.part.trees; weight = x.part.weight; fault = x.part.fault }) h
          ∙ ap (λ v. record { of = whole.type; trees = whole.trees; weight = stopped v; fault = first_fault whole.faults }) z,
      ap (λ (x : Selected). x.known) h,
    )

-- Fields of a record

joined-right : (fs : Option (List Field)) → joined_fields fs (Some []) ≡ fs
joined-right None = refl
joined-right (Some fs) = ap Some (append-nil fs)

joined-left : (fs : Option (List Field)) → joined_fields (Some []) fs ≡ fs
joined-left None = refl
joined-left (Some fs) = refl

joined-turn : (names : List Named) (a : Option (List Field)) (type : Option AnyType) (b : Option (List Field)) → joined_fields (joined_fields a (fields_of names type)) b ≡ joined_fields a (more_fields names type b)
joined-turn names None type b = refl
joined-turn names (Some a) None b = refl
joined-turn names (Some a) (Some type) None = refl
joined-turn names (Some a) (Some type) (Some b) = ap Some (append_assoc a (fields_named names type) b)

abbrev fielded_whole : Option (List Field) → Option Fault → Known → Fielded
fielded_whole fs o k = record { part = record { fields = fs; fault = o }; known = k }

pub field-more : (s : Scope) (k : Known) (one : FieldDecl) (d : JudgedFields) (rest : List FieldDecl) → fielded (fielded_by one.names (type_part (type_found s k Unnamed one.body)) d) (list_fields s (type_found s k Unnamed one.body).known rest) ≡ fielded d (list_fields s k (one ∷ rest))
unfolding type_part
field-more s k one d rest =
    let f = type_found s k Unnamed one.body in
    let g = list_fields s f.known rest in
    ap (λ fs. fielded_whole fs (sooner (sooner d.fault (first_fault f.faults)) (first_fault g.faults)) g.known) (joined-turn one.names d.fields f.type g.fields)
    ∙ ap (λ o. fielded_whole (joined_fields d.fields (more_fields one.names f.type g.fields)) o g.known) (fault-turn d.fault f.faults g.faults)

pub fields-end : (d : JudgedFields) (k : Known) (whole : FoundFields) → fielded d (no_fields k) ≡ fielded nothing_fielded whole → (d ≡ fields_part whole) × (k ≡ whole.known)
unfolding fields_part
fields-end d k whole h = (
  ap (λ fs. record { fields = fs; fault = d.fault }) (sym (joined-right d.fields))
      ∙ ap (λ o. record { fields = joined_fields d.fields (Some []); fault = o }) (sym (sooner-none d.fault))
      ∙ ap (λ (x : Fielded). x.part) h
      ∙ ap (λ fs. record { fields = fs; fault = first_fault whole.faults }) (joined-left whole.fields),
  ap (λ (x : Fielded). x.known) h,
)
