-- The marks of a place in the translation stand for its node indices, those of its shape in the symmetry rules for
-- all its indices. Both say which index is the variable of a loop.
use Rattle.std.proofs.Common.{◌≡◌, ℕ, zero, suc, Bool, true, false, ◌&&◌, List, [], ◌∷◌, ◌++◌, length, Option, None, Some, ◌⊎◌, inl, inr, refl, sym, ap, ◌∙◌, subst, arith}
use Rattle.std.specs.Prelude.{slice_get, nat_eq, option_map, option_and_then, if◌then◌else◌}
use Rattle.std.specs.Str.{bytes_eq}
use Rattle.std.proofs.lemmas.Bool.{and_parts}
use Rattle.term_core.specs.declared.value.Value.{Value}
use Rattle.term_core.specs.declared.value.Value.TheVariants as value
use Rattle.term_core.specs.declared.term.Term.{Term}
use Rattle.term_core.specs.Values.{same_value}
use Rattle.term_core.specs.Variables.{is_no_node}
use Rattle.term_core.specs.Substitution.{lifted}
use Rattle.murphi_ast.specs.declared.token.Span.{Span}
use Rattle.murphi_typed.specs.Families.{Path}
use Rattle.murphi_typed.specs.Store.{Owner, Global, Local, Formal, same_owner, beyond}
use Rattle.scalarset_rules.specs.declared.shape.Binder.{Binder}
use Rattle.scalarset_rules.specs.Accesses.{Shape, Access, from_call}
use Rattle.scalarset_rules.specs.Rules.{marks, is_it, one_later, first_at}
use Rattle.scalarset_rules.specs.Turns.{fields, is_front, node_at}
use Rattle.rule_inline.specs.Tables.{Key, holes, Slot, Family, Leaving, Result, Terms, Marks, Index, Axis, Among, Spot, marks_of, Shown, Match, matched, renewed_term, written, axis_in, or_else}
use Rattle.rule_inline.specs.Presents.{at_nodes}
use Rattle.rule_inline.proofs.ValueLemmas.{absurd_false, nats_one, nat_itself}
use Rattle.rule_inline.proofs.TypeLemmas.{not_some, some_one}
use Rattle.rule_inline.proofs.PlaceLemmas.{NoNodes}

pub mapped_some : {A B : Type 0} (f : A → B) (o : Option A) (b : B) → option_map f o ≡ Some b → (a : A) × (o ≡ Some a)
mapped_some f None b e = not_some e
mapped_some f (Some a) b e = (a, refl)

pub either_some : {A : Type 0} (a b : Option A) (x : A) → or_else a b ≡ Some x → (a ≡ Some x) ⊎ (b ≡ Some x)
either_some None b x e = inr e
either_some (Some a) b x e = inl e

owners_one : (a b : Owner) → same_owner a b ≡ true → a ≡ b
owners_one (Global a) (Global b) e = ap Global (nats_one a b e)
owners_one (Local d a) (Local o b) e = let (x, y) = and_parts (nat_eq d o) (nat_eq a b) e in ap (λ n. Local n a) (nats_one d o x) ∙ ap (Local o) (nats_one a b y)
owners_one (Formal d a) (Formal o b) e = let (x, y) = and_parts (nat_eq d o) (nat_eq a b) e in ap (λ n. Formal n a) (nats_one d o x) ∙ ap (Formal o) (nats_one a b y)
owners_one (Global a) (Local o b) e = absurd_false e
owners_one (Global a) (Formal o b) e = absurd_false e
owners_one (Local d a) (Global b) e = absurd_false e
owners_one (Local d a) (Formal o b) e = absurd_false e
owners_one (Formal d a) (Global b) e = absurd_false e
owners_one (Formal d a) (Local o b) e = absurd_false e

front_of : (front path further : Path) → beyond bytes_eq front path ≡ Some further → is_front front path ≡ true
front_of [] path further e = refl
front_of (name ∷ front) [] further e = not_some e
front_of (name ∷ front) (other ∷ path) further e = go (bytes_eq name other) refl e (λ f. front_of front path further f)
  where
    go : (b : Bool) → bytes_eq name other ≡ b → (if b then beyond bytes_eq front path else None) ≡ Some further → (beyond bytes_eq front path ≡ Some further → is_front front path ≡ true) → (b && is_front front path) ≡ true
    go true was e again = again e
    go false was e again = not_some e

-- Places of holes

-- the number of the hole at a place of a key
abbrev pub hole_at : ℕ → Key → Option ℕ
hole_at p [] = None
hole_at zero (None ∷ key) = Some 0
hole_at zero (Some w ∷ key) = None
hole_at (suc p) (None ∷ key) = option_map suc (hole_at p key)
hole_at (suc p) (Some w ∷ key) = hole_at p key

some_none : {A X : Type 0} {a : A} → Some a ≡ None → X
some_none e = cc

pub hole_node : (p : ℕ) (key : Key) (k : ℕ) (ns : List ℕ) → hole_at p key ≡ Some k → length ns ≡ holes key → (n : ℕ) × ((slice_get ns k ≡ Some n) × (node_at n p (at_nodes key ns) ≡ true))
hole_node p [] k ns e long = not_some e
hole_node zero (None ∷ key) k [] e long = absurd (omega (arith, long))
hole_node zero (None ∷ key) k (n ∷ ns) e long = (n, (ap (slice_get (n ∷ ns)) (sym (some_one e)), nat_itself n))
hole_node zero (Some w ∷ key) k ns e long = not_some e
hole_node (suc p) (None ∷ key) k [] e long = absurd (omega (arith, long))
hole_node (suc p) (None ∷ key) k (m ∷ ns) e long =
    let (j, was) = mapped_some suc (hole_at p key) k e in
    let same : suc j ≡ k = some_one (sym (ap (option_map suc) was) ∙ e) in
    let (n, found) = hole_node p key j ns was (omega (arith, long)) in
    (n, (ap (slice_get (m ∷ ns)) (sym same) ∙ found.0, found.1))
hole_node (suc p) (Some w ∷ key) k ns e long = hole_node p key k ns e long

other_value : (w : Value) (m : ℕ) → is_no_node w ≡ true → same_value w (value.Node m) ≡ false
other_value value.Undefined m e = refl
other_value (value.Truth b) m e = refl
other_value (value.Number z) m e = refl
other_value (value.Member k i) m e = refl
other_value (value.Node n) m e = absurd_false e

pub no_hole : (p : ℕ) (key : Key) (ns : List ℕ) (m : ℕ) → hole_at p key ≡ None → NoNodes key → length ns ≡ holes key → node_at m p (at_nodes key ns) ≡ false
no_hole p [] ns m e none long = refl
no_hole zero (None ∷ key) ns m e none long = some_none e
no_hole zero (Some w ∷ key) ns m e none long = other_value w m none.0
no_hole (suc p) (None ∷ key) [] m e none long = absurd (omega (arith, long))
no_hole (suc p) (None ∷ key) (n ∷ ns) m e none long = no_hole p key ns m (unmapped (hole_at p key) e) none (omega (arith, long))
  where
    unmapped : (o : Option ℕ) → option_map suc o ≡ None → o ≡ None
    unmapped None e = refl
    unmapped (Some x) e = cc
no_hole (suc p) (Some w ∷ key) ns m e none long = no_hole p key ns m e none.1 long

-- Marks

module _ (v : Binder) (F : ℕ) where
  abbrev pub is_loop : Option ℕ → Bool
  is_loop None = false
  is_loop (Some k) = nat_eq k F

  -- a mark of the translation and one of the rules both are the variable of the loop, or neither is
  abbrev pub MarkIs : Option ℕ → Option Binder → Type 0
  MarkIs m b = is_loop m ≡ is_it v b

  abbrev pub IndexTies : List Index → List (Option Binder) → Type 0
  IndexTies [] [] = Unit {0}
  IndexTies [] (b ∷ bs) = ⊥
  IndexTies (i ∷ is) [] = ⊥
  IndexTies (Axis m e ∷ is) (b ∷ bs) = MarkIs m b × IndexTies is bs
  IndexTies (Among ws e ∷ is) (b ∷ bs) = (is_it v b ≡ false) × IndexTies is bs

  pub index_joined : (is js : List Index) (bs cs : List (Option Binder)) → IndexTies is bs → IndexTies js cs → IndexTies (is ++ js) (bs ++ cs)
  index_joined [] js [] cs a b = b
  index_joined [] js (x ∷ bs) cs a b = absurd a
  index_joined (i ∷ is) js [] cs a b = absurd a
  index_joined (Axis m e ∷ is) js (x ∷ bs) cs (one, a) b = (one, index_joined is js bs cs a b)
  index_joined (Among ws e ∷ is) js (x ∷ bs) cs (one, a) b = (one, index_joined is js bs cs a b)

  abbrev pub PlaceTie : Spot → Shape → Type 0
  PlaceTie spot shape = (spot.owner ≡ shape.owner) × ((spot.path ≡ fields shape.parts) × IndexTies spot.at (marks shape.parts))

  -- the marks for the holes of a key beside those for all its indices
  abbrev pub Ties : Key → Marks → List (Option Binder) → Type 0
  Ties key ms [] = ms ≡ []
  Ties [] ms (b ∷ bs) = ⊥
  Ties (None ∷ key) [] (b ∷ bs) = ⊥
  Ties (None ∷ key) (m ∷ ms) (b ∷ bs) = MarkIs m b × Ties key ms bs
  Ties (Some w ∷ key) ms (b ∷ bs) = (is_it v b ≡ false) × Ties key ms bs

  matched_ties : (lift : Term → Term) (axis : ℕ) (is : List Index) (key : Key) (bs : List (Option Binder)) (m : Match) → IndexTies is bs → matched lift axis is key ≡ Some m → Ties key (marks_of is) bs
  matched_ties lift axis [] key [] m a e = refl
  matched_ties lift axis [] key (b ∷ bs) m a e = absurd a
  matched_ties lift axis (i ∷ is) key [] m a e = absurd a
  matched_ties lift axis (Axis mark i ∷ is) [] (b ∷ bs) m a e = not_some e
  matched_ties lift axis (Axis mark i ∷ is) (None ∷ key) (b ∷ bs) m (one, a) e =
      let (n, was) = mapped_some _ (matched lift (suc axis) is key) m e in
      (one, matched_ties lift (suc axis) is key bs n a was)
  matched_ties lift axis (Axis mark i ∷ is) (Some w ∷ key) (b ∷ bs) m a e = not_some e
  matched_ties lift axis (Among ws i ∷ is) [] (b ∷ bs) m a e = not_some e
  matched_ties lift axis (Among ws i ∷ is) (None ∷ key) (b ∷ bs) m a e = not_some e
  matched_ties lift axis (Among ws i ∷ is) (Some w ∷ key) (b ∷ bs) m (one, a) e =
      let (n, was) = mapped_some _ (matched lift axis is key) m e in
      (one, matched_ties lift axis is key bs n a was)

  loop_mark : (m : Option ℕ) (ms : Marks) → is_loop m ≡ true → axis_in F (m ∷ ms) ≡ Some 0
  loop_mark None ms e = absurd_false e
  loop_mark (Some k) ms e = ap (λ b. if b then Some 0 else option_map suc (axis_in F ms)) e

  later_mark : (m : Option ℕ) (ms : Marks) → is_loop m ≡ false → axis_in F (m ∷ ms) ≡ option_map suc (axis_in F ms)
  later_mark None ms e = refl
  later_mark (Some k) ms e = ap (λ b. if b then Some 0 else option_map suc (axis_in F ms)) e

  -- the place of a write is that of the axis
  pub ties_axis : (key : Key) (ms : Marks) (bs : List (Option Binder)) (p : ℕ) → Ties key ms bs → first_at v bs ≡ Some p → (k : ℕ) × ((axis_in F ms ≡ Some k) × (hole_at p key ≡ Some k))
  ties_axis key ms [] p a e = not_some e
  ties_axis [] ms (b ∷ bs) p a e = absurd a
  ties_axis (None ∷ key) [] (b ∷ bs) p a e = absurd a
  ties_axis (None ∷ key) (m ∷ ms) (b ∷ bs) p (one, a) e = go (is_it v b) refl e (λ q f. ties_axis key ms bs q a f)
    where
      later : (o : Option ℕ) → one_later o ≡ Some p → (q : ℕ) × ((o ≡ Some q) × (p ≡ suc q))
      later None e = not_some e
      later (Some q) e = (q, (refl, sym (some_one e)))

      go : (c : Bool) → is_it v b ≡ c → (if c then Some 0 else one_later (first_at v bs)) ≡ Some p → ((q : ℕ) → first_at v bs ≡ Some q → (k : ℕ) × ((axis_in F ms ≡ Some k) × (hole_at q key ≡ Some k))) → (k : ℕ) × ((axis_in F (m ∷ ms) ≡ Some k) × (hole_at p (None ∷ key) ≡ Some k))
      go true was e again = (0, (loop_mark m ms (one ∙ was), ap (λ q. hole_at q (None ∷ key)) (sym (some_one e))))
      go false was e again =
          let (q, found) = later (first_at v bs) e in
          let (k, both) = again q found.0 in
          (suc k, (later_mark m ms (one ∙ was) ∙ ap (option_map suc) both.0, ap (λ r. hole_at r (None ∷ key)) found.1 ∙ ap (option_map suc) both.1))
  ties_axis (Some w ∷ key) ms (b ∷ bs) p (one, a) e =
      let (q, found) = later (first_at v bs) (sym (ap (λ c. if c then Some 0 else one_later (first_at v bs)) one) ∙ e) in
      let (k, both) = ties_axis key ms bs q a found.0 in
      (k, (both.0, ap (λ r. hole_at r (Some w ∷ key)) found.1 ∙ both.1))
    where
      later : (o : Option ℕ) → one_later o ≡ Some p → (q : ℕ) × ((o ≡ Some q) × (p ≡ suc q))
      later None e = not_some e
      later (Some q) e = (q, (refl, sym (some_one e)))

  -- Writes

  -- a designator of this shape writes cells of the family, with these marks
  abbrev pub Hits : Shape → Owner → Path → Key → Marks → Type 0
  Hits shape owner path key ms = (shape.owner ≡ owner) × ((is_front (fields shape.parts) path ≡ true) × Ties key ms (marks shape.parts))

  pub written_hits : (frame : ℕ) (T : Terms) (spot : Spot) (new : Shown) (shape : Shape) (owner : Owner) (path : Path) (key : Key) (ms : Marks) → PlaceTie spot shape → (written frame T spot new).first (Family owner path key) ≡ Some ms → Hits shape owner path key ms
  written_hits frame T spot new shape owner path key ms tie e = go (same_owner owner spot.owner) refl e
    where
      keyed : (further : Path) → beyond bytes_eq spot.path path ≡ Some further → owner ≡ spot.owner → (o : Option Match) → matched (lifted frame (holes key)) frame spot.at key ≡ o → option_map (λ _. marks_of spot.at) (option_map (renewed_term frame new further (T (Family owner path key))) o) ≡ Some ms → Hits shape owner path key ms
      keyed further front same None was e = not_some e
      keyed further front same (Some m) was e = (
        sym (same ∙ tie.0),
        (ap (λ q. is_front q path) (sym tie.1.0) ∙ front_of spot.path path further front, subst (λ xs. Ties key xs (marks shape.parts)) (some_one e) (matched_ties (lifted frame (holes key)) frame spot.at key (marks shape.parts) m tie.1.1 was)),
      )

      under : owner ≡ spot.owner → (o : Option Path) → beyond bytes_eq spot.path path ≡ o → option_map (λ _. marks_of spot.at) (option_and_then (λ further. option_map (renewed_term frame new further (T (Family owner path key))) (matched (lifted frame (holes key)) frame spot.at key)) o) ≡ Some ms → Hits shape owner path key ms
      under same None was e = not_some e
      under same (Some further) was e = keyed further was same (matched (lifted frame (holes key)) frame spot.at key) refl e

      go : (b : Bool) → same_owner owner spot.owner ≡ b → option_map (λ _. marks_of spot.at) (if b then option_and_then (λ further. option_map (renewed_term frame new further (T (Family owner path key))) (matched (lifted frame (holes key)) frame spot.at key)) (beyond bytes_eq spot.path path) else None) ≡ Some ms → Hits shape owner path key ms
      go true was e = under (owners_one owner spot.owner was) (beyond bytes_eq spot.path path) refl e
      go false was e = not_some e

  -- some write of a list does
  abbrev pub SomeWrite : List Access → Owner → Path → Key → Marks → Type 0
  SomeWrite [] owner path key ms = ⊥
  SomeWrite (a ∷ all) owner path key ms = ((a.write ≡ true) × Hits a.shape owner path key ms) ⊎ SomeWrite all owner path key ms

  -- the marks with which a body writes first are those of one of its writes; no `return` has marks
  abbrev pub FirstIs : List Access → Slot → Marks → Type 0
  FirstIs all (Family owner path key) ms = SomeWrite all owner path key ms
  FirstIs all Leaving ms = ms ≡ []
  FirstIs all Result ms = ms ≡ []

  some_front : (xs ys : List Access) (owner : Owner) (path : Path) (key : Key) (ms : Marks) → SomeWrite xs owner path key ms → SomeWrite (xs ++ ys) owner path key ms
  some_front [] ys owner path key ms a = absurd a
  some_front (x ∷ xs) ys owner path key ms (inl a) = inl a
  some_front (x ∷ xs) ys owner path key ms (inr a) = inr (some_front xs ys owner path key ms a)

  some_back : (xs ys : List Access) (owner : Owner) (path : Path) (key : Key) (ms : Marks) → SomeWrite ys owner path key ms → SomeWrite (xs ++ ys) owner path key ms
  some_back [] ys owner path key ms a = a
  some_back (x ∷ xs) ys owner path key ms a = inr (some_back xs ys owner path key ms a)

  some_called : (call : Span) (xs : List Access) (owner : Owner) (path : Path) (key : Key) (ms : Marks) → SomeWrite xs owner path key ms → SomeWrite (from_call call xs) owner path key ms
  some_called call [] owner path key ms a = absurd a
  some_called call (x ∷ xs) owner path key ms (inl a) = inl a
  some_called call (x ∷ xs) owner path key ms (inr a) = inr (some_called call xs owner path key ms a)

  pub first_front : (xs ys : List Access) (slot : Slot) (ms : Marks) → FirstIs xs slot ms → FirstIs (xs ++ ys) slot ms
  first_front xs ys (Family owner path key) ms a = some_front xs ys owner path key ms a
  first_front xs ys Leaving ms a = a
  first_front xs ys Result ms a = a

  pub first_back : (xs ys : List Access) (slot : Slot) (ms : Marks) → FirstIs ys slot ms → FirstIs (xs ++ ys) slot ms
  first_back xs ys (Family owner path key) ms a = some_back xs ys owner path key ms a
  first_back xs ys Leaving ms a = a
  first_back xs ys Result ms a = a

  pub first_called : (call : Span) (xs : List Access) (slot : Slot) (ms : Marks) → FirstIs xs slot ms → FirstIs (from_call call xs) slot ms
  first_called call xs (Family owner path key) ms a = some_called call xs owner path key ms a
  first_called call xs Leaving ms a = a
  first_called call xs Result ms a = a

  -- a write by its number
  pub write_there : (xs : List Access) (owner : Owner) (path : Path) (key : Key) (ms : Marks) → SomeWrite xs owner path key ms → (k : ℕ) × ((a : Access) × ((slice_get xs k ≡ Some a) × ((a.write ≡ true) × Hits a.shape owner path key ms)))
  write_there [] owner path key ms a = absurd a
  write_there (x ∷ xs) owner path key ms (inl a) = (0, (x, (refl, a)))
  write_there (x ∷ xs) owner path key ms (inr a) = let (k, (w, rest)) = write_there xs owner path key ms a in (suc k, (w, rest))
