-- In a loop that breaks no rule each access keeps to the places of the families that it is to.
use Rattle.std.proofs.Common.{◌≡◌, ℕ, zero, suc, ◌≤◌, Bool, true, false, not, ◌&&◌, ◌||◌, List, [], ◌∷◌, ◌++◌, Option, None, Some, ◌⊎◌, inl, inr, refl, sym, ap, ◌∙◌, subst, arith}
use Rattle.std.specs.Prelude.{if◌then◌else◌, slice_get, is_some, cond}
use Rattle.std.specs.List.{flat_map, filter, list_all}
use Rattle.std.specs.Str.{bytes_eq}
use Rattle.std.proofs.lemmas.Bool.{and_parts, and_from}
use Rattle.murphi_ast.specs.declared.token.Span.{Span}
use Rattle.murphi_typed.specs.declared.types.AnyType as t
use Rattle.murphi_typed.specs.declared.types.AnyType.{AnyType}
use Rattle.murphi_typed.specs.Forms.{ArrayForm}
use Rattle.murphi_typed.specs.Families.{Path}
use Rattle.murphi_typed.specs.Store.{Owner, same_owner}
use Rattle.murphi_typed.specs.WellTyped.{field_part}
use Rattle.murphi_typed.specs.Keeping.{Declared}
use Rattle.scalarset_rules.specs.Accesses.{Binder, Part, Field, Index, Access, Loop}
use Rattle.scalarset_rules.specs.Rules.{is_prefix, overlap, marks, is_it, has_at, one_later, first_at, place_of_write, blame, rule_of, lacks, write_breaks, is_deeper, judged, breaks_of_write, loop_breaks}
use Rattle.scalarset_rules.specs.Turns.{fields, is_front, covers, place_in, family_place, array_item, part_type, goes_down, is_writable}
use Rattle.scalarset_rules.proofs.Sameness.{false-true, some_same, owners_true, owner_itself, names_true, name_itself}
use Rattle.scalarset_rules.proofs.Keeping.{Places, fine_at, Good, AllGood}

-- Lists

abbrev pub In : {A : Type 0} → A → List A → Type 0
In a [] = ⊥
In a (b ∷ bs) = (a ≡ b) ⊎ In a bs

pub all_in : {A : Type 0} (test : A → Bool) (xs : List A) (a : A) → list_all test xs ≡ true → In a xs → test a ≡ true
all_in test [] a h i = absurd i
all_in test (b ∷ bs) a h (inl e) = ap test e ∙ (and_parts (test b) (list_all test bs) h).0
all_in test (b ∷ bs) a h (inr i) = all_in test bs a (and_parts (test b) (list_all test bs) h).1 i

none_left : {A : Type 0} (xs ys : List A) → (xs ++ ys) ≡ [] → (xs ≡ []) × (ys ≡ [])
none_left [] ys e = (refl, e)
none_left (x ∷ xs) ys e = cc

pub none_in : {A B : Type 0} (f : A → List B) (xs : List A) (a : A) → flat_map f xs ≡ [] → In a xs → f a ≡ []
none_in f [] a e i = absurd i
none_in f (b ∷ bs) a e (inl same) = ap f same ∙ (none_left (f b) (flat_map f bs) e).0
none_in f (b ∷ bs) a e (inr i) = none_in f bs a (none_left (f b) (flat_map f bs) e).1 i

pub kept_in : {A : Type 0} (test : A → Bool) (xs : List A) (a : A) → In a xs → test a ≡ true → In a (filter test xs)
kept_in test [] a i e = absurd i
kept_in test (b ∷ bs) a i e = go (λ j. kept_in test bs a j e) (test b) refl i
  where
    go : (In a bs → In a (filter test bs)) → (x : Bool) → test b ≡ x → (a ≡ b) ⊎ In a bs → In a (cond x (b ∷ filter test bs) (filter test bs))
    go again true was (inl same) = inl same
    go again true was (inr j) = inr (again j)
    go again false was (inl same) = false-true (sym was ∙ ap test (sym same) ∙ e)
    go again false was (inr j) = again j

pub good_from : (v : Binder) (keep : Places) (xs : List Access) → ((a : Access) → In a xs → Good v keep a) → AllGood v keep xs
good_from v keep [] each = tt
good_from v keep (x ∷ xs) each = (each x (inl refl), good_from v keep xs (λ a i. each a (inr i)))

-- Shapes that go down one type

no_part : (ps : List Part) → part_type None ps ≡ None
no_part [] = refl
no_part (Field name ∷ ps) = no_part ps
no_part (Index m ∷ ps) = no_part ps

pub nothing_down : {A : Type 0} (ps : List Part) → is_some (part_type None ps) ≡ true → A
nothing_down ps e = false-true (sym (ap is_some (no_part ps)) ∙ e)

-- a record is no array
apart : {A : Type 0} (found : Option AnyType) (name : List ℕ) (ps qs : List Part) → is_some (part_type (field_part found name) ps) ≡ true → is_some (part_type (array_item found) qs) ≡ true → A
apart None name ps qs e f = nothing_down ps e
apart (Some (t.Simple type)) name ps qs e f = nothing_down ps e
apart (Some (t.Record' _ fields)) name ps qs e f = nothing_down qs f
apart (Some (ArrayForm index item)) name ps qs e f = nothing_down ps e

or_left_true : (a b : Bool) → a ≡ true → (a || b) ≡ true
or_left_true true b e = refl
or_left_true false b e = false-true e

or_right_true : (a b : Bool) → b ≡ true → (a || b) ≡ true
or_right_true true b e = refl
or_right_true false b e = e

or_either : (a b : Bool) → (a || b) ≡ true → (a ≡ true) ⊎ (b ≡ true)
or_either true b e = inl refl
or_either false b e = inr e

both_ways : (x y a b : Bool) → x ≡ true → y ≡ true → (a || b) ≡ true → ((x && a) || (y && b)) ≡ true
both_ways x y a b ex ey e = go (or_either a b e)
  where
    go : (a ≡ true) ⊎ (b ≡ true) → ((x && a) || (y && b)) ≡ true
    go (inl p) = or_left_true (x && a) (y && b) (and_from x a ex p)
    go (inr p) = or_right_true (x && a) (y && b) (and_from y b ey p)

-- of two shapes that go down one type to cells of one family, one is a prefix of the other
comparable : (found : Option AnyType) (ps qs : List Part) (path : Path) → is_some (part_type found ps) ≡ true → is_some (part_type found qs) ≡ true → is_front (fields ps) path ≡ true → is_front (fields qs) path ≡ true → (is_prefix ps qs || is_prefix qs ps) ≡ true
comparable found [] qs path e f g h = refl
comparable found (p ∷ ps) [] path e f g h = refl
comparable found (Index m ∷ ps) (Index k ∷ qs) path e f g h = comparable (array_item found) ps qs path e f g h
comparable found (Field a ∷ ps) (Index k ∷ qs) path e f g h = apart found a ps qs e f
comparable found (Index m ∷ ps) (Field b ∷ qs) path e f g h = apart found b qs ps f e
comparable found (Field a ∷ ps) (Field b ∷ qs) [] e f g h = false-true g
comparable found (Field a ∷ ps) (Field b ∷ qs) (c ∷ path) e f g h =
    let (ac, more) = and_parts (bytes_eq a c) (is_front (fields ps) path) g in
    let (bc, rest) = and_parts (bytes_eq b c) (is_front (fields qs) path) h in
    let same : a ≡ b = names_true a c ac ∙ sym (names_true b c bc) in
    both_ways (bytes_eq a b) (bytes_eq b a) (is_prefix ps qs) (is_prefix qs ps)
    (ap (λ x. bytes_eq x b) same ∙ name_itself b) (ap (bytes_eq b) same ∙ name_itself b)
    (comparable (field_part found a) ps qs path e (ap (λ x. is_some (part_type (field_part found x) qs)) same ∙ f) more rest)

-- One loop

pub blame_one : {A : Type 0} (rule : ℕ) (at : Span) (by from : Option Span) → blame rule at by from ≡ [] → A
blame_one rule at None None e = cc
blame_one rule at (Some call) None e = cc
blame_one rule at None (Some call) e = cc
blame_one rule at (Some call) (Some other) e = cc

pub no_blame : (b : Bool) (rule : ℕ) (at : Span) (by from : Option Span) → (if b then blame rule at by from else []) ≡ [] → b ≡ false
no_blame true rule at by from e = blame_one rule at by from e
no_blame false rule at by from e = refl

pub in_get : {A : Type 0} (xs : List A) (k : ℕ) (a : A) → slice_get xs k ≡ Some a → In a xs
in_get [] k a e = cc
in_get (x ∷ xs) zero a e = inl (sym (some_same e))
in_get (x ∷ xs) (suc k) a e = inr (in_get xs k a e)

-- the first place of the variable is the least
later_place : (o : Option ℕ) (j : ℕ) → one_later o ≡ Some j → (i : ℕ) × ((o ≡ Some i) × (j ≡ suc i))
later_place None j e = cc
later_place (Some i) j e = (i, (refl, sym (some_same e)))

first_least : (v : Binder) (ms : List (Option Binder)) (j k : ℕ) → first_at v ms ≡ Some j → has_at v k ms ≡ true → j ≤ k
first_least v [] j k e h = cc
first_least v (m ∷ ms) j k e h = go (λ i l. first_least v ms i l) (is_it v m) refl e k h
  where
    go : ((i l : ℕ) → first_at v ms ≡ Some i → has_at v l ms ≡ true → i ≤ l) → (b : Bool) → is_it v m ≡ b → (if b then Some 0 else one_later (first_at v ms)) ≡ Some j → (k : ℕ) → has_at v k (m ∷ ms) ≡ true → j ≤ k
    go again true was e k h = let z : 0 ≡ j = some_same e in omega (arith, z)
    go again false was e zero h = false-true (sym was ∙ h)
    go again false was e (suc k) h =
        let (i, found) = later_place (first_at v ms) j e in
        let less : i ≤ k = again i k found.0 h in
        let same : j ≡ suc i = found.1 in
        omega (arith, less, same)

not_false : (b : Bool) → not b ≡ false → b ≡ true
not_false true e = refl
not_false false e = false-true (sym e)

module _ (types : Declared) (loop : Loop) (unbroken : loop_breaks loop ≡ []) (typed : list_all (goes_down types) (judged loop) ≡ true) (writable : list_all is_writable loop.accesses ≡ true) where
  in_judged : (a : Access) → In a loop.accesses → is_deeper loop.variable.depth a.shape.owner ≡ false → In a (judged loop)
  in_judged a i near = kept_in (λ (a : Access). not (is_deeper loop.variable.depth a.shape.owner)) loop.accesses a i (ap not near)

  -- a write that is judged has a place
  write_place : (w : Access) → In w (judged loop) → w.write ≡ true → (k : ℕ) × ((place_of_write loop.variable w ≡ Some k) × (write_breaks loop.variable (judged loop) w (Some k) ≡ []))
  write_place w i is = go (place_of_write loop.variable w) refl (sym (ap (λ b. if b then write_breaks loop.variable (judged loop) w (place_of_write loop.variable w) else []) is) ∙ none_in (breaks_of_write loop.variable (judged loop)) (judged loop) w unbroken i)
    where
      go : (o : Option ℕ) → place_of_write loop.variable w ≡ o → write_breaks loop.variable (judged loop) w o ≡ [] → (k : ℕ) × ((place_of_write loop.variable w ≡ Some k) × (write_breaks loop.variable (judged loop) w (Some k) ≡ []))
      go None was e = blame_one 5 w.at w.by None e
      go (Some k) was e = (k, (was, e))

  -- the place of a family is that of some write that covers it
  placed_by : (xs : List Access) (owner : Owner) (path : Path) (k : ℕ) → place_in loop.variable xs owner path ≡ Some k → (w : Access) × (In w xs × ((w.write ≡ true) × ((covers w owner path ≡ true) × (place_of_write loop.variable w ≡ Some k))))
  placed_by [] owner path k e = cc
  placed_by (a ∷ rest) owner path k e = go (placed_by rest owner path k) (a.write && covers a owner path) refl e
    where
      go : (place_in loop.variable rest owner path ≡ Some k → (w : Access) × (In w rest × ((w.write ≡ true) × ((covers w owner path ≡ true) × (place_of_write loop.variable w ≡ Some k))))) → (b : Bool) → (a.write && covers a owner path) ≡ b → (if b then place_of_write loop.variable a else place_in loop.variable rest owner path) ≡ Some k
          → (w : Access) × (In w (a ∷ rest) × ((w.write ≡ true) × ((covers w owner path ≡ true) × (place_of_write loop.variable w ≡ Some k))))
      go again true is e = let (one, two) = and_parts a.write (covers a owner path) is in (a, (inl refl, (one, (two, e))))
      go again false is e = let (w, found) = again e in (w, (inr found.0, found.1))

  covered_owner : (w : Access) (owner : Owner) (path : Path) → covers w owner path ≡ true → w.shape.owner ≡ owner
  covered_owner w owner path e = owners_true w.shape.owner owner (and_parts (same_owner w.shape.owner owner) (is_front (fields w.shape.parts) path) e).0

  -- an access to cells of a family with a place has the variable there
  keeps_place : (a : Access) (path : Path) (k : ℕ) → In a loop.accesses → is_deeper loop.variable.depth a.shape.owner ≡ false → is_front (fields a.shape.parts) path ≡ true → place_in loop.variable loop.accesses a.shape.owner path ≡ Some k → has_at loop.variable k (marks a.shape.parts) ≡ true
  keeps_place a path k i near front e =
      let (w, found) = placed_by loop.accesses a.shape.owner path k e in
      let cov : covers w a.shape.owner path ≡ true = found.1.1.0 in
      let same : w.shape.owner ≡ a.shape.owner = covered_owner w a.shape.owner path cov in
      let w_in : In w (judged loop) = in_judged w found.0 (ap (is_deeper loop.variable.depth) same ∙ near) in
      let a_in : In a (judged loop) = in_judged a i near in
      let (j, placed) = write_place w w_in found.1.0 in
      let jk : j ≡ k = some_same (sym placed.0 ∙ found.1.1.1) in
      let fine : write_breaks loop.variable (judged loop) w (Some k) ≡ [] = subst (λ x. write_breaks loop.variable (judged loop) w (Some x) ≡ []) jk placed.1 in
      let none : (if lacks loop.variable k w a then blame (rule_of a) a.at w.by a.by else []) ≡ [] = none_in (λ a. if lacks loop.variable k w a then blame (rule_of a) a.at w.by a.by else []) (judged loop) a fine a_in in
      let has : lacks loop.variable k w a ≡ false = no_blame (lacks loop.variable k w a) (rule_of a) a.at w.by a.by none in
      let w_down : is_some (part_type (types a.shape.owner) w.shape.parts) ≡ true = sym (ap (λ o. is_some (part_type (types o) w.shape.parts)) same) ∙ all_in (goes_down types) (judged loop) w typed w_in in
      let a_down : is_some (part_type (types a.shape.owner) a.shape.parts) ≡ true = all_in (goes_down types) (judged loop) a typed a_in in
      let (owners, w_front) = and_parts (same_owner w.shape.owner a.shape.owner) (is_front (fields w.shape.parts) path) cov in
      let meet : overlap w.shape a.shape ≡ true = and_from (same_owner w.shape.owner a.shape.owner) _ owners (comparable (types a.shape.owner) w.shape.parts a.shape.parts path w_down a_down w_front front) in
      not_false (has_at loop.variable k (marks a.shape.parts)) (sym (ap (λ b. b && not (has_at loop.variable k (marks a.shape.parts))) meet) ∙ has)

  -- the family of a write has a place
  write_placed : (rest : List Access) (a : Access) (path : Path) → ((b : Access) → In b rest → In b loop.accesses) → In a rest → a.write ≡ true → is_deeper loop.variable.depth a.shape.owner ≡ false → is_front (fields a.shape.parts) path ≡ true → (k : ℕ) × (place_in loop.variable rest a.shape.owner path ≡ Some k)
  write_placed [] a path sub i is near front = absurd i
  write_placed (b ∷ rest) a path sub i is near front = go (λ j. write_placed rest a path (λ c x. sub c (inr x)) j is near front) (b.write && covers b a.shape.owner path) refl i
    where
      go : (In a rest → (k : ℕ) × (place_in loop.variable rest a.shape.owner path ≡ Some k)) → (x : Bool) → (b.write && covers b a.shape.owner path) ≡ x → (a ≡ b) ⊎ In a rest → (k : ℕ) × ((if x then place_of_write loop.variable b else place_in loop.variable rest a.shape.owner path) ≡ Some k)
      go again true e i' =
          let (writes, cov) = and_parts b.write (covers b a.shape.owner path) e in
          let same : b.shape.owner ≡ a.shape.owner = covered_owner b a.shape.owner path cov in
          let (k, placed) = write_place b (in_judged b (sub b (inl refl)) (ap (is_deeper loop.variable.depth) same ∙ near)) writes in
          (k, placed.0)
      go again false e (inr j) = again j
      go again false e (inl same) =
          let itself : covers a a.shape.owner path ≡ true = and_from (same_owner a.shape.owner a.shape.owner) _ (owner_itself a.shape.owner) front in
          let here : (b.write && covers b a.shape.owner path) ≡ true = sym (ap (λ (c : Access). c.write && covers c a.shape.owner path) same) ∙ and_from a.write (covers a a.shape.owner path) is itself in
          false-true (sym e ∙ here)

  -- what overlaps a write has the variable at the place of the write
  write_keeps : (w a : Access) (path : Path) (j : ℕ) → In w (judged loop) → In a (judged loop) → w.write ≡ true → place_of_write loop.variable w ≡ Some j → w.shape.owner ≡ a.shape.owner → is_front (fields w.shape.parts) path ≡ true → is_front (fields a.shape.parts) path ≡ true → has_at loop.variable j (marks a.shape.parts) ≡ true
  write_keeps w a path j w_in a_in writes at same w_front front =
      let (i, placed) = write_place w w_in writes in
      let ij : i ≡ j = some_same (sym placed.0 ∙ at) in
      let fine : write_breaks loop.variable (judged loop) w (Some j) ≡ [] = subst (λ x. write_breaks loop.variable (judged loop) w (Some x) ≡ []) ij placed.1 in
      let none : (if lacks loop.variable j w a then blame (rule_of a) a.at w.by a.by else []) ≡ [] = none_in (λ a. if lacks loop.variable j w a then blame (rule_of a) a.at w.by a.by else []) (judged loop) a fine a_in in
      let has : lacks loop.variable j w a ≡ false = no_blame (lacks loop.variable j w a) (rule_of a) a.at w.by a.by none in
      let w_down : is_some (part_type (types a.shape.owner) w.shape.parts) ≡ true = sym (ap (λ o. is_some (part_type (types o) w.shape.parts)) same) ∙ all_in (goes_down types) (judged loop) w typed w_in in
      let a_down : is_some (part_type (types a.shape.owner) a.shape.parts) ≡ true = all_in (goes_down types) (judged loop) a typed a_in in
      let owners : same_owner w.shape.owner a.shape.owner ≡ true = ap (λ o. same_owner o a.shape.owner) same ∙ owner_itself a.shape.owner in
      let meet : overlap w.shape a.shape ≡ true = and_from (same_owner w.shape.owner a.shape.owner) _ owners (comparable (types a.shape.owner) w.shape.parts a.shape.parts path w_down a_down w_front front) in
      not_false (has_at loop.variable j (marks a.shape.parts)) (sym (ap (λ b. b && not (has_at loop.variable j (marks a.shape.parts))) meet) ∙ has)

  -- a write has the place of each family that it is to
  pub write_at_place : (a : Access) (path : Path) → In a loop.accesses → a.write ≡ true → is_deeper loop.variable.depth a.shape.owner ≡ false → is_front (fields a.shape.parts) path ≡ true → (k : ℕ) × ((family_place loop a.shape.owner path ≡ Some k) × (place_of_write loop.variable a ≡ Some k))
  write_at_place a path i writes near front =
      let a_in : In a (judged loop) = in_judged a i near in
      let (k, of_family) = write_placed loop.accesses a path (λ b x. x) i writes near front in
      let (j, placed) = write_place a a_in writes in
      let (w, found) = placed_by loop.accesses a.shape.owner path k of_family in
      let same : w.shape.owner ≡ a.shape.owner = covered_owner w a.shape.owner path found.1.1.0 in
      let w_in : In w (judged loop) = in_judged w found.0 (ap (is_deeper loop.variable.depth) same ∙ near) in
      let w_front : is_front (fields w.shape.parts) path ≡ true = (and_parts (same_owner w.shape.owner a.shape.owner) (is_front (fields w.shape.parts) path) found.1.1.0).1 in
      let before : j ≤ k = first_least loop.variable (marks a.shape.parts) j k placed.0 (keeps_place a path k i near front of_family) in
      let after : k ≤ j = first_least loop.variable (marks w.shape.parts) k j found.1.1.1 (write_keeps a w path j a_in w_in writes placed.0 (sym same) front w_front) in
      let one : j ≡ k = omega (arith, before, after) in
      (k, (of_family, placed.0 ∙ ap Some one))

  access_good : (a : Access) → In a loop.accesses → Good loop.variable (family_place loop) a
  access_good a i = record { writable = all_in is_writable loop.accesses a writable i; keeps = λ path near front. go path near front a.write refl (place_in loop.variable loop.accesses a.shape.owner path) refl }
    where
      go : (path : Path) → is_deeper loop.variable.depth a.shape.owner ≡ false → is_front (fields a.shape.parts) path ≡ true → (b : Bool) → a.write ≡ b → (o : Option ℕ) → place_in loop.variable loop.accesses a.shape.owner path ≡ o → fine_at b loop.variable o (marks a.shape.parts) ≡ true
      go path near front b writes (Some k) was = keeps_place a path k i near front was
      go path near front false writes None was = refl
      go path near front true writes None was =
          let (k, placed) = write_placed loop.accesses a path (λ b x. x) i writes near front in
          cc

  pub loop_good : AllGood loop.variable (family_place loop) loop.accesses
  loop_good = good_from loop.variable (family_place loop) loop.accesses access_good
