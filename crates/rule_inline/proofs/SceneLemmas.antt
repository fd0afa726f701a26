-- What is known of a body that runs, and of the site at which it is taken as terms.
use Rattle.std.proofs.Common.{◌≡◌, ℕ, zero, suc, ◌-◌, ◌<◌, ◌≤◌, Bool, true, false, List, [], ◌∷◌, ◌++◌, length, map, reverse, Some, refl, sym, ap, ◌∙◌, subst, append_assoc, arith}
use Rattle.std.specs.Prelude.{nat_lt, nat_le, slice_get, unwrap_or}
use Rattle.std.specs.Option.{option_map_or}
use Rattle.term_core.specs.declared.value.Value.{Value}
use Rattle.term_core.specs.declared.value.Value.TheVariants as v
use Rattle.term_core.specs.declared.term.Term as t
use Rattle.term_core.specs.declared.term.Term.{Term}
use Rattle.term_core.specs.Meaning.{Cells, value_of}
use Rattle.term_core.specs.Substitution.{lifted}
use Rattle.murphi_typed.specs.declared.types.Simple.{Simple}
use Rattle.murphi_typed.specs.declared.expr.Root.{Root}
use Rattle.murphi_typed.specs.declared.expr.Root.TheVariants as root
use Rattle.murphi_typed.specs.declared.protocol.Routine.{Routine}
use Rattle.murphi_typed.specs.Values.{is_value}
use Rattle.murphi_typed.specs.Store.{Owner, Global, Local, Formal, Place, Cells as Store}
use Rattle.murphi_typed.specs.Expressions.{Given, Filled, Standing, Scene, Calls, with_bound, whole, stood_for, root_place}
use Rattle.murphi_typed.specs.WellTyped.{Scope, binding, is_simple_type}
use Rattle.murphi_typed.specs.Keeping.{Declared, AreKept, SceneFits, RootsFine, BoundFits, ResultsFit, IsTypedBody}
use Rattle.murphi_typed.specs.declared.protocol.Typed.{Typed}
use Rattle.rule_inline.specs.Tables.{Family, Terms, under_variable, Index, Axis, Among, Spot, lifted_index, lifted_spot}
use Rattle.rule_inline.specs.Parts.{Given as Gift, Filled as Filling, Standing as Placing, Site, lifted_given, with_value, undefined, whole_spot, root_spot, stood_for as stood_in}
use Rattle.rule_inline.proofs.TypeLemmas.{not_some, some_one}
use Rattle.rule_inline.proofs.TermLemmas.{value-Known, value-Var, lifted_between, lifted_end, get_first, get_past, length-one_more}
use Rattle.rule_inline.proofs.PlaceLemmas.{reaches, Rep, Leads, variable_there}
use Rattle.rule_inline.proofs.WriteLemmas.{Spots}

-- a body that keeps to its types
pub record Sound (types : Declared) (calls : Calls) (routines : List Routine) (scope : Scope) (scene : Scene) (cells : Store) : Type 0 where
  pub fits : SceneFits types scope scene
  pub fine : RootsFine scope
  pub bound : BoundFits scope scene
  pub lengths : length scope.bound ≡ length scene.bound
  pub results : ResultsFit scope calls
  pub kept : AreKept scene.nodes types cells
  pub known : scope.routines ≡ routines

fits_more : (types : Declared) (scope : Scope) (scene : Scene) (over : Simple) (x : Value) → SceneFits types scope scene → SceneFits types (binding scope over) (with_bound scene x)
fits_more types scope scene over x fits (root.Global k) = fits (root.Global k)
fits_more types scope scene over x fits (root.Local k) = fits (root.Local k)
fits_more types scope scene over x fits (root.Formal k) = fits (root.Formal k)
fits_more types scope scene over x fits (root.Place k) = fits (root.Place k)

fine_more : (scope : Scope) (over : Simple) → RootsFine scope → RootsFine (binding scope over)
fine_more scope over fine (root.Global k) = fine (root.Global k)
fine_more scope over fine (root.Local k) = fine (root.Local k)
fine_more scope over fine (root.Formal k) = fine (root.Formal k)
fine_more scope over fine (root.Place k) = fine (root.Place k)

-- the last of a list, and those before it
last_there : {A : Type 0} (xs : List A) (y : A) (k : ℕ) → length xs ≤ k → (z : A) → slice_get (xs ++ y ∷ []) k ≡ Some z → y ≡ z
last_there xs y k past z e = go (k - length xs) (sym (get_past xs (y ∷ []) k past) ∙ e)
  where
    go : (j : ℕ) → slice_get (y ∷ []) j ≡ Some z → y ≡ z
    go zero e = some_one e
    go (suc j) e = not_some e

bound_more : (scope : Scope) (scene : Scene) (over : Simple) (x : Value) → BoundFits scope scene → length scope.bound ≡ length scene.bound → is_value scene.nodes over x ≡ true → is_simple_type scope.kinds over ≡ true → BoundFits (binding scope over) (with_bound scene x)
bound_more scope scene over x bound long is fine k type y e f = go (nat_lt k (length scope.bound)) refl
  where
    go : (b : Bool) → nat_lt k (length scope.bound) ≡ b → (is_value scene.nodes type y ≡ true) × (is_simple_type scope.kinds type ≡ true)
    go true was =
        let less : k < length scope.bound = grind (arith, was) in
        bound k type y (sym (get_first scope.bound (over ∷ []) k less) ∙ e) (sym (get_first scene.bound (x ∷ []) k (subst (λ m. k < m) long less)) ∙ f)
    go false was =
        let past : length scope.bound ≤ k = grind (arith, was) in
        let a : over ≡ type = last_there scope.bound over k past type e in
        let b : x ≡ y = last_there scene.bound x k (subst (λ m. m ≤ k) long past) y f in
        (ap (λ u. is_value scene.nodes u y) (sym a) ∙ ap (is_value scene.nodes over) (sym b) ∙ is, ap (is_simple_type scope.kinds) (sym a) ∙ fine)

pub sound_binding : (types : Declared) (calls : Calls) (routines : List Routine) (scope : Scope) (scene : Scene) (cells : Store) (over : Simple) (x : Value) → Sound types calls routines scope scene cells → is_value scene.nodes over x ≡ true → is_simple_type scope.kinds over ≡ true → Sound types calls routines (binding scope over) (with_bound scene x) cells
sound_binding types calls routines scope scene cells over x sound is fine = record {
  fits = fits_more types scope scene over x sound.fits;
  fine = fine_more scope over sound.fine;
  bound = bound_more scope scene over x sound.bound sound.lengths is fine;
  lengths = length-one_more scope.bound over ∙ ap suc sound.lengths ∙ sym (length-one_more scene.bound x);
  results = sound.results;
  kept = sound.kept;
  known = sound.known;
}

pub typed_binding : (P : Typed) (latest : List Routine) (types : Declared) (calls : Calls) (scope : Scope) (scene : Scene) (cells : Store) (over : Simple) (x : Value) → Sound types calls (reverse latest) scope scene cells → IsTypedBody P latest types scope scene cells → is_value scene.nodes over x ≡ true → is_simple_type scope.kinds over ≡ true → IsTypedBody P latest types (binding scope over) (with_bound scene x) cells
typed_binding P latest types calls scope scene cells over x sound typed is fine =
    let more = sound_binding types calls (reverse latest) scope scene cells over x sound is fine in
    record {
      kinds = typed.kinds;
      globals = typed.globals;
      routines = typed.routines;
      known = typed.known;
      fits = more.fits;
      fine = more.fine;
      bound = more.bound;
      lengths = more.lengths;
      shallow = typed.shallow;
      declared = typed.declared;
      kept = typed.kept;
    }

-- the terms of bound variables are constants, and variables of the frame
abbrev pub IsBound : ℕ → Term → Type 0
IsBound frame (t.Var k) = k < frame
IsBound frame (t.Known x) = Unit {0}
IsBound frame _ = ⊥

module _ (N : ℕ) (s : Cells) where
  bound_further : (fr more : List ℕ) (e : Term) → IsBound (length fr) e → value_of N s (fr ++ more) e ≡ value_of N s fr e
  bound_further fr more (t.Var k) less = value-Var N s (fr ++ more) k ∙ ap (λ o. option_map_or v.Node o v.Undefined) (get_first fr more k less) ∙ sym (value-Var N s fr k)
  bound_further fr more (t.Known x) less = value-Known N s (fr ++ more) x ∙ sym (value-Known N s fr x)
  bound_further fr more e less = absurd less

  bound_longer : (fr : List ℕ) (n : ℕ) (e : Term) → IsBound (length fr) e → IsBound (length (fr ++ n ∷ [])) e
  bound_longer fr n (t.Var k) less = let l = length-one_more fr n in omega (arith, less, l)
  bound_longer fr n (t.Known x) less = tt
  bound_longer fr n e less = absurd less

  -- terms of bound variables have their values
  abbrev pub BoundAre : List ℕ → List Term → List Value → Type 0
  BoundAre fr [] [] = Unit {0}
  BoundAre fr [] (x ∷ xs) = ⊥
  BoundAre fr (e ∷ es) [] = ⊥
  BoundAre fr (e ∷ es) (x ∷ xs) = (value_of N s fr e ≡ x) × IsBound (length fr) e × BoundAre fr es xs

  pub bound_joined : (fr : List ℕ) (es : List Term) (xs : List Value) (e : Term) (x : Value) → BoundAre fr es xs → value_of N s fr e ≡ x → IsBound (length fr) e → BoundAre fr (es ++ e ∷ []) (xs ++ x ∷ [])
  bound_joined fr [] [] e x a is b = (is, b, tt)
  bound_joined fr [] (y ∷ xs) e x a is b = absurd a
  bound_joined fr (f ∷ es) [] e x a is b = absurd a
  bound_joined fr (f ∷ es) (y ∷ xs) e x (g, h, a) is b = (g, h, bound_joined fr es xs e x a is b)

  bound_under : (fr : List ℕ) (es : List Term) (xs : List Value) (n : ℕ) → BoundAre fr es xs → BoundAre (fr ++ n ∷ []) es xs
  bound_under fr [] [] n a = tt
  bound_under fr [] (x ∷ xs) n a = absurd a
  bound_under fr (e ∷ es) [] n a = absurd a
  bound_under fr (e ∷ es) (x ∷ xs) n (is, b, a) = (bound_further fr (n ∷ []) e b ∙ is, bound_longer fr n e b, bound_under fr es xs n a)

  pub bound_there : (fr : List ℕ) (es : List Term) (xs : List Value) (k : ℕ) → BoundAre fr es xs → k < length xs → (x : Value) × (slice_get xs k ≡ Some x) × (value_of N s fr (unwrap_or (slice_get es k) undefined) ≡ x)
  bound_there fr [] [] k a less = absurd (omega (arith, less))
  bound_there fr [] (x ∷ xs) k a less = absurd a
  bound_there fr (e ∷ es) [] k a less = absurd a
  bound_there fr (e ∷ es) (x ∷ xs) zero (is, b, a) less = (x, refl, is)
  bound_there fr (e ∷ es) (x ∷ xs) (suc k) (is, b, a) less = bound_there fr es xs k a (omega (arith, less))

  -- what formals stand for
  abbrev pub GiftIs : ℕ → List ℕ → Gift → Given → Type 0
  GiftIs depth fr (Filling mark plain shown) (Filled contents) = Unit {0}
  GiftIs depth fr (Filling mark plain shown) (Standing place) = ⊥
  GiftIs depth fr (Placing spot) (Filled contents) = ⊥
  GiftIs depth fr (Placing spot) (Standing place) = Spots N s depth fr spot place

  abbrev pub GiftsAre : ℕ → List ℕ → List Gift → List Given → Type 0
  GiftsAre depth fr [] [] = Unit {0}
  GiftsAre depth fr [] (g ∷ gs) = ⊥
  GiftsAre depth fr (f ∷ fs) [] = ⊥
  GiftsAre depth fr (f ∷ fs) (g ∷ gs) = GiftIs depth fr f g × GiftsAre depth fr fs gs

  -- the same under one more variable
  pub rep_under : (depth : ℕ) (fr : List ℕ) (T : Terms) (c : Store) (n : ℕ) → Rep N s depth fr T c → Rep N s depth (fr ++ n ∷ []) (under_variable (length fr) T) c
  rep_under depth fr T c n rep owner path key ns reach none long nodes =
      ap (λ xs. value_of N s xs (lifted (length fr) 1 (T (Family owner path key)))) (append_assoc fr (n ∷ []) ns)
      ∙ lifted_between N s fr (n ∷ []) ns (T (Family owner path key))
      ∙ rep owner path key ns reach none long nodes

  leads_under : (fr : List ℕ) (is : List Index) (xs : List Value) (n : ℕ) → Leads N s fr is xs → Leads N s (fr ++ n ∷ []) (map (lifted_index (length fr)) is) xs
  leads_under fr [] [] n a = tt
  leads_under fr [] (x ∷ xs) n a = absurd a
  leads_under fr (i ∷ is) [] n a = absurd a
  leads_under fr (Axis mark e ∷ is) (x ∷ xs) n (index, a) = let (m, x_is, value, node) = index in ((m, x_is, lifted_end N s fr (n ∷ []) e ∙ value, node), leads_under fr is xs n a)
  leads_under fr (Among ws e ∷ is) (x ∷ xs) n (index, a) = let (value, has, nots) = index in ((lifted_end N s fr (n ∷ []) e ∙ value, has, nots), leads_under fr is xs n a)

  pub spots_under : (depth : ℕ) (fr : List ℕ) (spot : Spot) (place : Place) (n : ℕ) → Spots N s depth fr spot place → Spots N s depth (fr ++ n ∷ []) (lifted_spot (length fr) spot) place
  spots_under depth fr spot place n spots = record { reach = spots.reach; owner = spots.owner; path = spots.path; leads = leads_under fr spot.at place.at n spots.leads }

  gifts_under : (depth : ℕ) (fr : List ℕ) (fs : List Gift) (gs : List Given) (n : ℕ) → GiftsAre depth fr fs gs → GiftsAre depth (fr ++ n ∷ []) (map (lifted_given (length fr)) fs) gs
  gifts_under depth fr [] [] n a = tt
  gifts_under depth fr [] (g ∷ gs) n a = absurd a
  gifts_under depth fr (f ∷ fs) [] n a = absurd a
  gifts_under depth fr (Filling mark plain shown ∷ fs) (Filled contents ∷ gs) n (x, a) = (tt, gifts_under depth fr fs gs n a)
  gifts_under depth fr (Filling mark plain shown ∷ fs) (Standing place ∷ gs) n (x, a) = absurd x
  gifts_under depth fr (Placing spot ∷ fs) (Filled contents ∷ gs) n (x, a) = absurd x
  gifts_under depth fr (Placing spot ∷ fs) (Standing place ∷ gs) n (x, a) = (spots_under depth fr spot place n x, gifts_under depth fr fs gs n a)

-- a site at which a frame is bound
abbrev pub at_frame : List ℕ → Site → Site
at_frame fr site = record site { frame = length fr }

-- a site inside one more variable over nodes
abbrev pub inner : List ℕ → Site → Site
inner fr site = record site { bound = site.bound ++ t.Var (length fr) ∷ []; formals = map (lifted_given (length fr)) site.formals }

-- a site stands for a scene
pub record Sited (s : Cells) (fr : List ℕ) (site : Site) (scene : Scene) : Type 0 where
  pub depth : site.depth ≡ scene.depth
  pub bound : BoundAre scene.nodes s fr site.bound scene.bound
  pub formals : GiftsAre scene.nodes s scene.depth fr site.formals scene.formals

pub site_under : (s : Cells) (fr : List ℕ) (site : Site) (scene : Scene) (n : ℕ) → Sited s fr site scene → Sited s (fr ++ n ∷ []) (inner fr site) (with_bound scene (v.Node n))
site_under s fr site scene n sited = record {
  depth = sited.depth;
  bound = bound_joined scene.nodes s (fr ++ n ∷ []) site.bound scene.bound (t.Var (length fr)) (v.Node n) (bound_under scene.nodes s fr site.bound scene.bound n sited.bound) (variable_there scene.nodes s fr n []) (let l = length-one_more fr n in omega (arith, l));
  formals = gifts_under scene.nodes s scene.depth fr site.formals scene.formals n sited.formals;
}

pub site_value : (s : Cells) (fr : List ℕ) (site : Site) (scene : Scene) (x : Value) → Sited s fr site scene → Sited s fr (with_value site x) (with_bound scene x)
site_value s fr site scene x sited = record {
  depth = sited.depth;
  bound = bound_joined scene.nodes s fr site.bound scene.bound (t.Known x) x sited.bound (value-Known scene.nodes s fr x) tt;
  formals = sited.formals;
}

-- the place of a variable
module _ (N : ℕ) (s : Cells) (depth : ℕ) (fr : List ℕ) where
  stood : (other : Spot) (fs : List Gift) (gs : List Given) (k : ℕ) (p : Place) → GiftsAre N s depth fr fs gs → stood_for (slice_get gs k) ≡ Some p → Spots N s depth fr (stood_in other (slice_get fs k)) p
  stood other [] [] k p a e = not_some e
  stood other [] (g ∷ gs) k p a e = absurd a
  stood other (f ∷ fs) [] k p a e = absurd a
  stood other (Filling mark plain shown ∷ fs) (Filled contents ∷ gs) zero p (x, a) e = not_some e
  stood other (Filling mark plain shown ∷ fs) (Standing place ∷ gs) zero p (x, a) e = absurd x
  stood other (Placing spot ∷ fs) (Filled contents ∷ gs) zero p (x, a) e = absurd x
  stood other (Placing spot ∷ fs) (Standing place ∷ gs) zero p (x, a) e = subst (λ q. Spots N s depth fr spot q) (some_one e) x
  stood other (f ∷ fs) (g ∷ gs) (suc k) p (x, a) e = stood other fs gs k p a e

whole_spots : (N : ℕ) (s : Cells) (depth : ℕ) (fr : List ℕ) (owner owner' : Owner) (p : Place) → reaches depth owner ≡ true → owner ≡ owner' → Some (whole owner') ≡ Some p → Spots N s depth fr (record { owner = owner; path = []; at = [] }) p
whole_spots N s depth fr owner owner' p reach same e = subst (λ q. Spots N s depth fr (record { owner = owner; path = []; at = [] }) q) (some_one e) (record { reach = reach; owner = same; path = refl; leads = tt })

own_depth : (d : ℕ) → nat_le d d ≡ true
own_depth d = grind arith

pub root_spots : (s : Cells) (fr : List ℕ) (site : Site) (scene : Scene) (r : Root) (p : Place) → Sited s fr site scene → root_place scene r ≡ Some p → Spots scene.nodes s scene.depth fr (root_spot (at_frame fr site) r) p
root_spots s fr site scene (root.Global k) p sited e = whole_spots scene.nodes s scene.depth fr (Global k) (Global k) p refl refl e
root_spots s fr site scene (root.Local k) p sited e = whole_spots scene.nodes s scene.depth fr (Local site.depth k) (Local scene.depth k) p (ap (λ d. nat_le d scene.depth) sited.depth ∙ own_depth scene.depth) (ap (λ d. Local d k) sited.depth) e
root_spots s fr site scene (root.Formal k) p sited e = whole_spots scene.nodes s scene.depth fr (Formal site.depth k) (Formal scene.depth k) p (ap (λ d. nat_le d scene.depth) sited.depth ∙ own_depth scene.depth) (ap (λ d. Formal d k) sited.depth) e
root_spots s fr site scene (root.Place k) p sited e = stood scene.nodes s scene.depth fr (whole_spot (at_frame fr site) (root.Place k)) site.formals scene.formals k p sited.formals e
