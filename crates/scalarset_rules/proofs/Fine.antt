-- Whether a loop is without a break does not depend on who is to blame.
use Rattle.std.proofs.Common.{◌≡◌, ℕ, Bool, true, false, not, List, [], ◌∷◌, ◌++◌, Option, None, Some, ◌⊎◌, inl, inr, refl, sym, ap, ◌∙◌}
use Rattle.std.specs.Prelude.{if◌then◌else◌, cond}
use Rattle.std.specs.List.{flat_map, filter}
use Rattle.murphi_ast.specs.declared.token.Span.{Span}
use Rattle.scalarset_rules.specs.Accesses.{Binder, Access, blamed, from_call, Loop, loop_from}
use Rattle.scalarset_rules.specs.Rules.{place_of_write, blame, rule_of, lacks, write_breaks, is_deeper, judged, breaks_of_write, loop_breaks}
use Rattle.scalarset_rules.proofs.Judging.{In, none_in, kept_in, blame_one, no_blame}

-- each write has a place, and each access that overlaps it has the variable there
abbrev pub Unbroken : Binder → List Access → Type 0
Unbroken v all = (w : Access) → In w all → w.write ≡ true → (k : ℕ) × ((place_of_write v w ≡ Some k) × ((a : Access) → In a all → lacks v k w a ≡ false))

unbroken_from : (v : Binder) (all : List Access) → flat_map (breaks_of_write v all) all ≡ [] → Unbroken v all
unbroken_from v all e w i is =
    go (place_of_write v w) refl (sym (ap (λ b. if b then write_breaks v all w (place_of_write v w) else []) is) ∙ none_in (breaks_of_write v all) all w e i)
  where
    go : (o : Option ℕ) → place_of_write v w ≡ o → write_breaks v all w o ≡ [] → (k : ℕ) × ((place_of_write v w ≡ Some k) × ((a : Access) → In a all → lacks v k w a ≡ false))
    go None was e = blame_one 5 w.at w.by None e
    go (Some k) was e = (k, (was, λ a j. no_blame (lacks v k w a) (rule_of a) a.at w.by a.by (none_in (λ a. if lacks v k w a then blame (rule_of a) a.at w.by a.by else []) all a e j)))

nothing : {A B : Type 0} (f : A → List B) (xs : List A) → ((a : A) → In a xs → f a ≡ []) → flat_map f xs ≡ []
nothing f [] each = refl
nothing f (x ∷ xs) each = ap (λ ys. ys ++ flat_map f xs) (each x (inl refl)) ∙ nothing f xs (λ a i. each a (inr i))

unbroken_back : (v : Binder) (all : List Access) → Unbroken v all → flat_map (breaks_of_write v all) all ≡ []
unbroken_back v all fine = nothing (breaks_of_write v all) all (λ w i. go w i w.write refl)
  where
    placed : (w : Access) → In w all → w.write ≡ true → write_breaks v all w (place_of_write v w) ≡ []
    placed w i is =
        let (k, found) = fine w i is in
        ap (write_breaks v all w) found.0
        ∙ nothing (λ a. if lacks v k w a then blame (rule_of a) a.at w.by a.by else []) all (λ a j. ap (λ b. if b then blame (rule_of a) a.at w.by a.by else []) (found.1 a j))

    go : (w : Access) → In w all → (b : Bool) → w.write ≡ b → breaks_of_write v all w ≡ []
    go w i true is = ap (λ b. if b then write_breaks v all w (place_of_write v w) else []) is ∙ placed w i is
    go w i false is = ap (λ b. if b then write_breaks v all w (place_of_write v w) else []) is

in_blamed : (call : Span) (a : Access) (xs : List Access) → In a xs → In (blamed call a) (from_call call xs)
in_blamed call a [] i = absurd i
in_blamed call a (x ∷ xs) (inl e) = inl (ap (blamed call) e)
in_blamed call a (x ∷ xs) (inr i) = inr (in_blamed call a xs i)

of_filter : {A : Type 0} (test : A → Bool) (xs : List A) (a : A) → In a (filter test xs) → In a xs × (test a ≡ true)
of_filter test [] a i = absurd i
of_filter test (b ∷ bs) a i = go (λ j. of_filter test bs a j) (test b) refl i
  where
    go : (In a (filter test bs) → In a bs × (test a ≡ true)) → (x : Bool) → test b ≡ x → In a (cond x (b ∷ filter test bs) (filter test bs)) → ((a ≡ b) ⊎ In a bs) × (test a ≡ true)
    go again true was (inl same) = (inl same, ap test same ∙ was)
    go again true was (inr j) = (inr (again j).0, (again j).1)
    go again false was j = (inr (again j).0, (again j).1)

-- the loop of a called routine, where it is judged from the call
pub called_unbroken : (call : Span) (loop : Loop) → loop_breaks (loop_from call loop) ≡ [] → loop_breaks loop ≡ []
called_unbroken call loop e = unbroken_back loop.variable (judged loop) fine
  where
    moved : (a : Access) → In a (judged loop) → In (blamed call a) (judged (loop_from call loop))
    moved a i = let (here, passes) = of_filter (λ (a : Access). not (is_deeper loop.variable.depth a.shape.owner)) loop.accesses a i in kept_in (λ (a : Access). not (is_deeper loop.variable.depth a.shape.owner)) (from_call call loop.accesses) (blamed call a) (in_blamed call a loop.accesses here) passes

    fine : Unbroken loop.variable (judged loop)
    fine w i is =
        let (k, found) = unbroken_from loop.variable (judged (loop_from call loop)) e (blamed call w) (moved w i) is in
        (k, (found.0, λ a j. found.1 (blamed call a) (moved a j)))
