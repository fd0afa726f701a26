use Rattle.std.proofs.Common.{◌≡◌, ◌∙◌, ◌&&◌, Bool, true, false, List, [], ◌∷◌, eqb, refl, sym, ap}
use Rattle.std.specs.Prelude.{not}
use Rattle.std.specs.List.{list_all, AllByRecursion}
use Rattle.std.proofs.lemmas.Bool.{or_left, or_right, eq-eqb, and_from}
use Rattle.std.proofs.lemmas.List.Elements.{All-from_recursion}
use Rattle.clause_core.specs.declared.literal.Lit.{Lit}
use Rattle.clause_core.specs.Literal.{opposite}
use Rattle.clause_core.specs.Members.{has}
use Rattle.sat_solver.proofs.ScanLemmas.{all_has}
use Rattle.sat_solver.proofs.assumptions.are_consistent.Goals as goal

-- whether the opposite of each of the literals is missing
abbrev lacks : List Lit → List Lit → Bool
lacks all lits = list_all (λ l. not (has all (opposite l))) lits

split : (b c : Bool) → (not b && c) ≡ true → (b ≡ false) × (c ≡ true)
split true c h = cc
split false c h = (refl, h)

each : (all lits : List Lit) → lacks all lits ≡ true → AllByRecursion (λ l. has all (opposite l) ≡ false) lits
each all [] h = tt
each all (l ∷ lits) h = let p : (has all (opposite l) ≡ false) × (lacks all lits ≡ true) = split (has all (opposite l)) (lacks all lits) h in (p.0, each all lits p.1)

whole : (all lits : List Lit) → ((l : Lit) → has lits l ≡ true → has all (opposite l) ≡ false) → lacks all lits ≡ true
whole all [] f = refl
whole all (l ∷ lits) f = and_from (not (has all (opposite l))) (lacks all lits)
    (ap not (f l (or_left (eqb l.code l.code) (has lits l) (eq-eqb l.code l.code refl))))
    (whole all lits (λ k h. f k (or_right (eqb l.code k.code) (has lits k) h)))

pub returns : goal.returns
returns c = (
  λ t l h. all_has (λ k. has c.args.lits.now (opposite k) ≡ false) c.args.lits.now
      (All-from_recursion (λ k. has c.args.lits.now (opposite k) ≡ false) c.args.lits.now (each c.args.lits.now c.args.lits.now (sym c.lack_opposites.ensures ∙ t))) l h,
  λ f. c.lack_opposites.ensures ∙ whole c.args.lits.now c.args.lits.now f,
)
