-- Words for what code has done so far.
use Rattle.std.specs.Prelude.{ℕ, ◌+◌, nat_eq, List, [], ◌∷◌, ◌++◌, map, Option, None, Some, option_map, option_and_then, if◌then◌else◌}
use Rattle.std.specs.List.{flat_map}
use Rattle.std.specs.Str.{bytes_eq}
use Rattle.term_core.specs.declared.value.Value.{Value}
use Rattle.term_core.specs.declared.value.Value.TheVariants as value
use Rattle.term_core.specs.declared.term.Term as t
use Rattle.term_core.specs.declared.term.Term.{Term}
use Rattle.term_core.specs.Substitution.{lifted}
use Rattle.murphi_typed.specs.declared.types.Simple.{Simple}
use Rattle.murphi_typed.specs.declared.types.Field.{Field}
use Rattle.murphi_typed.specs.Families.{Name, Path, leaf_at}
use Rattle.murphi_typed.specs.Store.{Owner, same_owner, beyond}
use Rattle.rule_inline.specs.Tables.{Key, holes, Marks, Index, Axis, Among, Spot, Entry, Match, matched}

-- the first index that is the variable, where so many were passed before
abbrev pub axis_from : ℕ → ℕ → Marks → Option ℕ
axis_from passed variable [] = None
axis_from passed variable (None ∷ marks) = axis_from (passed + 1) variable marks
axis_from passed variable (Some k ∷ marks) =
    if nat_eq k variable then Some passed else axis_from (passed + 1) variable marks

abbrev pub Indices : Type 0
Indices = List Index

-- a term under a test
pub record Tested : Type 0 where
  pub test : Term
  pub term : Term

-- the first term whose test is true, and else another
abbrev pub chained_to : List Tested → Term → Term
chained_to [] otherwise = otherwise
chained_to (x ∷ xs) otherwise = t.If x.test x.term (chained_to xs otherwise)

-- whichever of the terms it is, the last without its test
abbrev pub chained : List Tested → Term
chained [] = t.Known value.Undefined
chained (x ∷ []) = x.term
chained (x ∷ y ∷ xs) = t.If x.test x.term (chained (y ∷ xs))

-- a family with one node index more
abbrev pub axis_on : Entry → Term → Entry
axis_on e index = record { tests = e.tests; key = e.key ++ None ∷ []; nodes = e.nodes ++ index ∷ [] }

-- a family with one value more
abbrev pub value_on : Term → Entry → Value → Entry
value_on index e v =
    record { tests = e.tests ++ t.Same index (t.Known v) ∷ []; key = e.key ++ Some v ∷ []; nodes = e.nodes }

-- families with one index more
abbrev pub stepped : List Entry → Index → List Entry
stepped es (Axis mark index) = map (λ e. axis_on e index) es
stepped es (Among vs index) = flat_map (λ e. map (value_on index e) vs) es

-- families with these indices more
abbrev pub extended : List Entry → List Index → List Entry
extended es [] = es
extended es (index ∷ at) = extended (stepped es index) at

-- nothing matched yet
abbrev pub no_match : Match
no_match = record { tests = []; sames = []; count = 0; rest = [] }

-- a match with one axis more
abbrev pub axis_matched : (Term → Term) → ℕ → Match → Term → Match
axis_matched lift frame m index =
    record m { sames = m.sames ++ t.Same (t.Var (frame + m.count)) (lift index) ∷ []; count = m.count + 1 }

-- a match with one value more
abbrev pub value_matched : (Term → Term) → Match → Term → Value → Match
value_matched lift m index v = record m { tests = m.tests ++ t.Same (lift index) (t.Known v) ∷ [] }

-- a match with one index more, where the family has this there
abbrev pub step_match : (Term → Term) → ℕ → Match → Index → Option Value → Option Match
step_match lift frame m (Axis mark index) None = Some (axis_matched lift frame m index)
step_match lift frame m (Among vs index) (Some v) = Some (value_matched lift m index v)
step_match lift frame m index part = None

-- a match of the indices that are left, after those before
abbrev pub matched_to : (Term → Term) → ℕ → Match → List Index → Key → Option Match
matched_to lift frame m [] key = Some (record m { rest = key })
matched_to lift frame m (Axis mark index ∷ at) (None ∷ key) =
    matched_to lift frame (axis_matched lift frame m index) at key
matched_to lift frame m (Among vs index ∷ at) (Some v ∷ key) =
    matched_to lift frame (value_matched lift m index v) at key
matched_to lift frame m (_ ∷ at) _ = None

-- the same where the match so far may have failed
abbrev pub matched_on : (Term → Term) → ℕ → Option Match → List Index → Key → Option Match
matched_on lift frame None at key = None
matched_on lift frame (Some m) at key = matched_to lift frame m at key

-- how a family lies under a place: the fields that follow, and the match of its indices
pub record Fit : Type 0 where
  pub further : Path
  pub matches : Match

abbrev pub fit_with : Path → Match → Fit
fit_with further m = record { further = further; matches = m }

abbrev pub fitted : ℕ → Spot → Owner → Path → Key → Option Fit
fitted frame spot owner path key =
    if same_owner owner spot.owner
    then option_and_then (λ further. option_map (fit_with further)
    (matched (lifted frame (holes key)) frame spot.at key)) (beyond bytes_eq spot.path path) else None

-- the leaf of the first field of a name
abbrev pub list_leaf : List Field → Name → Path → Option Simple
list_leaf [] name path = None
list_leaf (f ∷ fs) name path = if bytes_eq f.name name then leaf_at f.of path else list_leaf fs name path
