-- What one walk over the body of a routine keeps: how deep it binds nodes by itself, and how far inside them each
-- formal is used. A call goes as deep as the routine by itself, or as an argument does below where its formal is used,
-- whichever is more; so nothing needs to be opened twice. These words are this project's own.
use Rattle.std.specs.Prelude.{ℕ, zero, suc, ◌+◌, max, List, [], ◌∷◌}
use Rattle.murphi_typed.specs.declared.expr.Root.{Root}
use Rattle.murphi_typed.specs.declared.expr.Root.TheVariants as root
use Rattle.type_prefixes.specs.declared.depth.Depth.{Depth}

-- the first of a list of places, and those after it; a formal that is not listed is used outside of all
abbrev pub first_place : List ℕ → ℕ
first_place [] = 0
first_place (a ∷ more) = a

abbrev pub later_places : List ℕ → List ℕ
later_places [] = []
later_places (a ∷ more) = more

-- the deepest of arguments that bind so deep, each below the place where its formal is used
abbrev pub steep : List ℕ → List ℕ → ℕ
steep places [] = 0
steep places (d ∷ ds) = max (first_place places + d) (steep (later_places places) ds)

-- how deep a body binds nodes, where its arguments bind them so deep: an argument counts where the call stands, whether
-- or not its formal is used
abbrev pub depth_with : Depth → List ℕ → ℕ
depth_with S ds = max S.own (steep S.formals ds)

-- of a body without statements
abbrev pub empty : Depth
empty = record { own = 0; formals = [] }

-- of the routine of this number; one that is not there has no body
abbrev pub called : List Depth → ℕ → Depth
called [] k = empty
called (S ∷ more) zero = S
called (S ∷ more) (suc k) = called more k

-- something stands inside so many levels
abbrev pub touched : ℕ → Depth → Depth
touched s S = record { own = max S.own s; formals = S.formals }

-- a formal is used inside so many levels
abbrev pub raised : List ℕ → ℕ → ℕ → List ℕ
raised [] zero s = s ∷ []
raised [] (suc k) s = 0 ∷ raised [] k s
raised (a ∷ more) zero s = max a s ∷ more
raised (a ∷ more) (suc k) s = a ∷ raised more k s

abbrev pub raised_at : ℕ → ℕ → Depth → Depth
raised_at k s S = record { own = max S.own s; formals = raised S.formals k s }

abbrev pub root_walked : Root → ℕ → Depth → Depth
root_walked (root.Formal k) s S = raised_at k s S
root_walked (root.Place k) s S = raised_at k s S
root_walked _ s S = touched s S
