-- What a search keeps between its steps.
use Rattle.std.specs.Prelude.{◌≡◌, ◌*◌, ◌<◌, ◌⊎◌, ◌++◌, ℕ, true, false, List, [], ◌∷◌, length, take, All, None}
use Rattle.clause_core.specs.declared.literal.Lit.{Lit}
use Rattle.clause_core.specs.Literal.{variable_of}
use Rattle.clause_core.specs.Formula.{Formula}
use Rattle.clause_derivation.specs.declared.chain.Chain.{Chain}
use Rattle.clause_derivation.specs.Derivation.{IsDerivation}
use Rattle.clause_core.specs.Members.{has}
use Rattle.sat_solver.specs.declared.entry.Entry.{Entry}
use Rattle.sat_solver.specs.declared.advance.Stop.{Stop}
use Rattle.sat_solver.specs.declared.advance.Stop.TheVariants.{Conflict, Refused, Full}
use Rattle.sat_solver.specs.declared.advance.Choice.{Choice}
use Rattle.sat_solver.specs.declared.advance.Choice.TheVariants.{Decide, Refuse, Done}
use Rattle.sat_solver.specs.declared.engine.Engine.{Engine}
use Rattle.sat_solver.specs.Naming.{IsKnown, IsUsable}
use Rattle.sat_solver.specs.Assigned.{literals_of, is_false, IsReasoned}

-- all parts of an engine are over the same variables
pub record Fits (v : ℕ) (engine : Engine) : Type 0 where
  pub trail : engine.trail.variables ≡ v
  pub marks : length engine.marks ≡ 2 * v
  pub arena : engine.watched.arena.variables ≡ v

-- What a solver keeps: each chain derives its result, what a chain may name is usable, all parts are
-- over the same variables, and the reasons on the trail are known.
pub record IsSolver (cnf : Formula) (log : List Chain) (engine : Engine) : Type 0 where
  pub derivation : IsDerivation cnf.clauses log
  pub usable : IsUsable cnf.variables cnf.clauses log
  pub fits : Fits cnf.variables engine
  pub reasons : All (IsReasoned (length cnf.clauses) (length log)) engine.trail.entries

-- xs is the front of ys
abbrev pub IsPrefix : {A : Type 0} → List A → List A → Type 0
IsPrefix xs ys = xs ≡ take (length xs) ys

-- the trail makes each of these literals true
abbrev pub AreTrue : List Entry → List Lit → Type 0
AreTrue entries lits = All (λ l. has (literals_of entries) l ≡ true) lits

-- Each entry after those that were seen has a reason, or is an assumption, or came when all
-- assumptions were true.
abbrev pub DecidedAfter : List Lit → List Entry → List Entry → Type 0
DecidedAfter assumptions seen [] = Unit {0}
DecidedAfter assumptions seen (e ∷ es) =
    (e.reason ≡ None → (has assumptions e.lit ≡ true) ⊎ AreTrue seen assumptions)
    × DecidedAfter assumptions (seen ++ e ∷ []) es

-- assumptions are decided before any other literal
abbrev pub IsDecided : List Lit → List Entry → Type 0
IsDecided assumptions entries = DecidedAfter assumptions [] entries

-- a literal that may be decided next
pub record MayDecide (v : ℕ) (entries : List Entry) (assumptions : List Lit) (l : Lit) : Type 0 where
  pub range : variable_of l < v
  pub not_true : has (literals_of entries) l ≡ false
  pub not_false : is_false (literals_of entries) l ≡ false
  pub turn : (has assumptions l ≡ true) ⊎ AreTrue entries assumptions

-- what a choice promises, where n clauses and k chains are known
abbrev pub IsChoice : ℕ → List Entry → List Lit → Choice → Type 0
IsChoice v entries assumptions (Decide l) = MayDecide v entries assumptions l
IsChoice v entries assumptions (Refuse origin) =
    (n k : ℕ) → All (IsReasoned n k) entries → IsKnown n k origin
IsChoice v entries assumptions Done = AreTrue entries assumptions

-- what a stop promises
abbrev pub IsStop : ℕ → ℕ → List Entry → List Lit → Stop → Type 0
IsStop n k entries assumptions (Conflict origin) = IsKnown n k origin
IsStop n k entries assumptions (Refused origin) = IsKnown n k origin
IsStop n k entries assumptions Full = AreTrue entries assumptions
