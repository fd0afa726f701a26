-- What a refusal tells of the bytes.
use Rattle.std.specs.Prelude.{◌≡◌, ℕ, List}
use Rattle.murphi_ast.specs.Spelling.{FaultsFirst}
use Rattle.murphi_ast.specs.declared.token.Fault.{Fault}
use Rattle.murphi_ast.specs.declared.token.Fault.TheVariants as fault
use Rattle.murphi_lex.specs.declared.scanning.LexRefusal.{LexRefusal}
use Rattle.murphi_lex.specs.declared.scanning.LexRefusal.TheVariants as refusal

-- the refusal is this fault, unless memory ran out
abbrev pub Tells : LexRefusal → Fault → Type 0
Tells (refusal.E02 at) f = f ≡ fault.E02 at
Tells (refusal.E03 at) f = f ≡ fault.E03 at
Tells refusal.Memory f = Unit {0}

-- the refusal is the first fault of the bytes, unless memory ran out
abbrev pub IsRefusal : List ℕ → LexRefusal → Type 0
IsRefusal bytes (refusal.E02 at) = FaultsFirst bytes (fault.E02 at)
IsRefusal bytes (refusal.E03 at) = FaultsFirst bytes (fault.E03 at)
IsRefusal bytes refusal.Memory = Unit {0}
