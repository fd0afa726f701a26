-- Names that are kept by hash, and refusals of tokens. Mechanism.
use Rattle.std.specs.Prelude.{◌≡◌, ℕ, Bool, List, map, Result, Ok, Err, None, Some}
use Rattle.std.specs.Global.{Vec}
use Rattle.murphi_ast.specs.declared.expr.Named.{Named}
use Rattle.murphi_lex.specs.declared.scanning.LexRefusal.{LexRefusal}
use Rattle.murphi_lex.specs.declared.scanning.LexRefusal.TheVariants as lex
use Rattle.job_files.specs.declared.refusal.JobRefusal.{JobRefusal}
use Rattle.job_files.specs.declared.refusal.JobRefusal.TheVariants as refusal
use Rattle.job_files.specs.Told.{second_use}

abbrev pub name_in : Vec ℕ × Bool → List ℕ
name_in (key, _) = key.items

abbrev pub names_in : List (Vec ℕ × Bool) → List (List ℕ)
names_in entries = map name_in entries

-- a list is answered where no name is used twice, and else the second use
abbrev pub IsDistinct : {V : Type 0} → (V → Named) → List V → Result (List V) JobRefusal → Type 0
IsDistinct name all (Ok items) = (items ≡ all) × (second_use (map name all) ≡ None)
IsDistinct name all (Err (refusal.E06 at)) = second_use (map name all) ≡ Some at
IsDistinct name all (Err refusal.Memory) = Unit {0}
IsDistinct name all (Err _) = ⊥

-- the refusal of bytes that are not those of tokens
abbrev pub lexed : LexRefusal → JobRefusal
lexed (lex.E02 at) = refusal.E02 at
lexed (lex.E03 at) = refusal.E03 at
lexed lex.Memory = refusal.Memory
