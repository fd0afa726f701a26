-- The breaks of single statements, over the lists that code reads.
use Rattle.std.specs.Prelude.{Bool, false, ◌||◌, List, [], ◌∷◌, Option, None}
use Rattle.std.specs.List.{flat_map}
use Rattle.murphi_typed.specs.declared.types.Field.{Field}
use Rattle.murphi_typed.specs.declared.stmt.Stmt.{Stmt}
use Rattle.murphi_typed.specs.declared.stmt.Arm.{Arm}
use Rattle.murphi_typed.specs.declared.stmt.Case.{Case}
use Rattle.scalarset_rules.specs.declared.scan.Want.{Want}
use Rattle.scalarset_rules.specs.declared.scan.Want.TheVariants as want
use Rattle.scalarset_rules.specs.Rules.{Break, holds_scalarset, Standing, bad_clear, bad_return, bad_for, inner_statements, statements, sooner, first_break}

abbrev pub list_holds : List Field → Bool
list_holds [] = false
list_holds (f ∷ fs) = holds_scalarset f.of || list_holds fs

-- the breaks that are looked for, in one statement
abbrev pub wanted : Want → Bool → Stmt → List Break
wanted want.Clear inside stmt = bad_clear stmt
wanted want.Return inside stmt = bad_return inside stmt
wanted want.For inside stmt = bad_for stmt

abbrev pub found : Want → Standing → List Break
found w p = wanted w p.inside p.statement

abbrev pub own_break : Want → Bool → Stmt → Option Break
own_break w inside stmt = first_break (wanted w inside stmt)

-- the first in the statements that stand in a statement
abbrev pub first_inner : Want → Bool → Stmt → Option Break
first_inner w inside stmt = first_break (flat_map (found w) (inner_statements inside stmt))

abbrev pub first_all : Want → Bool → List Stmt → Option Break
first_all w inside [] = None
first_all w inside (s ∷ ss) = sooner (sooner (own_break w inside s) (first_inner w inside s)) (first_all w inside ss)

abbrev pub first_arms : Want → Bool → List Arm → Option Break
first_arms w inside [] = None
first_arms w inside (a ∷ rest) = sooner (first_all w inside a.body) (first_arms w inside rest)

abbrev pub first_cases : Want → Bool → List Case → Option Break
first_cases w inside [] = None
first_cases w inside (c ∷ rest) = sooner (first_all w inside c.body) (first_cases w inside rest)

abbrev pub first_in_body : Want → Stmt → Option Break
first_in_body w body = first_break (flat_map (found w) (statements body))
