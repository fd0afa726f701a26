-- The names of one scope, in text order, with the first that was there before it was declared.
use Rattle.std.specs.Prelude.{not, List, [], ◌∷◌, ◌++◌, None, is_some}
use Rattle.murphi_ast.specs.declared.expr.Named.{Named}
use Rattle.murphi_ast.specs.declared.expr.FieldDecl.{FieldDecl}
use Rattle.murphi_types.specs.declared.fault.Cause.TheVariants as cause
use Rattle.murphi_types.specs.declared.scope.Meaning.TheVariants as meaning
use Rattle.murphi_types.specs.Faults.{sooner}
use Rattle.murphi_types.specs.Scopes.{earliest, entry}
use Rattle.type_parts.specs.Judging.{own}
use Rattle.type_names.specs.declared.scope.Scoped.{Scoped}

abbrev pub no_names : Scoped
no_names = record { names = []; fault = None }

-- one name more: E06 at it where it was there
abbrev pub declared_in : Scoped → Named → Scoped
declared_in D n =
    record {
      names = D.names ++ entry n.name meaning.Refused ∷ [];
      fault = sooner D.fault (own (not (is_some (earliest D.names n.name))) cause.E06 n.at);
    }

abbrev pub all_declared : Scoped → List Named → Scoped
all_declared D [] = D
all_declared D (n ∷ ns) = all_declared (declared_in D n) ns

-- the names of the fields of a record
abbrev pub names_of_fields : List FieldDecl → List Named
names_of_fields [] = []
names_of_fields (f ∷ fs) = f.names ++ names_of_fields fs

abbrev pub fields_declared : Scoped → List FieldDecl → Scoped
fields_declared D [] = D
fields_declared D (f ∷ fs) = fields_declared (all_declared D f.names) fs
