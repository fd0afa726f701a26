use Rattle.std.proofs.Common.{◌≡◌, take}
use Rattle.murphi_types.specs.Declarations.{Declared, all_declared}
use Rattle.type_declarations.specs.Declaring.{declaring}
use Rattle.std.specs.Prelude.{false}
use Rattle.type_routines.proofs.routines.declare_locals.Given as goal

abbrev pub invariant-loop-one : goal.invariant-loop-one
invariant-loop-one l =
    (d : Declared) → l.fn.done ≡ declaring false d →
    l.done ≡ declaring false (all_declared false (take l.one-index l.all) d)
