use Rattle.std.proofs.Common.{◌≡◌, take}
use Rattle.std.specs.Prelude.{true}
use Rattle.murphi_types.specs.Declarations.{Declared}
use Rattle.murphi_types.specs.Routines.{text_declared}
use Rattle.type_declarations.specs.Declaring.{declaring}
use Rattle.type_routines.proofs.texts.declare_all.Given as goal

abbrev pub invariant-loop-one : goal.invariant-loop-one
invariant-loop-one l =
    (d : Declared) → l.fn.start ≡ declaring true d →
    l.done ≡ declaring true (text_declared (take l.one-index l.all) d)
