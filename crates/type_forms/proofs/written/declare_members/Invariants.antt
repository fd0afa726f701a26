use Rattle.std.proofs.Common.{◌≡◌, ◌++◌, drop}
use Rattle.murphi_types.specs.Types.{enum_entries, member}
use Rattle.type_forms.proofs.written.declare_members.Given as goal

abbrev pub invariant-loop-one : goal.invariant-loop-one
invariant-loop-one l =
    (l.index ≡ l.one-index)
    × (l.names ++ enum_entries (member l.fits l.kind l.count) l.one-index (drop l.one-index l.members)
    ≡ l.fn.names ++ enum_entries (member l.fits l.kind l.count) 0 l.members)
