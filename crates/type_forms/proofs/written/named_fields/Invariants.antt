use Rattle.std.proofs.Common.{◌≡◌, ◌++◌, drop}
use Rattle.murphi_types.specs.Types.{fields_named}
use Rattle.type_forms.proofs.written.named_fields.Given as goal

abbrev pub invariant-loop-one : goal.invariant-loop-one
invariant-loop-one l =
    l.all ++ fields_named (drop l.one-index l.names) l.of ≡ l.fn.fields ++ fields_named l.names l.of
