use Rattle.std.proofs.Common.{◌≡◌, drop}
use Rattle.std.specs.List.{list_any}
use Rattle.std.specs.Str.{bytes_eq}
use Rattle.type_parts.proofs.context.Context.is_routine_name.Given as goal

abbrev pub invariant-loop-one : goal.invariant-loop-one
invariant-loop-one l =
    list_any (λ r. bytes_eq r l.name) (drop l.one-index l.self.scope.routines)
    ≡ list_any (λ r. bytes_eq r l.name) l.self.scope.routines
