use Rattle.std.proofs.Common.{◌*◌, ◌≤◌, length, ap, sym, subst, arith}
use Rattle.clause_core.specs.Formula.{IsInRange}
use Rattle.inductive_check.proofs.OwnLemmas.{own_short, own_range}
use Rattle.inductive_check.proofs.refuting.starts_satisfy.Goals as goal

pub add_opposites-requires-clause-room : goal.add_opposites-requires-clause-room
add_opposites-requires-clause-room c =
    let s = c.args.system.now in
    let few : length c.args.clause.now ≤ 2 * c.args.marks.now.variables = own_short s.start.variables c.args.marks.now.variables s.current c.args.clause.now c.requires.room c.start-start.ensures.system.current_in_start c.requires.own in
    omega (arith, few, ap length c.items.ensures, ap length c.clear_units.ensures.units, c.clear_units.ensures.variables)

pub add_opposites-requires-clause-range : goal.add_opposites-requires-clause-range
add_opposites-requires-clause-range c =
    let s = c.args.system.now in
    subst (λ n. IsInRange n c.items.result.now) (sym c.clear_units.ensures.variables)
    (subst (IsInRange c.args.marks.now.variables) (sym c.items.ensures)
    (own_range s.start.variables c.args.marks.now.variables s.current c.args.clause.now c.requires.room c.start-start.ensures.system.current_in_start c.requires.own))
