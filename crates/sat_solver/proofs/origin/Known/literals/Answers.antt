use Rattle.std.proofs.Common.{◌∙◌, ap, length}
use Rattle.std.specs.Prelude.{slice_get}
use Rattle.sat_solver.specs.Naming.{numbered, number_of}
use Rattle.sat_solver.specs.declared.origin.Origin.{Origin}
use Rattle.sat_solver.proofs.NamingLemmas.{learned_named}
use Rattle.sat_solver.proofs.origin.Known.literals.Goals as goal

pub returns-then-at-self-2-clause-named : goal.returns-then-at-self-2-clause-named
returns-then-at-self-2-clause-named c =
    ap (λ (o : Origin). slice_get (numbered c.args.self.now.given.now c.args.self.now.chains.now) (number_of (length c.args.self.now.given.now) o)) c.in-Learned.is
    ∙ learned_named c.args.self.now.given.now c.args.self.now.chains.now c.in-Learned.at c.index-self-at-then-at-self-2.result c.index-self-at-then-at-self-2.result c.items-then-at-self-2.result.now c.if-at-self-2.true c.index-self-at-then-at-self-2.is c.items-then-at-self-2.ensures
