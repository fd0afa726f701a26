use Rattle.std.specs.Prelude.{IsSomeAnd, slice_get}
use Rattle.std.proofs.Common.{◌≡◌, ◌∙◌, ◌++◌, ◌∷◌, [], ◌+◌, ◌<◌, ◌^◌, List, sym, ap, subst, arith, length, length-append}
use Rattle.clause_core.specs.declared.literal.Lit.{Lit}
use Rattle.clause_core.specs.Formula.{IsInRange}
use Rattle.clause_derivation.specs.declared.chain.Chain.{Chain}
use Rattle.clause_derivation.specs.Derivation.{Derives, results}
use Rattle.clause_core.specs.Members.{NoneTwice}
use Rattle.sat_solver.specs.Naming.{IsUsable}
use Rattle.sat_solver.proofs.SolverLemmas.{places_range, usable_more, reasons_later, last_chain}
use Rattle.sat_solver.proofs.learn.explain.Goals as goal

pub returns-clause-solver : goal.returns-clause-solver
returns-clause-solver c =
    let s = c.requires.solver in
    let cs = c.args.cnf.now.clauses in
    let log = c.args.log.now in
    let ch = c.in_ok-chain.chain in
    let room : length cs + length log < 2 ^ 32 = omega (arith, ap length c.clauses.ensures.items, ap length c.items.ensures) in
    let range : IsInRange c.args.cnf.now.variables ch.result = places_range c.args.cnf.now.variables (length c.args.engine.now.marks) ch.result s.fits.marks c.in_ok-chain.ensures.range in
    let derives : Derives (cs ++ results log) ch =
    subst (λ (xs : List Chain). Derives (cs ++ results xs) ch) c.items.ensures
    (subst (λ (xs : List (List Lit)). Derives (xs ++ results c.items.result.now) ch) c.clauses.ensures.items c.in_ok-chain.ensures.derives) in
    record {
      derivation = c.in_ok-push.ensures.grows cs s.derivation derives;
      usable = subst (IsUsable c.args.cnf.now.variables cs) (sym c.in_ok-push.ensures.ok) (usable_more c.args.cnf.now.variables cs log ch s.usable range room);
      fits = record { trail = s.fits.trail; marks = c.analyze.ensures.length ∙ s.fits.marks; arena = s.fits.arena };
      reasons = reasons_later (length cs) (length log) (length cs) (length c.push.new.self) c.args.engine.now.trail.entries (omega arith) (omega (arith, ap length c.in_ok-push.ensures.ok, length-append log (ch ∷ []))) s.reasons;
    }

pub returns-clause-once : goal.returns-clause-once
returns-clause-once c = subst NoneTwice (sym c.in_ok-learned.ensures) c.in_ok-chain.ensures.once

pub returns-clause-added : goal.returns-clause-added
returns-clause-added c = (
  ap length c.in_ok-push.ensures.ok ∙ length-append c.args.log.now (c.in_ok-chain.chain ∷ []),
  subst (λ (log : List Chain). IsSomeAnd (slice_get log (length c.args.log.now)) (λ x. x.result ≡ c.in_ok-learned.learned)) (sym c.in_ok-push.ensures.ok) (last_chain c.args.log.now c.in_ok-chain.chain c.in_ok-learned.learned c.in_ok-learned.ensures),
)
