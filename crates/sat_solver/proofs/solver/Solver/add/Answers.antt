use Rattle.std.proofs.Common.{◌≡◌, ◌∙◌, ◌<◌, ◌+◌, ◌*◌, ◌^◌, ◌∷◌, [], List, ap, sym, subst, length, arith, length-append}
use Rattle.std.proofs.lemmas.List.{length-map}
use Rattle.clause_core.specs.declared.literal.Lit.{Lit}
use Rattle.clause_core.specs.Formula.{IsInRange}
use Rattle.clause_derivation.specs.Derivation.{IsDerivation}
use Rattle.clause_derivation.specs.Renumbering.{moved_chain}
use Rattle.sat_solver.specs.Naming.{IsUsable}
use Rattle.sat_solver.specs.Answers.{Reasoning}
use Rattle.sat_solver.proofs.SolverLemmas.{usable_added, reasons_later}
use Rattle.sat_solver.proofs.solver.Solver.add.Goals as goal

pub invariant_of-self-2 : goal.invariant_of-self-2
invariant_of-self-2 c =
    let s = c.self.invariant in
    let v = c.self.inside.cnf.variables in
    let cs = c.self.inside.cnf.clauses in
    let log = c.self.inside.log in
    let same : length c.clauses-clauses.result.now ≡ length cs = ap length c.clauses-clauses.ensures.items in
    let room : length cs + length log < 2 ^ 32 = omega (arith, same, ap length c.items.ensures) in
    let range : IsInRange v c.in_ok-copy.copy = subst (IsInRange v) (sym c.in_ok-copy.ensures) (subst (λ (r : Reasoning). IsInRange r.cnf.variables c.args.c.now) (sym c.self.view_is) c.requires) in
    let count : length c.make_room.new.self ≡ length log = ap length c.make_room.ensures.value ∙ length-map log (moved_chain (length c.clauses-clauses.result.now)) in
    record {
      derivation = subst (λ (xs : List (List Lit)). IsDerivation xs c.make_room.new.self) (sym c.in_ok-push.ensures.ok) (c.make_room.ensures.stays cs c.in_ok-copy.copy (sym same) room s.derivation);
      usable = subst (λ n. IsUsable n c.push.new.self.clauses c.make_room.new.self) (sym c.in_ok-push.ensures.variables)
          (subst (λ (xs : List (List Lit)). IsUsable v xs c.make_room.new.self) (sym c.in_ok-push.ensures.ok)
          (usable_added v cs log c.make_room.new.self c.in_ok-copy.copy s.usable c.make_room.ensures.results count range room));
      fits = record { trail = s.fits.trail ∙ sym c.in_ok-push.ensures.variables; marks = s.fits.marks ∙ ap (λ n. 2 * n) (sym c.in_ok-push.ensures.variables); arena = s.fits.arena ∙ sym c.in_ok-push.ensures.variables };
      reasons = reasons_later (length cs) (length log) (length c.push.new.self.clauses) (length c.make_room.new.self) c.self.inside.engine.trail.entries
          (omega (arith, ap length c.in_ok-push.ensures.ok, length-append cs (c.in_ok-copy.copy ∷ []))) (omega (arith, count)) s.reasons;
    }
