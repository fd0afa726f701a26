use Rattle.std.proofs.Common.{◌≡◌, length, sym, ap, subst, arith}
use Rattle.cnf_emit.specs.Reach.{IsWithin}
use Rattle.cnf_emit.proofs.EncodeLemmas.{formula_count, formula_range, formula_roots, formula_extends}
use Rattle.cnf_emit.proofs.emission.emit.Goals as goal

pub returns-clause-count : goal.returns-clause-count
returns-clause-count c = formula_count c.in_ok-draft.draft c.args.roots.now c.in_ok-lits.lits.items c.in_ok-lits.ensures

pub returns-clause-range : goal.returns-clause-range
returns-clause-range c =
    formula_range c.args.c.now c.deref.result.now c.in_ok-marks.marks.items c.in_ok-draft.draft c.args.roots.now c.in_ok-lits.lits.items c.in_ok-cnf.cnf.variables c.deref.ensures.value c.in_ok-draft.ensures.encodes
    (λ k d h. omega (arith, c.requires k d h, c.in_ok-draft.ensures.nodes)) c.in_ok-marks.ensures.roots c.in_ok-lits.ensures c.in_ok-cnf.ensures.variables

pub returns-clause-extends : goal.returns-clause-extends
returns-clause-extends c =
    formula_extends c.args.c.now c.deref.result.now c.in_ok-draft.draft c.in_ok-cnf.cnf.variables c.in_ok-cnf.cnf.clauses c.in_ok-draft.ensures.encodes c.in_ok-cnf.ensures.variables c.in_ok-cnf.ensures.clauses

pub returns-clause-roots : goal.returns-clause-roots
returns-clause-roots c =
    formula_roots c.args.c.now c.deref.result.now c.in_ok-marks.marks.items c.in_ok-draft.draft c.args.roots.now c.in_ok-lits.lits.items c.in_ok-cnf.cnf.clauses c.deref.ensures.value c.in_ok-draft.ensures.encodes
    (λ k d h. omega (arith, c.requires k d h, c.in_ok-draft.ensures.nodes)) c.in_ok-marks.ensures.roots c.in_ok-lits.ensures c.in_ok-cnf.ensures.clauses

pub returns-clause-only : goal.returns-clause-only
returns-clause-only c = λ p closed roots.
    omega (arith, c.in_ok-cnf.ensures.variables, c.in_ok-draft.ensures.few p (subst (λ l. IsWithin l p) (sym c.deref.ensures.value) (c.in_ok-marks.ensures.least p closed roots)))

pub returns-clause-only_clauses : goal.returns-clause-only_clauses
returns-clause-only_clauses c = λ p closed roots.
    let same : length c.in_ok-cnf.cnf.clauses ≡ length c.in_ok-draft.draft.clauses = ap length c.in_ok-cnf.ensures.clauses in
    omega (arith, same, c.in_ok-draft.ensures.short p (subst (λ l. IsWithin l p) (sym c.deref.ensures.value) (c.in_ok-marks.ensures.least p closed roots)))
