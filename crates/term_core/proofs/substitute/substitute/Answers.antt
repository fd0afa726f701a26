use Rattle.std.proofs.Common.{◌≤◌, ◌∙◌, sym, ap, subst}
use Rattle.term_core.specs.Meaning.{value_of}
use Rattle.term_core.specs.Variables.{free_variables, fits}
use Rattle.term_core.proofs.SubstitutionLemmas.{substitution_binds}
use Rattle.term_core.proofs.VariableLemmas.{substituted_below, substituted_fits}
use Rattle.term_core.proofs.substitute.substitute.Goals as goal

pub returns-clause-value : goal.returns-clause-value
returns-clause-value c N read frame n long stands =
    ap (value_of N read frame) c.in_ok-out.ensures ∙ substitution_binds N read frame c.args.depth c.args.var n c.args.by.now c.args.t.now c.requires.variable long stands

pub returns-clause-variables : goal.returns-clause-variables
returns-clause-variables c =
    subst (λ x. free_variables x ≤ c.args.depth) (sym c.in_ok-out.ensures) (substituted_below c.args.depth c.args.var c.args.by.now c.args.t.now c.requires.other c.requires.term)

pub returns-clause-reads : goal.returns-clause-reads
returns-clause-reads c fs one other =
    ap (fits fs) c.in_ok-out.ensures ∙ substituted_fits fs c.args.depth c.args.var c.args.by.now c.args.t.now other ∙ one
