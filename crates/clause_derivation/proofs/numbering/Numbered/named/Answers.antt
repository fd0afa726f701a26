use Rattle.std.proofs.Common.{arith, ap, ◌∙◌, Some}
use Rattle.clause_derivation.proofs.NumberLemmas.{unit_named, chain_named, none_named}
use Rattle.clause_derivation.proofs.numbering.Numbered.named.Goals as goal

pub returns-then-at-self-3 : goal.returns-then-at-self-3
returns-then-at-self-3 c = unit_named c.args.self.now.cnf.now c.args.self.now.more.now c.args.self.now.units.now c.args.self.now.chains.now _ _ (omega arith) (omega arith)

pub returns-then-at-self-4 : goal.returns-then-at-self-4
returns-then-at-self-4 c =
    ap Some c.items-then-at-self-4.ensures
    ∙ chain_named c.args.self.now.cnf.now c.args.self.now.more.now c.args.self.now.units.now c.args.self.now.chains.now c.args.number _ _ (omega arith) (omega arith)

pub returns : goal.returns
returns c = none_named c.args.self.now.cnf.now c.args.self.now.more.now c.args.self.now.units.now c.args.self.now.chains.now c.args.number (omega arith)
