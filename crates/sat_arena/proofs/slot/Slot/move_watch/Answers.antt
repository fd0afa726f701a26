use Rattle.std.proofs.Common.{◌≡◌, sym, ap, ◌∙◌, cond, eqb, true, false}
use Rattle.std.specs.List.{swap}
use Rattle.std.proofs.lemmas.Bool.{eq-eqb, ne_eqb, cond-true, cond-false}
use Rattle.sat_arena.specs.Linking.{position_in}
use Rattle.sat_arena.proofs.ClauseLemmas.{swapped_says}
use Rattle.sat_arena.proofs.slot.Slot.move_watch.Goals as goal

pub returns-then-from-eq0-clause-position : goal.returns-then-from-eq0-clause-position
returns-then-from-eq0-clause-position c x d =
    let t : eqb c.args.from 0 ≡ true = eq-eqb c.args.from 0 c.if-from-eq0.true in
    ap (λ ls. position_in ls c.args.at c.args.self.now.second d) c.swap.ensures.items
    ∙ ap (λ n. position_in (swap c.args.self.now.lits.items c.args.from c.args.to) n c.args.self.now.second d) (sym (cond-true (eqb c.args.from 0) c.args.at c.args.self.now.first t))
    ∙ ap (λ n. position_in (swap c.args.self.now.lits.items c.args.from c.args.to) (cond (eqb c.args.from 0) c.args.at c.args.self.now.first) n d) (sym (cond-true (eqb c.args.from 0) c.args.self.now.second c.args.at t))
    ∙ swapped_says c.args.self.now.lits.items c.args.from c.args.to c.args.self.now.first c.args.self.now.second c.args.at d x c.requires.from c.requires.to c.requires.within c.requires.once

pub returns-else-from-eq0-clause-position : goal.returns-else-from-eq0-clause-position
returns-else-from-eq0-clause-position c x d =
    let f : eqb c.args.from 0 ≡ false = ne_eqb c.args.from 0 c.if-from-eq0.false in
    ap (λ ls. position_in ls c.args.self.now.first c.args.at d) c.swap.ensures.items
    ∙ ap (λ n. position_in (swap c.args.self.now.lits.items c.args.from c.args.to) n c.args.at d) (sym (cond-false (eqb c.args.from 0) c.args.at c.args.self.now.first f))
    ∙ ap (λ n. position_in (swap c.args.self.now.lits.items c.args.from c.args.to) (cond (eqb c.args.from 0) c.args.at c.args.self.now.first) n d) (sym (cond-false (eqb c.args.from 0) c.args.self.now.second c.args.at f))
    ∙ swapped_says c.args.self.now.lits.items c.args.from c.args.to c.args.self.now.first c.args.self.now.second c.args.at d x c.requires.from c.requires.to c.requires.within c.requires.once
