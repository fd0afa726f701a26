use Rattle.std.proofs.Common.{◌≡◌, ◌∙◌, ◌||◌, ◌++◌, List, Bool, sym, ap, subst, take, drop, length, arith}
use Rattle.clause_core.specs.declared.literal.Lit.{Lit}
use Rattle.clause_core.specs.Literal.{opposite}
use Rattle.clause_derivation.specs.Resolution.{without}
use Rattle.clause_core.specs.Members.{has}
use Rattle.clause_derivation.specs.Marking.{mark_of, LosesMark}
use Rattle.sat_solver.proofs.TrailLemmas.{put_back}
use Rattle.sat_solver.proofs.StepLemmas.{step_taken}
use Rattle.sat_solver.proofs.resolvent.Resolvent.resolve.Goals as goal

pub returns-clause-step : goal.returns-clause-step
returns-clause-step c t =
    let n = c.self.inside.marked.len in
    let mid = c.unmark.new.marked in
    let new = c.mark_others.new.marked in
    let inner : take n (mid ++ drop (length mid) c.self.inside.marked.items) ≡ mid = put_back n mid (drop (length mid) c.self.inside.marked.items) (omega arith) in
    let middle = take n (mid ++ drop (length mid) c.self.inside.marked.items) in
    let outer : take n (new ++ drop (length new) middle) ≡ new = put_back n new (drop (length new) middle) (omega arith) in
    let opp : c.negated-opposite.result ≡ opposite c.args.made = c.negated-opposite.ensures.value in
    step_taken c.args.self.now mid (take n (new ++ drop (length new) middle)) c.args.reason.now c.args.made
    (ap (mark_of c.args.self.now) (sym opp) ∙ sym c.is_marked.ensures ∙ c.if-not-is_marked.false)
    (record {
      own = sym c.contains.ensures ∙ c.if-not-contains.false;
      one_way = ap (has c.args.reason.now) (sym opp) ∙ sym c.contains-2.ensures ∙ c.if-contains.false;
    })
    (subst (λ (x : Lit). LosesMark c.args.self.now mid x) opp (subst (λ (m : List Bool). LosesMark m mid c.negated-opposite.result) (c.as_mut_slice.ensures.value ∙ c.self.view_is) c.unmark.ensures.lost))
    (λ k. ap (λ (m : List Bool). mark_of m k) outer ∙ c.in_ok-mark_others.ensures.ok k ∙ ap (λ (m : List Bool). mark_of m k || has (without c.args.reason.now c.args.made) k) (c.as_mut_slice-2.ensures.value ∙ inner))
