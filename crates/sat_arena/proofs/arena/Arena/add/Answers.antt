use Rattle.std.proofs.Common.{◌≡◌, ◌<◌, ◌≤◌, [], ◌∷◌, ◌++◌, length, ap, sym, ◌∙◌, subst, arith}
use Rattle.std.proofs.lemmas.List.{take_at}
use Rattle.sat_arena.specs.Linking.{lits_of, live_from, added}
use Rattle.clause_core.specs.Formula.{IsInRange}
use Rattle.clause_core.specs.Members.{NoneTwice}
use Rattle.sat_arena.proofs.LinkLemmas.{id_at}
use Rattle.sat_arena.proofs.ClauseLemmas.{code_within, list_read}
use Rattle.sat_arena.proofs.LiveLemmas.{ids_differ}
use Rattle.sat_arena.proofs.ReadLemmas.{place_within}
use Rattle.sat_arena.proofs.ArenaLemmas.{seen_differ, seen_live, seen_variables, arena_add, live_more}
use Rattle.sat_arena.proofs.arena.Arena.add.Goals as goal

pub returns-then-len-clause-differ : goal.returns-then-len-clause-differ
returns-then-len-clause-differ c = seen_differ c.self.inside.variables (lits_of c.self.inside.slots.items) c.args.self.now c.self.view_is

pub returns-in_err-lits-clause-differ : goal.returns-in_err-lits-clause-differ
returns-in_err-lits-clause-differ c = seen_differ c.self.inside.variables (lits_of c.self.inside.slots.items) c.args.self.now c.self.view_is

pub returns-in_err-reserve-clause-differ : goal.returns-in_err-reserve-clause-differ
returns-in_err-reserve-clause-differ c = ids_differ (lits_of c.reserve.new.self.items)

pub returns-in_err-add_watches-clause-differ : goal.returns-in_err-add_watches-clause-differ
returns-in_err-add_watches-clause-differ c = ids_differ (lits_of c.reserve.new.self.items)

pub invariant_of-self-2 : goal.invariant_of-self-2
invariant_of-self-2 c =
    let lits : c.in_ok-lits.lits.items ≡ c.args.c.now = c.in_ok-lits.ensures.items ∙ c.items.ensures in
    let long : 2 ≤ length c.in_ok-lits.lits.items = (let e : length c.in_ok-lits.lits.items ≡ length c.args.c.now = ap length lits in omega (arith, c.requires.two)) in
    let range : IsInRange c.self.inside.variables c.in_ok-lits.lits.items =
    subst (λ n. IsInRange n c.in_ok-lits.lits.items) (sym (seen_variables c.self.inside.variables (lits_of c.self.inside.slots.items) c.args.self.now c.self.view_is)) (subst (IsInRange c.args.self.now.variables) (sym lits) c.requires.range) in
    arena_add c.self.inside.variables c.self.inside.slots.items c.push_reserved.new.self.items c.self.inside.watched.items _ (record { lits = c.in_ok-lits.lits; first = length c.items-2.result.now; second = length c.items-3.result.now; moved = 0 }) c.index-first.result.now c.index-second.result.now c.self.invariant
    (c.push_reserved.ensures.items ∙ ap (λ ss. ss ++ (record { lits = c.in_ok-lits.lits; first = length c.items-2.result.now; second = length c.items-3.result.now; moved = 0 }) ∷ []) c.reserve.ensures.items)
    (take_at c.add_watches.new.watched _ c.self.inside.watched.len (omega arith) ∙ c.in_ok-add_watches.ensures.ok
    ∙ ap (λ w. added (added w c.index-first.result.now.code (id_at c.len-2.result)) c.index-second.result.now.code (id_at c.len-2.result)) c.as_mut_slice.ensures.value
    ∙ ap (λ p. added (added c.self.inside.watched.items c.index-first.result.now.code (id_at p)) c.index-second.result.now.code (id_at p)) (omega arith))
    (omega arith) long (subst NoneTwice (sym lits) c.requires.once) range c.index-first.ensures c.index-second.ensures
    (ap length (list_read c.self.inside.watched.items c.index-first.result.now.code c.items-2.result.now c.index.result.now c.items-2.ensures c.index.ensures
    (code_within c.self.inside.variables c.self.inside.watched.items c.in_ok-lits.lits.items 0 c.index-first.result.now c.self.invariant.lists range (omega arith) c.index-first.ensures)))
    (ap length (list_read c.self.inside.watched.items c.index-second.result.now.code c.items-3.result.now c.index-2.result.now c.items-3.ensures c.index-2.ensures
    (code_within c.self.inside.variables c.self.inside.watched.items c.in_ok-lits.lits.items 1 c.index-second.result.now c.self.invariant.lists range (omega arith) c.index-second.ensures)))

pub returns-clause-ok : goal.returns-clause-ok
returns-clause-ok c =
    let lits : c.in_ok-lits.lits.items ≡ c.args.c.now = c.in_ok-lits.ensures.items ∙ c.items.ensures in
    let e : length c.in_ok-lits.lits.items ≡ length c.args.c.now = ap length lits in
    let place : length c.self.inside.slots.items ≡ c.len-2.result = omega arith in
    ap (λ ss. live_from 0 (lits_of ss)) (c.push_reserved.ensures.items ∙ ap (λ ss. ss ++ (record { lits = c.in_ok-lits.lits; first = length c.items-2.result.now; second = length c.items-3.result.now; moved = 0 }) ∷ []) c.reserve.ensures.items)
    ∙ live_more c.self.inside.slots.items (record { lits = c.in_ok-lits.lits; first = length c.items-2.result.now; second = length c.items-3.result.now; moved = 0 }) (omega (arith, c.requires.two))
    ∙ ap (λ es. es ++ record { place = length c.self.inside.slots.items; lits = c.in_ok-lits.lits.items } ∷ []) (seen_live c.self.inside.variables (lits_of c.self.inside.slots.items) c.args.self.now c.self.view_is)
    ∙ ap (λ p. c.args.self.now.live ++ record { place = p; lits = c.in_ok-lits.lits.items } ∷ []) place
    ∙ ap (λ ls. c.args.self.now.live ++ record { place = c.len-2.result; lits = ls } ∷ []) lits

pub returns-clause-fresh : goal.returns-clause-fresh
returns-clause-fresh c l =
    let h : c.len-2.result < length c.self.inside.slots.items = place_within c.self.inside.variables c.self.inside.slots.items c.self.inside.watched.items c.self.invariant c.args.self.now c.self.view_is (record { place = c.len-2.result }) l in
    omega arith

pub returns-clause-differ : goal.returns-clause-differ
returns-clause-differ c = ids_differ (lits_of c.push_reserved.new.self.items)
