use Rattle.std.proofs.Common.{◌∙◌, sym, ap, refl, eqb, get_or}
use Rattle.std.specs.Prelude.{Some}
use Rattle.std.specs.Option.{is_some}
use Rattle.std.proofs.lemmas.Bool.{eq-eqb, ne_eqb, cond-true, cond-false}
use Rattle.sat_arena.specs.Linking.{position, stands_at}
use Rattle.sat_arena.proofs.SlotLemmas.{stands_is, stands_kept, lits_same}
use Rattle.sat_arena.proofs.DropLemmas.{place_at, was_last, has_slot, links_moved, links_cut}
use Rattle.sat_arena.proofs.watching.drop_watch.Goals as goal

pub bounds-slots-place : goal.bounds-slots-place
bounds-slots-place c =
    has_slot c.args.slots.now c.args.l.code c.args.at c.args.ids.now c.items-left.result.now c.requires.linked c.requires.within (c.items-left.ensures ∙ c.swap_remove.ensures) c.if-at-left.true

pub set_position-requires : goal.set_position-requires
set_position-requires c =
    ap is_some (sym (stands_is c.args.slots.now c.args.l.code (place_at c.items-left.result.now c.args.at) c.index-slots-place.result (has_slot c.args.slots.now c.args.l.code c.args.at c.args.ids.now c.items-left.result.now c.requires.linked c.requires.within (c.items-left.ensures ∙ c.swap_remove.ensures) c.if-at-left.true))
    ∙ was_last (stands_at c.args.slots.now c.args.l.code) c.args.ids.now c.items-left.result.now c.args.at c.requires.linked c.requires.within (c.items-left.ensures ∙ c.swap_remove.ensures) c.if-at-left.true)

pub returns-then-at-left-clause-linked : goal.returns-then-at-left-clause-linked
returns-then-at-left-clause-linked c =
    links_moved c.args.slots.now c.args.l.code c.args.at c.args.ids.now c.swap_remove.new.self c.items-left.result.now c.set_position.new.self c.requires.linked c.requires.within c.swap_remove.ensures c.items-left.ensures c.if-at-left.true
    (c.set_position.ensures.position c.args.l.code ∙ cond-true (eqb c.args.l.code c.args.l.code) (Some c.args.at) (position c.args.l.code (get_or c.args.slots.now (place_at c.items-left.result.now c.args.at) c.index-slots-place.result)) (eq-eqb c.args.l.code c.args.l.code refl))

pub returns-then-at-left-clause-others : goal.returns-then-at-left-clause-others
returns-then-at-left-clause-others c d p n =
    stands_kept c.args.slots.now (place_at c.items-left.result.now c.args.at) d p c.index-slots-place.result c.set_position.new.self (has_slot c.args.slots.now c.args.l.code c.args.at c.args.ids.now c.items-left.result.now c.requires.linked c.requires.within (c.items-left.ensures ∙ c.swap_remove.ensures) c.if-at-left.true)
    (c.set_position.ensures.position d ∙ cond-false (eqb c.args.l.code d) (Some c.args.at) (position d (get_or c.args.slots.now (place_at c.items-left.result.now c.args.at) c.index-slots-place.result)) (ne_eqb c.args.l.code d n))

pub returns-then-at-left-clause-lits : goal.returns-then-at-left-clause-lits
returns-then-at-left-clause-lits c =
    lits_same c.args.slots.now (place_at c.items-left.result.now c.args.at) c.set_position.new.self c.index-slots-place.result (has_slot c.args.slots.now c.args.l.code c.args.at c.args.ids.now c.items-left.result.now c.requires.linked c.requires.within (c.items-left.ensures ∙ c.swap_remove.ensures) c.if-at-left.true) c.set_position.ensures.lits

pub returns-else-at-left-clause-linked : goal.returns-else-at-left-clause-linked
returns-else-at-left-clause-linked c =
    links_cut c.args.slots.now c.args.l.code c.args.at c.args.ids.now c.swap_remove.new.self c.items-left.result.now c.requires.linked c.requires.within c.swap_remove.ensures c.items-left.ensures c.if-at-left.false
