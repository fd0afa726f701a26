use Rattle.type_items.proofs.ItemEquations.{group-done}
use Rattle.type_items.proofs.items.+items.Goals as goal

pub item-returns-in_ok-done-in-Group : goal.item-returns-in_ok-done-in-Group
item-returns-in_ok-done-in-Group t c =
    group-done c.args.opened.now c.args.past c.args.size.now c.args.one.now c.in-Group.binds c.in-Group.items c.in-Group.at
    c.args.done c.mark_of-mark.result c.as_slice-in-Group.result.now c.as_slice-in-Group-2.result.now
    c.as_slice-in-Group-4.result.now c.as_slice-in-Group-3.result.now c.in_ok-inside-in-Group.inside
    c.in_ok-past-in-Group.past c.seen-size.result.now c.as_slice-in-Group-5.result.now c.in_ok-done-in-Group.done
    c.left.result c.in-Group.is c.mark_of-mark.ensures c.as_slice-in-Group.ensures c.in_ok-inside-in-Group.ensures
    c.as_slice-in-Group-2.ensures c.as_slice-in-Group-3.ensures c.in_ok-past-in-Group.ensures
    c.as_slice-in-Group-4.ensures c.seen-size.ensures c.as_slice-in-Group-5.ensures c.in_ok-done-in-Group.ensures
    c.left.ensures
