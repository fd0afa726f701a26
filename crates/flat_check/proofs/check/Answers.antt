use Rattle.std.proofs.Common.{◌∙◌}
use Rattle.flat_check.proofs.SearchLemmas.{found_finding, clear_inductive}
use Rattle.flat_check.proofs.check.Goals as goal

pub returns-in-Some : goal.returns-in-Some
returns-in-Some c =
    found_finding c.args.p.now c.as_slice.result.now c.as_slice-2.result.now c.in-Some.found (c.as_slice.ensures ∙ c.in_ok-names.ensures) c.as_slice-2.ensures (rw c.in-Some.is at c.in_ok-found.ensures)

pub returns : goal.returns
returns c =
    clear_inductive c.args.p.now c.as_slice.result.now c.as_slice-2.result.now (c.as_slice.ensures ∙ c.in_ok-names.ensures) c.as_slice-2.ensures (rw c.in-None.is at c.in_ok-found.ensures)
