-- What was tested of the names and items is what the tree is judged by.
use Rattle.std.proofs.Common.{◌≡◌, true, false, sym, ap, ◌∙◌, arith}
use Rattle.murphi_syntax.specs.Stop.{is_flat}
use Rattle.murphi_syntax.proofs.FlatLaws.{judged_ok, judged_ninth, judged_not}
use Rattle.murphi_syntax.proofs.protocol.judged_by.Goals as goal

pub returns-then-not-is_flat : goal.returns-then-not-is_flat
returns-then-not-is_flat c =
    let failed : c.is_flat.result ≡ false = grind arith in
    judged_not c.args.p c.args.names.now c.args.end c.requires (ap (is_flat c.args.names.now) (sym c.as_slice.ensures) ∙ sym c.is_flat.ensures ∙ failed)

pub returns-in-Some : goal.returns-in-Some
returns-in-Some c =
    let passed : c.is_flat.result ≡ true = grind arith in
    judged_ninth c.args.p c.args.names.now c.in-Some.at c.requires (ap (is_flat c.args.names.now) (sym c.as_slice.ensures) ∙ sym c.is_flat.ensures ∙ passed) c.in-Some.ensures

pub returns-in-None : goal.returns-in-None
returns-in-None c =
    let passed : c.is_flat.result ≡ true = grind arith in
    judged_ok c.args.p c.args.names.now c.requires (ap (is_flat c.args.names.now) (sym c.as_slice.ensures) ∙ sym c.is_flat.ensures ∙ passed) c.in-None.ensures
