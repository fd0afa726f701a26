use Rattle.std.proofs.Common.{◌≡◌, drop}
use Rattle.inductive_check.specs.Certificates.{renamed as renamed_literal}
use Rattle.inductive_check.proofs.renaming.renamed.Given as goal

abbrev pub invariant-loop-i : goal.invariant-loop-i
invariant-loop-i l = renamed_literal (drop l.i l.current) (drop l.i l.next) l.l ≡ renamed_literal l.current l.next l.l
