-- The worked cases, each by computing it.
use Rattle.std.specs.Prelude.{refl}
use denote.Hole.Carrier.{hidden}
use Rattle.term_core.specs.declared.term.Term.TheBlock.{hidden-the_row-Term-0, shape-the_row-Term-1, hidden-the_row-Term-1}
use Rattle.term_core.specs.Substitution.{replaced}
use Rattle.murphi_typed.specs.Families.{leaf_at, ways}
use Rattle.rule_inline.specs.Tables.{dropped}
use Rattle.rule_inline.specs.Parts.{valued_of}
use Rattle.rule_inline.specs.Bodies.{done_by}
use Rattle.rule_inline.specs.Worked.{CopiesAreAsWorked, LinkIsAsWorked, MutexIsAsWorked, CallsAreAsWorked}
use Rattle.rule_inline.specs.WorkedMore.{MixedAreAsWorked}

pub copies : CopiesAreAsWorked
unfolding replaced leaf_at ways dropped valued_of done_by hidden-the_row-Term-0 shape-the_row-Term-1 hidden-the_row-Term-1 hidden
copies = (refl, refl, refl, refl, refl, refl, refl)

pub link : LinkIsAsWorked
unfolding replaced leaf_at ways dropped valued_of done_by hidden-the_row-Term-0 shape-the_row-Term-1 hidden-the_row-Term-1 hidden
link = (refl, refl, refl, refl, refl, refl)

pub mutex : MutexIsAsWorked
unfolding replaced leaf_at ways dropped valued_of done_by hidden-the_row-Term-0 shape-the_row-Term-1 hidden-the_row-Term-1 hidden
mutex = (refl, refl, refl, refl, refl, refl, refl)

pub calls : CallsAreAsWorked
unfolding replaced leaf_at ways dropped valued_of done_by hidden-the_row-Term-0 shape-the_row-Term-1 hidden-the_row-Term-1 hidden
calls = (refl, refl, refl, refl)

pub mixed : MixedAreAsWorked
unfolding replaced leaf_at ways dropped valued_of done_by hidden-the_row-Term-0 shape-the_row-Term-1 hidden-the_row-Term-1 hidden
mixed = (refl, refl, refl, refl, refl, refl, refl, refl, refl, refl)
