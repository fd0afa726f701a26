-- The worked cases, each by computing it.
use Rattle.std.specs.Prelude.{refl}
use denote.Hole.Carrier.{hidden}
use Rattle.term_core.specs.declared.term.Term.TheBlock.{hidden-the_row-Term-0, shape-the_row-Term-1, hidden-the_row-Term-1}
use Rattle.other_abstract.specs.Tests.{may}
use Rattle.abstract_rows.specs.Values.{OnlyIsAsWorked, OthersAreAsWorked, ReadsAreAsWorked}
use Rattle.abstract_rows.specs.Counts.{PatternsAreAsCounted, CellsAreAsCounted, RefusalsAreAsWorked}
use Rattle.abstract_rows.specs.Starts.{StartsAreAsWorked, FaultsAreAsWorked}
use Rattle.abstract_rows.specs.Mutex.{PathIsAsWorked, ShortPathIsNone, ViolationsAreAsWorked}

pub only : OnlyIsAsWorked
unfolding may hidden-the_row-Term-0 shape-the_row-Term-1 hidden-the_row-Term-1 hidden
only = (refl, refl, refl, refl, refl, refl, refl, refl)

pub others : OthersAreAsWorked
unfolding may hidden-the_row-Term-0 shape-the_row-Term-1 hidden-the_row-Term-1 hidden
others = (refl, refl, refl, refl, refl, refl, refl)

pub reads : ReadsAreAsWorked
unfolding may hidden-the_row-Term-0 shape-the_row-Term-1 hidden-the_row-Term-1 hidden
reads = (refl, refl, refl, refl, refl, refl, refl, refl, refl)

pub patterns : PatternsAreAsCounted
patterns = (refl, refl, refl, refl, refl, refl, refl, refl, refl)

pub cells : CellsAreAsCounted
cells = (refl, refl)

pub refusals : RefusalsAreAsWorked
refusals = (refl, refl)

pub path : PathIsAsWorked
unfolding may hidden-the_row-Term-0 shape-the_row-Term-1 hidden-the_row-Term-1 hidden
path alloc = (refl, refl, refl, refl, refl, refl)

pub short : ShortPathIsNone
unfolding may hidden-the_row-Term-0 shape-the_row-Term-1 hidden-the_row-Term-1 hidden
short alloc = (refl, refl, refl, refl)

pub violations : ViolationsAreAsWorked
unfolding may hidden-the_row-Term-0 shape-the_row-Term-1 hidden-the_row-Term-1 hidden
violations alloc = (refl, refl, refl, refl)

pub starts : StartsAreAsWorked
unfolding may hidden-the_row-Term-0 shape-the_row-Term-1 hidden-the_row-Term-1 hidden
starts alloc = (refl, refl, refl, refl, refl, refl, refl, refl)

pub faults : FaultsAreAsWorked
unfolding may hidden-the_row-Term-0 shape-the_row-Term-1 hidden-the_row-Term-1 hidden
faults alloc = (refl, refl, refl)
