-- What the code finds, as the definitions see it.
use Rattle.murphi_run.specs.declared.place.Spot.{Spot}
use Rattle.murphi_run.specs.Holding.{Block}

abbrev pub seen : Spot → Block
seen s = record { first = s.first; of = s.of.now }
