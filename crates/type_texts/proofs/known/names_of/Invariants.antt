use Rattle.std.proofs.Common.{◌≡◌, map, take}
use Rattle.type_texts.specs.Lemmas.{entry_among}
use Rattle.type_texts.proofs.known.names_of.Given as goal

abbrev pub invariant-loop-one : goal.invariant-loop-one
invariant-loop-one l = l.out ≡ map (entry_among l.globals) (take l.one-index l.names)
