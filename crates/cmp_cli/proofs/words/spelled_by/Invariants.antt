use Rattle.std.proofs.Common.{◌≡◌, fold, map, drop}
use Rattle.std.specs.String.{string_bytes}
use Rattle.cmp_cli.specs.declared.words.Reading.TheVariants as reading
use Rattle.cmp_cli.specs.Reading.{next_reading}
use Rattle.cmp_cli.proofs.words.spelled_by.Given as goal

-- what is left gives the whole
abbrev pub invariant-loop-word : goal.invariant-loop-word
invariant-loop-word l =
    fold next_reading l.reading (map string_bytes (drop l.word-index l.words)) ≡ fold next_reading reading.Start (map string_bytes l.fn.words)
