use Rattle.std.proofs.Common.{◌≡◌, drop}
use Rattle.cmp_outside.specs.FilesState.{first_named}
use Rattle.cmp_outside.proofs.mem_files.find.Given as goal

-- no file before the index has the name
abbrev pub invariant-loop-file : goal.invariant-loop-file
invariant-loop-file l =
    first_named l.name (drop l.file-index l.files) ≡ first_named l.fn.name l.fn.files
