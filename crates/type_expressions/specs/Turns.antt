-- Where loops over the parts of a tree begin.
use Rattle.std.specs.Prelude.{true, [], Some, None}
use Rattle.type_parts.specs.declared.judged.JudgedLinks.{JudgedLinks}
use Rattle.type_parts.specs.declared.judged.JudgedArguments.{JudgedArguments}
use Rattle.type_parts.specs.declared.judged.JudgedFields.{JudgedFields}
use Rattle.type_forms.specs.declared.designators.Walked.{Walked}

abbrev pub nothing_linked : JudgedLinks
nothing_linked = record { typed = true; trees = []; weight = 0; fault = None }

abbrev pub nothing_walked : Walked
nothing_walked = record { trees = []; weight = 0; fault = None }

abbrev pub nothing_given : JudgedArguments
nothing_given = record { typed = true; trees = []; weight = 0; fault = None }

abbrev pub nothing_fielded : JudgedFields
nothing_fielded = record { fields = Some []; fault = None }
