-- Contexts: where a part stands, with what the text has declared so far.
use Rattle.murphi_types.specs.declared.scope.Known.{Known}
use Rattle.murphi_types.specs.declared.scope.Scope.{Scope}
use Rattle.type_parts.specs.declared.context.Context.{Context}

-- the same place in the text, when more is declared
abbrev pub moved : Context → Known → Context
moved c k = record { scope = c.scope; known = k }

-- another place, when as much is declared
abbrev pub in_scope : Context → Scope → Context
in_scope c s = record { scope = s; known = c.known }
