use Rattle.murphi_types.proofs.Samples.{expressions, designators, calls, quantifiers, constants, types, declarations, locals, repeats, arguments, weights, assignments, bodies, texts, limits, uses, routines, lemmas, protocol}
use Rattle.murphi_types.proofs.laws.worked_cases.Goals as goal

pub returns-clause-expressions : goal.returns-clause-expressions
returns-clause-expressions c = expressions

pub returns-clause-designators : goal.returns-clause-designators
returns-clause-designators c = designators

pub returns-clause-calls : goal.returns-clause-calls
returns-clause-calls c = calls

pub returns-clause-quantifiers : goal.returns-clause-quantifiers
returns-clause-quantifiers c = quantifiers

pub returns-clause-types : goal.returns-clause-types
returns-clause-types c = types

pub returns-clause-constants : goal.returns-clause-constants
returns-clause-constants c = constants

pub returns-clause-declarations : goal.returns-clause-declarations
returns-clause-declarations c = declarations

pub returns-clause-locals : goal.returns-clause-locals
returns-clause-locals c = locals

pub returns-clause-repeats : goal.returns-clause-repeats
returns-clause-repeats c = repeats

pub returns-clause-arguments : goal.returns-clause-arguments
returns-clause-arguments c = arguments

pub returns-clause-weights : goal.returns-clause-weights
returns-clause-weights c = weights

pub returns-clause-assignments : goal.returns-clause-assignments
returns-clause-assignments c = assignments

pub returns-clause-bodies : goal.returns-clause-bodies
returns-clause-bodies c = bodies

pub returns-clause-texts : goal.returns-clause-texts
returns-clause-texts c = texts

pub returns-clause-limits : goal.returns-clause-limits
returns-clause-limits c = limits

pub returns-clause-uses : goal.returns-clause-uses
returns-clause-uses c = uses

pub returns-clause-routines : goal.returns-clause-routines
returns-clause-routines c = routines

pub returns-clause-lemmas : goal.returns-clause-lemmas
returns-clause-lemmas c = lemmas

pub returns-clause-protocol : goal.returns-clause-protocol
returns-clause-protocol c = protocol
