-- What code gives of a lemma, and of what a typed protocol has declared.
use Rattle.std.specs.Prelude.{List, [], length, drop, slice_get}
use Rattle.murphi_ast.specs.declared.token.Span.{Span}
use Rattle.murphi_ast.specs.declared.expr.Expr.{Expr as Written}
use Rattle.murphi_typed.specs.declared.types.Kind.{Kind}
use Rattle.murphi_typed.specs.declared.expr.Expr.{Expr}
use Rattle.murphi_typed.specs.declared.protocol.Declared.{Declared}
use Rattle.murphi_typed.specs.declared.protocol.Entity.{Entity}
use Rattle.murphi_typed.specs.declared.protocol.Entity.TheVariants as entity
use Rattle.murphi_typed.specs.declared.protocol.Variable.{Variable}
use Rattle.murphi_typed.specs.declared.protocol.TypedFormula.{TypedFormula}
use Rattle.murphi_typed.specs.declared.protocol.Typed.{Typed}
use Rattle.murphi_typed.specs.Prefix.{formula_prefix}
use Rattle.murphi_types.specs.declared.scope.Entry.{Entry}
use Rattle.murphi_types.specs.declared.scope.Meaning.{Meaning}
use Rattle.murphi_types.specs.declared.scope.Meaning.TheVariants as meaning
use Rattle.murphi_types.specs.Scopes.{entry}
use Rattle.murphi_types.specs.Fitting.{fits, is_truth}
use Rattle.murphi_types.specs.Uses.{uses_of}
use Rattle.murphi_types.specs.Lemmas.{variable_meaning, known_of, lemma_scope, node_size_name}
use Rattle.type_parts.specs.declared.context.Context.{Context}
use Rattle.type_parts.specs.declared.judged.Judged.{Judged}
use Rattle.type_parts.specs.Judging.{kept}

-- what a global name of a protocol with these globals stands for
abbrev pub meaning_among : List Variable → Entity → Meaning
meaning_among globals (entity.Constant n) = meaning.Constant n
meaning_among globals (entity.TypeName type) = meaning.TypeName type
meaning_among globals (entity.Variable k) = variable_meaning k (slice_get globals k)
meaning_among globals (entity.Member kind index count) = meaning.Member kind index count
meaning_among globals (entity.Routine k) = meaning.Routine k

abbrev pub entry_among : List Variable → Declared → Entry
entry_among globals one = entry one.name (meaning_among globals one.what)

-- a part that has to be a truth value
abbrev pub truth_wanted : Span → Judged → Judged
truth_wanted at j = kept (fits is_truth j.of) at j

-- where a lemma stands
abbrev pub lemma_context : Typed → Context
lemma_context T = record { scope = lemma_scope; known = known_of T }

-- of the kinds of the text and the lemma together those of the lemma
abbrev pub own_kinds : Typed → List Kind → List Kind
own_kinds T kinds = drop (length T.kinds) kinds

-- the typed lemma of this tree with these kinds
abbrev pub formula_with : Typed → Written → Expr → List Kind → TypedFormula
formula_with T written tree kinds =
    record {
      title = [];
      params = [];
      body = tree;
      prefix = formula_prefix T.routines [] tree;
      kinds = kinds;
      uses = uses_of (node_size_name T.node) written;
    }
