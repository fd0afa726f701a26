-- What is left of the tokens falls from call to call, and on the same tokens the rank of the function.
use Rattle.std.proofs.Common.{◌+◌, ◌*◌, ◌-◌, ◌≤◌, ◌<◌, length, ℕ}
use Rattle.murphi_expressions.specs.Levels.{LinksSoFar}
use Rattle.murphi_expressions.specs.Parts.{ArgsSoFar, SelectorsSoFar, FieldsSoFar}
use Rattle.murphi_expressions.specs.declared.sign.Level.{Level}
use Rattle.murphi_expressions.specs.declared.sign.Level.TheVariants.{Or, And, Sum, Product}
use Rattle.murphi_expressions.proofs.reader.+reader.Given as goal

abbrev chain_rank : Level → ℕ
chain_rank Or = 41
chain_rank And = 37
chain_rank Sum = 31
chain_rank Product = 27

abbrev operand_rank : Level → ℕ
operand_rank Or = 39
operand_rank And = 35
operand_rank Sum = 29
operand_rank Product = 25

abbrev pub decreases-expr : goal.decreases-expr
decreases-expr l = 64 * (length l.tokens.now - l.at) + 45

abbrev pub decreases-implies : goal.decreases-implies
decreases-implies l = 64 * (length l.tokens.now - l.at) + 43

abbrev pub decreases-chain : goal.decreases-chain
decreases-chain l = 64 * (length l.tokens.now - l.at) + chain_rank l.level

abbrev pub decreases-links : goal.decreases-links
decreases-links l = 64 * (length l.tokens.now - l.at) + 1

abbrev pub decreases-operand : goal.decreases-operand
decreases-operand l = 64 * (length l.tokens.now - l.at) + operand_rank l.level

abbrev pub decreases-compare : goal.decreases-compare
decreases-compare l = 64 * (length l.tokens.now - l.at) + 33

abbrev pub decreases-unary : goal.decreases-unary
decreases-unary l = 64 * (length l.tokens.now - l.at) + 23

abbrev pub decreases-other_unary : goal.decreases-other_unary
decreases-other_unary l = 64 * (length l.tokens.now - l.at) + 22

abbrev pub decreases-name_rest : goal.decreases-name_rest
decreases-name_rest l = 64 * (length l.tokens.now - l.at) + 6

abbrev pub decreases-arguments : goal.decreases-arguments
decreases-arguments l = 64 * (length l.tokens.now - l.at) + 5

abbrev pub decreases-args : goal.decreases-args
decreases-args l = 64 * (length l.tokens.now - l.at) + 46

abbrev pub decreases-place : goal.decreases-place
decreases-place l = 64 * (length l.tokens.now - l.at) + 1

abbrev pub decreases-selectors : goal.decreases-selectors
decreases-selectors l = 64 * (length l.tokens.now - l.at) + 4

abbrev pub decreases-selector : goal.decreases-selector
decreases-selector l = 64 * (length l.tokens.now - l.at) + 3

abbrev pub decreases-other_primary : goal.decreases-other_primary
decreases-other_primary l = 64 * (length l.tokens.now - l.at) + 21

abbrev pub decreases-binder : goal.decreases-binder
decreases-binder l = 64 * (length l.tokens.now - l.at) + 20

abbrev pub decreases-bound : goal.decreases-bound
decreases-bound l = 64 * (length l.tokens.now - l.at) + 3

abbrev pub decreases-bind : goal.decreases-bind
decreases-bind l = 64 * (length l.tokens.now - l.at) + 2

abbrev pub decreases-type_form : goal.decreases-type_form
decreases-type_form l = 64 * (length l.tokens.now - l.at) + 49

abbrev pub decreases-named_type : goal.decreases-named_type
decreases-named_type l = 64 * (length l.tokens.now - l.at) + 48

abbrev pub decreases-range_behind : goal.decreases-range_behind
decreases-range_behind l = 64 * (length l.tokens.now - l.at) + 2

abbrev pub decreases-other_type : goal.decreases-other_type
decreases-other_type l = 64 * (length l.tokens.now - l.at) + 47

abbrev pub decreases-array_type : goal.decreases-array_type
decreases-array_type l = 64 * (length l.tokens.now - l.at) + 46

abbrev pub decreases-fields : goal.decreases-fields
decreases-fields l = 64 * (length l.tokens.now - l.at) + 5

abbrev pub decreases-field : goal.decreases-field
decreases-field l = 64 * (length l.tokens.now - l.at) + 4

abbrev pub decreases-not : goal.decreases-not
decreases-not l = 64 * (length l.tokens.now - l.at) + 34

abbrev pub invariant-links-loop-op : goal.invariant-links-loop-op
invariant-links-loop-op l = record {
  so_far : LinksSoFar l.level l.room l.tokens l.at l.next l.links;
  on : l.at ≤ l.next;
  within : l.next ≤ length l.tokens;
}

abbrev pub decreases-links-loop-op : goal.decreases-links-loop-op
decreases-links-loop-op l = length l.tokens - l.next

abbrev pub invariant-args-loop-alloc : goal.invariant-args-loop-alloc
invariant-args-loop-alloc l = record {
  so_far : ArgsSoFar l.room l.tokens l.at l.next l.args;
  on : l.at < l.next;
  within : l.next ≤ length l.tokens;
}

abbrev pub decreases-args-loop-alloc : goal.decreases-args-loop-alloc
decreases-args-loop-alloc l = length l.tokens - l.next

abbrev pub invariant-selectors-loop-alloc : goal.invariant-selectors-loop-alloc
invariant-selectors-loop-alloc l = record {
  so_far : SelectorsSoFar l.room l.tokens l.at l.next l.selectors;
  on : l.at ≤ l.next;
  within : l.next ≤ length l.tokens;
}

abbrev pub decreases-selectors-loop-alloc : goal.decreases-selectors-loop-alloc
decreases-selectors-loop-alloc l = length l.tokens - l.next

abbrev pub invariant-fields-loop-alloc : goal.invariant-fields-loop-alloc
invariant-fields-loop-alloc l = record {
  so_far : FieldsSoFar l.room l.tokens l.at l.next l.fields;
  on : l.at ≤ l.next;
  within : l.next ≤ length l.tokens;
}

abbrev pub decreases-fields-loop-alloc : goal.decreases-fields-loop-alloc
decreases-fields-loop-alloc l = length l.tokens - l.next
