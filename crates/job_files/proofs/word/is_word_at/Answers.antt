use Rattle.std.proofs.Common.{◌≡◌, ◌+◌, false, true, drop, Some, None, sym, ap, ◌∙◌}
use Rattle.std.specs.Prelude.{slice_get}
use Rattle.murphi_grammar.specs.declared.symbol.Symbol.TheVariants as t
use Rattle.murphi_expressions.proofs.Heads.{drop_some}
use Rattle.job_files.specs.Files.{IsWord}
use Rattle.job_files.proofs.WordArms.{nothing_next, next_is_not, symbol_here, symbol_not, bytes_true, bytes_not}
use Rattle.job_files.proofs.word.is_word_at.Goals as goal

pub returns-then-not-is_at-clause-not : goal.returns-then-not-is_at-clause-not
returns-then-not-is_at-clause-not c =
    let e : slice_get c.args.tokens.now c.args.at ≡ Some c.in-Some.token.now = sym c.in-Some.ensures.value in
    λ h. next_is_not (IsWord c.args.word.now) c.args.tokens.now c.args.at c.in-Some.token.now e
    (λ w. symbol_not t.Name c.args.tokens.now c.args.at c.in-Some.token.now e (sym c.is_at.ensures.is ∙ c.if-not-is_at.true) w.0)

pub returns-in-None-clause-not : goal.returns-in-None-clause-not
returns-in-None-clause-not c =
    let e : slice_get c.args.tokens.now c.args.at ≡ None = sym c.in-None.ensures.value in
    λ h. nothing_next (IsWord c.args.word.now) c.args.tokens.now c.args.at e

pub returns-else-not-is_at-clause-yes : goal.returns-else-not-is_at-clause-yes
returns-else-not-is_at-clause-yes c =
    let e : slice_get c.args.tokens.now c.args.at ≡ Some c.in-Some.token.now = sym c.in-Some.ensures.value in
    λ h. (
      c.in-Some.token.now,
      drop (c.args.at + 1) c.args.tokens.now,
      drop_some c.args.tokens.now c.args.at c.in-Some.token.now e,
      (
        symbol_here t.Name c.args.tokens.now c.args.at c.in-Some.token.now e (sym c.is_at.ensures.is ∙ c.if-not-is_at.false),
        sym c.bytes.ensures ∙ bytes_true _ _ (sym c.eq.ensures ∙ h),
      ),
    )

pub returns-else-not-is_at-clause-not : goal.returns-else-not-is_at-clause-not
returns-else-not-is_at-clause-not c =
    let e : slice_get c.args.tokens.now c.args.at ≡ Some c.in-Some.token.now = sym c.in-Some.ensures.value in
    λ h. next_is_not (IsWord c.args.word.now) c.args.tokens.now c.args.at c.in-Some.token.now e (λ w. bytes_not _ _ (sym c.eq.ensures ∙ h) (c.bytes.ensures ∙ w.1))
