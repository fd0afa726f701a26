use Rattle.std.proofs.Common.{◌≡◌, None, Ok, Err, sym, subst}
use Rattle.murphi_expressions.specs.Expression.{first_refused, TellsExpression}
use Rattle.murphi_expressions.specs.declared.refusal.SyntaxRefusal.TheVariants as refusal
use Rattle.murphi_expressions.proofs.Telling.{tells_got, tells_wrong, tells_deep, answers_once}
use Rattle.murphi_expressions.proofs.expression.expression.Goals as goal

pub returns-in-Ok-clause-told : goal.returns-in-Ok-clause-told
returns-in-Ok-clause-told c =
    let none : first_refused c.args.tokens.now ≡ None = cc in
    tells_got c.args.tokens.now c.args.at c.in-Ok.tree c.in-Ok.next c.walks_are_readings.ensures none c.in-Ok.ensures.is c.in-Ok.ensures.goes

pub returns-in-Ok-clause-only : goal.returns-in-Ok-clause-only
returns-in-Ok-clause-only c = λ answer told.
    let none : first_refused c.args.tokens.now ≡ None = cc in
    answers_once c.args.tokens.now c.args.at (Ok (c.in-Ok.tree, c.in-Ok.next)) answer c.one_reading.ensures
    (tells_got c.args.tokens.now c.args.at c.in-Ok.tree c.in-Ok.next c.walks_are_readings.ensures none c.in-Ok.ensures.is c.in-Ok.ensures.goes) told

pub returns-in-Err-Wrong-clause-told : goal.returns-in-Err-Wrong-clause-told
returns-in-Err-Wrong-clause-told c =
    let none : first_refused c.args.tokens.now ≡ None = cc in
    subst (λ z. TellsExpression c.args.tokens.now c.args.at (Err (refusal.E04 z))) (sym c.place_at.ensures)
    (tells_wrong c.args.tokens.now c.args.at c.in-Err-Wrong.i c.requires.text c.requires.within c.walks_are_readings.ensures none (rw c.in-Err-Wrong.field-0-is at c.in-Err-Wrong.ensures.is))

pub returns-in-Err-Wrong-clause-only : goal.returns-in-Err-Wrong-clause-only
returns-in-Err-Wrong-clause-only c = λ answer told.
    let none : first_refused c.args.tokens.now ≡ None = cc in
    answers_once c.args.tokens.now c.args.at (Err (refusal.E04 c.place_at.result)) answer c.one_reading.ensures
    (subst (λ z. TellsExpression c.args.tokens.now c.args.at (Err (refusal.E04 z))) (sym c.place_at.ensures)
    (tells_wrong c.args.tokens.now c.args.at c.in-Err-Wrong.i c.requires.text c.requires.within c.walks_are_readings.ensures none (rw c.in-Err-Wrong.field-0-is at c.in-Err-Wrong.ensures.is))) told

pub returns-in-Err-Deep-clause-told : goal.returns-in-Err-Deep-clause-told
returns-in-Err-Deep-clause-told c =
    let none : first_refused c.args.tokens.now ≡ None = cc in
    subst (λ z. TellsExpression c.args.tokens.now c.args.at (Err (refusal.E15 z))) (sym c.place_at-in-Err-Deep.ensures)
    (tells_deep c.args.tokens.now c.args.at c.in-Err-Deep.i c.walks_are_readings.ensures none (rw c.in-Err-Deep.field-0-is at c.in-Err-Deep.ensures.is))

pub returns-in-Err-Deep-clause-only : goal.returns-in-Err-Deep-clause-only
returns-in-Err-Deep-clause-only c = λ answer told.
    let none : first_refused c.args.tokens.now ≡ None = cc in
    answers_once c.args.tokens.now c.args.at (Err (refusal.E15 c.place_at-in-Err-Deep.result)) answer c.one_reading.ensures
    (subst (λ z. TellsExpression c.args.tokens.now c.args.at (Err (refusal.E15 z))) (sym c.place_at-in-Err-Deep.ensures)
    (tells_deep c.args.tokens.now c.args.at c.in-Err-Deep.i c.walks_are_readings.ensures none (rw c.in-Err-Deep.field-0-is at c.in-Err-Deep.ensures.is))) told
