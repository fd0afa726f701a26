-- Behind a token the reading goes on with one token more; at a fault it ends.
use Rattle.std.proofs.Common.{◌≡◌, ◌<◌, [], ◌∷◌, ◌++◌, length, sym, ◌∙◌, rules}
use Rattle.murphi_lex.specs.Seen.{lexeme_seen}
use Rattle.murphi_lex.proofs.ReadingLemmas.{token_turned, bad_turn, none_turn}
use Rattle.murphi_lex.proofs.scanning.read.Goals as goal

pub loop-rest-preserved : goal.loop-rest-preserved
loop-rest-preserved c =
    let some : 0 < length c.loop-rest.rest.now = search rules in
    let pushed : c.push.new.self.items ≡ c.loop-rest.tokens.items ++ c.in_ok-token_at-in-Taken.field-0 ∷ [] = c.in_ok-push-in-Taken.ensures.items in
    token_turned c.loop-rest.tokens.items c.push.new.self.items c.in_ok-token_at-in-Taken.field-0 c.loop-rest.rest.now c.split_at-in-Taken.result.0.now c.split_at-in-Taken.result.1.now
    c.loop-rest.at c.in_ok-at-in-Taken.at (lexeme_seen c.in-Taken.lexeme) c.in-Taken.lexeme.length _ some c.in-Taken.ensures.within.0 (sym c.in-Taken.ensures.is)
    pushed c.in_ok-token_at-in-Taken.ensures c.split_at-in-Taken.ensures.front c.split_at-in-Taken.ensures.back c.in_ok-at-in-Taken.ensures c.loop-rest.invariant

pub returns-in-BadByte : goal.returns-in-BadByte
returns-in-BadByte c =
    let some : 0 < length c.loop-rest.rest.now = search rules in
    c.faulty.ensures ∙ bad_turn _ c.loop-rest.rest.now _ _ some (sym c.in-BadByte.ensures.is) c.loop-rest.invariant

pub returns-in-NoToken : goal.returns-in-NoToken
returns-in-NoToken c =
    let some : 0 < length c.loop-rest.rest.now = search rules in
    c.faulty-in-NoToken.ensures ∙ none_turn _ c.loop-rest.rest.now _ _ some (sym c.in-NoToken.ensures.is) c.loop-rest.invariant
